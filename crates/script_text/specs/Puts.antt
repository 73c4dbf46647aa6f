-- What the words of a put mean.
use Rattle.std.specs.Prelude.{ℕ, List, ◌∷◌, map, Some, Result, Ok, Err, if◌then◌else◌}
use Rattle.rep_types.specs.declared.ids.Cluster.{Cluster}
use Rattle.rep_types.specs.declared.event.Event.TheVariants as event
use Rattle.script_text.specs.declared.command.Command.TheVariants as command
use Rattle.script_text.specs.declared.line.Made.{Made}
use Rattle.script_text.specs.declared.rule.Rule.{Rule}
use Rattle.script_text.specs.declared.rule.Rule.TheVariants as rule
use Rattle.script_text.specs.Cells.{cell_of, drafts_word, used_with}
use Rattle.script_text.specs.Forms.{cluster_word, name_word, key_word}
use Rattle.script_text.specs.Steps.{◌>>=◌}
use Rattle.script_text.specs.Words.{has_word}

-- three words, and at least one of a cell
unfoldable pub put_words : List (List ℕ) → Result (List ℕ × List ℕ × List ℕ × List (List ℕ)) Rule
put_words (c ∷ x ∷ y ∷ cells) = if has_word cells then Ok (c, x, y, cells) else Err rule.Words
put_words _ = Err rule.Words

unfoldable pub cluster_and_cells : List (List ℕ) → Result (Cluster × List ℕ × List ℕ × List (List ℕ)) Rule
cluster_and_cells args = put_words args >>= λ (c, x, y, cells). cluster_word c >>= λ cluster. Ok (cluster, x, y, cells)

-- a put, where the repeated values before it stand for so many bytes
unfoldable pub put : ℕ → List (List ℕ) → Result Made Rule
put repeated args =
    cluster_and_cells args >>= λ (c, x, y, cells).
    name_word x >>= λ t. key_word y >>= λ row. drafts_word cells >>= λ drafts. used_with repeated drafts >>= λ total.
    Ok (record { command = Some (command.Single (event.Put c t row (map cell_of drafts))); repeated = total })
