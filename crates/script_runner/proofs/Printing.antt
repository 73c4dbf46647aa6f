-- A script goes on by one command, which is printed.
use Rattle.std.proofs.Common.{◌≡◌, ℕ, ◌+◌, false, List, [], ◌∷◌, ◌++◌, length, drop, refl, sym, ap, ◌∙◌, subst, append_assoc, length-append}
use Rattle.std.proofs.Math.Seq.{drop-append_seam}
use Rattle.std.proofs.lemmas.List.{append-nil}
use Rattle.rep_types.specs.declared.record.Record.{Record}
use Rattle.rep_model.specs.Runs.{state_of}
use Rattle.rep_model.specs.declared.machine.Machine.{Machine}
use Rattle.report_text.specs.Lines.{lines_from}
use Rattle.script_text.specs.declared.command.Command.{Command}
use Rattle.script_text.specs.Due.{Does}
use Rattle.script_lines.specs.Lines.{command_text, lines}
use Rattle.script_lines.specs.Views.{view_text}
use Rattle.script_runner.specs.Underway.{Printed}
use Rattle.script_lines.proofs.Whole.{is_drain, state_of-append, ExpandsFrom-more, lines-new, lines-more, command_text-plain}

-- the records from some place on and the view behind them are the command's lines
pub printed : (c : Command) (old own now : List Record) (made : ℕ) (text next : List ℕ) → is_drain c ≡ false → now ≡ old ++ own → made ≡ length old → next ≡ text ++ (lines_from (made + 1) (drop made now) ++ view_text c (length now) (state_of now)) → next ≡ text ++ command_text c (length old) (state_of old) own
printed c old own now made text next plain grown place h =
    let first = lines_from (length old + 1) own in
    h ∙ ap (λ (n : ℕ). text ++ (lines_from (n + 1) (drop n now) ++ view_text c (length now) (state_of now))) place
    ∙ ap (λ (rs : List Record). text ++ (lines_from (length old + 1) (drop (length old) rs) ++ view_text c (length rs) (state_of rs))) grown
    ∙ ap (λ (rs : List Record). text ++ (lines_from (length old + 1) rs ++ view_text c (length (old ++ own)) (state_of (old ++ own)))) (drop-append_seam old own)
    ∙ ap (λ (n : ℕ). text ++ (first ++ view_text c n (state_of (old ++ own)))) (length-append old own)
    ∙ ap (λ (m : Machine). text ++ (first ++ view_text c (length old + length own) m)) (state_of-append old own)
    ∙ ap (λ (t : List ℕ). text ++ t) (command_text-plain c (length old) (state_of old) own plain)

pub Printed-new : (text : List ℕ) → Printed [] [] text text
Printed-new text = record { expands = refl; output = sym (append-nil text) ∙ ap (λ (t : List ℕ). text ++ t) (sym lines-new) }

pub Printed-more : (cs next : List Command) (c : Command) (old own now : List Record) (start text more : List ℕ) → Printed cs old start text → next ≡ cs ++ c ∷ [] → now ≡ old ++ own → Does c (state_of old) [] own → more ≡ text ++ command_text c (length old) (state_of old) own → Printed next now start more
Printed-more cs next c old own now start text more so_far listed grown does h =
    let whole : Printed (cs ++ c ∷ []) (old ++ own) start more = record {
      expands = ExpandsFrom-more cs old c own so_far.expands does;
      output =
          h ∙ ap (λ (t : List ℕ). t ++ command_text c (length old) (state_of old) own) so_far.output
          ∙ append_assoc start (lines cs old) (command_text c (length old) (state_of old) own)
          ∙ ap (λ (t : List ℕ). start ++ t) (sym (lines-more cs old c own so_far.expands does));
    } in
    subst (λ (xs : List Command). Printed xs now start more) (sym listed) (subst (λ (rs : List Record). Printed (cs ++ c ∷ []) rs start more) (sym grown) whole)
