use Rattle.std.proofs.Common.{rules, ◌≡◌, ℕ, ◌+◌, List, [], ◌∷◌, replicate, sym, subst, refl}
use Rattle.log_tail.specs.Knowing.{first_pen, Kept}
use Rattle.log_tail.proofs.Steps.{begins}
use Rattle.log_tail.proofs.table.LogTail.new.Goals as goal

pub of_words-requires : goal.of_words-requires
of_words-requires c = let zero_words : c.as_slice.result.now ≡ replicate {A = ℕ} (c.args.capacity + 2) 0 = search rules in
    subst (λ (ws : List ℕ). Kept c.args.capacity ws (first_pen c.args.capacity ∷ [])) (sym zero_words) (begins c.args.capacity (c.args.capacity + 2) refl)
