-- The tickets that an event ended, one more place at a time.
use Rattle.std.proofs.Common.{◌≡◌, ℕ, ◌+◌, ◌<◌, ◌≤◌, ◌&&◌, not, Bool, true, false, cond, List, [], ◌∷◌, ◌++◌, length, drop, refl, ap, sym, ◌∙◌, arith, add-one, append_assoc, drop-cons, get_or, min}
use Rattle.std.proofs.lemmas.Grind.{common_steps}
use Rattle.rep_model.specs.declared.machine.Ticket.{Ticket}
use Rattle.rep_model.specs.declared.machine.Told.{Told}
use Rattle.rep_model.specs.Tickets.{newly}

-- both lists go on: the items at the place decide
newly-step : (test : Told → Bool) (k at : ℕ) (olds news : List Ticket) (d e : Ticket) → at < length olds → at < length news →
    newly test k (drop at olds) (drop at news) ≡ cond (test (get_or news at e).told && not (test (get_or olds at d).told)) (k ∷ newly test (k + 1) (drop (at + 1) olds) (drop (at + 1) news)) (newly test (k + 1) (drop (at + 1) olds) (drop (at + 1) news))
newly-step test k at olds news d e h g =
    rw (add-one at, drop-cons olds at d, drop-cons news at e) refl

-- what was found so far goes on by one place
pub newly-goes-on : (test : Told → Bool) (k at : ℕ) (olds news : List Ticket) (d e : Ticket) (b : Bool) (acks more whole : List ℕ) → at < length olds → at < length news →
    b ≡ (test (get_or news at e).told && not (test (get_or olds at d).told)) → more ≡ cond b (acks ++ k ∷ []) acks →
    acks ++ newly test k (drop at olds) (drop at news) ≡ whole → more ++ newly test (k + 1) (drop (at + 1) olds) (drop (at + 1) news) ≡ whole
newly-goes-on test k at olds news d e b acks more whole h g is m so_far =
    let rest = newly test (k + 1) (drop (at + 1) olds) (drop (at + 1) news) in
    let step : newly test k (drop at olds) (drop at news) ≡ cond b (k ∷ rest) rest = newly-step test k at olds news d e h g ∙ ap (λ t. cond t (k ∷ rest) rest) (sym is) in
    (elim b as (λ (t : Bool). more ≡ cond t (acks ++ k ∷ []) acks → newly test k (drop at olds) (drop at news) ≡ cond t (k ∷ rest) rest → more ++ rest ≡ whole) [
      | true ↦ λ m s. ap (λ xs. xs ++ rest) m ∙ append_assoc acks (k ∷ []) rest ∙ ap (λ xs. acks ++ xs) (sym s) ∙ so_far
      | false ↦ λ m s. ap (λ xs. xs ++ rest) m ∙ ap (λ xs. acks ++ xs) (sym s) ∙ so_far
    ]) m step

-- one of them is at its end
newly-past : (test : Told → Bool) (k : ℕ) (olds news : List Ticket) → min (length olds) (length news) ≡ 0 → newly test k olds news ≡ []
newly-past test k [] news h = refl
newly-past test k (o ∷ os) [] h = refl
newly-past test k (o ∷ os) (n ∷ ns) h = absurd (omega arith)

pub newly-end : (test : Told → Bool) (k at : ℕ) (olds news : List Ticket) → min (length olds) (length news) ≤ at → newly test k (drop at olds) (drop at news) ≡ []
newly-end test k at olds news h = newly-past test k (drop at olds) (drop at news) (grind (arith, common_steps))
