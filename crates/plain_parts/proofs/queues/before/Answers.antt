use Rattle.std.proofs.Common.{◌≡◌, ℕ, ◌+◌, Bool, true, false, not, cond, List, [], ◌∷◌, length, take, refl, ap, sym, ◌∙◌, arith}
use Rattle.std.specs.List.{position_or_len}
use Rattle.std.proofs.lemmas.Grind.{common_steps}
use Rattle.std.proofs.lemmas.List.{take_all}
use Rattle.rep_model.specs.Commits.{same_entry}
use Rattle.rep_model.specs.Queues.{before}
use Rattle.rep_model.specs.declared.machine.Commit.{Commit}
use Rattle.rep_model.proofs.Replacing.{at_place, no_place}
use Rattle.plain_parts.proofs.queues.before.Goals as goal

take-next : (x : Commit) (xs : List Commit) (k : ℕ) → take (1 + k) (x ∷ xs) ≡ x ∷ take k xs
take-next x xs k = grind (arith, common_steps)

before-take : (x : Commit) (ys : List Commit) → before x ys ≡ take (position_or_len (same_entry x) ys) ys
before-take x [] = refl
before-take x (y ∷ ys) =
    elim (same_entry x y) as (λ (t : Bool). cond t [] (y ∷ before x ys) ≡ take (cond (not t) (1 + position_or_len (same_entry x) ys) 0) (y ∷ ys)) [
      | true ↦ refl
      | false ↦ ap (λ (zs : List Commit). y ∷ zs) (before-take x ys) ∙ sym (take-next y ys (position_or_len (same_entry x) ys))
    ]

pub returns-in-Some : goal.returns-in-Some
returns-in-Some c =
    let x = c.args.entry.now in
    let ys = c.args.commits.now in
    let is = at_place (position_or_len (same_entry x) ys) (length ys) c.in-Some.at (sym c.in-Some.ensures.first) in
    ap (λ (k : ℕ). take k ys) is.0 ∙ sym (before-take x ys)

pub returns-in-None : goal.returns-in-None
returns-in-None c =
    let x = c.args.entry.now in
    let ys = c.args.commits.now in
    let k = position_or_len (same_entry x) ys in
    sym (before-take x ys ∙ take_all k ys (no_place k (length ys) (sym c.in-None.ensures.first)))
