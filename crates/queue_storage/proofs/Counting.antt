-- Ids of 0 are no ids.
use Rattle.std.proofs.Common.{ℕ, zero, ◌≡◌, ◌==◌, Bool, true, false, cond, not, List, [], ◌∷◌, filter, Option, Some, None, Result, Ok, Err, OnOk, OnErr, Ordering, refl, ap, sym, ◌∙◌}
use Rattle.std.specs.Option.{unwrap_or}
use Rattle.std.specs.Ordering.{nat_cmp, match_ordering, ordering_reverse}
use Rattle.std.specs.declared.cmp.Ordering.TheVariants.{Less, Equal, Greater}
use Rattle.std.proofs.lemmas.Bool.{eqb-true}
use Rattle.std.proofs.lemmas.Cmp.{nat_cmp_total}
use Rattle.std.proofs.lemmas.Option.{none-some}
use Rattle.last_ids.specs.Ids.{seq_of, last_of, put, IsBelow, IsRising}
use Rattle.last_ids.specs.declared.ids.LastId.{LastId}
use Rattle.last_ids.proofs.Placing.{tells}
use Rattle.queue_storage.specs.Ids.{is_counted, counting}

below_absent : (r : ℕ) (xs : List LastId) → IsBelow r xs → seq_of r xs ≡ None
below_absent r [] h = refl
below_absent r (x ∷ xs) h =
    ap (λ b. cond b (Some x.seq) (seq_of r xs)) (tells x.region r Greater (nat_cmp_total.antisymm x.region r ∙ ap ordering_reverse h.0)) ∙ below_absent r xs h.1

-- the last of a region, behind an id that is 0
behind : (r : ℕ) (x : LastId) (xs : List LastId) → x.seq ≡ 0 → IsBelow x.region xs → last_of r xs ≡ last_of r (x ∷ xs)
behind r x xs none below =
    (elim (x.region == r) as (λ (b : Bool). (x.region == r) ≡ b → last_of r xs ≡ unwrap_or (cond b (Some x.seq) (seq_of r xs)) 0) [
      | true ↦ λ t. ap (λ o. unwrap_or o 0) (ap (λ n. seq_of n xs) (sym (eqb-true x.region r t)) ∙ below_absent x.region xs below) ∙ sym none
      | false ↦ λ t. refl
    ]) refl

pub counted_last : (r : ℕ) (xs : List LastId) → IsRising xs → last_of r (counting xs) ≡ last_of r xs
counted_last r [] rising = refl
counted_last r (x ∷ xs) rising =
    (elim (x.seq == 0) as (λ (b : Bool). (x.seq == 0) ≡ b → last_of r (cond (not b) (x ∷ counting xs) (counting xs)) ≡ last_of r (x ∷ xs)) [
      | true ↦ λ t. counted_last r xs rising.1 ∙ behind r x xs (eqb-true x.seq 0 t) rising.0
      | false ↦ λ t. (elim (x.region == r) as (λ (b : Bool). unwrap_or (cond b (Some x.seq) (seq_of r (counting xs))) 0 ≡ unwrap_or (cond b (Some x.seq) (seq_of r xs)) 0) [
        | true ↦ refl
        | false ↦ counted_last r xs rising.1
      ])
    ]) refl

abbrev none_yet : ℕ → LastId
none_yet r = record { region = r; seq = 0 }

absent_here : (r : ℕ) (x : LastId) (xs : List LastId) → seq_of r (x ∷ xs) ≡ None → (x.region == r) ≡ true → ⊥
absent_here r x xs none same = none-some x.seq (sym none ∙ ap (λ b. cond b (Some x.seq) (seq_of r xs)) same)

absent_behind : (r : ℕ) (x : LastId) (xs : List LastId) → seq_of r (x ∷ xs) ≡ None → seq_of r xs ≡ None
absent_behind r x xs none =
    (elim (x.region == r) as (λ (b : Bool). (x.region == r) ≡ b → cond b (Some x.seq) (seq_of r xs) ≡ None → seq_of r xs ≡ None) [
      | true ↦ λ t h. absurd (none-some x.seq (sym h))
      | false ↦ λ t h. h
    ]) refl none

-- a region that has no id gets one of 0
counting_put : (r : ℕ) (xs : List LastId) → seq_of r xs ≡ None → counting (put (none_yet r) xs) ≡ counting xs
counting_put r [] none = refl
counting_put r (x ∷ xs) none =
    (elim (nat_cmp r x.region) as (λ (o : Ordering). nat_cmp r x.region ≡ o → counting (match_ordering o (none_yet r ∷ x ∷ xs) (none_yet r ∷ xs) (x ∷ put (none_yet r) xs)) ≡ counting (x ∷ xs)) [
      | Less ↦ λ h. refl
      | Equal ↦ λ h. absurd (absent_here r x xs none (tells x.region r Equal (nat_cmp_total.antisymm x.region r ∙ ap ordering_reverse h)))
      | Greater ↦ λ h. ap (λ ys. cond (is_counted x) (x ∷ ys) ys) (counting_put r xs (absent_behind r x xs none))
    ]) refl

pub counting_after : {T E : Type 0} (result : Result T E) (r : ℕ) (old new : List LastId) → OnOk result (new ≡ put (none_yet r) old) → OnErr result (new ≡ old) → seq_of r old ≡ None → counting new ≡ counting old
counting_after (Ok t) r old new ok err none = ap counting ok ∙ counting_put r old none
counting_after (Err e) r old new ok err none = ap counting err
