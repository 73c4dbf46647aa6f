-- The range that a binary search found.
use Rattle.std.proofs.Common.{◌≡◌, ◌≤◌, ◌<◌, ◌+◌, ◌-◌, ℕ, List, length, get_or, nat_eq, Option, Some, None, IfSome, IsTrue, ◌↔◌, refl, subst, arith}
use Rattle.std.specs.Prelude.{slice_get}
use Rattle.std.specs.Option.{option_or}
use Rattle.std.specs.List.Sorted.{IsPartitionPoint}
use Rattle.std.proofs.lemmas.Bool.Decides.{nat_tests}
use Rattle.std.proofs.lemmas.Option.{slice_get-get_or, get_or_from_slice_get, slice_get_within}
use Rattle.region_barriers.specs.History.{History, IsRangeOf}

is_one : (n : ℕ) → (n ≡ 0 → ⊥) → IsTrue (nat_eq n 1) ↔ (n - 1 ≡ 0)
is_one n some = (λ one. let e : n ≡ 1 = grind (arith, nat_tests) in omega arith, λ least. let e : n ≡ 1 = omega arith in rw e refl)

next_above : (xs : List ℕ) (seq n : ℕ) (next : Option ℕ) → slice_get xs n ≡ next → IsPartitionPoint (λ b. b ≤ seq) (λ b. seq < b) xs n → IfSome next (λ b. seq < b)
next_above xs seq n None e point = tt
next_above xs seq n (Some b) e point =
    subst (λ x. seq < x) (get_or_from_slice_get xs n b 0 e) (point.1 n 0 (omega arith) (slice_get_within xs n b e))

pub range_found : (h : History) (seq n : ℕ) → (n ≡ 0 → ⊥) → n ≤ length h.barriers → IsPartitionPoint (λ b. b ≤ seq) (λ b. seq < b) h.barriers n → IsRangeOf h seq (record { first = nat_eq n 1; barrier = get_or h.barriers (n - 1) 0; end = option_or (slice_get h.barriers n) h.final_barrier })
range_found h seq n some within point =
    let same : (n - 1) + 1 ≡ n = omega arith in
    record {
      place = n - 1;
      begins = slice_get-get_or h.barriers (n - 1) 0 (omega arith);
      reached = point.0 (n - 1) 0 (omega arith) (omega arith);
      last_reached = rw same (next_above h.barriers seq n _ refl point);
      first = is_one n some;
      end = rw same refl;
    }
