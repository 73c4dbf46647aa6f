-- The barriers that an id has passed, by its range.
use Rattle.std.proofs.Common.{◌≡◌, ℕ, zero, suc, ◌+◌, ◌<◌, ◌≤◌, true, false, List, [], ◌∷◌, length, take, get_or, refl, sym, ap, ◌∙◌, arith}
use Rattle.std.specs.Prelude.{slice_get, nat_le, All, Some, IfSome}
use Rattle.std.specs.List.Sorted.{IsNonDecreasing}
use Rattle.std.proofs.lemmas.Bool.{true≢false}
use Rattle.std.proofs.lemmas.Bool.Decides.{nat_tests}
use Rattle.std.proofs.lemmas.Option.{none-some, same_Some, get_or_from_slice_get, slice_get_within}
use Rattle.rep_types.specs.declared.entry.Entry.{Entry}
use Rattle.rep_types.specs.declared.ids.Cluster.{Cluster}
use Rattle.region_barriers.specs.History.{History, IsRangeOf}
use Rattle.region_barriers.specs.declared.barriers.Range.{Range}
use Rattle.serial_gate.specs.declared.gate.Admission.TheVariants.{Go}
use Rattle.serial_gate.specs.Regions.{barriers_of}
use Rattle.serial_gate.specs.Gate.{late_parent, late_self, latest, passed, late, unless_late, gate}

later_order : (x : ℕ) (xs : List ℕ) → IsNonDecreasing (x ∷ xs) → IsNonDecreasing xs
later_order x xs order = λ i j d le lt. order (suc i) (suc j) d (omega arith) (omega arith)

none_passed : (seq : ℕ) (xs : List ℕ) → ((k : ℕ) → k < length xs → seq < get_or xs k 0) → passed seq xs ≡ []
none_passed seq [] above = refl
none_passed seq (x ∷ xs) above =
    let first = above 0 (omega arith) in
    let over : nat_le x seq ≡ false = grind (arith, nat_tests, first) in
    rw over (none_passed seq xs (λ k lt. above (suc k) (omega arith)))

all_above : (seq : ℕ) (xs : List ℕ) → IsNonDecreasing xs → IfSome (slice_get xs 0) (λ next. seq < next) → (k : ℕ) → k < length xs → seq < get_or xs k 0
all_above seq [] order next k lt = absurd (omega arith)
all_above seq (y ∷ ys) order next zero lt = next
all_above seq (y ∷ ys) order next (suc k) lt = omega (arith, next, order 0 (suc k) 0 (omega arith) lt)

-- an id has passed the barriers up to that of its range
range_passed : (seq p b : ℕ) (xs : List ℕ) → IsNonDecreasing xs → slice_get xs p ≡ Some b → b ≤ seq → IfSome (slice_get xs (suc p)) (λ next. seq < next)
    → passed seq xs ≡ take (suc p) xs
range_passed seq p b [] order found low next = absurd (none-some b found)
range_passed seq zero b (x ∷ xs) order found low next =
    let here : x ≡ b = same_Some x b found in
    let within : nat_le x seq ≡ true = grind (arith, nat_tests, here, low) in
    rw within (ap (λ (t : List ℕ). x ∷ t) (none_passed seq xs (all_above seq xs (later_order x xs order) next)))
range_passed seq (suc p) b (x ∷ xs) order found low next =
    let there : get_or xs p 0 ≡ b = get_or_from_slice_get xs p b 0 found in
    let long = slice_get_within xs p b found in
    let least : x ≤ get_or xs p 0 = order 0 (suc p) 0 (omega arith) (omega (arith, long)) in
    let within : nat_le x seq ≡ true = grind (arith, nat_tests, there, least, low) in
    rw within (ap (λ (t : List ℕ). x ∷ t) (range_passed seq p b xs (later_order x xs order) found low next))

-- the last of first barriers
ends_with : (p b x : ℕ) (xs : List ℕ) → slice_get (x ∷ xs) p ≡ Some b → latest x (take p xs) ≡ b
ends_with zero b x xs found = same_Some x b found
ends_with (suc p) b x [] found = absurd (none-some b found)
ends_with (suc p) b x (y ∷ ys) found = ends_with p b y ys found

-- where the range is the first, one barrier was passed
first_late : (c : Cluster) (come : ℕ → ℕ) (r b : ℕ) (h : History) (xs : List ℕ) → slice_get xs 0 ≡ Some b → late c come r h.parents (take 1 xs) ≡ late_parent c come h.parents
first_late c come r b h [] found = absurd (none-some b found)
first_late c come r b h (x ∷ xs) found = refl

later_late : (c : Cluster) (come : ℕ → ℕ) (r p b : ℕ) (h : History) (xs : List ℕ) → slice_get xs (suc p) ≡ Some b → late c come r h.parents (take (suc (suc p)) xs) ≡ late_self c come r b
later_late c come r p b h [] found = absurd (none-some b found)
later_late c come r p b h (x ∷ []) found = absurd (none-some b found)
later_late c come r p b h (x ∷ y ∷ ys) found = ap (late_self c come r) (ends_with p b y ys found)

-- of the range's place: where it is the first, and where it is a later one
by_place : (c : Cluster) (come : ℕ → ℕ) (r seq p b : ℕ) (h : History) → IsNonDecreasing h.barriers → slice_get h.barriers p ≡ Some b → b ≤ seq → IfSome (slice_get h.barriers (suc p)) (λ next. seq < next)
    → (p ≡ 0 → late c come r h.parents (passed seq h.barriers) ≡ late_parent c come h.parents) × ((p ≡ 0 → ⊥) → late c come r h.parents (passed seq h.barriers) ≡ late_self c come r b)
by_place c come r seq zero b h order found low next =
    (λ first. rw (range_passed seq 0 b h.barriers order found low next) (first_late c come r b h h.barriers found), λ later. absurd (later refl))
by_place c come r seq (suc p) b h order found low next =
    (λ first. absurd (omega (arith, first)), λ later. rw (range_passed seq (suc p) b h.barriers order found low next) (later_late c come r p b h h.barriers found))

next_is : (xs : List ℕ) (seq p : ℕ) → IfSome (slice_get xs (p + 1)) (λ next. seq < next) → IfSome (slice_get xs (suc p)) (λ next. seq < next)
next_is xs seq p h = let same : p + 1 ≡ suc p = omega arith in rw same at h

-- ---- the gate's answer

pub gate_first : (c : Cluster) (map : List History) (come : ℕ → ℕ) (e : Entry) (h : History) (range : Range) → barriers_of e.region map ≡ Some h → IsNonDecreasing h.barriers → IsRangeOf h e.seq range
    → range.first ≡ true → unless_late (late_parent c come h.parents) ≡ gate c map come e
gate_first c map come e h range known order is first =
    let both = by_place c come e.region e.seq is.place range.barrier h order is.begins is.reached (next_is h.barriers e.seq is.place is.last_reached) in
    rw (known, both.0 (is.first.0 first)) refl

pub gate_later : (c : Cluster) (map : List History) (come : ℕ → ℕ) (e : Entry) (h : History) (range : Range) → barriers_of e.region map ≡ Some h → IsNonDecreasing h.barriers → IsRangeOf h e.seq range
    → range.first ≡ false → unless_late (late_self c come e.region range.barrier) ≡ gate c map come e
gate_later c map come e h range known order is later =
    let both = by_place c come e.region e.seq is.place range.barrier h order is.begins is.reached (next_is h.barriers e.seq is.place is.last_reached) in
    rw (known, both.1 (λ zero. true≢false (sym (is.first.1 zero) ∙ later))) refl

pub gate_before : (c : Cluster) (map : List History) (come : ℕ → ℕ) (e : Entry) (h : History) → barriers_of e.region map ≡ Some h → All (λ barrier. e.seq < barrier) h.barriers
    → Go ≡ gate c map come e
gate_before c map come e h known above =
    rw (known, none_passed e.seq h.barriers (λ k lt. above k 0 lt)) refl
