-- Ranges of keys: which key a region holds, where two regions meet, and what halves and joined regions hold.
use Rattle.std.proofs.Common.{ℕ, ◌≤◌, ◌≡◌, ◌==◌, ◌⊎◌, inl, inr, not, nat_lt, true, false, List, [], ◌∷◌, find, Option, Some, None, refl, ap, sym, ◌∙◌, subst, arith, codes, bytes_eq, Ordering, cond}
use Rattle.std.specs.declared.cmp.Ordering.TheVariants.{Less, Equal, Greater}
use Rattle.std.specs.Ordering.{is_lt, nat_cmp, ordering_reverse, ordering_then}
use Rattle.std.specs.Cmp.Lexicographic.{slice_cmp}
use Rattle.std.proofs.lemmas.Bool.{false≢true, true≢false, and_parts, and_from, not-true, not_from_false, cases_Bool, cases_eq, cond-true, cond-false, lt-ltb, le-ltb, eq-eqb}
use Rattle.std.proofs.lemmas.Bool.Decides.{nat_tests}
use Rattle.std.proofs.lemmas.Cmp.{nat_list_cmp_total}
use Rattle.rep_types.specs.Text.{key_byte}
use Rattle.rep_types.specs.Range.{key_below, is_from, is_below, begins_below}
use Rattle.rep_model.specs.State.{is_region}
use Rattle.rep_model.specs.Regions.{holds, overlap, same_key, is_adjacent}
use Rattle.rep_model.specs.RegionEvents.{low_below, splits, low_half, high_half, joined}
use Rattle.rep_model.specs.declared.machine.Hosted.{Hosted}
use Rattle.rep_model.specs.declared.machine.Region.{Region}
use Rattle.wal_entry.proofs.Texts.{IsText-key}
use Rattle.rep_laws.specs.Ranges.{IsKey, IsBound, IsBounded, first_key, Meet, OneOf, ComesFrom}
use Rattle.rep_laws.proofs.Keys.{less, upto-below, bytes_same, bytes_refl}

-- the order of keys

key_asym : (a b : List ℕ) → key_below a b ≡ true → key_below b a ≡ false
key_asym a b h = ap is_lt (nat_list_cmp_total.antisymm b a ∙ ap ordering_reverse (less (slice_cmp nat_cmp a b) h))

key_irrefl : (a : List ℕ) → key_below a a ≡ false
key_irrefl a = elim (cases_Bool (key_below a a)) [ inl t ↦ key_asym a a t | inr f ↦ f ]

key_trans : (a b c : List ℕ) → key_below a b ≡ true → key_below b c ≡ true → key_below a c ≡ true
key_trans a b c h k = upto-below a b c (key_asym a b h) k

-- a is below b, and c isn't
below-upto : (a b c : List ℕ) → key_below a b ≡ true → key_below c b ≡ false → key_below a c ≡ true
below-upto a b c h n = elim (cases_Bool (key_below a c)) [ inl t ↦ t | inr f ↦ absurd (true≢false (sym (upto-below c a b f h) ∙ n)) ]

-- `.` is the least key

byte_least : (b : ℕ) → key_byte b ≡ true → 46 ≤ b
byte_least b h = grind (arith, nat_tests, h)

first_bytes : (b : ℕ) (bs : List ℕ) → 46 ≤ b → bytes_eq (b ∷ bs) (46 ∷ []) ≡ false → key_below (46 ∷ []) (b ∷ bs) ≡ true
first_bytes b bs le other = elim (cases_eq 46 b) [
  | inl e ↦ (
      let tie : nat_cmp 46 b ≡ Equal = cond-false (nat_lt 46 b) Less (cond (46 == b) Equal Greater) (le-ltb 46 b (let q : b ≤ 46 = omega arith in q)) ∙ cond-true (46 == b) Equal Greater (eq-eqb 46 b e) in
      ap (λ (o : Ordering). is_lt (ordering_then o (slice_cmp nat_cmp [] bs))) tie ∙ more bs (subst (λ x. bytes_eq (x ∷ bs) (46 ∷ []) ≡ false) (sym e) other)
      )
  | inr n ↦ (
      let up : nat_cmp 46 b ≡ Less = cond-true (nat_lt 46 b) Less (cond (46 == b) Equal Greater) (lt-ltb 46 b (omega arith)) in
      ap (λ (o : Ordering). is_lt (ordering_then o (slice_cmp nat_cmp [] bs))) up
      )
]
  where
    more : (xs : List ℕ) → bytes_eq (46 ∷ xs) (46 ∷ []) ≡ false → is_lt (slice_cmp nat_cmp [] xs) ≡ true
    more [] n = absurd (true≢false (sym (bytes_refl (46 ∷ []) (46 ∷ []) refl) ∙ n))
    more (x ∷ xs) n = refl

least_key : (k : List ℕ) → IsKey k → bytes_eq k (codes ".") ≡ false → key_below (codes ".") k ≡ true
least_key [] is other = absurd (let some = (IsText-key [] is).some in omega (arith, some))
least_key (b ∷ bs) is other =
    let t = IsText-key (b ∷ bs) is in
    first_bytes b bs (byte_least b (t.each 0 (omega arith))) other

-- regions that begin below their ends

pub record Ranged (r : Region) : Type 0 where
  pub begins : begins_below r.low r.high ≡ true
  -- none ends at the least key
  pub ends : (k : List ℕ) → r.high ≡ Some k → bytes_eq k (codes ".") ≡ false

-- the lowest key is below the end
first_below : (low high : Option (List ℕ)) → begins_below low high ≡ true → ((k : List ℕ) → high ≡ Some k → bytes_eq k (codes ".") ≡ false) → IsBound high → is_below (first_key low) high ≡ true
first_below low None b e is = refl
first_below None (Some h) b e is = least_key h is (e h refl)
first_below (Some l) (Some h) b e is = b

first_from : (low : Option (List ℕ)) → is_from low (first_key low) ≡ true
first_from None = refl
first_from (Some l) = not_from_false (key_below l l) (key_irrefl l)

first_is : (low : Option (List ℕ)) → IsBound low → IsKey (first_key low)
first_is None is = refl
first_is (Some l) is = is

named : (t : List ℕ) → bytes_eq t t ≡ true
named t = bytes_refl t t refl

pub holds_first : (r : Region) → Ranged r → IsBounded r → holds r.table.name (first_key r.low) r ≡ true
holds_first r o is = and_from _ _ (named r.table.name) (and_from _ _ (first_from r.low) (first_below r.low r.high o.begins o.ends is.high))

-- of two ranges each of which begins below both ends the later low key is held by both
pub record Between (lo hi low high : Option (List ℕ)) : Type 0 where
  pub key : List ℕ
  pub is : IsKey key
  pub first_low : is_from lo key ≡ true
  pub first_high : is_below key hi ≡ true
  pub second_low : is_from low key ≡ true
  pub second_high : is_below key high ≡ true

meeting : (lo hi low high : Option (List ℕ)) → IsBound lo → IsBound low → is_below (first_key lo) hi ≡ true → is_below (first_key low) high ≡ true → begins_below lo high ≡ true → begins_below low hi ≡ true → Between lo hi low high
meeting None hi None high a b f s x y = record { key = codes "."; is = refl; first_low = refl; first_high = f; second_low = refl; second_high = s }
meeting None hi (Some l) high a b f s x y = record { key = l; is = b; first_low = refl; first_high = y; second_low = first_from (Some l); second_high = s }
meeting (Some k) hi None high a b f s x y = record { key = k; is = a; first_low = first_from (Some k); first_high = f; second_low = refl; second_high = x }
meeting (Some k) hi (Some l) high a b f s x y = elim (cases_Bool (key_below k l)) [
  | inl t ↦ record { key = l; is = b; first_low = not_from_false (key_below l k) (key_asym k l t); first_high = y; second_low = first_from (Some l); second_high = s }
  | inr n ↦ record { key = k; is = a; first_low = first_from (Some k); first_high = f; second_low = not_from_false (key_below k l) n; second_high = x }
]

-- two regions that overlap hold one key
pub overlap_meets : (r s : Region) → Ranged r → Ranged s → IsBounded r → IsBounded s → overlap r s ≡ true → Meet r s
overlap_meets r s o q a b h =
    let p = and_parts (bytes_eq r.table.name s.table.name) _ h in
    let e = and_parts (begins_below r.low s.high) (begins_below s.low r.high) p.1 in
    let k = meeting r.low r.high s.low s.high a.low b.low (first_below r.low r.high o.begins o.ends a.high) (first_below s.low s.high q.begins q.ends b.high) e.0 e.1 in
    let same : bytes_eq s.table.name r.table.name ≡ true = bytes_refl s.table.name r.table.name (sym (bytes_same r.table.name s.table.name p.0)) in
    record {
      key = k.key;
      is = k.is;
      first = and_from _ _ (named r.table.name) (and_from _ _ k.first_low k.first_high);
      second = and_from _ _ same (and_from _ _ k.second_low k.second_high);
    }

-- a region that begins below its end overlaps itself
pub overlaps_itself : (r : Region) → begins_below r.low r.high ≡ true → overlap r r ≡ true
overlaps_itself r b = and_from _ _ (named r.table.name) (and_from _ _ b b)

-- below a key that is below an end, and from one on that isn't below a low one

below_end : (k key : List ℕ) (high : Option (List ℕ)) → key_below k key ≡ true → is_below key high ≡ true → is_below k high ≡ true
below_end k key None h e = refl
below_end k key (Some j) h e = key_trans k key j h e

from_low : (low : Option (List ℕ)) (key k : List ℕ) → low_below low key ≡ true → is_from (Some key) k ≡ true → is_from low k ≡ true
from_low None key k h e = refl
from_low (Some l) key k h e = not_from_false (key_below k l) (key_asym l k (below-upto l key k h (not-true (key_below k key) e)))

begins_early : (low : Option (List ℕ)) (key : List ℕ) (high : Option (List ℕ)) → begins_below low (Some key) ≡ true → is_below key high ≡ true → begins_below low high ≡ true
begins_early None key high h e = refl
begins_early (Some l) key high h e = below_end l key high h e

ends_late : (low : Option (List ℕ)) (key : List ℕ) (high : Option (List ℕ)) → low_below low key ≡ true → is_below key high ≡ true → begins_below low high ≡ true
ends_late None key high h e = refl
ends_late (Some l) key high h e = below_end l key high h e

low_begins : (low : Option (List ℕ)) (key : List ℕ) → low_below low key ≡ true → begins_below low (Some key) ≡ true
low_begins None key h = refl
low_begins (Some l) key h = h

-- halves

pub record Splits (key : List ℕ) (r : Region) : Type 0 where
  pub other : bytes_eq key (codes ".") ≡ false
  pub low : low_below r.low key ≡ true
  pub high : is_below key r.high ≡ true

pub splits_so : (key : List ℕ) (r : Region) → splits key r ≡ true → Splits key r
splits_so key r h =
    let p = and_parts (not (bytes_eq key (codes "."))) _ h in
    let q = and_parts (low_below r.low key) (is_below key r.high) p.1 in
    record { other = not-true (bytes_eq key (codes ".")) p.0; low = q.0; high = q.1 }

pub low_ranged : (n : ℕ) (key : List ℕ) (r : Region) → Splits key r → Ranged (low_half n key r)
low_ranged n key r s = record {
  begins = low_begins r.low key s.low;
  ends = λ k e. (let same : key ≡ k = cc in subst (λ (z : List ℕ). bytes_eq z (codes ".") ≡ false) same s.other);
}

pub high_ranged : (n : ℕ) (key : List ℕ) (r : Region) → Splits key r → Ranged r → Ranged (high_half n key r)
high_ranged n key r s o = record { begins = s.high; ends = o.ends }

-- the region stands under its number
pub record Found (regions : List Hosted) (r : Region) : Type 0 where
  pub hosted : Hosted
  pub there : find (is_region r.number) regions ≡ Some hosted
  pub same : hosted.region ≡ r

one_of : (P : Region → Type 0) (regions : List Hosted) (r : Region) (ns : List ℕ) → Found regions r → P r → OneOf P regions (r.number ∷ ns)
one_of P regions r ns f p = inl (f.hosted, f.there, subst P (sym f.same) p)

pub low_comes : (n : ℕ) (key : List ℕ) (r : Region) (regions : List Hosted) → Splits key r → Found regions r → ComesFrom regions (low_half n key r)
low_comes n key r regions s f = record {
  rows = λ t k h. (
      let p = and_parts (bytes_eq r.table.name t) _ h in
      let q = and_parts (is_from r.low k) (is_below k (Some key)) p.1 in
      one_of (λ (g : Region). holds t k g ≡ true) regions r [] f (and_from _ _ p.0 (and_from _ _ q.0 (below_end k key r.high q.1 s.high)))
      );
  overlaps = λ g _ h. (
      let p = and_parts (bytes_eq g.table.name r.table.name) _ h in
      let q = and_parts (begins_below g.low (Some key)) (begins_below r.low g.high) p.1 in
      one_of (λ (x : Region). overlap g x ≡ true) regions r [] f (and_from _ _ p.0 (and_from _ _ (begins_early g.low key r.high q.0 s.high) q.1))
      );
}

pub high_comes : (n : ℕ) (key : List ℕ) (r : Region) (regions : List Hosted) → Splits key r → Found regions r → ComesFrom regions (high_half n key r)
high_comes n key r regions s f = record {
  rows = λ t k h. (
      let p = and_parts (bytes_eq r.table.name t) _ h in
      let q = and_parts (is_from (Some key) k) (is_below k r.high) p.1 in
      one_of (λ (g : Region). holds t k g ≡ true) regions r [] f (and_from _ _ p.0 (and_from _ _ (from_low r.low key k s.low q.0) q.1))
      );
  overlaps = λ g _ h. (
      let p = and_parts (bytes_eq g.table.name r.table.name) _ h in
      let q = and_parts (begins_below g.low r.high) (begins_below (Some key) g.high) p.1 in
      one_of (λ (x : Region). overlap g x ≡ true) regions r [] f (and_from _ _ p.0 (and_from _ _ q.0 (ends_late r.low key g.high s.low q.1)))
      );
}

-- two that meet at a key

pub record Adjoins (r s : Region) : Type 0 where
  pub name : r.table.name ≡ s.table.name
  pub key : List ℕ
  pub high : r.high ≡ Some key
  pub low : s.low ≡ Some key

same_keys : (a b : Option (List ℕ)) → same_key a b ≡ true → (k : List ℕ) × (a ≡ Some k) × (b ≡ Some k)
same_keys None None h = absurd (false≢true h)
same_keys None (Some b) h = absurd (false≢true h)
same_keys (Some a) None h = absurd (false≢true h)
same_keys (Some a) (Some b) h = (a, refl, ap (λ (k : List ℕ). Some k) (sym (bytes_same a b h)))

pub adjoins_so : (r s : Region) → is_adjacent r s ≡ true → Adjoins r s
adjoins_so r s h =
    let p = and_parts (bytes_eq r.table.name s.table.name) (same_key r.high s.low) h in
    let k = same_keys r.high s.low p.1 in
    record { name = bytes_same r.table.name s.table.name p.0; key = k.0; high = k.1; low = k.2 }

joined_begins : (low high : Option (List ℕ)) (key : List ℕ) → begins_below low (Some key) ≡ true → begins_below (Some key) high ≡ true → begins_below low high ≡ true
joined_begins None high key a b = refl
joined_begins (Some l) high key a b = below_end l key high a b

pub joined_ranged : (n : ℕ) (r s : Region) → Adjoins r s → Ranged r → Ranged s → Ranged (joined n r s)
joined_ranged n r s j o q = record {
  begins = joined_begins r.low s.high j.key (subst (λ (h : Option (List ℕ)). begins_below r.low h ≡ true) j.high o.begins) (subst (λ (l : Option (List ℕ)). begins_below l s.high ≡ true) j.low q.begins);
  ends = q.ends;
}

-- what begins below an end overlaps one of the parts
begins_either : (low high : Option (List ℕ)) (key : List ℕ) → begins_below low high ≡ true → (begins_below low (Some key) ≡ true) ⊎ (begins_below (Some key) high ≡ true)
begins_either None high key h = inl refl
begins_either (Some l) None key h = inr refl
begins_either (Some l) (Some k) key h = elim (cases_Bool (key_below l key)) [ inl t ↦ inl t | inr n ↦ inr (upto-below key l k n h) ]

pub joined_comes : (n : ℕ) (r s : Region) (regions : List Hosted) → Adjoins r s → Found regions r → Found regions s → ComesFrom regions (joined n r s)
joined_comes n r s regions j f g = record {
  rows = λ t k h. (
      let p = and_parts (bytes_eq r.table.name t) _ h in
      let q = and_parts (is_from r.low k) (is_below k s.high) p.1 in
      elim (cases_Bool (key_below k j.key)) [
        | inl b ↦ one_of (λ (x : Region). holds t k x ≡ true) regions r (s.number ∷ []) f (and_from _ _ p.0 (and_from _ _ q.0 (subst (λ (e : Option (List ℕ)). is_below k e ≡ true) (sym j.high) b)))
        | inr b ↦ inr (one_of (λ (x : Region). holds t k x ≡ true) regions s [] g
            (and_from _ _ (subst (λ (z : List ℕ). bytes_eq z t ≡ true) j.name p.0) (and_from _ _ (subst (λ (e : Option (List ℕ)). is_from e k ≡ true) (sym j.low) (not_from_false (key_below k j.key) b)) q.1)))
      ]
      );
  overlaps = λ x some h. (
      let p = and_parts (bytes_eq x.table.name r.table.name) _ h in
      let q = and_parts (begins_below x.low s.high) (begins_below r.low x.high) p.1 in
      elim (begins_either x.low x.high j.key some) [
        | inl b ↦ one_of (λ (y : Region). overlap x y ≡ true) regions r (s.number ∷ []) f (and_from _ _ p.0 (and_from _ _ (subst (λ (e : Option (List ℕ)). begins_below x.low e ≡ true) (sym j.high) b) q.1))
        | inr b ↦ inr (one_of (λ (y : Region). overlap x y ≡ true) regions s [] g
            (and_from _ _ (subst (λ (z : List ℕ). bytes_eq x.table.name z ≡ true) j.name p.0) (and_from _ _ q.0 (subst (λ (e : Option (List ℕ)). begins_below e x.high ≡ true) (sym j.low) b))))
      ]
      );
}

-- a region without parents, or one whose rows were its parents'
abbrev pub Inherits : List Hosted → Region → Type 0
Inherits regions r = (r.parents ≡ []) ⊎ ComesFrom regions r

one_still : (P : Region → Type 0) (regions more : List Hosted) → ((n : ℕ) (h : Hosted) → find (is_region n) regions ≡ Some h → (g : Hosted) × (find (is_region n) more ≡ Some g) × (g.region ≡ h.region)) → (ns : List ℕ) → OneOf P regions ns → OneOf P more ns
one_still P regions more still [] o = absurd o
one_still P regions more still (n ∷ ns) o = elim o [
  | inl h ↦ (let g = still n h.0 h.1 in inl (g.0, g.1, subst P (sym g.2) h.2))
  | inr r ↦ inr (one_still P regions more still ns r)
]

-- what is found by its number still has its region
pub inherits_still : (regions more : List Hosted) → ((n : ℕ) (h : Hosted) → find (is_region n) regions ≡ Some h → (g : Hosted) × (find (is_region n) more ≡ Some g) × (g.region ≡ h.region)) → (r : Region) → Inherits regions r → Inherits more r
inherits_still regions more still r i = elim i [
  | inl e ↦ inl e
  | inr c ↦ inr (record {
    rows = λ t k h. one_still (λ (p : Region). holds t k p ≡ true) regions more still r.parents (c.rows t k h);
    overlaps = λ q some h. one_still (λ (p : Region). overlap q p ≡ true) regions more still r.parents (c.overlaps q some h);
  })
]
