-- What a split and a merge find, and what they leave, in the terms of their calls.
use Rattle.std.proofs.Common.{◌≡◌, ℕ, ◌+◌, ◌-◌, ◌<◌, ◌≤◌, Bool, true, List, [], ◌∷◌, ◌++◌, length, Some, None, refl, ap, sym, ◌∙◌, subst, slice_get, set, arith, map, position, find}
use Rattle.std.specs.Prelude.{is_some}
use Rattle.std.proofs.lemmas.Bool.{true≢false}
use Rattle.std.proofs.lemmas.List.{map-append, length-map}
use Rattle.std.proofs.lemmas.Option.{same_Some, slice_get_within}
use Rattle.rep_types.specs.declared.table.Family.{Family}
use Rattle.rep_types.specs.declared.state.PlaceOf.TheVariants as place
use Rattle.region_meta.specs.declared.region.Region.{Region}
use Rattle.region_meta.specs.Regions.{Table, is_named, is_region, is_off}
use Rattle.region_meta.specs.Refusals.{split_refusal, merge_refusal, splits, is_adjacent}
use Rattle.region_meta.specs.Changes.{moved, new_table, first_region, low_half, high_half, joined}
use Rattle.region_meta.specs.Orders.{shape, IsKept, put_halves, put_other, leave_out}
use Rattle.region_meta.proofs.Shapes.{numbered-regions, region-at, shape-at}
use Rattle.region_meta.proofs.Lookups.{position-at, Passes}
use Rattle.region_meta.proofs.Refused.{MaySplit, may-split, MayMerge, may-merge, MayAdd}
use Rattle.region_meta.proofs.Kept.{added-kept}
use Rattle.region_meta.proofs.Tables.{not-placed}
use Rattle.region_meta.proofs.Grown.{some-at, split-kept, merge-kept}

-- the region of a number is the one at its place
pub found-there : (tables : List Table) (rs : List Region) (orders : List (List ℕ)) (n number : ℕ) → IsKept tables (map shape rs) orders → number ≡ n → 1 ≤ number → find (is_region n) rs ≡ slice_get rs (number - 1)
found-there tables rs orders n number kept same least =
    subst (λ k. find (is_region k) rs ≡ slice_get rs (number - 1)) same (region-at rs (numbered-regions rs kept.numbered) number least)

-- the table of a region is there
pub table-there : (tables : List Table) (rs : List Region) (orders : List (List ℕ)) (i : ℕ) (r : Region) → IsKept tables (map shape rs) orders → slice_get rs i ≡ Some r → None ≡ position (is_named r.table) tables → ⊥
table-there tables rs orders i r kept e absent = true≢false (sym (kept.known i (shape r) (shape-at rs i r e)) ∙ ap is_some (sym absent))

-- and so is its order
pub order-there : (tables : List Table) (rs : List Region) (orders : List (List ℕ)) (t : List ℕ) (at : ℕ) → IsKept tables (map shape rs) orders → Some at ≡ position (is_named t) tables → (ns : List ℕ) × (slice_get orders at ≡ Some ns)
order-there tables rs orders t at kept there =
    let p : Passes (is_named t) tables at = position-at (is_named t) tables at (sym there) in
    some-at orders at (subst (λ m. at < m) (sym kept.paired) (slice_get_within tables at p.0 p.1))

pub halves-made : (tables : List Table) (rs made : List Region) (orders made_orders : List (List ℕ)) (n number at count a b : ℕ) (key : List ℕ) (closed : Bool) (r lo hi : Region)
    → IsKept tables (map shape rs) orders → split_refusal n key closed (record { tables = tables; regions = rs }) ≡ None → number ≡ n → 1 ≤ number
    → Some r ≡ slice_get rs (number - 1) → Some at ≡ position (is_named r.table) tables → count ≡ length rs → a ≡ count + 1 → b ≡ count + 2
    → lo ≡ low_half a key r → hi ≡ high_half b key r
    → ((r : Region) → slice_get rs (number - 1) ≡ Some r → made ≡ set rs (number - 1) (moved place.Gone r) ++ lo ∷ hi ∷ [])
    → ((ns : List ℕ) → slice_get orders at ≡ Some ns → made_orders ≡ set orders at (put_halves (number - 1) (length rs) ns))
    → (made ≡ set rs (number - 1) (moved place.Gone r) ++ low_half (length rs + 1) key r ∷ high_half (length rs + 1 + 1) key r ∷ []) × IsKept tables (map shape made) made_orders
halves-made tables rs made orders made_orders n number at count a b key closed r lo hi kept allowed same least there table count_is a_is b_is lo_is hi_is regions_are orders_are = (
  made_is,
  subst (λ (xs : List Region). IsKept tables (map shape xs) made_orders) (sym made_is)
      (subst (λ (os : List (List ℕ)). IsKept tables (map shape (set rs (number - 1) (moved place.Gone r) ++ low_half (length rs + 1) key r ∷ high_half (length rs + 1 + 1) key r ∷ [])) os) (sym (orders_are ns.0 ns.1))
      (split-kept tables rs orders (number - 1) at r ns.0 key kept (sym there) (sym table) ns.1
      (subst (λ (x : Region). is_off x.place ≡ true) is may.off) (subst (λ (x : Region). splits key x ≡ true) is may.key_splits) may.room)),
)
  where
    may : MaySplit n key (record { tables = tables; regions = rs })
    may = may-split n key closed (record { tables = tables; regions = rs }) allowed

    is : may.r ≡ r
    is = same_Some may.r r (sym may.there ∙ (found-there tables rs orders n number kept same least ∙ sym there))

    ns : (ns : List ℕ) × (slice_get orders at ≡ Some ns)
    ns = order-there tables rs orders r.table at kept table

    low_is : lo ≡ low_half (length rs + 1) key r
    low_is = lo_is ∙ ap (λ k. low_half k key r) (let c : count ≡ length rs = count_is in let e : a ≡ count + 1 = a_is in omega arith)

    high_is : hi ≡ high_half (length rs + 1 + 1) key r
    high_is = hi_is ∙ ap (λ k. high_half k key r) (let c : count ≡ length rs = count_is in let e : b ≡ count + 2 = b_is in omega arith)

    made_is : made ≡ set rs (number - 1) (moved place.Gone r) ++ low_half (length rs + 1) key r ∷ high_half (length rs + 1 + 1) key r ∷ []
    made_is = regions_are r (sym there)
        ∙ (ap (λ (x : Region). set rs (number - 1) (moved place.Gone r) ++ x ∷ hi ∷ []) low_is
        ∙ ap (λ (x : Region). set rs (number - 1) (moved place.Gone r) ++ low_half (length rs + 1) key r ∷ x ∷ []) high_is)

-- what stands where a merge is allowed
pub record Both (r s : Region) (count : ℕ) : Type 0 where
  pub off_r : is_off r.place ≡ true
  pub off_s : is_off s.place ≡ true
  pub adjacent : is_adjacent r s ≡ true
  pub room : count + 1 ≤ 4096

pub both-found : (tables : List Table) (rs : List Region) (orders : List (List ℕ)) (low high number_low number_high : ℕ) (closed : Bool) (r s : Region)
    → IsKept tables (map shape rs) orders → merge_refusal low high closed (record { tables = tables; regions = rs }) ≡ None → number_low ≡ low → 1 ≤ number_low → number_high ≡ high → 1 ≤ number_high
    → Some r ≡ slice_get rs (number_low - 1) → Some s ≡ slice_get rs (number_high - 1) → Both r s (length rs)
both-found tables rs orders low high number_low number_high closed r s kept allowed same_low least_low same_high least_high there_r there_s =
    let may : MayMerge low high (record { tables = tables; regions = rs }) = may-merge low high closed (record { tables = tables; regions = rs }) allowed in
    let is_r : may.r ≡ r = same_Some may.r r (sym may.there_r ∙ (found-there tables rs orders low number_low kept same_low least_low ∙ sym there_r)) in
    let is_s : may.s ≡ s = same_Some may.s s (sym may.there_s ∙ (found-there tables rs orders high number_high kept same_high least_high ∙ sym there_s)) in
    record {
      off_r = subst (λ (x : Region). is_off x.place ≡ true) is_r may.off_r;
      off_s = subst (λ (x : Region). is_off x.place ≡ true) is_s may.off_s;
      adjacent = subst (λ (x : Region). is_adjacent x s ≡ true) is_r (subst (λ (x : Region). is_adjacent may.r x ≡ true) is_s may.adjacent);
      room = may.room;
    }

pub whole-made : (tables : List Table) (rs made : List Region) (orders made_orders : List (List ℕ)) (i j at count a : ℕ) (r s whole : Region)
    → IsKept tables (map shape rs) orders → Both r s (length rs) → Some r ≡ slice_get rs i → Some s ≡ slice_get rs j → Some at ≡ position (is_named r.table) tables
    → count ≡ length rs → a ≡ count + 1 → whole ≡ joined a r s
    → ((r s : Region) → slice_get rs i ≡ Some r → slice_get rs j ≡ Some s → made ≡ set (set rs i (moved place.Gone r)) j (moved place.Gone s) ++ whole ∷ [])
    → ((ns : List ℕ) → slice_get orders at ≡ Some ns → made_orders ≡ set orders at (leave_out j (put_other i (length rs) ns)))
    → (made ≡ set (set rs i (moved place.Gone r)) j (moved place.Gone s) ++ joined (length rs + 1) r s ∷ []) × IsKept tables (map shape made) made_orders
whole-made tables rs made orders made_orders i j at count a r s whole kept both there_r there_s table count_is a_is whole_is regions_are orders_are = (
  made_is,
  subst (λ (xs : List Region). IsKept tables (map shape xs) made_orders) (sym made_is)
      (subst (λ (os : List (List ℕ)). IsKept tables (map shape (set (set rs i (moved place.Gone r)) j (moved place.Gone s) ++ joined (length rs + 1) r s ∷ [])) os) (sym (orders_are ns.0 ns.1))
      (merge-kept tables rs orders i j at r s ns.0 kept (sym there_r) (sym there_s) (sym table) ns.1 both.off_r both.off_s both.adjacent both.room)),
)
  where
    ns : (ns : List ℕ) × (slice_get orders at ≡ Some ns)
    ns = order-there tables rs orders r.table at kept table

    joined_is : whole ≡ joined (length rs + 1) r s
    joined_is = whole_is ∙ ap (λ k. joined k r s) (let c : count ≡ length rs = count_is in let e : a ≡ count + 1 = a_is in omega arith)

    made_is : made ≡ set (set rs i (moved place.Gone r)) j (moved place.Gone s) ++ joined (length rs + 1) r s ∷ []
    made_is = regions_are r s (sym there_r) (sym there_s) ∙ ap (λ (x : Region). set (set rs i (moved place.Gone r)) j (moved place.Gone s) ++ x ∷ []) joined_is

pub table-made : (tables made_tables : List Table) (rs made : List Region) (orders made_orders : List (List ℕ)) (name t : List ℕ) (families : List Family) (r : Region) (order : List ℕ) (count a : ℕ)
    → IsKept tables (map shape rs) orders → MayAdd t (record { tables = tables; regions = rs }) → name ≡ t → count ≡ length rs → a ≡ count + 1 → r ≡ first_region a t → order ≡ count ∷ []
    → made_tables ≡ tables ++ new_table name families ∷ [] → made ≡ rs ++ r ∷ [] → made_orders ≡ orders ++ order ∷ []
    → IsKept made_tables (map shape made) made_orders
table-made tables made_tables rs made orders made_orders name t families r order count a kept may name_is count_is a_is r_is order_is tables_are regions_are orders_are =
    subst (λ ts. IsKept ts (map shape made) made_orders) (sym (tables_are ∙ ap (λ n. tables ++ new_table n families ∷ []) name_is))
    (subst (λ xs. IsKept (tables ++ new_table t families ∷ []) xs made_orders) (sym shapes)
    (subst (λ os. IsKept (tables ++ new_table t families ∷ []) (map shape rs ++ shape first ∷ []) os) (sym places)
    (added-kept tables (map shape rs) orders (new_table t families) (shape first) kept (not-placed tables t may.absent)
    (let room : length rs + 1 ≤ 4096 = may.room in let l : length (map shape rs) ≡ length rs = length-map rs shape in omega arith)
    (let l : length (map shape rs) ≡ length rs = length-map rs shape in omega arith) (omega arith)
    (record { table_is = refl; alive = refl; begins = refl; some = refl }) refl)))
  where
    first : Region
    first = first_region (length rs + 1) t

    shapes : map shape made ≡ map shape rs ++ shape first ∷ []
    shapes = ap (map shape) regions_are ∙ (map-append shape rs (r ∷ [])
        ∙ ap (λ (x : Region). map shape rs ++ shape x ∷ []) (r_is ∙ ap (λ n. first_region n t) (let c : count ≡ length rs = count_is in let e : a ≡ count + 1 = a_is in omega arith)))

    places : made_orders ≡ orders ++ (length (map shape rs) ∷ []) ∷ []
    places = orders_are ∙ (ap (λ o. orders ++ o ∷ []) order_is ∙ ap (λ n. orders ++ (n ∷ []) ∷ []) (count_is ∙ sym (length-map rs shape)))
