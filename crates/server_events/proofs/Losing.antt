-- The regions of a map are Lost one after another.
use Rattle.std.proofs.Common.{ℕ, zero, suc, ◌+◌, ◌-◌, ◌≤◌, ◌≡◌, ◌==◌, ◌++◌, inl, inr, Bool, true, List, [], ◌∷◌, length, map, drop, take, set, slice_get, find, Option, Some, None, refl, ap, sym, ◌∙◌, subst, arith, eq-eqb}
use Rattle.std.specs.Prelude.{IsSome, if◌then◌else◌}
use Rattle.std.proofs.lemmas.Bool.{cond_both, cases_eq}
use Rattle.std.proofs.lemmas.Option.{same_Some, none-some, slice_get_within}
use Rattle.rep_types.specs.declared.state.PlaceOf.{PlaceOf}
use Rattle.rep_types.specs.declared.state.PlaceOf.TheVariants.{Off, Opening, On, Closing, Lost, Gone}
use Rattle.region_meta.specs.Regions.{Map, given, is_region, region_of}
use Rattle.region_meta.specs.Changes.{replace, moved, next_place, placed}
use Rattle.region_meta.specs.declared.region.Region.{Region}
use Rattle.region_meta.proofs.Changing.{placed-is}
use Rattle.region_meta.proofs.Lookups.{set-here, set-other}
use Rattle.rep_model.specs.Places.{after_death}
use Rattle.rep_model.proofs.InPlace.{changed-next}
use Rattle.server_events.specs.Crashes.{lost_region, AreNumbered}

-- the first regions of the map, so many, are Lost where they were at the server, and the others are as they were
pub record IsLosing (s at : ℕ) (now first : Map) : Type 0 where
  pub numbered : AreNumbered now.regions
  pub tables : now.tables ≡ first.tables
  pub regions : take at now.regions ++ map (lost_region s) (drop at now.regions) ≡ map (lost_region s) first.regions

-- ---- a place that is set

is_found : {X : Type 0} (q : X → Bool) (xs : List X) (k : ℕ) (x : X) → slice_get xs k ≡ Some x → q x ≡ true → IsSome (find q xs)
is_found q [] k x e t = absurd (none-some x e)
is_found q (y ∷ ys) zero x e t = subst (λ (b : Bool). IsSome (if b then Some y else find q ys)) (sym (ap q (same_Some y x e) ∙ t)) refl
is_found q (y ∷ ys) (suc k) x e t = cond_both (q y) (Some y) (find q ys) (λ o. IsSome o) (λ _. refl) (λ _. is_found q ys k x e t)

-- a region of the map is found by its number
pub region_is_there : (m : Map) (k : ℕ) (r : Region) → slice_get m.regions k ≡ Some r → IsSome (region_of r.number m)
region_is_there m k r e = is_found (is_region r.number) m.regions k r e (eq-eqb r.number r.number refl)

as_long : (q : Region → Bool) (new : Region) (rs : List Region) → length (replace q new rs) ≡ length rs
as_long q new [] = refl
as_long q new (r ∷ rs) = cond_both (q r) (new ∷ rs) (r ∷ replace q new rs) (λ w. length w ≡ length (r ∷ rs)) (λ _. refl) (λ _. ap suc (as_long q new rs))

-- the map has as many regions
pub placed_long : (n : ℕ) (p : PlaceOf) (m : Map) → length (placed n p m).regions ≡ length m.regions
unfolding given
placed_long n p m = by (region_of n m)
  where
    by : (o : Option Region) → length (given o m (λ r. record m { regions = replace (is_region n) (moved (next_place r.place p) r) m.regions })).regions ≡ length m.regions
    by None = refl
    by (Some r) = as_long (is_region n) (moved (next_place r.place p) r) m.regions

next_stays : (s : ℕ) (p : PlaceOf) → next_place p (after_death s p) ≡ after_death s p
next_stays s Off = refl
next_stays s (Opening t) = cond_both (s == t) (Lost t) (Opening t) (λ q. next_place (Opening t) q ≡ q) (λ _. refl) (λ _. refl)
next_stays s (On t) = cond_both (s == t) (Lost t) (On t) (λ q. next_place (On t) q ≡ q) (λ _. refl) (λ _. refl)
next_stays s (Closing t) = cond_both (s == t) (Lost t) (Closing t) (λ q. next_place (Closing t) q ≡ q) (λ _. refl) (λ _. refl)
next_stays s (Lost t) = refl
next_stays s Gone = refl

its_place : (n at : ℕ) → n ≡ at + 1 → at ≡ n - 1
its_place n at e = omega arith

from_one : (n at : ℕ) → n ≡ at + 1 → 1 ≤ n
from_one n at e = omega arith

-- ---- the loop

module _ (s at : ℕ) (now first : Map) (k : IsLosing s at now first) (r : Region) (there : slice_get now.regions at ≡ Some r) where
  abbrev next : Map
  next = record now { regions = set now.regions at (lost_region s r) }

  number_is : r.number ≡ at + 1
  number_is = k.numbered at r there

  next_is : next ≡ placed r.number (after_death s r.place) now
  next_is =
      let here : at ≡ r.number - 1 = its_place r.number at number_is in
      ap (λ (p : PlaceOf). let m : Map = record now { regions = set now.regions at (moved p r) } in m) (sym (next_stays s r.place))
      ∙ (ap (λ j. let m : Map = record now { regions = set now.regions j (moved (next_place r.place (after_death s r.place)) r) } in m) here
      ∙ placed-is now.tables now.regions r.number (after_death s r.place) r k.numbered (from_one r.number at number_is) (ap (slice_get now.regions) (sym here) ∙ there))

  still_numbered : AreNumbered (set now.regions at (lost_region s r))
  still_numbered j x e = elim (cases_eq j at) [
    | inl here ↦ (
        let is : lost_region s r ≡ x = same_Some (lost_region s r) x (sym (set-here now.regions at (lost_region s r) (slice_get_within now.regions at r there)) ∙ (ap (slice_get (set now.regions at (lost_region s r))) (sym here) ∙ e)) in
        ap (λ (y : Region). y.number) (sym is) ∙ (number_is ∙ ap (λ n. n + 1) (sym here))
        )
    | inr apart ↦ k.numbered j x (sym (set-other now.regions at j (lost_region s r) apart) ∙ e)
  ]

  pub losing_goes_on : IsLosing s (at + 1) (placed r.number (after_death s r.place) now) first
  losing_goes_on = subst (λ (m : Map). IsLosing s (at + 1) m first) next_is (record {
    numbered = still_numbered;
    tables = k.tables;
    regions = changed-next (map (lost_region s)) now.regions at r (lost_region s r) (λ _ _. refl) there refl ∙ k.regions;
  })
