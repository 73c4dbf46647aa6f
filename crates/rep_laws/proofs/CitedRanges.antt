-- What regions hold in the state after a legal run, as other crates may cite it.
use Rattle.std.proofs.Common.{ℕ, suc, ◌+◌, ◌≡◌, ◌==◌, ◌⊎◌, inl, inr, if◌then◌else◌, Bool, true, false, cond, List, [], ◌∷◌, ◌++◌, Option, Some, None, sum_by, refl, ap, sym, ◌∙◌, arith, ne_eqb, eqb-true, eq-eqb}
use Rattle.std.specs.List.{AllByRecursion}
use Rattle.std.proofs.lemmas.Bool.{cond_both, cond-true, cond-false, false≢true, eqb-false}
use Rattle.std.proofs.lemmas.List.Sums.{sum_by-append, sum_by-cons}
use Rattle.rep_types.specs.Range.{begins_below}
use Rattle.rep_types.specs.declared.ids.Cluster.{Cluster}
use Rattle.rep_types.specs.declared.entry.EntryKind.{EntryKind}
use Rattle.rep_types.specs.declared.entry.EntryKind.TheVariants as kind
use Rattle.rep_types.specs.declared.state.PlaceOf.TheVariants as place
use Rattle.rep_model.specs.State.{Route, of}
use Rattle.rep_model.specs.Words.{is_in}
use Rattle.rep_model.specs.Runs.{Step, IsLegalOn, state_on}
use Rattle.rep_model.specs.Regions.{holds, overlap}
use Rattle.rep_model.specs.Commits.{commit_count}
use Rattle.rep_model.specs.Places.{is_gone, is_close, closes_last}
use Rattle.rep_model.specs.Queues.{last_of}
use Rattle.rep_model.specs.declared.machine.Machine.{Machine}
use Rattle.rep_model.specs.declared.machine.Commit.{Commit}
use Rattle.rep_model.specs.declared.machine.Hosted.{Hosted}
use Rattle.rep_model.specs.declared.machine.Region.{Region}
use Rattle.rep_laws.specs.Ranges.{IsBounded, first_key, Meet, ComesFrom, EndsClosed}
use Rattle.rep_laws.proofs.Lists.{In, in_all}
use Rattle.rep_laws.proofs.Keys.{regions_meet}
use Rattle.rep_laws.proofs.Ranges.{Ranged, Inherits, holds_first, overlap_meets}
use Rattle.rep_laws.proofs.RangesPart.{RangeIn, ranges_at}
use Rattle.rep_laws.proofs.GonePart.{ClosedAt, gone_at}
use Rattle.rep_laws.proofs.CitedMore.{commits_are_counted}
use Rattle.rep_laws.proofs.Steady.{steady_run}

-- regions that hold one key overlap
pub meet_overlaps : (r s : Region) → Meet r s → overlap r s ≡ true
meet_overlaps r s m = regions_meet r.table.name m.key r s m.first m.second

-- where a region's last commit stands

record LastAt (r : ℕ) (xs : List Commit) : Type 0 where
  front : List Commit
  marker : Commit
  back : List Commit
  split : xs ≡ front ++ marker ∷ back
  mine : marker.region.number ≡ r
  closed : is_close marker.kind ≡ true
  alone : AllByRecursion (λ (x : Commit). x.region.number ≡ r → ⊥) back

last_at : (r : ℕ) (xs : List Commit) (found : Bool) → closes_last r xs found ≡ true → ((found ≡ true) × AllByRecursion (λ (x : Commit). x.region.number ≡ r → ⊥) xs) ⊎ LastAt r xs
last_at r [] found h = inl (h, tt)
last_at r (x ∷ xs) found h = elim (last_at r xs (if x.region.number == r then is_close x.kind else found) h) [
  | inl p ↦ cond_both (x.region.number == r) (is_close x.kind) found (λ (b : Bool). b ≡ true → ((found ≡ true) × AllByRecursion (λ (y : Commit). y.region.number ≡ r → ⊥) (x ∷ xs)) ⊎ LastAt r (x ∷ xs))
      (λ t closed. inr (record { front = []; marker = x; back = xs; split = refl; mine = eqb-true x.region.number r t; closed = closed; alone = p.1 }))
      (λ f old. inl (old, (eqb-false x.region.number r f, p.1))) p.0
  | inr l ↦ inr (record { front = x ∷ l.front; marker = l.marker; back = l.back; split = ap (λ w. x ∷ w) l.split; mine = l.mine; closed = l.closed; alone = l.alone })
]

last_behind : (r : ℕ) (xs ys : List Commit) (found : Option Commit) → last_of r (xs ++ ys) found ≡ last_of r ys (last_of r xs found)
last_behind r [] ys found = refl
last_behind r (x ∷ xs) ys found = last_behind r xs ys (if x.region.number == r then Some x else found)

last_aside : (r : ℕ) (xs : List Commit) (found : Option Commit) → AllByRecursion (λ (x : Commit). x.region.number ≡ r → ⊥) xs → last_of r xs found ≡ found
last_aside r [] found a = refl
last_aside r (x ∷ xs) found a = ap (last_of r xs) (cond-false (x.region.number == r) (Some x) found (ne_eqb x.region.number r a.0)) ∙ last_aside r xs found a.1

none_counted : (r : ℕ) (xs : List Commit) → AllByRecursion (λ (x : Commit). x.region.number ≡ r → ⊥) xs → commit_count r xs ≡ 0
none_counted r [] a = refl
none_counted r (x ∷ xs) a =
    let f : Commit → ℕ = λ y. cond (y.region.number == r) 1 0 in
    let none : f x ≡ 0 = cond-false (x.region.number == r) 1 0 (ne_eqb x.region.number r a.0) in
    sum_by-cons f x xs ∙ sums (f x) (sum_by f xs) none (none_counted r xs a.1)
  where
    sums : (a b : ℕ) → a ≡ 0 → b ≡ 0 → a + b ≡ 0
    sums a b h k = omega arith

is_closed_kind : (k : EntryKind) → is_close k ≡ true → k ≡ kind.Closed
is_closed_kind kind.Opened h = absurd (false≢true h)
is_closed_kind kind.Closed h = refl
is_closed_kind (kind.Write e) h = absurd (false≢true h)

counted_last : (r : ℕ) (xs : List Commit) (l : LastAt r xs) → commit_count r xs ≡ suc (commit_count r l.front)
counted_last r xs l =
    let f : Commit → ℕ = λ y. cond (y.region.number == r) 1 0 in
    let one : f l.marker ≡ 1 = cond-true (l.marker.region.number == r) 1 0 (eq-eqb l.marker.region.number r l.mine) in
    ap (commit_count r) l.split ∙ (sum_by-append f l.front (l.marker ∷ l.back) ∙ sums (sum_by f l.front) (sum_by f (l.marker ∷ l.back)) (f l.marker) (sum_by f l.back) (sum_by-cons f l.marker l.back) one (none_counted r l.back l.alone))
  where
    sums : (a b d e : ℕ) → b ≡ d + e → d ≡ 1 → e ≡ 0 → a + b ≡ suc a
    sums a b d e h k j = omega arith

module _ (way : Route) (steps : List Step) (legal : IsLegalOn way steps) where
  abbrev now : Machine
  now = state_on way steps

  ranges : (c : Cluster) → RangeIn (of c now)
  ranges c = ranges_at c now (steady_run way steps legal).ranges

  ranged : (c : Cluster) (h : Hosted) → In h (of c now).regions → Ranged h.region
  ranged c h i = in_all (λ (g : Hosted). Ranged g.region) h (of c now).regions i (ranges c).ranged

  -- each region begins below its end
  pub regions_begin : (c : Cluster) (h : Hosted) → In h (of c (state_on way steps)).regions → begins_below h.region.low h.region.high ≡ true
  regions_begin c h i = (ranged c h i).begins

  -- and holds the lowest key of its range, where what bounds it are keys
  pub regions_hold : (c : Cluster) (h : Hosted) → In h (of c (state_on way steps)).regions → IsBounded h.region → holds h.region.table.name (first_key h.region.low) h.region ≡ true
  regions_hold c h i is = holds_first h.region (ranged c h i) is

  -- where two overlap they hold one key
  pub overlapping_meet : (c : Cluster) (h g : Hosted) → In h (of c (state_on way steps)).regions → In g (of c (state_on way steps)).regions → IsBounded h.region → IsBounded g.region → overlap h.region g.region ≡ true → Meet h.region g.region
  overlapping_meet c h g i j is also o = overlap_meets h.region g.region (ranged c h i) (ranged c g j) is also o

  -- a region without parents is a table's first; another has its rows from its parents
  pub regions_come : (c : Cluster) (h : Hosted) → In h (of c (state_on way steps)).regions → (h.region.parents ≡ []) ⊎ ComesFrom (of c (state_on way steps)).regions h.region
  regions_come c h i = in_all (λ (g : Hosted). Inherits (of c now).regions g.region) h (of c now).regions i (ranges c).inherits

  -- the last commit of a Gone region is a close marker
  pub gone_ends_closed : (c : Cluster) → is_in way c ≡ true → (h : Hosted) → In h (of c (state_on way steps)).regions → h.place ≡ place.Gone → EndsClosed h (of c (state_on way steps)).commits
  gone_ends_closed c pair h i gone =
      let K : List Commit = (of c now).commits in
      let r : ℕ = h.region.number in
      let ends : closes_last r K false ≡ true = in_all (ClosedAt K) h (of c now).regions i (gone_at c now (steady_run way steps legal).closed) (ap is_gone gone) in
      elim (last_at r K false ends) [
        | inl p ↦ absurd (false≢true p.0)
        | inr l ↦ record {
          marker = l.marker;
          last = ap (λ (w : List Commit). last_of r w None) l.split ∙ (last_behind r l.front (l.marker ∷ l.back) None ∙ (ap (last_of r l.back) (cond-true (l.marker.region.number == r) (Some l.marker) (last_of r l.front None) (eq-eqb l.marker.region.number r l.mine))
              ∙ last_aside r l.back (Some l.marker) l.alone));
          closed = is_closed_kind l.marker.kind l.closed;
          seq = commits_are_counted way steps legal c pair l.front l.marker l.back l.split ∙ (ap (λ n. suc (commit_count n l.front)) l.mine ∙ sym (counted_last r K l));
        }
      ]
