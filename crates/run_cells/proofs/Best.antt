-- Each cell that is outdone is outdone by one that counts.
use Rattle.std.proofs.Common.{◌≡◌, ℕ, Bool, true, false, cond, List, [], ◌∷◌, ◌++◌, filter, refl, ap, sym, ◌∙◌, arith}
use Rattle.std.specs.Prelude.{◌&&◌, ◌||◌, not, nat_le}
use Rattle.std.specs.List.{list_any}
use Rattle.std.specs.Ordering.{is_lt}
use Rattle.std.proofs.lemmas.List.Folds.{list_any-append}
use Rattle.rep_types.specs.declared.cell.CellKind.{CellKind}
use Rattle.rep_types.specs.declared.cell.CellKind.TheVariants.{Put, Erase}
use Rattle.store_file.specs.declared.cell.RunCell.{RunCell}
use Rattle.store_file.specs.Order.{rank_order, age_order}
use Rattle.run_cells.specs.Outdone.{is_at, outdone_as, outdone_by, is_outdone, counts_in, compacted}
use Rattle.run_cells.proofs.Order.{age_total, lt-Less, at_trans, not-older, split-and, both-true, not_itself}

stamps-trans : (a b c : ℕ) → nat_le a b ≡ true → nat_le b c ≡ true → nat_le a c ≡ true
stamps-trans a b c h g = grind arith

older : (c d : RunCell) → is_lt (age_order d c) ≡ true → nat_le c.stamp d.stamp ≡ true
older c d h = not-older c.stamp d.stamp (rank_order c.rank d.rank) (lt-Less (age_order d c) h)

ages-trans : (c d e : RunCell) → is_lt (age_order d c) ≡ true → is_lt (age_order e d) ≡ true → is_lt (age_order e c) ≡ true
ages-trans c d e h g = ap is_lt (age_total.trans e d c (lt-Less (age_order e d) g) (lt-Less (age_order d c) h))

kinds-trans : (c d e : RunCell) (k l m : CellKind) → outdone_as c d k l ≡ true → outdone_as d e l m ≡ true → outdone_as c e k m ≡ true
kinds-trans c d e (Put u) (Put v) (Put w) h g = ages-trans c d e h g
kinds-trans c d e (Put u) (Put v) Erase h g = stamps-trans c.stamp d.stamp e.stamp (older c d h) g
kinds-trans c d e (Put u) Erase (Put w) h g = absurd (cc)
kinds-trans c d e (Put u) Erase Erase h g = stamps-trans c.stamp d.stamp e.stamp h (older d e g)
kinds-trans c d e Erase (Put v) m h g = absurd (cc)
kinds-trans c d e Erase Erase (Put w) h g = absurd (cc)
kinds-trans c d e Erase Erase Erase h g = ages-trans c d e h g

outdone-trans : (c d e : RunCell) → outdone_by c d ≡ true → outdone_by d e ≡ true → outdone_by c e ≡ true
outdone-trans c d e h g =
    let low = split-and (is_at c d) (outdone_as c d c.kind d.kind) h in
    let high = split-and (is_at d e) (outdone_as d e d.kind e.kind) g in
    both-true (is_at c e) (outdone_as c e c.kind e.kind) (at_trans c d e low.0 high.0) (kinds-trans c d e c.kind d.kind e.kind low.1 high.1)

first-true : (a b : Bool) → a ≡ true → (a || b) ≡ true
first-true true b h = refl
first-true false b h = absurd (cc)

pub second-true : (a b : Bool) → b ≡ true → (a || b) ≡ true
second-true true b h = refl
second-true false b h = h

first-only : (a b : Bool) → (a || b) ≡ true → b ≡ false → a ≡ true
first-only true b h f = refl
first-only false b h f = absurd (cc)

neither : (a b : Bool) → a ≡ false → b ≡ false → (a || b) ≡ false
neither true b h g = absurd (cc)
neither false b h g = g

not_true : (b : Bool) → (b ≡ true → ⊥) → b ≡ false
not_true true f = absurd (f refl)
not_true false f = refl

pub any_more : {X : Type 0} (p q : X → Bool) → ((d : X) → p d ≡ true → q d ≡ true) → (ds : List X) → list_any p ds ≡ true → list_any q ds ≡ true
any_more p q f [] h = absurd (cc)
any_more p q f (d ∷ ds) h =
    (elim (p d) as (λ (b : Bool). p d ≡ b → (b || list_any p ds) ≡ true → (q d || list_any q ds) ≡ true) [
      | true ↦ λ e g. first-true (q d) (list_any q ds) (f d e)
      | false ↦ λ e g. second-true (q d) (list_any q ds) (any_more p q f ds g)
    ]) refl h

-- one of these that outdoes the cell, and that none outdoes
record Best (ds : List RunCell) (c : RunCell) : Type 0 where
  best : RunCell
  outdoes : outdone_by c best ≡ true
  there : (p : RunCell → Bool) → p best ≡ true → list_any p ds ≡ true
  counts : is_outdone ds best ≡ false

first_best : (c d : RunCell) (ds : List RunCell) → outdone_by c d ≡ true → is_outdone ds d ≡ false → Best (d ∷ ds) c
first_best c d ds h none = record {
  best = d;
  outdoes = h;
  there = λ p t. first-true (p d) (list_any p ds) t;
  counts = neither (outdone_by d d) (is_outdone ds d) (not_itself d) none;
}

best_of : (ds : List RunCell) (c : RunCell) → is_outdone ds c ≡ true → Best ds c
best_of [] c h = absurd (cc)
best_of (d ∷ ds) c h =
    (elim (is_outdone ds c) as (λ (b : Bool). is_outdone ds c ≡ b → Best (d ∷ ds) c) [
      | true ↦ λ e.
          let m = best_of ds c e in
          (elim (outdone_by m.best d) as (λ (b : Bool). outdone_by m.best d ≡ b → Best (d ∷ ds) c) [
            | true ↦ λ f.
                first_best c d ds (outdone-trans c m.best d m.outdoes f)
                (not_true (is_outdone ds d) (λ g. let t : is_outdone ds m.best ≡ true = any_more (outdone_by d) (outdone_by m.best) (λ x. outdone-trans m.best d x f) ds g in let f : is_outdone ds m.best ≡ false = m.counts in cc))
            | false ↦ λ f. record {
              best = m.best;
              outdoes = m.outdoes;
              there = λ p t. second-true (p d) (list_any p ds) (m.there p t);
              counts = neither (outdone_by m.best d) (is_outdone ds m.best) f m.counts;
            }
          ]) refl
      | false ↦ λ e.
          let f : outdone_by c d ≡ true = first-only (outdone_by c d) (is_outdone ds c) h e in
          first_best c d ds f (not_true (is_outdone ds d) (λ g. let t : is_outdone ds c ≡ true = any_more (outdone_by d) (outdone_by c) (λ x. outdone-trans c d x f) ds g in cc))
    ]) refl

pub any_kept : (p q : RunCell → Bool) (ds : List RunCell) → list_any p (filter q ds) ≡ list_any (λ d. q d && p d) ds
any_kept p q [] = refl
any_kept p q (d ∷ ds) =
    elim (q d) as (λ (b : Bool). list_any p (cond b (d ∷ filter q ds) (filter q ds)) ≡ ((b && p d) || list_any (λ x. q x && p x) ds)) [
      | true ↦ ap (λ b. p d || b) (any_kept p q ds)
      | false ↦ any_kept p q ds
    ]

same_truth : (a b : Bool) → (a ≡ true → b ≡ true) → (b ≡ true → a ≡ true) → a ≡ b
same_truth true b f g = sym (f refl)
same_truth false true f g = g refl
same_truth false false f g = refl

-- what counts of some cells outdoes what they outdo
pub compacted_outdoes : (ds : List RunCell) (c : RunCell) → is_outdone (compacted ds) c ≡ is_outdone ds c
compacted_outdoes ds c =
    any_kept (outdone_by c) (counts_in ds) ds
    ∙ same_truth (list_any (λ d. counts_in ds d && outdone_by c d) ds) (is_outdone ds c)
    (any_more (λ d. counts_in ds d && outdone_by c d) (outdone_by c) (λ d h. (split-and (counts_in ds d) (outdone_by c d) h).1) ds)
    (λ h.
    let m = best_of ds c h in
    m.there (λ d. counts_in ds d && outdone_by c d) (both-true (counts_in ds m.best) (outdone_by c m.best) (ap not m.counts) m.outdoes))

pub compacted_beside : (ds others : List RunCell) (c : RunCell) → is_outdone (compacted ds ++ others) c ≡ is_outdone (ds ++ others) c
compacted_beside ds others c =
    list_any-append (outdone_by c) (compacted ds) others
    ∙ ap (λ b. b || is_outdone others c) (compacted_outdoes ds c)
    ∙ sym (list_any-append (outdone_by c) ds others)

kept_twice : (p : RunCell → Bool) (ds : List RunCell) → filter p (filter p ds) ≡ filter p ds
kept_twice p [] = refl
kept_twice p (d ∷ ds) =
    (elim (p d) as (λ (b : Bool). p d ≡ b → filter p (cond b (d ∷ filter p ds) (filter p ds)) ≡ cond b (d ∷ filter p ds) (filter p ds)) [
      | true ↦ λ e. ap (λ b. cond b (d ∷ filter p (filter p ds)) (filter p (filter p ds))) e ∙ ap (λ xs. d ∷ xs) (kept_twice p ds)
      | false ↦ λ e. kept_twice p ds
    ]) refl

pub compacted_twice : (ds : List RunCell) → compacted (compacted ds) ≡ compacted ds
compacted_twice ds = (λ i. filter (λ c. not (compacted_outdoes ds c i)) (compacted ds)) ∙ kept_twice (counts_in ds) ds
