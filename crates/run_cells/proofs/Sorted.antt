-- Cells in order: what a pass over them sees of a cell before it and behind it.
use Rattle.std.proofs.Common.{◌≡◌, ℕ, Bool, true, false, cond, List, [], ◌∷◌, ◌++◌, reverse, Option, Some, None, refl, ap, sym, ◌∙◌}
use Rattle.std.specs.Prelude.{◌&&◌, ◌||◌, find}
use Rattle.std.specs.declared.cmp.Ordering.TheVariants.{Less}
use Rattle.std.specs.List.{list_any, take_while}
use Rattle.std.specs.Ordering.{is_lt}
use Rattle.std.specs.Option.{option_or}
use Rattle.std.proofs.lemmas.List.{reverse-append}
use Rattle.std.proofs.lemmas.List.Folds.{find-append, list_any-append}
use Rattle.std.proofs.lemmas.List.Sums.{take_while-cons}
use Rattle.rep_types.specs.declared.cell.CellKind.TheVariants.{Put, Erase}
use Rattle.store_file.specs.declared.cell.RunCell.{RunCell}
use Rattle.store_file.specs.Order.{run_order, are_behind, are_in_order}
use Rattle.store_file.specs.Run.{last_of}
use Rattle.store_file.proofs.Ordered.{last-more}
use Rattle.run_cells.specs.Outdone.{is_at, is_twin, is_delete, outdone_by, is_outdone}
use Rattle.run_cells.specs.Steps.{has_place}
use Rattle.run_cells.proofs.Order.{run_total, lt-Less, both-true, column_between, twin_between, by_kind, put_by_earlier, delete_by_earlier, put_by_later, delete_by_later, not_itself}

-- each of these comes before the cell
abbrev pub AllBefore : RunCell → List RunCell → Type 0
AllBefore c [] = Unit {0}
AllBefore c (d ∷ ds) = (run_order d c ≡ Less) × AllBefore c ds

-- and behind it
abbrev pub AllBehind : RunCell → List RunCell → Type 0
AllBehind c [] = Unit {0}
AllBehind c (d ∷ ds) = (run_order c d ≡ Less) × AllBehind c ds

-- each comes before all that follow
abbrev pub Rises : List RunCell → Type 0
Rises [] = Unit {0}
Rises (c ∷ cs) = AllBehind c cs × Rises cs

both : (a b : Bool) → (a && b) ≡ true → (a ≡ true) × (b ≡ true)
both true b h = (refl, h)
both false b h = absurd (cc)

pub behind-trans : (b c : RunCell) (cs : List RunCell) → run_order b c ≡ Less → AllBehind c cs → AllBehind b cs
behind-trans b c [] l h = tt
behind-trans b c (d ∷ ds) l h = (run_total.trans b c d l h.0, behind-trans b c ds l h.1)

pub rises-behind : (b : RunCell) (cs : List RunCell) → are_behind (Some b) cs ≡ true → AllBehind b cs × Rises cs
rises-behind b [] h = (tt, tt)
rises-behind b (c ∷ cs) h =
    let parts = both (is_lt (run_order b c)) (are_behind (Some c) cs) h in
    let rest = rises-behind c cs parts.1 in
    let first : run_order b c ≡ Less = lt-Less (run_order b c) parts.0 in
    ((first, behind-trans b c cs first rest.0), rest)

pub rises : (cs : List RunCell) → are_in_order cs ≡ true → Rises cs
rises [] h = tt
rises (c ∷ cs) h = rises-behind c cs h

ordered-behind : (b : RunCell) (cs : List RunCell) → AllBehind b cs → Rises cs → are_behind (Some b) cs ≡ true
ordered-behind b [] h r = refl
ordered-behind b (c ∷ cs) h r = both-true (is_lt (run_order b c)) (are_behind (Some c) cs) (ap is_lt h.0) (ordered-behind c cs r.0 r.1)

pub ordered : (cs : List RunCell) → Rises cs → are_in_order cs ≡ true
ordered [] r = refl
ordered (c ∷ cs) r = ordered-behind c cs r.0 r.1

pub record Around (before : List RunCell) (c : RunCell) (after : List RunCell) : Type 0 where
  pub earlier : AllBefore c before
  pub later : AllBehind c after
  pub below : Rises before
  pub above : Rises after

front-behind : (d : RunCell) (before : List RunCell) (c : RunCell) (after : List RunCell) → AllBehind d (before ++ c ∷ after) → AllBehind d before × (run_order d c ≡ Less)
front-behind d [] c after h = (tt, h.0)
front-behind d (e ∷ es) c after h =
    let rest = front-behind d es c after h.1 in
    ((h.0, rest.0), rest.1)

pub around : (before : List RunCell) (c : RunCell) (after : List RunCell) → Rises (before ++ c ∷ after) → Around before c after
around [] c after r = record { earlier = tt; later = r.0; below = tt; above = r.1 }
around (d ∷ ds) c after r =
    let rest = around ds c after r.1 in
    let first = front-behind d ds c after r.0 in
    record { earlier = (first.1, rest.earlier); later = rest.later; below = (first.0, rest.below); above = rest.above }

or_absorb : (a b : Bool) → (a ≡ true → b ≡ true) → (a || b) ≡ b
or_absorb true b h = sym (h refl)
or_absorb false b h = refl

or-false : (a : Bool) → (a || false) ≡ a
or-false true = refl
or-false false = refl

-- some cell of its column comes before it where the last one does
pub place_before : (c : RunCell) (ds : List RunCell) → AllBefore c ds → Rises ds → list_any (is_at c) ds ≡ has_place c (last_of ds)
place_before c [] h r = refl
place_before c (d ∷ []) h r = or-false (is_at c d)
place_before c (d ∷ e ∷ es) h r =
    or_absorb (is_at c d) (list_any (is_at c) (e ∷ es)) (λ t. ap (λ b. b || list_any (is_at c) es) (column_between d e c r.0.0 h.1.0 t))
    ∙ place_before c (e ∷ es) h.1 r.1
    ∙ ap (has_place c) (sym (last-more d e es))

last_such : (RunCell → Bool) → List RunCell → Option RunCell
last_such p [] = None
last_such p (d ∷ ds) = option_or (last_such p ds) (cond (p d) (Some d) None)

reverse-first : (d : RunCell) (ds : List RunCell) → reverse (d ∷ ds) ≡ reverse ds ++ d ∷ []
reverse-first d ds = reverse-append (d ∷ []) ds

find-one : (p : RunCell → Bool) (d : RunCell) (b : Bool) → p d ≡ b → find p (d ∷ []) ≡ cond b (Some d) None
find-one p d true h = rw h refl
find-one p d false h = rw h refl

find_last : (p : RunCell → Bool) (ds : List RunCell) → find p (reverse ds) ≡ last_such p ds
unfolding last_such
find_last p [] = refl
find_last p (d ∷ ds) =
    ap (find p) (reverse-first d ds)
    ∙ find-append p (reverse ds) (d ∷ [])
    ∙ (λ i. option_or (find_last p ds i) (find-one p d (p d) refl i))

-- what was found is there
found_there : (p : RunCell → Bool) (c e d : RunCell) (ds : List RunCell) → last_such p ds ≡ Some e → AllBehind d ds → AllBefore c ds → (run_order d e ≡ Less) × (run_order e c ≡ Less)
unfolding last_such
found_there p c e d [] h after before = absurd (cc)
found_there p c e d (f ∷ fs) h after before =
    (elim (last_such p fs) as (λ (o : Option RunCell). last_such p fs ≡ o → option_or o (cond (p f) (Some f) None) ≡ Some e → (run_order d e ≡ Less) × (run_order e c ≡ Less)) [
      | Some g ↦ λ k m. found_there p c e d fs (k ∙ m) after.1 before.1
      | None ↦ λ k m. (elim (p f) as (λ (b : Bool). cond b (Some f) None ≡ Some e → (run_order d e ≡ Less) × (run_order e c ≡ Less)) [
        | true ↦ λ n. let same : f ≡ e = cc in (ap (run_order d) (sym same) ∙ after.0, ap (λ x. run_order x c) (sym same) ∙ before.0)
        | false ↦ λ n. absurd (cc)
      ]) m
    ]) refl h

not_there : (p : RunCell → Bool) (c : RunCell) (ds : List RunCell) → last_such p ds ≡ None → list_any (λ d. is_at c d && p d) ds ≡ false
unfolding last_such
not_there p c [] h = refl
not_there p c (d ∷ ds) h =
    (elim (last_such p ds) as (λ (o : Option RunCell). last_such p ds ≡ o → option_or o (cond (p d) (Some d) None) ≡ None → ((is_at c d && p d) || list_any (λ x. is_at c x && p x) ds) ≡ false) [
      | Some g ↦ λ k m. absurd (cc)
      | None ↦ λ k m. (elim (p d) as (λ (b : Bool). cond b (Some d) None ≡ None → ((is_at c d && b) || list_any (λ x. is_at c x && p x) ds) ≡ false) [
        | true ↦ λ n. absurd (cc)
        | false ↦ λ n. ap (λ b. b || list_any (λ x. is_at c x && p x) ds) (no (is_at c d)) ∙ not_there p c ds k
      ]) m
    ]) refl h
  where
    no : (a : Bool) → (a && false) ≡ false
    no true = refl
    no false = refl

there_first : (p : RunCell → Bool) (c d : RunCell) → list_any (λ x. is_at c x && p x) (d ∷ []) ≡ has_place c (cond (p d) (Some d) None)
there_first p c d = or-false (is_at c d && p d) ∙ chosen (p d)
  where
    chosen : (b : Bool) → (is_at c d && b) ≡ has_place c (cond b (Some d) None)
    chosen true = both_true (is_at c d)
      where
        both_true : (a : Bool) → (a && true) ≡ a
        both_true true = refl
        both_true false = refl
    chosen false = both_false (is_at c d)
      where
        both_false : (a : Bool) → (a && false) ≡ false
        both_false true = refl
        both_false false = refl

-- such a cell of its column comes before it where the last such one is of its column
such_before : (p : RunCell → Bool) (c : RunCell) (ds : List RunCell) → AllBefore c ds → Rises ds → list_any (λ d. is_at c d && p d) ds ≡ has_place c (last_such p ds)
unfolding last_such
such_before p c [] h r = refl
such_before p c (d ∷ ds) h r =
    (elim (last_such p ds) as (λ (o : Option RunCell). last_such p ds ≡ o → ((is_at c d && p d) || list_any (λ x. is_at c x && p x) ds) ≡ has_place c (option_or o (cond (p d) (Some d) None))) [
      | Some e ↦ λ k.
          let near = found_there p c e d ds k r.0 h.1 in
          let rest : list_any (λ x. is_at c x && p x) ds ≡ is_at c e = such_before p c ds h.1 r.1 ∙ ap (has_place c) k in
          ap (λ b. (is_at c d && p d) || b) rest
          ∙ or_absorb (is_at c d && p d) (is_at c e) (λ t. column_between d e c near.0 near.1 (both (is_at c d) (p d) t).0)
      | None ↦ λ k. ap (λ b. (is_at c d && p d) || b) (not_there p c ds k) ∙ there_first p c d
    ]) refl

pub delete_before : (c : RunCell) (ds : List RunCell) → AllBefore c ds → Rises ds → list_any (λ d. is_at c d && is_delete d) ds ≡ has_place c (find is_delete (reverse ds))
delete_before c ds h r = such_before is_delete c ds h r ∙ ap (has_place c) (sym (find_last is_delete ds))

-- behind one that is no twin there is none
no_twin : (c d : RunCell) (es : List RunCell) → run_order c d ≡ Less → AllBehind d es → is_twin c d ≡ false → list_any (λ e. is_twin c e && is_delete e) es ≡ false
no_twin c d [] l h n = refl
no_twin c d (e ∷ es) l h n =
    let other : is_twin c e ≡ false = no (is_twin c e) (λ t. let twin : is_twin c d ≡ true = twin_between c d e l h.0 t in cc) in
    ap (λ b. (b && is_delete e) || list_any (λ x. is_twin c x && is_delete x) es) other ∙ no_twin c d es l h.1 n
  where
    no : (a : Bool) → (a ≡ true → ⊥) → a ≡ false
    no true f = absurd (f refl)
    no false f = refl

-- deletes among its twins are those before the first that is no twin
pub delete_behind : (c : RunCell) (ds : List RunCell) → AllBehind c ds → Rises ds → list_any (λ d. is_twin c d && is_delete d) ds ≡ list_any is_delete (take_while (is_twin c) ds)
delete_behind c [] h r = refl
delete_behind c (d ∷ ds) h r =
    (elim (is_twin c d) as (λ (b : Bool). is_twin c d ≡ b → ((b && is_delete d) || list_any (λ x. is_twin c x && is_delete x) ds) ≡ list_any is_delete (cond b (d ∷ take_while (is_twin c) ds) [])) [
      | true ↦ λ t. ap (λ b. is_delete d || b) (delete_behind c ds h.1 r.1)
      | false ↦ λ t. no_twin c d ds h.0 r.0 t
    ]) refl
    ∙ ap (list_any is_delete) (sym (take_while-cons (is_twin c) d ds))

any_before : (c : RunCell) (p q : RunCell → Bool) (ds : List RunCell) → ((d : RunCell) → run_order d c ≡ Less → p d ≡ q d) → AllBefore c ds → list_any p ds ≡ list_any q ds
any_before c p q [] f h = refl
any_before c p q (d ∷ ds) f h = λ i. f d h.0 i || any_before c p q ds f h.1 i

any_behind : (c : RunCell) (p q : RunCell → Bool) (ds : List RunCell) → ((d : RunCell) → run_order c d ≡ Less → p d ≡ q d) → AllBehind c ds → list_any p ds ≡ list_any q ds
any_behind c p q [] f h = refl
any_behind c p q (d ∷ ds) f h = λ i. f d h.0 i || any_behind c p q ds f h.1 i

any_none : (ds : List RunCell) → list_any (λ d. false) ds ≡ false
any_none [] = refl
any_none (d ∷ ds) = any_none ds

-- a cell of the list is outdone by what is before it or behind it
outdone_around : (before : List RunCell) (c : RunCell) (after : List RunCell) → is_outdone (before ++ c ∷ after) c ≡ (list_any (outdone_by c) before || list_any (outdone_by c) after)
outdone_around before c after =
    list_any-append (outdone_by c) before (c ∷ after) ∙ ap (λ b. list_any (outdone_by c) before || (b || list_any (outdone_by c) after)) (not_itself c)

pub put_outdone : (before : List RunCell) (c : RunCell) (after : List RunCell) (v : List ℕ) → c.kind ≡ Put v → are_in_order (before ++ c ∷ after) ≡ true
    → is_outdone (before ++ c ∷ after) c ≡ (has_place c (last_of before) || list_any is_delete (take_while (is_twin c) after))
put_outdone before c after v kind order =
    let a = around before c after (rises (before ++ c ∷ after) order) in
    let low : list_any (outdone_by c) before ≡ has_place c (last_of before) =
    any_before c (outdone_by c) (is_at c) before (λ d h. ap (λ k. by_kind c k d) kind ∙ put_by_earlier c d v h) a.earlier ∙ place_before c before a.earlier a.below in
    let high : list_any (outdone_by c) after ≡ list_any is_delete (take_while (is_twin c) after) =
    any_behind c (outdone_by c) (λ d. is_twin c d && is_delete d) after (λ d h. ap (λ k. by_kind c k d) kind ∙ put_by_later c d v h) a.later ∙ delete_behind c after a.later a.above in
    outdone_around before c after ∙ (λ i. low i || high i)

pub delete_outdone : (before : List RunCell) (c : RunCell) (after : List RunCell) → c.kind ≡ Erase → are_in_order (before ++ c ∷ after) ≡ true
    → is_outdone (before ++ c ∷ after) c ≡ has_place c (find is_delete (reverse before))
delete_outdone before c after kind order =
    let a = around before c after (rises (before ++ c ∷ after) order) in
    let low : list_any (outdone_by c) before ≡ has_place c (find is_delete (reverse before)) =
    any_before c (outdone_by c) (λ d. is_at c d && is_delete d) before (λ d h. ap (λ k. by_kind c k d) kind ∙ delete_by_earlier c d h) a.earlier ∙ delete_before c before a.earlier a.below in
    let high : list_any (outdone_by c) after ≡ false =
    any_behind c (outdone_by c) (λ d. false) after (λ d h. ap (λ k. by_kind c k d) kind ∙ delete_by_later c d h) a.later ∙ any_none after in
    outdone_around before c after ∙ (λ i. low i || high i) ∙ or-false (has_place c (find is_delete (reverse before)))
