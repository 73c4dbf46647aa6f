-- Each step keeps the rule, and what it tells.
use Rattle.std.proofs.Common.{◌≡◌, ◌≢◌, ℕ, zero, suc, true, false, true≢false, Bool, List, [], ◌∷◌, ◌++◌, length, set, sym, refl, ap, ◌∙◌, subst, ⊎_elim, append_assoc, IfSome}
use mathlib.Core.Option.{some, some-ne-none}
use mathlib.Core.List.{IsPrefix}
use lib.ListN.{get_elem?}
use Rattle.crossbeam_queue.specs.Fifo.{Pushes, Pops, Forks, Merges, Learns}
use Rattle.crossbeam_queue.proofs.Lists.{at_set, at_snoc}
use Rattle.read_hand.specs.declared.piece.Piece.{Piece}
use Rattle.read_hand.specs.declared.rule.Carried.{Carried}
use Rattle.read_hand.specs.Carrying.{carried, EndsWith, Fits, Carries}
use Rattle.read_hand.specs.Hands.{met}

at_end : (views : List Carried) (a b : Carried) (j : ℕ) → get_elem? views j ≢ some b → get_elem? (views ++ a ∷ []) j ≡ some b → j ≡ length views
at_end [] a b zero n e = refl
at_end [] a b (suc j) n e = absurd (some-ne-none b (sym e))
at_end (x ∷ xs) a b zero n e = absurd (n e)
at_end (x ∷ xs) a b (suc j) n e = ap suc (at_end xs a b j n e)

abbrev Each : (ℕ → Carried → Type 0) → List Carried → Type 0
Each F views = (pass : ℕ) (v : Carried) → get_elem? views pass ≡ some v → F pass v

each_set : (F : ℕ → Carried → Type 0) (views : List Carried) (pass : ℕ) (w : Carried) → F pass w → ((j : ℕ) (u : Carried) → j ≢ pass → get_elem? views j ≡ some u → F j u) → Each F (set views pass w)
each_set F views pass w mine others j u e = ⊎_elim (λ (x : (j ≡ pass) × (w ≡ u)). subst (λ (y : ℕ × Carried). F y.0 y.1) (λ i. (sym x.0 i, x.1 i)) mine)
    (λ (x : (j ≢ pass) × (get_elem? views j ≡ some u)). others j u x.0 x.1) (at_set views pass j w u e)

pub begins : Carries [] (carried true true [] [] ∷ [])
begins = (0, 0, [], [], refl, each_set (Fits 0 0 [] []) (carried true true [] [] ∷ []) 0 (carried true true [] []) ((λ _. (refl, refl)), λ _. (refl, refl)) (λ j u other e. absurd (other (at_end [] _ u j (λ x. some-ne-none u (sym x)) e))))

pub puts : (n pass : ℕ) (v : Carried) (x : Piece) → v.gives ≡ true → Pushes Carries n pass v x (λ w. w ≡ carried v.gives v.takes (v.put ++ x ∷ []) v.taken)
puts n pass v x may items views _ h at = let w : Carried = carried v.gives v.takes (v.put ++ x ∷ []) v.taken in let mine = h.5 pass v at in let put = h.2 ++ x ∷ [] in (
  w,
  (
    h.0,
    h.1,
    put,
    h.3,
    ap (λ l. l ++ x ∷ []) h.4 ∙ append_assoc h.3 items (x ∷ []),
    each_set (Fits h.0 h.1 put h.3) views pass w ((λ _. ((mine.0 may).0, ap (λ l. l ++ x ∷ []) (mine.0 may).1)), mine.1)
        (λ j u other e. ((λ p. absurd (other (((h.5 j u e).0 p).0 ∙ sym (mine.0 may).0))), (h.5 j u e).1)),
  ),
  refl,
)

-- what a full hand holds are the last pieces put
pub waits : (pass : ℕ) (v : Carried) → v.gives ≡ true → Learns Carries pass v (λ items. EndsWith v.put items)
waits pass v may items views h at = (h.3, sym h.4 ∙ sym ((h.5 pass v at).0 may).1)

pub takes : (pass : ℕ) (v : Carried) → v.takes ≡ true
    → Pops Carries pass v (λ x w. (w ≡ carried v.gives v.takes v.put (v.taken ++ x ∷ [])) × (v.gives ≡ true → IsPrefix (v.taken ++ x ∷ []) v.put))
takes pass v may x items views h at = let w : Carried = carried v.gives v.takes v.put (v.taken ++ x ∷ []) in let mine = h.5 pass v at in let taken = h.3 ++ x ∷ [] in (
  w,
  (
    h.0,
    h.1,
    h.2,
    taken,
    h.4 ∙ sym (append_assoc h.3 (x ∷ []) items),
    each_set (Fits h.0 h.1 h.2 taken) views pass w (mine.0, λ _. ((mine.1 may).0, ap (λ l. l ++ x ∷ []) (mine.1 may).1))
        (λ j u other e. ((h.5 j u e).0, λ p. absurd (other (((h.5 j u e).1 p).0 ∙ sym (mine.1 may).0)))),
  ),
  (refl, λ p. (items, ap (λ l. (l ++ x ∷ []) ++ items) (mine.1 may).1 ∙ append_assoc h.3 (x ∷ []) items ∙ sym h.4 ∙ sym (mine.0 p).1)),
)

-- what the hand holds is what is left of what was put
pub leaves : (pass : ℕ) (v : Carried) → v.takes ≡ true → Learns Carries pass v (λ items. v.gives ≡ true → v.taken ++ items ≡ v.put)
leaves pass v may items views h at p = let mine = h.5 pass v at in ap (λ l. l ++ items) (mine.1 may).1 ∙ sym h.4 ∙ sym (mine.0 p).1

pub forks : (pass : ℕ) (v : Carried) → v.gives ≡ true → v.takes ≡ true → Forks Carries pass v (carried true false v.put []) (carried false true [] v.taken)
forks pass v a b items views h at = let l : Carried = carried true false v.put [] in let r : Carried = carried false true [] v.taken in let mine = h.5 pass v at in let vs : List Carried = set views pass l in
    let Old : ℕ → Carried → Type 0 = λ j u. (u.gives ≡ true → (j ≡ h.0) × (u.put ≡ h.2)) × (u.takes ≢ true) in
    let old : Each Old vs = each_set Old views pass l ((λ _. mine.0 a), λ p. true≢false (sym p)) (λ j u other e. ((h.5 j u e).0, λ p. other (((h.5 j u e).1 p).0 ∙ sym (mine.1 b).0))) in (
      h.0,
      length vs,
      h.2,
      h.3,
      h.4,
      λ j u e. ⊎_elim (λ x. ((old j u x).0, λ p. absurd ((old j u x).1 p)))
          (λ (is : r ≡ u). ((λ p. absurd (true≢false (sym (ap (λ (y : Carried). y.gives) is ∙ p)))), λ p. (at_end vs r u j (λ x. (old j u x).1 p) e, ap (λ (y : Carried). y.taken) (sym is) ∙ (mine.1 b).1))) (at_snoc vs r u j e),
    )

pub meets : (pass : ℕ) (v : Carried) (other : ℕ) (u : Carried) → v.takes ≡ true → u.gives ≡ true → Merges Carries pass v other u (carried true true u.put v.taken) (carried false false [] [])
meets pass v other u a b items views h at two at' = let both : Carried = carried true true u.put v.taken in let mine = h.5 pass v at in let vs : List Carried = set views pass both in
    let was : get_elem? views other ≡ some u = ⊎_elim (λ x. absurd (two x.0)) (λ x. x.1) (at_set views pass other both u at') in let theirs = (h.5 other u was).0 b in
    let Now : ℕ → Carried → Type 0 = λ j y. j ≢ other → Fits pass h.1 h.2 h.3 j y in
    let now : Each Now vs = each_set Now views pass both (λ _. ((λ _. (refl, theirs.1)), λ _. mine.1 a)) (λ j y _ e apart. ((λ p. absurd (apart (((h.5 j y e).0 p).0 ∙ sym theirs.0))), (h.5 j y e).1)) in
    (pass, h.1, h.2, h.3, h.4, each_set (Fits pass h.1 h.2 h.3) vs other (carried false false [] []) ((λ p. absurd (true≢false (sym p))), λ p. absurd (true≢false (sym p))) (λ j y apart e. now j y e apart))

-- what holds where the giver was met holds of all that was put
pub once_met : (F : List Piece → Type 0) (gives : Bool) (put : List Piece) → (gives ≡ true → F put) → IfSome (met gives put) F
once_met F true put told = told refl
once_met F false put told = tt
