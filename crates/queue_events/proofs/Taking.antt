-- The batch in memory and its entries, one after another.
use Rattle.std.proofs.Common.{ℕ, zero, suc, ◌+◌, ◌-◌, ◌<◌, ◌≤◌, ◌≡◌, true, false, cond, List, [], ◌∷◌, ◌++◌, length, get_or, drop, take, refl, ap, sym, ◌∙◌, subst, append_assoc, append-nil, inl, inr, arith}
use Rattle.std.specs.Prelude.{nat_le}
use Rattle.std.proofs.lemmas.Bool.Decides.{leb_tells}
use Rattle.std.proofs.lemmas.List.{at_drop_more, at_drop_all, take_more, take_all}
use Rattle.rep_types.specs.declared.entry.Entry.{Entry}
use Rattle.rep_vault.specs.Contents.{Contents}
use Rattle.cluster_core.specs.declared.parts.Kept.{Kept}
use Rattle.queue_events.specs.Sending.{taken_kept}
use Rattle.queue_events.specs.Reading.{IsFrameAt, AreFramesAt}

-- ---- the batch

stops : (n room : ℕ) (k : Kept) (ks : List Kept) → nat_le k.length room ≡ false → taken_kept n room (k ∷ ks) ≡ []
stops zero room k ks h = refl
stops (suc n) room k ks h = ap (λ t. cond t (k ∷ taken_kept n (room - k.length) ks) []) h

goes_on : (n room : ℕ) (k : Kept) (ks : List Kept) → nat_le k.length room ≡ true → taken_kept (suc n) room (k ∷ ks) ≡ k ∷ taken_kept n (room - k.length) ks
goes_on n room k ks h = ap (λ t. cond t (k ∷ taken_kept n (room - k.length) ks) []) h

none_left : (n room : ℕ) → taken_kept n room [] ≡ []
none_left zero room = refl
none_left (suc n) room = refl

pub over : (a b : ℕ) → b < a → nat_le a b ≡ false
over a b h = elim (leb_tells a b) [
  | inl less ↦ absurd (omega (arith, h, less.1))
  | inr more ↦ more.0
]

pub full : (n room : ℕ) (done whole ks : List Kept) → done ++ taken_kept n room ks ≡ whole → n ≡ 0 → done ≡ whole
full n room done whole ks sofar h = sym (append-nil done) ∙ (ap (λ i. done ++ taken_kept i room ks) (sym h) ∙ sofar)

pub too_long : (n room : ℕ) (done whole ks : List Kept) (i : ℕ) (k : Kept) → done ++ taken_kept n room (drop i ks) ≡ whole → i < length ks → k ≡ get_or ks i k → nat_le k.length room ≡ false → done ≡ whole
too_long n room done whole ks i k sofar lt is h =
    sym (append-nil done)
    ∙ (ap (λ (zs : List Kept). done ++ zs) (sym (at_drop_more (taken_kept n room) ks i k lt ∙ (ap (λ (z : Kept). taken_kept n room (z ∷ drop (i + 1) ks)) (sym is) ∙ stops n room k (drop (i + 1) ks) h)))
    ∙ sofar)

pub one_more : (n less room : ℕ) (done whole ks : List Kept) (i : ℕ) (k : Kept) → done ++ taken_kept n room (drop i ks) ≡ whole → i < length ks → k ≡ get_or ks i k → nat_le k.length room ≡ true → n ≡ suc less
    → (done ++ k ∷ []) ++ taken_kept less (room - k.length) (drop (i + 1) ks) ≡ whole
one_more n less room done whole ks i k sofar lt is h more =
    append_assoc done (k ∷ []) (taken_kept less (room - k.length) (drop (i + 1) ks))
    ∙ (ap (λ (zs : List Kept). done ++ zs) (sym (at_drop_more (taken_kept n room) ks i k lt ∙ (ap (λ (z : Kept). taken_kept n room (z ∷ drop (i + 1) ks)) (sym is) ∙ (ap (λ j. taken_kept j room (k ∷ drop (i + 1) ks)) more ∙ goes_on less room k (drop (i + 1) ks) h))))
    ∙ sofar)

pub all_taken : (n room : ℕ) (done whole ks : List Kept) (i : ℕ) → done ++ taken_kept n room (drop i ks) ≡ whole → length ks ≤ i → done ≡ whole
all_taken n room done whole ks i sofar h =
    sym (append-nil done) ∙ (ap (λ (zs : List Kept). done ++ zs) (sym (at_drop_all (taken_kept n room) ks i h ∙ none_left n room)) ∙ sofar)

-- ---- its entries

push : (c : Contents) (s : ℕ) (ks : List Kept) (k : Kept) (es : List Entry) (e : Entry) → AreFramesAt c s ks es → IsFrameAt c s k e → AreFramesAt c s (ks ++ k ∷ []) (es ++ e ∷ [])
push c s [] k [] e a h = (h, tt)
push c s [] k (f ∷ es) e a h = absurd a
push c s (j ∷ ks) k [] e a h = absurd a
push c s (j ∷ ks) k (f ∷ es) e a h = (a.0, push c s ks k es e a.1 h)

pub next_entry : (c : Contents) (s : ℕ) (ks : List Kept) (i : ℕ) (k : Kept) (es : List Entry) (e : Entry) → i < length ks → k ≡ get_or ks i k → AreFramesAt c s (take i ks) es → IsFrameAt c s k e → AreFramesAt c s (take (i + 1) ks) (es ++ e ∷ [])
next_entry c s ks i k es e lt is a h =
    subst (λ (w : List Kept). AreFramesAt c s w (es ++ e ∷ [])) (sym (take_more ks i k lt ∙ ap (λ (z : Kept). take i ks ++ z ∷ []) (sym is))) (push c s (take i ks) k es e a h)

pub all_entries : (c : Contents) (s : ℕ) (ks : List Kept) (i : ℕ) (es : List Entry) → length ks ≤ i → AreFramesAt c s (take i ks) es → AreFramesAt c s ks es
all_entries c s ks i es h a = subst (λ (w : List Kept). AreFramesAt c s w es) (take_all i ks h) a
