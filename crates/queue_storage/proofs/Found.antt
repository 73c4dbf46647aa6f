-- The queue that is found by its place, and what it becomes.
use Rattle.std.proofs.Common.{ℕ, ◌<◌, ◌≡◌, Bool, List, length, position, find, get_or, Option, Some, None, Result, Ok, Err, OnOk, IfSome, MatchOption, option_map, refl, ap, sym, ◌∙◌, subst}
use Rattle.std.specs.List.{position_or_len}
use Rattle.std.proofs.lemmas.Option.{slice_get-get_or, none-some, same_Some}
use Rattle.rep_model.proofs.Replacing.{at_place, find-at}

within : {X : Type 0} (p : X → Bool) (xs : List X) (at : ℕ) → position p xs ≡ Some at → at < length xs
within p xs at h = let is = at_place (position_or_len p xs) (length xs) at h in subst (λ n. n < length xs) (sym is.0) is.1

pub indexed : {X : Type 0} (p : X → Bool) (xs : List X) (at : ℕ) (x : X) → position p xs ≡ Some at → x ≡ get_or xs at x → find p xs ≡ Some x
indexed p xs at x h is = find-at p xs at h ∙ (slice_get-get_or xs at x (within p xs at h) ∙ ap (λ y. Some y) (sym is))

-- what is found, where what it becomes is known
pub record Becomes {X : Type 0} (o : Option X) (f : X → X) (y : X) : Type 0 where
  pub item : X
  pub found : o ≡ Some item
  pub now : f item ≡ y

pub becomes : {X : Type 0} (o : Option X) (f : X → X) (y : X) → Some y ≡ option_map f o → Becomes o f y
becomes None f y e = absurd (none-some y (sym e))
becomes (Some x) f y e = record { item = x; found = refl; now = sym (same_Some y (f x) e) }

pub becomes_none : {X : Type 0} (o : Option X) (f : X → X) → None ≡ option_map f o → o ≡ None
becomes_none None f e = refl
becomes_none (Some x) f e = absurd (none-some (f x) e)

pub if_becomes : {X : Type 0} (o : Option X) (f : X → X) (y : X) (P : X → Type 0) → Becomes o f y → P y → IfSome o (λ x. P (f x))
if_becomes o f y P h is = subst (λ p. IfSome p (λ x. P (f x))) (sym h.found) (subst P (sym h.now) is)

pub on_becomes : {X T E : Type 0} (r : Result T E) (o : Option X) (f : X → X) (y : X) (P : X → Type 0) → Becomes o f y → OnOk r (P y) → OnOk r (IfSome o (λ x. P (f x)))
on_becomes (Ok v) o f y P h is = if_becomes o f y P h is
on_becomes (Err e) o f y P h is = tt

pub on_ok : {T E : Type 0} (r : Result T E) (P Q : Type 0) → (P → Q) → OnOk r P → OnOk r Q
on_ok (Ok v) P Q f is = f is
on_ok (Err e) P Q f is = tt

pub on_both : {T E : Type 0} (r : Result T E) (P Q R : Type 0) → OnOk r P → OnOk r Q → (P → Q → R) → OnOk r R
on_both (Ok v) P Q R p q f = f p q
on_both (Err e) P Q R p q f = tt

pub matched : {X : Type 0} (o : Option X) (x : X) (N : Type 0) (Q : X → Type 0) → o ≡ Some x → Q x → MatchOption o N Q
matched o x N Q e h = subst (λ p. MatchOption p N Q) (sym e) h

pub unmatched : {X : Type 0} (o : Option X) (N : Type 0) (Q : X → Type 0) → o ≡ None → N → MatchOption o N Q
unmatched o N Q e h = subst (λ p. MatchOption p N Q) (sym e) h
