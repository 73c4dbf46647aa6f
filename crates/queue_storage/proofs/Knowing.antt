-- Regions that have ids, one after another.
use Rattle.std.proofs.Common.{ℕ, ◌≡◌, ◌+◌, ◌<◌, ◌==◌, List, [], ◌∷◌, ◌++◌, take, drop, get_or, length, cond, sym, ap, ◌∙◌, subst, IsSome}
use Rattle.std.proofs.lemmas.List.{take_more, at_drop_more}
use Rattle.last_ids.specs.Ids.{seq_of}
use Rattle.last_ids.specs.declared.ids.LastId.{LastId}
use Rattle.queue_storage.specs.Ids.{pushed, AreKnown}

known_push : (xs : List LastId) (x : LastId) (ids : List LastId) → AreKnown xs ids → IsSome (seq_of x.region ids) → AreKnown (xs ++ x ∷ []) ids
known_push [] x ids known new = (new, tt)
known_push (y ∷ ys) x ids known new = (known.0, known_push ys x ids known.1 new)

pub known_still : (xs old new : List LastId) → ((r : ℕ) → IsSome (seq_of r old) → IsSome (seq_of r new)) → AreKnown xs old → AreKnown xs new
known_still [] old new still known = tt
known_still (x ∷ xs) old new still known = (still x.region known.0, known_still xs old new still known.1)

pub known_next : (xs : List LastId) (i : ℕ) (x : LastId) (old new : List LastId) → i < length xs → get_or xs i x ≡ x → ((r : ℕ) → IsSome (seq_of r old) → IsSome (seq_of r new)) → AreKnown (take i xs) old → IsSome (seq_of x.region new) → AreKnown (take (i + 1) xs) new
known_next xs i x old new within is still known this =
    subst (λ ys. AreKnown ys new) (sym (take_more xs i x within ∙ ap (λ y. take i xs ++ y ∷ []) is)) (known_push (take i xs) x new (known_still (take i xs) old new still known) this)

-- what is left begins with the item
pub left : (xs : List LastId) (i : ℕ) (x : LastId) → i < length xs → get_or xs i x ≡ x → drop i xs ≡ x ∷ drop (i + 1) xs
left xs i x within is = at_drop_more (λ ys. ys) xs i x within ∙ ap (λ y. y ∷ drop (i + 1) xs) is

pub pushed_next : (r : ℕ) (xs : List LastId) (i : ℕ) (x : LastId) (n m : ℕ) → i < length xs → get_or xs i x ≡ x → m ≡ cond (x.region == r) x.seq n → pushed r (drop (i + 1) xs) m ≡ pushed r (drop i xs) n
pushed_next r xs i x n m within is e = ap (pushed r (drop (i + 1) xs)) e ∙ sym (ap (λ ys. pushed r ys n) (left xs i x within is))
