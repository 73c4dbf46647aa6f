-- How a batch is taken from a list that is filtered, entry by entry.
use Rattle.std.proofs.Common.{◌≡◌, ℕ, zero, suc, ◌+◌, ◌-◌, ◌<◌, ◌≤◌, Bool, true, false, ◌&&◌, cond, List, [], ◌∷◌, ◌++◌, length, get_or, drop, filter, refl, ap, sym, ◌∙◌}
use Rattle.std.specs.Prelude.{nat_le}
use Rattle.std.proofs.lemmas.List.{at_drop_more, at_drop_all, append_assoc, append-nil}
use Rattle.wal_entry.specs.Length.{frame_length}
use Rattle.rep_model.specs.Queues.{is_admitted, taken}
use Rattle.rep_model.specs.declared.machine.Commit.{Commit}
use Rattle.rep_model.specs.declared.machine.Peer.{Peer}

-- the entry may come next
abbrev pub fits : Peer → List Commit → ℕ → List Commit → Commit → Bool
fits p cs room b x = nat_le (frame_length x.kind) room && is_admitted p.kind p cs b x

pub taken-none : (p : Peer) (cs : List Commit) (n room : ℕ) (b xs : List Commit) → n ≡ 0 → taken p cs n room b xs ≡ []
taken-none p cs n room b xs h = ap (λ (k : ℕ). taken p cs k room b xs) h

taken-nil : (p : Peer) (cs : List Commit) (n room : ℕ) (b : List Commit) → taken p cs n room b [] ≡ []
taken-nil p cs zero room b = refl
taken-nil p cs (suc n) room b = refl

pub taken-stop : (p : Peer) (cs : List Commit) (n room : ℕ) (b : List Commit) (x : Commit) (xs : List Commit) → fits p cs room b x ≡ false → taken p cs n room b (x ∷ xs) ≡ []
taken-stop p cs zero room b x xs h = refl
taken-stop p cs (suc n) room b x xs h = ap (λ (t : Bool). cond t (x ∷ taken p cs n (room - frame_length x.kind) (b ++ x ∷ []) xs) []) h

taken-go : (p : Peer) (cs : List Commit) (n room : ℕ) (b : List Commit) (x : Commit) (xs : List Commit) → fits p cs room b x ≡ true → taken p cs (suc n) room b (x ∷ xs) ≡ x ∷ taken p cs n (room - frame_length x.kind) (b ++ x ∷ []) xs
taken-go p cs n room b x xs h = ap (λ (t : Bool). cond t (x ∷ taken p cs n (room - frame_length x.kind) (b ++ x ∷ []) xs) []) h

-- what is left of the filtered list, where the item at its place passes, or doesn't
passed : (q : Commit → Bool) (w : List Commit) (i : ℕ) (x : Commit) → i < length w → x ≡ get_or w i x → q x ≡ true → filter q (drop i w) ≡ x ∷ filter q (drop (i + 1) w)
passed q w i x lt is h =
    at_drop_more (filter q) w i x lt
    ∙ ap (λ (z : Commit). filter q (z ∷ drop (i + 1) w)) (sym is)
    ∙ ap (λ (t : Bool). cond t (x ∷ filter q (drop (i + 1) w)) (filter q (drop (i + 1) w))) h

skipped : (q : Commit → Bool) (w : List Commit) (i : ℕ) (x : Commit) → i < length w → x ≡ get_or w i x → q x ≡ false → filter q (drop i w) ≡ filter q (drop (i + 1) w)
skipped q w i x lt is h =
    at_drop_more (filter q) w i x lt
    ∙ ap (λ (z : Commit). filter q (z ∷ drop (i + 1) w)) (sym is)
    ∙ ap (λ (t : Bool). cond t (x ∷ filter q (drop (i + 1) w)) (filter q (drop (i + 1) w))) h

-- the batch so far and what is taken of the rest are the whole batch: at the next place, where the batch ends, and at the end of the list
pub batch-skip : (p : Peer) (cs : List Commit) (n room : ℕ) (b whole : List Commit) (q : Commit → Bool) (w : List Commit) (i : ℕ) (x : Commit) → b ++ taken p cs n room b (filter q (drop i w)) ≡ whole → i < length w → x ≡ get_or w i x → q x ≡ false → b ++ taken p cs n room b (filter q (drop (i + 1) w)) ≡ whole
batch-skip p cs n room b whole q w i x sofar lt is h =
    ap (λ (zs : List Commit). b ++ taken p cs n room b zs) (sym (skipped q w i x lt is h)) ∙ sofar

pub batch-stop : (p : Peer) (cs : List Commit) (n room : ℕ) (b whole : List Commit) (q : Commit → Bool) (w : List Commit) (i : ℕ) (x : Commit) → b ++ taken p cs n room b (filter q (drop i w)) ≡ whole → i < length w → x ≡ get_or w i x → q x ≡ true → taken p cs n room b (x ∷ filter q (drop (i + 1) w)) ≡ [] → b ≡ whole
batch-stop p cs n room b whole q w i x sofar lt is h stops =
    sym (append-nil b)
    ∙ ap (λ (zs : List Commit). b ++ zs) (sym stops)
    ∙ ap (λ (zs : List Commit). b ++ taken p cs n room b zs) (sym (passed q w i x lt is h))
    ∙ sofar

pub batch-take : (p : Peer) (cs : List Commit) (n room : ℕ) (b whole : List Commit) (q : Commit → Bool) (w : List Commit) (i : ℕ) (x : Commit) (m : ℕ) → b ++ taken p cs n room b (filter q (drop i w)) ≡ whole → i < length w → x ≡ get_or w i x → q x ≡ true → fits p cs room b x ≡ true → n ≡ suc m → (b ++ x ∷ []) ++ taken p cs m (room - frame_length x.kind) (b ++ x ∷ []) (filter q (drop (i + 1) w)) ≡ whole
batch-take p cs n room b whole q w i x m sofar lt is h fit more =
    append_assoc b (x ∷ []) (taken p cs m (room - frame_length x.kind) (b ++ x ∷ []) (filter q (drop (i + 1) w)))
    ∙ ap (λ (zs : List Commit). b ++ zs) (sym (taken-go p cs m room b x (filter q (drop (i + 1) w)) fit))
    ∙ ap (λ (k : ℕ). b ++ taken p cs k room b (x ∷ filter q (drop (i + 1) w))) (sym more)
    ∙ ap (λ (zs : List Commit). b ++ taken p cs n room b zs) (sym (passed q w i x lt is h))
    ∙ sofar

pub batch-end : (p : Peer) (cs : List Commit) (n room : ℕ) (b whole : List Commit) (q : Commit → Bool) (w : List Commit) (i : ℕ) → b ++ taken p cs n room b (filter q (drop i w)) ≡ whole → length w ≤ i → b ≡ whole
batch-end p cs n room b whole q w i sofar done =
    sym (append-nil b)
    ∙ ap (λ (zs : List Commit). b ++ zs) (sym (taken-nil p cs n room b))
    ∙ ap (λ (zs : List Commit). b ++ taken p cs n room b zs) (sym (at_drop_all (filter q) w i done))
    ∙ sofar
