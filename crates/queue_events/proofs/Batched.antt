-- The batch in memory is what memory keeps of the state's batch.
use Rattle.std.proofs.Common.{ℕ, zero, suc, ◌-◌, ◌≡◌, ◌&&◌, Bool, true, false, cond, List, [], ◌∷◌, ◌++◌, drop, take, refl, ap, sym, ◌∙◌, append_assoc, append-nil}
use Rattle.std.specs.Prelude.{nat_le}
use Rattle.std.proofs.lemmas.Bool.{false≢true}
use Rattle.rep_types.specs.declared.state.Kind.TheVariants.{Plain}
use Rattle.wal_entry.specs.Length.{frame_length}
use Rattle.rep_model.specs.Queues.{is_admitted, taken}
use Rattle.rep_model.specs.declared.machine.Commit.{Commit}
use Rattle.rep_model.specs.declared.machine.Peer.{Peer}
use Rattle.cluster_core.specs.declared.parts.Kept.{Kept}
use Rattle.cluster_core.specs.Memory.{kept_of, kept_after}
use Rattle.queue_events.specs.Sending.{taken_kept}

-- what stands behind so many
pub drop_kept : (at : ℕ) (B xs : List Commit) → drop at (kept_after B xs) ≡ kept_after (B ++ take at xs) (drop at xs)
drop_kept zero B xs = ap (λ (K : List Commit). kept_after K xs) (sym (append-nil B))
drop_kept (suc k) B [] = refl
drop_kept (suc k) B (x ∷ xs) = drop_kept k (B ++ x ∷ []) xs ∙ ap (λ (K : List Commit). kept_after K (drop k xs)) (append_assoc B (x ∷ []) (take k xs))

by_fit : (B : List Commit) (x : Commit) (fit ok : Bool) (ks : List Kept) (ys : List Commit) → ok ≡ true → ks ≡ kept_after (B ++ x ∷ []) ys → cond fit (kept_of B x ∷ ks) [] ≡ kept_after B (cond (fit && ok) (x ∷ ys) [])
by_fit B x fit false ks ys a e = absurd (false≢true a)
by_fit B x false true ks ys a e = refl
by_fit B x true true ks ys a e = ap (λ (zs : List Kept). kept_of B x ∷ zs) e

pub taken_is : (p : Peer) (cs : List Commit) → p.kind ≡ Plain → (n room : ℕ) (b B xs : List Commit) → taken_kept n room (kept_after B xs) ≡ kept_after B (taken p cs n room b xs)
taken_is p cs plain zero room b B xs = refl
taken_is p cs plain (suc n) room b B [] = refl
taken_is p cs plain (suc n) room b B (x ∷ xs) =
    by_fit B x (nat_le (frame_length x.kind) room) (is_admitted p.kind p cs b x) _ (taken p cs n (room - frame_length x.kind) (b ++ x ∷ []) xs)
    (ap (λ k. is_admitted k p cs b x) plain) (taken_is p cs plain n (room - frame_length x.kind) (b ++ x ∷ []) (B ++ x ∷ []) xs)

-- it is a front of the list
pub taken_front : (p : Peer) (cs : List Commit) (n room : ℕ) (b xs : List Commit) → (rest : List Commit) × (taken p cs n room b xs ++ rest ≡ xs)
taken_front p cs zero room b xs = (xs, refl)
taken_front p cs (suc n) room b [] = ([], refl)
taken_front p cs (suc n) room b (x ∷ xs) =
    let r = taken_front p cs n (room - frame_length x.kind) (b ++ x ∷ []) xs in
    by (nat_le (frame_length x.kind) room && is_admitted p.kind p cs b x) r.0 r.1
  where
    by : (fit : Bool) (rest : List Commit) → taken p cs n (room - frame_length x.kind) (b ++ x ∷ []) xs ++ rest ≡ xs → (w : List Commit) × (cond fit (x ∷ taken p cs n (room - frame_length x.kind) (b ++ x ∷ []) xs) [] ++ w ≡ x ∷ xs)
    by true rest e = (rest, ap (λ (ys : List Commit). x ∷ ys) e)
    by false rest e = (x ∷ xs, refl)

-- the first entry is in it, if its frame is small enough
pub taken_some : (p : Peer) (cs : List Commit) → p.kind ≡ Plain → (n room : ℕ) (b : List Commit) (x : Commit) (xs : List Commit) → nat_le (frame_length x.kind) room ≡ true → (ys : List Commit) × (taken p cs (suc n) room b (x ∷ xs) ≡ x ∷ ys)
taken_some p cs plain n room b x xs fits =
    let ys : List Commit = taken p cs n (room - frame_length x.kind) (b ++ x ∷ []) xs in
    (ys, ap (λ t. cond (t && is_admitted p.kind p cs b x) (x ∷ ys) []) fits ∙ ap (λ k. cond (is_admitted k p cs b x) (x ∷ ys) []) plain)
