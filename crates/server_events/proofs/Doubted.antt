-- The tickets that a roll makes doubtful are those of the pending entries, in order; what is committed then ends none of them.
use Rattle.std.proofs.Common.{ℕ, zero, suc, ◌-◌, ◌≡◌, ◌⊎◌, inl, inr, true, List, [], ◌∷◌, take, slice_get, set, find, Option, Some, None, refl, ap, sym, ◌∙◌, subst}
use Rattle.std.proofs.lemmas.Bool.{cases_eq}
use Rattle.std.specs.List.{AllByRecursion}
use Rattle.std.proofs.lemmas.Option.{same_Some, none-some, slice_get_within}
use Rattle.rep_types.specs.declared.ids.Cluster.{Cluster}
use Rattle.region_meta.proofs.Changing.{set-same}
use Rattle.region_meta.proofs.Lookups.{set-here, set-other}
use Rattle.rep_model.specs.Keyed.{given}
use Rattle.rep_model.specs.State.{Route, of, is_server, unlinked}
use Rattle.rep_model.specs.Words.{is_in}
use Rattle.rep_model.specs.Tickets.{unless_told, tell_number, doubt_pending, is_doubtful, newly}
use Rattle.rep_model.specs.declared.machine.Machine.{Machine}
use Rattle.rep_model.specs.declared.machine.Server.{Server}
use Rattle.rep_model.specs.declared.machine.Side.{Side}
use Rattle.rep_model.specs.declared.machine.Pending.{Pending}
use Rattle.rep_model.specs.declared.machine.Ticket.{Ticket}
use Rattle.rep_model.specs.declared.machine.Told.{Told}
use Rattle.rep_model.specs.declared.machine.Told.TheVariants as told
use Rattle.rep_laws.proofs.Sides.{told_after}
use Rattle.cluster_core.specs.Does.{Reached}
use Rattle.cluster_core.specs.Entries.{tickets_of}
use Rattle.cluster_core.proofs.Acknowledged.{all_plain}
use Rattle.cluster_core.proofs.Telling.{put_first, tell_from, told_from, first_told, pending_newly_told}

-- ---- tickets that were told

-- the ticket of this number, if there is one, stays as it was told
abbrev IsTold : List Ticket → ℕ → Type 0
IsTold ts k = (t : Ticket) → slice_get ts (k - 1) ≡ Some t → (new : Told) → unless_told new t.told ≡ t.told

stays : (new t : Told) → unless_told new (unless_told told.Doubtful t) ≡ unless_told told.Doubtful t
stays new told.Pending = refl
stays new (told.Waiting s l x) = refl
stays new told.Plain = refl
stays new (told.Synchronous x) = refl
stays new told.Doubtful = refl

abbrev doubted : Ticket → Ticket
doubted u = record u { told = unless_told told.Doubtful u.told }

-- a ticket that is made doubtful was told, and others stay so
told_then : (ts : List Ticket) (j k : ℕ) → (j ≡ k) ⊎ IsTold ts k → IsTold (tell_from told.Doubtful 1 j ts) k
unfolding given
told_then ts j k h = by (slice_get ts (j - 1)) refl
  where
    by : (o : Option Ticket) → slice_get ts (j - 1) ≡ o → IsTold (given o ts (λ t. set ts (j - 1) (doubted t))) k
    by None e = elim h [
      | inl same ↦ λ t g new. absurd (none-some t (sym e ∙ (ap (λ n. slice_get ts (n - 1)) same ∙ g)))
      | inr f ↦ f
    ]
    by (Some u) e = λ t g new. elim (cases_eq (j - 1) (k - 1)) [
      | inl same ↦ (
          let is : doubted u ≡ t = same_Some (doubted u) t (sym (set-here ts (j - 1) (doubted u) (slice_get_within ts (j - 1) u e)) ∙ (ap (slice_get (set ts (j - 1) (doubted u))) same ∙ g)) in
          subst (λ (w : Ticket). unless_told new w.told ≡ w.told) is (stays new u.told)
          )
      | inr n ↦ elim h [
        | inl same ↦ absurd (n (ap (λ i. i - 1) same))
        | inr f ↦ f t (sym (set-other ts (j - 1) (k - 1) (doubted u) (λ q. n (sym q))) ∙ g) new
      ]
    ]

told_still : (ks : List ℕ) (ts : List Ticket) (k : ℕ) → IsTold ts k → IsTold (told_from told.Doubtful 1 ks ts) k
told_still [] ts k h = h
told_still (j ∷ ks) ts k h = told_still ks (tell_from told.Doubtful 1 j ts) k (told_then ts j k (inr h))

all_told : (ks : List ℕ) (ts : List Ticket) → AllByRecursion (IsTold (told_from told.Doubtful 1 ks ts)) ks
all_told [] ts = tt
all_told (k ∷ ks) ts = (told_still ks (tell_from told.Doubtful 1 k ts) k (told_then ts k k (inl refl)), all_told ks (tell_from told.Doubtful 1 k ts))

told_once : (ts : List Ticket) (k : ℕ) → IsTold ts k → tell_from told.Plain 1 k ts ≡ ts
unfolding given
told_once ts k h = by (slice_get ts (k - 1)) refl
  where
    by : (o : Option Ticket) → slice_get ts (k - 1) ≡ o → given o ts (λ t. set ts (k - 1) (record t { told = unless_told told.Plain t.told })) ≡ ts
    by None e = refl
    by (Some u) e = set-same ts (k - 1) u (record u { told = unless_told told.Plain u.told }) e (ap (λ (w : Told). let v : Ticket = record u { told = w } in v) (h u e told.Plain))

all_once : (ks : List ℕ) (ts : List Ticket) → AllByRecursion (IsTold ts) ks → told_from told.Plain 1 ks ts ≡ ts
all_once [] ts a = refl
all_once (k ∷ ks) ts a = ap (told_from told.Plain 1 ks) (told_once ts k a.0) ∙ all_once ks ts a.1

-- ---- the tickets of what is pending

tickets_front : (P : ℕ → Type 0) (n : ℕ) (ps : List Pending) → AllByRecursion P (tickets_of ps) → AllByRecursion P (tickets_of (take n ps))
tickets_front P zero ps a = tt
tickets_front P (suc n) [] a = tt
tickets_front P (suc n) (p ∷ ps) a = by p.ticket a (tickets_front P n ps)
  where
    by : (o : Option ℕ) → AllByRecursion P (put_first o (tickets_of ps)) → (AllByRecursion P (tickets_of ps) → AllByRecursion P (tickets_of (take n ps))) → AllByRecursion P (put_first o (tickets_of (take n ps)))
    by None b f = f b
    by (Some k) b f = (b.0, f b.1)

all_doubtful : (ps : List Pending) (ts : List Ticket) → doubt_pending ps ts ≡ told_from told.Doubtful 1 (tickets_of ps) ts
all_doubtful [] ts = refl
all_doubtful (p ∷ ps) ts = all_doubtful ps (tell_number p.ticket told.Doubtful ts) ∙ first_told told.Doubtful p.ticket ps ts

-- what is committed of entries whose tickets are doubtful ends no ticket
pub doubtful_stay : (c : Cluster) (s l n : ℕ) (ps : List Pending) (side : Side) (ts : List Ticket) → side.link ≡ unlinked → told_after c s l (take n ps) side (doubt_pending ps ts) ≡ told_from told.Doubtful 1 (tickets_of ps) ts
doubtful_stay c s l n ps side ts link =
    ap (told_after c s l (take n ps) side) (all_doubtful ps ts)
    ∙ (all_plain c s l (take n ps) side (told_from told.Doubtful 1 (tickets_of ps) ts) link
    ∙ all_once (tickets_of (take n ps)) (told_from told.Doubtful 1 (tickets_of ps) ts) (tickets_front (IsTold (told_from told.Doubtful 1 (tickets_of ps) ts)) n ps (all_told (tickets_of ps) ts)))

-- of a live server these are doubtful, once it rolls its log
pub doubtful_are : {way : Route} (own : Cluster) → is_in way own ≡ true → (m : Machine) → Reached way m → (s : ℕ) (srv : Server) → find (is_server s) (of own m).servers ≡ Some srv → srv.live ≡ true
    → newly is_doubtful 1 m.tickets (told_from told.Doubtful 1 (tickets_of srv.pending) m.tickets) ≡ tickets_of srv.pending
doubtful_are own pair m reached s srv there live = pending_newly_told told.Doubtful is_doubtful refl refl own pair m reached s srv there live
