-- No ticket waits of a cluster that has no synchronous peer.
use Rattle.std.proofs.Common.{ℕ, zero, suc, ◌-◌, ◌≡◌, ◌&&◌, cond, Bool, true, false, List, [], ◌∷◌, ◌++◌, length, slice_get, Option, Some, None, refl, ap, sym, ◌∙◌, subst}
use Rattle.std.specs.Prelude.{slice_set}
use Rattle.std.specs.List.{AllByRecursion}
use Rattle.std.specs.Option.{option_map}
use Rattle.std.proofs.lemmas.Bool.{false≢true}
use Rattle.std.proofs.lemmas.Option.{same_Some, slice_get-map}
use Rattle.rep_types.specs.declared.ids.Cluster.{Cluster}
use Rattle.rep_types.specs.declared.ids.Cluster.TheVariants.{A, B, C}
use Rattle.rep_types.specs.declared.state.SyncState.{SyncState}
use Rattle.rep_types.specs.declared.state.SyncState.TheVariants as state
use Rattle.rep_model.specs.Keyed.{given}
use Rattle.rep_model.specs.State.{Route, dest, opening, of, with}
use Rattle.rep_model.specs.Rows.{row}
use Rattle.rep_model.specs.Runs.{Counts, Step, after, no_faults, LegalFrom, IsLegalOn, state_from, state_on}
use Rattle.rep_model.specs.Commits.{id_of, commit_of}
use Rattle.rep_model.specs.Peers.{is_absent, is_active, is_covered}
use Rattle.rep_model.specs.PeerEvents.{new_peer}
use Rattle.rep_model.specs.Tickets.{unless_told, tell_number, told_by}
use Rattle.rep_model.specs.declared.machine.Machine.{Machine}
use Rattle.rep_model.specs.declared.machine.Side.{Side}
use Rattle.rep_model.specs.declared.machine.Peer.{Peer}
use Rattle.rep_model.specs.declared.machine.Pending.{Pending}
use Rattle.rep_model.specs.declared.machine.Ticket.{Ticket}
use Rattle.rep_model.specs.declared.machine.Told.{Told}
use Rattle.rep_model.specs.declared.machine.Told.TheVariants as told
use Rattle.rep_laws.proofs.Lists.{All_weaker, All_append}
use Rattle.rep_laws.proofs.DoesQueues.{AllPaired}
use Rattle.rep_laws.proofs.Lawful.{Lawful, opening_lawful}
use Rattle.rep_laws.proofs.LinkPart.{Links, link_at, move_links, kinds_same, restart_kinds, serial_kind}
use Rattle.rep_laws.proofs.PairedPart.{row_pairs}
use Rattle.rep_laws.proofs.RowMoves.{row_moves}
use Rattle.rep_laws.proofs.SerialPart.{found_again}
use Rattle.rep_laws.proofs.Sides.{settled_side, committed_one, told_one, told_after}
use Rattle.rep_laws.proofs.SoundPart.{Sounds, number_clusters, all_sound, move_sounds}
use Rattle.rep_laws.proofs.Synced.{kind_of, kinds, synced, synced_pushed, kinds_pushed}
use Rattle.rep_laws.proofs.Moves.{claims, clusters, flown_off, Retold, WhyTold, StillTold, NoClaim, NowSaved, Moves, Still, Then, Move, Tells, Gives, Phases, Copies, Offers, Sweeps, MakesFolder, Begins, Replays, Lands, Turns, Rewrites, Drops, Serves, Hosts, Settles, Flies, Marks, Notes, AddsPeer, MakesSerial, SetsStanding, Restarts}

-- the ticket waits for a remote copy
abbrev pub waits : Told → Bool
waits told.Pending = false
waits (told.Waiting s l i) = true
waits told.Plain = false
waits (told.Synchronous i) = false
waits told.Doubtful = false

-- none of the cluster's tickets does
abbrev pub NoneWaits : Cluster → List Ticket → Type 0
NoneWaits c ts = AllByRecursion (λ (t : Ticket). t.cluster ≡ c → waits t.told ≡ false) ts

-- ---- a ticket is told

told_waits : (new t : Told) → waits new ≡ false → waits t ≡ false → waits (unless_told new t) ≡ false
told_waits new told.Pending n h = n
told_waits new (told.Waiting s l i) n h = h
told_waits new told.Plain n h = refl
told_waits new (told.Synchronous i) n h = refl
told_waits new told.Doubtful n h = refl

set_waits : (c : Cluster) (new : Told) (ts : List Ticket) (i : ℕ) (t : Ticket) → slice_get ts i ≡ Some t → (t.cluster ≡ c → waits new ≡ false) → NoneWaits c ts → NoneWaits c (slice_set ts i (record t { told = unless_told new t.told }))
set_waits c new [] i t e n a = tt
set_waits c new (u ∷ ts) zero t e n a = (
  λ own. told_waits new t.told (n own) (subst (λ (v : Ticket). v.cluster ≡ c → waits v.told ≡ false) (same_Some u t e) a.0 own),
  a.1,
)
set_waits c new (u ∷ ts) (suc i) t e n a = (a.0, set_waits c new ts i t e n a.1)

-- where its end isn't to wait, if the ticket is of the cluster
pub one_waits : (c : Cluster) (new : Told) (o : Option ℕ) (ts : List Ticket) → ((k : ℕ) (t : Ticket) → o ≡ Some k → slice_get ts (k - 1) ≡ Some t → t.cluster ≡ c → waits new ≡ false) → NoneWaits c ts → NoneWaits c (tell_number o new ts)
unfolding given
one_waits c new None ts n a = a
one_waits c new (Some k) ts n a = by (slice_get ts (k - 1)) refl
  where
    by : (o : Option Ticket) → slice_get ts (k - 1) ≡ o → NoneWaits c (given o ts (λ t. slice_set ts (k - 1) (record t { told = unless_told new t.told })))
    by None e = a
    by (Some t) e = set_waits c new ts (k - 1) t e (n k t refl e) a

why_waits : (way : Route) (m : Machine) (c : Cluster) (t u : Told) → WhyTold way m c t u → waits t ≡ false → waits u ≡ false
why_waits way m c _ _ (StillTold t) h = h
why_waits way m c _ _ (NoClaim t u n) h = no_claim u n
  where
    no_claim : (v : Told) → claims v ≡ false → waits v ≡ false
    no_claim told.Pending e = refl
    no_claim (told.Waiting s l i) e = e
    no_claim told.Plain e = refl
    no_claim (told.Synchronous i) e = refl
    no_claim told.Doubtful e = refl
why_waits way m c _ _ (NowSaved s l i holds) h = refl

retold_waits : (way : Route) (m : Machine) (c : Cluster) (ts us : List Ticket) → Retold way m ts us → NoneWaits c ts → NoneWaits c us
retold_waits way m c [] [] r a = tt
retold_waits way m c [] (u ∷ us) r a = absurd r
retold_waits way m c (t ∷ ts) [] r a = absurd r
retold_waits way m c (t ∷ ts) (u ∷ us) r a = (λ e. why_waits way m t.cluster t.told u.told r.1 (a.0 (sym r.0 ∙ e)), retold_waits way m c ts us r.2 a.1)

-- ---- entries are committed

inactive : (s : SyncState) → is_absent s ≡ true → is_active s ≡ false
inactive state.Absent e = refl
inactive state.Active e = absurd (false≢true e)
inactive state.Downgrade e = refl
inactive state.Standby e = refl

-- what is pending has tickets of its own cluster
abbrev OwnTicket : Cluster → List Cluster → Pending → Type 0
OwnTicket c cs p = (k : ℕ) → p.ticket ≡ Some k → slice_get cs (k - 1) ≡ Some c

committed_waits : (c d : Cluster) (s l : ℕ) (ps : List Pending) (side : Side) (ts : List Ticket) (cs : List Cluster) → clusters ts ≡ cs → AllByRecursion (OwnTicket c cs) ps → (c ≡ d → is_absent side.link.state ≡ true) → NoneWaits d ts → NoneWaits d (told_after c s l ps side ts)
committed_waits c d s l [] side ts cs e own absent a = a
committed_waits c d s l (p ∷ ps) side ts cs e own absent a =
    committed_waits c d s l ps (committed_one s l p side) (told_one c s l p side ts) cs (number_clusters p.ticket _ ts ∙ e) own.1 absent (one_waits d _ p.ticket ts by a)
  where
    by : (k : ℕ) (t : Ticket) → p.ticket ≡ Some k → slice_get ts (k - 1) ≡ Some t → t.cluster ≡ d → waits (told_by side s l (id_of c (commit_of s l side.commits p)) p.region.table.name) ≡ false
    by k t ticket there here =
        let is : c ≡ t.cluster =
        same_Some c t.cluster (sym (own.0 k ticket) ∙ (ap (λ (w : List Cluster). slice_get w (k - 1)) (sym e) ∙ (slice_get-map (λ (u : Ticket). u.cluster) ts (k - 1) ∙ ap (option_map (λ (u : Ticket). u.cluster)) there))) in
        ap (λ b. waits (cond (b && is_covered p.region.table.name side) (told.Waiting s l (id_of c (commit_of s l side.commits p))) told.Plain)) (inactive side.link.state (absent (is ∙ here)))

-- ---- a state

-- of no cluster without a synchronous peer a ticket waits
pub record Unwaited (m : Machine) : Type 0 where
  pub a : synced (kinds m.a.peers) ≡ false → NoneWaits A m.tickets
  pub b : synced (kinds m.b.peers) ≡ false → NoneWaits B m.tickets
  pub c : synced (kinds m.c.peers) ≡ false → NoneWaits C m.tickets

pub unwaited_at : (c : Cluster) (m : Machine) → Unwaited m → synced (kinds (of c m).peers) ≡ false → NoneWaits c m.tickets
unwaited_at A m k = k.a
unwaited_at B m k = k.b
unwaited_at C m k = k.c

unwaited_with : (c : Cluster) (s : Side) (m : Machine) → (synced (kinds s.peers) ≡ false → synced (kinds (of c m).peers) ≡ false) → Unwaited m → Unwaited (with c s m)
unwaited_with A s m h k = record { a = λ n. k.a (h n); b = k.b; c = k.c }
unwaited_with B s m h k = record { a = k.a; b = λ n. k.b (h n); c = k.c }
unwaited_with C s m h k = record { a = k.a; b = k.b; c = λ n. k.c (h n) }

unwaited_kinds : (c : Cluster) (s : Side) (m : Machine) → kinds s.peers ≡ kinds (of c m).peers → Unwaited m → Unwaited (with c s m)
unwaited_kinds c s m e k = unwaited_with c s m (λ n. ap synced (sym e) ∙ n) k

unwaited_tickets : (m : Machine) (ts : List Ticket) → ((d : Cluster) → synced (kinds (of d m).peers) ≡ false → NoneWaits d m.tickets → NoneWaits d ts) → Unwaited m → Unwaited (record m { tickets = ts })
unwaited_tickets m ts h k = record { a = λ n. h A n (k.a n); b = λ n. h B n (k.b n); c = λ n. h C n (k.c n) }

-- the tickets of a machine with another side
told_with : (c : Cluster) (s : Side) (ts : List Ticket) (m : Machine) → s.peers ≡ (of c m).peers → ((d : Cluster) → (c ≡ d → synced (kinds s.peers) ≡ false) → NoneWaits d m.tickets → NoneWaits d ts) → Unwaited m → Unwaited (record (with c s m) { tickets = ts })
told_with A s ts m same h k = record { a = λ n. h A (λ _. n) (k.a (ap (λ (ps : List Peer). synced (kinds ps)) (sym same) ∙ n)); b = λ n. h B (λ e. absurd (cc)) (k.b n); c = λ n. h C (λ e. absurd (cc)) (k.c n) }
told_with B s ts m same h k = record { a = λ n. h A (λ e. absurd (cc)) (k.a n); b = λ n. h B (λ _. n) (k.b (ap (λ (ps : List Peer). synced (kinds ps)) (sym same) ∙ n)); c = λ n. h C (λ e. absurd (cc)) (k.c n) }
told_with C s ts m same h k = record { a = λ n. h A (λ e. absurd (cc)) (k.a n); b = λ n. h B (λ e. absurd (cc)) (k.b n); c = λ n. h C (λ _. n) (k.c (ap (λ (ps : List Peer). synced (kinds ps)) (sym same) ∙ n)) }

move_unwaited : {way : Route} {may : Cluster → Bool} (m new : Machine) → Move way may m new → Links m → Sounds m → Unwaited m → Unwaited new
move_unwaited {way} m new (Tells ts why) l o k = unwaited_tickets m ts (λ d _ a. retold_waits way m d m.tickets ts why a) k
move_unwaited m new (Gives c pair) l o k = unwaited_tickets m _ (λ d _ a. All_append (λ (t : Ticket). t.cluster ≡ d → waits t.told ≡ false) m.tickets _ a (λ _. refl, tt)) k
move_unwaited m new (Phases c pair state phase change) l o k = unwaited_with c _ m (λ n. n) k
move_unwaited {way} m new (Copies c pair s j) l o k = unwaited_with (dest way c) _ m (λ n. n) k
move_unwaited {way} m new (Offers c pair j whole i) l o k = unwaited_with (dest way c) _ m (λ n. n) k
move_unwaited {way} m new (Sweeps c pair j spares) l o k = unwaited_with (dest way c) _ m (λ n. n) k
move_unwaited m new (MakesFolder c pair ok standby busy over) l o k = unwaited_with c _ m (λ n. n) k
move_unwaited m new (Begins c pair there over) l o k = unwaited_with c _ m (λ n. n) k
move_unwaited m new (Replays c pair j n lowest under there le) l o k = unwaited_with c _ m (λ h. h) k
move_unwaited m new (Lands c pair q next e none) l o k = unwaited_with c _ m (λ n. n) k
move_unwaited m new (Turns c pair forms) l o k = unwaited_with c _ m (λ n. n) k
move_unwaited m new (Rewrites c pair q form found) l o k = unwaited_with c _ m (λ n. n) k
move_unwaited m new (Drops c pair p) l o k = unwaited_with c _ m (λ n. n) k
move_unwaited m new (Serves c pair s none) l o k = unwaited_with c _ m (λ n. n) k
move_unwaited m new (Hosts c pair tables servers regions same grown still places) l o k = unwaited_with c _ m (λ n. n) k
move_unwaited {way} m new (Settles c pair s j xs servers regions same still places whence) l o k =
    let side : Side = record (of c m) { servers = servers; regions = regions } in
    subst Unwaited (sym (settled_side c s j xs side m))
    (told_with c _ (told_after c s j xs side m.tickets) m refl
    (λ d none a. committed_waits c d s j xs side m.tickets (clusters m.tickets) refl (All_weaker (λ p ok i e. (ok.put i e).ticket) xs (all_sound way c pair m o xs whence)) (λ e. ((link_at c m l).absent (none e)).0) a) k)
move_unwaited m new (Flies c pair x q s n there found) l o k = unwaited_with c _ (flown_off c x s n m) (λ h. h) (record { a = k.a; b = k.b; c = k.c })
move_unwaited m new (Marks j f there pair arrived) l o k = record { a = k.a; b = k.b; c = k.c }
move_unwaited m new (Notes f x q here pair there delivered found out) l o k =
    unwaited_with f.cluster _ _ (λ n. n) (unwaited_kinds f.cluster _ m (kinds_same x (record x { recorded = x.recorded ++ f.entries }) (of f.cluster m).peers (found_again f.peer (of f.cluster m).peers x there) refl) k)
move_unwaited m new (AddsPeer c pair p kind tables none covering) l o k =
    let peer : Peer = new_peer p kind tables (length (of c m).commits) in
    unwaited_with c _ m (λ n. (synced_pushed (kinds (of c m).peers) (kind_of peer) (ap synced (sym (kinds_pushed (of c m).peers peer)) ∙ n)).0) k
move_unwaited m new (MakesSerial c pair x there plain apart) l o k = unwaited_kinds c _ m (kinds_same x _ (of c m).peers there (serial_kind x apart)) k
move_unwaited m new (SetsStanding c pair x standing there) l o k = unwaited_kinds c _ m (kinds_same x _ (of c m).peers there refl) k
move_unwaited m new (Restarts c pair) l o k = unwaited_kinds c _ m (restart_kinds (length (of c m).commits) (of c m).peers) k

-- ---- a run

-- what the moves of a row keep
record Keeps (m : Machine) : Type 0 where
  links : Links m
  sound : Sounds m
  unwaited : Unwaited m

moves_keep : {way : Route} {may : Cluster → Bool} (m new : Machine) → Moves way may m new → Keeps m → Keeps new
moves_keep m new Still k = k
moves_keep m new (Then ms n) k = let mid = moves_keep m _ ms k in record {
  links = move_links _ _ n mid.links;
  sound = move_sounds _ _ n mid.sound;
  unwaited = move_unwaited _ _ n mid.links mid.sound mid.unwaited;
}

keeps_from : (way : Route) (ss : List Step) (m : Machine) (n : Counts) → AllPaired way m.flights → Keeps m → LegalFrom way m n ss → Keeps (state_from way m ss)
unfolding after
keeps_from way [] m n pairs k legal = k
keeps_from way (s ∷ ss) m n pairs k legal =
    keeps_from way ss (row way s.event s.reply m).state s.faults (row_pairs way s.event legal.0.worded s.reply m pairs) (moves_keep m _ (row_moves s.event legal.0.worded s.reply m pairs) k) legal.1

pub unwaited_run : (way : Route) (steps : List Step) → IsLegalOn way steps → Unwaited (state_on way steps)
unfolding IsLegalOn state_on
unwaited_run way steps legal =
    let start : Lawful way opening = opening_lawful way in
    (keeps_from way steps opening no_faults start.pairs (record { links = start.links; sound = start.sound; unwaited = record { a = λ _. tt; b = λ _. tt; c = λ _. tt } }) legal).unwaited
