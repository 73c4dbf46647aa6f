-- A server's death tells the tickets of its pending entries alone, where the cluster's peers are all plain.
use Rattle.std.proofs.Common.{ℕ, ◌==◌, ◌≡◌, ◌&&◌, ◌||◌, Bool, false, List, [], ◌∷◌, map, refl, ap, ◌∙◌, subst}
use Rattle.std.specs.List.{AllByRecursion}
use Rattle.std.proofs.lemmas.Bool.{cond_both, and_parts, true≢false}
use Rattle.rep_types.specs.declared.ids.Cluster.{Cluster}
use Rattle.rep_types.specs.declared.entry.EntryId.{EntryId}
use Rattle.rep_types.specs.declared.state.Kind.{Kind}
use Rattle.rep_types.specs.declared.state.Kind.TheVariants.{Plain}
use Rattle.rep_model.specs.State.{Route, of, mark}
use Rattle.rep_model.specs.Peers.{is_synchronous}
use Rattle.rep_model.specs.Tickets.{tell_number, doubt_pending, tell_waiting, end_waiting}
use Rattle.rep_model.specs.declared.machine.Machine.{Machine}
use Rattle.rep_model.specs.declared.machine.Peer.{Peer}
use Rattle.rep_model.specs.declared.machine.Pending.{Pending}
use Rattle.rep_model.specs.declared.machine.Ticket.{Ticket}
use Rattle.rep_model.specs.declared.machine.Told.{Told}
use Rattle.rep_model.specs.declared.machine.Told.TheVariants as told
use Rattle.rep_laws.proofs.Lists.{mark_sound}
use Rattle.rep_laws.proofs.Synced.{kinds, synced}
use Rattle.cluster_core.specs.declared.parts.PeerLine.{PeerLine}
use Rattle.cluster_core.specs.Does.{Reached}
use Rattle.cluster_core.specs.Entries.{tickets_of}
use Rattle.cluster_core.specs.Memory.{peer_line}
use Rattle.cluster_core.proofs.Telling.{told_from, first_told}
use Rattle.server_events.proofs.Waiting.{waits, NoneWaits, one_waits, Unwaited, unwaited_at, unwaited_run}

abbrev pub ArePlain : List PeerLine → Type 0
ArePlain ls = AllByRecursion (λ (l : PeerLine). l.kind ≡ Plain) ls

not_synced : (ps : List Peer) → ArePlain (map peer_line ps) → synced (kinds ps) ≡ false
not_synced [] a = refl
not_synced (p ∷ ps) a = ap (λ (k : Kind). is_synchronous k || synced (kinds ps)) a.0 ∙ not_synced ps a.1

pub nothing_waits : {way : Route} (own : Cluster) (m : Machine) → Reached way m → ArePlain (map peer_line (of own m).peers) → NoneWaits own m.tickets
nothing_waits {way} own m reached plain = unwaited_at own m (subst Unwaited reached.leads (unwaited_run way reached.steps reached.legal)) (not_synced (of own m).peers plain)

-- ---- the end of what waits

module _ (c : Cluster) (test : ℕ → ℕ → Bool) (new : EntryId → Told) where
  stays : (t : Ticket) (k : Told) → (t.cluster ≡ c → waits k ≡ false) → end_waiting c test new t k ≡ k
  stays t told.Pending h = refl
  stays t (told.Waiting s l i) h =
      cond_both ((mark t.cluster == mark c) && test s l) (new i) (told.Waiting s l i) (λ (u : Told). u ≡ told.Waiting s l i)
      (λ b. absurd (true≢false (h (mark_sound t.cluster c (and_parts (mark t.cluster == mark c) (test s l) b).0))))
      (λ _. refl)
  stays t told.Plain h = refl
  stays t (told.Synchronous i) h = refl
  stays t told.Doubtful h = refl

  all_stay : (ts : List Ticket) → NoneWaits c ts → tell_waiting c test new ts ≡ ts
  all_stay [] a = refl
  all_stay (t ∷ ts) a =
      ap (λ (k : Told). (let u : Ticket = record t { told = k } in u) ∷ tell_waiting c test new ts) (stays t t.told a.0)
      ∙ ap (λ (us : List Ticket). t ∷ us) (all_stay ts a.1)

  -- where none waits, the tickets of what is pending are all that are told
  pub pending_told : (ps : List Pending) (ts : List Ticket) → NoneWaits c ts → tell_waiting c test new (doubt_pending ps ts) ≡ told_from told.Doubtful 1 (tickets_of ps) ts
  pending_told [] ts a = all_stay ts a
  pending_told (p ∷ ps) ts a = pending_told ps (tell_number p.ticket told.Doubtful ts) (one_waits c told.Doubtful p.ticket ts (λ _ _ _ _ _. refl) a) ∙ first_told told.Doubtful p.ticket ps ts
