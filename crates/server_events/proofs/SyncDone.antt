-- What a sync leaves.
use Rattle.std.proofs.Common.{ℕ, ◌≡◌, true, List, [], ◌∷◌, length, Some, refl, ap, sym, ◌∙◌, subst, append-nil}
use Rattle.std.specs.List.{list_any}
use Rattle.rep_types.specs.declared.ids.Cluster.{Cluster}
use Rattle.rep_types.specs.declared.state.Call.TheVariants as call
use Rattle.rep_types.specs.declared.reply.Reply.TheVariants as reply
use Rattle.rep_vault.specs.Contents.{Contents}
use Rattle.rep_model.specs.State.{Route, of, server_of, with_server, unlinked}
use Rattle.rep_model.specs.Words.{is_in}
use Rattle.rep_model.specs.Row.{answers, is_site, site}
use Rattle.rep_model.specs.Plan.{told}
use Rattle.rep_model.specs.Commits.{settled}
use Rattle.rep_model.specs.Tickets.{acks, is_acknowledged, newly}
use Rattle.rep_model.specs.LogEvents.{emptied, broken, synced_with, sync_plan}
use Rattle.rep_model.specs.declared.machine.Machine.{Machine}
use Rattle.rep_model.specs.declared.machine.Side.{Side}
use Rattle.rep_model.specs.declared.machine.Server.{Server}
use Rattle.rep_model.specs.declared.machine.Pending.{Pending}
use Rattle.rep_model.specs.declared.machine.Ticket.{Ticket}
use Rattle.rep_laws.proofs.Citing as citing
use Rattle.rep_laws.proofs.Sides.{told_after}
use Rattle.cluster_core.specs.declared.parts.ClusterCore.{ClusterCore}
use Rattle.cluster_core.specs.Absorbing.{standing_so, committed_side}
use Rattle.cluster_core.specs.Does.{Reached, Does}
use Rattle.cluster_core.specs.Entries.{tickets_of}
use Rattle.cluster_core.specs.Stands.{waiting, Stands}
use Rattle.cluster_core.proofs.Acknowledged.{plain_from, all_plain, acks_are}
use Rattle.cluster_core.proofs.Answering.{is_site_self, does}
use Rattle.cluster_core.proofs.Settling.{left_with, of_left, beside_left, flights_left, settled_left}
use Rattle.cluster_core.proofs.Simple.{does_with}

after_sync : (own : Cluster) (srv : Server) (m : Machine) → synced_with own srv [] m
    ≡ left_with own (committed_side srv (emptied srv) srv.pending (of own m)) (told_after own srv.number srv.log srv.pending (standing_so (emptied srv) (of own m)) m.tickets) m
after_sync own srv m = ap (λ (ps : List Pending). settled own srv.number srv.log ps (with_server own (emptied srv) m)) (append-nil srv.pending) ∙ settled_left own srv (emptied srv) srv.pending m refl

pub sync_failed : (own : Cluster) (s n : ℕ) (m : Machine) (srv : Server) (c : Contents) (core : ClusterCore) → server_of own s m ≡ Some srv → srv.live ≡ true → srv.whole ≡ true
    → Stands own c core (standing_so (broken srv) (of own m)) → Does own (told (sync_plan own s m) (reply.StoreFault own call.Sync n) m) m c core (reply.StoreFault own call.Sync n)
sync_failed own s n m srv c core there live whole stands =
    let self : list_any (is_site own call.Sync) (site own call.Sync ∷ []) ≡ true = rw (is_site_self own call.Sync) refl in
    does_with own (told (sync_plan own s m) (reply.StoreFault own call.Sync n) m) m (standing_so (broken srv) (of own m)) c core (reply.StoreFault own call.Sync n) (citing.sync_failed own s n m srv there live whole self) stands

pub sync_done : {way : Route} (own : Cluster) (s : ℕ) (m : Machine) (srv : Server) (c : Contents) (core : ClusterCore) (n : ℕ) (ks : List ℕ) → is_in way own ≡ true → Reached way m → server_of own s m ≡ Some srv
    → srv.live ≡ true → srv.whole ≡ true → (of own m).link ≡ unlinked → n ≡ length srv.pending → ks ≡ waiting srv.live (tickets_of srv.pending) → Stands own c core (committed_side srv (emptied srv) srv.pending (of own m))
    → Does own (told (sync_plan own s m) (reply.Synced n ks) m) m c core (reply.Synced n ks)
sync_done own s m srv c core n ks pair reached there live whole link long tickets stands =
    let side : Side = of own m in
    let left : Side = committed_side srv (emptied srv) srv.pending side in
    let ts : List Ticket = told_after own srv.number srv.log srv.pending (standing_so (emptied srv) side) m.tickets in
    let after : Machine = synced_with own srv [] m in
    let is : after ≡ left_with own left ts m = after_sync own srv m in
    let marked : after.tickets ≡ plain_from 1 (tickets_of srv.pending) m.tickets = ap (λ (k : Machine). k.tickets) is ∙ all_plain own srv.number srv.log srv.pending (standing_so (emptied srv) side) m.tickets link in
    let acked : acks m after ≡ tickets_of srv.pending = ap (newly is_acknowledged 1 m.tickets) marked ∙ acks_are own pair m reached s srv there live in
    let kept : ks ≡ tickets_of srv.pending = tickets ∙ ap (λ b. waiting b (tickets_of srv.pending)) live in
    let said : answers (reply.Synced (length srv.pending) (acks m after)) after ≡ answers (reply.Synced n ks) after =
    ap (λ k. answers (reply.Synced k (acks m after)) after) (sym long) ∙ ap (λ xs. answers (reply.Synced n xs) after) (acked ∙ sym kept) in
    does own (told (sync_plan own s m) (reply.Synced n ks) m) m after c core (reply.Synced n ks) (citing.sync_done own s n ks m srv there live whole ∙ said)
    (subst (λ (k : Side). Stands own c core k) (sym (ap (of own) is ∙ of_left own left ts m)) stands)
    (λ d apart. ap (of d) is ∙ beside_left own left ts m d apart)
    (ap (λ (k : Machine). k.flights) is ∙ flights_left own left ts m)
