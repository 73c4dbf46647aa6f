-- The row of a seal, and what it leaves.
use Rattle.std.proofs.Common.{ℕ, ◌+◌, ◌-◌, ◌≤◌, ◌≡◌, true, false, List, [], ◌∷◌, length, take, Some, refl, ap, sym, ◌∙◌, subst, arith}
use Rattle.std.specs.List.{list_any}
use Rattle.std.proofs.Math.Nat.{min-eq_left}
use Rattle.rep_types.specs.declared.ids.Cluster.{Cluster}
use Rattle.rep_types.specs.declared.state.Call.TheVariants as call
use Rattle.rep_types.specs.declared.reply.Reply.TheVariants as reply
use Rattle.rep_vault.specs.Contents.{Contents}
use Rattle.rep_model.specs.State.{of, server_of, with_server}
use Rattle.rep_model.specs.Row.{answers, is_site, site}
use Rattle.rep_model.specs.Plan.{told}
use Rattle.rep_model.specs.LogEvents.{seal_plan}
use Rattle.rep_model.specs.Commits.{settled}
use Rattle.rep_model.specs.declared.machine.Machine.{Machine}
use Rattle.rep_model.specs.declared.machine.Side.{Side}
use Rattle.rep_model.specs.declared.machine.Server.{Server}
use Rattle.rep_model.specs.declared.machine.Ticket.{Ticket}
use Rattle.rep_laws.proofs.Sides.{told_after}
use Rattle.cluster_core.specs.declared.parts.ClusterCore.{ClusterCore}
use Rattle.cluster_core.specs.Absorbing.{standing_so, committed_side}
use Rattle.cluster_core.specs.Does.{Does}
use Rattle.cluster_core.specs.Stands.{Stands}
use Rattle.cluster_core.proofs.Answering.{is_site_self, does}
use Rattle.cluster_core.proofs.Settling.{left_with, of_left, beside_left, flights_left, settled_left}
use Rattle.cluster_core.proofs.Simple.{does_nothing}
use Rattle.server_events.specs.SealedLog.{sealed_server}

abbrev after : Cluster → Server → ℕ → Machine → Machine
after own srv n m = settled own srv.number srv.log (take n srv.pending) (with_server own (sealed_server srv) m)

others_count : (n d all : ℕ) → n + d ≡ all → d ≡ all - n
others_count n d all e = omega arith

no_more : (n d all : ℕ) → n + d ≡ all → n ≤ all
no_more n d all e = omega arith

module _ (own : Cluster) (s : ℕ) (m : Machine) (srv : Server) (there : server_of own s m ≡ Some srv) (dead : srv.live ≡ false) (unsealed : srv.sealed ≡ false) where
  row_failed : (n : ℕ) → list_any (is_site own call.Seal) (site own call.Seal ∷ []) ≡ true → told (seal_plan own s (reply.StoreFault own call.Seal n) m) (reply.StoreFault own call.Seal n) m ≡ answers (reply.StoreFault own call.Seal n) m
  unfolding seal_plan
  row_failed n self = rw (there, dead, unsealed, self) refl

  row_done : (n d : ℕ) → n ≤ length srv.pending → told (seal_plan own s (reply.Sealed n d) m) (reply.Sealed n d) m ≡ answers (reply.Sealed n (length srv.pending - n)) (after own srv n m)
  unfolding seal_plan
  row_done n d few = rw (there, dead, unsealed, min-eq_left few) refl

  pub seal_failed : (c : Contents) (core : ClusterCore) (n : ℕ) → Stands own c core (of own m) → Does own (told (seal_plan own s (reply.StoreFault own call.Seal n) m) (reply.StoreFault own call.Seal n) m) m c core (reply.StoreFault own call.Seal n)
  seal_failed c core n stands =
      let self : list_any (is_site own call.Seal) (site own call.Seal ∷ []) ≡ true = rw (is_site_self own call.Seal) refl in
      does_nothing own (told (seal_plan own s (reply.StoreFault own call.Seal n) m) (reply.StoreFault own call.Seal n) m) m c core (reply.StoreFault own call.Seal n) (row_failed n self) stands

  pub seal_done : (c : Contents) (core : ClusterCore) (n d : ℕ) → n + d ≡ length srv.pending → Stands own c core (committed_side srv (sealed_server srv) (take n srv.pending) (of own m))
      → Does own (told (seal_plan own s (reply.Sealed n d) m) (reply.Sealed n d) m) m c core (reply.Sealed n d)
  seal_done c core n d count stands =
      let side : Side = committed_side srv (sealed_server srv) (take n srv.pending) (of own m) in
      let ts : List Ticket = told_after own srv.number srv.log (take n srv.pending) (standing_so (sealed_server srv) (of own m)) m.tickets in
      let gone : Machine = after own srv n m in
      let is : gone ≡ left_with own side ts m = settled_left own srv (sealed_server srv) (take n srv.pending) m refl in
      let said : answers (reply.Sealed n (length srv.pending - n)) gone ≡ answers (reply.Sealed n d) gone =
      ap (λ k. answers (reply.Sealed n k) gone) (sym (others_count n d (length srv.pending) count)) in
      does own (told (seal_plan own s (reply.Sealed n d) m) (reply.Sealed n d) m) m gone c core (reply.Sealed n d)
      (row_done n d (no_more n d (length srv.pending) count) ∙ said)
      (subst (λ (k : Side). Stands own c core k) (sym (ap (of own) is ∙ of_left own side ts m)) stands)
      (λ e apart. ap (of e) is ∙ beside_left own side ts m e apart)
      (ap (λ (k : Machine). k.flights) is ∙ flights_left own side ts m)
