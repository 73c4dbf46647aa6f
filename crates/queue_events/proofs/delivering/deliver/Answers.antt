-- A delivery is the row's.
use Rattle.std.proofs.Common.{◌≡◌, List, Some, Err, refl, ap, sym, ◌∙◌, subst}
use Rattle.std.specs.List.{AllByRecursion}
use Rattle.rep_types.specs.declared.ids.Cluster.{Cluster}
use Rattle.rep_vault.specs.Contents.{Contents}
use Rattle.rep_model.specs.QueueEvents.{flight_forms}
use Rattle.cluster_core.specs.declared.parts.ClusterCore.{ClusterCore}
use Rattle.cluster_core.specs.declared.parts.Sent.{Sent}
use Rattle.cluster_core.specs.Does.{sent_of}
use Rattle.cluster_core.proofs.Places.{taken_place}
use Rattle.queue_events.specs.Arriving.{MayArrive}
use Rattle.queue_events.proofs.Flown.{no_flight, flight_at, may_arrive, stopped_flies, all_fly, unfinished}
use Rattle.queue_events.proofs.Midway.{midway_first}
use Rattle.queue_events.proofs.delivering.deliver.Goals as goal

pub returns-in_default-clause-does : goal.returns-in_default-clause-does
returns-in_default-clause-does g c = λ way m sink. no_flight c.args.core.now.own (g.V.Vault.contents c.args.own.now) c.args.core.now c.args.flights.now c.args.flight m sink c.in_default.ensures

pub arrive_all-requires-clause-standing : goal.arrive_all-requires-clause-standing
arrive_all-requires-clause-standing g c = let s = c.requires in (s.1, midway_first c.args.core.now.own s.2.inside s.1 s.2.reached, s.2.stands)

pub arrive_all-requires-clause-may : goal.arrive_all-requires-clause-may
arrive_all-requires-clause-may g c =
    let s = c.requires in
    let own : Cluster = c.args.core.now.own in
    let old : Contents = g.V.Vault.contents c.args.own.now in
    let core : ClusterCore = c.args.core.now in
    let fs : List Sent = c.args.flights.now in
    let there = taken_place fs c.in-Some.at c.in-Some.ensures.1 in
    let f = flight_at own old core fs c.args.flight s.1 s.2 c.in-Some.at there.0 c.in-Some.ensures.0 there.1 in
    let is : c.as_slice-forms.result.now ≡ flight_forms s.0 f.0 = c.as_slice-forms.ensures ∙ ap (λ (x : Sent). x.forms) (c.sent_at-sent.ensures there.0 there.1 ∙ f.2) in
    subst (AllByRecursion MayArrive) (sym is) (may_arrive own old core fs c.args.flight s.1 s.2 f.0 f.1)

pub returns-in-Err-clause-does : goal.returns-in-Err-clause-does
returns-in-Err-clause-does g c = λ way m sink.
    unfinished way c.args.core.now.own c.args.flight c.sent_at-sent.result.now.peer c.sent_at-sent.result.now.synchronous c.as_slice-forms.result.now m (g.V.Vault.contents c.args.own.now) c.args.core.now c.args.flights.now (g.V.Vault.contents c.arrive_all.new.own) c.arrive_all.new.core c.in-Err.why (Err c.in-Err.why) refl
    (c.in-Err.ensures.does m (midway_first c.args.core.now.own sink.inside m sink.reached) sink.stands)

pub returns-in-Some-stop-clause-does : goal.returns-in-Some-stop-clause-does
returns-in-Some-stop-clause-does g c = λ way m sink.
    let own : Cluster = c.args.core.now.own in
    let old : Contents = g.V.Vault.contents c.args.own.now in
    let core : ClusterCore = c.args.core.now in
    let fs : List Sent = c.args.flights.now in
    let new : Contents = g.V.Vault.contents c.arrive_all.new.own in
    let w : ClusterCore = c.arrive_all.new.core in
    let there = taken_place fs c.in-Some.at c.in-Some.ensures.1 in
    let f = flight_at own old core fs c.args.flight m sink c.in-Some.at there.0 c.in-Some.ensures.0 there.1 in
    let is : c.sent_at-sent.result.now ≡ sent_of way f.0 = c.sent_at-sent.ensures there.0 there.1 ∙ f.2 in
    let d = c.in-Ok.ensures.does m (midway_first own sink.inside m sink.reached) sink.stands in
    let e = rw (c.as_slice-forms.ensures, is, c.in-Some-stop.is) at d in
    stopped_flies own old core fs c.args.flight m sink f.0 f.1 new w c.in-Ok.done.arrived c.in-Ok.done.acks c.in-Some-stop.cause e

pub returns-in-None-clause-does : goal.returns-in-None-clause-does
returns-in-None-clause-does g c = λ way m sink.
    let own : Cluster = c.args.core.now.own in
    let old : Contents = g.V.Vault.contents c.args.own.now in
    let core : ClusterCore = c.args.core.now in
    let fs : List Sent = c.args.flights.now in
    let new : Contents = g.V.Vault.contents c.arrive_all.new.own in
    let w : ClusterCore = c.arrive_all.new.core in
    let there = taken_place fs c.in-Some.at c.in-Some.ensures.1 in
    let f = flight_at own old core fs c.args.flight m sink c.in-Some.at there.0 c.in-Some.ensures.0 there.1 in
    let is : c.sent_at-sent.result.now ≡ sent_of way f.0 = c.sent_at-sent.ensures there.0 there.1 ∙ f.2 in
    let d = c.in-Ok.ensures.does m (midway_first own sink.inside m sink.reached) sink.stands in
    let e = rw (c.as_slice-forms.ensures, is, c.in-None.is) at d in
    all_fly own old core fs c.args.flight m sink f.0 f.1 new w c.in-Some.at c.in-Ok.done.arrived c.in-Ok.done.acks c.mark.new.flights c.in-Some.ensures.0 c.in-Some.ensures.1
    (c.mark.ensures (sent_of way f.0) (there.1 ∙ ap Some f.2)) e
