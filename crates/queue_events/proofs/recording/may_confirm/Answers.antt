use Rattle.std.proofs.Common.{sym, ◌∙◌, ap}
use Rattle.std.specs.Option.{option_copied}
use Rattle.rep_types.specs.declared.ids.Cluster.{Cluster}
use Rattle.cluster_core.specs.declared.parts.ClusterCore.{ClusterCore}
use Rattle.queue_events.proofs.Confirmed.{no_flight, has_flight, told_no_peer, told_no_queue, told_stale, told_owner_dead, told_not_delivered, told_may}
use Rattle.queue_events.proofs.recording.may_confirm.Goals as goal

pub returns-in_default : goal.returns-in_default
returns-in_default c = λ way files m reached stands flights from.
    no_flight m c.args.flights.now c.args.flight reached flights (sym c.find_sent.ensures ∙ ap option_copied c.in_default.is)

pub returns-in_default-added_peer : goal.returns-in_default-added_peer
returns-in_default-added_peer c = λ way files m reached stands flights from.
    let own : Cluster = c.args.core.now.own in
    let core : ClusterCore = c.args.core.now in
    let sent = c.in-Some.sent.now in
    let h = has_flight own files core m c.args.flights.now c.args.flight sent reached stands flights from (sym c.find_sent.ensures ∙ ap option_copied c.in-Some.is) in
    told_no_peer own files core m c.args.flight sent h (sym c.added_peer.ensures ∙ ap option_copied c.in_default-added_peer.is)

pub returns-in_default-find_line : goal.returns-in_default-find_line
returns-in_default-find_line c = λ way files m reached stands flights from.
    let own : Cluster = c.args.core.now.own in
    let core : ClusterCore = c.args.core.now in
    let sent = c.in-Some.sent.now in
    let h = has_flight own files core m c.args.flights.now c.args.flight sent reached stands flights from (sym c.find_sent.ensures ∙ ap option_copied c.in-Some.is) in
    told_no_queue own files core m c.args.flight sent h _ (sym c.added_peer.ensures ∙ ap option_copied c.in-Some-added_peer.is) (sym c.find_line.ensures ∙ ap option_copied c.in_default-find_line.is)

pub returns-then-not-is_out : goal.returns-then-not-is_out
returns-then-not-is_out c = λ way files m reached stands flights from.
    let own : Cluster = c.args.core.now.own in
    let core : ClusterCore = c.args.core.now in
    let sent = c.in-Some.sent.now in
    let h = has_flight own files core m c.args.flights.now c.args.flight sent reached stands flights from (sym c.find_sent.ensures ∙ ap option_copied c.in-Some.is) in
    told_stale own files core m c.args.flight sent h _ (sym c.added_peer.ensures ∙ ap option_copied c.in-Some-added_peer.is)
    c.in-Some-find_line.line.now (sym c.find_line.ensures ∙ ap option_copied c.in-Some-find_line.is) (sym c.is_out.ensures ∙ c.if-not-is_out.true)

pub returns-then-not-is_live : goal.returns-then-not-is_live
returns-then-not-is_live c = λ way files m reached stands flights from.
    let own : Cluster = c.args.core.now.own in
    let core : ClusterCore = c.args.core.now in
    let sent = c.in-Some.sent.now in
    let h = has_flight own files core m c.args.flights.now c.args.flight sent reached stands flights from (sym c.find_sent.ensures ∙ ap option_copied c.in-Some.is) in
    told_owner_dead own files core m c.args.flight sent h _ (sym c.added_peer.ensures ∙ ap option_copied c.in-Some-added_peer.is)
    c.in-Some-find_line.line.now (sym c.find_line.ensures ∙ ap option_copied c.in-Some-find_line.is) (sym c.is_out.ensures ∙ c.if-not-is_out.false) (sym c.is_live.ensures ∙ c.if-not-is_live.true)

pub returns-then-not-sent : goal.returns-then-not-sent
returns-then-not-sent c = λ way files m reached stands flights from.
    let own : Cluster = c.args.core.now.own in
    let core : ClusterCore = c.args.core.now in
    let sent = c.in-Some.sent.now in
    let h = has_flight own files core m c.args.flights.now c.args.flight sent reached stands flights from (sym c.find_sent.ensures ∙ ap option_copied c.in-Some.is) in
    told_not_delivered own files core m c.args.flight sent h _ (sym c.added_peer.ensures ∙ ap option_copied c.in-Some-added_peer.is)
    c.in-Some-find_line.line.now (sym c.find_line.ensures ∙ ap option_copied c.in-Some-find_line.is) (sym c.is_out.ensures ∙ c.if-not-is_out.false) (sym c.is_live.ensures ∙ c.if-not-is_live.false)
    c.if-not-sent.true

pub returns : goal.returns
returns c = λ way files m reached stands flights from.
    let own : Cluster = c.args.core.now.own in
    let core : ClusterCore = c.args.core.now in
    let sent = c.in-Some.sent.now in
    let h = has_flight own files core m c.args.flights.now c.args.flight sent reached stands flights from (sym c.find_sent.ensures ∙ ap option_copied c.in-Some.is) in
    told_may own files core m c.args.flight sent h _ (sym c.added_peer.ensures ∙ ap option_copied c.in-Some-added_peer.is)
    c.in-Some-find_line.line.now (sym c.find_line.ensures ∙ ap option_copied c.in-Some-find_line.is) (sym c.is_out.ensures ∙ c.if-not-is_out.false) (sym c.is_live.ensures ∙ c.if-not-is_live.false)
    c.if-not-sent.false
