use Rattle.std.proofs.Common.{[], ◌∷◌, ap, sym, subst, ◌∙◌}
use Rattle.rep_vault.specs.declared.store.Change.{Change}
use Rattle.rep_vault.specs.Contents.{Contents, with_records}
use Rattle.region_server.specs.Host.{HostValue}
use Rattle.rep_model.specs.State.{of}
use Rattle.cluster_core.specs.Stands.{Stands}
use Rattle.server_events.specs.Effects.{with_server}
use Rattle.server_events.proofs.ServerAdded.{server_refused, server_uncreated, server_unput, server_done, may_create_log, unput_stands, same_ok}
use Rattle.server_events.proofs.servers.server.Goals as goal

pub returns-in-Some-clause-does : goal.returns-in-Some-clause-does
returns-in-Some-clause-does g c = λ way m reached pair stands. let k = c.in-Some.ensures.state (g.V.Vault.contents c.args.own.now) (of c.args.core.now.own m) stands.servers in server_refused way _ _ _ c.args.server m stands k.server k.known

pub create-requires : goal.create-requires
create-requires g c = let k = c.requires in
    may_create_log k.0 _ _ _ c.args.server k.1 k.4 (c.in-None.ensures.state (g.V.Vault.contents c.args.own.now) (of c.args.core.now.own k.1) k.4.servers) c.in-None.ensures.at

pub returns-in-Err-StoreFault-clause-does : goal.returns-in-Err-StoreFault-clause-does
returns-in-Err-StoreFault-clause-does g c = λ way m reached pair stands.
    let h = rw c.in-Err-StoreFault.field-0-is at c.in-Err-StoreFault.ensures.does in
    let none = c.in-None.ensures.state (g.V.Vault.contents c.args.own.now) (of c.args.core.now.own m) stands.servers in
    rw c.in-Err-StoreFault.field-0-is (server_uncreated way _ _ _ c.args.server m stands none c.in-Err-StoreFault.call c.in-Err-StoreFault.count _ h.0 h.1)

pub returns-in-Ok-add-clause-does : goal.returns-in-Ok-add-clause-does
returns-in-Ok-add-clause-does g c = λ way m reached pair stands.
    server_done way _ _ _ c.args.server m stands (c.in-None.ensures.state (g.V.Vault.contents c.args.own.now) (of c.args.core.now.own m) stands.servers) pair reached c.in-Ok.ensures.small c.in-None.ensures.at _ _ _ _
    c.in-Ok-create.ensures.frame c.in-Ok-create.ensures.does
    (c.in-Done.ensures.does ∙ ap (λ (x : Change). with_records (x ∷ []) (g.V.Vault.contents c.create.new.vault)) c.in-Ok.ensures.text)
    (c.in-Ok-add.ensures ∙ ap (λ (h : HostValue). with_server c.args.server h c.args.core.now) (same_ok _ _ c.in-Ok-new.ensures))

pub returns-in-Fault-clause-does : goal.returns-in-Fault-clause-does
returns-in-Fault-clause-does g c = λ way m reached pair stands.
    let none = c.in-None.ensures.state (g.V.Vault.contents c.args.own.now) (of c.args.core.now.own m) stands.servers in
    server_unput way _ _ _ c.args.server m stands none c.in-Fault.count _
    (subst (λ (d : Contents). Stands c.args.core.now.own d c.args.core.now (of c.args.core.now.own m)) (sym c.in-Fault.ensures.does)
    (unput_stands way _ _ _ c.args.server m stands none c.in-Ok.ensures.small c.in-None.ensures.at _ _ c.in-Ok-create.ensures.frame c.in-Ok-create.ensures.does))
