use Rattle.std.proofs.Common.{List, ℕ, subst}
use Rattle.store_file.specs.Stored.{run, Synced}
use Rattle.store_file.proofs.Written.{only_both, tells_later}
use Rattle.store_file.proofs.write.fill.Goals as goal

pub sync-requires : goal.sync-requires
sync-requires g c = let has = c.in_ok-append.ensures.does in (has.file, has.there)

pub returns-clause-does : goal.returns-clause-does
returns-clause-does g c =
    let has = c.in_ok-append.ensures.does in
    subst (λ (b : List ℕ). Synced c.args.name.now b (g.V.Vault.contents c.sync.new.vault) c.sync.result) has.same (c.sync.ensures.does has.file has.there)

pub returns-clause-frame : goal.returns-clause-frame
returns-clause-frame g c = only_both run c.args.name.now _ _ _ c.append.ensures.frame c.sync.ensures.frame

pub returns-clause-tells : goal.returns-clause-tells
returns-clause-tells g c = tells_later _ _ _ _ c.append.ensures.tells.kept c.append.ensures.tells.planned c.sync.ensures.tells
