use Rattle.std.proofs.Common.{rules, Some, None, sym, ◌∙◌, ap, true≢false, is_some}
use Rattle.rep_vault.proofs.Maps.{puts_key, puts_at, still_there, place_there, moves_folder}
use Rattle.rep_vault.proofs.folder.move_folder.Goals as goal

pub unreachable-requires : goal.unreachable-requires
unreachable-requires c =
    let made = puts_key c.args.to.now c.in_ok-key.key (Some c.new.result) c.args.folders.now c.insert.new.self c.in_ok-key.ensures.ok c.in_ok-insert.ensures.updates in
    let there = still_there c.args.from.now c.args.to.now c.new.result c.args.folders.now c.insert.new.self c.requires.stands c.requires.free made in
    true≢false (sym c.requires.stands ∙ ap is_some (sym there ∙ sym c.remove.ensures.value ∙ c.in_default.is))

pub unreachable-requires-in_default-get_mut : goal.unreachable-requires-in_default-get_mut
unreachable-requires-in_default-get_mut c =
    let made = puts_key c.args.to.now c.in_ok-key.key (Some c.new.result) c.args.folders.now c.insert.new.self c.in_ok-key.ensures.ok c.in_ok-insert.ensures.updates in
    let taken = puts_at c.args.from.now None c.insert.new.self c.remove.new.self c.remove.ensures.updates in
    let there = place_there c.args.from.now c.args.to.now c.new.result c.args.folders.now c.insert.new.self c.remove.new.self c.requires.stands c.requires.free made taken in
    let none = rw c.in_default-get_mut.is at c.get_mut.ensures.value in
    true≢false (sym (ap is_some (none ∙ there)))

pub returns-clause-ok : goal.returns-clause-ok
returns-clause-ok c =
    let made = puts_key c.args.to.now c.in_ok-key.key (Some c.new.result) c.args.folders.now c.insert.new.self c.in_ok-key.ensures.ok c.in_ok-insert.ensures.updates in
    let taken = puts_at c.args.from.now None c.insert.new.self c.remove.new.self c.remove.ensures.updates in
    let there = still_there c.args.from.now c.args.to.now c.new.result c.args.folders.now c.insert.new.self c.requires.stands c.requires.free made in
    let put = puts_at c.args.to.now (Some c.in-Some.dir) c.remove.new.self (c.get_mut.follows.lender c.in-Some.dir) ((c.get_mut.follows.holds c.in-Some.dir).3 (search rules)) in
    moves_folder c.args.from.now c.args.to.now c.new.result c.in-Some.dir c.args.folders.now c.insert.new.self c.remove.new.self (c.get_mut.follows.lender c.in-Some.dir) (sym c.in-Some.is ∙ c.remove.ensures.value ∙ there) made taken put
