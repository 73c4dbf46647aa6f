use Rattle.std.proofs.Common.{arith}
use Rattle.std.proofs.lemmas.Grind.{common_steps}
use Rattle.rep_vault.proofs.Maps.{are_names}
use Rattle.rep_vault.proofs.folder.Folder.names.Goals as goal

pub returns : goal.returns
returns c = are_names c.args.self.now _ c.keys-name-items.ensures.ordered (grind (arith, common_steps, c.in-None.ensures.steps, c.loop-name.invariant))
