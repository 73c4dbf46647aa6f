use Rattle.run_cells.proofs.Parts.{part-in_order}
use Rattle.run_cells.proofs.laws.parts_are_in_order.Goals as goal

pub returns : goal.returns
returns c = part-in_order
