use Rattle.cell_laws.proofs.Shown.{seen_shown}
use Rattle.cell_laws.proofs.runs_show_what_edits_show.Goals as goal

pub returns : goal.returns
returns c = seen_shown
