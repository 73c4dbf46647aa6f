use Rattle.store_file.proofs.Back.{run_back}
use Rattle.store_file.proofs.laws.runs_read_back.Goals as goal

pub returns : goal.returns
returns c = run_back
