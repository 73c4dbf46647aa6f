use Rattle.wal_roll.proofs.Names.{log_names_apart}
use Rattle.wal_roll.proofs.laws.log_names_are_apart.Goals as goal

pub returns : goal.returns
returns c = log_names_apart
