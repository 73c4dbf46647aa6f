use Rattle.wal_entry.proofs.Verdicts.{length-spelling, spellings_apart}
use Rattle.wal_entry.proofs.laws.spellings_are_apart.Goals as goal

pub returns-clause-length : goal.returns-clause-length
returns-clause-length c = length-spelling

pub returns-clause-apart : goal.returns-clause-apart
returns-clause-apart c = spellings_apart
