use Rattle.wal_reader.proofs.Answered.{given_again, ended, same_end}
use Rattle.wal_reader.proofs.reader.LogReader.next.Goals as goal

pub returns-clause-again : goal.returns-clause-again
returns-clause-again c = λ entry rest has same. given_again c.read.result c.args.self.now entry rest c.read.ensures.exact has same

pub returns-clause-end : goal.returns-clause-end
returns-clause-end c = same_end c.read.result c.args.self.now c.read.new.self c.read.ensures.left c.read.ensures.spelled

pub returns-clause-ended : goal.returns-clause-ended
returns-clause-ended c = ended c.read.result c.args.self.now c.read.new.self c.read.ensures.exact c.read.ensures.left
