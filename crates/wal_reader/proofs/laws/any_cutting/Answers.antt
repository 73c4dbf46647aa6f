use Rattle.wal_reader.proofs.Pieces.{joined, parts, place_of, so_far, all_given, nothing_is_cut}
use Rattle.wal_reader.proofs.laws.any_cutting.Goals as goal

pub returns-clause-joined : goal.returns-clause-joined
returns-clause-joined c = joined

pub returns-clause-parts : goal.returns-clause-parts
returns-clause-parts c = λ old new calls. parts calls old new

pub returns-clause-place : goal.returns-clause-place
returns-clause-place c = λ old new calls. place_of calls old new

pub returns-clause-so_far : goal.returns-clause-so_far
returns-clause-so_far c = so_far

pub returns-clause-all : goal.returns-clause-all
returns-clause-all c = all_given

pub returns-clause-none : goal.returns-clause-none
returns-clause-none c = nothing_is_cut
