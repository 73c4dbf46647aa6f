use Rattle.wal_entry.proofs.Verdicts.{verdict_again, whole_begins}
use Rattle.wal_entry.proofs.Pieces.{prefix_is_cut, broken_is_broken, cut_is_cut, cut_is_short}
use Rattle.wal_entry.proofs.Resumed.{fresh_has_seen, has_seen_more}
use Rattle.wal_entry.proofs.laws.pieces_agree.Goals as goal

pub returns-clause-whole : goal.returns-clause-whole
returns-clause-whole c = verdict_again

pub returns-clause-prefix : goal.returns-clause-prefix
returns-clause-prefix c = prefix_is_cut

pub returns-clause-bad : goal.returns-clause-bad
returns-clause-bad c = broken_is_broken

pub returns-clause-short : goal.returns-clause-short
returns-clause-short c = cut_is_cut

pub returns-clause-until : goal.returns-clause-until
returns-clause-until c = cut_is_short

pub returns-clause-spelled : goal.returns-clause-spelled
returns-clause-spelled c = whole_begins

pub returns-clause-anew : goal.returns-clause-anew
returns-clause-anew c = fresh_has_seen

pub returns-clause-on : goal.returns-clause-on
returns-clause-on c = has_seen_more
