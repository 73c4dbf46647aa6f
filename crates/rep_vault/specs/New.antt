-- A store as it is at the start.
use Rattle.std.specs.Prelude.{◌≡◌}
use Rattle.rep_vault.specs.Contents.{Contents, new_contents}
use Rattle.rep_vault.specs.Tallies.{Tally, CountsNone}

-- the folders `wal` and `run` stand, and nothing else; no fault is counted, and none is planned
pub record IsNew (c : Contents) (t : Tally) : Type 0 where
  pub contents : c ≡ new_contents
  pub tally : CountsNone t
