-- The server of an event of logs that nothing speaks against before its first call.
use Rattle.std.specs.Prelude.{ℕ, ◌==◌, ◌&&◌, ◌≡◌, not, true, false, List, length}
use Rattle.rep_vault.specs.Contents.{Contents}
use Rattle.rep_model.specs.declared.machine.Side.{Side}
use Rattle.cluster_core.specs.declared.parts.Station.{Station}
use Rattle.cluster_core.specs.Lookups.{HasStation}

-- it lives, and its log is whole
pub record MaySync (c : Contents) (side : Side) (stations : List Station) (s at : ℕ) : Type 0 where
  pub here : HasStation c side stations s at
  pub live : here.server.live ≡ true
  pub whole : here.server.whole ≡ true

-- it lives, and has nothing pending in a whole log
pub record MayRoll (c : Contents) (side : Side) (stations : List Station) (s at : ℕ) : Type 0 where
  pub here : HasStation c side stations s at
  pub live : here.server.live ≡ true
  pub settled : (here.server.whole && not (length here.server.pending == 0)) ≡ false

-- it is dead, and its log isn't sealed
pub record MaySeal (c : Contents) (side : Side) (stations : List Station) (s at : ℕ) : Type 0 where
  pub here : HasStation c side stations s at
  pub dead : here.server.live ≡ false
  pub unsealed : here.server.sealed ≡ false
