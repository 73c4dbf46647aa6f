-- What the two stores hold of the machine's state: each server's logs, and the records of tables, regions, servers and peers.
use Rattle.std.specs.Prelude.{ℕ, ◌≡◌, true, find, Option, Some, None}
use Rattle.rep_vault.specs.Contents.{Contents}
use Rattle.wal_roll.specs.Log.{wal, log_name}
use Rattle.region_server.specs.Host.{HostValue}
use Rattle.rep_model.specs.State.{is_server}
use Rattle.rep_model.specs.declared.machine.Machine.{Machine}
use Rattle.rep_model.specs.declared.machine.Side.{Side}
use Rattle.rep_model.specs.declared.machine.Server.{Server}
use Rattle.cluster_core.specs.Logs.{IsFresh, LogsStand}
use Rattle.cluster_core.specs.Stands.{RecordsStand}
use Rattle.pair_core.specs.Sides.{Both}

-- the files of a server's logs; of a server that isn't there none with bytes
abbrev pub LogsAt : Contents → Side → ℕ → Option Server → Type 0
LogsAt c side s None = (l : ℕ) → IsFresh (c.files wal (log_name s l))
LogsAt c side s (Some srv) = (h : HostValue) × LogsStand c side.commits h srv

pub record Holds (c : Contents) (side : Side) : Type 0 where
  pub folder : c.stands wal ≡ true
  pub logs : (s : ℕ) → LogsAt c side s (find (is_server s) side.servers)
  pub records : RecordsStand c side

pub record Stored (stores : Both Contents) (m : Machine) : Type 0 where
  pub a : Holds stores.a m.a
  pub b : Holds stores.b m.b
