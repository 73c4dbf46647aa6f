-- What a writer's fields keep.
use Rattle.std.specs.Prelude.{◌+◌, ◌≤◌, ◌≡◌, length, sum, All, string_bytes}
use Rattle.wal_roll.specs.Log.{log_name}
use Rattle.wal_roll.specs.declared.writer.LogWriter.TheInside.{Inside}

pub record Keeps (w : Inside) : Type 0 where
  pub name : string_bytes w.name ≡ log_name w.server w.number
  pub used : w.used ≡ w.synced + sum w.lengths.items
  pub few : w.used ≤ 65536
  pub count : w.committed + length w.lengths.items ≤ w.used
  pub least : w.committed ≤ w.synced
  pub each : All (λ l. 1 ≤ l) w.lengths.items
