-- What a host's fields keep.
use Rattle.std.specs.Prelude.{◌≡◌, map}
use Rattle.wal_roll.specs.Log.{frame_size}
use Rattle.region_server.specs.declared.host.Host.TheInside.{Inside}

-- the log is the server's, and its pending frames are those of the pending entries
pub record Keeps (h : Inside) : Type 0 where
  pub own : h.log.server ≡ h.server
  pub pending : h.log.lengths ≡ map frame_size h.pending.items
