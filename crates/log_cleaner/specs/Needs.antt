-- Who still needs a log.
use Rattle.std.specs.Prelude.{ℕ, ◌==◌, ◌&&◌, ◌||◌, not, Bool, nat_lt, List, [], ◌∷◌, map, min, Option, Some, None}
use Rattle.std.specs.List.{filter}
use Rattle.rep_types.specs.declared.refusal.Needer.TheVariants as needer
use Rattle.rep_types.specs.declared.state.Place.{Place}
use Rattle.last_ids.specs.Ids.{last_of}
use Rattle.log_cleaner.specs.declared.sweep.LogUse.{LogUse}
use Rattle.log_cleaner.specs.declared.sweep.PeerUse.{PeerUse}
use Rattle.log_cleaner.specs.declared.sweep.RegionUse.{RegionUse}
use Rattle.log_cleaner.specs.declared.sweep.Sweep.{Sweep}
use Rattle.log_cleaner.specs.declared.sweep.Sweep.TheVariants.{Go, Needed}

-- the place is before this offset of this log
abbrev pub is_before : Place → ℕ → ℕ → Bool
is_before p log offset = nat_lt p.log log || ((p.log == log) && nat_lt p.offset offset)

-- the log has whole frames, and the peer's place is before the end of them
abbrev pub peer_needs : LogUse → PeerUse → Bool
peer_needs log p = not (log.end == 0) && is_before p.place log.log log.end

-- an entry of the region in the log has a sequence id above its flushed one
abbrev pub region_needs : LogUse → RegionUse → Bool
region_needs log r = nat_lt r.flushed (last_of r.region log.last)

abbrev pub lower_of : ℕ → Option ℕ → ℕ
lower_of n None = n
lower_of n (Some m) = min n m

-- the lowest of these numbers
abbrev pub lowest : List ℕ → Option ℕ
lowest [] = None
lowest (n ∷ ns) = Some (lower_of n (lowest ns))

abbrev pub needy_peer : LogUse → List PeerUse → Option ℕ
needy_peer log peers = lowest (map (λ (p : PeerUse). p.peer) (filter (peer_needs log) peers))

abbrev pub needy_region : LogUse → List RegionUse → Option ℕ
needy_region log regions = lowest (map (λ (r : RegionUse). r.region) (filter (region_needs log) regions))

-- peers come first
abbrev pub needed_by : Option ℕ → Option ℕ → Sweep
needed_by (Some p) region = Needed (needer.Peer p)
needed_by None (Some r) = Needed (needer.Region r)
needed_by None None = Go
