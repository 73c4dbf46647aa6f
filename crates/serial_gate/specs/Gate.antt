-- When an entry of a serial peer may be sent.
use Rattle.std.specs.Prelude.{ℕ, ◌-◌, List, [], ◌∷◌, Bool, Option, None, Some, not, nat_le, max, filter, find, if◌then◌else◌}
use Rattle.std.specs.Option.{option_map}
use Rattle.last_ids.specs.Ids.{last_of}
use Rattle.last_ids.specs.declared.ids.LastId.{LastId}
use Rattle.region_barriers.specs.History.{History}
use Rattle.region_barriers.specs.declared.parents.Parent.{Parent}
use Rattle.rep_types.specs.declared.entry.Entry.{Entry}
use Rattle.rep_types.specs.declared.entry.EntryId.{EntryId}
use Rattle.rep_types.specs.declared.ids.Cluster.{Cluster}
use Rattle.serial_gate.specs.declared.gate.Admission.{Admission}
use Rattle.serial_gate.specs.declared.gate.Admission.TheVariants.{Go, Held}
use Rattle.serial_gate.specs.Regions.{barriers_of}

-- how far a region has come: to its last pushed id, or to its greatest id in the batch
abbrev pub reach : List LastId → List LastId → ℕ → ℕ
reach last so_far region = max (last_of region last) (last_of region so_far)

-- the region has come to this id
abbrev pub has_come : (ℕ → ℕ) → ℕ → ℕ → Bool
has_come come region seq = nat_le seq (come region)

-- a parent's last entry
abbrev pub end_of : Cluster → Parent → EntryId
end_of c parent = record { cluster = c; region = parent.region; seq = parent.final_barrier - 1 }

-- the last entry of the first parent, in order, that hasn't come to its end
abbrev pub late_parent : Cluster → (ℕ → ℕ) → List Parent → Option EntryId
late_parent c come parents = option_map (end_of c) (find (λ (p : Parent). not (has_come come p.region (p.final_barrier - 1))) parents)

-- the region's entry before the barrier, where the region hasn't come to it
abbrev pub late_self : Cluster → (ℕ → ℕ) → ℕ → ℕ → Option EntryId
late_self c come region barrier =
    if has_come come region (barrier - 1) then None else Some (record { cluster = c; region = region; seq = barrier - 1 })

-- the last of a barrier and others
abbrev pub latest : ℕ → List ℕ → ℕ
latest barrier [] = barrier
latest barrier (next ∷ others) = latest next others

-- the barriers that an id has passed
abbrev pub passed : ℕ → List ℕ → List ℕ
passed seq barriers = filter (λ barrier. nat_le barrier seq) barriers

-- What an entry waits for that has passed these barriers: with one, that its region's parents come to their ends; with more,
-- that its region comes to the last of them.
abbrev pub late : Cluster → (ℕ → ℕ) → ℕ → List Parent → List ℕ → Option EntryId
late c come region parents [] = None
late c come region parents (barrier ∷ []) = late_parent c come parents
late c come region parents (barrier ∷ next ∷ others) = late_self c come region (latest next others)

abbrev pub unless_late : Option EntryId → Admission
unless_late None = Go
unless_late (Some need) = Held need

abbrev pub gate_by : Cluster → (ℕ → ℕ) → ℕ → ℕ → Option History → Admission
gate_by c come region seq None = Go
gate_by c come region seq (Some h) = unless_late (late c come region h.parents (passed seq h.barriers))

-- the gate's answer for an entry of this cluster, where regions have come so far
abbrev pub gate : Cluster → List History → (ℕ → ℕ) → Entry → Admission
gate c map come e = gate_by c come e.region e.seq (barriers_of e.region map)
