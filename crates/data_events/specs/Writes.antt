-- What memory knows of a put before its append, and what the append's answer makes the reply.
use Rattle.std.specs.Prelude.{ℕ, ◌≤◌, ◌≡◌, true, false, List, Some, Result, Ok, Err}
use Rattle.std.specs.List.{list_all}
use Rattle.rep_types.specs.Edit.{edit_length}
use Rattle.rep_types.specs.declared.ids.Cluster.{Cluster}
use Rattle.rep_types.specs.declared.cell.Cell.{Cell}
use Rattle.rep_types.specs.declared.refusal.Refusal.TheVariants as refusal
use Rattle.rep_types.specs.declared.reply.Reply.{Reply}
use Rattle.rep_types.specs.declared.reply.Reply.TheVariants as reply
use Rattle.rep_vault.specs.Contents.{Contents}
use Rattle.wal_roll.specs.declared.error.LogError.{LogError}
use Rattle.wal_roll.specs.declared.error.LogError.TheVariants.{Broken, NeedRoll, StoreFault, Memory}
use Rattle.rep_model.specs.State.{of}
use Rattle.rep_model.specs.Places.{table_of}
use Rattle.rep_model.specs.LogEvents.{put_edit, has_family}
use Rattle.rep_model.specs.declared.machine.Machine.{Machine}
use Rattle.rep_model.specs.declared.machine.Table.{Table}
use Rattle.cluster_core.specs.declared.parts.Station.{Station}
use Rattle.cluster_core.specs.declared.parts.CoreError.{CoreError}
use Rattle.cluster_core.specs.declared.parts.CoreError.TheVariants as failed
use Rattle.cluster_core.specs.Lookups.{HasSeat}

-- nothing but the log may speak against the put: its edit is short, its families are the table's, and its row is served
pub record MayPut (own : Cluster) (c : Contents) (name row : List ℕ) (cells : List Cell) (m : Machine) (stations : List Station) (region at : ℕ) : Type 0 where
  pub short : edit_length (put_edit name row cells) ≤ 8192
  pub table : Table
  pub known : table_of own name m ≡ Some table
  pub families : list_all (has_family table.families) cells ≡ true
  pub seat : HasSeat c (of own m) stations name row region at

-- the reply, by what the append to a server's log answered
abbrev pub put_reply : Cluster → (server log region seq ticket : ℕ) → Result (Unit {0}) LogError → Result Reply CoreError
put_reply own server log region seq ticket (Ok _) = Ok (reply.Accepted region seq ticket)
put_reply own server log region seq ticket (Err Broken) = Ok (reply.Refused (refusal.Broken log))
put_reply own server log region seq ticket (Err (NeedRoll used need limit)) = Ok (reply.Refused (refusal.NeedRoll server used need))
put_reply own server log region seq ticket (Err (StoreFault kind count)) = Ok (reply.StoreFault own kind count)
put_reply own server log region seq ticket (Err Memory) = Err (failed.Memory false)
