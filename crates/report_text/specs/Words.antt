-- The words of kinds, states, phases, places and calls.
use Rattle.std.specs.Prelude.{ℕ, List, ◌++◌, codes}
use Rattle.std.specs.Fmt.{decimal}
use Rattle.rep_types.specs.declared.state.Call.{Call}
use Rattle.rep_types.specs.declared.state.Call.TheVariants as call
use Rattle.rep_types.specs.declared.state.Kind.{Kind}
use Rattle.rep_types.specs.declared.state.Kind.TheVariants as kind
use Rattle.rep_types.specs.declared.state.Phase.{Phase}
use Rattle.rep_types.specs.declared.state.Phase.TheVariants as phase
use Rattle.rep_types.specs.declared.state.PlaceOf.{PlaceOf}
use Rattle.rep_types.specs.declared.state.PlaceOf.TheVariants as place
use Rattle.rep_types.specs.declared.state.SyncState.{SyncState}
use Rattle.rep_types.specs.declared.state.SyncState.TheVariants as state

abbrev pub kind_text : Kind → List ℕ
kind_text kind.Plain = codes "plain"
kind_text kind.Serial = codes "serial"
kind_text kind.Synchronous = codes "sync"

abbrev pub state_text : SyncState → List ℕ
state_text state.Absent = codes "absent"
state_text state.Active = codes "active"
state_text state.Downgrade = codes "downgrade"
state_text state.Standby = codes "standby"

abbrev pub phase_text : Phase → List ℕ
phase_text phase.Idle = codes "idle"
phase_text (phase.To s) = codes "to-" ++ state_text s
phase_text phase.NoFolder = codes "nofolder"
phase_text (phase.Replaying left) = codes "replaying:" ++ decimal left

-- the place without its server
abbrev pub place_text : PlaceOf → List ℕ
place_text place.Off = codes "off"
place_text (place.Opening s) = codes "opening"
place_text (place.On s) = codes "on"
place_text (place.Closing s) = codes "closing"
place_text (place.Lost s) = codes "lost"
place_text place.Gone = codes "gone"

abbrev pub call_text : Call → List ℕ
call_text call.Create = codes "create"
call_text call.Append = codes "append"
call_text call.Sync = codes "sync"
call_text call.Seal = codes "seal"
call_text call.Read = codes "read"
call_text call.Make = codes "make"
call_text call.Rename = codes "rename"
call_text call.Remove = codes "remove"
call_text call.List = codes "list"
call_text call.Put = codes "put"
