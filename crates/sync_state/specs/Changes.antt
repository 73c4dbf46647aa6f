-- The states that a change may go to, and what a state serves.
use Rattle.std.specs.Prelude.{Bool, true, false}
use Rattle.rep_types.specs.declared.state.SyncState.{SyncState}
use Rattle.rep_types.specs.declared.state.SyncState.TheVariants.{Active, Downgrade, Standby}
use Rattle.rep_types.specs.declared.state.Phase.{Phase}
use Rattle.rep_types.specs.declared.state.Phase.TheVariants.{Idle, To, NoFolder, Replaying}

-- a change goes from the one state to the other; a promotion is none
abbrev pub leads : SyncState → SyncState → Bool
leads Active Downgrade = true
leads Active Standby = true
leads Downgrade Standby = true
leads Downgrade Active = true
leads _ _ = false

-- while the change to the target is under way, a begin may name a state: the present one, which
-- withdraws the change, or another target
abbrev pub retargets : (have target to : SyncState) → Bool
retargets Active _ Active = true
retargets Downgrade _ Downgrade = true
retargets _ Active Active = false
retargets _ Downgrade Downgrade = false
retargets _ Standby Standby = false
retargets have _ to = leads have to

-- in the state and phase a begin may name a state
abbrev pub allowed : (have : SyncState) (phase : Phase) (to : SyncState) → Bool
allowed have Idle to = leads have to
allowed have (To target) to = retargets have target to
allowed _ NoFolder _ = false
allowed _ (Replaying _) _ = false

-- covered tables are read and written by clients
abbrev pub serves_clients : SyncState → Bool
serves_clients Standby = false
serves_clients _ = true

-- the sink takes forms of the synchronous peer
abbrev pub takes_forms : SyncState → Bool
takes_forms Standby = true
takes_forms _ = false
