-- Which events a command makes, after the replies to its earlier ones.
use Rattle.std.specs.Prelude.{ℕ, ◌≡◌, nat_lt, List, [], ◌∷◌, ◌++◌, Bool, true, false, Option, Some, None, if◌then◌else◌}
use Rattle.std.specs.Option.{option_map}
use Rattle.rep_types.specs.declared.event.Event.{Event}
use Rattle.rep_types.specs.declared.event.Event.TheVariants as event
use Rattle.rep_types.specs.declared.reply.Reply.{Reply}
use Rattle.rep_types.specs.declared.reply.Reply.TheVariants as reply
use Rattle.rep_types.specs.declared.record.Record.{Record}
use Rattle.script_text.specs.declared.command.Command.{Command}
use Rattle.script_text.specs.declared.command.Command.TheVariants as command

-- `ok` or `all`: a command goes on after it
abbrev pub passes : Reply → Bool
passes (reply.Stopped index acks cause) = false
passes (reply.StoreFault store call count) = false
passes (reply.Refused why) = false
passes _ = true

-- the flight that was sent; flights count from 1
abbrev pub flight_sent : Reply → Option ℕ
flight_sent (reply.Sent flight entries forms) = if nat_lt 0 flight then Some flight else None
flight_sent _ = None

abbrev pub only_if : Bool → Option Event → Option Event
only_if true e = e
only_if false e = None

-- the command's events follow from the state too
abbrev pub asks_state : Command → Bool
asks_state (command.SyncAll c) = true
asks_state (command.Promote c) = true
asks_state command.Drain = true
asks_state _ = false

-- the next event of a command that doesn't ask for the state
abbrev pub next_event : Command → List Reply → Option Event
next_event (command.Single e) [] = Some e
next_event (command.Single e) (x ∷ xs) = None
next_event (command.Open c r s) [] = Some (event.OpenBegin c r s)
next_event (command.Open c r s) (begun ∷ []) = only_if (passes begun) (Some (event.OpenEnd c r))
next_event (command.Open c r s) (x ∷ y ∷ xs) = None
next_event (command.Close c r) [] = Some (event.CloseBegin c r)
next_event (command.Close c r) (begun ∷ []) = only_if (passes begun) (Some (event.CloseEnd c r))
next_event (command.Close c r) (x ∷ y ∷ xs) = None
next_event (command.Move c r s) [] = Some (event.CloseBegin c r)
next_event (command.Move c r s) (begun ∷ []) = only_if (passes begun) (Some (event.CloseEnd c r))
next_event (command.Move c r s) (x ∷ closed ∷ []) = only_if (passes closed) (Some (event.OpenBegin c r s))
next_event (command.Move c r s) (x ∷ y ∷ begun ∷ []) = only_if (passes begun) (Some (event.OpenEnd c r))
next_event (command.Move c r s) (x ∷ y ∷ z ∷ w ∷ xs) = None
next_event (command.Ship c p s) [] = Some (event.Send c p s 25)
next_event (command.Ship c p s) (sent ∷ []) = option_map event.Deliver (flight_sent sent)
next_event (command.Ship c p s) (sent ∷ arrived ∷ []) = only_if (passes arrived) (option_map event.Confirm (flight_sent sent))
next_event (command.Ship c p s) (x ∷ y ∷ z ∷ xs) = None
next_event _ replies = None

-- the records are the command's next events after these replies, made by the script
abbrev pub GoesOn : Command → List Reply → List Record → Type 0
GoesOn c replies [] = next_event c replies ≡ None
GoesOn c replies (r ∷ rs) = (next_event c replies ≡ Some r.event) × (r.actor ≡ 0) × GoesOn c (replies ++ r.reply ∷ []) rs

-- the records are all the events of one command
abbrev pub Performs : Command → List Record → Type 0
Performs c own = GoesOn c [] own

-- the records are the events of the commands in order, and nothing else
abbrev pub Expands : List Command → List Record → Type 0
Expands [] records = records ≡ []
Expands (c ∷ cs) records = (own : List Record) × (rest : List Record) × (records ≡ own ++ rest) × Performs c own × Expands cs rest
