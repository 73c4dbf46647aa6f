-- The next event of every command, from its records so far and the state.
use Rattle.std.specs.Prelude.{◌≡◌, ◌==◌, Bool, true, List, [], ◌∷◌, ◌++◌, length, map, slice_get, Option, Some, None, if◌then◌else◌}
use Rattle.std.specs.Option.{option_map}
use Rattle.rep_types.specs.declared.ids.Cluster.{Cluster}
use Rattle.rep_types.specs.declared.event.Event.{Event}
use Rattle.rep_types.specs.declared.event.Event.TheVariants as event
use Rattle.rep_types.specs.declared.record.Record.{Record}
use Rattle.rep_types.specs.declared.reply.Reply.{Reply}
use Rattle.rep_types.specs.declared.state.Phase.{Phase}
use Rattle.rep_types.specs.declared.state.Phase.TheVariants as phase
use Rattle.rep_model.specs.State.{of, Pair}
use Rattle.rep_model.specs.Runs.{after, state_from, step_of}
use Rattle.rep_model.specs.declared.machine.Machine.{Machine}
use Rattle.script_text.specs.declared.command.Command.{Command}
use Rattle.script_text.specs.declared.command.Command.TheVariants as command
use Rattle.script_text.specs.Drains.{live_servers, Walk, start, drain_event, drain_after}
use Rattle.script_text.specs.Expansion.{passes, only_if, next_event}

abbrev pub reply_in : Record → Reply
reply_in r = r.reply

-- no reply yet, or the last one passes
abbrev pub goes_on : List Record → Bool
goes_on [] = true
goes_on (r ∷ []) = passes r.reply
goes_on (r ∷ s ∷ rs) = goes_on (s ∷ rs)

-- the states of a pair after a record, and after each of several
abbrev pub after_record : Machine → Record → Machine
after_record m r = after Pair m (step_of r)

abbrev pub after_records : Machine → List Record → Machine
after_records m rs = state_from Pair m (map step_of rs)

-- a promotion: `promotebegin` unless it is replaying, `replay` while logs are left, `promoteend`
abbrev pub promote_event : Cluster → List Record → Phase → Option Event
promote_event c rs (phase.Replaying left) = Some (if left == 0 then event.PromoteEnd c else event.Replay c)
promote_event c [] _ = Some (event.PromoteBegin c)
promote_event c (r ∷ rs) _ = None

-- how far a drain has come with its records, which began in this state
abbrev pub walked : Machine → Walk → List Record → Walk
walked m w [] = w
walked m w (r ∷ rs) = walked (after_record m r) (drain_after m (after_record m r) r.reply w) rs

-- the command's next event: it began in this state, and these are its records so far
abbrev pub due : Command → Machine → List Record → Option Event
due (command.SyncAll c) m rs = only_if (goes_on rs) (option_map (event.Sync c) (slice_get (live_servers c m) (length rs)))
due (command.Promote c) m rs = only_if (goes_on rs) (promote_event c rs (of c (after_records m rs)).link.phase)
due command.Drain m rs = drain_event (after_records m rs) (walked m (start m) rs)
due c m rs = next_event c (map reply_in rs)

-- behind these records of the command, these are all its others
abbrev pub Does : Command → Machine → List Record → List Record → Type 0
Does c m before [] = due c m before ≡ None
Does c m before (r ∷ rs) = (due c m before ≡ Some r.event) × (r.actor ≡ 0) × Does c m (before ++ r ∷ []) rs

-- from this state on, the records are the events of the commands in order, and nothing else
abbrev pub ExpandsFrom : Machine → List Command → List Record → Type 0
ExpandsFrom m [] records = records ≡ []
ExpandsFrom m (c ∷ cs) records =
    (own : List Record) × (rest : List Record) × (records ≡ own ++ rest) × Does c m [] own × ExpandsFrom (after_records m own) cs rest
