-- The failures that a script plans for the stores, by kind of call.
use Rattle.std.specs.Prelude.{ℕ, ◌==◌, ◌≡◌, ◌≤◌, Bool, false, List, filter, length, Option, IfSome, if◌then◌else◌}
use Rattle.std.specs.Option.{option_map}
use Rattle.rep_types.specs.declared.ids.Cluster.{Cluster}
use Rattle.rep_types.specs.declared.state.Call.{Call}
use Rattle.rep_model.specs.State.{mark}
use Rattle.rep_vault.specs.Tallies.{Tally, one_more}
use Rattle.pair_core.specs.Told.{is_call_of}
use Rattle.script_text.specs.declared.command.Command.{Command}
use Rattle.script_text.specs.declared.command.Command.TheVariants as command

-- the command plans that a call of this kind fail in the cluster's store
abbrev pub plans : Cluster → Call → Command → Bool
plans c kind (command.Fail d call nth bytes) = is_call_of c kind d call
plans c kind _ = false

-- how many `fail` lines there are for the cluster's store and this kind of call
abbrev pub planned_for : Cluster → Call → List Command → ℕ
planned_for c kind commands = length (filter (plans c kind) commands)

-- a store that tells its plans has counted of each kind no more faults than the commands plan for it
abbrev pub CountsFew : Cluster → List Command → Tally → Type 0
CountsFew c commands t = (k : Call) → IfSome t.planned (λ _. t.faults k ≤ planned_for c k commands)

-- the plans of the cluster's store once the command was performed: one more of its kind, or the same
abbrev pub planned_after : Cluster → Command → Option (Call → ℕ) → Option (Call → ℕ)
planned_after c (command.Fail d call nth bytes) planned = if mark c == mark d then option_map (one_more call) planned else planned
planned_after c _ planned = planned

abbrev pub Plans : Cluster → Command → Tally → Tally → Type 0
Plans c command old new = new.planned ≡ planned_after c command old.planned

-- a store that tells its plans has of each kind as many as these commands have `fail` lines for it
abbrev pub Planned : Cluster → List Command → Tally → Type 0
Planned c commands t = (k : Call) → IfSome t.planned (λ n. n k ≡ planned_for c k commands)
