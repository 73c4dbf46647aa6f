-- The last line of a drain.
use Rattle.std.specs.Prelude.{ℕ, List, ◌++◌, codes}
use Rattle.std.specs.Fmt.{decimal}
use Rattle.rep_types.specs.Words.{cluster_text}
use Rattle.rep_types.specs.declared.refusal.Refusal.TheVariants as refusal
use Rattle.rep_types.specs.declared.view.DrainEnd.{DrainEnd}
use Rattle.rep_types.specs.declared.view.DrainEnd.TheVariants as ending
use Rattle.rep_types.specs.declared.view.StuckCause.{StuckCause}
use Rattle.rep_types.specs.declared.view.StuckCause.TheVariants as stuck
use Rattle.report_text.specs.Replies.{refusal_text, storefault_text}

-- why a queue was left, as a reply tells it
abbrev pub stuck_text : StuckCause → List ℕ
stuck_text (stuck.NotServing r) = refusal_text (refusal.NotServing r)
stuck_text (stuck.WrongState have phase) = refusal_text (refusal.WrongState have phase)
stuck_text (stuck.Broken log) = refusal_text (refusal.Broken log)
stuck_text stuck.Fenced = refusal_text refusal.Fenced
stuck_text stuck.NoServer = refusal_text refusal.NoServer
stuck_text (stuck.StoreFault store call count) = storefault_text store call count

-- every queue is empty, or the first that isn't and why it was left
abbrev pub drain_text : DrainEnd → List ℕ
drain_text ending.Drained = codes "drained\n"
drain_text (ending.Stuck c p s why) =
    codes "stuck " ++ cluster_text c ++ codes " " ++ decimal p ++ codes " " ++ decimal s ++ codes " " ++ stuck_text why ++ codes "\n"
