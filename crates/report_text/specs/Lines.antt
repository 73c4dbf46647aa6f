-- The lines of records.
use Rattle.std.specs.Prelude.{ℕ, ◌+◌, List, [], ◌∷◌, ◌++◌, codes, flat_map}
use Rattle.std.specs.Fmt.{decimal}
use Rattle.rep_types.specs.declared.record.Record.{Record}
use Rattle.rep_types.specs.declared.reply.Reply.{Reply}
use Rattle.rep_types.specs.declared.reply.Reply.TheVariants.{Shown}
use Rattle.report_text.specs.Events.{event_text}
use Rattle.report_text.specs.Replies.{reply_text}
use Rattle.report_text.specs.Values.{view_text}

-- the lines of the cells that a reply shows
abbrev pub shown_text : Reply → List ℕ
shown_text (Shown cells) = flat_map view_text cells
shown_text _ = []

-- a record with its number, and below it the cells that it shows
abbrev pub record_text : ℕ → Record → List ℕ
record_text number r = decimal number ++ codes " " ++ event_text r.event ++ codes " -> " ++ reply_text r.reply ++ 10 ∷ shown_text r.reply

-- the lines of records that follow each other, the first of which has this number
abbrev pub lines_from : ℕ → List Record → List ℕ
lines_from number [] = []
lines_from number (r ∷ rs) = record_text number r ++ lines_from (number + 1) rs
