-- What a line means, and which rule it breaks first.
use Rattle.std.specs.Prelude.{ℕ, ◌≡◌, ◌+◌, ◌&&◌, ◌||◌, nat_le, Bool, true, false, List, [], ◌∷◌, Option, Some, None, Result, Ok, Err, if◌then◌else◌}
use Rattle.std.specs.List.{list_all}
use Rattle.std.specs.Option.{option_or}
use Rattle.script_text.specs.declared.command.Command.{Command}
use Rattle.script_text.specs.declared.command.Command.TheVariants as command
use Rattle.script_text.specs.declared.command.Input.{Input}
use Rattle.script_text.specs.declared.command.Input.TheVariants as input
use Rattle.script_text.specs.declared.head.Alone.TheVariants as alone_word
use Rattle.script_text.specs.declared.head.Head.{Head}
use Rattle.script_text.specs.declared.head.Head.TheVariants as head
use Rattle.script_text.specs.declared.line.Before.{Before}
use Rattle.script_text.specs.declared.line.Made.{Made}
use Rattle.script_text.specs.declared.parser.ParseError.{ParseError}
use Rattle.script_text.specs.declared.parser.ParseError.TheVariants.{Syntax}
use Rattle.script_text.specs.declared.rule.Rule.{Rule}
use Rattle.script_text.specs.declared.rule.Rule.TheVariants as rule
use Rattle.script_text.specs.Heads.{head_of, is_barred, is_performed}
use Rattle.script_text.specs.Lines.{begins_with}
use Rattle.script_text.specs.Meanings.{alone, on_cluster, on_server, on_region, on_peer, on_queue, on_place, on_flight, send, merge, claim, transit, fail, keep, table, get, show, split, peer}
use Rattle.script_text.specs.Parsing.{rule_number}
use Rattle.script_text.specs.Puts.{put}
use Rattle.script_text.specs.Steps.{◌>>=◌, and_then}
use Rattle.script_text.specs.Words.{words_of}

abbrev pub is_printable : ℕ → Bool
is_printable b = nat_le 32 b && nat_le b 126

-- `--` stands in the input of `live` alone
abbrev pub is_in : Input → Head → Bool
is_in input.Run (head.Alone alone_word.Divider) = false
is_in input h = true

-- a known first word
unfoldable pub known_head : Input → List ℕ → Option Head
known_head input word = and_then (head_of word) (λ h. if is_performed h && is_in input h then Some h else None)

-- a command that repeats no value
abbrev pub of_command : ℕ → Result Command Rule → Result Made Rule
of_command repeated reading = reading >>= λ c. Ok (record { command = Some c; repeated = repeated })

-- what the words behind a first word mean
unfoldable pub meaning : ℕ → Head → List (List ℕ) → Result Made Rule
meaning repeated (head.OnCluster word) args = of_command repeated (on_cluster word args)
meaning repeated (head.OnServer word) args = of_command repeated (on_server word args)
meaning repeated (head.OnRegion word) args = of_command repeated (on_region word args)
meaning repeated (head.OnPeer word) args = of_command repeated (on_peer word args)
meaning repeated (head.OnQueue word) args = of_command repeated (on_queue word args)
meaning repeated (head.OnPlace word) args = of_command repeated (on_place word args)
meaning repeated (head.OnFlight word) args = of_command repeated (on_flight word args)
meaning repeated (head.Alone word) args = of_command repeated (alone word args)
meaning repeated head.Table args = of_command repeated (table args)
meaning repeated head.Put args = put repeated args
meaning repeated head.Get args = of_command repeated (get args)
meaning repeated head.Show args = of_command repeated (show args)
meaning repeated head.Split args = of_command repeated (split args)
meaning repeated head.Merge args = of_command repeated (merge args)
meaning repeated head.Peer args = of_command repeated (peer args)
meaning repeated head.Send args = of_command repeated (send args)
meaning repeated head.Claim args = of_command repeated (claim args)
meaning repeated head.TransitBegin args = of_command repeated (transit args)
meaning repeated head.Fail args = of_command repeated (fail args)
meaning repeated head.Keep args = of_command repeated (keep args)

-- rule 10 comes before every rule but 1 and 2
abbrev pub barred : Bool → Result Made Rule → Result Made Rule
barred false reading = reading
barred true (Err rule.Words) = Err rule.Words
barred true _ = Err rule.Behind

abbrev pub head_line : Before → Option Head → List (List ℕ) → Result Made Rule
head_line before None args = Err rule.Words
head_line before (Some h) args = barred (before.divided && is_barred h) (meaning before.repeated h args)

-- a line without words, and a comment, do nothing
unfoldable pub words_line : Input → Before → List (List ℕ) → Result Made Rule
words_line input before [] = Ok (record { command = None; repeated = before.repeated })
words_line input before (word ∷ args) =
    if begins_with 35 word then Ok (record { command = None; repeated = before.repeated }) else head_line before (known_head input word) args

unfoldable pub line_meaning : Input → Before → List ℕ → Result Made Rule
line_meaning input before line = if list_all is_printable line then words_line input before (words_of line) else Err rule.Byte

abbrev pub is_divider : Option Command → Bool
is_divider (Some command.Divider) = true
is_divider _ = false

-- what a line of this number leaves
unfoldable pub after : ℕ → Before → Made → Before
after number before made = record {
  repeated = made.repeated;
  divided = before.divided || is_divider made.command;
  second = option_or before.second (if before.divided && is_divider made.command then Some number else None);
}

abbrev pub with_command : Option Command → Result (List Command) ParseError → Result (List Command) ParseError
with_command None reading = reading
with_command (Some c) (Ok cs) = Ok (c ∷ cs)
with_command (Some c) (Err e) = Err e

abbrev pub read_on : ℕ → Result Made Rule → (Made → Result (List Command) ParseError) → Result (List Command) ParseError
read_on number (Err r) rest = Err (Syntax number (rule_number r))
read_on number (Ok made) rest = with_command made.command (rest made)

abbrev pub second_divider : Option ℕ → Result (List Command) ParseError
second_divider None = Ok []
second_divider (Some number) = Err (Syntax number 9)

-- behind the last line, whose number is one less: rule 9
abbrev pub ended : Input → ℕ → Before → Result (List Command) ParseError
ended input.Run number before = Ok []
ended input.Live number before = if before.divided then second_divider before.second else Err (Syntax number 9)

-- the commands of lines from this number on, or the first fault
abbrev pub read_lines : Input → ℕ → Before → List (List ℕ) → Result (List Command) ParseError
read_lines input number before [] = ended input number before
read_lines input number before (line ∷ lines) =
    read_on number (line_meaning input before line) (λ made. read_lines input (number + 1) (after number before made) lines)

-- the commands of a script's lines, or the first line outside the grammar with the first rule that it breaks
unfoldable pub script : Input → List (List ℕ) → Result (List Command) ParseError
script input lines = read_lines input 1 (record { repeated = 0; divided = false; second = None }) lines

-- the lines are a script of these commands
abbrev pub IsScript : Input → List (List ℕ) → List Command → Type 0
IsScript input lines commands = script input lines ≡ Ok commands

-- this line is the first outside the grammar, and this rule the first that it breaks
abbrev pub IsFault : Input → List (List ℕ) → ℕ → ℕ → Type 0
IsFault input lines line rule = script input lines ≡ Err (Syntax line rule)
