-- The numbers of the rules, and what a refusal of a text says.
use Rattle.std.specs.Prelude.{ℕ, ◌≡◌, List, Result, Err}
use Rattle.script_text.specs.declared.command.Command.{Command}
use Rattle.script_text.specs.declared.parser.ParseError.{ParseError}
use Rattle.script_text.specs.declared.parser.ParseError.TheVariants.{Syntax, Memory}
use Rattle.script_text.specs.declared.rule.Rule.{Rule}
use Rattle.script_text.specs.declared.rule.Rule.TheVariants as rule

abbrev pub rule_number : Rule → ℕ
rule_number rule.Byte = 1
rule_number rule.Words = 2
rule_number rule.Cluster = 3
rule_number rule.Number = 4
rule_number rule.Name = 5
rule_number rule.Parts = 6
rule_number rule.Kind = 7
rule_number rule.Repeats = 8
rule_number rule.Divider = 9
rule_number rule.Behind = 10

-- a text whose reading is this is refused so, unless memory was short
abbrev pub Explains : Result (List Command) ParseError → ParseError → Type 0
Explains reading (Syntax line rule) = reading ≡ Err (Syntax line rule)
Explains reading Memory = Unit {0}
