-- Readings that may fail, one after the other: the first that fails gives the rule.
use Rattle.std.specs.Prelude.{Result, Ok, Err, Option, Some, None}
use Rattle.script_text.specs.declared.rule.Rule.{Rule}

infixl 10 ◌>>=◌
-- what the reading gives is read on
abbrev pub ◌>>=◌ : {A B : Type 0} → Result A Rule → (A → Result B Rule) → Result B Rule
(Ok x) >>= f = f x
(Err rule) >>= f = Err rule

-- the same where no rule is told
abbrev pub and_then : {A B : Type 0} → Option A → (A → Option B) → Option B
and_then None f = None
and_then (Some x) f = f x
