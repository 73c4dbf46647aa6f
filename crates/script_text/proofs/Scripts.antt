-- Scripts are read line by line.
use Rattle.std.proofs.Common.{◌≡◌, ℕ, ◌+◌, ◌≤◌, ◌==◌, ◌&&◌, cond, Bool, true, false, List, [], ◌∷◌, ◌++◌, length, Option, Some, None, Result, Ok, Err, refl, sym, ap, ◌∙◌, append_assoc, arith}
use Rattle.std.specs.Option.{option_to_list}
use Rattle.std.proofs.lemmas.List.{append-nil}
use Rattle.script_text.specs.declared.command.Command.{Command}
use Rattle.script_text.specs.declared.command.Input.{Input}
use Rattle.script_text.specs.declared.command.Input.TheVariants as input
use Rattle.script_text.specs.declared.line.Before.{Before}
use Rattle.script_text.specs.declared.line.Made.{Made}
use Rattle.script_text.specs.declared.parser.ParseError.{ParseError}
use Rattle.script_text.specs.declared.parser.ParseError.TheVariants.{Syntax, Memory}
use Rattle.script_text.specs.declared.rule.Rule.{Rule}
use Rattle.script_text.specs.Grammar.{line_meaning, after, with_command, read_on, read_lines, second_divider, ended, script}
use Rattle.script_text.specs.Lines.{lines_of, pieces_of, add_byte, begins_with, without_returns}
use Rattle.script_text.specs.Parsing.{rule_number, Explains}

-- the commands of the lines before, and what is read behind them
abbrev pub joined : List Command → Result (List Command) ParseError → Result (List Command) ParseError
joined cs (Ok ds) = Ok (cs ++ ds)
joined cs (Err e) = Err e

pub joined-start : (r : Result (List Command) ParseError) → joined [] r ≡ r
joined-start (Ok ds) = refl
joined-start (Err e) = refl

pub script-start : (input : Input) (lines : List (List ℕ)) → joined [] (read_lines input 1 (record { repeated = 0; divided = false; second = None }) lines) ≡ script input lines
unfolding script
script-start input lines = joined-start _

pub joined-fault : (input : Input) (number : ℕ) (before : Before) (cs : List Command) (line : List ℕ) (lines : List (List ℕ)) (r : Rule) → line_meaning input before line ≡ Err r → joined cs (read_lines input number before (line ∷ lines)) ≡ Err (Syntax number (rule_number r))
joined-fault input number before cs line lines r e = rw e refl

joined-more : (cs : List Command) (c : Option Command) (r : Result (List Command) ParseError) → joined cs (with_command c r) ≡ joined (cs ++ option_to_list c) r
joined-more cs None (Ok ds) = ap (λ xs. Ok (xs ++ ds)) (sym (append-nil cs))
joined-more cs None (Err e) = refl
joined-more cs (Some c) (Ok ds) = ap (λ xs. Ok xs) (sym (append_assoc cs (c ∷ []) ds))
joined-more cs (Some c) (Err e) = refl

pub joined-next : (input : Input) (number : ℕ) (before : Before) (cs : List Command) (line : List ℕ) (lines : List (List ℕ)) (made : Made) → line_meaning input before line ≡ Ok made → joined cs (read_lines input number before (line ∷ lines)) ≡ joined (cs ++ option_to_list made.command) (read_lines input (number + 1) (after number before made) lines)
joined-next input number before cs line lines made e = rw e (joined-more cs made.command (read_lines input (number + 1) (after number before made) lines))

pub joined-end : (input : Input) (number : ℕ) (before : Before) (cs : List Command) (rest : List ℕ) → length rest ≡ 0 → joined cs (read_lines input number before (lines_of rest)) ≡ joined cs (ended input number before)
unfolding lines_of
joined-end input number before cs [] h = refl
joined-end input number before cs (b ∷ rest) h = absurd (cc h)

pub joined-ok : (cs : List Command) (r : Result (List Command) ParseError) → r ≡ Ok [] → joined cs r ≡ Ok cs
joined-ok cs r e = ap (joined cs) e ∙ ap (λ xs. Ok xs) (append-nil cs)

pub explains : (r : Result (List Command) ParseError) (e : ParseError) → r ≡ Err e → Explains r e
explains r (Syntax line rule) h = h
explains r Memory h = tt

-- a text has no more lines than bytes, and a script no more commands than lines
add-few : (b n : ℕ) (lines : List (List ℕ)) → length lines ≤ n → length (add_byte b lines) ≤ n + 1
add-few b n [] h = omega arith
add-few b n (line ∷ lines) h = omega (arith, h)

pieces-few : (end : ℕ) (text : List ℕ) → length (pieces_of end text) ≤ length text
pieces-few end [] = omega arith
pieces-few end (b ∷ rest) =
    (elim (b == end) as (λ (t : Bool). length (cond t ([] ∷ pieces_of end rest) (add_byte b (pieces_of end rest))) ≤ length (b ∷ rest)) [
      | true ↦ omega (arith, pieces-few end rest)
      | false ↦ omega (arith, add-few b (length rest) (pieces_of end rest) (pieces-few end rest))
    ])

returns-few : (text : List ℕ) → length (without_returns text) ≤ length text
returns-few [] = omega arith
returns-few (b ∷ rest) =
    (elim (b == 13 && begins_with 10 rest) as (λ (t : Bool). length (cond t (without_returns rest) (b ∷ without_returns rest)) ≤ length (b ∷ rest)) [
      | true ↦ omega (arith, returns-few rest)
      | false ↦ omega (arith, returns-few rest)
    ])

abbrev many : Result (List Command) ParseError → ℕ
many (Ok cs) = length cs
many (Err e) = 0

with-few : (c : Option Command) (r : Result (List Command) ParseError) → many (with_command c r) ≤ many r + 1
with-few None r = omega arith
with-few (Some c) (Ok cs) = omega arith
with-few (Some c) (Err e) = omega arith

end-few : (input : Input) (number : ℕ) (before : Before) → many (ended input number before) ≡ 0
end-few input.Run number before = refl
end-few input.Live number before = by before.divided before.second
  where
    by : (b : Bool) (o : Option ℕ) → many (cond b (second_divider o) (Err (Syntax number 9))) ≡ 0
    by true None = refl
    by true (Some n) = refl
    by false o = refl

line-few : (number : ℕ) (reading : Result Made Rule) (rest : Made → Result (List Command) ParseError) (n : ℕ) → ((made : Made) → many (rest made) ≤ n) → many (read_on number reading rest) ≤ n + 1
line-few number (Ok made) rest n few = omega (arith, with-few made.command (rest made), few made)
line-few number (Err e) rest n few = omega arith

lines-few : (input : Input) (number : ℕ) (before : Before) (lines : List (List ℕ)) → many (read_lines input number before lines) ≤ length lines
lines-few input number before [] = omega (arith, end-few input number before)
lines-few input number before (line ∷ lines) =
    let few = line-few number (line_meaning input before line) (λ made. read_lines input (number + 1) (after number before made) lines) (length lines) (λ made. lines-few input (number + 1) (after number before made) lines) in
    omega (arith, few)

pub commands-few : (text : List ℕ) (commands : List Command) → script input.Run (lines_of text) ≡ Ok commands → length commands ≤ length text
unfolding script lines_of
commands-few text commands h =
    let lines = pieces_of 10 (without_returns text) in
    let same : many (read_lines input.Run 1 (record { repeated = 0; divided = false; second = None }) lines) ≡ length commands = ap many h in
    omega (arith, same, lines-few input.Run 1 (record { repeated = 0; divided = false; second = None }) lines, pieces-few 10 (without_returns text), returns-few text)
