-- The lines of a script go on by those of one command.
use Rattle.std.proofs.Common.{◌≡◌, ℕ, ◌+◌, Bool, true, false, List, [], ◌∷◌, ◌++◌, Option, Some, None, length, drop, cond, refl, sym, ap, ◌∙◌, subst, append_assoc, add-zero, zero-add, add_assoc, length-append}
use Rattle.std.specs.Prelude.{codes, is_some}
use Rattle.std.proofs.Math.Seq.{drop-append_seam}
use Rattle.std.proofs.lemmas.Bool.{true≢false}
use Rattle.std.proofs.lemmas.List.{append-nil}
use Rattle.rep_types.specs.declared.event.Event.{Event}
use Rattle.rep_types.specs.declared.record.Record.{Record}
use Rattle.rep_model.specs.Keyed.{given}
use Rattle.rep_model.specs.Runs.{state_on, state_of}
use Rattle.rep_model.specs.State.{opening}
use Rattle.rep_model.specs.declared.machine.Machine.{Machine}
use Rattle.report_text.specs.Lines.{lines_from}
use Rattle.script_text.specs.declared.command.Command.{Command}
use Rattle.script_text.specs.declared.command.Command.TheVariants as command
use Rattle.script_text.specs.Drains.{numbers, drain_end}
use Rattle.script_text.specs.Due.{after_record, after_records, due, Does, ExpandsFrom}
use Rattle.script_lines.specs.Lines.{own_of, end_text, command_text, lines_after, lines}
use Rattle.script_lines.specs.Views.{view_text}

-- a command's own records are those that it makes
if-some : (o : Option Event) (e : Event) (xs : List Record) → o ≡ Some e → cond (is_some o) xs [] ≡ xs
if-some o e xs h = ap (λ (x : Option Event). cond (is_some x) xs []) h

if-none : (o : Option Event) (xs : List Record) → o ≡ None → cond (is_some o) xs [] ≡ []
if-none o xs h = ap (λ (x : Option Event). cond (is_some x) xs []) h

own-none : (c : Command) (m : Machine) (before rest : List Record) → due c m before ≡ None → own_of c m before rest ≡ []
own-none c m before [] h = refl
own-none c m before (r ∷ rs) h = if-none (due c m before) (r ∷ own_of c m (before ++ r ∷ []) rs) h

own-same : (c : Command) (m : Machine) (before own rest : List Record) → Does c m before own → own_of c m before (own ++ rest) ≡ own
own-same c m before [] rest d = own-none c m before rest d
own-same c m before (r ∷ own) rest d =
    if-some (due c m before) r.event (r ∷ own_of c m (before ++ r ∷ []) (own ++ rest)) d.0 ∙ ap (λ (rs : List Record). r ∷ rs) (own-same c m (before ++ r ∷ []) own rest d.2)

after-append : (m : Machine) (xs ys : List Record) → after_records m (xs ++ ys) ≡ after_records (after_records m xs) ys
after-append m [] ys = refl
after-append m (x ∷ xs) ys = after-append (after_record m x) xs ys

pub state_of-append : (xs ys : List Record) → state_of (xs ++ ys) ≡ after_records (state_of xs) ys
unfolding state_on
state_of-append xs ys = after-append opening xs ys

expands-push : (m : Machine) (cs : List Command) (records : List Record) (c : Command) (own : List Record) → ExpandsFrom m cs records → Does c (after_records m records) [] own → ExpandsFrom m (cs ++ c ∷ []) (records ++ own)
expands-push m [] records c own e d =
    (own, [], ap (λ (rs : List Record). rs ++ own) e ∙ sym (append-nil own), subst (λ (rs : List Record). Does c (after_records m rs) [] own) e d, refl)
expands-push m (x ∷ cs) records c own e d = (
  e.0,
  e.1 ++ own,
  ap (λ (rs : List Record). rs ++ own) e.2 ∙ append_assoc e.0 e.1 own,
  e.3,
  expands-push (after_records m e.0) cs e.1 c own e.4 (subst (λ (s : Machine). Does c s [] own) (ap (after_records m) e.2 ∙ after-append m e.0 e.1) d),
)

-- the lines of the first command, and those of the others
lines-first : (before : ℕ) (m : Machine) (c : Command) (cs : List Command) (own rest : List Record) → Does c m [] own → lines_after before m (c ∷ cs) (own ++ rest) ≡ command_text c before m own ++ lines_after (before + length own) (after_records m own) cs rest
lines-first before m c cs own rest d =
    ap (λ (o : List Record). command_text c before m o ++ lines_after (before + length o) (after_records m o) cs (drop (length o) (own ++ rest))) (own-same c m [] own rest d)
    ∙ ap (λ (t : List Record). command_text c before m own ++ lines_after (before + length own) (after_records m own) cs t) (drop-append_seam own rest)

lines-one : (before : ℕ) (m : Machine) (c : Command) (own : List Record) → Does c m [] own → lines_after before m (c ∷ []) own ≡ command_text c before m own
lines-one before m c own d =
    ap (lines_after before m (c ∷ [])) (sym (append-nil own)) ∙ lines-first before m c [] own [] d ∙ append-nil (command_text c before m own)

-- the command begins where the records end
abbrev LinesPush : ℕ → Machine → List Command → Command → List Record → List Record → Type 0
LinesPush before m cs c own records =
    lines_after before m (cs ++ c ∷ []) (records ++ own) ≡ lines_after before m cs records ++ command_text c (before + length records) (after_records m records) own

lines-push : (before : ℕ) (m : Machine) (cs : List Command) (records : List Record) (c : Command) (own : List Record) → ExpandsFrom m cs records → Does c (after_records m records) [] own → LinesPush before m cs c own records
lines-push before m [] records c own e d =
    let begun : Does c m [] own = subst (λ (rs : List Record). Does c (after_records m rs) [] own) e d in
    subst (LinesPush before m [] c own) (sym e) (lines-one before m c own begun ∙ ap (λ (n : ℕ). command_text c n m own) (sym (add-zero before)))
lines-push before m (x ∷ cs) records c own e d =
    let first = e.0 in
    let rest = e.1 in
    let later = after_records m first in
    let then : Does c (after_records later rest) [] own = subst (λ (s : Machine). Does c s [] own) (ap (after_records m) e.2 ∙ after-append m first rest) d in
    let left = command_text x before m first in
    let others = lines_after (before + length first) later cs rest in
    subst (LinesPush before m (x ∷ cs) c own) (sym e.2) (
    ap (lines_after before m (x ∷ (cs ++ c ∷ []))) (append_assoc first rest own)
    ∙ lines-first before m x (cs ++ c ∷ []) first (rest ++ own) e.3
    ∙ ap (λ (t : List ℕ). left ++ t) (lines-push (before + length first) later cs rest c own e.4 then)
    ∙ sym (append_assoc left others (command_text c ((before + length first) + length rest) (after_records later rest) own))
    ∙ ap (λ (t : List ℕ). t ++ command_text c ((before + length first) + length rest) (after_records later rest) own) (sym (lines-first before m x cs first rest e.3))
    ∙ ap (λ (n : ℕ). lines_after before m (x ∷ cs) (first ++ rest) ++ command_text c n (after_records later rest) own) (add_assoc before (length first) (length rest) ∙ ap (λ (n : ℕ). before + n) (sym (length-append first rest)))
    ∙ ap (λ (s : Machine). lines_after before m (x ∷ cs) (first ++ rest) ++ command_text c (before + length (first ++ rest)) s own) (sym (after-append m first rest)))

-- a script goes on by one command
pub lines-new : lines [] [] ≡ []
unfolding lines
lines-new = refl

pub ExpandsFrom-more : (cs : List Command) (records : List Record) (c : Command) (own : List Record) → ExpandsFrom opening cs records → Does c (state_of records) [] own → ExpandsFrom opening (cs ++ c ∷ []) (records ++ own)
unfolding state_on
ExpandsFrom-more cs records c own e d = expands-push opening cs records c own e d

pub lines-more : (cs : List Command) (records : List Record) (c : Command) (own : List Record) → ExpandsFrom opening cs records → Does c (state_of records) [] own → lines (cs ++ c ∷ []) (records ++ own) ≡ lines cs records ++ command_text c (length records) (state_of records) own
unfolding lines state_on
lines-more cs records c own e d =
    lines-push 0 opening cs records c own e d ∙ ap (λ (n : ℕ). lines_after 0 opening cs records ++ command_text c n (after_records opening records) own) (zero-add (length records))

abbrev pub is_drain : Command → Bool
is_drain command.Drain = true
is_drain _ = false

-- a command that is no drain has no last line
end-none : (c : Command) (m : Machine) (own : List Record) → is_drain c ≡ false → end_text c m own ≡ []
end-none command.Drain m own h = absurd (true≢false h)
end-none _ m own h = refl

pub command_text-plain : (c : Command) (before : ℕ) (m : Machine) (own : List Record) → is_drain c ≡ false → lines_from (before + 1) own ++ view_text c (before + length own) (after_records m own) ≡ command_text c before m own
command_text-plain c before m own h =
    let view = view_text c (before + length own) (after_records m own) in
    ap (λ (t : List ℕ). lines_from (before + 1) own ++ t) (sym (append-nil view) ∙ ap (λ (t : List ℕ). view ++ t) (sym (end-none c m own h)))

-- with nothing in either cluster, a drain is its last line alone
drain-line : lines (command.Drain ∷ []) [] ≡ codes "drained\n"
unfolding lines drain_end numbers given
drain-line = refl
