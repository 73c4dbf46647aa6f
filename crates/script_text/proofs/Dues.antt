-- Commands that don't ask for the state have the same events with and without it.
use Rattle.std.proofs.Common.{◌≡◌, false, List, [], ◌∷◌, ◌++◌, Some, None, map, refl, sym, ap, ◌∙◌, subst}
use Rattle.rep_types.specs.declared.record.Record.{Record}
use Rattle.rep_types.specs.declared.reply.Reply.{Reply}
use Rattle.rep_types.specs.declared.view.DrainEnd.TheVariants.{Drained}
use Rattle.rep_model.specs.Keyed.{given}
use Rattle.rep_model.specs.State.{opening}
use Rattle.rep_model.specs.declared.machine.Machine.{Machine}
use Rattle.script_text.specs.declared.command.Command.{Command}
use Rattle.script_text.specs.declared.command.Command.TheVariants as command
use Rattle.script_text.specs.Drains.{numbers, start, drain_event, drain_end}
use Rattle.script_text.specs.Due.{reply_in, goes_on, after_records, due, Does, ExpandsFrom}
use Rattle.script_text.specs.Expansion.{passes, asks_state, next_event, GoesOn, Performs, Expands}

pub due-same : (c : Command) (m : Machine) (rs : List Record) → asks_state c ≡ false → due c m rs ≡ next_event c (map reply_in rs)
due-same (command.Single e) m rs h = refl
due-same (command.Open c r s) m rs h = refl
due-same (command.Close c r) m rs h = refl
due-same (command.Move c r s) m rs h = refl
due-same (command.Ship c p s) m rs h = refl
due-same (command.SyncAll c) m rs h = absurd (cc h)
due-same (command.Promote c) m rs h = absurd (cc h)
due-same command.Drain m rs h = absurd (cc h)
due-same (command.Queues c) m rs h = refl
due-same (command.Regions c) m rs h = refl
due-same command.Status m rs h = refl
due-same (command.Fail c k n b) m rs h = refl
due-same (command.Keep c b) m rs h = refl
due-same command.Divider m rs h = refl

replies-push : (rs : List Record) (r : Record) → map reply_in (rs ++ r ∷ []) ≡ map reply_in rs ++ r.reply ∷ []
replies-push [] r = refl
replies-push (x ∷ rs) r = ap (λ xs. x.reply ∷ xs) (replies-push rs r)

does : (c : Command) (m : Machine) (before rs : List Record) → asks_state c ≡ false → GoesOn c (map reply_in before) rs → Does c m before rs
does c m before [] h g = due-same c m before h ∙ g
does c m before (r ∷ rs) h g =
    (due-same c m before h ∙ g.0, g.1, does c m (before ++ r ∷ []) rs h (subst (λ (xs : List Reply). GoesOn c xs rs) (sym (replies-push before r)) g.2))

-- all the events of one command
pub does-performed : (c : Command) (m : Machine) (own : List Record) → asks_state c ≡ false → Performs c own → Does c m [] own
does-performed c m own h p = does c m [] own h p

abbrev asks_some : List Command → Type 0
asks_some [] = Unit {0}
asks_some (c ∷ cs) = (asks_state c ≡ false) × asks_some cs

-- the events that replies alone give are those that the state gives too
pub expands-from : (m : Machine) (cs : List Command) (records : List Record) → asks_some cs → Expands cs records → ExpandsFrom m cs records
expands-from m [] records h e = e
expands-from m (c ∷ cs) records h e =
    (e.0, e.1, e.2, does c m [] e.0 h.0 e.3, expands-from (after_records m e.0) cs e.1 h.1 e.4)

-- a command that asks for the state too goes on where its last reply passes
pub last-passes : (rs : List Record) (xs : List Reply) (x : Reply) → map reply_in rs ≡ xs ++ x ∷ [] → goes_on rs ≡ passes x
last-passes [] [] x e = absurd (cc e)
last-passes [] (y ∷ ys) x e = absurd (cc e)
last-passes (r ∷ []) [] x e = let same : r.reply ≡ x = cc e in ap passes same
last-passes (r ∷ []) (y ∷ []) x e = absurd (cc e)
last-passes (r ∷ []) (y ∷ z ∷ ys) x e = absurd (cc e)
last-passes (r ∷ s ∷ rs) [] x e = absurd (cc e)
last-passes (r ∷ s ∷ rs) (y ∷ ys) x e = let rest : map reply_in (s ∷ rs) ≡ ys ++ x ∷ [] = cc e in last-passes (s ∷ rs) ys x rest

-- with nothing in either cluster, a drain makes no event and ends
nothing-due : due command.Drain opening [] ≡ None
unfolding drain_event numbers given
nothing-due = refl

nothing-left : drain_end opening (start opening) ≡ Some Drained
unfolding drain_end numbers given
nothing-left = refl
