-- A command goes on by one event.
use Rattle.std.proofs.Common.{◌≡◌, List, [], ◌∷◌, ◌++◌, map, Some, None, refl, sym, ap, ◌∙◌, append_assoc}
use Rattle.std.proofs.lemmas.List.{append-nil, map-append}
use Rattle.rep_types.specs.declared.reply.Reply.{Reply}
use Rattle.rep_types.specs.declared.record.Record.{Record}
use Rattle.rep_model.specs.declared.machine.Machine.{Machine}
use Rattle.script_text.specs.declared.command.Command.{Command}
use Rattle.script_text.specs.Due.{reply_in, due, Does}

-- behind these, the records are the command's next events so far
abbrev DoesSoFar : Command → Machine → List Record → List Record → Type 0
DoesSoFar c m before [] = Unit {0}
DoesSoFar c m before (r ∷ rs) = (due c m before ≡ Some r.event) × (r.actor ≡ 0) × DoesSoFar c m (before ++ r ∷ []) rs

does-push : (c : Command) (m : Machine) (before own : List Record) (r : Record) → DoesSoFar c m before own → due c m (before ++ own) ≡ Some r.event → r.actor ≡ 0 → DoesSoFar c m before (own ++ r ∷ [])
does-push c m before [] r g e a = (ap (due c m) (sym (append-nil before)) ∙ e, a, tt)
does-push c m before (x ∷ own) r g e a = (g.0, g.1, does-push c m (before ++ x ∷ []) own r g.2 (ap (due c m) (append_assoc before (x ∷ []) own) ∙ e) a)

does-end : (c : Command) (m : Machine) (before own : List Record) → DoesSoFar c m before own → due c m (before ++ own) ≡ None → Does c m before own
does-end c m before [] g e = ap (due c m) (sym (append-nil before)) ∙ e
does-end c m before (x ∷ own) g e = (g.0, g.1, does-end c m (before ++ x ∷ []) own g.2 (ap (due c m) (append_assoc before (x ∷ []) own) ∙ e))

-- the records so far of a command whose replies are known
pub record SoFar (c : Command) (m : Machine) (before now : List Record) (replies : List Reply) : Type 0 where
  pub own : List Record
  pub grown : now ≡ before ++ own
  pub events : DoesSoFar c m [] own
  pub answers : replies ≡ map reply_in own

pub SoFar-new : (c : Command) (m : Machine) (before : List Record) → SoFar c m before before []
SoFar-new c m before = record { own = []; grown = sym (append-nil before); events = tt; answers = refl }

pub SoFar-push : (c : Command) (m : Machine) (before now next : List Record) (replies more : List Reply) (r : Record) (so_far : SoFar c m before now replies) → due c m so_far.own ≡ Some r.event → r.actor ≡ 0 → next ≡ now ++ r ∷ [] → more ≡ replies ++ r.reply ∷ [] → SoFar c m before next more
SoFar-push c m before now next replies more r so_far e a n k =
    let own = so_far.own in record {
      own = own ++ r ∷ [];
      grown = n ∙ ap (λ rs. rs ++ r ∷ []) so_far.grown ∙ append_assoc before own (r ∷ []);
      events = does-push c m [] own r so_far.events e a;
      answers = k ∙ ap (λ rs. rs ++ r.reply ∷ []) so_far.answers ∙ sym (map-append reply_in own (r ∷ []));
    }

pub SoFar-end : (c : Command) (m : Machine) (before now : List Record) (replies : List Reply) (so_far : SoFar c m before now replies) → due c m so_far.own ≡ None → (own : List Record) × (now ≡ before ++ own) × Does c m [] own
SoFar-end c m before now replies so_far e = (so_far.own, so_far.grown, does-end c m [] so_far.own so_far.events e)
