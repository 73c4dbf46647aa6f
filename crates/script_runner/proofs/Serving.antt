-- The commands of scripts are served, and so are their events.
use Rattle.std.proofs.Common.{◌≡◌, ℕ, ◌&&◌, Bool, true, false, cond, List, [], ◌∷◌, Option, Some, None, refl, ap, subst, arith}
use Rattle.std.specs.Prelude.{nat_lt, nat_le, slice_get, length}
use Rattle.std.specs.Option.{option_map}
use Rattle.std.proofs.lemmas.Bool.{and_parts}
use Rattle.std.proofs.lemmas.Bool.Decides.{nat_tests}
use Rattle.rep_types.specs.declared.event.Event.{Event}
use Rattle.rep_types.specs.declared.event.Event.TheVariants as event
use Rattle.rep_types.specs.declared.record.Record.{Record}
use Rattle.rep_types.specs.declared.reply.Reply.{Reply}
use Rattle.rep_types.specs.declared.reply.Reply.TheVariants as reply
use Rattle.rep_model.specs.State.{Pair}
use Rattle.rep_model.specs.Words.{is_paired, is_worded}
use Rattle.rep_model.specs.declared.machine.Machine.{Machine}
use Rattle.pair_core.specs.Served as pair
use Rattle.script_text.specs.declared.command.Command.{Command}
use Rattle.script_text.specs.declared.command.Command.TheVariants as command
use Rattle.script_text.specs.Drains.{live_servers}
use Rattle.script_text.specs.Due.{goes_on, due}
use Rattle.script_text.specs.Expansion.{passes, flight_sent, only_if}
use Rattle.script_lines.proofs.Whole.{is_drain}
use Rattle.script_runner.specs.Served.{is_served}

-- an event that the pair takes
abbrev pub IsTaken : Event → Type 0
IsTaken e = (pair.is_served e ≡ true) × (is_worded Pair e ≡ true)

abbrev event_or : Event → Option Event → Event
event_or e None = e
event_or e (Some x) = x

taken-some : (x e : Event) → Some x ≡ Some e → IsTaken x → IsTaken e
taken-some x e h taken = subst IsTaken (ap (event_or x) h) taken

taken-only : (b : Bool) (o : Option Event) (e : Event) → only_if b o ≡ Some e → ((x : Event) → o ≡ Some x → IsTaken x) → IsTaken e
taken-only true o e h taken = taken e h
taken-only false o e h taken = absurd (cc h)

taken-map : {X : Type 0} (f : X → Event) (o : Option X) (e : Event) → ((x : X) → IsTaken (f x)) → option_map f o ≡ Some e → IsTaken e
taken-map f None e taken h = absurd (cc h)
taken-map f (Some x) e taken h = taken-some (f x) e h (taken x)

and-true : (a : Bool) → a ≡ true → (a && true) ≡ true
and-true true h = refl
and-true false h = h

flight-taken : (make : ℕ → Event) (sent : Reply) (e : Event) → ((k : ℕ) → nat_le 1 k ≡ true → IsTaken (make k)) → option_map make (flight_sent sent) ≡ Some e → IsTaken e
flight-taken make (reply.Sent flight entries forms) e taken h =
    (elim (nat_lt 0 flight) as (λ (b : Bool). nat_lt 0 flight ≡ b → option_map make (cond b (Some flight) None) ≡ Some e → IsTaken e) [
      | true ↦ λ less g. taken-some (make flight) e g (taken flight (at_least flight less))
      | false ↦ λ less g. absurd (cc g)
    ]) refl h
  where
    at_least : (n : ℕ) → nat_lt 0 n ≡ true → nat_le 1 n ≡ true
    at_least n less = grind (arith, nat_tests)
flight-taken make _ e taken h = absurd (cc h)

-- each event of a served command is one that the pair takes
pub event-taken : (c : Command) (m : Machine) (rs : List Record) (e : Event) → is_served c ≡ true → due c m rs ≡ Some e → IsTaken e
event-taken (command.Single x) m [] e served h = taken-some x e h (and_parts (pair.is_served x) (is_worded Pair x) served)
event-taken (command.Single x) m (r ∷ rs) e served h = absurd (cc h)
event-taken (command.Open c r s) m [] e served h = taken-some _ e h (refl, served)
event-taken (command.Open c r s) m (x ∷ []) e served h = taken-only (passes x.reply) _ e h (λ y g. taken-some _ y g (refl, served))
event-taken (command.Open c r s) m (x ∷ y ∷ rs) e served h = absurd (cc h)
event-taken (command.Close c r) m [] e served h = taken-some _ e h (refl, served)
event-taken (command.Close c r) m (x ∷ []) e served h = taken-only (passes x.reply) _ e h (λ y g. taken-some _ y g (refl, served))
event-taken (command.Close c r) m (x ∷ y ∷ rs) e served h = absurd (cc h)
event-taken (command.Move c r s) m [] e served h = taken-some _ e h (refl, served)
event-taken (command.Move c r s) m (x ∷ []) e served h = taken-only (passes x.reply) _ e h (λ y g. taken-some _ y g (refl, served))
event-taken (command.Move c r s) m (x ∷ y ∷ []) e served h = taken-only (passes y.reply) _ e h (λ z g. taken-some _ z g (refl, served))
event-taken (command.Move c r s) m (x ∷ y ∷ z ∷ []) e served h = taken-only (passes z.reply) _ e h (λ w g. taken-some _ w g (refl, served))
event-taken (command.Move c r s) m (x ∷ y ∷ z ∷ w ∷ rs) e served h = absurd (cc h)
event-taken (command.Ship c p s) m [] e served h = taken-some _ e h (refl, and-true (is_paired c) served)
event-taken (command.Ship c p s) m (x ∷ []) e served h = flight-taken event.Deliver x.reply e (λ k least. (refl, least)) h
event-taken (command.Ship c p s) m (x ∷ y ∷ []) e served h = taken-only (passes y.reply) _ e h (λ z g. flight-taken event.Confirm x.reply z (λ k least. (refl, least)) g)
event-taken (command.Ship c p s) m (x ∷ y ∷ z ∷ rs) e served h = absurd (cc h)
event-taken (command.SyncAll c) m rs e served h = taken-only (goes_on rs) _ e h (λ y g. taken-map (event.Sync c) (slice_get (live_servers c m) (length rs)) y (λ s. (refl, served)) g)
event-taken (command.Queues c) m rs e served h = absurd (cc h)
event-taken (command.Regions c) m rs e served h = absurd (cc h)
event-taken command.Status m rs e served h = absurd (cc h)
event-taken (command.Fail c call nth bytes) m rs e served h = absurd (cc h)
event-taken (command.Keep c bytes) m rs e served h = absurd (cc h)
event-taken _ m rs e served h = absurd (cc served)

-- and none is a drain
pub served-drains : (c : Command) → is_served c ≡ true → is_drain c ≡ false
served-drains command.Drain served = absurd (cc served)
served-drains _ served = refl
