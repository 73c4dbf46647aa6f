-- A delivery, form by form.
use Rattle.std.proofs.Common.{◌≡◌, ℕ, zero, suc, ◌+◌, ◌<◌, ◌≤◌, List, [], ◌∷◌, ◌++◌, length, take, get_or, None, Some, sym, ap, ◌∙◌, append_assoc, arith}
use Rattle.std.specs.Prelude.{map, slice_get}
use Rattle.std.proofs.lemmas.List.{append-nil}
use Rattle.std.proofs.lemmas.Option.{none-some, same_Some, slice_get-get_or, slice_get_within}
use Rattle.rep_types.specs.declared.entry.Entry.{Entry}
use Rattle.rep_types.specs.declared.entry.Origin.{Origin}
use Rattle.rep_types.specs.declared.reply.Cause.{Cause}
use Rattle.wire_batch.specs.declared.batch.Batch.{Batch}
use Rattle.sink.specs.declared.arrivals.Halt.TheVariants as halt
use Rattle.sink.specs.declared.arrivals.Arrival.{Arrival}
use Rattle.sink.specs.Arriving.{Arriving}
use Rattle.sink.specs.Delivering.{arrival, Arrived, Ascend, ArrivedAll, StoppedAt, RanOut}

-- the first forms arrived, with these tickets, and none was refused
pub record IsUnderway (b : Batch) (forms : List Entry) (at : ℕ) (old now : Arriving) (told : List ℕ) : Type 0 where
  pub so_far : Arrived b forms at old now told
  pub calm : now.halted ≡ None

pub begun : (b : Batch) (forms : List Entry) (old : Arriving) → old.halted ≡ None → IsUnderway b forms 0 old old []
begun b forms old calm = record {
  so_far = record { within = omega arith; arrived = sym (append-nil old.arrived); tickets = sym (append-nil old.acks) };
  calm = calm;
}

one_more : {A B : Type 0} (f : A → B) (at : ℕ) (x : A) (xs : List A) → slice_get xs at ≡ Some x → map f (take (suc at) xs) ≡ map f (take at xs) ++ f x ∷ []
one_more f at x [] there = absurd (none-some x there)
one_more f zero x (y ∷ ys) there = ap (λ z. f z ∷ []) (same_Some y x there)
one_more f (suc at) x (y ∷ ys) there = ap (λ zs. f y ∷ zs) (one_more f at x ys there)

pub there : (forms : List Entry) (at : ℕ) (form : Entry) → at < length forms → form ≡ get_or forms at form → slice_get forms at ≡ Some form
there forms at form lt is = slice_get-get_or forms at form lt ∙ ap (λ (e : Entry). Some e) (sym is)

-- a form was taken
pub went : (b : Batch) (forms : List Entry) (at : ℕ) (old now new : Arriving) (told tickets : List ℕ) (form : Entry) (origin : Origin) → IsUnderway b forms at old now told → slice_get forms at ≡ Some form → origin ≡ (arrival b form).origin
    → new ≡ record now { arrived = now.arrived ++ record { form = form; origin = origin } ∷ []; acks = now.acks ++ tickets } → IsUnderway b forms (at + 1) old new (told ++ tickets)
went b forms at old now new told tickets form origin h found from is =
    let next : at + 1 ≡ suc at = omega arith in
    let came : Arrival = record { form = form; origin = origin } in
    let from_b : came ≡ arrival b form = ap (λ (o : Origin). record { form = form; origin = o }) from in
    rw next (record {
      so_far = record {
        within = omega (arith, slice_get_within forms at form found);
        arrived = ap (λ (a : Arriving). a.arrived) is ∙ ap (λ (xs : List Arrival). xs ++ came ∷ []) h.so_far.arrived
            ∙ append_assoc old.arrived (map (arrival b) (take at forms)) (came ∷ [])
            ∙ ap (λ (xs : List Arrival). old.arrived ++ xs) (ap (λ (c : Arrival). map (arrival b) (take at forms) ++ c ∷ []) from_b ∙ sym (one_more (arrival b) at form forms found));
        tickets = ap (λ (a : Arriving). a.acks) is ∙ ap (λ (ts : List ℕ). ts ++ tickets) h.so_far.tickets ∙ append_assoc old.acks told tickets;
      };
      calm = ap (λ (a : Arriving). a.halted) is ∙ h.calm;
    })

-- a refusal leaves what arrived
pub left : (b : Batch) (forms : List Entry) (at : ℕ) (old now new : Arriving) (told : List ℕ) → IsUnderway b forms at old now told → new.arrived ≡ now.arrived → new.acks ≡ now.acks → Arrived b forms at old new told
left b forms at old now new told h same tickets = record {
  within = h.so_far.within;
  arrived = same ∙ h.so_far.arrived;
  tickets = tickets ∙ h.so_far.tickets;
}

pub stopped : (b : Batch) (forms : List Entry) (at index : ℕ) (old now new : Arriving) (told acks : List ℕ) (form : Entry) (origin : Origin) (cause : Cause) → IsUnderway b forms at old now told → slice_get forms at ≡ Some form → origin ≡ (arrival b form).origin
    → new ≡ record now { halted = Some (halt.Stopped (record { form = form; origin = origin }) cause) } → Ascend told acks → index ≡ at → StoppedAt b forms index acks cause old new
stopped b forms at index old now new told acks form origin cause h found from is ascend same =
    rw same (record {
      told = told;
      arrived = left b forms at old now new told h (ap (λ (a : Arriving). a.arrived) is) (ap (λ (a : Arriving). a.acks) is);
      form = form;
      next = found;
      halted = ap (λ (a : Arriving). a.halted) is ∙ ap (λ (o : Origin). Some (halt.Stopped (record { form = form; origin = o }) cause)) from;
      acks_are = ascend;
    })

pub ran_out : (b : Batch) (forms : List Entry) (at : ℕ) (old now new : Arriving) (told : List ℕ) → IsUnderway b forms at old now told → new ≡ record now { halted = Some halt.Memory } → RanOut b forms old new
ran_out b forms at old now new told h is = record {
  count = at;
  told = told;
  arrived = left b forms at old now new told h (ap (λ (a : Arriving). a.arrived) is) (ap (λ (a : Arriving). a.acks) is);
}

pub ran_out_here : (b : Batch) (forms : List Entry) (at : ℕ) (old now : Arriving) (told : List ℕ) → IsUnderway b forms at old now told → RanOut b forms old now
ran_out_here b forms at old now told h = record { count = at; told = told; arrived = h.so_far }

pub arrived_all : (b : Batch) (forms : List Entry) (at count : ℕ) (old now : Arriving) (told acks : List ℕ) → IsUnderway b forms at old now told → length forms ≤ at → Ascend told acks → count ≡ at → ArrivedAll b forms count acks old now
arrived_all b forms at count old now told acks h end ascend same =
    rw same (record { told = told; arrived = h.so_far; whole = omega (arith, end, h.so_far.within); calm = h.calm; acks_are = ascend })
