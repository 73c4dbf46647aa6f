-- What a delivery does to its host.
use Rattle.std.specs.Prelude.{ℕ, ◌≡◌, ◌≤◌, List, ◌++◌, None, Some, Result, Ok, Err, length, take, map, slice_get, IsPermutation, IsSorted}
use Rattle.std.specs.Ordering.{nat_cmp}
use Rattle.rep_types.specs.declared.entry.Entry.{Entry}
use Rattle.rep_types.specs.declared.memory.Memory.{Memory}
use Rattle.rep_types.specs.declared.reply.Cause.{Cause}
use Rattle.wire_batch.specs.declared.batch.Batch.{Batch}
use Rattle.sink.specs.declared.arrivals.Arrival.{Arrival}
use Rattle.sink.specs.declared.arrivals.Halt.TheVariants as halt
use Rattle.sink.specs.declared.delivery.Delivered.{Delivered}
use Rattle.sink.specs.declared.delivery.Delivered.TheVariants.{All, Stopped}
use Rattle.sink.specs.Arriving.{Arriving}

-- a form of the batch comes from its peer, and from the entry of its cluster with the form's region and sequence id
abbrev pub arrival : Batch → Entry → Arrival
arrival b form = record { form = form; origin = record { peer = b.peer; entry = record { cluster = b.cluster; region = form.region; seq = form.seq } } }

-- the first of the batch's forms arrived, so many of them and in order, and these tickets were answered meanwhile
pub record Arrived (b : Batch) (forms : List Entry) (count : ℕ) (old new : Arriving) (told : List ℕ) : Type 0 where
  pub within : count ≤ length forms
  pub arrived : new.arrived ≡ old.arrived ++ map (arrival b) (take count forms)
  pub tickets : new.acks ≡ old.acks ++ told

-- these are the tickets, ascending
pub record Ascend (told acks : List ℕ) : Type 0 where
  pub same : IsPermutation told acks
  pub order : IsSorted nat_cmp acks

pub record ArrivedAll (b : Batch) (forms : List Entry) (count : ℕ) (acks : List ℕ) (old new : Arriving) : Type 0 where
  pub told : List ℕ
  pub arrived : Arrived b forms count old new told
  pub whole : count ≡ length forms
  pub calm : new.halted ≡ None
  pub acks_are : Ascend told acks

-- the form behind those that arrived was refused for this cause
pub record StoppedAt (b : Batch) (forms : List Entry) (index : ℕ) (acks : List ℕ) (cause : Cause) (old new : Arriving) : Type 0 where
  pub told : List ℕ
  pub arrived : Arrived b forms index old new told
  pub form : Entry
  pub next : slice_get forms index ≡ Some form
  pub halted : new.halted ≡ Some (halt.Stopped (arrival b form) cause)
  pub acks_are : Ascend told acks

-- memory ran out behind forms that arrived, at the host or here
pub record RanOut (b : Batch) (forms : List Entry) (old new : Arriving) : Type 0 where
  pub count : ℕ
  pub told : List ℕ
  pub arrived : Arrived b forms count old new told

abbrev pub Delivers : Batch → List Entry → Arriving → Arriving → Result Delivered Memory → Type 0
Delivers b forms old new (Ok (All count acks)) = ArrivedAll b forms count acks old new
Delivers b forms old new (Ok (Stopped index acks cause)) = StoppedAt b forms index acks cause old new
Delivers b forms old new (Err memory) = RanOut b forms old new
