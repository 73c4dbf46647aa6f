-- Each told fault is one more that its store has counted, of the kind that is told.
use Rattle.std.proofs.Common.{ℕ, ◌+◌, ◌≤◌, ◌<◌, ◌≡◌, ◌==◌, ◌&&◌, Bool, true, false, cond, List, [], ◌∷◌, ◌++◌, filter, length, refl, sym, ap, ◌∙◌, subst, arith, length-append}
use Rattle.std.proofs.lemmas.Bool.{false≢true, eqb-true}
use Rattle.std.proofs.lemmas.List.Elements.{filter-append}
use Rattle.rep_types.specs.declared.ids.Cluster.{Cluster}
use Rattle.rep_types.specs.declared.ids.Cluster.TheVariants.{A, B, C}
use Rattle.rep_types.specs.declared.record.Record.{Record}
use Rattle.rep_types.specs.declared.state.Call.{Call}
use Rattle.rep_types.specs.declared.state.Call.TheVariants as call
use Rattle.rep_types.specs.declared.reply.Cause.TheVariants as cause
use Rattle.rep_types.specs.declared.reply.Reply.{Reply}
use Rattle.rep_types.specs.declared.reply.Reply.TheVariants as reply
use Rattle.rep_vault.specs.Tallies.{Tally, number, same}
use Rattle.pair_core.specs.Performs.{RoseIn, FaultRose}
use Rattle.pair_core.specs.Sides.{Both}
use Rattle.pair_core.specs.Told.{is_call_of, is_fault_of, tells_of, told_of}

-- ---- a kind is known by its number

numbered : ℕ → Call
numbered n =
    cond (n == 0) call.Create (cond (n == 1) call.Append (cond (n == 2) call.Sync (cond (n == 3) call.Seal (cond (n == 4) call.Read
    (cond (n == 5) call.Make (cond (n == 6) call.Rename (cond (n == 7) call.Remove (cond (n == 8) call.List call.Put))))))))

numbered-number : (k : Call) → numbered (number k) ≡ k
unfolding numbered
numbered-number call.Create = refl
numbered-number call.Append = refl
numbered-number call.Sync = refl
numbered-number call.Seal = refl
numbered-number call.Read = refl
numbered-number call.Make = refl
numbered-number call.Rename = refl
numbered-number call.Remove = refl
numbered-number call.List = refl
numbered-number call.Put = refl

one_kind : (j k : Call) → same j k ≡ true → k ≡ j
one_kind j k e = sym (numbered-number k) ∙ ap numbered (sym (eqb-true (number j) (number k) e)) ∙ numbered-number j

-- ---- the count of the kind rose

rose_by : (j k : Call) (old new : Tally) → old.faults k < new.faults k → same j k ≡ true → old.faults j < new.faults j
rose_by j k old new less e = subst (λ (i : Call). old.faults i < new.faults i) (one_kind j k e) less

abbrev pub RoseAt : Cluster → Call → Both Tally → Both Tally → Type 0
RoseAt A k old new = old.a.faults k < new.a.faults k
RoseAt B k old new = old.b.faults k < new.b.faults k
RoseAt C k old new = Unit {0}

rose_in : (c store : Cluster) (k kind : Call) (n : ℕ) (old new : Both Tally) → RoseIn store old new kind n → is_call_of c k store kind ≡ true → RoseAt c k old new
rose_in A A k kind n old new rose e = rose_by k kind old.a new.a rose.kind e
rose_in B B k kind n old new rose e = rose_by k kind old.b new.b rose.kind e
rose_in A B k kind n old new rose e = absurd (false≢true e)
rose_in B A k kind n old new rose e = absurd (false≢true e)
rose_in C store k kind n old new rose e = tt
rose_in c C k kind n old new rose e = absurd rose

pub rose_at : (c : Cluster) (k : Call) (said : Reply) (old new : Both Tally) → FaultRose said old new → is_fault_of c k said ≡ true → RoseAt c k old new
rose_at c k (reply.StoreFault store kind n) old new rose e = rose_in c store k kind n old new rose e
rose_at c k (reply.Stopped index acks (cause.StoreFault store kind n)) old new rose e = rose_in c store k kind n old new rose e
rose_at c k (reply.Stopped index acks _) old new rose e = absurd (false≢true e)
rose_at c k _ old new rose e = absurd (false≢true e)

-- ---- one record more

told-more : (c : Cluster) (k : Call) (rs : List Record) (r : Record) → told_of c k (rs ++ r ∷ []) ≡ told_of c k rs + cond (tells_of c k r) 1 0
told-more c k rs r = ap length (filter-append (tells_of c k) rs (r ∷ [])) ∙ length-append (filter (tells_of c k) rs) (filter (tells_of c k) (r ∷ [])) ∙ ap (λ (n : ℕ). told_of c k rs + n) (by (tells_of c k r))
  where
    by : (b : Bool) → length (cond b (r ∷ []) []) ≡ cond b 1 0
    by true = refl
    by false = refl

risen : (b : Bool) (told old new : ℕ) → told ≤ old → old ≤ new → (b ≡ true → old < new) → told + cond b 1 0 ≤ new
risen true told old new few kept rose = let more = rose refl in omega (arith, few, more)
risen false told old new few kept rose = omega (arith, few, kept)

pub told-next : (c : Cluster) (k : Call) (rs : List Record) (r : Record) (old new : ℕ) → told_of c k rs ≤ old → old ≤ new → (is_fault_of c k r.reply ≡ true → old < new) → told_of c k (rs ++ r ∷ []) ≤ new
told-next c k rs r old new few kept rose = subst (λ (n : ℕ). n ≤ new) (sym (told-more c k rs r)) (risen (tells_of c k r) (told_of c k rs) old new few kept rose)

-- ---- what stays told

pub told-kept : (told : Call → ℕ) (old new : Tally) → ((k : Call) → old.faults k ≤ new.faults k) → ((k : Call) → told k ≤ old.faults k) → (k : Call) → told k ≤ new.faults k
told-kept told old new kept few k = let a = few k in let b = kept k in omega (arith, a, b)

pub told-none : (c : Cluster) (k : Call) (n : ℕ) → told_of c k [] ≤ n
told-none c k n = omega arith
