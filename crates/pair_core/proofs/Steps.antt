-- A pair goes on by one step.
use Rattle.std.proofs.Common.{ℕ, ◌+◌, ◌≤◌, ◌<◌, ◌≡◌, true, false, Bool, List, [], ◌∷◌, ◌++◌, map, length, refl, sym, ◌∙◌, subst, arith, length-append, Err}
use Rattle.std.proofs.lemmas.Bool.{true≢false}
use Rattle.rep_types.specs.declared.ids.Cluster.{Cluster}
use Rattle.rep_types.specs.declared.ids.Cluster.TheVariants.{A, B, C}
use Rattle.rep_types.specs.declared.event.Event.{Event}
use Rattle.rep_types.specs.declared.state.Call.{Call}
use Rattle.rep_types.specs.declared.state.Call.TheVariants as call
use Rattle.rep_types.specs.declared.reply.Cause.{Cause}
use Rattle.rep_types.specs.declared.reply.Cause.TheVariants as cause
use Rattle.rep_types.specs.declared.reply.Reply.{Reply}
use Rattle.rep_types.specs.declared.reply.Reply.TheVariants as reply
use Rattle.rep_types.specs.declared.record.Record.{Record}
use Rattle.rep_vault.specs.Contents.{Contents}
use Rattle.rep_vault.specs.Tallies.{Tally, total}
use Rattle.rep_model.specs.declared.machine.Machine.{Machine}
use Rattle.rep_model.specs.Rows.{row}
use Rattle.rep_model.specs.Runs.{IsLegal, Counts, counts_of, step_of, Tells, after, state_of, faults_of}
use Rattle.rep_model.specs.State.{Pair}
use Rattle.rep_model.specs.Words.{is_worded}
use Rattle.rep_laws.specs.Growing.{accepted, Grows}
use Rattle.rep_laws.proofs.RowLengths.{row_grows}
use Rattle.cluster_core.specs.declared.parts.CoreError.{CoreError}
use Rattle.cluster_core.specs.declared.parts.CoreError.TheVariants as failed
use Rattle.cluster_core.specs.Does.{Counts as Counted, Reached}
use Rattle.pair_core.specs.declared.sides.Sides.{Sides}
use Rattle.pair_core.specs.Sides.{Both, AllStand, Covers}
use Rattle.pair_core.specs.Performs.{Done, Performs, changed_of, RoseIn, FaultRose}
use Rattle.pair_core.specs.Pair.{IsPair, both}
use Rattle.pair_core.specs.Told.{told_of}
use Rattle.pair_core.proofs.Runs.{legal-push, state-push, faults-push, faults-third}
use Rattle.pair_core.proofs.Seen.{at_most_one}
use Rattle.pair_core.proofs.Told.{rose_at, told-next, told-kept}

-- ---- counts

sums : (old new : Call → ℕ) → ((k : Call) → old k ≤ new k) → total old ≤ total new
sums old new h =
    let a = h call.Create in
    let b = h call.Append in
    let c = h call.Sync in
    let d = h call.Seal in
    let e = h call.Read in
    let f = h call.Make in
    let g = h call.Rename in
    let i = h call.Remove in
    let j = h call.List in
    let k = h call.Put in
    omega (arith, a, b, c, d, e, f, g, i, j, k)

upto : (a b c : ℕ) → a ≤ b → b ≤ c → a ≤ c
upto a b c h g = omega arith

still_covers : (told : ℕ) (old new : Tally) → Counted old new → Covers told old → Covers told new
still_covers told old new counts covers = upto told (total old.faults) (total new.faults) covers (sums old.faults new.faults counts.kept)

-- ---- the record

abbrev pub made : Event → Reply → Both Tally → ℕ → Record
made e said tallies actor = record { event = e; reply = said; faults_a = total tallies.a.faults; faults_b = total tallies.b.faults; actor = actor }

below : (a b c : ℕ) → a ≤ b → b < c → a < c
below a b c h g = omega arith

-- a fault that rose is told above the faults told before
rose_told : (store : Cluster) (told : Counts) (e : Event) (said : Reply) (actor : ℕ) (old new : Both Tally) (kind : Call) (n : ℕ) → Covers (told A) old.a → Covers (told B) old.b
    → RoseIn store old new kind n → (n ≡ counts_of (made e said new actor) store) × (told store < n)
rose_told A told e said actor old new kind n a b rose = (rose.count, below (told A) (total old.a.faults) n a (subst (λ k. total old.a.faults < k) (sym rose.count) rose.sum))
rose_told B told e said actor old new kind n a b rose = (rose.count, below (told B) (total old.b.faults) n b (subst (λ k. total old.b.faults < k) (sym rose.count) rose.sum))
rose_told C told e said actor old new kind n a b rose = absurd rose

-- ---- the next state

after_row : (m : Machine) (r : Record) → (row Pair r.event r.reply m).state ≡ after Pair m (step_of r)
unfolding after
after_row m r = refl

pub reached_now : (journal : List Record) → IsLegal journal → Reached Pair (state_of journal)
reached_now journal legal = record { steps = map step_of journal; legal = legal; leads = refl }

fewer : (a b c d n : ℕ) → a ≤ b → c ≡ a + n → n ≤ 1 → d ≡ b + 1 → c ≤ d
fewer a b c d n h e g i = omega arith

cause_told : (why : Cause) (told : Counts) (e : Event) (said : Reply) (actor : ℕ) (old new : Both Tally) → Covers (told A) old.a → Covers (told B) old.b → FaultRose (reply.Stopped 0 [] why) old new → Tells (reply.Stopped 0 [] why) told (counts_of (made e said new actor))
cause_told (cause.StoreFault store kind n) told e said actor old new a b rose = rose_told store told e said actor old new kind n a b rose
cause_told _ told e said actor old new a b rose = tt

tells_next : (said : Reply) (told : Counts) (e : Event) (whole : Reply) (actor : ℕ) (old new : Both Tally) → Covers (told A) old.a → Covers (told B) old.b → FaultRose said old new → Tells said told (counts_of (made e whole new actor))
tells_next (reply.StoreFault store kind n) told e whole actor old new a b rose = rose_told store told e whole actor old new kind n a b rose
tells_next (reply.Stopped index acks why) told e whole actor old new a b rose = cause_told why told e whole actor old new a b rose
tells_next _ told e whole actor old new a b rose = tt

-- no store's count falls
no_fewer : (store : Cluster) (told : Counts) (e : Event) (said : Reply) (actor : ℕ) (now : Both Tally) → Covers (told A) now.a → Covers (told B) now.b → told C ≡ 0 → told store ≤ counts_of (made e said now actor) store
no_fewer A told e said actor now a b c = a
no_fewer B told e said actor now a b c = b
no_fewer C told e said actor now a b c = omega (arith, c)

same_sum : (t : Tally) → total t.faults ≤ total t.faults
same_sum t = omega arith

pub pair_goes_on : {V : Type 0} (contents : V → Contents) (tally : V → Tally) (journal : List Record) (sides left : Sides) (a b c d : V) (e : Event) (said : Reply) (actor : ℕ) → IsPair contents tally journal false sides a b → is_worded Pair e ≡ true
    → Done (row Pair e said (state_of journal)) (both contents c d) left said → Counted (tally a) (tally c) → Counted (tally b) (tally d) → FaultRose said (both tally a b) (both tally c d)
    → IsPair contents tally (journal ++ made e said (both tally c d) actor ∷ []) false left c d
pair_goes_on contents tally journal sides left a b c d e said actor pair worded done counts_a counts_b rose =
    let r : Record = made e said (both tally c d) actor in
    let grows : Grows (state_of journal) (row Pair e said (state_of journal)) = row_grows Pair e said (state_of journal) in
    record {
      legal = legal-push journal r pair.legal (record {
        worded = worded;
        reply = done.reply_is;
        counts = λ store. no_fewer store (faults_of journal) e said actor (both tally c d) (still_covers (faults_of journal A) (tally a) (tally c) counts_a pair.covers_a) (still_covers (faults_of journal B) (tally b) (tally d) counts_b pair.covers_b) (faults-third journal);
        told = tells_next said (faults_of journal) e said actor (both tally a b) (both tally c d) pair.covers_a pair.covers_b rose;
      });
      stand = λ _. subst (λ (m : Machine). AllStand (both contents c d) left m) (after_row (state_of journal) r ∙ sym (state-push journal r)) done.stand;
      covers_a = subst (λ (n : Counts). Covers (n A) (tally c)) (sym (faults-push journal r)) (same_sum (tally c));
      covers_b = subst (λ (n : Counts). Covers (n B) (tally d)) (sym (faults-push journal r)) (same_sum (tally d));
      told_a = λ k. told-next A k journal r ((tally a).faults k) ((tally c).faults k) (pair.told_a k) (counts_a.kept k) (rose_at A k said (both tally a b) (both tally c d) rose);
      told_b = λ k. told-next B k journal r ((tally b).faults k) ((tally d).faults k) (pair.told_b k) (counts_b.kept k) (rose_at B k said (both tally a b) (both tally c d) rose);
      few = subst (λ (m : Machine). length m.tickets ≤ length (journal ++ r ∷ [])) (after_row (state_of journal) r ∙ sym (state-push journal r))
          (fewer (length (state_of journal).tickets) (length journal) (length (row Pair e said (state_of journal)).state.tickets) (length (journal ++ r ∷ [])) (accepted (row Pair e said (state_of journal)).reply) pair.few grows.tickets (at_most_one (row Pair e said (state_of journal)).reply) (length-append journal (r ∷ [])));
    }

-- ---- what a step that failed leaves

-- spent, nothing is owed of the state
pub pair_spent : {V : Type 0} (contents : V → Contents) (tally : V → Tally) (journal : List Record) (spent : Bool) (sides left : Sides) (a b c d : V) → IsPair contents tally journal spent sides a b → Counted (tally a) (tally c) → Counted (tally b) (tally d) → IsPair contents tally journal true left c d
pair_spent contents tally journal spent sides left a b c d pair counts_a counts_b = record {
  legal = pair.legal;
  stand = λ e. absurd (true≢false e);
  covers_a = still_covers (faults_of journal A) (tally a) (tally c) counts_a pair.covers_a;
  covers_b = still_covers (faults_of journal B) (tally b) (tally d) counts_b pair.covers_b;
  told_a = told-kept (λ k. told_of A k journal) (tally a) (tally c) counts_a.kept pair.told_a;
  told_b = told-kept (λ k. told_of B k journal) (tally b) (tally d) counts_b.kept pair.told_b;
  few = pair.few;
}

-- unless something was changed, all is as before
pub pair_stops : {V : Type 0} (contents : V → Contents) (tally : V → Tally) (journal : List Record) (changed : Bool) (sides left : Sides) (a b c d : V) → IsPair contents tally journal false sides a b
    → (changed ≡ false → (left ≡ sides) × (both contents c d ≡ both contents a b)) → Counted (tally a) (tally c) → Counted (tally b) (tally d) → IsPair contents tally journal changed left c d
pair_stops contents tally journal true sides left a b c d pair kept counts_a counts_b = pair_spent contents tally journal false sides left a b c d pair counts_a counts_b
pair_stops contents tally journal false sides left a b c d pair kept counts_a counts_b = record {
  legal = pair.legal;
  stand = λ e. subst (λ (s : Sides). AllStand (both contents c d) s (state_of journal)) (sym (kept refl).0)
      (subst (λ (x : Both Contents). AllStand x sides (state_of journal)) (sym (kept refl).1) (pair.stand refl));
  covers_a = still_covers (faults_of journal A) (tally a) (tally c) counts_a pair.covers_a;
  covers_b = still_covers (faults_of journal B) (tally b) (tally d) counts_b pair.covers_b;
  told_a = told-kept (λ k. told_of A k journal) (tally a) (tally c) counts_a.kept pair.told_a;
  told_b = told-kept (λ k. told_of B k journal) (tally b) (tally d) counts_b.kept pair.told_b;
  few = pair.few;
}

pub pair_fails : {V : Type 0} (contents : V → Contents) (tally : V → Tally) (journal : List Record) (why : CoreError) (e : Event) (sides left : Sides) (a b c d : V) → IsPair contents tally journal false sides a b
    → Performs e (state_of journal) (both contents a b) sides (both contents c d) left (Err why) → Counted (tally a) (tally c) → Counted (tally b) (tally d) → IsPair contents tally journal (changed_of why) left c d
pair_fails contents tally journal (failed.Memory changed) e sides left a b c d pair kept counts_a counts_b = pair_stops contents tally journal changed sides left a b c d pair kept counts_a counts_b
