-- The store after calls on one file.
use Rattle.std.proofs.Common.{◌≡◌, ◌≢◌, ℕ, ◌-◌, ◌^◌, ◌<◌, ◌≤◌, List, [], ◌∷◌, ◌++◌, append_assoc, length, take, inl, inr, Option, Some, None, Result, Ok, Err, refl, ap, sym, ◌∙◌, subst, arith}
use Rattle.std.proofs.lemmas.Bool.{cases_lt}
use Rattle.std.proofs.lemmas.List.{take_all, length-take-le}
use Rattle.rep_types.specs.declared.state.Call.{Call}
use Rattle.rep_vault.specs.Contents.{File, empty_file, Contents, with_file}
use Rattle.rep_vault.specs.Tallies.{Tally}
use Rattle.rep_vault.specs.Calls.{IsFree, IsOpen, longer, synced_whole, part}
use Rattle.rep_vault.proofs.Counts.{total_kept}
use Rattle.rep_vault.proofs.Frames.{file_here}
use Rattle.wal_roll.specs.Steps.{OnlyFile}
use Rattle.store_file.specs.declared.cell.RunCell.{RunCell}
use Rattle.store_file.specs.declared.error.RunError.{RunError}
use Rattle.store_file.specs.declared.error.RunError.TheVariants.{BadRun, StoreFault, Gone, Exists, Memory}
use Rattle.store_file.specs.Stored.{run, HasBytes, whole_file, Synced, WritesRun, Decodes, ReadsRun, Tells}
use Rattle.store_file.specs.Run.{verdict}
use Rattle.store_file.specs.Spelling.{run_spelling}

pub only_both : (f n : List ℕ) (a b c : Contents) → OnlyFile f n a b → OnlyFile f n b c → OnlyFile f n a c
only_both f n a b c h k = record {
  others = λ g m apart. k.others g m apart ∙ h.others g m apart;
  stands = k.stands ∙ h.stands;
  records = k.records ∙ h.records;
}

-- what a later call tells, told of the counts before an earlier one
pub tells_later : {T : Type 0} (old mid new : Tally) (r : Result T RunError) → ((k : Call) → old.faults k ≤ mid.faults k) → mid.planned ≡ old.planned → Tells mid new r → Tells old new r
tells_later old mid new (Ok x) kept planned h = record { kept = λ k. omega (arith, kept k, h.kept k); fault = tt; planned = h.planned ∙ planned }
tells_later old mid new (Err (BadRun at rule)) kept planned h = record { kept = λ k. omega (arith, kept k, h.kept k); fault = tt; planned = h.planned ∙ planned }
tells_later old mid new (Err (StoreFault kind count)) kept planned h = record {
  kept = λ k. omega (arith, kept k, h.kept k);
  fault = record {
    kind = omega (arith, kept kind, h.fault.kind);
    count = h.fault.count;
    rose = omega (arith, total_kept old.faults mid.faults kept, h.fault.rose);
  };
  planned = h.planned ∙ planned;
}
tells_later old mid new (Err Gone) kept planned h = record { kept = λ k. omega (arith, kept k, h.kept k); fault = tt; planned = h.planned ∙ planned }
tells_later old mid new (Err Exists) kept planned h = record { kept = λ k. omega (arith, kept k, h.kept k); fault = tt; planned = h.planned ∙ planned }
tells_later old mid new (Err Memory) kept planned h = record { kept = λ k. omega (arith, kept k, h.kept k); fault = tt; planned = h.planned ∙ planned }

same_file : (o : Option File) (x y : File) → o ≡ Some x → o ≡ Some y → x ≡ y
same_file o x y h k = let both : Some x ≡ Some y = sym h ∙ k in cc

pub appended : (n piece : List ℕ) (x : File) (old new : Contents) → IsOpen old run n empty_file → IsOpen old run n x → new ≡ with_file run n (longer piece x) old → HasBytes new n piece
appended n piece x old new empty is_open is =
    let none : x.bytes ≡ [] = ap (λ (f : File). f.bytes) (same_file (old.files run n) x empty_file is_open.there empty.there) in
    record {
      file = longer piece x;
      there = record { there = ap (λ (c : Contents). c.files run n) is ∙ file_here run n (Some (longer piece x)) old; unsealed = is_open.unsealed };
      same = ap (λ (b : List ℕ). b ++ piece) none;
    }

pub synced : (n : List ℕ) (x y : File) (old new : Contents) → IsOpen old run n x → IsOpen old run n y → new ≡ with_file run n (synced_whole y) old → new.files run n ≡ Some (whole_file x.bytes)
synced n x y old new one other is =
    let same : y ≡ x = same_file (old.files run n) y x other.there one.there in
    ap (λ (c : Contents). c.files run n) is
    ∙ file_here run n (Some (synced_whole y)) old
    ∙ ap (λ (f : File). Some (synced_whole f)) same
    ∙ (λ i. Some (record { bytes = x.bytes; synced = length x.bytes; sealed = one.unsealed i }))

pub made_open : (n : List ℕ) (old new : Contents) → new ≡ with_file run n empty_file old → IsOpen new run n empty_file
made_open n old new is = record { there = ap (λ (c : Contents). c.files run n) is ∙ file_here run n (Some empty_file) old; unsealed = refl }

pub filled : {T : Type 0} (n : List ℕ) (all : List RunCell) (bytes : List ℕ) (old new : Contents) (r : Result T RunError) → IsFree old run n → bytes ≡ run_spelling all → Synced n bytes new r → WritesRun n all old new r
filled n all bytes old new (Ok x) free spelled h = (free, h ∙ ap (λ (b : List ℕ). Some (whole_file b)) spelled)
filled n all bytes old new (Err (BadRun at rule)) free spelled h = h
filled n all bytes old new (Err (StoreFault kind count)) free spelled h = free
filled n all bytes old new (Err Gone) free spelled h = absurd h
filled n all bytes old new (Err Exists) free spelled h = absurd h
filled n all bytes old new (Err Memory) free spelled h = tt

-- what was read is all of it where it is less than what was asked for
read_whole : (n : ℕ) (bytes out : List ℕ) → out ≡ take n bytes → length out < n → out ≡ bytes
read_whole n bytes out h few = elim (cases_lt (length bytes) n) [
  | inl all ↦ h ∙ take_all n bytes (omega (arith, all))
  | inr more ↦ absurd (omega (arith, few, ap length h, length-take-le n bytes more))
]

not_none : (o : Option File) (x : File) → o ≡ Some x → o ≢ None
not_none o x h k = let both : Some x ≡ None = sym h ∙ k in cc

read_as : (n : List ℕ) (x : File) (c : Contents) (r : Result (List RunCell) RunError) → c.files run n ≡ Some x → Decodes r (verdict x.bytes) → ReadsRun n c r
read_as n x c (Ok all) there h = record { file = x; there = there; whole = h }
read_as n x c (Err (BadRun at rule)) there h = record { file = x; there = there; broken = h }
read_as n x c (Err (StoreFault kind count)) there h = absurd h
read_as n x c (Err Gone) there h = absurd h
read_as n x c (Err Exists) there h = h
read_as n x c (Err Memory) there h = tt

pub read_so : (n : List ℕ) (x : File) (bytes : List ℕ) (c : Contents) (r : Result (List RunCell) RunError) → c.files run n ≡ Some x → bytes ≡ part 0 (2 ^ 64 - 1) x → length bytes < 2 ^ 64 - 1
    → Decodes r (verdict bytes) → ReadsRun n c r
read_so n x bytes c r there is few h = read_as n x c r there (subst (λ (b : List ℕ). Decodes r (verdict b)) (read_whole (2 ^ 64 - 1) x.bytes bytes is few) h)

pub four : (out o1 o2 o3 o4 a b d : List ℕ) (k : ℕ) → o1 ≡ out ++ a → o2 ≡ o1 ++ k ∷ [] → o3 ≡ o2 ++ b → o4 ≡ o3 ++ d → o4 ≡ out ++ (a ++ (k ∷ b ++ d))
four out o1 o2 o3 o4 a b d k e1 e2 e3 e4 = rw (e4, e3, e2, e1) (simp append_assoc)
