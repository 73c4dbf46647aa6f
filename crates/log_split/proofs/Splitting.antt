-- Logs one after another.
use Rattle.std.proofs.Common.{◌≡◌, ◌≤◌, ◌<◌, ◌+◌, ℕ, suc, List, [], ◌∷◌, ◌++◌, length, take, drop, refl, sym, ap, ◌∙◌, append_assoc, subst, get_or, arith, inl, inr}
use Rattle.std.proofs.lemmas.Bool.{cases_lt}
use Rattle.std.proofs.lemmas.List.{append-nil, take-append-drop, take_all, take_more, length-take-le}
use Rattle.std.proofs.Math.Seq.{drop-cons}
use Rattle.rep_types.specs.declared.state.Call.{Call}
use Rattle.rep_types.specs.declared.entry.Entry.{Entry}
use Rattle.rep_vault.specs.Contents.{Contents}
use Rattle.rep_vault.specs.Tallies.{Tally}
use Rattle.rep_vault.proofs.Counts.{total_kept}
use Rattle.log_split.specs.Logs.{LogHolds, LogIsBad, HoldAll, FirstBad}
use Rattle.log_split.specs.Told.{IfBad, IfFault, ReadFailed}
use Rattle.log_split.specs.declared.error.SplitError.{SplitError}
use Rattle.log_split.specs.declared.error.SplitError.TheVariants.{BadFrame, StoreFault, Memory}

pub hold_push : (c : Contents) (server : ℕ) (logs : List ℕ) (log : ℕ) (all here : List Entry) → HoldAll c server logs all → LogHolds c server log here
    → HoldAll c server (logs ++ log ∷ []) (all ++ here)
hold_push c server [] log all here h holds = (here, [], holds, refl, ap (λ (x : List Entry). x ++ here) h ∙ sym (append-nil here))
hold_push c server (n ∷ logs) log all here h holds =
    (h.0, h.1 ++ here, h.2, hold_push c server logs log h.1 here h.3 holds, ap (λ (x : List Entry). x ++ here) h.4 ∙ append_assoc h.0 h.1 here)

-- one more of the logs
pub hold_more : (c : Contents) (server : ℕ) (logs : List ℕ) (i d : ℕ) (all here : List Entry) → i < length logs → HoldAll c server (take i logs) all
    → LogHolds c server (get_or logs i d) here → HoldAll c server (take (i + 1) logs) (all ++ here)
hold_more c server logs i d all here lt h holds =
    subst (λ ls. HoldAll c server ls (all ++ here)) (sym (take_more logs i d lt)) (hold_push c server (take i logs) (get_or logs i d) all here h holds)

-- where the logs before hold entries, a bad one is the first
pub bad_here : (c : Contents) (server : ℕ) (logs : List ℕ) (i d : ℕ) (all : List Entry) (e : SplitError) → i < length logs → HoldAll c server (take i logs) all
    → IfBad e (λ log at rule. (log ≡ get_or logs i d) × LogIsBad c server (get_or logs i d) at rule) → IfBad e (FirstBad c server logs)
bad_here c server logs i d all (BadFrame log at rule) lt h told =
    subst (λ n. FirstBad c server logs n at rule) (sym told.0) (record {
      before = take i logs;
      after = drop (suc i) logs;
      entries = all;
      parts = sym (take-append-drop i logs) ∙ ap (λ ls. take i logs ++ ls) (drop-cons logs i d lt);
      whole = h;
      bad = told.1;
    })
bad_here c server logs i d all (StoreFault k n) lt h told = tt
bad_here c server logs i d all Memory lt h told = tt

-- what was read is all of it where it is less than what was asked for
pub read_whole : (n : ℕ) (bytes out : List ℕ) → out ≡ take n bytes → length out < n → out ≡ bytes
read_whole n bytes out h few = elim (cases_lt (length bytes) n) [
  | inl all ↦ h ∙ take_all n bytes (omega (arith, all))
  | inr more ↦ absurd (omega (arith, few, ap length h, length-take-le n bytes more))
]

-- a later failure counts from the start on
failed_later : (old mid new : Tally) (k : Call) (n : ℕ) → ((k : Call) → old.faults k ≤ mid.faults k) → ReadFailed mid new k n → ReadFailed old new k n
failed_later old mid new k n kept failed = record {
  reading = failed.reading;
  fault = record {
    kind = omega (arith, kept k, failed.fault.kind);
    count = failed.fault.count;
    rose = omega (arith, total_kept old.faults mid.faults kept, failed.fault.rose);
  };
}

pub fault_later : (old mid new : Tally) (e : SplitError) → ((k : Call) → old.faults k ≤ mid.faults k) → IfFault e (ReadFailed mid new) → IfFault e (ReadFailed old new)
fault_later old mid new (BadFrame log at rule) kept told = tt
fault_later old mid new (StoreFault k n) kept told = failed_later old mid new k n kept told
fault_later old mid new Memory kept told = tt
