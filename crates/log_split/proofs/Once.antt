-- Bytes and logs hold one list of entries, or have one first bad frame.
use Rattle.std.proofs.Common.{◌≡◌, ◌≤◌, ℕ, Bool, List, [], ◌∷◌, ◌++◌, length, Option, Some, Result, Ok, Err, refl, sym, ap, subst, ◌∙◌, length-append, arith}
use Rattle.std.specs.Prelude.{IfOk, IfErr}
use Rattle.std.specs.List.{flat_map, filter}
use Rattle.std.proofs.lemmas.List.{append-nil}
use Rattle.rep_types.specs.declared.entry.Entry.{Entry}
use Rattle.rep_vault.specs.Contents.{File, Contents}
use Rattle.wal_entry.specs.Frame.{verdict}
use Rattle.wal_entry.specs.Judging.{Verdict, Broken, Cut, IsCut}
use Rattle.wal_entry.specs.Spelling.{spelling}
use Rattle.wal_reader.specs.Calls.{AreFrames, EndsFrames, IsNoFrame}
use Rattle.wal_reader.proofs.Pieces.{front}
use Rattle.log_split.specs.Held.{HoldsEntries, IsBadAt}
use Rattle.log_split.specs.Logs.{LogHolds, LogIsBad, HoldAll, FirstBad}
use Rattle.log_split.specs.Told.{IfBad, UnlessStopped}
use Rattle.log_split.specs.declared.error.SplitError.{SplitError}
use Rattle.log_split.specs.declared.error.SplitError.TheVariants.{BadFrame, StoreFault, Memory}

cut_ends : (bytes : List ℕ) → IsCut (verdict bytes) → EndsFrames bytes
cut_ends bytes h = subst IsNoFrame (sym h.1) tt

broken_ends : (bytes : List ℕ) (at rule : ℕ) → verdict bytes ≡ Broken at rule → EndsFrames bytes
broken_ends bytes at rule h = subst IsNoFrame (sym h) tt

none_more : (es fs more : List Entry) (left rest : List ℕ) → length fs ≤ length es → es ++ more ≡ fs → AreFrames left more rest → (es ≡ fs) × (left ≡ rest)
none_more es fs [] left rest few same h = (sym (append-nil es) ∙ same, h.whole)
none_more es fs (e ∷ more) left rest few same h = absurd (omega (arith, few, ap length same, length-append es (e ∷ more)))

pub frames_once : (bytes : List ℕ) (es fs : List Entry) (left rest : List ℕ) → AreFrames bytes es left → AreFrames bytes fs rest → EndsFrames left → EndsFrames rest → (es ≡ fs) × (left ≡ rest)
frames_once bytes es fs left rest h k ends_left ends_rest =
    let forth = front es fs left rest h.framed k.framed ends_rest (sym h.whole ∙ k.whole) in
    let back = front fs es rest left k.framed h.framed ends_left (sym k.whole ∙ h.whole) in
    none_more es fs forth.0 left rest (omega (arith, ap length back.1, length-append fs back.0)) forth.1 forth.2

-- ---- one log

entries_once : (bytes : List ℕ) (es fs : List Entry) → HoldsEntries bytes es → HoldsEntries bytes fs → es ≡ fs
entries_once bytes es fs h k = (frames_once bytes es fs h.rest k.rest h.frames k.frames (cut_ends h.rest h.short) (cut_ends k.rest k.short)).0

cut_or_broken : (v : Verdict Entry) (at rule : ℕ) → IsCut v → v ≡ Broken at rule → ⊥
cut_or_broken v at rule cut broken = let both : ◌≡◌ {A = Verdict Entry} (Cut cut.0) (Broken at rule) = sym cut.1 ∙ broken in cc

held_or_bad : (bytes : List ℕ) (es : List Entry) (from at rule : ℕ) → HoldsEntries bytes es → IsBadAt from bytes at rule → ⊥
held_or_bad bytes es from at rule h k =
    let once = frames_once bytes es k.entries h.rest k.rest h.frames k.frames (cut_ends h.rest h.short) (broken_ends k.rest k.within rule k.broken) in
    cut_or_broken (verdict k.rest) k.within rule (subst (λ (r : List ℕ). IsCut (verdict r)) once.1 h.short) k.broken

broken_once : (v : Verdict Entry) (at rule at' rule' : ℕ) → v ≡ Broken at rule → v ≡ Broken at' rule' → (at ≡ at') × (rule ≡ rule')
broken_once v at rule at' rule' h k = let both : ◌≡◌ {A = Verdict Entry} (Broken at rule) (Broken at' rule') = sym h ∙ k in (cc, cc)

bad_once : (bytes : List ℕ) (from at rule at' rule' : ℕ) → IsBadAt from bytes at rule → IsBadAt from bytes at' rule' → (at ≡ at') × (rule ≡ rule')
bad_once bytes from at rule at' rule' h k =
    let once = frames_once bytes h.entries k.entries h.rest k.rest h.frames k.frames (broken_ends h.rest h.within rule h.broken) (broken_ends k.rest k.within rule' k.broken) in
    let same = broken_once (verdict k.rest) h.within rule k.within rule' (ap verdict (sym once.1) ∙ h.broken) k.broken in
    (omega (arith, h.place, k.place, same.0, ap (λ (es : List Entry). length (flat_map spelling es)) once.0), same.1)

-- ---- its file

same_file : (o : Option File) (x y : File) → o ≡ Some x → o ≡ Some y → x.bytes ≡ y.bytes
same_file o x y h k = let both : Some x ≡ Some y = sym h ∙ k in let same : x ≡ y = cc in ap (λ (f : File). f.bytes) same

log_once : (c : Contents) (server log : ℕ) (es fs : List Entry) → LogHolds c server log es → LogHolds c server log fs → es ≡ fs
log_once c server log es fs h k = entries_once k.file.bytes es fs (subst (λ b. HoldsEntries b es) (same_file _ h.file k.file h.there k.there) h.holds) k.holds

log_held_or_bad : (c : Contents) (server log at rule : ℕ) (es : List Entry) → LogHolds c server log es → LogIsBad c server log at rule → ⊥
log_held_or_bad c server log at rule es h k =
    held_or_bad k.file.bytes es 0 at rule (subst (λ b. HoldsEntries b es) (same_file _ h.file k.file h.there k.there) h.holds) k.bad

log_bad_once : (c : Contents) (server log at rule at' rule' : ℕ) → LogIsBad c server log at rule → LogIsBad c server log at' rule' → (at ≡ at') × (rule ≡ rule')
log_bad_once c server log at rule at' rule' h k =
    bad_once k.file.bytes 0 at rule at' rule' (subst (λ b. IsBadAt 0 b at rule) (same_file _ h.file k.file h.there k.there) h.bad) k.bad

-- ---- all logs

pub all_once : (c : Contents) (server : ℕ) (logs : List ℕ) (es fs : List Entry) → HoldAll c server logs es → HoldAll c server logs fs → es ≡ fs
all_once c server [] es fs h k = h ∙ sym k
all_once c server (log ∷ logs) es fs h k =
    let here = log_once c server log h.0 k.0 h.2 k.2 in
    let later = all_once c server logs h.1 k.1 h.3 k.3 in
    h.4 ∙ ap (λ (x : List Entry). x ++ h.1) here ∙ ap (λ (x : List Entry). k.0 ++ x) later ∙ sym k.4

-- of logs that hold entries none is bad
none_bad : (c : Contents) (server : ℕ) (before after : List ℕ) (log at rule : ℕ) (es : List Entry) → HoldAll c server (before ++ log ∷ after) es → LogIsBad c server log at rule → ⊥
none_bad c server [] after log at rule es h bad = log_held_or_bad c server log at rule h.0 h.2 bad
none_bad c server (n ∷ before) after log at rule es h bad = none_bad c server before after log at rule h.1 h.3 bad

pub all_or_bad : (c : Contents) (server : ℕ) (logs : List ℕ) (es : List Entry) (log at rule : ℕ) → HoldAll c server logs es → FirstBad c server logs log at rule → ⊥
all_or_bad c server logs es log at rule h k =
    none_bad c server k.before k.after log at rule es (subst (λ ls. HoldAll c server ls es) k.parts h) k.bad

-- the same log, place and field
pub record IsSame (log at rule log' at' rule' : ℕ) : Type 0 where
  pub log_is : log ≡ log'
  pub at_is : at ≡ at'
  pub rule_is : rule ≡ rule'

first_once : (c : Contents) (server : ℕ) (before before' after after' : List ℕ) (es es' : List Entry) (log at rule log' at' rule' : ℕ) → before ++ log ∷ after ≡ before' ++ log' ∷ after'
    → HoldAll c server before es → HoldAll c server before' es' → LogIsBad c server log at rule → LogIsBad c server log' at' rule' → IsSame log at rule log' at' rule'
first_once c server [] [] after after' es es' log at rule log' at' rule' same h h' bad bad' =
    let log_is : log ≡ log' = cc in
    let places = log_bad_once c server log' at rule at' rule' (subst (λ n. LogIsBad c server n at rule) log_is bad) bad' in
    record { log_is = log_is; at_is = places.0; rule_is = places.1 }
first_once c server [] (n ∷ before') after after' es es' log at rule log' at' rule' same h h' bad bad' =
    let log_is : n ≡ log = cc in
    absurd (log_held_or_bad c server log at rule h'.0 (subst (λ n. LogHolds c server n h'.0) log_is h'.2) bad)
first_once c server (n ∷ before) [] after after' es es' log at rule log' at' rule' same h h' bad bad' =
    let log_is : n ≡ log' = cc in
    absurd (log_held_or_bad c server log' at' rule' h.0 (subst (λ n. LogHolds c server n h.0) log_is h.2) bad')
first_once c server (n ∷ before) (n' ∷ before') after after' es es' log at rule log' at' rule' same h h' bad bad' =
    let rest : before ++ log ∷ after ≡ before' ++ log' ∷ after' = cc in
    first_once c server before before' after after' h.1 h'.1 log at rule log' at' rule' rest h.3 h'.3 bad bad'

pub bad_told_once : (c : Contents) (server : ℕ) (logs : List ℕ) (log at rule log' at' rule' : ℕ) → FirstBad c server logs log at rule → FirstBad c server logs log' at' rule'
    → IsSame log at rule log' at' rule'
bad_told_once c server logs log at rule log' at' rule' h k =
    first_once c server h.before k.before h.after k.after h.entries k.entries log at rule log' at' rule' (sym h.parts ∙ k.parts) h.whole k.whole h.bad k.bad

-- ---- the answer

pub all_due : (c : Contents) (server : ℕ) (logs : List ℕ) (p : Entry → Bool) (r : Result (List Entry) SplitError) (all : List Entry)
    → IfOk r (λ found. (es : List Entry) × HoldAll c server logs es × (found ≡ filter p es)) → IfErr r (λ e. IfBad e (FirstBad c server logs))
    → HoldAll c server logs all → UnlessStopped r (Ok (filter p all))
all_due c server logs p (Ok found) all ok bad h = ap Ok (ok.2 ∙ ap (filter p) (all_once c server logs ok.0 all ok.1 h))
all_due c server logs p (Err (BadFrame log at rule)) all ok bad h = absurd (all_or_bad c server logs all log at rule h bad)
all_due c server logs p (Err (StoreFault k n)) all ok bad h = tt
all_due c server logs p (Err Memory) all ok bad h = tt

same_bad : (log at rule log' at' rule' : ℕ) → IsSame log at rule log' at' rule' → ◌≡◌ {A = Result (List Entry) SplitError} (Err (BadFrame log at rule)) (Err (BadFrame log' at' rule'))
same_bad log at rule log' at' rule' h = rw (h.log_is, h.at_is, h.rule_is) refl

pub bad_due : (c : Contents) (server : ℕ) (logs : List ℕ) (p : Entry → Bool) (r : Result (List Entry) SplitError) (log at rule : ℕ)
    → IfOk r (λ found. (es : List Entry) × HoldAll c server logs es × (found ≡ filter p es)) → IfErr r (λ e. IfBad e (FirstBad c server logs))
    → FirstBad c server logs log at rule → UnlessStopped r (Err (BadFrame log at rule))
bad_due c server logs p (Ok found) log at rule ok bad h = absurd (all_or_bad c server logs ok.0 log at rule ok.1 h)
bad_due c server logs p (Err (BadFrame log' at' rule')) log at rule ok bad h = same_bad log' at' rule' log at rule (bad_told_once c server logs log' at' rule' log at rule bad h)
bad_due c server logs p (Err (StoreFault k n)) log at rule ok bad h = tt
bad_due c server logs p (Err Memory) log at rule ok bad h = tt
