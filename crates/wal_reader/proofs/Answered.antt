-- What follows from a reader's answer.
use Rattle.std.proofs.Common.{◌≡◌, ℕ, List, ◌++◌, sym, ap, subst, ◌∙◌, arith}
use Rattle.std.specs.Prelude.{Option, Some, None, IfSome, Result, Ok, Err}
use Rattle.std.proofs.lemmas.List.{length-drop}
use Rattle.rep_types.specs.declared.entry.Entry.{Entry}
use Rattle.rep_types.specs.declared.state.Place.{Place}
use Rattle.wal_entry.specs.Decoded.{BeginsWithFrame}
use Rattle.wal_entry.specs.Frame.{verdict}
use Rattle.wal_entry.specs.Framed.{HasFrame}
use Rattle.wal_entry.specs.Judging.{Verdict, Whole, Broken, Cut}
use Rattle.wal_entry.specs.Length.{frame_length_of}
use Rattle.wal_entry.specs.Spelling.{spelling}
use Rattle.wal_entry.proofs.Pieces.{broken_is_broken}
use Rattle.wal_entry.proofs.Verdicts.{verdict_again}
use Rattle.wal_reader.specs.Calls.{IsNoFrame, EndsFrames}
use Rattle.wal_reader.specs.Reader.{Reader, past, end_of}
use Rattle.wal_reader.specs.Reading.{answer, after, UnlessMemory, IfEntry, IfEnded}
use Rattle.wal_reader.specs.declared.error.ReaderError.{ReaderError}
use Rattle.wal_reader.specs.declared.error.ReaderError.TheVariants.{BadFrame, Memory}
use Rattle.wal_reader.specs.declared.reader.Fault.{Fault}
use Rattle.wal_reader.specs.declared.reader.Next.{Next}
use Rattle.wal_reader.specs.declared.reader.Next.TheVariants as next
use Rattle.wal_reader.proofs.Within.{frame_within}

pub given_again : (r : Result Next ReaderError) (old : Reader) (e : Entry) (rest : List ℕ) → UnlessMemory r (answer old.place (verdict old.left)) → HasFrame e
    → old.left ≡ spelling e ++ rest → UnlessMemory r (Ok (next.Entry e))
given_again r old e rest exact has same =
    subst (λ v. UnlessMemory r (answer old.place v)) (ap verdict same ∙ verdict_again e rest has) exact

past_end : (r : Reader) (e : Entry) → BeginsWithFrame r.left e (frame_length_of e) → end_of (past (frame_length_of e) r) ≡ end_of r
past_end r e h = omega (arith, frame_within r.left e (frame_length_of e) h, length-drop (frame_length_of e) r.left)

pub same_end : (r : Result Next ReaderError) (old new : Reader) → new ≡ after r old → IfEntry r (λ e. BeginsWithFrame old.left e (frame_length_of e)) → end_of new ≡ end_of old
same_end (Ok (next.Entry e)) old new left h = ap end_of left ∙ past_end old e h
same_end (Ok next.Short) old new left h = ap end_of left
same_end (Err (BadFrame log at rule)) old new left h = ap end_of left
same_end (Err Memory) old new left h = ap end_of left

no_frame : (r : Result Next ReaderError) (p : Place) (v : Verdict Entry) → UnlessMemory r (answer p v) → IfEnded r (IsNoFrame v)
no_frame (Ok (next.Entry e)) p v exact = tt
no_frame (Ok next.Short) p (Whole e q) exact = absurd (cc)
no_frame (Ok next.Short) p (Broken at field) exact = tt
no_frame (Ok next.Short) p (Cut until) exact = tt
no_frame (Err (BadFrame log at rule)) p (Whole e q) exact = absurd (cc)
no_frame (Err (BadFrame log at rule)) p (Broken from field) exact = tt
no_frame (Err (BadFrame log at rule)) p (Cut until) exact = tt
no_frame (Err Memory) p v exact = tt

pub ended : (r : Result Next ReaderError) (old new : Reader) → UnlessMemory r (answer old.place (verdict old.left)) → new ≡ after r old → IfEnded r (EndsFrames new.left)
ended (Ok (next.Entry e)) old new exact left = tt
ended (Ok next.Short) old new exact left = subst (λ (r : Reader). EndsFrames r.left) (sym left) (no_frame (Ok next.Short) old.place (verdict old.left) exact)
ended (Err (BadFrame log at rule)) old new exact left =
    subst (λ (r : Reader). EndsFrames r.left) (sym left) (no_frame (Err (BadFrame log at rule)) old.place (verdict old.left) exact)
ended (Err Memory) old new exact left = tt

-- what was told to be bad is bad with more bytes
pub still_bad : (bad : Option Fault) (bytes more : List ℕ) → IfSome bad (λ f. verdict bytes ≡ Broken f.at f.rule) → IfSome bad (λ f. verdict (bytes ++ more) ≡ Broken f.at f.rule)
still_bad None bytes more h = tt
still_bad (Some f) bytes more h = broken_is_broken bytes more f.at f.rule h
