-- What a reader has given so far, and what is left once it is short or bad.
use Rattle.std.proofs.Common.{◌≡◌, ◌<◌, ◌+◌, ℕ, List, [], ◌∷◌, ◌++◌, length, drop, Bool, Ok, Err, refl, sym, ap, ◌∙◌, append_assoc, length-append, arith}
use Rattle.std.specs.List.{flat_map, filter}
use Rattle.std.proofs.lemmas.List.{append-nil, length-drop}
use Rattle.std.proofs.lemmas.List.Elements.{All-nil, All-push, filter-append}
use Rattle.std.proofs.lemmas.Grind.{flat_map-append}
use Rattle.rep_types.specs.declared.entry.Entry.{Entry}
use Rattle.rep_types.specs.declared.state.Place.{Place}
use Rattle.wal_entry.specs.Frame.{verdict}
use Rattle.wal_entry.specs.Framed.{HasFrame}
use Rattle.wal_entry.specs.Judging.{Verdict, Whole, Broken, Cut, IsCut}
use Rattle.wal_entry.specs.Length.{frame_length_of}
use Rattle.wal_entry.specs.Spelling.{spelling}
use Rattle.wal_entry.proofs.Verdicts.{length-spelling}
use Rattle.wal_reader.specs.Calls.{AreFrames}
use Rattle.wal_reader.specs.Reader.{Reader}
use Rattle.wal_reader.specs.Reading.{answer, UnlessMemory, Gives}
use Rattle.wal_reader.specs.declared.error.ReaderError.TheVariants.{BadFrame}
use Rattle.wal_reader.specs.declared.reader.Next.TheVariants as next
use Rattle.wal_reader.proofs.Within.{frame_within}
use Rattle.log_split.specs.Held.{HoldsEntries, IsBadAt}

-- these entries were given
pub record Took (old new : Reader) (entries : List Entry) : Type 0 where
  pub frames : AreFrames old.left entries new.left
  pub log : new.place.log ≡ old.place.log
  pub offset : new.place.offset ≡ old.place.offset + length (flat_map spelling entries)

pub took_none : (r : Reader) → Took r r []
took_none r = record {
  frames = record { framed = All-nil HasFrame; whole = refl };
  log = refl;
  offset = omega arith;
}

frames_push : (es : List Entry) (e : Entry) → flat_map spelling (es ++ e ∷ []) ≡ flat_map spelling es ++ spelling e
frames_push es e = flat_map-append spelling es (e ∷ []) ∙ ap (λ (x : List ℕ). flat_map spelling es ++ x) (append-nil (spelling e))

pub took_push : (old mid new : Reader) (es : List Entry) (e : Entry) → Took old mid es → Gives mid e new → Took old new (es ++ e ∷ [])
took_push old mid new es e t g =
    let frames = flat_map spelling es in
    let size = frame_length_of e in
    let left : new.left ≡ drop size mid.left = ap (λ (r : Reader). r.left) g.past_it in
    let offset : new.place.offset ≡ mid.place.offset + size = ap (λ (r : Reader). r.place.offset) g.past_it in
    record {
      frames = record {
        framed = All-push HasFrame es e t.frames.framed g.begins.framed;
        whole = t.frames.whole
            ∙ ap (λ (x : List ℕ). frames ++ x) (g.begins.begins ∙ ap (λ (x : List ℕ). spelling e ++ x) (sym left))
            ∙ sym (append_assoc frames (spelling e) new.left)
            ∙ ap (λ (x : List ℕ). x ++ new.left) (sym (frames_push es e));
      };
      log = ap (λ (r : Reader). r.place.log) g.past_it ∙ t.log;
      offset = omega (arith, offset, t.offset, ap length (frames_push es e), length-append frames (spelling e), length-spelling e);
    }

-- each entry leaves fewer bytes
pub fewer : (old new : Reader) (e : Entry) → Gives old e new → length new.left < length old.left
fewer old new e g =
    omega (arith, frame_within old.left e (frame_length_of e) g.begins, ap (λ (r : Reader). length r.left) g.past_it, length-drop (frame_length_of e) old.left)

short : (p : Place) (v : Verdict Entry) → UnlessMemory (Ok next.Short) (answer p v) → IsCut v
short p (Whole e q) exact = absurd (cc)
short p (Broken at rule) exact = absurd (cc)
short p (Cut until) exact = (until, refl)

pub took_all : (old new : Reader) (es : List Entry) → Took old new es → UnlessMemory (Ok next.Short) (answer new.place (verdict new.left)) → HoldsEntries old.left es
took_all old new es t exact = record { rest = new.left; frames = t.frames; short = short new.place (verdict new.left) exact }

-- where the broken item stands that is told
record IsTold (p : Place) (v : Verdict Entry) (log at rule : ℕ) : Type 0 where
  within : ℕ
  broken : v ≡ Broken within rule
  log_is : log ≡ p.log
  place : at ≡ p.offset + within

told : (p : Place) (v : Verdict Entry) (log at rule : ℕ) → UnlessMemory (Err (BadFrame log at rule)) (answer p v) → IsTold p v log at rule
told p (Whole e q) log at rule exact = absurd (cc)
told p (Broken within field) log at rule exact = record { within = within; broken = cc; log_is = cc; place = cc }
told p (Cut until) log at rule exact = absurd (cc)

pub took_bad : (old new : Reader) (es : List Entry) (log at rule : ℕ) → Took old new es → UnlessMemory (Err (BadFrame log at rule)) (answer new.place (verdict new.left))
    → (log ≡ old.place.log) × IsBadAt old.place.offset old.left at rule
took_bad old new es log at rule t exact =
    let h = told new.place (verdict new.left) log at rule exact in
    (h.log_is ∙ t.log, record { entries = es; rest = new.left; frames = t.frames; within = h.within; broken = h.broken; place = omega (arith, h.place, t.offset) })

-- more of them are kept behind those kept so far
pub found_push : {X : Type 0} (p : X → Bool) (start es more mid new : List X) → mid ≡ start ++ filter p es → new ≡ mid ++ filter p more → new ≡ start ++ filter p (es ++ more)
found_push p start es more mid new before after =
    after ∙ ap (λ x. x ++ filter p more) before ∙ append_assoc start (filter p es) (filter p more) ∙ ap (λ x. start ++ x) (sym (filter-append p es more))
