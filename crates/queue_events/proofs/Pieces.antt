-- The frame that a reader of a log's file comes to next.
use Rattle.std.proofs.Common.{ℕ, ◌+◌, ◌-◌, ◌≤◌, ◌≡◌, List, ◌++◌, length, drop, take, Some, ap, sym, ◌∙◌, subst, take-add, length-take, length-append, arith}
use Rattle.std.proofs.lemmas.List.{drop-take}
use Rattle.std.proofs.Math.Seq.{drop-drop}
use Rattle.rep_types.specs.declared.entry.Entry.{Entry}
use Rattle.rep_vault.specs.Contents.{File, Contents}
use Rattle.rep_vault.specs.Calls.{part}
use Rattle.wal_entry.specs.Framed.{HasFrame}
use Rattle.wal_entry.specs.Length.{frame_length_of}
use Rattle.wal_entry.specs.Spelling.{spelling}
use Rattle.wal_entry.proofs.Verdicts.{length-spelling}
use Rattle.wal_reader.specs.Reader.{Reader, past}
use Rattle.wal_roll.specs.Log.{wal, log_name}
use Rattle.cluster_core.specs.declared.parts.Kept.{Kept}
use Rattle.queue_events.specs.Reading.{IsFrameAt, HasFrameAt, IsNext, IsPiece}
use Rattle.queue_events.specs.declared.reading.Piece.{Piece}

-- the bytes left begin with the frame
pub begins : (c : Contents) (s : ℕ) (p : Piece) (k : Kept) (h : HasFrameAt c s k) → IsPiece c s p → IsNext p k → (rest : List ℕ) × (p.reader.left ≡ spelling h.0 ++ rest)
begins c s p k h piece next =
    let file : File = h.1.file in
    let there : c.files wal (log_name s p.reader.place.log) ≡ Some file = ap (λ n. c.files wal (log_name s n)) (sym next.log_is) ∙ h.1.there in
    let bytes : List ℕ = drop k.offset file.bytes in
    let more : ℕ = p.end - k.offset - k.length in
    let size : p.end - k.offset ≡ k.length + more = omega (arith, next.whole) in (
      take more (drop k.length bytes),
      piece file there
          ∙ (ap (λ n. part n (p.end - n) file) (sym next.offset_is)
          ∙ (ap (λ n. take n bytes) size
          ∙ (take-add k.length more bytes ∙ ap (λ (w : List ℕ). w ++ take more (drop k.length bytes)) h.1.bytes))),
    )

dropped : (bs : List ℕ) (from end n : ℕ) → n ≤ end - from → drop n (take (end - from) (drop from bs)) ≡ take (end - (from + n)) (drop (from + n) bs)
dropped bs from end n few =
    let split : end - from ≡ n + (end - (from + n)) = omega (arith, few) in
    ap (λ m. drop n (take m (drop from bs))) split
    ∙ (drop-take n (end - (from + n)) (drop from bs) ∙ ap (take (end - (from + n))) (drop-drop n from bs))

-- a frame that the bytes left begin with is within them
frame_fits : (from end : ℕ) (bs left : List ℕ) (e : Entry) (rest : List ℕ) → left ≡ take (end - from) (drop from bs) → left ≡ spelling e ++ rest → frame_length_of e ≤ end - from
frame_fits from end bs left e rest is starts =
    omega (arith, ap length is, ap length starts, length-take (end - from) (drop from bs), length-append (spelling e) rest, length-spelling e)

-- behind a frame the rest of the piece is left
past_frame : (c : Contents) (s : ℕ) (p : Piece) (e : Entry) (rest : List ℕ) → IsPiece c s p → p.reader.left ≡ spelling e ++ rest → IsPiece c s (record p { reader = past (frame_length_of e) p.reader })
past_frame c s p e rest piece starts = λ file there.
    let from : ℕ = p.reader.place.offset in
    let is = piece file there in
    ap (drop (frame_length_of e)) is ∙ dropped file.bytes from p.end (frame_length_of e) (frame_fits from p.end file.bytes p.reader.left e rest is starts)

-- where what the bytes begin with is given, that is the frame's entry, and the rest of the piece is left
pub given_frame : (c : Contents) (s : ℕ) (p : Piece) (k : Kept) (got : Entry) (new : Reader) → HasFrameAt c s k → IsPiece c s p → IsNext p k
    → ((e : Entry) (rest : List ℕ) → HasFrame e → p.reader.left ≡ spelling e ++ rest → got ≡ e) → new ≡ past (frame_length_of got) p.reader
    → IsFrameAt c s k got × IsPiece c s (record p { reader = new })
given_frame c s p k got new h piece next given is =
    let first = begins c s p k h piece next in
    let same : got ≡ h.0 = given h.0 first.0 h.1.framed first.1 in (
      subst (IsFrameAt c s k) (sym same) h.1,
      subst (λ (r : Reader). IsPiece c s (record p { reader = r })) (sym (is ∙ ap (λ (e : Entry). past (frame_length_of e) p.reader) same)) (past_frame c s p h.0 first.0 piece first.1),
    )
