-- The calls of a reader in one log, and the frames of its bytes.
use Rattle.std.proofs.Common.{◌≡◌, ℕ, ◌+◌, List, [], ◌∷◌, ◌++◌, length, drop, refl, sym, ap, ◌∙◌, append_assoc, arith, All}
use Rattle.std.specs.List.{flat_map}
use Rattle.std.proofs.lemmas.List.{length-append, append-nil}
use Rattle.std.proofs.lemmas.List.Elements.{All-head, All-tail, All-cons}
use Rattle.rep_types.specs.declared.entry.Entry.{Entry}
use Rattle.rep_types.specs.declared.state.Place.{Place}
use Rattle.wal_entry.specs.Frame.{frame_length, verdict}
use Rattle.wal_entry.specs.Framed.{HasFrame}
use Rattle.wal_entry.specs.Judging.{Whole, IsCut, standing}
use Rattle.wal_entry.specs.Length.{frame_length_of}
use Rattle.wal_entry.specs.Spelling.{spelling}
use Rattle.wal_entry.proofs.Verdicts.{verdict_again, spellings_apart, length-spelling, after_frame}
use Rattle.wal_reader.specs.Calls.{Call, Fed, Gave, Calls, pieces, given, AreFrames, EndsFrames}
use Rattle.wal_reader.specs.Reader.{Reader, fed}

pub joined : (r : Reader) (first second : List ℕ) → fed second (fed first r) ≡ fed (first ++ second) r
joined r first second = ap (λ (left : List ℕ). record r { left = left }) (append_assoc r.left first second)

-- ---- what calls give

pub parts : (calls : List Call) (old new : Reader) → Calls old calls new → AreFrames (old.left ++ pieces calls) (given calls) new.left
parts [] old new h = record {
  framed = λ k d lt. absurd (omega arith);
  whole = append-nil old.left ∙ ap (λ (r : Reader). r.left) (sym h);
}
parts (Fed piece ∷ calls) old new h =
    let rest = parts calls h.0 new h.2 in
    record {
      framed = rest.framed;
      whole = sym (append_assoc old.left piece (pieces calls)) ∙ ap (λ (r : Reader). r.left ++ pieces calls) (sym h.1) ∙ rest.whole;
    }
parts (Gave entry ∷ calls) old new h =
    let rest = parts calls h.0 new h.2 in
    let left : drop (frame_length_of entry) old.left ≡ h.0.left = ap (λ (r : Reader). r.left) (sym h.1.past_it) in
    record {
      framed = All-cons HasFrame entry (given calls) h.1.begins.framed rest.framed;
      whole = ap (λ (bytes : List ℕ). bytes ++ pieces calls) h.1.begins.begins
          ∙ append_assoc (spelling entry) (drop (frame_length_of entry) old.left) (pieces calls)
          ∙ ap (λ (bytes : List ℕ). spelling entry ++ (bytes ++ pieces calls)) left
          ∙ ap (λ (bytes : List ℕ). spelling entry ++ bytes) rest.whole
          ∙ sym (append_assoc (spelling entry) (flat_map spelling (given calls)) new.left);
    }

-- a place so many bytes on
abbrev pub forward : Place → ℕ → Place
forward place size = record place { offset = place.offset + size }

forward_both : (place : Place) (n m k : ℕ) → k ≡ n + m → forward (forward place n) m ≡ forward place k
forward_both place n m k sum =
    ap (λ (offset : ℕ). record place { offset = offset }) (omega (arith, sum))

pub place_of : (calls : List Call) (old new : Reader) → Calls old calls new → new.place ≡ forward old.place (length (flat_map spelling (given calls)))
place_of [] old new h =
    ap (λ (r : Reader). r.place) h ∙ ap (λ (offset : ℕ). record old.place { offset = offset }) (omega arith)
place_of (Fed piece ∷ calls) old new h =
    place_of calls h.0 new h.2 ∙ ap (λ (r : Reader). forward r.place (length (flat_map spelling (given calls)))) h.1
place_of (Gave entry ∷ calls) old new h =
    let frames = flat_map spelling (given calls) in
    place_of calls h.0 new h.2 ∙ ap (λ (r : Reader). forward r.place (length frames)) h.1.past_it
    ∙ forward_both old.place (frame_length_of entry) (length frames) (length (spelling entry ++ frames)) (omega (arith, length-append (spelling entry) frames, length-spelling entry))

-- ---- frames are told from one another

-- bytes that end frames don't begin with one
begins_none : (e : Entry) (bytes rest : List ℕ) → HasFrame e → bytes ≡ spelling e ++ rest → EndsFrames bytes → ⊥
begins_none e bytes rest has same ends =
    let frame : verdict bytes ≡ Whole e (after_frame e rest) = ap verdict same ∙ verdict_again e rest has in
    rw frame at ends

pub front : (gs es : List Entry) (left rest : List ℕ) → All HasFrame gs → All HasFrame es → EndsFrames rest
    → flat_map spelling gs ++ left ≡ flat_map spelling es ++ rest → (more : List Entry) × (gs ++ more ≡ es) × AreFrames left more rest
front [] es left rest hg he ends same = (es, refl, record { framed = he; whole = same })
front (g ∷ gs) [] left rest hg he ends same =
    absurd (begins_none g rest (flat_map spelling gs ++ left) (All-head HasFrame g gs hg) (sym same ∙ append_assoc (spelling g) (flat_map spelling gs) left) ends)
front (g ∷ gs) (e ∷ es) left rest hg he ends same =
    let both = spellings_apart g e (flat_map spelling gs ++ left) (flat_map spelling es ++ rest) (All-head HasFrame g gs hg) (All-head HasFrame e es he)
    (sym (append_assoc (spelling g) (flat_map spelling gs) left) ∙ same ∙ append_assoc (spelling e) (flat_map spelling es) rest) in
    let later = front gs es left rest (All-tail HasFrame g gs hg) (All-tail HasFrame e es he) ends both.1 in
    (later.0, ap (λ (x : Entry). x ∷ (gs ++ later.0)) both.0 ∙ ap (λ (xs : List Entry). e ∷ xs) later.1, later.2)

pub so_far : (old new : Reader) (calls : List Call) (entries : List Entry) (rest : List ℕ) → Calls old calls new
    → AreFrames (old.left ++ pieces calls) entries rest → EndsFrames rest → (more : List Entry) × (given calls ++ more ≡ entries) × AreFrames new.left more rest
so_far old new calls entries rest h all ends =
    let these = parts calls old new h in
    front (given calls) entries new.left rest these.framed all.framed ends (sym these.whole ∙ all.whole)

-- frames of bytes that end frames: there are none
no_more : (gs es more : List Entry) (left rest : List ℕ) → gs ++ more ≡ es → AreFrames left more rest → EndsFrames left → (gs ≡ es) × (left ≡ rest)
no_more gs es [] left rest same h ends = (sym (append-nil gs) ∙ same, h.whole)
no_more gs es (e ∷ more) left rest same h ends =
    absurd (begins_none e left (flat_map spelling more ++ rest) (All-head HasFrame e more h.framed) (h.whole ∙ append_assoc (spelling e) (flat_map spelling more) rest) ends)

pub all_given : (old new : Reader) (calls : List Call) (entries : List Entry) (rest : List ℕ) → Calls old calls new
    → AreFrames (old.left ++ pieces calls) entries rest → EndsFrames rest → EndsFrames new.left → (given calls ≡ entries) × (new.left ≡ rest)
all_given old new calls entries rest h all ends short =
    let later = so_far old new calls entries rest h all ends in
    no_more (given calls) entries later.0 new.left rest later.1 later.2 short

pub nothing_is_cut : IsCut (verdict [])
unfolding verdict frame_length standing
nothing_is_cut = (4, refl)
