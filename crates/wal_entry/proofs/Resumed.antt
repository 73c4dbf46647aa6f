-- Judging on where a decoder stands.
use Rattle.std.proofs.Common.{◌≡◌, ℕ, ◌+◌, ◌-◌, ◌<◌, ◌≤◌, Bool, true, false, cond, ltb, eqb, List, [], ◌∷◌, ◌++◌, append_assoc, length, drop, None, refl, sym, ap, subst, ◌∙◌, arith, inl, inr}
use Rattle.std.specs.Prelude.{Option, Some, IfSome}
use Rattle.std.proofs.lemmas.Bool.{cases_lt, lt-ltb, le-ltb}
use Rattle.std.proofs.lemmas.List.{length-append, length-drop, drop-drop, drop-append-le, append-nil}
use Rattle.rep_types.specs.Edit.{EditValue, edit_refusal}
use Rattle.rep_types.specs.declared.cell.Cell.{Cell}
use Rattle.rep_types.specs.declared.entry.Entry.{Entry}
use Rattle.rep_types.specs.declared.entry.EntryKind.{EntryKind}
use Rattle.rep_types.specs.declared.entry.EntryKind.TheVariants.{Write}
use Rattle.wal_entry.specs.declared.decode.Decoder.{Decoder}
use Rattle.wal_entry.specs.declared.decode.cursor.Stop.{Stop}
use Rattle.wal_entry.specs.declared.decode.edit.Heading.{Heading}
use Rattle.wal_entry.specs.declared.decode.frame.Fields.{Fields}
use Rattle.wal_entry.specs.declared.decode.write.Begun.{Begun}
use Rattle.wal_entry.specs.Judging.{Place, Grammar, Item, ToEnd, Known, Then, Verdict, Whole, Broken, Cut, and_then, standing, item, judge}
use Rattle.wal_entry.specs.Frame.{cell, cells, heading, edit, body, padding, fields, entry_of, last, after_length, frame_length, verdict}
use Rattle.wal_entry.specs.Resumed.{edit_with, remaining, place_in, IsBegun, HasSeen, fresh}
use Rattle.wal_entry.specs.Steps.{Stops}
use Rattle.wal_entry.proofs.Edit.{not_refused}
use Rattle.wal_entry.proofs.Loop.{Stops-then, one_more, Stops-cells, none_left}
use Rattle.wal_entry.proofs.Pieces.{longer, counts, stays_whole}
use Rattle.wal_entry.proofs.Places.{IsBytes, same_place}
use Rattle.wal_entry.proofs.Verdicts.{verdict_takes}

-- ---- whole items end at a place in the same bytes

pub record LiesIn (bytes : List ℕ) (p : Place) : Type 0 where
  pub here : p.at ≤ length bytes
  pub rest : p.rest ≡ drop p.at bytes

abbrev EndsIn : {A : Type 0} → List ℕ → Verdict A → Type 0
EndsIn bytes (Whole x q) = LiesIn bytes q
EndsIn bytes (Broken at field) = Unit {0}
EndsIn bytes (Cut until) = Unit {0}

chosen_ends : {A : Type 0} (bytes : List ℕ) (b : Bool) (v w : Verdict A) → EndsIn bytes v → EndsIn bytes w → EndsIn bytes (cond b v w)
chosen_ends bytes true v w h k = h
chosen_ends bytes false v w h k = k

and_then_ends : {A B : Type 0} (bytes : List ℕ) (v : Verdict A) (f : A → Place → Verdict B) → EndsIn bytes v → ((x : A) (q : Place) → LiesIn bytes q → EndsIn bytes (f x q)) → EndsIn bytes (and_then v f)
and_then_ends bytes (Whole x q) f h k = k x q h
and_then_ends bytes (Broken at field) f h k = tt
and_then_ends bytes (Cut until) f h k = tt

standing_ends : (bytes : List ℕ) (field size : ℕ) (p : Place) → LiesIn bytes p → EndsIn bytes (standing field size p)
unfolding standing
standing_ends bytes field size p h =
    chosen_ends bytes (ltb p.end (p.at + size)) _ _ tt (elim (cases_lt (length p.rest) size) [
      | inl few ↦ let cut : ltb (length p.rest) size ≡ true = lt-ltb _ _ few in rw cut tt
      | inr enough ↦
          let whole : ltb (length p.rest) size ≡ false = le-ltb _ _ enough in
          rw whole (record {
            here = omega (arith, h.here, enough, ap length h.rest, length-drop p.at bytes);
            rest = ap (drop size) h.rest ∙ drop-drop size p.at bytes;
          })
    ])

item_ends : (bytes : List ℕ) (field size : ℕ) (allowed : List ℕ → Bool) (p : Place) → LiesIn bytes p → EndsIn bytes (item field size allowed p)
item_ends bytes field size allowed p h =
    and_then_ends bytes (standing field size p) _ (standing_ends bytes field size p h) (λ b q lies. chosen_ends bytes (allowed b) (Whole b q) (Broken p.at field) lies tt)

judged_ends : {A : Type 0} (bytes : List ℕ) (g : Grammar A) (p : Place) → LiesIn bytes p → EndsIn bytes (judge g p)
judged_ends bytes (Item field size allowed) p h = item_ends bytes field size allowed p h
judged_ends bytes (ToEnd field most allowed) p h = chosen_ends bytes (ltb most (p.end - p.at)) _ _ tt (item_ends bytes field (p.end - p.at) allowed p h)
judged_ends bytes (Known x) p h = h
judged_ends bytes (Then first others) p h = and_then_ends bytes (judge first p) _ (judged_ends bytes first p h) (λ x q lies. judged_ends bytes (others x) q lies)

pub lies_in : {A : Type 0} (bytes : List ℕ) (g : Grammar A) (p q : Place) (x : A) → LiesIn bytes p → judge g p ≡ Whole x q → LiesIn bytes q
lies_in bytes g p q x h whole = rw whole at (judged_ends bytes g p h)

-- a place in the bytes, with more after them
place_in-more : (bytes more : List ℕ) (q : Place) → LiesIn bytes q → longer more q ≡ record { at = q.at; end = q.end; rest = drop q.at (bytes ++ more) }
place_in-more bytes more q h =
    same_place (longer more q) (record { at = q.at; end = q.end; rest = drop q.at (bytes ++ more) }) refl refl (ap (λ (r : List ℕ). r ++ more) h.rest ∙ sym (drop-append-le q.at bytes more h.here))

-- ---- where the fields and the heading of a write end

after_edit : (v : Verdict (List Cell)) (made : List Cell → EditValue) (after : EntryKind → Place → Verdict Entry)
    → and_then (and_then (and_then v (λ all q. Whole (made all) q)) (λ e q. Whole (Write e) q)) after ≡ and_then v (λ all q. after (Write (made all)) q)
after_edit (Whole all q) made after = refl
after_edit (Broken at field) made after = refl
after_edit (Cut until) made after = refl

pub write_decides : (bytes : List ℕ) (n : ℕ) (f : Fields) (h : Heading) (m1 m2 m3 : Place) → judge frame_length (record { at = 0; end = 8224; rest = bytes }) ≡ Whole n m1
    → judge (fields n) (record m1 { end = n }) ≡ Whole f m2 → eqb f.kind 1 ≡ false → eqb f.kind 2 ≡ false → judge heading m2 ≡ Whole h m3
    → verdict bytes ≡ judge (Then (cells h.count []) (λ all. last f (Write (record { table = h.table; row = h.row; cells = all })))) m3
unfolding verdict after_length body edit
write_decides bytes n f h m1 m2 m3 e1 e2 k1 k2 e3 =
    rw (e1, e2, k1, k2, e3) (after_edit (judge (cells h.count []) m3) (λ all. record { table = h.table; row = h.row; cells = all }) (λ what q. judge (last f what) q))

pub write_begun : (bytes : List ℕ) (n : ℕ) (f : Fields) (h : Heading) (m1 m2 m3 : Place) (b : Begun) → judge frame_length (record { at = 0; end = 8224; rest = bytes }) ≡ Whole n m1
    → judge (fields n) (record m1 { end = n }) ≡ Whole f m2 → eqb f.kind 1 ≡ false → eqb f.kind 2 ≡ false → judge heading m2 ≡ Whole h m3
    → m3.at ≤ m3.end → m3.end ≤ 8224 → b ≡ record { at = m3.at; end = m3.end; fields = f; heading = h; cells = [] } → IsBegun b bytes
write_begun bytes n f h m1 m2 m3 b e1 e2 k1 k2 e3 within most is =
    let start : Place = record { at = 0; end = 8224; rest = bytes } in
    let l0 : LiesIn bytes start = record { here = omega arith; rest = refl } in
    let l1 : LiesIn bytes m1 = lies_in bytes frame_length start m1 n l0 e1 in
    let l1' : LiesIn bytes (record m1 { end = n }) = record { here = l1.here; rest = l1.rest } in
    let l2 = lies_in bytes (fields n) (record m1 { end = n }) m2 f l1' e2 in
    let l3 = lies_in bytes heading m2 m3 h l2 e3 in
    let made : Begun = record { at = m3.at; end = m3.end; fields = f; heading = h; cells = [] } in
    let none : h.count ≡ h.count - length {A = Cell} [] = omega arith in
    let begun : IsBegun made bytes = record {
      stands = l3.here;
      within = within;
      most = most;
      decides = λ more. write_decides (bytes ++ more) n f h (longer more m1) (longer more m2) (longer more m3) (stays_whole frame_length start m1 n more e1)
          (stays_whole (fields n) (record m1 { end = n }) m2 f more e2) k1 k2 (stays_whole heading m2 m3 h more e3)
          ∙ ap (λ (k : ℕ). judge (Then (cells k []) (λ all. last f (Write (edit_with made all)))) (longer more m3)) none ∙ ap (judge (remaining made)) (place_in-more bytes more m3 l3);
    } in
    subst (λ (b : Begun). IsBegun b bytes) (sym is) begun

-- ---- judging on

lies_begun : (b : Begun) (bytes : List ℕ) → IsBegun b bytes → LiesIn bytes (place_in b bytes)
lies_begun b bytes h = record { here = h.stands; rest = refl }

-- what is judged of these bytes alone
decides_now : (b : Begun) (bytes : List ℕ) → IsBegun b bytes → verdict bytes ≡ judge (remaining b) (place_in b bytes)
decides_now b bytes h =
    subst (λ (all : List ℕ). verdict all ≡ judge (remaining b) (place_in b all)) (append-nil bytes) (h.decides [])

pub one_cell : (b new : Begun) (bytes : List ℕ) (c : Cell) (q : Place) → IsBegun b bytes → length b.cells < b.heading.count → judge (cell b.cells) (place_in b bytes) ≡ Whole c q → q.at ≤ q.end
    → new ≡ record b { at = q.at; cells = b.cells ++ c ∷ [] } → IsBegun new bytes
one_cell b new bytes c q h lt whole within is =
    let p = place_in b bytes in
    let lies = lies_in bytes (cell b.cells) p q c (lies_begun b bytes h) whole in
    let both : (q.at + length q.rest ≡ p.at + length p.rest) × (q.end ≡ p.end) = rw whole at (counts (cell b.cells) p) in
    let made : Begun = record b { at = q.at; cells = b.cells ++ c ∷ [] } in
    let count : length b.cells + 1 ≡ length (b.cells ++ c ∷ []) = omega (arith, length-append b.cells (c ∷ [])) in
    let after = λ (all : List Cell) (m : Place). judge (last b.fields (Write (edit_with b all))) m in
    let begun : IsBegun made bytes = record {
      stands = lies.here;
      within = omega (arith, within, both.1);
      most = h.most;
      decides = λ more.
          let same : longer more p ≡ place_in b (bytes ++ more) = place_in-more bytes more p (lies_begun b bytes h) in
          let there : longer more q ≡ place_in made (bytes ++ more) = place_in-more bytes more q lies ∙ ap (λ (end : ℕ). record { at = q.at; end = end; rest = drop q.at (bytes ++ more) }) both.1 in
          let step = one_more b.heading.count (length b.cells) b.cells (longer more p) (longer more q) c lt (stays_whole (cell b.cells) p q c more whole) in
          h.decides more ∙ ap (judge (remaining b)) (sym same) ∙ ap (λ v. and_then v after) step
          ∙ ap (λ (k : ℕ). and_then (judge (cells (b.heading.count - k) (b.cells ++ c ∷ [])) (longer more q)) after) count ∙ ap (judge (remaining made)) there;
    } in
    subst (λ (n : Begun). IsBegun n bytes) (sym is) begun

pub cell_stops : (b : Begun) (bytes : List ℕ) (e : Stop) → IsBegun b bytes → length b.cells < b.heading.count → Stops e (judge (cell b.cells) (place_in b bytes)) → Stops e (verdict bytes)
cell_stops b bytes e h lt stops =
    subst (λ (v : Verdict Entry). Stops e v) (sym (decides_now b bytes h))
    (Stops-then e (judge (cells (b.heading.count - length b.cells) b.cells) (place_in b bytes)) (λ all m. judge (last b.fields (Write (edit_with b all))) m) (Stops-cells e b.heading.count (length b.cells) b.cells (place_in b bytes) lt stops))

-- all cells are judged
all_cells : (b : Begun) (bytes : List ℕ) → IsBegun b bytes → b.heading.count ≤ length b.cells → verdict bytes ≡ judge (last b.fields (Write (edit_with b b.cells))) (place_in b bytes)
all_cells b bytes h le =
    decides_now b bytes h ∙ ap (λ v. and_then v (λ (all : List Cell) (m : Place). judge (last b.fields (Write (edit_with b all))) m)) (none_left b.heading.count (length b.cells) b.cells (place_in b bytes) le)

pub frame_ends : (b : Begun) (bytes : List ℕ) (q : Place) → IsBegun b bytes → b.heading.count ≤ length b.cells → judge padding (place_in b bytes) ≡ Whole tt q
    → verdict bytes ≡ Whole (entry_of b.fields (Write (edit_with b b.cells))) q
unfolding last
frame_ends b bytes q h le whole = all_cells b bytes h le ∙ rw whole refl

pub padding_stops : (b : Begun) (bytes : List ℕ) (e : Stop) → IsBegun b bytes → b.heading.count ≤ length b.cells → Stops e (judge padding (place_in b bytes)) → Stops e (verdict bytes)
unfolding last
padding_stops b bytes e h le stops =
    subst (λ (v : Verdict Entry). Stops e v) (sym (all_cells b bytes h le)) (Stops-then e (judge padding (place_in b bytes)) (λ zeros m. Whole (entry_of b.fields (Write (edit_with b b.cells))) m) stops)

pub marker_ends : (f : Fields) (kind : EntryKind) (e : Entry) (p q : Place) → e ≡ entry_of f kind → judge padding p ≡ Whole tt q → judge (last f kind) p ≡ Whole e q
unfolding last
marker_ends f kind e p q is whole = rw whole (ap (λ (x : Entry). Whole x q) (sym is))

-- ---- what was decoded is no refused edit

pub never_refused : (bytes : List ℕ) (f : Fields) (e : EditValue) (q : Place) → IsBytes bytes → verdict bytes ≡ Whole (entry_of f (Write e)) q → edit_refusal e ≡ None
never_refused bytes f e q fits h = not_refused e (verdict_takes bytes (entry_of f (Write e)) q fits h).has.typed.kind.whole

-- ---- a decoder that was shown these bytes

pub still_begun : (o : Option Begun) (bytes more : List ℕ) → IfSome o (λ b. IsBegun b bytes) → IfSome o (λ b. IsBegun b (bytes ++ more))
still_begun None bytes more h = tt
still_begun (Some b) bytes more h = record {
  stands = omega (arith, h.stands, length-append bytes more);
  within = h.within;
  most = h.most;
  decides = λ others. subst (λ (all : List ℕ). verdict all ≡ judge (remaining b) (place_in b all)) (sym (append_assoc bytes more others)) (h.decides (more ++ others));
}

pub has_seen_more : (d : Decoder) (bytes more : List ℕ) → HasSeen d bytes → HasSeen d (bytes ++ more)
has_seen_more d bytes more h = record {
  begun = still_begun d.begun bytes more h.begun;
  waits = λ others. subst (λ (all : List ℕ). length all < d.until → verdict all ≡ Cut d.until) (sym (append_assoc bytes more others)) (h.waits (more ++ others));
}

pub fresh_has_seen : (bytes : List ℕ) → HasSeen fresh bytes
fresh_has_seen bytes = record { begun = tt; waits = λ more few. absurd (omega (arith, few)) }
