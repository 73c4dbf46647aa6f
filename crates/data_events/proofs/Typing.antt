-- The words of a put's cells, and the frame that its entry has.
use Rattle.std.proofs.Common.{ℕ, ◌+◌, ◌≤◌, ◌<◌, ◌≡◌, ◌&&◌, ◌^◌, not, Bool, true, false, List, length, get_or, None, refl, subst, arith}
use Rattle.std.specs.Prelude.{All, nat_le}
use Rattle.std.specs.List.{list_all}
use Rattle.std.proofs.lemmas.Bool.Decides.{nat_tests}
use Rattle.std.proofs.lemmas.List.Sums.{AllPass-from_list_all, list_all-from_AllPass}
use Rattle.rep_types.specs.Edit.{EditValue, repeats}
use Rattle.rep_types.specs.declared.ids.Cluster.{Cluster}
use Rattle.rep_types.specs.declared.cell.Cell.{Cell}
use Rattle.rep_types.specs.declared.cell.CellKind.{CellKind}
use Rattle.rep_types.specs.declared.cell.CellKind.TheVariants.{Put, Erase}
use Rattle.rep_types.specs.declared.entry.EntryKind.TheVariants as kind
use Rattle.wal_entry.specs.Frame.{value_byte, is_value}
use Rattle.wal_entry.specs.Framed.{HasValue, IsTypedEdit, HasFrame}
use Rattle.rep_model.specs.State.{mark}
use Rattle.rep_model.specs.Words.{is_value_byte, are_cells}
use Rattle.rep_model.specs.Words as words

not_true : (b : Bool) → not b ≡ true → b ≡ false
not_true true e = cc
not_true false e = refl

all_both : (a b : Bool) → (a && b) ≡ true → (a ≡ true) × (b ≡ true)
all_both true true e = (refl, refl)
all_both true false e = absurd (cc)
all_both false b e = absurd (cc)

least : (n : ℕ) → nat_le 1 n ≡ true → 0 < n
least n h = grind (arith, nat_tests)

most : (n : ℕ) → nat_le n 64 ≡ true → n ≤ 64
most n h = grind (arith, nat_tests)

byte_is : (b : ℕ) → is_value_byte b ≡ true → value_byte b ≡ true
byte_is b h = grind (arith, nat_tests)

bytes_are : (bytes : List ℕ) → list_all is_value_byte bytes ≡ true → is_value bytes ≡ true
bytes_are bytes h = list_all-from_AllPass value_byte bytes (λ k d less. byte_is (get_or bytes k d) (AllPass-from_list_all is_value_byte bytes h k d less))

abbrev has_value : CellKind → Bool
has_value (Put value) = words.is_value value
has_value Erase = true

value_is : (k : CellKind) → has_value k ≡ true → HasValue k
value_is (Put value) h = bytes_are value (all_both (nat_le (length value) 16384) (list_all is_value_byte value) h).1
value_is Erase h = tt

-- what the words of cells say
pub record AreWorded (cells : List Cell) : Type 0 where
  pub some : 0 < length cells
  pub few : length cells ≤ 64
  pub distinct : repeats cells ≡ false
  pub values : All (λ (c : Cell). HasValue c.kind) cells

pub worded : (cells : List Cell) → are_cells cells ≡ true → AreWorded cells
worded cells h =
    let a = all_both (nat_le 1 (length cells) && nat_le (length cells) 64) (not (repeats cells) && list_all (λ (c : Cell). has_value c.kind) cells) h in
    let b = all_both (nat_le 1 (length cells)) (nat_le (length cells) 64) a.0 in
    let d = all_both (not (repeats cells)) (list_all (λ (c : Cell). has_value c.kind) cells) a.1 in
    record {
      some = least (length cells) b.0;
      few = most (length cells) b.1;
      distinct = not_true (repeats cells) d.0;
      values = λ k x less. value_is (get_or cells k x).kind (AllPass-from_list_all (λ (c : Cell). has_value c.kind) cells d.1 k x less);
    }

-- an entry that writes an edit has a frame
pub write_framed : (region seq marks : ℕ) (edit : EditValue) → 1 ≤ region → region ≤ 4096 → 1 ≤ seq → seq < 2 ^ 64 → 1 ≤ marks → marks ≤ 7 → IsTypedEdit edit → All (λ (c : Cell). HasValue c.kind) edit.cells
    → HasFrame (record { region = region; seq = seq; kind = kind.Write edit; marks = marks; origin = None })
write_framed region seq marks edit region_least region_most seq_least seq_fits marks_least marks_most typed values = record {
  typed = record { region_least = region_least; region_most = region_most; seq = seq_fits; kind = typed; origin = tt };
  framed = record { seq = seq_least; marks_least = marks_least; marks_most = marks_most; origin_seq = tt; kind = values };
}

pub seq_is_some : (seq n : ℕ) → seq ≡ n + 1 → 1 ≤ seq
seq_is_some seq n e = omega arith

-- the same with the cluster's mark
pub mark_framed : (own : Cluster) (region seq : ℕ) (edit : EditValue) (marks : ℕ) → marks ≡ mark own → HasFrame (record { region = region; seq = seq; kind = kind.Write edit; marks = marks; origin = None })
    → HasFrame (record { region = region; seq = seq; kind = kind.Write edit; marks = mark own; origin = None })
mark_framed own region seq edit marks e framed = subst (λ k. HasFrame (record { region = region; seq = seq; kind = kind.Write edit; marks = k; origin = None })) e framed
