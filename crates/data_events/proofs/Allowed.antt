-- When a put is refused, and when its log is asked.
use Rattle.std.proofs.Common.{ℕ, ◌≤◌, ◌<◌, ◌≡◌, ◌&&◌, not, true, false, List, Option, Some, None, refl, ap, sym, ◌∙◌, arith, min}
use Rattle.std.specs.Prelude.{nat_lt}
use Rattle.std.specs.List.{list_all}
use Rattle.std.specs.Option.{option_map}
use Rattle.std.proofs.lemmas.Bool.Decides.{nat_tests}
use Rattle.rep_types.specs.Edit.{edit_length}
use Rattle.rep_types.specs.declared.ids.Cluster.{Cluster}
use Rattle.rep_types.specs.declared.cell.Cell.{Cell}
use Rattle.rep_types.specs.declared.entry.EntryKind.TheVariants as kind
use Rattle.rep_types.specs.declared.refusal.Refusal.TheVariants as refusal
use Rattle.wal_entry.specs.Length.{frame_length}
use Rattle.rep_model.specs.State.{of, unlinked}
use Rattle.rep_model.specs.Peers.{is_standby, is_covered}
use Rattle.rep_model.specs.Places.{table_of, located_number, Seat, seat, capped, used, lacks_room}
use Rattle.rep_model.specs.LogEvents.{put_edit, has_family, is_barred, put_plan}
use Rattle.rep_model.specs.Path.{refusal_of}
use Rattle.rep_model.specs.declared.machine.Machine.{Machine}
use Rattle.rep_model.specs.declared.machine.Link.{Link}
use Rattle.rep_model.specs.declared.machine.Table.{Table}
use Rattle.rep_laws.proofs.CitingRows as citing

too_long : (size have : ℕ) → have ≡ min size 4294967295 → 8192 < have → nat_lt 8192 size ≡ true
too_long size have e more = grind (arith, nat_tests)

pub short_enough : (size have : ℕ) → have ≡ min size 4294967295 → have ≤ 8192 → size ≤ 8192
short_enough size have e few = omega arith

pub not_long : (size : ℕ) → size ≤ 8192 → nat_lt 8192 size ≡ false
not_long size few = grind (arith, nat_tests)

pub not_barred : (c : Cluster) (name : List ℕ) (m : Machine) → (of c m).link ≡ unlinked → is_barred c name m ≡ false
not_barred c name m e = ap (λ (l : Link). is_standby l.state && is_covered name (of c m)) e

pub no_families : (o : Option Table) → None ≡ option_map (λ (t : Table). t.families) o → o ≡ None
no_families None e = refl
no_families (Some t) e = absurd (cc)

module _ (c : Cluster) (name row : List ℕ) (cells : List Cell) (m : Machine) where
  pub put_too_long : (have : ℕ) → have ≡ min (edit_length (put_edit name row cells)) 4294967295 → 8192 < have → refusal_of (put_plan c name row cells m) ≡ Some (refusal.TooLong have)
  put_too_long have e more = citing.put_too_long c name row cells m (too_long (edit_length (put_edit name row cells)) have e more) ∙ ap (λ n. Some (refusal.TooLong n)) (sym e)

  module _ (few : edit_length (put_edit name row cells) ≤ 8192) where
    pub put_no_table : table_of c name m ≡ None → refusal_of (put_plan c name row cells m) ≡ Some refusal.NoTable
    put_no_table e = citing.put_no_table c name row cells m (not_long (edit_length (put_edit name row cells)) few) e

    module _ (t : Table) (there : table_of c name m ≡ Some t) where
      pub put_no_family : list_all (has_family t.families) cells ≡ false → refusal_of (put_plan c name row cells m) ≡ Some refusal.NoFamily
      put_no_family e = citing.put_no_family c name row cells m (not_long (edit_length (put_edit name row cells)) few) t there (ap not e)

      pub put_not_serving : list_all (has_family t.families) cells ≡ true → (of c m).link ≡ unlinked → seat c name row m ≡ None
          → (r : ℕ) → r ≡ located_number c name row m → refusal_of (put_plan c name row cells m) ≡ Some (refusal.NotServing r)
      put_not_serving all link none r number =
          citing.put_not_serving c name row cells m (not_long (edit_length (put_edit name row cells)) few) t there (ap not all) (not_barred c name m link) none ∙ ap (λ n. Some (refusal.NotServing n)) (sym number)

-- the log has no room for the entry
pub put_need_roll : (c : Cluster) (name row : List ℕ) (cells : List Cell) (m : Machine) → nat_lt 8192 (edit_length (put_edit name row cells)) ≡ false → (t : Table) → table_of c name m ≡ Some t
    → not (list_all (has_family t.families) cells) ≡ false → is_barred c name m ≡ false → (x : Seat) → seat c name row m ≡ Some x
    → x.server.whole ≡ true → lacks_room c x.server (frame_length (kind.Write (put_edit name row cells))) m ≡ true
    → refusal_of (put_plan c name row cells m) ≡ Some (refusal.NeedRoll x.server.number (capped (used c x.server m)) (frame_length (kind.Write (put_edit name row cells))))
unfolding put_plan
put_need_roll c name row cells m short t there all free x at whole lacks = rw (short, there, refusal_of, all, free, at, whole, lacks) refl
