-- The entries that the forms of a flight become have frames, where the entries that they were made of have.
use Rattle.std.proofs.Common.{ℕ, zero, suc, ◌+◌, ◌<◌, ◌≤◌, ◌≡◌, ◌&&◌, not, Bool, true, false, List, [], ◌∷◌, filter, length, Option, Some, None, refl, sym, subst, arith}
use Rattle.std.specs.Prelude.{All}
use Rattle.std.specs.List.{AllByRecursion}
use Rattle.std.proofs.lemmas.Bool.{cond_both, true≢false}
use Rattle.std.proofs.lemmas.List.Elements.{All-filter}
use Rattle.std.proofs.lemmas.Option.{none-some, same_Some}
use Rattle.rep_types.specs.Edit.{EditValue, cut, is_replicated}
use Rattle.rep_types.specs.declared.cell.Cell.{Cell}
use Rattle.rep_types.specs.declared.ids.Cluster.{Cluster}
use Rattle.rep_types.specs.declared.ids.Cluster.TheVariants.{A, B, C}
use Rattle.rep_types.specs.declared.table.Family.{Family}
use Rattle.rep_types.specs.declared.entry.EntryKind.{EntryKind}
use Rattle.rep_types.specs.declared.entry.EntryKind.TheVariants.{Opened, Closed, Write}
use Rattle.rep_types.specs.declared.entry.Origin.{Origin}
use Rattle.rep_types.proofs.Cut.{IsEdit-cut}
use Rattle.wal_entry.specs.Framed.{HasValue, IsTypedCell, IsTypedEdit, IsTypedKind, IsFramedKind, HasFrame}
use Rattle.rep_model.specs.State.{mark}
use Rattle.rep_model.specs.Forms.{form, forms, with_form, cut_kind, is_marked}
use Rattle.rep_model.specs.Commits.{id_of}
use Rattle.rep_model.specs.Peers.{has_table}
use Rattle.rep_model.specs.declared.machine.Commit.{Commit}
use Rattle.rep_model.specs.declared.machine.Form.{Form}
use Rattle.cluster_core.specs.Entries.{entry_of}
use Rattle.queue_events.specs.Arriving.{MayArrive}

-- ---- marks

-- marks that haven't the cluster's have room for it
mark_fits : (to : Cluster) (n : ℕ) → n ≤ 7 → is_marked to n ≡ false → n + mark to ≤ 7
mark_fits A zero h e = omega arith
mark_fits A (suc zero) h e = absurd (true≢false e)
mark_fits A (suc (suc zero)) h e = omega arith
mark_fits A (suc (suc (suc zero))) h e = absurd (true≢false e)
mark_fits A (suc (suc (suc (suc zero)))) h e = omega arith
mark_fits A (suc (suc (suc (suc (suc zero))))) h e = absurd (true≢false e)
mark_fits A (suc (suc (suc (suc (suc (suc zero)))))) h e = omega arith
mark_fits A (suc (suc (suc (suc (suc (suc (suc zero))))))) h e = absurd (true≢false e)
mark_fits A (suc (suc (suc (suc (suc (suc (suc (suc n)))))))) h e = absurd (omega arith)
mark_fits B zero h e = omega arith
mark_fits B (suc zero) h e = omega arith
mark_fits B (suc (suc zero)) h e = absurd (true≢false e)
mark_fits B (suc (suc (suc zero))) h e = absurd (true≢false e)
mark_fits B (suc (suc (suc (suc zero)))) h e = omega arith
mark_fits B (suc (suc (suc (suc (suc zero))))) h e = omega arith
mark_fits B (suc (suc (suc (suc (suc (suc zero)))))) h e = absurd (true≢false e)
mark_fits B (suc (suc (suc (suc (suc (suc (suc zero))))))) h e = absurd (true≢false e)
mark_fits B (suc (suc (suc (suc (suc (suc (suc (suc n)))))))) h e = absurd (omega arith)
mark_fits C zero h e = omega arith
mark_fits C (suc zero) h e = omega arith
mark_fits C (suc (suc zero)) h e = omega arith
mark_fits C (suc (suc (suc zero))) h e = omega arith
mark_fits C (suc (suc (suc (suc zero)))) h e = absurd (true≢false e)
mark_fits C (suc (suc (suc (suc (suc zero))))) h e = absurd (true≢false e)
mark_fits C (suc (suc (suc (suc (suc (suc zero)))))) h e = absurd (true≢false e)
mark_fits C (suc (suc (suc (suc (suc (suc (suc zero))))))) h e = absurd (true≢false e)
mark_fits C (suc (suc (suc (suc (suc (suc (suc (suc n)))))))) h e = absurd (omega arith)

-- ---- edits

-- what typed and framed cells are an edit of, and what is kept of them
record HasEdit (e : EditValue) : Type 0 where
  pub typed : IsTypedEdit e
  pub values : All (λ (c : Cell). HasValue c.kind) e.cells

abbrev some_cells : List Cell → EditValue → Option EditValue
some_cells [] e = None
some_cells (c ∷ cs) e = Some e

some : (cs : List Cell) (e w : EditValue) → some_cells cs e ≡ Some w → (0 < length cs) × (e ≡ w)
some [] e w h = absurd (none-some w h)
some (c ∷ cs) e w h = (omega arith, same_Some e w h)

cut_has : (families : List Family) (k : EntryKind) (o : Option Origin) (e : EditValue) → IsTypedKind k → IsFramedKind k o → cut_kind families k ≡ Some e → HasEdit e
cut_has families Opened o e typed framed h = absurd (none-some e h)
cut_has families Closed o e typed framed h = absurd (none-some e h)
cut_has families (Write edit) o e typed framed h =
    let is = some (filter (is_replicated families) edit.cells) (cut families edit) e h in
    subst HasEdit is.1 (record {
      typed = record {
        table = typed.table;
        row = typed.row;
        cells = All-filter (is_replicated families) IsTypedCell edit.cells typed.cells;
        whole = IsEdit-cut (is_replicated families) edit.table edit.row edit.cells (filter (is_replicated families) edit.cells) typed.whole refl is.0;
      };
      values = All-filter (is_replicated families) (λ (c : Cell). HasValue c.kind) edit.cells framed;
    })

-- ---- forms

both : (a b : Bool) → (a && b) ≡ true → b ≡ true
both true b e = e
both false b e = absurd (true≢false (sym e))

not_true : (b : Bool) → not b ≡ true → b ≡ false
not_true true e = sym e
not_true false e = refl

formed : (to : Cluster) (tables : List (List ℕ)) (x : Commit) (e : EditValue) → form to tables x ≡ Some e → (is_marked to x.marks ≡ false) × (cut_kind x.region.table.families x.kind ≡ Some e)
formed to tables x e h =
    cond_both (has_table tables x.region.table.name && not (is_marked to x.marks)) (cut_kind x.region.table.families x.kind) None (λ (o : Option EditValue). o ≡ Some e → (is_marked to x.marks ≡ false) × (cut_kind x.region.table.families x.kind ≡ Some e))
    (λ b q. (not_true (is_marked to x.marks) (both (has_table tables x.region.table.name) (not (is_marked to x.marks)) b), q))
    (λ _ q. absurd (none-some e q)) h

least_mark : (a b : ℕ) → 1 ≤ a → 1 ≤ a + b
least_mark a b h = omega arith

may : (from to : Cluster) (x : Commit) (e : EditValue) → HasFrame (entry_of x) → is_marked to x.marks ≡ false → HasEdit e → MayArrive (record { source = id_of from x; edit = e; marks = x.marks + mark to })
may from to x e has free edit peer region seq peer_least peer_most region_least region_most seq_least seq_fits = record {
  typed = record {
    region_least = region_least;
    region_most = region_most;
    seq = seq_fits;
    kind = edit.typed;
    origin = record { peer_least = peer_least; peer_most = peer_most; region_least = has.typed.region_least; region_most = has.typed.region_most; seq = has.typed.seq };
  };
  framed = record {
    seq = seq_least;
    marks_least = least_mark x.marks (mark to) has.framed.marks_least;
    marks_most = mark_fits to x.marks has.framed.marks_most free;
    origin_seq = has.framed.seq;
    kind = edit.values;
  };
}

forms_by : (from to : Cluster) (tables : List (List ℕ)) (x : Commit) (rest : List Form) → HasFrame (entry_of x) → AllByRecursion MayArrive rest → (o : Option EditValue) → form to tables x ≡ o → AllByRecursion MayArrive (with_form o from to x rest)
forms_by from to tables x rest has a None e = a
forms_by from to tables x rest has a (Some w) e =
    let f = formed to tables x w e in
    (may from to x w has f.0 (cut_has x.region.table.families x.kind x.origin w has.typed.kind has.framed.kind f.1), a)

-- all of a flight's forms may arrive
pub forms_may : (from to : Cluster) (tables : List (List ℕ)) (xs : List Commit) → AllByRecursion (λ (x : Commit). HasFrame (entry_of x)) xs → AllByRecursion MayArrive (forms from to tables xs)
forms_may from to tables [] a = tt
forms_may from to tables (x ∷ xs) a = forms_by from to tables x (forms from to tables xs) a.0 (forms_may from to tables xs a.1) (form to tables x) refl
