-- The forms of a batch in memory are those of the state's batch.
use Rattle.std.proofs.Common.{ℕ, ◌+◌, ◌≤◌, ◌≡◌, ◌&&◌, not, List, [], ◌∷◌, map, find, Option, Some, None, option_map, refl, ap, ◌∙◌, arith}
use Rattle.std.specs.Prelude.{if◌then◌else◌}
use Rattle.std.specs.List.{AllByRecursion}
use Rattle.std.proofs.Math.Nat.{min-eq_left}
use Rattle.rep_types.specs.Edit.{EditValue}
use Rattle.rep_types.specs.declared.ids.Cluster.{Cluster}
use Rattle.rep_types.specs.declared.ids.Cluster.TheVariants.{A, B, C}
use Rattle.region_meta.specs.Regions.{Map, Table as MapTable, region_of, table_of}
use Rattle.region_meta.specs.declared.region.Region.{Region as MapRegion}
use Rattle.rep_model.specs.Keyed.{given}
use Rattle.rep_model.specs.State.{mark, is_region}
use Rattle.rep_model.specs.Commits.{id_of}
use Rattle.rep_model.specs.Peers.{has_table}
use Rattle.rep_model.specs.Places.{is_named}
use Rattle.rep_model.specs.Forms.{is_marked, cut_kind, form, with_form, forms}
use Rattle.rep_model.specs.declared.machine.Commit.{Commit}
use Rattle.rep_model.specs.declared.machine.Form.{Form}
use Rattle.rep_model.specs.declared.machine.Hosted.{Hosted}
use Rattle.rep_model.specs.declared.machine.Region.{Region}
use Rattle.rep_model.specs.declared.machine.Side.{Side}
use Rattle.cluster_core.specs.Entries.{entry_of}
use Rattle.cluster_core.specs.Memory.{map_of, map_region, map_table}
use Rattle.cluster_core.proofs.Lookups.{region_of_map, table_of_map}
use Rattle.queue_events.specs.Sending.{entry_form, with_entry_form, entry_forms}

-- the commit's region stands with its table, and its marks are few
pub record Known (side : Side) (x : Commit) : Type 0 where
  pub hosted : Hosted
  pub found : find (is_region x.region.number) side.regions ≡ Some hosted
  pub region_is : hosted.region ≡ x.region
  pub table : find (is_named x.region.table.name) side.tables ≡ Some x.region.table
  pub marks : x.marks ≤ 7

abbrev form_in : Cluster → List (List ℕ) → Map → Commit → MapRegion → Option EditValue
form_in to tables meta x r =
    if has_table tables r.table && not (is_marked to x.marks)
    then given (table_of r.table meta) None (λ (t : MapTable). cut_kind t.families x.kind)
    else None

abbrev form_with : Cluster → List (List ℕ) → Commit → Option MapTable → Option EditValue
form_with to tables x o =
    if has_table tables x.region.table.name && not (is_marked to x.marks)
    then given o None (λ (t : MapTable). cut_kind t.families x.kind)
    else None

pub form_is : (to : Cluster) (tables : List (List ℕ)) (meta : Map) (side : Side) (x : Commit) → meta ≡ map_of side → Known side x → entry_form to tables meta (entry_of x) ≡ form to tables x
unfolding given
form_is to tables meta side x e k =
    let region : region_of x.region.number meta ≡ Some (map_region k.hosted) = region_of_map x.region.number meta side e ∙ ap (option_map map_region) k.found in
    let table : table_of x.region.table.name meta ≡ Some (map_table x.region.table) = table_of_map x.region.table.name meta side e ∙ ap (option_map map_table) k.table in
    ap (λ (o : Option MapRegion). given o None (form_in to tables meta x)) region
    ∙ (ap (λ (g : Region). form_with_name g.table.name) k.region_is ∙ ap (form_with to tables x) table)
  where
    form_with_name : List ℕ → Option EditValue
    form_with_name n =
        if has_table tables n && not (is_marked to x.marks)
        then given (table_of n meta) None (λ (t : MapTable). cut_kind t.families x.kind)
        else None

mark_is_small : (c : Cluster) → mark c ≤ 4
mark_is_small A = omega arith
mark_is_small B = omega arith
mark_is_small C = omega arith

small : (a b : ℕ) → a ≤ 7 → b ≤ 4 → a + b ≤ 255
small a b h k = omega arith

with_form_is : (o : Option EditValue) (from to : Cluster) (x : Commit) (fs : List Form) → x.marks ≤ 7 → with_entry_form o from to (entry_of x) fs ≡ with_form o from to x fs
with_form_is None from to x fs h = refl
with_form_is (Some e) from to x fs h =
    ap (λ n. (let f : Form = record { source = id_of from x; edit = e; marks = n } in f) ∷ fs) (min-eq_left (small x.marks (mark to) h (mark_is_small to)))

pub forms_are : (from to : Cluster) (tables : List (List ℕ)) (meta : Map) (side : Side) (xs : List Commit) → meta ≡ map_of side → AllByRecursion (Known side) xs → entry_forms from to tables meta (map entry_of xs) ≡ forms from to tables xs
forms_are from to tables meta side [] e a = refl
forms_are from to tables meta side (x ∷ xs) e a =
    ap (λ o. with_entry_form o from to (entry_of x) (entry_forms from to tables meta (map entry_of xs))) (form_is to tables meta side x e a.0)
    ∙ (with_form_is (form to tables x) from to x _ a.0.marks
    ∙ ap (λ fs. with_form (form to tables x) from to x fs) (forms_are from to tables meta side xs e a.1))
