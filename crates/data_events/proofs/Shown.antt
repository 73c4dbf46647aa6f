-- What is shown is what is written.
use Rattle.std.proofs.Common.{ℕ, ◌≡◌, List, map, find, filter, Option, Some, None, Result, Ok, Err, IfOk, refl, ap, sym, ◌∙◌}
use Rattle.std.proofs.lemmas.Option.{none-some, same_Some}
use Rattle.rep_types.specs.Edit.{EditValue}
use Rattle.std.specs.Option.{option_map}
use Rattle.std.specs.Str.{bytes_eq}
use Rattle.rep_types.specs.declared.ids.Cluster.{Cluster}
use Rattle.rep_types.specs.declared.cell.CellView.{CellView}
use Rattle.rep_types.specs.declared.memory.Memory.{Memory}
use Rattle.rep_types.specs.declared.event.Event.TheVariants as event
use Rattle.rep_types.specs.declared.refusal.Refusal.TheVariants as refusal
use Rattle.rep_types.specs.declared.reply.Reply.TheVariants as reply
use Rattle.rep_vault.specs.Contents.{Contents}
use Rattle.rep_model.specs.State.{Route, of, unlinked}
use Rattle.rep_model.specs.See.{see}
use Rattle.rep_model.specs.Places.{table_of, is_named, Seat, seat, located_number}
use Rattle.rep_model.specs.Reads.{table_edits, row_edits, get_plan, show_plan}
use Rattle.rep_model.specs.Plan.{told}
use Rattle.rep_model.specs.Path.{refusal_of}
use Rattle.rep_model.specs.Row.{answers}
use Rattle.rep_model.specs.declared.machine.Machine.{Machine}
use Rattle.rep_model.specs.declared.machine.Side.{Side}
use Rattle.rep_model.specs.declared.machine.Link.{Link}
use Rattle.rep_model.specs.declared.machine.Table.{Table}
use Rattle.rep_laws.proofs.Keys.{bytes_same}
use Rattle.rep_laws.proofs.Lists.{found_passes}
use Rattle.cluster_core.specs.declared.parts.ClusterCore.{ClusterCore}
use Rattle.cluster_core.specs.declared.parts.TableCells.{TableCells}
use Rattle.cluster_core.specs.Memory.{table_cells}
use Rattle.cluster_core.specs.Stands.{Stands}
use Rattle.cluster_core.specs.Does.{Answers}
use Rattle.cluster_core.proofs.Finds.{find_map}
use Rattle.cluster_core.proofs.Answering.{does, plan_refused}
use Rattle.data_events.specs.Cells.{is_cells, shown}

-- a table's cells in memory are those that its side has written
cells_found : (side : Side) (cells : List TableCells) (t : List ℕ) → cells ≡ map (table_cells side) side.tables → find (is_cells t) cells ≡ option_map (table_cells side) (find (is_named t) side.tables)
cells_found side cells t e = ap (find (is_cells t)) e ∙ find_map (table_cells side) (is_cells t) side.tables

mapped_none : {X Y : Type 0} (f : X → Y) (o : Option X) → option_map f o ≡ None → o ≡ None
mapped_none f None e = refl
mapped_none f (Some x) e = absurd (none-some (f x) (sym e))

-- the table, and its cells in memory
pub record Found (side : Side) (t : List ℕ) (kept : TableCells) : Type 0 where
  pub table : Table
  pub there : find (is_named t) side.tables ≡ Some table
  pub edits : kept.store ≡ table_edits t side.written

mapped_some : {X Y : Type 0} (f : X → Y) (o : Option X) (y : Y) → option_map f o ≡ Some y → (x : X) × (o ≡ Some x) × (f x ≡ y)
mapped_some f None y e = absurd (none-some y e)
mapped_some f (Some x) y e = (x, refl, same_Some (f x) y e)

pub cells_missing : (side : Side) (cells : List TableCells) (t : List ℕ) → cells ≡ map (table_cells side) side.tables → find (is_cells t) cells ≡ None → find (is_named t) side.tables ≡ None
cells_missing side cells t e none = mapped_none (table_cells side) (find (is_named t) side.tables) (sym (cells_found side cells t e) ∙ none)

pub cells_there : (side : Side) (cells : List TableCells) (t : List ℕ) (kept : TableCells) → cells ≡ map (table_cells side) side.tables → find (is_cells t) cells ≡ Some kept → Found side t kept
cells_there side cells t kept e some =
    let x = mapped_some (table_cells side) (find (is_named t) side.tables) kept (sym (cells_found side cells t e) ∙ some) in
    let name : x.0.name ≡ t = bytes_same x.0.name t (found_passes (is_named t) side.tables x.0 x.1) in
    record {
      table = x.0;
      there = x.1;
      edits = ap (λ (k : TableCells). k.store) (sym x.2) ∙ ap (λ (n : List ℕ). table_edits n side.written) name;
    }

-- ---- show

show_none : (c : Cluster) (t : List ℕ) (m : Machine) → table_of c t m ≡ None → refusal_of (show_plan c t m) ≡ Some refusal.NoTable
unfolding show_plan
show_none c t m e = rw e refl

show_some : (c : Cluster) (t : List ℕ) (m : Machine) (x : Table) (views : List CellView) → table_of c t m ≡ Some x
    → told (show_plan c t m) (reply.Shown views) m ≡ answers (reply.Shown (see (table_edits t (of c m).written))) m
unfolding show_plan
show_some c t m x views e = rw e refl

pub show_refused : (way : Route) (own : Cluster) (t : List ℕ) (m : Machine) (c : Contents) (core : ClusterCore) → Stands own c core (of own m) → find (is_cells t) core.index.cells ≡ None
    → Answers way own (event.Show own t) m c core c core (Ok (reply.Refused refusal.NoTable))
show_refused way own t m c core stands none =
    plan_refused own (show_plan own t m) m c core refusal.NoTable (show_none own t m (cells_missing (of own m) core.index.cells t stands.index.cells none)) stands

pub show_answers : (way : Route) (own : Cluster) (t : List ℕ) (m : Machine) (c : Contents) (core : ClusterCore) (kept : TableCells) (views : Result (List CellView) Memory)
    → Stands own c core (of own m) → find (is_cells t) core.index.cells ≡ Some kept → IfOk views (λ v. v ≡ see kept.store)
    → Answers way own (event.Show own t) m c core c core (shown views)
show_answers way own t m c core kept (Err e) stands some is = λ _. (refl, refl)
show_answers way own t m c core kept (Ok views) stands some is =
    let x : Found (of own m) t kept = cells_there (of own m) core.index.cells t kept stands.index.cells some in
    let same : views ≡ see (table_edits t (of own m).written) = is ∙ ap see x.edits in
    does own (told (show_plan own t m) (reply.Shown views) m) m m c core (reply.Shown views)
    (show_some own t m x.table views x.there ∙ ap (λ (v : List CellView). answers (reply.Shown v) m) (sym same)) stands (λ d n. refl) refl

-- ---- get

unbarred : (c : Cluster) (m : Machine) → (of c m).link ≡ unlinked → (of c m).link.state ≡ unlinked.state
unbarred c m e = ap (λ (l : Link). l.state) e

get_none : (c : Cluster) (t k : List ℕ) (m : Machine) → table_of c t m ≡ None → refusal_of (get_plan c t k m) ≡ Some refusal.NoTable
unfolding get_plan
get_none c t k m e = rw e refl

get_unserved : (c : Cluster) (t k : List ℕ) (m : Machine) (x : Table) → table_of c t m ≡ Some x → (of c m).link.state ≡ unlinked.state → seat c t k m ≡ None
    → refusal_of (get_plan c t k m) ≡ Some (refusal.NotServing (located_number c t k m))
unfolding get_plan
get_unserved c t k m x e free none = rw (e, free, none) refl

get_some : (c : Cluster) (t k : List ℕ) (m : Machine) (x : Table) (s : Seat) (views : List CellView) → table_of c t m ≡ Some x → (of c m).link.state ≡ unlinked.state → seat c t k m ≡ Some s
    → told (get_plan c t k m) (reply.Shown views) m ≡ answers (reply.Shown (see (row_edits t k (of c m).written))) m
unfolding get_plan
get_some c t k m x s views e free there = rw (e, free, there) refl

pub get_refused : (way : Route) (own : Cluster) (t k : List ℕ) (m : Machine) (c : Contents) (core : ClusterCore) → Stands own c core (of own m) → find (is_cells t) core.index.cells ≡ None
    → Answers way own (event.Get own t k) m c core c core (Ok (reply.Refused refusal.NoTable))
get_refused way own t k m c core stands none =
    plan_refused own (get_plan own t k m) m c core refusal.NoTable (get_none own t k m (cells_missing (of own m) core.index.cells t stands.index.cells none)) stands

pub get_unplaced : (way : Route) (own : Cluster) (t k : List ℕ) (m : Machine) (c : Contents) (core : ClusterCore) (kept : TableCells) (number : ℕ) → Stands own c core (of own m)
    → find (is_cells t) core.index.cells ≡ Some kept → seat own t k m ≡ None → number ≡ located_number own t k m
    → Answers way own (event.Get own t k) m c core c core (Ok (reply.Refused (refusal.NotServing number)))
get_unplaced way own t k m c core kept number stands some none is =
    let x : Found (of own m) t kept = cells_there (of own m) core.index.cells t kept stands.index.cells some in
    plan_refused own (get_plan own t k m) m c core (refusal.NotServing number)
    (get_unserved own t k m x.table x.there (unbarred own m stands.link) none ∙ ap (λ (n : ℕ). Some (refusal.NotServing n)) (sym is)) stands

pub get_answers : (way : Route) (own : Cluster) (t k : List ℕ) (m : Machine) (c : Contents) (core : ClusterCore) (kept : TableCells) (s : Seat) (views : Result (List CellView) Memory)
    → Stands own c core (of own m) → find (is_cells t) core.index.cells ≡ Some kept → seat own t k m ≡ Some s
    → IfOk views (λ v. v ≡ see (filter (λ edit. bytes_eq edit.row k) kept.store)) → Answers way own (event.Get own t k) m c core c core (shown views)
get_answers way own t k m c core kept s (Err e) stands some there is = λ _. (refl, refl)
get_answers way own t k m c core kept s (Ok views) stands some there is =
    let x : Found (of own m) t kept = cells_there (of own m) core.index.cells t kept stands.index.cells some in
    let same : views ≡ see (row_edits t k (of own m).written) = is ∙ ap (λ (es : List EditValue). see (filter (λ (edit : EditValue). bytes_eq edit.row k) es)) x.edits in
    does own (told (get_plan own t k m) (reply.Shown views) m) m m c core (reply.Shown views)
    (get_some own t k m x.table s views x.there (unbarred own m stands.link) there ∙ ap (λ (v : List CellView). answers (reply.Shown v) m) (sym same)) stands (λ d n. refl) refl
