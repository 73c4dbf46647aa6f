use Rattle.std.proofs.Common.{◌∙◌, ap, sym, min}
use Rattle.std.specs.List.{list_all}
use Rattle.rep_types.specs.Edit.{edit_length}
use Rattle.rep_model.specs.State.{of}
use Rattle.rep_model.specs.LogEvents.{put_edit, has_family}
use Rattle.cluster_core.proofs.Lookups.{mapped_some}
use Rattle.data_events.proofs.Allowed.{short_enough, no_families, put_too_long, put_no_table, put_no_family, put_not_serving}
use Rattle.data_events.proofs.writing.may_put.Goals as goal

pub returns-then-have-gt8192-clause-state : goal.returns-then-have-gt8192-clause-state
returns-then-have-gt8192-clause-state c = λ files m stands.
    put_too_long c.args.core.now.own c.args.table.now c.args.row.now c.args.cells.now m c.edit_length-have.result
    (c.edit_length-have.ensures ∙ ap (λ xs. min (edit_length (put_edit c.args.table.now c.args.row.now xs)) 4294967295) c.as_slice.ensures) c.if-have-gt8192.true

pub returns-in_default-clause-state : goal.returns-in_default-clause-state
returns-in_default-clause-state c = λ files m stands.
    let short = short_enough (edit_length (put_edit c.args.table.now c.args.row.now c.args.cells.now)) c.edit_length-have.result (c.edit_length-have.ensures ∙ ap (λ xs. min (edit_length (put_edit c.args.table.now c.args.row.now xs)) 4294967295) c.as_slice.ensures) c.if-have-gt8192.false in
    put_no_table c.args.core.now.own c.args.table.now c.args.row.now c.args.cells.now m short (no_families _ (c.in_default.ensures (of c.args.core.now.own m) stands.regions))

pub returns-then-not-has_families-clause-state : goal.returns-then-not-has_families-clause-state
returns-then-not-has_families-clause-state c = λ files m stands.
    let short = short_enough (edit_length (put_edit c.args.table.now c.args.row.now c.args.cells.now)) c.edit_length-have.result (c.edit_length-have.ensures ∙ ap (λ xs. min (edit_length (put_edit c.args.table.now c.args.row.now xs)) 4294967295) c.as_slice.ensures) c.if-have-gt8192.false in
    let t = mapped_some _ _ _ (c.in-Some.ensures (of c.args.core.now.own m) stands.regions) in
    let held = ap (λ fs. list_all (has_family fs) c.args.cells.now) t.2 in
    put_no_family c.args.core.now.own c.args.table.now c.args.row.now c.args.cells.now m short t.0 t.1 (sym held ∙ sym c.if-not-has_families.ensures)

pub returns-in-None-clause-state : goal.returns-in-None-clause-state
returns-in-None-clause-state c = λ files m stands.
    let short = short_enough (edit_length (put_edit c.args.table.now c.args.row.now c.args.cells.now)) c.edit_length-have.result (c.edit_length-have.ensures ∙ ap (λ xs. min (edit_length (put_edit c.args.table.now c.args.row.now xs)) 4294967295) c.as_slice.ensures) c.if-have-gt8192.false in
    let t = mapped_some _ _ _ (c.in-Some.ensures (of c.args.core.now.own m) stands.regions) in
    let held = ap (λ fs. list_all (has_family fs) c.args.cells.now) t.2 in
    put_not_serving c.args.core.now.own c.args.table.now c.args.row.now c.args.cells.now m short t.0 t.1 (sym held ∙ sym c.if-not-has_families.ensures) stands.link (c.in-None.ensures.state files (of c.args.core.now.own m) stands.regions stands.servers)
    c.located_number.result (c.located_number.ensures (of c.args.core.now.own m) stands.regions)
