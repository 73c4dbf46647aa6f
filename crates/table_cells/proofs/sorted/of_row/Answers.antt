use Rattle.std.proofs.Common.{sym}
use Rattle.table_cells.proofs.Searching.{row_places, row_between}
use Rattle.table_cells.proofs.sorted.of_row.Goals as goal

pub slice_bounds-result-count : goal.slice_bounds-result-count
slice_bounds-result-count c =
    let low = c.below_row-low.ensures in
    row_places c.args.row.now c.args.entries.now c.below_row-low.result c.upto_row-high.result low.bound low.parts.0 c.upto_row-high.ensures.parts.1

pub slice_bounds-result-start : goal.slice_bounds-result-start
slice_bounds-result-start c =
    let low = c.below_row-low.ensures in
    row_places c.args.row.now c.args.entries.now c.below_row-low.result c.upto_row-high.result low.bound low.parts.0 c.upto_row-high.ensures.parts.1

pub returns : goal.returns
returns c =
    let low = c.below_row-low.ensures in
    let high = c.upto_row-high.ensures in
    sym (row_between c.args.row.now c.args.entries.now c.below_row-low.result c.upto_row-high.result low.bound high.bound low.parts high.parts)
