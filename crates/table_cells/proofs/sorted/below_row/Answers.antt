use Rattle.std.proofs.Common.{rules}
use Rattle.std.proofs.lemmas.List.Sorted.{IsPartitionPoint-from_clause}
use Rattle.table_cells.specs.Entries.{is_below_row}
use Rattle.table_cells.proofs.Searching.{below_row-parts}
use Rattle.table_cells.proofs.sorted.below_row.Goals as goal

pub returns-clause-parts : goal.returns-clause-parts
returns-clause-parts c =
    let row = c.args.row.now in
    IsPartitionPoint-from_clause (is_below_row row) _ _ c.partition_point.ensures.partitioned (below_row-parts row _ c.requires) (λ a r q k. search rules)
