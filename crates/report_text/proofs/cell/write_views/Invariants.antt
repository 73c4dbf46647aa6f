use Rattle.std.proofs.Common.{◌≡◌, ◌++◌, take, flat_map}
use Rattle.report_text.specs.Values.{view_text}
use Rattle.report_text.proofs.cell.write_views.Given as goal

abbrev pub invariant-loop-view : goal.invariant-loop-view
invariant-loop-view l = l.out.items ≡ l.initial.out.items ++ flat_map view_text (take l.view-index l.views)
