use Rattle.std.proofs.Common.{◌≡◌, ◌++◌, length, take}
use Rattle.std.specs.List.{flat_map}
use Rattle.byteorder.specs.Endian.{big_bytes}
use Rattle.store_file.specs.Spelling.{cell_spelling}
use Rattle.store_file.proofs.write.encode_run.Given as goal

abbrev pub invariant-loop-cell : goal.invariant-loop-cell
invariant-loop-cell l = l.out ≡ big_bytes 8 (length l.cells) ++ flat_map cell_spelling (take l.cell-index l.cells)
