use Rattle.std.proofs.Common.{◌≡◌, ◌++◌, drop}
use Rattle.std.specs.List.{list_all}
use Rattle.pcj_encode.specs.Reading.{is_cell}
use Rattle.pcj_encode.proofs.fields.cells_of.Given as goal

abbrev pub invariant-loop-part : goal.invariant-loop-part
invariant-loop-part l = (l.cells.items ++ drop l.part-index l.parts ≡ l.parts) × (list_all is_cell (drop l.part-index l.parts) ≡ list_all is_cell l.parts)
