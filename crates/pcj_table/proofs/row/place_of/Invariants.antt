use Rattle.std.proofs.Common.{◌≡◌, ◌+◌, drop}
use Rattle.pcj_table.specs.Row.{place_of}
use Rattle.pcj_table.proofs.row.place_of.Given as goal

abbrev pub invariant-loop-at : goal.invariant-loop-at
invariant-loop-at l = l.at + place_of l.commit (drop l.at l.versions) ≡ place_of l.commit l.versions
