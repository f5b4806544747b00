use Rattle.std.proofs.Common.{◌≡◌, ◌≤◌, ◌+◌, ◌-◌, ◌*◌, length}
use Rattle.pcj_translate.specs.Adding.{behind_one}
use Rattle.pcj_translate.specs.Reading.{scope_of_reader}
use Rattle.pcj_groups.proofs.Walked.{UnionsLeft, OthersLeft}
use Rattle.pcj_groups.proofs.walk.+groups.Given as goal

abbrev pub decreases-group : goal.decreases-group
decreases-group l = 3 * l.levels

abbrev pub decreases-joint : goal.decreases-joint
decreases-joint l = 3 * l.levels + 1

abbrev pub decreases-other : goal.decreases-other
decreases-other l = 3 * l.levels + 2

abbrev pub invariant-joint-loop-alloc : goal.invariant-joint-loop-alloc
invariant-joint-loop-alloc l = UnionsLeft (scope_of_reader l.fn.reader) l.levels l.fn.reader.rest.now l.reader.rest.now l.first.names l.fn.found l.found × (scope_of_reader l.reader ≡ scope_of_reader l.fn.reader) × (length l.reader.rest.now ≤ length (behind_one l.fn.reader.rest.now))

abbrev pub decreases-joint-loop-alloc : goal.decreases-joint-loop-alloc
decreases-joint-loop-alloc l = length l.reader.rest.now

abbrev pub invariant-group-loop-reader : goal.invariant-group-loop-reader
invariant-group-loop-reader l = OthersLeft (scope_of_reader l.fn.reader) (l.levels - 1) l.fn.reader.rest.now l.reader.rest.now l.found × (scope_of_reader l.reader ≡ scope_of_reader l.fn.reader) × (length l.reader.rest.now ≤ length (behind_one l.fn.reader.rest.now))

abbrev pub decreases-group-loop-reader : goal.decreases-group-loop-reader
decreases-group-loop-reader l = length l.reader.rest.now
