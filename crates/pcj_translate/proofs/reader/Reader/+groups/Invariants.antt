use Rattle.std.proofs.Common.{◌≡◌, ◌≤◌, ◌+◌, ◌-◌, ◌*◌, length}
use Rattle.pcj_translate.specs.Adding.{behind_one}
use Rattle.pcj_translate.specs.Reading.{scope_of_reader}
use Rattle.pcj_translate.proofs.GroupsRead.{UnionsLeft, OthersLeft}
use Rattle.pcj_translate.proofs.reader.Reader.+groups.Given as goal

abbrev pub decreases-group : goal.decreases-group
decreases-group l = 3 * l.levels

abbrev pub decreases-joint : goal.decreases-joint
decreases-joint l = 3 * l.levels + 1

abbrev pub decreases-other : goal.decreases-other
decreases-other l = 3 * l.levels + 2

abbrev pub invariant-joint-loop-alloc : goal.invariant-joint-loop-alloc
invariant-joint-loop-alloc l = UnionsLeft (scope_of_reader l.fn.self) l.levels l.fn.self.rest.now l.self.rest.now l.first × (scope_of_reader l.self ≡ scope_of_reader l.fn.self) × (length l.self.rest.now ≤ length (behind_one l.fn.self.rest.now))

abbrev pub decreases-joint-loop-alloc : goal.decreases-joint-loop-alloc
decreases-joint-loop-alloc l = length l.self.rest.now

abbrev pub invariant-group-loop-self : goal.invariant-group-loop-self
invariant-group-loop-self l = OthersLeft (scope_of_reader l.fn.self) (l.levels - 1) l.fn.self.rest.now l.self.rest.now l.content × (scope_of_reader l.self ≡ scope_of_reader l.fn.self) × (length l.self.rest.now ≤ length (behind_one l.fn.self.rest.now))

abbrev pub decreases-group-loop-self : goal.decreases-group-loop-self
decreases-group-loop-self l = length l.self.rest.now
