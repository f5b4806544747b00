use Rattle.std.proofs.Common.{◌≡◌, ◌≤◌, ◌+◌, ◌*◌, length}
use Rattle.pcj_translate.specs.Reading.{scope_of_reader}
use Rattle.pcj_translate.proofs.ConditionsRead.{AndsLeft, OrsLeft}
use Rattle.pcj_translate.proofs.reader.Reader.+conditions.Given as goal

abbrev pub decreases-all : goal.decreases-all
decreases-all l = 4 * l.levels + 2

abbrev pub decreases-expr : goal.decreases-expr
decreases-expr l = 4 * l.levels + 3

abbrev pub decreases-inner : goal.decreases-inner
decreases-inner l = 4 * l.levels

abbrev pub decreases-one : goal.decreases-one
decreases-one l = 4 * l.levels + 1

abbrev pub invariant-all-loop-alloc : goal.invariant-all-loop-alloc
invariant-all-loop-alloc l = AndsLeft (scope_of_reader l.fn.self) l.levels l.fn.self.rest.now l.self.rest.now l.first × (scope_of_reader l.self ≡ scope_of_reader l.fn.self) × (length l.self.rest.now ≤ length l.fn.self.rest.now)

abbrev pub decreases-all-loop-alloc : goal.decreases-all-loop-alloc
decreases-all-loop-alloc l = length l.self.rest.now

abbrev pub invariant-expr-loop-alloc : goal.invariant-expr-loop-alloc
invariant-expr-loop-alloc l = OrsLeft (scope_of_reader l.fn.self) l.levels l.fn.self.rest.now l.self.rest.now l.first × (scope_of_reader l.self ≡ scope_of_reader l.fn.self) × (length l.self.rest.now ≤ length l.fn.self.rest.now)

abbrev pub decreases-expr-loop-alloc : goal.decreases-expr-loop-alloc
decreases-expr-loop-alloc l = length l.self.rest.now
