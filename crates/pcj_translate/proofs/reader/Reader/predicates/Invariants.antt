use Rattle.std.proofs.Common.{◌≡◌, ◌≤◌, length}
use Rattle.pcj_translate.specs.Reading.{scope_of_reader}
use Rattle.pcj_translate.proofs.PredicatesRead.{Says}
use Rattle.pcj_translate.proofs.reader.Reader.predicates.Given as goal

abbrev pub invariant-loop-alloc : goal.invariant-loop-alloc
invariant-loop-alloc l = Says (scope_of_reader l.fn.self) l.subject l.fn.self.rest.now l.self.rest.now l.fn.triples l.triples × (scope_of_reader l.self ≡ scope_of_reader l.fn.self) × (length l.self.rest.now ≤ length l.fn.self.rest.now)

abbrev pub decreases-loop-alloc : goal.decreases-loop-alloc
decreases-loop-alloc l = length l.self.rest.now
