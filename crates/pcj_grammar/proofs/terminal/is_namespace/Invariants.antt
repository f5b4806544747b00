use Rattle.std.proofs.Common.{◌≡◌, length}
use Rattle.pcj_grammar.specs.Terminal.{is_namespace}
use Rattle.pcj_grammar.proofs.terminal.is_namespace.Given as goal

abbrev pub invariant-loop-rest : goal.invariant-loop-rest
invariant-loop-rest l = is_namespace l.rest ≡ is_namespace l.fn.source

abbrev pub decreases-loop-rest : goal.decreases-loop-rest
decreases-loop-rest l = length l.rest
