use Rattle.std.proofs.Common.{◌≡◌, ◌++◌, drop, filter}
use Rattle.pcj_groups.specs.Finding.{is_use}
use Rattle.pcj_groups.proofs.findings.add_variables.Given as goal

abbrev pub invariant-loop-lexeme : goal.invariant-loop-lexeme
invariant-loop-lexeme l = l.uses ++ filter is_use (drop l.lexeme-index l.tokens) ≡ l.fn.uses ++ filter is_use l.tokens
