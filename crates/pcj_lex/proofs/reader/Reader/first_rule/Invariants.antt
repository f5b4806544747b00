use Rattle.std.proofs.Common.{◌≡◌, drop}
use Rattle.pcj_lex.specs.Rules.{token_rules}
use Rattle.pcj_lex.specs.Reading.{first_of}
use Rattle.pcj_lex.proofs.reader.Reader.first_rule.Given as goal

abbrev pub invariant-loop-rule : goal.invariant-loop-rule
invariant-loop-rule l = first_of (drop l.rule-index l.rule-items) l.self ≡ first_of token_rules l.self
