use Rattle.std.proofs.Common.{◌≡◌, length}
use Rattle.pcj_lex.specs.Reading.{or_else, after_longest}
use Rattle.pcj_lex.proofs.reader.Reader.after_longest.Given as goal

abbrev pub invariant-loop-next : goal.invariant-loop-next
invariant-loop-next l = or_else (after_longest l.state l.ahead) l.longest ≡ after_longest l.fn.start l.fn.self

abbrev pub decreases-loop-next : goal.decreases-loop-next
decreases-loop-next l = length l.ahead
