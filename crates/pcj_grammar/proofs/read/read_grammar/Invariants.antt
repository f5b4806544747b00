use Rattle.std.proofs.Common.{◌≡◌, ◌-◌, length}
use Rattle.pcj_grammar.specs.Text.{depth_after}
use Rattle.pcj_grammar.specs.Parsing.{expected_of}
use Rattle.pcj_grammar.proofs.Readings.{SoFar}
use Rattle.pcj_grammar.proofs.read.read_grammar.Given as goal

abbrev pub invariant-loop-lexemes : goal.invariant-loop-lexemes
invariant-loop-lexemes l = SoFar l.text l.from l.lexemes (expected_of l.parser) × (l.parser.depth ≡ depth_after 0 l.lexemes)

abbrev pub decreases-loop-lexemes : goal.decreases-loop-lexemes
decreases-loop-lexemes l = length l.text - l.from
