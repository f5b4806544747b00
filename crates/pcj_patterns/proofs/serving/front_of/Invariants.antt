use Rattle.std.proofs.Common.{◌≡◌, ◌++◌, drop, map}
use Rattle.pcj_term.specs.Term.{printed}
use Rattle.pcj_patterns.specs.Serving.{front_of}
use Rattle.pcj_patterns.proofs.serving.front_of.Given as goal

abbrev pub invariant-loop-term : goal.invariant-loop-term
invariant-loop-term l = l.front ++ map printed (map (λ term. term.now) (drop l.term-index l.terms)) ≡ front_of l.fn.order (map (λ term. term.now) l.terms)
