use Rattle.pcj_plans.proofs.PassLemmas.{passes_are_purposes}
use Rattle.pcj_plans.proofs.PatternLemmas.{patterns_are_purposes}
use Rattle.pcj_plans.proofs.plans.plans_are_purposes.Goals as goal

pub returns-clause-patterns : goal.returns-clause-patterns
returns-clause-patterns c = patterns_are_purposes

pub returns-clause-passes : goal.returns-clause-passes
returns-clause-passes c = passes_are_purposes
