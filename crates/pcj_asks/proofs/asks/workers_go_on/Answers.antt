use Rattle.pcj_asks.proofs.PassLemmas.{passes_go_on}
use Rattle.pcj_asks.proofs.PatternLemmas.{patterns_go_on}
use Rattle.pcj_asks.proofs.RegistrationLemmas.{registrations_are_read}
use Rattle.pcj_asks.proofs.asks.workers_go_on.Goals as goal

pub returns-clause-patterns : goal.returns-clause-patterns
returns-clause-patterns c = patterns_go_on

pub returns-clause-passes : goal.returns-clause-passes
returns-clause-passes c = passes_go_on

pub returns-clause-registrations : goal.returns-clause-registrations
returns-clause-registrations c = registrations_are_read
