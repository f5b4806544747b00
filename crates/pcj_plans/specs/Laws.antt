-- What an actor that has carried out a plan is at work for.
use Rattle.std.specs.Prelude.{ℕ, List}
use Rattle.pcj_table.specs.declared.write.Write.{Write}
use Rattle.pcj_notify.specs.declared.task.Task.{Task}
use Rattle.pcj_moves.specs.declared.answer.Answer.{Answer}
use Rattle.pcj_duties.specs.Observers.{IsObserverPlan}
use Rattle.pcj_plans.specs.Told.{HasPlanned, HasProjected}

-- for a triple's task, or a backfill's, it does what a worker may do
abbrev pub PatternsArePurposes : Type 0
PatternsArePurposes = (start : ℕ) (answers : List Answer) (writes : List Write) (task : Task) → HasPlanned start answers writes task → IsObserverPlan start answers writes

-- and for the task of a row below a projection
abbrev pub PassesArePurposes : Type 0
PassesArePurposes = (start : ℕ) (answers : List Answer) (writes : List Write) (task : Task) → HasProjected start answers writes task → IsObserverPlan start answers writes
