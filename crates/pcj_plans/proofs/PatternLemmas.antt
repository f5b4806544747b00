-- Whatever a pattern's task is, one whose plan was carried out does what a worker may do.
use Rattle.std.proofs.Common.{ℕ, List, sym, subst}
use Rattle.pcj_table.specs.declared.write.Write.{Write}
use Rattle.pcj_encode.specs.declared.task_name.TaskName.{TaskName}
use Rattle.pcj_encode.specs.declared.task_name.TaskName.TheVariants as named
use Rattle.pcj_moves.specs.declared.answer.Answer.{Answer}
use Rattle.pcj_duties.specs.Observers.{IsObserverPlan}
use Rattle.pcj_plans.specs.Laws.{PatternsArePurposes}
use Rattle.pcj_plans.specs.Told.{HasPlanned}
use Rattle.pcj_plans.proofs.BackfillLemmas.{backfill_is_planned}
use Rattle.pcj_plans.proofs.MeetLemmas.{task_of, with_own}
use Rattle.pcj_plans.proofs.TripleLemmas.{triple_is_planned}

-- by its name
by_name : (start at : ℕ) (answers : List Answer) (writes : List Write) (name : TaskName) (cursor : List ℕ) → (is : HasPlanned start answers writes (task_of name cursor at)) → IsObserverPlan start (with_own name cursor is.reads) writes
by_name start at answers writes (named.Triple triple) cursor is = triple_is_planned start at triple cursor is.told is.reads writes is.first is.asked is.ends
by_name start at answers writes (named.Backfill registration node) cursor is =
    backfill_is_planned start at registration node cursor is.told is.reads writes is.first is.asked is.ends
by_name start at answers writes (named.Row registration node cells) cursor is = absurd is.ends
by_name start at answers writes (named.Export registration cells) cursor is = absurd is.ends

pub patterns_are_purposes : PatternsArePurposes
patterns_are_purposes start answers writes task is =
    subst (λ (read : List Answer). IsObserverPlan start read writes) (sym is.answers_are) (by_name start task.start answers writes task.name task.cursor is)
