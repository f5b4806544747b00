-- What holds of all that actors are at work for.
use Rattle.std.specs.Prelude.{ℕ, List}
use Rattle.pcj_table.specs.declared.write.Write.{Write}
use Rattle.pcj_moves.specs.declared.answer.Answer.{Answer}
use Rattle.pcj_rows.specs.Plans.{HasPlan}
use Rattle.pcj_duties.specs.Observers.{HasPurpose}

-- an actor writes what any may write, whatever it is at work for
abbrev pub PurposesArePlans : Type 0
PurposesArePlans = (start : ℕ) (answers : List Answer) (writes : List Write) → HasPurpose start answers writes → HasPlan start answers writes
