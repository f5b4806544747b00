-- What holds of all asks for patterns' tasks.
use Rattle.std.specs.Prelude.{◌≡◌, List}
use Rattle.pcj_notify.specs.declared.answer.Answer.{Answer}
use Rattle.pcj_notify.specs.declared.ask.Ask.{Ask}
use Rattle.pcj_notify.specs.declared.task.Task.{Task}
use Rattle.pcj_obs_pattern.specs.Plan.{IsPatternAsk}

-- after the same answers no two asks are next for one task
abbrev pub AsksAreOne : Type 0
AsksAreOne = (task : Task) (answers : List Answer) (ask other : Ask) → IsPatternAsk task answers ask → IsPatternAsk task answers other → ask ≡ other
