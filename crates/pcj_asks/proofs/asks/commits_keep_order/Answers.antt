use Rattle.pcj_asks.proofs.CursorLemmas.{cursors_stay_in_order, empty_is_in_order, readings_say_order}
use Rattle.pcj_asks.proofs.asks.commits_keep_order.Goals as goal

pub returns-clause-commits : goal.returns-clause-commits
returns-clause-commits c = cursors_stay_in_order

pub returns-clause-readings : goal.returns-clause-readings
returns-clause-readings c = readings_say_order

pub returns-clause-empty : goal.returns-clause-empty
returns-clause-empty c = empty_is_in_order
