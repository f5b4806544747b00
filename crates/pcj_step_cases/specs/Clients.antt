-- An actor that may still be asked for something: it has no transaction.
use Rattle.std.specs.Prelude.{◌≡◌, Bool, true, false, []}
use Rattle.pcj_moves.specs.Transactions.{new_transaction}
use Rattle.pcj_actor.specs.Progress.{Progress}
use Rattle.pcj_actor.specs.declared.task.Task.{Task}
use Rattle.pcj_actor.specs.declared.task.Task.TheVariants.{Rest, Get, Next, Put, Write}

abbrev pub is_transaction : Task → Bool
is_transaction Rest = false
is_transaction (Get key) = false
is_transaction (Next range) = false
is_transaction (Put key plain) = false
is_transaction (Write progress) = true

pub record IsFree (progress : Progress) : Type 0 where
  pub nothing : progress.actor.transaction ≡ new_transaction []
  pub task : is_transaction progress.task ≡ false
