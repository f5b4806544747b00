-- What a registration carries out next, by what its actor's step told.
use Rattle.std.specs.Prelude.{◌≡◌, Bool, true, false, not, List, [], if◌then◌else◌}
use Rattle.pcj_table.specs.declared.write.Write.{Write}
use Rattle.pcj_moves.specs.Transactions.{are_distinct, new_transaction}
use Rattle.pcj_txn.specs.Progress.{new_progress as new_txn}
use Rattle.pcj_actor.specs.Progress.{Progress, with_task}
use Rattle.pcj_actor.specs.declared.event.ActorEvent.{ActorEvent}
use Rattle.pcj_actor.specs.declared.event.ActorEvent.TheVariants as event
use Rattle.pcj_actor.specs.declared.task.Task.TheVariants.{Write as Writes}
use Rattle.pcj_client.specs.Job.{has_found}

-- its writes, where its name was read and not found
abbrev pub begins : ActorEvent → Bool → Bool
begins event.Rests found = not found
begins event.Answered found = not found
begins event.Met found = false
begins (event.Recovers told) found = false
begins (event.Put applied) found = false
begins (event.Writes told) found = false

abbrev pub MayBegin : ActorEvent → Progress → List Write → Type 0
MayBegin told actor writes = begins told (has_found actor.actor.answers) ≡ true → (actor.actor.transaction ≡ new_transaction []) × (are_distinct writes ≡ true)

abbrev pub begun : ActorEvent → Progress → List Write → Progress
begun told actor writes = if begins told (has_found actor.actor.answers) then with_task actor (Writes (new_txn actor.actor.start writes)) else actor

-- and what is left of them
abbrev pub left : ActorEvent → Progress → List Write → List Write
left told actor writes = if begins told (has_found actor.actor.answers) then [] else writes
