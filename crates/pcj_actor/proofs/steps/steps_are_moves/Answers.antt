use Rattle.pcj_actor.proofs.TxnLemmas.{txn_steps_are_moves}
use Rattle.pcj_actor.proofs.RecoveryLemmas.{recovery_steps_are_moves}
use Rattle.pcj_actor.proofs.ReadLemmas.{read_steps_are_moves, txn_meets_others}
use Rattle.pcj_actor.proofs.steps.steps_are_moves.Goals as goal

pub returns-clause-txn : goal.returns-clause-txn
returns-clause-txn c = txn_steps_are_moves

pub returns-clause-recovery : goal.returns-clause-recovery
returns-clause-recovery c = recovery_steps_are_moves

pub returns-clause-read : goal.returns-clause-read
returns-clause-read c = read_steps_are_moves

pub returns-clause-met : goal.returns-clause-met
returns-clause-met c = txn_meets_others
