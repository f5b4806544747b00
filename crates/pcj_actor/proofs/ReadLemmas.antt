-- Each step of a read is a move, and locks that are met are of others.
use Rattle.std.proofs.Common.{◌≡◌, ℕ, Bool, true, false, cond, nat_le, List, [], ◌∷◌, Option, Some, None, refl, ap, ◌∙◌}
use Rattle.pcj_table.specs.declared.lock.Lock.{Lock}
use Rattle.pcj_table.specs.Table.{Key, row_at}
use Rattle.pcj_mvcc.specs.Reading.{Rows, lock_up_to}
use Rattle.pcj_moves.specs.declared.answer.Answer.{Answer}
use Rattle.pcj_moves.specs.Reads.{IsRead}
use Rattle.pcj_moves.specs.Recoveries.{new_recovery}
use Rattle.pcj_moves.specs.Actors.{Actor, with_answer, with_recovery}
use Rattle.pcj_moves.specs.Moves.{Read, Meet, Makes, IsConsistent}
use Rattle.pcj_moves.proofs.StepLemmas.{met_is_other, next_is_free, nothing_is_free}
use Rattle.pcj_moves.proofs.WriteLemmas.{next_is_new}
use Rattle.pcj_moves.specs.Traces.{traces}
use Rattle.pcj_moves.specs.Transactions.{lock_at}
use Rattle.pcj_snapshot.specs.declared.ask.Ask.TheVariants.{Get, Next}
use Rattle.pcj_snapshot.specs.declared.event.ReadEvent.TheVariants as read
use Rattle.pcj_actor.specs.StepLaws.{ReadStepsAreMoves, TxnMeetsOthers}
use Rattle.pcj_actor.proofs.TxnLemmas.{prewrite_due}

-- what is found is held
answers : (number : ℕ) (rows : Rows) (actor : Actor) (answer : Answer) → IsRead rows actor.start answer → Makes (Read answer ∷ []) number rows actor number rows (with_answer actor answer)
answers number rows actor answer is = (is, (refl, refl, refl))

stands : (lock : Option Lock) (time : ℕ) (met : Lock) → lock_up_to time lock ≡ Some met → lock ≡ Some met
stands None time met e = absurd cc
stands (Some lock) time met e = by (nat_le lock.start time) e
  where
    by : (b : Bool) → cond b (Some lock) None ≡ Some met → Some lock ≡ Some met
    by true e = e
    by false e = absurd cc

meets : (number : ℕ) (rows : Rows) (actor : Actor) (others : List Actor) (key : Key) (lock : Lock) → IsConsistent (record { number = number; rows = rows; actors = actor ∷ others }) → actor.transaction.writes ≡ [] →
    lock_up_to actor.start (rows key).lock ≡ Some lock → Makes (Meet key lock ∷ []) number rows actor number rows (with_recovery actor (Some (new_recovery key lock)))
meets number rows actor others key lock is none met =
    let there = stands (rows key).lock actor.start lock met in
    (record { stands = there; other = met_is_other rows actor.start actor.transaction key lock is.sound.0.transacts (nothing_is_free actor.start actor.transaction key none) there }, (refl, refl, refl))

pub read_steps_are_moves : ReadStepsAreMoves
read_steps_are_moves number rows actor others (Get key) (read.Found pair) is none shows = (Read _ ∷ [], (_, refl), _, answers number rows actor _ shows.1)
read_steps_are_moves number rows actor others (Get key) read.Nothing is none shows = (Read _ ∷ [], (_, refl), _, answers number rows actor _ shows)
read_steps_are_moves number rows actor others (Get key) (read.MetLock met lock) is none shows = (Meet met lock ∷ [], refl, _, meets number rows actor others met lock is none shows.1)
read_steps_are_moves number rows actor others (Next range) (read.Found pair) is none shows = (Read _ ∷ [], (_, refl), _, answers number rows actor _ shows.1)
read_steps_are_moves number rows actor others (Next range) read.Nothing is none shows = (Read _ ∷ [], (_, refl), _, answers number rows actor _ shows)
read_steps_are_moves number rows actor others (Next range) (read.MetLock met lock) is none shows = (Meet met lock ∷ [], refl, _, meets number rows actor others met lock is none shows.1)

pub txn_meets_others : TxnMeetsOthers
txn_meets_others actor others settled oracle table key lock is meets =
    let its = prewrite_due actor.transaction.writes actor.transaction.prewritten actor.transaction.commit actor.transaction.committed settled meets.write meets.due in
    let next = next_is_new actor.start actor.transaction (traces actor.start (row_at table)) meets.write is.sound.0.transacts its.0 its.1 in
    record {
      stands = meets.locked;
      other = met_is_other (row_at table) actor.start actor.transaction key lock is.sound.0.transacts
          (ap (lock_at actor.start actor.transaction) meets.of ∙ next_is_free actor.start actor.transaction meets.write next) meets.locked;
    }
