-- What an actor's steps make of it.
use Rattle.std.proofs.Common.{◌≢◌, ◌⊎◌, inl, inr, is_some, arith, ◌≡◌, ℕ, nat_le, Bool, true, false, cond, List, [], ◌∷◌, ◌++◌, Option, Some, None, refl, ap, ap₂, sym, subst, ◌∙◌}
use Rattle.pcj_table.specs.declared.lock.Lock.{Lock}
use Rattle.pcj_table.specs.declared.plain.Plain.{Plain}
use Rattle.pcj_table.specs.declared.row.Row.{Row}
use Rattle.pcj_table.specs.declared.update.Update.TheVariants.{SetPlain}
use Rattle.pcj_table.specs.Row.{updated}
use Rattle.pcj_term.proofs.ByteLemmas.{other_bytes}
use Rattle.pcj_mvcc.proofs.Rows.{put_other}
use Rattle.pcj_table.specs.Table.{Key, Table, row_at}
use Rattle.pcj_mvcc.specs.Reading.{Rows, lock_up_to}
use Rattle.pcj_mvcc.specs.Times.{TimesInOrder}
use Rattle.pcj_moves.specs.declared.answer.Answer.{Answer}
use Rattle.pcj_moves.specs.Transactions.{Transaction, new_transaction}
use Rattle.pcj_moves.specs.Reads.{IsRead}
use Rattle.pcj_moves.specs.Recoveries.{new_recovery}
use Rattle.pcj_moves.specs.Actors.{Actor, with_answer, with_recovery}
use Rattle.pcj_moves.specs.Moves.{Move, WritePlain, Read, Meet, MayMeet, IsConsistent, EndRecovery, Makes, number_after, rows_after, actor_after}
use Rattle.pcj_recover.specs.declared.event.RecoveryEvent.{RecoveryEvent}
use Rattle.pcj_recover.specs.declared.event.RecoveryEvent.TheVariants.{Working, RolledForward, RolledBack}
use Rattle.pcj_recover.specs.Progress.{Progress as RecoveryProgress}
use Rattle.pcj_recover.specs.Steps.{Steps as RecoverySteps, KeepPlain}
use Rattle.pcj_actor.specs.declared.task.Task.{Task}
use Rattle.pcj_txn.specs.declared.event.TxnEvent.{TxnEvent}
use Rattle.pcj_txn.specs.declared.event.TxnEvent.TheVariants.{MetLock}
use Rattle.pcj_txn.specs.Errors.{step_calls, MakesOneCall, MakesStepCalls}
use Rattle.pcj_txn.specs.Progress.{Progress as TxnProgress, due}
use Rattle.pcj_table.specs.Calls.{counted}
use Rattle.pcj_txn.specs.Steps.{Steps as TxnSteps, MeetsLock, Stays}
use Rattle.pcj_recover.specs.Progress.{new_progress as new_recovery_progress}
use Rattle.pcj_oracle.specs.declared.block.Block.{Block}
use Rattle.pcj_oracle.specs.Clock.{clock_key, clock_number, stored_number, next_at, next_number, IsClock, IsClockAt}
use Rattle.pcj_moves.proofs.ConsistencyLemmas.{moves_are_consistent}
use Rattle.pcj_moves.proofs.ReadLemmas.{moves_leave_read}
use Rattle.pcj_actor.specs.ActorLaws.{CarriedIsConsistent, CarriedLeavesRead}
use Rattle.pcj_moves.proofs.StepLemmas.{met_is_other, nothing_is_free}
use Rattle.pcj_actor.specs.declared.event.ActorEvent.{ActorEvent}
use Rattle.pcj_actor.specs.declared.told.Told.{Told}
use Rattle.pcj_actor.specs.declared.told.Told.TheVariants.{Answered, Met}
use Rattle.pcj_actor.specs.declared.task.Task.TheVariants.{Rest, Get, Next, Put, Write}
use Rattle.pcj_actor.specs.StepLaws.{state_of, AreTxnMoves}
use Rattle.pcj_actor.specs.Progress.{Progress, recovery_of, transaction_of, locked_of, IsReading, IsTold, IsOfStart, with_held, with_met, with_recovered, with_txn, told_event, IsToldOf, ReadsNoPlain, Recovers, Answers, Meets, Writes, TableStays, Tells, IsPut, Moved, AreAllStepMoves, AreStepMoves, MakesUpTo, task_calls, calls_of}
use Rattle.pcj_actor.proofs.KindLemmas.{all_then, recovery_moves_are_steps, txn_moves_are_steps}
use Rattle.pcj_actor.proofs.TxnLemmas.{txn_steps_are_moves}
use Rattle.pcj_actor.proofs.ReadLemmas.{txn_meets_others}
use Rattle.pcj_actor.proofs.RecoveryLemmas.{recovery_steps_are_moves}

-- moves after moves
pub makes_then : (moves more : List Move) (number : ℕ) (rows : Rows) (actor : Actor) (number' : ℕ) (rows' : Rows) (actor' : Actor) (last : ℕ) (at_last : Rows) (done : Actor) →
    Makes moves number rows actor number' rows' actor' → Makes more number' rows' actor' last at_last done → Makes (moves ++ more) number rows actor last at_last done
makes_then [] more number rows actor number' rows' actor' last at_last done first then =
    subst (λ n. Makes more n rows actor last at_last done) first.0 (subst (λ r. Makes more number' r actor last at_last done) first.1 (subst (λ a. Makes more number' rows' a last at_last done) first.2 then))
makes_then (move ∷ moves) more number rows actor number' rows' actor' last at_last done first then =
    (first.0, makes_then moves more (number_after move number) (rows_after move actor rows) (actor_after move rows actor) number' rows' actor' last at_last done first.1 then)

abbrev pub actor_of : ℕ → List Answer → Transaction → Option RecoveryProgress → Actor
actor_of start answers transaction recovery = record { start = start; answers = answers; transaction = transaction; recovery = recovery_of recovery }

abbrev pub progress_as : ℕ → List Answer → Task → Option RecoveryProgress → Progress
progress_as start answers task recovery = record { actor = actor_of start answers (transaction_of task) recovery; task = task; locked = locked_of recovery }

-- a step of a recovery that goes on
pub recovery_goes_on : (number : ℕ) (self : Progress) (start : ℕ) (answers : List Answer) (task : Task) (before : Option RecoveryProgress) (old new : RecoveryProgress) (table table' : Table) (event : RecoveryEvent) →
    progress_as start answers task before ≡ self → before ≡ Some old → TimesInOrder (row_at table) → RecoverySteps old table event new table' →
    (moves : List Move) × AreAllStepMoves self.task moves × Makes moves number (row_at table) self.actor number (row_at table') (actor_of start answers (transaction_of task) (Some new))
recovery_goes_on number self start answers task before old new table table' event view is order steps =
    let moved = recovery_steps_are_moves number (actor_of start answers (transaction_of task) before) old.recovery old.locked new table table' event (ap recovery_of is) order steps in (
      moved.0,
      recovery_moves_are_steps self.task old.recovery event moved.0 moved.1,
      subst (λ (p : Progress). Makes moved.0 number (row_at table) p.actor number (row_at table') (actor_of start answers (transaction_of task) (Some new))) view moved.2,
    )

-- and one that is its last
pub recovery_ends : (number : ℕ) (self : Progress) (start : ℕ) (answers : List Answer) (task : Task) (before : Option RecoveryProgress) (old new : RecoveryProgress) (table table' : Table) (event : RecoveryEvent) →
    progress_as start answers task before ≡ self → before ≡ Some old → TimesInOrder (row_at table) → RecoverySteps old table event new table' →
    (moves : List Move) × AreAllStepMoves self.task moves × Makes moves number (row_at table) self.actor number (row_at table') (actor_of start answers (transaction_of task) None)
recovery_ends number self start answers task before old new table table' event view is order steps =
    let moved = recovery_goes_on number self start answers task before old new table table' event view is order steps in (
      moved.0 ++ (EndRecovery ∷ []),
      all_then self.task moved.0 (EndRecovery ∷ []) moved.1 (tt, tt),
      makes_then moved.0 (EndRecovery ∷ []) number (row_at table) self.actor number (row_at table') (actor_of start answers (transaction_of task) (Some new))
          number (row_at table') (actor_of start answers (transaction_of task) None) moved.2 (tt, (refl, refl, refl)),
    )

pub as_step : (self : Progress) (number number' : ℕ) (rows rows' : Rows) (new : Actor) →
    (moves : List Move) × AreAllStepMoves self.task moves × Makes moves number rows self.actor number' rows' new → (moves : List Move) × AreStepMoves self.task moves × Makes moves number rows self.actor number' rows' new
as_step self number number' rows rows' new moved = (moved.0, inr moved.1, moved.2)

-- ---- reads

reading_writes_nothing : (task : Task) → IsReading task → (transaction_of task).writes ≡ []
reading_writes_nothing Rest reading = absurd reading
reading_writes_nothing (Get key) reading = refl
reading_writes_nothing (Next range) reading = refl
reading_writes_nothing (Put key plain) reading = absurd reading
reading_writes_nothing (Write progress) reading = absurd reading

lock_stands : (lock : Option Lock) (time : ℕ) (met : Lock) → lock_up_to time lock ≡ Some met → lock ≡ Some met
lock_stands None time met e = absurd cc
lock_stands (Some lock) time met e = by (nat_le lock.start time) e
  where
    by : (b : Bool) → cond b (Some lock) None ≡ Some met → Some lock ≡ Some met
    by true e = e
    by false e = absurd cc

-- an answer, or a lock that was met, is held
pub read_is_held : (oracle : Option Block) (table table' : Table) (others : List Actor) (self new : Progress) (start : ℕ) (answers : List Answer) (task : Task) (recovery : Option RecoveryProgress) (told : Told) →
    progress_as start answers task recovery ≡ self → IsReading task → table' ≡ table → IsTold told start (row_at table) →
    ((answer : Answer) → told ≡ Answered answer → new ≡ with_held (progress_as start answers task recovery) answer) → ((key : Key) (lock : Lock) → told ≡ Met key lock → new ≡ with_met (progress_as start answers task recovery) key lock) →
    IsConsistent (state_of oracle table (self.actor ∷ others)) →
    (moves : List Move) × AreStepMoves self.task moves × Makes moves (next_number oracle table) (row_at table) self.actor (next_number oracle table') (row_at table') new.actor
read_is_held oracle table table' others self new start answers task recovery (Answered answer) view reading same told here met is = (
  Read answer ∷ [],
  inl (answer, subst (λ (p : Progress). IsReading p.task) view reading, refl),
  (
    subst (λ (p : Progress). IsRead (row_at table) p.actor.start answer) view told.0,
    (ap (next_number oracle) same, ap row_at same, ap (λ (p : Progress). p.actor) (here answer refl) ∙ ap (λ (p : Progress). with_answer p.actor answer) view),
  ),
)
read_is_held oracle table table' others self new start answers task recovery (Met key lock) view reading same told here met is =
    let there = lock_stands (row_at table key).lock start lock told in
    let none : self.actor.transaction.writes ≡ [] = subst (λ (p : Progress). p.actor.transaction.writes ≡ []) view (reading_writes_nothing task reading) in (
      Meet key lock ∷ [],
      inr (tt, tt),
      (
        record { stands = there; other = met_is_other (row_at table) self.actor.start self.actor.transaction key lock is.sound.0.transacts (nothing_is_free self.actor.start self.actor.transaction key none) there },
        (ap (next_number oracle) same, ap row_at same, ap (λ (p : Progress). p.actor) (met key lock refl) ∙ ap (λ (p : Progress). with_recovery p.actor (Some (new_recovery key lock))) view),
      ),
    )

-- ---- a transaction

-- the actor that carries out a transaction
its_actor : (self : Progress) (start : ℕ) (answers : List Answer) (task : Task) (recovery : Option RecoveryProgress) (txn : TxnProgress) → progress_as start answers task recovery ≡ self → task ≡ Write txn → IsOfStart start task →
    actor_of txn.start answers txn.transaction recovery ≡ self.actor
its_actor self start answers task recovery txn view is own =
    let begun : txn.start ≡ start = subst (IsOfStart start) is own in
    ap (λ s. actor_of s answers txn.transaction recovery) begun ∙ ap (λ t. actor_of start answers (transaction_of t) recovery) (sym is) ∙ ap (λ (p : Progress). p.actor) view

pub txn_goes_on : (oracle oracle' : Option Block) (table table' : Table) (others : List Actor) (self : Progress) (start : ℕ) (answers : List Answer) (task : Task) (recovery : Option RecoveryProgress) (txn new : TxnProgress) (event : TxnEvent) →
    progress_as start answers task recovery ≡ self → task ≡ Write txn → IsOfStart start task → TxnSteps txn oracle table event new oracle' table' → IsConsistent (state_of oracle table (self.actor ∷ others)) →
    (moves : List Move) × AreStepMoves self.task moves × Makes moves (next_number oracle table) (row_at table) self.actor (next_number oracle' table') (row_at table') (actor_of start answers new.transaction recovery)
txn_goes_on oracle oracle' table table' others self start answers task recovery txn new event view is own steps consistent = (
  moved.0,
  inr (txn_moves_are_steps self.task event moved.0 moved.1),
  subst (λ a. Makes moved.0 (next_number oracle table) (row_at table) a (next_number oracle' table') (row_at table') (actor_of start answers new.transaction recovery)) same
      (subst (λ s. Makes moved.0 (next_number oracle table) (row_at table) (actor_of txn.start answers txn.transaction recovery) (next_number oracle' table') (row_at table') (actor_of s answers new.transaction recovery)) (subst (IsOfStart start) is own) moved.2),
)
  where
    same : actor_of txn.start answers txn.transaction recovery ≡ self.actor
    same = its_actor self start answers task recovery txn view is own

    moved : (moves : List Move) × AreTxnMoves event moves × Makes moves (next_number oracle table) (row_at table) (actor_of txn.start answers txn.transaction recovery) (next_number oracle' table') (row_at table') (actor_of txn.start answers new.transaction recovery)
    moved = txn_steps_are_moves (actor_of txn.start answers txn.transaction recovery) others txn.settled new oracle oracle' table table' event
        (subst (λ a. IsConsistent (state_of oracle table (a ∷ others))) (sym same) consistent) steps

pub txn_meets : (oracle oracle' : Option Block) (table table' : Table) (others : List Actor) (self : Progress) (start : ℕ) (answers : List Answer) (task : Task) (recovery : Option RecoveryProgress) (txn new : TxnProgress) (event : TxnEvent) (key : Key) (lock : Lock) (begun : RecoveryProgress) →
    progress_as start answers task recovery ≡ self → task ≡ Write txn → IsOfStart start task → TxnSteps txn oracle table event new oracle' table' → event ≡ MetLock key lock → begun ≡ new_recovery_progress key lock →
    IsConsistent (state_of oracle table (self.actor ∷ others)) →
    (moves : List Move) × AreStepMoves self.task moves × Makes moves (next_number oracle table) (row_at table) self.actor (next_number oracle' table') (row_at table') (actor_of start answers new.transaction (Some begun))
txn_meets oracle oracle' table table' others self start answers task recovery txn new event key lock begun view is own steps met begins consistent = (
  Meet key lock ∷ [],
  inr (tt, tt),
  (
    subst (λ a. MayMeet (row_at table) a key lock) same (txn_meets_others (actor_of txn.start answers txn.transaction recovery) others txn.settled oracle table key lock
        (subst (λ a. IsConsistent (state_of oracle table (a ∷ others))) (sym same) consistent) told.0),
    (
      ap₂ next_number told.2 (told.1).rows,
      ap row_at (told.1).rows,
      ap (λ (b : RecoveryProgress). actor_of start answers new.transaction (Some b)) begins
          ∙ ap (λ (p : TxnProgress). actor_of start answers p.transaction (Some (new_recovery_progress key lock))) (told.1).progress
          ∙ ap (λ s. actor_of s answers txn.transaction (Some (new_recovery_progress key lock))) (sym (subst (IsOfStart start) is own))
          ∙ ap (λ a. with_recovery a (Some (new_recovery key lock))) same,
    ),
  ),
)
  where
    same : actor_of txn.start answers txn.transaction recovery ≡ self.actor
    same = its_actor self start answers task recovery txn view is own

    told : MeetsLock txn table key lock × Stays txn table new table' × (oracle' ≡ oracle)
    told = subst (λ e. TxnSteps txn oracle table e new oracle' table') met steps

-- ---- what is told

pub recovered_last : (self : Progress) (start : ℕ) (answers : List Answer) (task : Task) (before : Option RecoveryProgress) (old new : RecoveryProgress) (table table' : Table) (ended told : RecoveryEvent) →
    progress_as start answers task before ≡ self → before ≡ Some old → RecoverySteps old table ended new table' → (ended ≡ Working → ⊥) → ended ≡ told → Recovers self table told (progress_as start answers task None) table'
recovered_last self start answers task before old new table table' ended told view is steps other same = subst (λ e. Recovers self table e (progress_as start answers task None) table') same (record {
  before = old;
  after = new;
  is = ap (λ (p : Progress). p.actor.recovery) (sym view) ∙ ap recovery_of is;
  locked = ap (λ (p : Progress). p.locked) (sym view) ∙ ap locked_of is;
  steps = steps;
  next = by ended other;
})
  where
    by : (e : RecoveryEvent) → (e ≡ Working → ⊥) → progress_as start answers task None ≡ with_recovered self e new
    by Working never = absurd (never refl)
    by RolledForward never = ap (λ (p : Progress). with_recovered p RolledForward new) view
    by RolledBack never = ap (λ (p : Progress). with_recovered p RolledBack new) view

pub held_tells : (oracle : Option Block) (table table' : Table) (self new : Progress) (start : ℕ) (answers : List Answer) (task : Task) (recovery : Option RecoveryProgress) (told : Told) (event : ActorEvent) →
    progress_as start answers task recovery ≡ self → table' ≡ table → (TimesInOrder (row_at table) → ReadsNoPlain task (row_at table) → IsTold told start (row_at table)) → IsToldOf task told →
    ((answer : Answer) → told ≡ Answered answer → new ≡ with_held (progress_as start answers task recovery) answer) → ((key : Key) (lock : Lock) → told ≡ Met key lock → new ≡ with_met (progress_as start answers task recovery) key lock) →
    event ≡ told_event told → Tells self oracle table event new oracle table'
held_tells oracle table table' self new start answers task recovery (Answered answer) event view same read of here met is =
    subst (λ e. Tells self oracle table e new oracle table') (sym is)
    (subst (λ (p : Progress). Answers p table new × TableStays oracle table oracle table') view
    (record { answer = answer; of = of; read = λ readable. (read readable.0 readable.1).0; within = λ readable. (read readable.0 readable.1).1; next = here answer refl }, record { numbers = refl; rows = same }))
held_tells oracle table table' self new start answers task recovery (Met key lock) event view same read of here met is =
    subst (λ e. Tells self oracle table e new oracle table') (sym is)
    (subst (λ (p : Progress). Meets p table new × TableStays oracle table oracle table') view
    (record { key = key; lock = lock; stands = λ readable. lock_stands (row_at table key).lock start lock (read readable.0 readable.1); next = met key lock refl }, record { numbers = refl; rows = same }))

pub written_tells : (oracle oracle' : Option Block) (table table' : Table) (self : Progress) (start : ℕ) (answers : List Answer) (task : Task) (recovery : Option RecoveryProgress) (txn new : TxnProgress) (event : TxnEvent) →
    progress_as start answers task recovery ≡ self → task ≡ Write txn → TxnSteps txn oracle table event new oracle' table' → Writes self oracle table event (progress_as start answers (Write new) recovery) oracle' table'
written_tells oracle oracle' table table' self start answers task recovery txn new event view is steps = record {
  before = txn;
  after = new;
  is = ap (λ (p : Progress). p.task) (sym view) ∙ is;
  steps = steps;
  next = ap (λ (p : Progress). with_txn p new) view;
}

-- where plain values stay the next number does
pub recovery_keeps_number : (oracle : Option Block) (table table' : Table) (self new : Progress) → KeepPlain table table' → TimesInOrder (row_at table) → ((number : ℕ) → TimesInOrder (row_at table) → Moved self number table new number table') →
    Moved self (next_number oracle table) table new (next_number oracle table') table'
recovery_keeps_number oracle table table' self new plain order moved =
    subst (λ number. Moved self (next_number oracle table) table new number table') (ap (λ (p : Option Plain). next_at oracle (clock_number p)) (sym (plain clock_key))) (moved (next_number oracle table) order)

-- ---- calls

pub up_to_one : (before now : ℕ) → (now ≡ before) ⊎ (now ≡ counted before) → MakesUpTo 1 before now
up_to_one before now (inl none) = record { calls = 0; made = none; within = omega arith }
up_to_one before now (inr one) = record { calls = 1; made = one; within = omega arith }

pub one_at_most : (oracle : Option Block) (before now : ℕ) → (now ≡ before) ⊎ (now ≡ counted before) → MakesOneCall oracle oracle before now
one_at_most oracle before now (inl none) = record { calls = 0; made = none; within = omega arith }
one_at_most oracle before now (inr one) = record { calls = 1; made = one; within = omega arith }

pub no_call : (oracle : Option Block) (made : ℕ) → MakesOneCall oracle oracle made made
no_call oracle made = record { calls = 0; made = refl; within = omega arith }

-- a read makes one call at most
pub read_calls : (self : Progress) (task : Task) (oracle : Option Block) (table : Table) (before now : ℕ) → self.task ≡ task → IsReading task → (now ≡ before) ⊎ (now ≡ counted before) → MakesUpTo (task_calls self.task oracle table) before now
read_calls self Rest oracle table before now is reading most = absurd reading
read_calls self (Get key) oracle table before now is reading most = subst (λ t. MakesUpTo (task_calls t oracle table) before now) (sym is) (up_to_one before now most)
read_calls self (Next range) oracle table before now is reading most = subst (λ t. MakesUpTo (task_calls t oracle table) before now) (sym is) (up_to_one before now most)
read_calls self (Put key plain) oracle table before now is reading most = absurd reading
read_calls self (Write txn) oracle table before now is reading most = absurd reading

pub txn_calls : (self : Progress) (txn : TxnProgress) (oracle : Option Block) (table : Table) (before now : ℕ) (answered : Bool) → self.task ≡ Write txn → MakesStepCalls (step_calls (due txn) oracle table) before now answered →
    MakesUpTo (task_calls self.task oracle table) before now
txn_calls self txn oracle table before now answered is calls =
    subst (λ t. MakesUpTo (task_calls t oracle table) before now) (sym is) (record { calls = calls.calls; made = calls.made; within = calls.within })

-- where there is a recovery its step's calls are all
pub recovery_calls : (self : Progress) (oracle : Option Block) (table : Table) (before now : ℕ) → is_some self.actor.recovery ≡ true → (now ≡ before) ⊎ (now ≡ counted before) → MakesUpTo (calls_of self oracle table) before now
recovery_calls self oracle table before now some most = rw some (up_to_one before now most)

-- and else those of the task
pub other_calls : (self : Progress) (oracle : Option Block) (table : Table) (before now : ℕ) → self.actor.recovery ≡ None → MakesUpTo (task_calls self.task oracle table) before now → MakesUpTo (calls_of self oracle table) before now
other_calls self oracle table before now none made = rw (ap is_some none) made

-- ---- plain values

-- a plain value of another row leaves the clock's
put_keeps_stored : (table table' : Table) (key : Key) (plain : Plain) (applied : Bool) → key ≢ clock_key → IsPut applied key plain table table' → stored_number table' ≡ stored_number table
put_keeps_stored table table' key plain true other done =
    ap (λ (rows : Rows). clock_number (rows clock_key).plain) done.1
    ∙ ap (λ (r : Row). clock_number r.plain) (put_other (row_at table) key (updated (row_at table key) (SetPlain plain)) clock_key (other_bytes clock_key key (λ e. other (sym e))))
put_keeps_stored table table' key plain false other done = ap stored_number done.1

pub put_keeps_clock : (oracle : Option Block) (table table' : Table) (start : ℕ) (task : Task) (key : Key) (plain : Plain) (applied : Bool) → task ≡ Put key plain → IsOfStart start task → IsPut applied key plain table table' →
    IsClock oracle table → IsClock oracle table'
put_keeps_clock oracle table table' start task key plain applied is other done clock = subst (IsClockAt oracle) (sym (put_keeps_stored table table' key plain applied (subst (IsOfStart start) is other) done)) clock

pub put_moves : (oracle : Option Block) (table table' : Table) (self : Progress) (start : ℕ) (answers : List Answer) (task : Task) (recovery : Option RecoveryProgress) (key : Key) (plain : Plain) (applied : Bool) →
    progress_as start answers task recovery ≡ self → task ≡ Put key plain → IsOfStart start task → IsPut applied key plain table table' →
    (moves : List Move) × AreStepMoves self.task moves × Makes moves (next_number oracle table) (row_at table) self.actor (next_number oracle table') (row_at table') (actor_of start answers (new_transaction []) recovery)
put_moves oracle table table' self start answers task recovery key plain applied view is other done = by applied done
  where
    same : actor_of start answers (new_transaction []) recovery ≡ self.actor
    same = ap (λ t. actor_of start answers (transaction_of t) recovery) (sym is) ∙ ap (λ (p : Progress). p.actor) view

    number : next_number oracle table' ≡ next_number oracle table
    number = ap (next_at oracle) (put_keeps_stored table table' key plain applied (subst (IsOfStart start) is other) done)

    by : (b : Bool) → IsPut b key plain table table' →
        (moves : List Move) × AreStepMoves self.task moves × Makes moves (next_number oracle table) (row_at table) self.actor (next_number oracle table') (row_at table') (actor_of start answers (new_transaction []) recovery)
    by true made = (WritePlain key plain ∷ [], inr (inr (ap (λ (p : Progress). p.task) (sym view) ∙ is), tt), (tt, (number, made.1, same)))
    by false left = ([], inr tt, (number, ap row_at left.1, same))

-- ---- what a step leaves of all others

pub carried_is_consistent : CarriedIsConsistent
carried_is_consistent old new oracle oracle' table table' others carries plain is =
    let moved = carries others plain is in
    moves_are_consistent moved.0 (next_number oracle table) (row_at table) old.actor (next_number oracle' table') (row_at table') new.actor others moved.2 is

pub carried_leaves_read : CarriedLeavesRead
carried_leaves_read old new oracle oracle' table table' others time answers carries plain is lower kept =
    let moved = carries others plain is in
    moves_leave_read moved.0 (next_number oracle table) (row_at table) old.actor (next_number oracle' table') (row_at table') new.actor others time answers moved.2 is lower kept
