-- Actors beside one another: what each holds, and what rows have to say of it.
use Rattle.std.specs.Prelude.{◌≡◌, ◌≢◌, ◌<◌, ℕ, List, [], ◌∷◌, ◌++◌, Option, Some, None, IfSome}
use Rattle.pcj_mvcc.specs.Reading.{Rows}
use Rattle.pcj_moves.specs.Traces.{traces}
use Rattle.pcj_moves.specs.declared.answer.Answer.{Answer}
use Rattle.pcj_moves.specs.Transactions.{Transaction, Transacts, new_transaction}
use Rattle.pcj_moves.specs.Recoveries.{IsOfWrite, Recovers, Recovery}
use Rattle.pcj_moves.specs.Reads.{IsHidden, Reads}

-- Its start, what it has read then, its transaction, and the recovery of a lock that it met. One that only reads has a
-- transaction without writes.
pub record Actor : Type 0 where
  pub start : ℕ
  pub answers : List Answer
  pub transaction : Transaction
  pub recovery : Option Recovery

-- ---- one actor, and two

pub record IsSound (rows : Rows) (actor : Actor) : Type 0 where
  pub reads : Reads rows actor.start actor.answers
  pub transacts : Transacts actor.start actor.transaction (traces actor.start rows)
  pub recovers : IfSome actor.recovery (λ recovery. Recovers recovery (traces recovery.lock.start rows) × (recovery.lock.start ≢ actor.start))

-- the numbers of two actors differ
pub record AreApart (actor other : Actor) : Type 0 where
  pub starts : actor.start ≢ other.start
  pub commits : (commit : ℕ) → actor.transaction.commit ≡ Some commit → (commit ≢ other.start) × (other.transaction.commit ≢ Some commit)

pub record ArePair (rows : Rows) (actor other : Actor) : Type 0 where
  pub apart : AreApart actor other
  pub hidden : IsHidden actor.start actor.transaction (traces actor.start rows) other.start other.answers
  pub recovers : IsOfWrite actor.start actor.transaction other.recovery

-- ---- all actors

abbrev pub Each : (Actor → Type 0) → List Actor → Type 0
Each P [] = Unit {0}
Each P (actor ∷ actors) = P actor × Each P actors

abbrev pub ArePaired : Rows → Actor → List Actor → Type 0
ArePaired rows actor others = Each (λ other. ArePair rows actor other × ArePair rows other actor) others

abbrev pub AreSound : Rows → List Actor → Type 0
AreSound rows [] = Unit {0}
AreSound rows (actor ∷ actors) = IsSound rows actor × ArePaired rows actor actors × AreSound rows actors

-- ---- how an actor goes on

-- it has its start, and nothing else yet
abbrev pub new_actor : ℕ → Actor
new_actor start = record { start = start; answers = []; transaction = new_transaction []; recovery = None }

abbrev pub with_transaction : Actor → Transaction → Actor
with_transaction actor transaction = record { start = actor.start; answers = actor.answers; transaction = transaction; recovery = actor.recovery }

abbrev pub with_answer : Actor → Answer → Actor
with_answer actor answer = record { start = actor.start; answers = actor.answers ++ (answer ∷ []); transaction = actor.transaction; recovery = actor.recovery }

abbrev pub with_recovery : Actor → Option Recovery → Actor
with_recovery actor recovery = record { start = actor.start; answers = actor.answers; transaction = actor.transaction; recovery = recovery }

-- the actor's numbers are below this one
pub record IsBelow (number : ℕ) (actor : Actor) : Type 0 where
  pub start : actor.start < number
  pub commit : (commit : ℕ) → actor.transaction.commit ≡ Some commit → commit < number

-- and so is that of the transaction whose lock it is to take away
pub record IsOlder (start : ℕ) (actor : Actor) : Type 0 where
  pub below : IsBelow start actor
  pub recovers : IfSome actor.recovery (λ recovery. recovery.lock.start < start)
