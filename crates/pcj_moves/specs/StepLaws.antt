-- A step of one actor, with any others.
use Rattle.std.specs.Prelude.{◌≡◌, ◌≢◌, ◌⊎◌, ℕ, true, false, List, [], ◌∷◌, length, Option, Some, None, IfSome}
use Rattle.pcj_table.specs.Table.{Key}
use Rattle.pcj_table.specs.declared.lock.Lock.{Lock}
use Rattle.pcj_table.specs.declared.write.Write.{Write}
use Rattle.pcj_mvcc.specs.Acts.{commit_act, prewrite_act, roll_back_act, roll_forward_act}
use Rattle.pcj_mvcc.specs.Reading.{OnePrimary, OnlyLock, Rows, SameReading, acted, allows, committed}
use Rattle.pcj_mvcc.specs.Times.{TimesInOrder}
use Rattle.pcj_moves.specs.Traces.{Trace, lock_trace, no_trace, place, traces}
use Rattle.pcj_moves.specs.declared.answer.Answer.{Answer}
use Rattle.pcj_moves.specs.Transactions.{IsNext, Transaction, Transacts, are_distinct, as_committed, new_transaction, primary_of, with_commit, with_next, write_at}
use Rattle.pcj_moves.specs.Recoveries.{Recovers, Recovery, new_recovery, told, with_known}
use Rattle.pcj_moves.specs.Reads.{IsRead}
use Rattle.pcj_moves.specs.Actors.{Actor, AreSound, Each, IsBelow, IsOlder, new_actor, with_answer, with_recovery, with_transaction}
use Rattle.pcj_moves.specs.TraceLaws.{ChangesTrace, Stays}

-- ---- a step with any other actors

-- A lock is taken away, and no reading changes: a roll back, a roll forward, or the commit of a row that isn't the primary's.
pub record Unlocks (start : ℕ) (before after : Rows) : Type 0 where
  pub key : Key
  pub lock : Lock
  pub new : Trace
  pub changes : ChangesTrace start key new before after
  pub was : traces start before key ≡ lock_trace (Some lock)
  pub free : new.lock ≡ None
  pub empty : (after key).lock ≡ None
  pub same : SameReading before after
  pub goes : (transaction : Transaction) → Transacts start transaction (traces start before) → Transacts start transaction (place (traces start before) key new)

abbrev pub RollBackUnlocks : Type 0
RollBackUnlocks = (rows : Rows) (key : Key) (start : ℕ) (primary : Key) → TimesInOrder rows → allows (roll_back_act start) (rows key) ≡ true → OnePrimary rows primary start →
    (key ≡ primary) ⊎ (traces start rows primary ≡ no_trace) → Unlocks start rows (acted rows key (roll_back_act start))

-- also of a commit: `commit_act write start commit` is `roll_forward_act (lock_of write start primary) commit`
abbrev pub RollForwardUnlocks : Type 0
RollForwardUnlocks = (rows : Rows) (key : Key) (lock : Lock) (commit : ℕ) → TimesInOrder rows → allows (roll_forward_act lock commit) (rows key) ≡ true →
    OnlyLock rows key lock → OnePrimary rows lock.primary lock.start → key ≢ lock.primary → committed rows lock.primary lock.start ≡ Some commit →
    Unlocks lock.start rows (acted rows key (roll_forward_act lock commit))

-- a committed transaction's commit of a further row that it writes
abbrev pub SecondaryUnlocks : Type 0
SecondaryUnlocks = (rows : Rows) (start : ℕ) (transaction : Transaction) (write : Write) (commit : ℕ) → TimesInOrder rows → Transacts start transaction (traces start rows) →
    transaction.committed ≡ true → transaction.commit ≡ Some commit → write_at transaction.writes write.key ≡ Some write → allows (commit_act write start commit) (rows write.key) ≡ true →
    Unlocks start rows (acted rows write.key (commit_act write start commit))

-- ---- steps that change a row

abbrev pub UnlockStep : Type 0
UnlockStep = (start : ℕ) (before after : Rows) (actors : List Actor) → Unlocks start before after → AreSound before actors → AreSound after actors

abbrev pub PrewriteStep : Type 0
PrewriteStep = (rows : Rows) (actor : Actor) (others : List Actor) (write : Write) → TimesInOrder rows → IsNext actor.transaction write →
    allows (prewrite_act write actor.start (primary_of actor.transaction)) (rows write.key) ≡ true → AreSound rows (actor ∷ others) →
    AreSound (acted rows write.key (prewrite_act write actor.start (primary_of actor.transaction))) (with_transaction actor (with_next actor.transaction) ∷ others)

abbrev pub PrimaryStep : Type 0
PrimaryStep = (rows : Rows) (actor : Actor) (others : List Actor) (write : Write) (writes : List Write) (commit : ℕ) → TimesInOrder rows →
    actor.transaction.writes ≡ write ∷ writes → actor.transaction.commit ≡ Some commit → actor.transaction.committed ≡ false →
    allows (commit_act write actor.start commit) (rows write.key) ≡ true → AreSound rows (actor ∷ others) →
    AreSound (acted rows write.key (commit_act write actor.start commit)) (with_transaction actor (as_committed actor.transaction) ∷ others)

-- where nothing is written the commit needs no act
abbrev pub EmptyStep : Type 0
EmptyStep = (rows : Rows) (actor : Actor) (others : List Actor) (commit : ℕ) → actor.transaction.writes ≡ [] → actor.transaction.commit ≡ Some commit → actor.transaction.committed ≡ false →
    AreSound rows (actor ∷ others) → AreSound rows (with_transaction actor (as_committed actor.transaction) ∷ others)

-- ---- the steps of a recovery

-- the roll back of its row, where the primary has nothing
abbrev pub RecoveryRollsBack : Type 0
RecoveryRollsBack = (rows : Rows) (recovery : Recovery) → TimesInOrder rows → Recovers recovery (traces recovery.lock.start rows) → recovery.known ≡ Some None →
    allows (roll_back_act recovery.lock.start) (rows recovery.key) ≡ true → Unlocks recovery.lock.start rows (acted rows recovery.key (roll_back_act recovery.lock.start))

-- the drop of the primary's lock, which may be that of its own row
abbrev pub RecoveryDropsPrimary : Type 0
RecoveryDropsPrimary = (rows : Rows) (recovery : Recovery) → TimesInOrder rows → Recovers recovery (traces recovery.lock.start rows) →
    allows (roll_back_act recovery.lock.start) (rows recovery.lock.primary) ≡ true →
    Unlocks recovery.lock.start rows (acted rows recovery.lock.primary (roll_back_act recovery.lock.start))

abbrev pub RecoveryRollsForward : Type 0
RecoveryRollsForward = (rows : Rows) (recovery : Recovery) (commit : ℕ) → TimesInOrder rows → Recovers recovery (traces recovery.lock.start rows) → recovery.known ≡ Some (Some commit) →
    allows (roll_forward_act recovery.lock commit) (rows recovery.key) ≡ true → Unlocks recovery.lock.start rows (acted rows recovery.key (roll_forward_act recovery.lock commit))

-- and which tells that its transaction is never committed
abbrev pub DropTells : Type 0
DropTells = (rows : Rows) (key : Key) (start : ℕ) → TimesInOrder rows → allows (roll_back_act start) (rows key) ≡ true → told start (acted rows key (roll_back_act start) key) ≡ Some None

-- ---- steps that change no row of a transaction

abbrev pub StayStep : Type 0
StayStep = (before after : Rows) (actors : List Actor) → Stays before after → AreSound before actors → AreSound after actors

abbrev pub DrawStep : Type 0
DrawStep = (rows : Rows) (actor : Actor) (others : List Actor) (commit : ℕ) → actor.transaction.prewritten ≡ length actor.transaction.writes → actor.transaction.committed ≡ false →
    Each (IsBelow commit) (actor ∷ others) → AreSound rows (actor ∷ others) → AreSound rows (with_transaction actor (with_commit actor.transaction commit) ∷ others)

abbrev pub AnswerStep : Type 0
AnswerStep = (rows : Rows) (actor : Actor) (others : List Actor) (answer : Answer) → IsRead rows actor.start answer → AreSound rows (actor ∷ others) → AreSound rows (with_answer actor answer ∷ others)

-- An actor may have this recovery: what is said of it holds, it is of another's start, and its lock stands or is that of
-- the recovery that it had.
pub record MayRecover (rows : Rows) (actor : Actor) (recovery : Recovery) : Type 0 where
  pub recovers : Recovers recovery (traces recovery.lock.start rows)
  pub other : recovery.lock.start ≢ actor.start
  pub known : ((rows recovery.key).lock ≡ Some recovery.lock) ⊎ ((old : Recovery) × (actor.recovery ≡ Some old) × (old.key ≡ recovery.key) × (old.lock ≡ recovery.lock))

abbrev pub RecoveryStep : Type 0
RecoveryStep = (rows : Rows) (actor : Actor) (others : List Actor) (recovery : Option Recovery) → IfSome recovery (MayRecover rows actor) →
    AreSound rows (actor ∷ others) → AreSound rows (with_recovery actor recovery ∷ others)

-- a recovery that begins at a lock that was met
abbrev pub RecoveryBegins : Type 0
RecoveryBegins = (rows : Rows) (key : Key) (lock : Lock) → (rows key).lock ≡ Some lock → OnePrimary rows lock.primary lock.start →
    Recovers (new_recovery key lock) (traces lock.start rows)

-- and that then reads its primary
abbrev pub RecoveryLearns : Type 0
RecoveryLearns = (rows : Rows) (recovery : Recovery) → recovery.key ≢ recovery.lock.primary → Recovers recovery (traces recovery.lock.start rows) →
    Recovers (with_known recovery (told recovery.lock.start (rows recovery.lock.primary))) (traces recovery.lock.start rows)

abbrev pub BeginStep : Type 0
BeginStep = (rows : Rows) (start : ℕ) (others : List Actor) → ((key : Key) → traces start rows key ≡ no_trace) → Each (IsOlder start) others →
    AreSound rows others → AreSound rows (new_actor start ∷ others)

abbrev pub WritesStep : Type 0
WritesStep = (rows : Rows) (actor : Actor) (others : List Actor) (writes : List Write) → actor.transaction ≡ new_transaction [] → are_distinct writes ≡ true →
    AreSound rows (actor ∷ others) → AreSound rows (with_transaction actor (new_transaction writes) ∷ others)
