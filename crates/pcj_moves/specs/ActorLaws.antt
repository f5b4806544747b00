-- What an act leaves of other actors, and makes of its own.
use Rattle.std.specs.Prelude.{◌≡◌, ◌≢◌, ◌⊎◌, ◌<◌, ◌≤◌, ℕ, true, false, List, [], length, Some, None}
use Rattle.std.specs.Option.{option_map}
use Rattle.pcj_table.specs.Table.{Key}
use Rattle.pcj_table.specs.declared.lock.Lock.{Lock}
use Rattle.pcj_table.specs.declared.write.Write.{Write}
use Rattle.pcj_mvcc.specs.Acts.{lock_of, version_of}
use Rattle.pcj_mvcc.specs.Laws.{StandsAtOnce}
use Rattle.pcj_mvcc.specs.Reading.{OnePrimary, Rows, SameReading, lock_up_to}
use Rattle.pcj_moves.specs.Traces.{Trace, Traces, lock_trace, no_trace, place, traces, version_trace}
use Rattle.pcj_moves.specs.declared.answer.Answer.{Answer}
use Rattle.pcj_moves.specs.Transactions.{IsNext, IsRipe, Transaction, Transacts, as_committed, lock_at, primary_of, with_commit, with_next, write_at}
use Rattle.pcj_moves.specs.Recoveries.{Recovers, Recovery}
use Rattle.pcj_moves.specs.Reads.{IsHidden, Reads}
use Rattle.pcj_moves.specs.TraceLaws.{ChangesTrace}

-- ---- an actor of another start

abbrev pub TransactsStays : Type 0
TransactsStays = (start : ℕ) (key : Key) (new : Trace) (before after : Rows) → ChangesTrace start key new before after →
    (other : ℕ) (transaction : Transaction) → other ≢ start → Transacts other transaction (traces other before) → Transacts other transaction (traces other after)

abbrev pub RecoversStays : Type 0
RecoversStays = (start : ℕ) (key : Key) (new : Trace) (before after : Rows) → ChangesTrace start key new before after →
    (recovery : Recovery) → recovery.lock.start ≢ start → Recovers recovery (traces recovery.lock.start before) → Recovers recovery (traces recovery.lock.start after)

abbrev pub HiddenStays : Type 0
HiddenStays = (start : ℕ) (key : Key) (new : Trace) (before after : Rows) → ChangesTrace start key new before after →
    (other : ℕ) (transaction : Transaction) (reader : ℕ) (answers : List Answer) → other ≢ start →
    IsHidden other transaction (traces other before) reader answers → IsHidden other transaction (traces other after) reader answers

-- what was read, under any act but a primary's commit
abbrev pub ReadsStay : Type 0
ReadsStay = (before after : Rows) (reader : ℕ) (answers : List Answer) → SameReading before after → Reads before reader answers → Reads after reader answers

-- and under that of a transaction that is hidden from the reader
abbrev pub ReadsPassCommit : Type 0
ReadsPassCommit = (start commit : ℕ) (transaction : Transaction) (before after : Rows) (reader : ℕ) (answers : List Answer) →
    Transacts start transaction (traces start before) → IsRipe start transaction (traces start before) commit → IsHidden start transaction (traces start before) reader answers →
    StandsAtOnce start commit before after → Reads before reader answers → Reads after reader answers

-- ---- the transaction of this start

abbrev pub PrewriteGoesOn : Type 0
PrewriteGoesOn = (start : ℕ) (transaction : Transaction) (at : Traces) (write : Write) → Transacts start transaction at → IsNext transaction write →
    Transacts start (with_next transaction) (place at write.key (lock_trace (Some (lock_of write start (primary_of transaction)))))

abbrev pub DrawGoesOn : Type 0
DrawGoesOn = (start : ℕ) (transaction : Transaction) (at : Traces) (commit : ℕ) → Transacts start transaction at → transaction.prewritten ≡ length transaction.writes → transaction.committed ≡ false → start < commit →
    Transacts start (with_commit transaction commit) at

abbrev pub PrimaryGoesOn : Type 0
PrimaryGoesOn = (start : ℕ) (transaction : Transaction) (at : Traces) (lock : Lock) (commit : ℕ) → Transacts start transaction at → transaction.committed ≡ false → transaction.commit ≡ Some commit →
    at (primary_of transaction) ≡ lock_trace (Some lock) →
    Transacts start (as_committed transaction) (place at (primary_of transaction) (version_trace (Some (version_of lock commit))))

-- a further row's commit, or its roll forward
abbrev pub SecondaryGoesOn : Type 0
SecondaryGoesOn = (start : ℕ) (transaction : Transaction) (at : Traces) (key : Key) (lock : Lock) (commit : ℕ) → Transacts start transaction at → transaction.committed ≡ true → transaction.commit ≡ Some commit →
    at key ≡ lock_trace (Some lock) → Transacts start transaction (place at key (version_trace (Some (version_of lock commit))))

-- a roll back, of the primary or of a row whose primary has nothing
abbrev pub RollBackGoesOn : Type 0
RollBackGoesOn = (start : ℕ) (transaction : Transaction) (at : Traces) (key : Key) (lock : Lock) → Transacts start transaction at →
    at key ≡ lock_trace (Some lock) → (key ≡ primary_of transaction) ⊎ (at (primary_of transaction) ≡ no_trace) → Transacts start transaction (place at key no_trace)

-- ---- recoveries of this start

-- a lock of the transaction is that of its write
abbrev pub LockIsOfWrite : Type 0
LockIsOfWrite = (start : ℕ) (transaction : Transaction) (at : Traces) (key : Key) (lock : Lock) → Transacts start transaction at → (at key).lock ≡ Some lock → lock_at start transaction key ≡ Some lock

-- a lock that stands on a row that it hasn't prewritten is another's
abbrev pub MetIsOther : Type 0
MetIsOther = (rows : Rows) (start : ℕ) (transaction : Transaction) (key : Key) (lock : Lock) → Transacts start transaction (traces start rows) → lock_at start transaction key ≡ None →
    (rows key).lock ≡ Some lock → lock.start ≢ start

-- as on the row of its next write, and on every row where it writes nothing
abbrev pub NextIsFree : Type 0
NextIsFree = (start : ℕ) (transaction : Transaction) (write : Write) → IsNext transaction write → lock_at start transaction write.key ≡ None

abbrev pub NothingIsFree : Type 0
NothingIsFree = (start : ℕ) (transaction : Transaction) (key : Key) → transaction.writes ≡ [] → lock_at start transaction key ≡ None

-- so all its locks name its primary
abbrev pub LocksNamePrimary : Type 0
LocksNamePrimary = (rows : Rows) (start : ℕ) (transaction : Transaction) → Transacts start transaction (traces start rows) → OnePrimary rows (primary_of transaction) start

-- where a lock is taken away
abbrev pub RecoversUnlock : Type 0
RecoversUnlock = (recovery : Recovery) (at : Traces) (key : Key) (lock : Lock) (new : Trace) → Recovers recovery at → at key ≡ lock_trace (Some lock) → new.lock ≡ None →
    Recovers recovery (place at key new)

-- where the transaction goes on
abbrev pub RecoversPrewrite : Type 0
RecoversPrewrite = (start : ℕ) (transaction : Transaction) (at : Traces) (write : Write) (recovery : Recovery) → IsNext transaction write →
    lock_at start transaction recovery.key ≡ Some recovery.lock → Recovers recovery at →
    Recovers recovery (place at write.key (lock_trace (Some (lock_of write start (primary_of transaction)))))

-- ---- what is hidden

abbrev pub HiddenUnlock : Type 0
HiddenUnlock = (start : ℕ) (transaction : Transaction) (at : Traces) (key : Key) (new : Trace) (reader : ℕ) (answers : List Answer) → new.lock ≡ None →
    IsHidden start transaction at reader answers → IsHidden start transaction (place at key new) reader answers

-- a read that meets no lock of its time
abbrev pub HiddenRead : Type 0
HiddenRead = (rows : Rows) (start : ℕ) (transaction : Transaction) (reader commit : ℕ) (key : Key) → Transacts start transaction (traces start rows) →
    IsRipe start transaction (traces start rows) commit → commit ≤ reader → lock_up_to reader (rows key).lock ≡ None → write_at transaction.writes key ≡ None

-- a transaction that hasn't drawn its commit, that draws one above the reader's start, or that is committed
abbrev pub HiddenUndrawn : Type 0
HiddenUndrawn = (start : ℕ) (transaction : Transaction) (at : Traces) (reader : ℕ) (answers : List Answer) → transaction.commit ≡ None → IsHidden start transaction at reader answers

abbrev pub HiddenDrawn : Type 0
HiddenDrawn = (start : ℕ) (transaction : Transaction) (at : Traces) (reader : ℕ) (answers : List Answer) (commit : ℕ) → reader < commit → IsHidden start (with_commit transaction commit) at reader answers

abbrev pub HiddenCommitted : Type 0
HiddenCommitted = (start : ℕ) (transaction : Transaction) (at : Traces) (reader : ℕ) (answers : List Answer) → transaction.committed ≡ true → IsHidden start transaction at reader answers

-- a recovery of a prewritten row's lock stays one
abbrev pub OfWriteNext : Type 0
OfWriteNext = (start : ℕ) (transaction : Transaction) (write : Write) (key : Key) (lock : Lock) → IsNext transaction write → lock_at start transaction key ≡ Some lock → lock_at start (with_next transaction) key ≡ Some lock

-- a secondary's commit or its roll forward, by what the primary has
abbrev pub RollForwardGoesOn : Type 0
RollForwardGoesOn = (start : ℕ) (transaction : Transaction) (at : Traces) (key : Key) (lock : Lock) (commit : ℕ) → Transacts start transaction at →
    option_map (λ version. version.commit) (at (primary_of transaction)).version ≡ Some commit →
    at key ≡ lock_trace (Some lock) → Transacts start transaction (place at key (version_trace (Some (version_of lock commit))))
