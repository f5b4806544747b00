-- What an actor may do next beside others, and runs of such moves.
use Rattle.std.specs.Prelude.{◌≡◌, ◌≢◌, ◌<◌, ◌≤◌, ℕ, suc, Bool, true, false, not, ◌==◌, nat_lt, ◌&&◌, ◌||◌, List, [], ◌∷◌, ◌++◌, length, Some, None}
use Rattle.std.specs.List.{slice_get}
use Rattle.pcj_table.specs.Row.{updated}
use Rattle.pcj_table.specs.Table.{Key}
use Rattle.pcj_table.specs.declared.lock.Lock.{Lock}
use Rattle.pcj_table.specs.declared.plain.Plain.{Plain}
use Rattle.pcj_table.specs.declared.update.Update.TheVariants.{SetPlain}
use Rattle.pcj_table.specs.declared.write.Write.{Write}
use Rattle.pcj_mvcc.specs.Acts.{commit_act, prewrite_act, roll_back_act, roll_forward_act}
use Rattle.pcj_mvcc.specs.Reading.{OnePrimary, Rows, acted, allows, committed, put}
use Rattle.pcj_mvcc.specs.Times.{AllVersions, TimesInOrder}
use Rattle.pcj_moves.specs.declared.answer.Answer.{Answer}
use Rattle.pcj_moves.specs.Transactions.{are_distinct, as_committed, new_transaction, primary_of, with_commit, with_next}
use Rattle.pcj_moves.specs.Recoveries.{Recovery, new_recovery, told, with_known}
use Rattle.pcj_moves.specs.Reads.{IsRead}
use Rattle.pcj_moves.specs.Actors.{Actor, AreSound, Each, IsOlder, new_actor, with_answer, with_recovery, with_transaction}

-- ---- the moves of an actor

-- It gets its writes, prewrites the next of them, draws its commit, commits its primary's row, a further row, or
-- nothing at all; it reads rows; it meets a lock, reads the lock's primary, drops the primary's lock, rolls the row back
-- or forward, and is done with it; it writes a plain value.
pub data Move : Type 0 where
  Plan : (writes : List Write) → Move
  Prewrite : (write : Write) → Move
  Draw : (commit : ℕ) → Move
  CommitPrimary : (write : Write) (commit : ℕ) → Move
  CommitSecondary : (write : Write) (commit : ℕ) → Move
  CommitNothing : (commit : ℕ) → Move
  Read : (answer : Answer) → Move
  Meet : (key : Key) (lock : Lock) → Move
  Learn : (recovery : Recovery) → Move
  DropPrimary : (recovery : Recovery) → Move
  RollBack : (recovery : Recovery) → Move
  RollForward : (recovery : Recovery) (commit : ℕ) → Move
  EndRecovery : Move
  WritePlain : (key : Key) (plain : Plain) → Move

-- the rows after a move: those after its act, which was applied
abbrev pub rows_after : Move → Actor → Rows → Rows
rows_after (Plan writes) actor rows = rows
rows_after (Prewrite write) actor rows = acted rows write.key (prewrite_act write actor.start (primary_of actor.transaction))
rows_after (Draw commit) actor rows = rows
rows_after (CommitPrimary write commit) actor rows = acted rows write.key (commit_act write actor.start commit)
rows_after (CommitSecondary write commit) actor rows = acted rows write.key (commit_act write actor.start commit)
rows_after (CommitNothing commit) actor rows = rows
rows_after (Read answer) actor rows = rows
rows_after (Meet key lock) actor rows = rows
rows_after (Learn recovery) actor rows = rows
rows_after (DropPrimary recovery) actor rows = acted rows recovery.lock.primary (roll_back_act recovery.lock.start)
rows_after (RollBack recovery) actor rows = acted rows recovery.key (roll_back_act recovery.lock.start)
rows_after (RollForward recovery commit) actor rows = acted rows recovery.key (roll_forward_act recovery.lock commit)
rows_after EndRecovery actor rows = rows
rows_after (WritePlain key plain) actor rows = put rows key (updated (rows key) (SetPlain plain))

-- the actor after it
abbrev pub actor_after : Move → Rows → Actor → Actor
actor_after (Plan writes) rows actor = with_transaction actor (new_transaction writes)
actor_after (Prewrite write) rows actor = with_transaction actor (with_next actor.transaction)
actor_after (Draw commit) rows actor = with_transaction actor (with_commit actor.transaction commit)
actor_after (CommitPrimary write commit) rows actor = with_transaction actor (as_committed actor.transaction)
actor_after (CommitSecondary write commit) rows actor = actor
actor_after (CommitNothing commit) rows actor = with_transaction actor (as_committed actor.transaction)
actor_after (Read answer) rows actor = with_answer actor answer
actor_after (Meet key lock) rows actor = with_recovery actor (Some (new_recovery key lock))
actor_after (Learn recovery) rows actor = with_recovery actor (Some (with_known recovery (told recovery.lock.start (rows recovery.lock.primary))))
actor_after (DropPrimary recovery) rows actor = actor
actor_after (RollBack recovery) rows actor = actor
actor_after (RollForward recovery commit) rows actor = actor
actor_after EndRecovery rows actor = with_recovery actor None
actor_after (WritePlain key plain) rows actor = actor

-- the oracle's next number after it
abbrev pub number_after : Move → ℕ → ℕ
number_after (Draw commit) number = suc commit
number_after _ number = number

-- ---- the rules

pub record MayPrewrite (rows : Rows) (actor : Actor) (write : Write) : Type 0 where
  pub next : slice_get actor.transaction.writes actor.transaction.prewritten ≡ Some write
  pub undrawn : actor.transaction.commit ≡ None
  pub allowed : allows (prewrite_act write actor.start (primary_of actor.transaction)) (rows write.key) ≡ true

pub record MayDraw (number : ℕ) (actor : Actor) (commit : ℕ) : Type 0 where
  pub all : actor.transaction.prewritten ≡ length actor.transaction.writes
  pub undrawn : actor.transaction.commit ≡ None
  pub granted : number ≤ commit

pub record MayCommitPrimary (rows : Rows) (actor : Actor) (write : Write) (commit : ℕ) : Type 0 where
  pub first : slice_get actor.transaction.writes 0 ≡ Some write
  pub drawn : actor.transaction.commit ≡ Some commit
  pub undone : actor.transaction.committed ≡ false
  pub allowed : allows (commit_act write actor.start commit) (rows write.key) ≡ true

pub record MayCommitSecondary (rows : Rows) (actor : Actor) (write : Write) (commit : ℕ) : Type 0 where
  pub place : ℕ
  pub written : slice_get actor.transaction.writes place ≡ Some write
  pub drawn : actor.transaction.commit ≡ Some commit
  pub done : actor.transaction.committed ≡ true
  pub allowed : allows (commit_act write actor.start commit) (rows write.key) ≡ true

pub record MayCommitNothing (actor : Actor) (commit : ℕ) : Type 0 where
  pub nothing : actor.transaction.writes ≡ []
  pub drawn : actor.transaction.commit ≡ Some commit
  pub undone : actor.transaction.committed ≡ false

-- a lock of another start stands there
pub record MayMeet (rows : Rows) (actor : Actor) (key : Key) (lock : Lock) : Type 0 where
  pub stands : (rows key).lock ≡ Some lock
  pub other : lock.start ≢ actor.start

-- Whether an actor may make a move. It drops a primary's lock without any condition but that it stands, and rolls
-- another row back or forward by what it knows of the primary.
abbrev pub IsAllowed : Move → ℕ → Rows → Actor → Type 0
IsAllowed (Plan writes) number rows actor = (actor.transaction ≡ new_transaction []) × (are_distinct writes ≡ true)
IsAllowed (Prewrite write) number rows actor = MayPrewrite rows actor write
IsAllowed (Draw commit) number rows actor = MayDraw number actor commit
IsAllowed (CommitPrimary write commit) number rows actor = MayCommitPrimary rows actor write commit
IsAllowed (CommitSecondary write commit) number rows actor = MayCommitSecondary rows actor write commit
IsAllowed (CommitNothing commit) number rows actor = MayCommitNothing actor commit
IsAllowed (Read answer) number rows actor = IsRead rows actor.start answer
IsAllowed (Meet key lock) number rows actor = MayMeet rows actor key lock
IsAllowed (Learn recovery) number rows actor = (actor.recovery ≡ Some recovery) × (recovery.key ≢ recovery.lock.primary)
IsAllowed (DropPrimary recovery) number rows actor = (actor.recovery ≡ Some recovery) × (allows (roll_back_act recovery.lock.start) (rows recovery.lock.primary) ≡ true)
IsAllowed (RollBack recovery) number rows actor =
    (actor.recovery ≡ Some recovery) × (recovery.known ≡ Some None) × (allows (roll_back_act recovery.lock.start) (rows recovery.key) ≡ true)
IsAllowed (RollForward recovery commit) number rows actor =
    (actor.recovery ≡ Some recovery) × (recovery.known ≡ Some (Some commit)) × (allows (roll_forward_act recovery.lock commit) (rows recovery.key) ≡ true)
IsAllowed EndRecovery number rows actor = Unit {0}
IsAllowed (WritePlain key plain) number rows actor = Unit {0}

-- moves of one actor, one after the other, with what they make of the oracle's next number, the rows and the actor
abbrev pub Makes : List Move → ℕ → Rows → Actor → ℕ → Rows → Actor → Type 0
Makes [] number rows actor number' rows' actor' = (number' ≡ number) × (rows' ≡ rows) × (actor' ≡ actor)
Makes (move ∷ moves) number rows actor number' rows' actor' =
    IsAllowed move number rows actor × Makes moves (number_after move number) (rows_after move actor rows) (actor_after move rows actor) number' rows' actor'

-- ---- runs

-- the oracle's next number, the rows of the table, and the actors
pub record State : Type 0 where
  pub number : ℕ
  pub rows : Rows
  pub actors : List Actor

-- One of the actors makes a move, one begins with a number that the oracle grants, or one ends, wherever it is; or some
-- numbers are lost with an oracle.
pub data Step : Type 0 where
  Moves : (front : List Actor) (actor : Actor) (back : List Actor) (move : Move) → Step
  Begins : (start : ℕ) → Step
  Ends : (front : List Actor) (actor : Actor) (back : List Actor) → Step
  Loses : (number : ℕ) → Step

abbrev pub after_move : State → List Actor → Actor → List Actor → Move → State
after_move state front actor back move = record {
  number = number_after move state.number;
  rows = rows_after move actor state.rows;
  actors = front ++ (actor_after move state.rows actor ∷ back);
}

abbrev pub Happens : State → Step → State → Type 0
Happens before (Moves front actor back move) after =
    (before.actors ≡ front ++ (actor ∷ back)) × IsAllowed move before.number before.rows actor × (after ≡ after_move before front actor back move)
Happens before (Begins start) after =
    (before.number ≤ start) × (after ≡ record { number = suc start; rows = before.rows; actors = new_actor start ∷ before.actors })
Happens before (Ends front actor back) after =
    (before.actors ≡ front ++ (actor ∷ back)) × (after ≡ record { number = before.number; rows = before.rows; actors = front ++ back })
Happens before (Loses number) after = (before.number ≤ number) × (after ≡ record { number = number; rows = before.rows; actors = before.actors })

-- steps of any actors, one after the other
abbrev pub Runs : State → List Step → State → Type 0
Runs before [] after = after ≡ before
Runs before (step ∷ steps) after = (between : State) × Happens before step between × Runs between steps after

-- ---- what holds wherever a run was stopped

-- All locks of one start name one primary.
abbrev pub LocksNameOne : Rows → Type 0
LocksNameOne rows = (key : Key) (lock : Lock) → (rows key).lock ≡ Some lock → OnePrimary rows lock.primary lock.start

abbrev pub is_once : ℕ → ℕ → ℕ → ℕ → Bool
is_once start commit first last = not (first == start) || last == commit

-- All versions of one start have one commit, that of the first of them in any row.
abbrev pub StartsCommitOnce : Rows → Type 0
StartsCommitOnce rows = (key : Key) (start commit : ℕ) → committed rows key start ≡ Some commit → AllVersions (λ version. is_once start commit version.start version.commit) rows

-- each start and commit in the rows is below a number
pub record AreBelow (number : ℕ) (rows : Rows) : Type 0 where
  pub versions : AllVersions (λ version. nat_lt version.commit number) rows
  pub locks : (key : Key) (lock : Lock) → (rows key).lock ≡ Some lock → lock.start < number

-- a version of this commit is of this start, and none has the commit for its start
abbrev pub is_own : ℕ → ℕ → ℕ → ℕ → Bool
is_own start commit first last = not (first == commit) && (not (last == commit) || first == start)

-- The actor's start and its drawn commit occur in the rows only as its own: the start is no commit, and the commit is no
-- start and of no other start.
pub record NumbersAreOwn (rows : Rows) (actor : Actor) : Type 0 where
  pub start : AllVersions (λ version. not (version.commit == actor.start)) rows
  pub commit : (commit : ℕ) → actor.transaction.commit ≡ Some commit → AllVersions (λ version. is_own actor.start commit version.start version.commit) rows
  pub locks : (commit : ℕ) → actor.transaction.commit ≡ Some commit → (key : Key) (lock : Lock) → (rows key).lock ≡ Some lock → lock.start ≢ commit

pub record IsConsistent (state : State) : Type 0 where
  pub times : TimesInOrder state.rows
  pub named : LocksNameOne state.rows
  pub once : StartsCommitOnce state.rows
  pub below : AreBelow state.number state.rows
  pub sound : AreSound state.rows state.actors
  pub older : Each (IsOlder state.number) state.actors
  pub own : Each (NumbersAreOwn state.rows) state.actors
