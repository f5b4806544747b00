-- What stands under each choice of the transactions that may be committed next, and what each move leaves of it.
use Rattle.std.specs.Prelude.{◌≡◌, ◌≢◌, ℕ, Bool, true, List, ◌∷◌, Some, None}
use Rattle.std.specs.List.{slice_get}
use Rattle.pcj_table.specs.Table.{Key}
use Rattle.pcj_table.specs.declared.version.Version.{Version}
use Rattle.pcj_table.specs.declared.write.Write.{Write}
use Rattle.pcj_mvcc.specs.Acts.{commit_act}
use Rattle.pcj_mvcc.specs.Choices.{Choice, IsChoice, under}
use Rattle.pcj_mvcc.specs.Reading.{Rows, acted, allows, versions_read}
use Rattle.pcj_moves.specs.declared.answer.Answer.{Answer}
use Rattle.pcj_moves.specs.Actors.{Actor}
use Rattle.pcj_moves.specs.ChoiceLaws.{IsRipeAt}
use Rattle.pcj_moves.specs.Moves.{IsAllowed, IsConsistent, MayDraw, Move, actor_after, rows_after}
use Rattle.pcj_choices.specs.UnderChoice.{IsMaybeCommitted, StandsUnder, acts_on}

-- the rows under a choice are those of a state as any actors may leave it
abbrev pub ChoicesStand : Type 0
ChoicesStand = (number : ℕ) (rows : Rows) (actor : Actor) (others : List Actor) (choice : Choice) →
    IsConsistent (record { number = number; rows = rows; actors = actor ∷ others }) → IsChoice (IsRipeAt rows (actor ∷ others)) choice → StandsUnder number rows actor choice

-- what may act on a row may do so under each choice that leaves the row out, and acts there as it does here
abbrev pub ActsUnderChoice : Type 0
ActsUnderChoice = (number : ℕ) (rows : Rows) (actor mover : Actor) (choice : Choice) (move : Move) (key : Key) → acts_on move ≡ Some key → IsAllowed move number rows actor →
    choice key ≡ None → IsMaybeCommitted rows actor mover →
    IsAllowed move number (under choice rows) mover × (under choice (rows_after move actor rows) ≡ rows_after move mover (under choice rows))

-- after it whatever may be committed next could be so before, and has its primary elsewhere
abbrev pub ActsLeaveRipe : Type 0
ActsLeaveRipe = (number : ℕ) (rows : Rows) (actor : Actor) (others : List Actor) (move : Move) (key : Key) → acts_on move ≡ Some key → IsAllowed move number rows actor →
    IsConsistent (record { number = number; rows = rows; actors = actor ∷ others }) → (other : Key) (commit : ℕ) →
    IsRipeAt (rows_after move actor rows) (actor_after move rows actor ∷ others) other commit → IsRipeAt rows (actor ∷ others) other commit × (other ≢ key)

-- ---- a test of what is read

abbrev pub Test : Type 0
Test = (Key → List Version) → Bool

-- it is passed under each choice
abbrev pub PassesUnderEach : Test → Rows → List Actor → Type 0
PassesUnderEach test rows actors = (choice : Choice) → IsChoice (IsRipeAt rows actors) choice → test (versions_read (under choice rows)) ≡ true

-- The actor may draw this commit, which is above every number in the rows, and then commit this write's row, its
-- primary's.
pub record IsLast (number : ℕ) (rows : Rows) (actor : Actor) (others : List Actor) (write : Write) (commit : ℕ) : Type 0 where
  pub consistent : IsConsistent (record { number = number; rows = rows; actors = actor ∷ others })
  pub draws : MayDraw number actor commit
  pub first : slice_get actor.transaction.writes 0 ≡ Some write
  pub allowed : allows (commit_act write actor.start commit) (rows write.key) ≡ true

-- it is passed after the last commit of each actor of this start with these answers and writes, whoever the others are
abbrev pub PassesLast : Test → ℕ → List Answer → List Write → Type 0
PassesLast test start answers writes = (number : ℕ) (rows : Rows) (actor : Actor) (others : List Actor) (write : Write) (commit : ℕ) →
    actor.start ≡ start → actor.answers ≡ answers → actor.transaction.writes ≡ writes → IsLast number rows actor others write commit →
    test (versions_read rows) ≡ true → test (versions_read (acted rows write.key (commit_act write actor.start commit))) ≡ true

-- What is read under each choice passes the test after every move, if the last commit of the actor's own transaction does:
-- no other move has to be looked at, and never two transactions at once.
abbrev pub TestsStayPassed : Type 0
TestsStayPassed = (test : Test) (number : ℕ) (rows : Rows) (actor : Actor) (others : List Actor) (move : Move) → PassesLast test actor.start actor.answers actor.transaction.writes →
    IsAllowed move number rows actor →
    IsConsistent (record { number = number; rows = rows; actors = actor ∷ others }) → PassesUnderEach test rows (actor ∷ others) →
    PassesUnderEach test (rows_after move actor rows) (actor_after move rows actor ∷ others)
