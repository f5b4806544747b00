-- What may be committed next, and what is read whichever of it is.
use Rattle.std.specs.Prelude.{◌≡◌, ◌≢◌, ◌⊎◌, ℕ, Bool, true, List, ◌∷◌, Some, None}
use Rattle.std.specs.List.{Contains}
use Rattle.pcj_table.specs.Table.{Key}
use Rattle.pcj_table.specs.declared.lock.Lock.{Lock}
use Rattle.pcj_table.specs.declared.write.Write.{Write}
use Rattle.pcj_mvcc.specs.Acts.{commit_act, prewrite_act, roll_forward_act}
use Rattle.pcj_mvcc.specs.Choices.{Choice, IsChoice, under}
use Rattle.pcj_mvcc.specs.Reading.{Rows, acted, allows, committed}
use Rattle.pcj_mvcc.specs.Times.{AllVersions, TimesInOrder}
use Rattle.pcj_moves.specs.Traces.{traces}
use Rattle.pcj_moves.specs.declared.answer.Answer.{Answer}
use Rattle.pcj_moves.specs.Transactions.{IsNext, IsRipe, as_committed, primary_of, with_commit, with_next}
use Rattle.pcj_moves.specs.Reads.{IsHidden, Reads}
use Rattle.pcj_moves.specs.Actors.{Actor, AreSound, Each, with_transaction}
use Rattle.pcj_moves.specs.StepLaws.{Unlocks}

-- ---- the transactions that may be committed next

-- a ripe transaction of one of these actors has its primary here
abbrev pub IsRipeAt : Rows → List Actor → Key → ℕ → Type 0
IsRipeAt rows actors key commit = (actor : Actor) × Contains actors actor × (primary_of actor.transaction ≡ key) × IsRipe actor.start actor.transaction (traces actor.start rows) commit

-- where a lock is taken away, whatever is ripe then was so before, at other keys
abbrev pub UnlockRipe : Type 0
UnlockRipe = (start : ℕ) (before after : Rows) (actors : List Actor) (unlocks : Unlocks start before after) (key : Key) (commit : ℕ) →
    IsRipeAt after actors key commit → IsRipeAt before actors key commit × (key ≢ unlocks.key)

-- after a prewrite, or a primary's commit, whatever is ripe was so before, at other keys
abbrev pub PrewriteRipe : Type 0
PrewriteRipe = (rows : Rows) (actor : Actor) (others : List Actor) (write : Write) → TimesInOrder rows → IsNext actor.transaction write →
    allows (prewrite_act write actor.start (primary_of actor.transaction)) (rows write.key) ≡ true → AreSound rows (actor ∷ others) → (key : Key) (commit : ℕ) →
    IsRipeAt (acted rows write.key (prewrite_act write actor.start (primary_of actor.transaction))) (with_transaction actor (with_next actor.transaction) ∷ others) key commit →
    IsRipeAt rows (actor ∷ others) key commit × (key ≢ write.key)

abbrev pub PrimaryRipe : Type 0
PrimaryRipe = (rows : Rows) (actor : Actor) (others : List Actor) (write : Write) (commit : ℕ) → TimesInOrder rows →
    allows (commit_act write actor.start commit) (rows write.key) ≡ true → AreSound rows (actor ∷ others) → (key : Key) (other : ℕ) →
    IsRipeAt (acted rows write.key (commit_act write actor.start commit)) (with_transaction actor (as_committed actor.transaction) ∷ others) key other →
    IsRipeAt rows (actor ∷ others) key other × (key ≢ write.key)

-- ---- the numbers of versions

-- what is said of the numbers of each version stays under a roll forward, since they are those of the primary's version
abbrev pub NumbersStay : Type 0
NumbersStay = (test : ℕ → ℕ → Bool) (rows : Rows) (key : Key) (lock : Lock) (commit : ℕ) → committed rows lock.primary lock.start ≡ Some commit →
    AllVersions (λ version. test version.start version.commit) rows → AllVersions (λ version. test version.start version.commit) (acted rows key (roll_forward_act lock commit))

-- after a draw what is ripe was so before, or is this transaction with its commit, whose primary no other has
pub record RipeByDraw (rows : Rows) (actor : Actor) (others : List Actor) (commit : ℕ) : Type 0 where
  pub more : (key : Key) (other : ℕ) → IsRipeAt rows (with_transaction actor (with_commit actor.transaction commit) ∷ others) key other →
      IsRipeAt rows (actor ∷ others) key other ⊎ ((key ≡ primary_of actor.transaction) × (other ≡ commit))
  pub none : (other : ℕ) → IsRipeAt rows (actor ∷ others) (primary_of actor.transaction) other → ⊥

abbrev pub DrawRipe : Type 0
DrawRipe = (rows : Rows) (actor : Actor) (others : List Actor) (commit : ℕ) (lock : Lock) → TimesInOrder rows → actor.transaction.commit ≡ None →
    (rows (primary_of actor.transaction)).lock ≡ Some lock → lock.start ≡ actor.start → AreSound rows (actor ∷ others) → RipeByDraw rows actor others commit

-- what was read is so under each choice of transactions that are hidden from the reader
abbrev pub ReadsUnderChoice : Type 0
ReadsUnderChoice = (rows : Rows) (actors : List Actor) (choice : Choice) (reader : ℕ) (answers : List Answer) → TimesInOrder rows → AreSound rows actors →
    IsChoice (IsRipeAt rows actors) choice → Each (λ other. IsHidden other.start other.transaction (traces other.start rows) reader answers) actors →
    Reads rows reader answers → Reads (under choice rows) reader answers
