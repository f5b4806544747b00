-- The commit of an actor's transaction, after all that stands.
use Rattle.std.specs.Prelude.{◌≡◌, ◌≤◌, ◌<◌, ℕ, not, ◌==◌, List, Option, Some, None}
use Rattle.pcj_table.specs.Table.{Key}
use Rattle.pcj_table.specs.declared.plain.Plain.{Plain}
use Rattle.pcj_table.specs.declared.write.Write.{Write}
use Rattle.pcj_encode.specs.declared.key_name.KeyName.TheVariants as row
use Rattle.pcj_encode.specs.declared.task_name.TaskName.TheVariants as task
use Rattle.pcj_encode.specs.Name.{IsName, key_of}
use Rattle.pcj_tree.specs.declared.tree.Tree.{Tree}
use Rattle.pcj_mvcc.specs.Reading.{Rows, seen, standing}
use Rattle.pcj_mvcc.specs.Times.{AllVersions, TimesInOrder}
use Rattle.pcj_moves.specs.declared.answer.Answer.{Answer}
use Rattle.pcj_moves.specs.Moves.{AreBelow}
use Rattle.pcj_moves.specs.Reads.{Reads}
use Rattle.pcj_moves.specs.StandingLaws.{StandsWhole}
use Rattle.pcj_moves.specs.Transactions.{write_at}
use Rattle.pcj_rows.specs.Origins.{TasksHaveOrigins}
use Rattle.pcj_rows.specs.Plans.{IsRegisterPlan}
use Rattle.pcj_rows.specs.Registrations.{RegistrationsStand}
use Rattle.pcj_rows.specs.Rows.{Decodes}
use Rattle.pcj_rows.specs.Triples.{AtomicRows}

-- what holds of the rows of all tables, below what is kept of answers
pub record Base (next : ℕ) (rows : Rows) : Type 0 where
  pub decodes : Decodes next rows
  pub times : TimesInOrder rows
  pub atomic : AtomicRows rows
  pub registered : RegistrationsStand rows
  pub origins : TasksHaveOrigins rows

-- An actor of this start commits what it writes, with a number above all that stand. What stands in the rows that it writes stood at
-- its start, and it was told what was seen then.
pub record Commits (number commit start : ℕ) (answers : List Answer) (writes : List Write) (before after : Rows) : Type 0 where
  pub base : Base number before
  pub after_times : TimesInOrder after
  pub registered : RegistrationsStand after
  pub whole : StandsWhole writes commit before after
  pub old : (key : Key) (write : Write) → write_at writes key ≡ Some write → seen before key start ≡ standing before key
  pub reads : Reads before start answers
  pub begun : start < number
  pub granted : number ≤ commit
  pub below : AreBelow number before
  pub apart : AllVersions (λ version. not (version.commit == start)) before
  pub fresh : (name : List ℕ) (tree : Tree) → IsRegisterPlan start answers writes name tree → (standing before (key_of (row.Name name)) ≡ None) × (standing before (key_of (row.Registration start)) ≡ None)
  pub plains : (key : Key) → (after key).plain ≡ (before key).plain

-- a plain value with this number or a later one
abbrev pub IsPlainFrom : ℕ → Option Plain → Type 0
IsPlainFrom start None = ⊥
IsPlainFrom start (Some plain) = start ≤ plain.seq

-- where an export's task is done its line was written
abbrev pub HasWritten : ℕ → List Write → Rows → Type 0
HasWritten start writes rows = (registration : ℕ) (cells : List (List ℕ)) → IsName (row.Export registration cells) →
    write_at writes (key_of (row.Task (task.Export registration cells))) ≡ Some (record { key = key_of (row.Task (task.Export registration cells)); value = None }) →
    IsPlainFrom start (rows (key_of (row.Export registration cells))).plain
