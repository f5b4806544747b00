-- What workers write: rows of names that were granted, and no row of a triple, a name, a registration or a pattern.
use Rattle.std.proofs.Common.{◌≡◌, ◌≢◌, ◌⊎◌, inl, inr, ◌<◌, ◌≤◌, ℕ, Bool, true, false, nat_le, cond, is_some, List, [], ◌∷◌, Option, Some, None, IsSome, refl, ap, sym, subst, ◌∙◌, arith}
use Rattle.std.proofs.lemmas.Bool.{leb-false, leb-true}
use Rattle.std.proofs.lemmas.List.Elements.{All-cons, All-head, All-nil, All-tail}
use Rattle.std.specs.List.{All}
use Rattle.std.specs.Option.{option_map}
use Rattle.pcj_term.proofs.ByteLemmas.{same_bytes_are}
use Rattle.pcj_term.specs.declared.term.Term.{Term}
use Rattle.pcj_term.specs.declared.triple.Triple.{Triple}
use Rattle.pcj_term.specs.Order.{same_bytes}
use Rattle.pcj_term.specs.Term.{printed}
use Rattle.pcj_term.specs.Valid.{IsValid}
use Rattle.pcj_table.proofs.RowLemmas.{no_row_is}
use Rattle.pcj_table.specs.Row.{has_nothing, newest, versions_up_to}
use Rattle.pcj_table.specs.Table.{Key}
use Rattle.pcj_table.specs.declared.row.Row.{Row}
use Rattle.pcj_table.specs.declared.write.Write.{Write}
use Rattle.pcj_encode.proofs.Names.{names_one_row}
use Rattle.pcj_encode.specs.declared.task_name.TaskName.{TaskName}
use Rattle.pcj_encode.specs.declared.task_name.TaskName.TheVariants as task
use Rattle.pcj_encode.specs.declared.key_name.KeyName.{KeyName}
use Rattle.pcj_encode.specs.declared.key_name.KeyName.TheVariants as row
use Rattle.pcj_encode.specs.Name.{IsName, IsTask, IsTriple, key_of}
use Rattle.pcj_mvcc.specs.Laws.{IsWritten, SameStanding}
use Rattle.pcj_mvcc.specs.Reading.{Put, Rows, committed, put_of, reading, seen, standing}
use Rattle.pcj_moves.specs.Moves.{AreBelow}
use Rattle.pcj_moves.specs.Reads.{Reads, value_seen}
use Rattle.pcj_moves.specs.Transactions.{write_at}
use Rattle.pcj_moves.specs.declared.answer.Answer.{Answer}
use Rattle.pcj_rows.specs.Names.{IsCellGranted, IsGranted, IsNameGranted, IsTaskGranted, IsTermGranted, IsTripleGranted}
use Rattle.pcj_rows.specs.Origins.{HasOrigin, IsAfter}
use Rattle.pcj_rows.specs.Rows.{Decodes}
use Rattle.pcj_rows.specs.Values.{MayHold}
use Rattle.pcj_rows.specs.Reads.{HasRead}
use Rattle.pcj_rows.specs.Workers.{IsAdded, IsAddedName, IsAddedTask, IsFromRead, IsReadCell, IsWorkerPlan, MayMoveTo, cells_in, cells_of_task, registration_in, task_registration, terms_in}
use Rattle.pcj_rows.proofs.EachLemmas.{all_map, of_each}
use Rattle.pcj_rows.proofs.TimeLemmas.{seen_is_standing}
use Rattle.pcj_rows.proofs.WriteLemmas.{CanWrite, EachWrite, IsNamed, found_is, none_written}

-- ---- what was read

pub value_read : (start : ℕ) (rows : Rows) (answers : List Answer) (name : KeyName) (value : List ℕ) → Reads rows start answers → HasRead answers name value → value_seen rows (key_of name) start ≡ Some value
value_read start rows answers name value reads read = reads read.answer read.held (key_of name) read.covered ∙ read.found

-- a name that was read was granted
pub granted_read : (next start : ℕ) (rows : Rows) (answers : List Answer) (name : KeyName) (value : List ℕ) → Decodes next rows → Reads rows start answers → HasRead answers name value → IsNameGranted next name
granted_read next start rows answers name value decodes reads read = by (has_nothing (rows (key_of name))) refl
  where
    by : (b : Bool) → has_nothing (rows (key_of name)) ≡ b → IsNameGranted next name
    by true none = absurd (let clash : Some value ≡ None = sym (value_read start rows answers name value reads read)
        ∙ ap (λ (r : Row). option_map (λ (put : Put). put.0) (put_of (newest (versions_up_to start (reading (committed rows) r.lock r.versions))))) (no_row_is (rows (key_of name)) none) in cc)
    by false some = let is = decodes (key_of name) some in subst (IsNameGranted next) (sym (names_one_row name is.name read.valid is.valid is.is)) is.granted

cell_granted : (next : ℕ) (term : Term) → IsValid term → IsTermGranted next term → IsCellGranted next (printed term)
cell_granted next term valid granted = (term, valid, refl, granted)

terms_granted : (next : ℕ) (triple : Triple) → IsTriple triple → IsTripleGranted next triple → All (IsCellGranted next) (terms_in triple)
terms_granted next triple valid granted =
    All-cons (IsCellGranted next) (printed triple.subject) (printed triple.predicate ∷ printed triple.object ∷ []) (cell_granted next triple.subject valid.0 granted.subject)
    (All-cons (IsCellGranted next) (printed triple.predicate) (printed triple.object ∷ []) (cell_granted next triple.predicate valid.1 granted.predicate)
    (All-cons (IsCellGranted next) (printed triple.object) [] (cell_granted next triple.object valid.2 granted.object) (All-nil (IsCellGranted next))))

task_cells_granted : (next : ℕ) (name : TaskName) → IsTask name → IsTaskGranted next name → All (IsCellGranted next) (cells_of_task name)
task_cells_granted next (task.Triple triple) valid granted = terms_granted next triple valid granted
task_cells_granted next (task.Backfill registration node) valid granted = All-nil (IsCellGranted next)
task_cells_granted next (task.Row registration node cells) valid granted = granted.1
task_cells_granted next (task.Export registration cells) valid granted = granted.1

cells_granted : (next : ℕ) (name : KeyName) → IsName name → IsNameGranted next name → All (IsCellGranted next) (cells_in name)
cells_granted next row.Clock valid granted = All-nil (IsCellGranted next)
cells_granted next (row.Triple order triple) valid granted = terms_granted next triple valid granted
cells_granted next (row.Node registration node cells) valid granted = granted.1
cells_granted next (row.Group registration cells) valid granted = granted.1
cells_granted next (row.Member registration cells term) valid granted = All-nil (IsCellGranted next)
cells_granted next (row.Registration registration) valid granted = All-nil (IsCellGranted next)
cells_granted next (row.Name name) valid granted = All-nil (IsCellGranted next)
cells_granted next (row.Pattern registration node) valid granted = All-nil (IsCellGranted next)
cells_granted next (row.Task task) valid granted = task_cells_granted next task valid granted
cells_granted next (row.Export registration cells) valid granted = All-nil (IsCellGranted next)

task_number_granted : (next : ℕ) (name : TaskName) (registration : ℕ) → task_registration name ≡ Some registration → IsTaskGranted next name → IsGranted next registration
task_number_granted next (task.Triple triple) registration is granted = absurd cc
task_number_granted next (task.Backfill number node) registration is granted = subst (IsGranted next) (cc) granted
task_number_granted next (task.Row number node cells) registration is granted = subst (IsGranted next) (cc) granted.0
task_number_granted next (task.Export number cells) registration is granted = subst (IsGranted next) (cc) granted.0

number_granted : (next : ℕ) (name : KeyName) (registration : ℕ) → registration_in name ≡ Some registration → IsNameGranted next name → IsGranted next registration
number_granted next row.Clock registration is granted = absurd cc
number_granted next (row.Triple order triple) registration is granted = absurd cc
number_granted next (row.Node number node cells) registration is granted = subst (IsGranted next) (cc) granted.0
number_granted next (row.Group number cells) registration is granted = subst (IsGranted next) (cc) granted.0
number_granted next (row.Member number cells term) registration is granted = absurd cc
number_granted next (row.Registration number) registration is granted = subst (IsGranted next) (cc) granted
number_granted next (row.Name name) registration is granted = absurd cc
number_granted next (row.Pattern number node) registration is granted = subst (IsGranted next) (cc) granted
number_granted next (row.Task task) registration is granted = task_number_granted next task registration is granted
number_granted next (row.Export number cells) registration is granted = absurd cc

-- so what is made from rows that were read was granted
from_read : (next start : ℕ) (rows : Rows) (answers : List Answer) (registration : ℕ) (cells : List (List ℕ)) → Decodes next rows → Reads rows start answers → IsFromRead answers registration cells →
    IsGranted next registration × All (IsCellGranted next) cells
from_read next start rows answers registration cells decodes reads from = (
  number_granted next from.number.name registration from.number.is (granted_read next start rows answers from.number.name from.number.value decodes reads from.number.read),
  all_map (IsReadCell answers) (IsCellGranted next)
      (λ cell is. of_each (IsCellGranted next) (cells_in is.name) cell (cells_granted next is.name is.read.valid (granted_read next start rows answers is.name is.value decodes reads is.read)) is.is) cells from.cells_read,
)

-- ---- what may be written

moved_holds : (next start : ℕ) (rows : Rows) (answers : List Answer) (name : TaskName) (moved : Option (List ℕ)) → Decodes next rows → Reads rows start answers → MayMoveTo answers name moved → MayHold next (row.Task name) moved
moved_holds next start rows answers name None decodes reads may = tt
moved_holds next start rows answers name (Some cursor) decodes reads may =
    inr (may.0, may.3, may.2.valid, granted_read next start rows answers may.0 may.1 decodes reads may.2, may.4)

can_add_task : (next start : ℕ) (rows : Rows) (answers : List Answer) (name : TaskName) → Decodes next rows → Reads rows start answers → IsAddedTask answers name → IsTaskGranted next name
can_add_task next start rows answers (task.Triple triple) decodes reads from = absurd from
can_add_task next start rows answers (task.Backfill registration node) decodes reads from = absurd from
can_add_task next start rows answers (task.Row registration node cells) decodes reads from = from_read next start rows answers registration cells decodes reads from
can_add_task next start rows answers (task.Export registration cells) decodes reads from = from_read next start rows answers registration cells decodes reads from

can_add : (next start : ℕ) (rows : Rows) (answers : List Answer) (write : Write) (name : KeyName) → IsGranted next start → Decodes next rows → Reads rows start answers → IsName name → write.key ≡ key_of name → write.value ≡ Some [] → IsAddedName answers name →
    CanWrite next start write
can_add next start rows answers write row.Clock begun decodes reads valid is empty from = absurd from
can_add next start rows answers write (row.Triple order triple) begun decodes reads valid is empty from = absurd from
can_add next start rows answers write (row.Node registration node cells) begun decodes reads valid is empty from = record {
  begun = begun;
  name = row.Node registration node cells;
  valid = valid;
  granted = from_read next start rows answers registration cells decodes reads from;
  is = is;
  written = refl;
  value = subst (MayHold next (row.Node registration node cells)) (sym empty) refl;
}
can_add next start rows answers write (row.Group registration cells) begun decodes reads valid is empty from = absurd from
can_add next start rows answers write (row.Member registration cells term) begun decodes reads valid is empty from = absurd from
can_add next start rows answers write (row.Registration registration) begun decodes reads valid is empty from = absurd from
can_add next start rows answers write (row.Name name) begun decodes reads valid is empty from = absurd from
can_add next start rows answers write (row.Pattern registration node) begun decodes reads valid is empty from = absurd from
can_add next start rows answers write (row.Task name) begun decodes reads valid is empty from = record {
  begun = begun;
  name = row.Task name;
  valid = valid;
  granted = can_add_task next start rows answers name decodes reads from;
  is = is;
  written = refl;
  value = subst (MayHold next (row.Task name)) (sym empty) (inl refl);
}
can_add next start rows answers write (row.Export registration cells) begun decodes reads valid is empty from = absurd from

can_add_all : (next start : ℕ) (rows : Rows) (answers : List Answer) (writes : List Write) → IsGranted next start → Decodes next rows → Reads rows start answers → All (IsAdded answers) writes → EachWrite (CanWrite next start) writes
can_add_all next start rows answers [] begun decodes reads all = tt
can_add_all next start rows answers (write ∷ writes) begun decodes reads all =
    let its = All-head (IsAdded answers) write writes all in (
      can_add next start rows answers write its.name begun decodes reads its.valid its.is its.empty its.from,
      can_add_all next start rows answers writes begun decodes reads (All-tail (IsAdded answers) write writes all),
    )

pub can_work : (next start : ℕ) (rows : Rows) (answers : List Answer) (writes : List Write) (write : Write) → start < next → Decodes next rows → Reads rows start answers → IsWorkerPlan start answers writes → write_at writes write.key ≡ Some write → CanWrite next start write
can_work next start rows answers writes write lt decodes reads plan e = found_is (CanWrite next start) all write.key write (its, rest) (ap (λ ws. write_at ws write.key) (sym plan.writes_are) ∙ e)
  where
    first : Write
    first = record { key = key_of (row.Task plan.task); value = plan.moved }

    all : List Write
    all = first ∷ plan.added

    its : CanWrite next start first
    its = record {
      begun = (plan.first, lt);
      name = row.Task plan.task;
      valid = plan.read.valid;
      granted = granted_read next start rows answers (row.Task plan.task) plan.cursor decodes reads plan.read;
      is = refl;
      written = refl;
      value = moved_holds next start rows answers plan.task plan.moved decodes reads plan.may;
    }

    rest : EachWrite (CanWrite next start) plan.added
    rest = can_add_all next start rows answers plan.added (plan.first, lt) decodes reads plan.are_added

-- ---- which rows are written

-- what holds of the names of nodes and tasks holds of the rows that are added
added_name : (P : KeyName → Type 0) (answers : List Answer) (name : KeyName) → ((registration node : ℕ) (cells : List (List ℕ)) → P (row.Node registration node cells)) → ((registration node : ℕ) (cells : List (List ℕ)) → P (row.Task (task.Row registration node cells))) →
    ((registration : ℕ) (cells : List (List ℕ)) → P (row.Task (task.Export registration cells))) → IsAddedName answers name → P name
added_name P answers row.Clock nodes rows exports from = absurd from
added_name P answers (row.Triple order triple) nodes rows exports from = absurd from
added_name P answers (row.Node registration node cells) nodes rows exports from = nodes registration node cells
added_name P answers (row.Group registration cells) nodes rows exports from = absurd from
added_name P answers (row.Member registration cells term) nodes rows exports from = absurd from
added_name P answers (row.Registration registration) nodes rows exports from = absurd from
added_name P answers (row.Name name) nodes rows exports from = absurd from
added_name P answers (row.Pattern registration node) nodes rows exports from = absurd from
added_name P answers (row.Task (task.Triple triple)) nodes rows exports from = absurd from
added_name P answers (row.Task (task.Backfill registration node)) nodes rows exports from = absurd from
added_name P answers (row.Task (task.Row registration node cells)) nodes rows exports from = rows registration node cells
added_name P answers (row.Task (task.Export registration cells)) nodes rows exports from = exports registration cells
added_name P answers (row.Export registration cells) nodes rows exports from = absurd from

pub added_names : (P : KeyName → Type 0) (answers : List Answer) (writes : List Write) → ((registration node : ℕ) (cells : List (List ℕ)) → P (row.Node registration node cells)) → ((registration node : ℕ) (cells : List (List ℕ)) → P (row.Task (task.Row registration node cells))) →
    ((registration : ℕ) (cells : List (List ℕ)) → P (row.Task (task.Export registration cells))) → All (IsAdded answers) writes → EachWrite (IsNamed P) writes
added_names P answers [] nodes rows exports all = tt
added_names P answers (write ∷ writes) nodes rows exports all =
    let its = All-head (IsAdded answers) write writes all in (
      (its.name, its.valid, its.is, added_name P answers its.name nodes rows exports its.from),
      added_names P answers writes nodes rows exports (All-tail (IsAdded answers) write writes all),
    )

-- no row of another kind is written
pub work_leaves : (start : ℕ) (answers : List Answer) (writes : List Write) (name : KeyName) → IsWorkerPlan start answers writes → IsName name → ((other : TaskName) → row.Task other ≢ name) → ((registration node : ℕ) (cells : List (List ℕ)) → row.Node registration node cells ≢ name) →
    write_at writes (key_of name) ≡ None
work_leaves start answers writes name plan valid no_task no_node = ap (λ ws. write_at ws (key_of name)) plan.writes_are
    ∙ none_written (record { key = key_of (row.Task plan.task); value = plan.moved } ∷ plan.added) name valid (
      (row.Task plan.task, plan.read.valid, refl, no_task plan.task),
      added_names (λ other. other ≢ name) answers plan.added no_node (λ registration node cells. no_task (task.Row registration node cells)) (λ registration cells. no_task (task.Export registration cells)) plan.are_added,
    )

-- a task that isn't added is written where it is the worker's own
pub record IsOwnTask (start : ℕ) (answers : List Answer) (writes : List Write) (name : TaskName) : Type 0 where
  pub cursor : List ℕ
  pub read : HasRead answers (row.Task name) cursor
  pub moved : Option (List ℕ)
  pub written : write_at writes (key_of (row.Task name)) ≡ Some (record { key = key_of (row.Task name); value = moved })

pub own_task : (start : ℕ) (answers : List Answer) (writes : List Write) (name : TaskName) → IsWorkerPlan start answers writes → IsTask name →
    ((registration node : ℕ) (cells : List (List ℕ)) → task.Row registration node cells ≢ name) → ((registration : ℕ) (cells : List (List ℕ)) → task.Export registration cells ≢ name) →
    (write_at writes (key_of (row.Task name)) ≡ None) ⊎ IsOwnTask start answers writes name
own_task start answers writes name plan valid no_row no_export = by (same_bytes (key_of (row.Task name)) (key_of (row.Task plan.task))) refl
  where
    first : Write
    first = record { key = key_of (row.Task plan.task); value = plan.moved }

    is : write_at writes (key_of (row.Task name)) ≡ cond (same_bytes (key_of (row.Task name)) (key_of (row.Task plan.task))) (Some first) (write_at plan.added (key_of (row.Task name)))
    is = ap (λ ws. write_at ws (key_of (row.Task name))) plan.writes_are

    others : write_at plan.added (key_of (row.Task name)) ≡ None
    others = none_written plan.added (row.Task name) valid
        (added_names (λ other. other ≢ row.Task name) answers plan.added (λ registration node cells e. cc) (λ registration node cells e. no_row registration node cells (task_is (task.Row registration node cells) e))
        (λ registration cells e. no_export registration cells (task_is (task.Export registration cells) e)) plan.are_added)
      where
        task_is : (other : TaskName) → row.Task other ≡ row.Task name → other ≡ name
        task_is other e = cc

    by : (b : Bool) → same_bytes (key_of (row.Task name)) (key_of (row.Task plan.task)) ≡ b → (write_at writes (key_of (row.Task name)) ≡ None) ⊎ IsOwnTask start answers writes name
    by true e =
        let one : row.Task name ≡ row.Task plan.task = names_one_row (row.Task name) (row.Task plan.task) valid plan.read.valid (same_bytes_are _ _ e) in
        let same : plan.task ≡ name = cc in
        inr (record {
          cursor = plan.cursor;
          read = subst (λ n. HasRead answers (row.Task n) plan.cursor) same plan.read;
          moved = plan.moved;
          written = is ∙ ap (λ b. cond b (Some first) (write_at plan.added (key_of (row.Task name)))) e ∙ ap (λ n. Some (record { key = key_of (row.Task n); value = plan.moved })) same;
        })
    by false e = inl (is ∙ ap (λ b. cond b (Some first) (write_at plan.added (key_of (row.Task name)))) e ∙ others)

-- ---- tasks that go on

-- A task that stood is moved or ended, and the row that it was made for stays.
pub origin_outlasts : (number commit : ℕ) (before after : Rows) (task origin : Key) (put : Put) (moved : Option (List ℕ)) → number ≤ commit → AreBelow number before → ((key : Key) (at : ℕ) → at < commit → seen after key at ≡ seen before key at) →
    IsWritten after task moved commit → SameStanding before after origin → standing before task ≡ Some put → put.1 ≤ commit → HasOrigin before task origin → HasOrigin after task origin
origin_outlasts number commit before after task origin put moved le below earlier written same stood older is = record {
  stands = subst (λ t. IsAfter t (standing after origin)) (sym written.stands) (still moved);
  was_seen = λ at some. by at some (nat_le commit at) refl;
}
  where
    was : (other : Put) × (standing before origin ≡ Some other) × (other.1 ≤ put.1)
    was = subst (λ t. IsAfter t (standing before origin)) stood is.stands

    still : (value : Option (List ℕ)) → IsAfter (option_map (λ bytes. (bytes, commit)) value) (standing after origin)
    still None = tt
    still (Some value) = (was.0, same.stands ∙ was.1, (let first = was.2 in omega (arith, first, older)))

    by : (at : ℕ) → IsSome (seen after task at) → (b : Bool) → nat_le commit at ≡ b → IsSome (seen after origin at)
    by at some true e = let later = leb-true commit at e in
        ap is_some (same.sees at ∙ seen_is_standing number at before origin (omega (arith, le, later)) below ∙ was.1)
    by at some false e =
        let lt = leb-false commit at e in
        ap is_some (earlier origin at lt) ∙ is.was_seen at (ap is_some (sym (earlier task at lt)) ∙ some)
