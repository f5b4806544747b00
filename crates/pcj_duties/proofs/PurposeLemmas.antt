-- What actors write of the rows of nodes and of tasks, by what they are at work for.
use Rattle.std.proofs.Common.{◌≡◌, ◌≢◌, ◌⊎◌, inl, inr, ℕ, Bool, true, false, cond, List, Some, None, refl, ap, sym, ◌∙◌}
use Rattle.std.specs.List.{Contains}
use Rattle.pcj_term.proofs.ByteLemmas.{same_bytes_are}
use Rattle.pcj_term.specs.declared.triple.Triple.{Triple}
use Rattle.pcj_term.specs.Order.{same_bytes}
use Rattle.pcj_table.specs.Table.{Key}
use Rattle.pcj_table.specs.declared.write.Write.{Write}
use Rattle.pcj_encode.proofs.Names.{names_one_row}
use Rattle.pcj_encode.specs.declared.key_name.KeyName.{KeyName}
use Rattle.pcj_encode.specs.declared.key_name.KeyName.TheVariants as row
use Rattle.pcj_encode.specs.declared.task_name.TaskName.{TaskName}
use Rattle.pcj_encode.specs.declared.task_name.TaskName.TheVariants as task
use Rattle.pcj_encode.specs.Name.{IsName, IsTask, IsTriple, key_of}
use Rattle.pcj_tree.specs.declared.tree.Tree.{Tree}
use Rattle.pcj_moves.specs.Transactions.{write_at}
use Rattle.pcj_moves.specs.declared.answer.Answer.{Answer}
use Rattle.pcj_rows.specs.Plans.{IsLoadPlan, IsRegisterPlan, absent_of, load_writes, registration_writes}
use Rattle.pcj_rows.proofs.PlanLemmas.{Mark, absent_all, as_task, by_order, load_names, mark_name}
use Rattle.pcj_rows.proofs.RegisterLemmas.{register_names}
use Rattle.pcj_rows.proofs.WriteLemmas.{keys_differ, none_written}
use Rattle.pcj_duties.specs.Added.{NodeRow, row_name, rows_writes, task_name}
use Rattle.pcj_duties.specs.Observers.{EndsNoExport, HasPurpose, IsObserverPlan}
use Rattle.pcj_duties.proofs.AddedLemmas.{AddsRow, AddsTask, Writes, none_added, own_is_not_added, row_added, row_held, task_added, task_held, task_is_named}

-- ---- loads and registrations

pub load_leaves : (start : ℕ) (answers : List Answer) (writes : List Write) (triples : List Triple) (name : KeyName) → IsLoadPlan start answers writes triples → IsName name → ((mark : Mark) (triple : Triple) → mark_name mark triple ≢ name) →
    write_at writes (key_of name) ≡ None
load_leaves start answers writes triples name plan named differs = ap (λ ws. write_at ws (key_of name)) plan.writes_are
    ∙ none_written (load_writes (absent_of triples answers)) name named (load_names (λ n. n ≢ name) (absent_of triples answers) (absent_all IsTriple triples answers plan.load.valid) differs)

pub register_leaves : (start : ℕ) (answers : List Answer) (writes : List Write) (its : List ℕ) (tree : Tree) (name : KeyName) → IsRegisterPlan start answers writes its tree → IsName name → row.Name its ≢ name → row.Registration start ≢ name →
    ((node : ℕ) → row.Pattern start node ≢ name) → ((node : ℕ) → row.Task (task.Backfill start node) ≢ name) → write_at writes (key_of name) ≡ None
register_leaves start answers writes its tree name plan named no_name no_own no_pattern no_task = ap (λ ws. write_at ws (key_of name)) plan.writes_are
    ∙ none_written (registration_writes start its tree) name named (register_names (λ n. n ≢ name) start its tree plan.number plan.of_query no_name no_own no_pattern no_task)

-- ---- workers

written_is : (start : ℕ) (answers : List Answer) (writes : List Write) (key : Key) (b : Bool) → (work : IsObserverPlan start answers writes) → same_bytes key (key_of (row.Task work.task)) ≡ b →
    write_at writes key ≡ cond b (Some (record { key = key_of (row.Task work.task); value = work.moved })) (write_at (rows_writes work.rows) key)
written_is start answers writes key b work e = ap (λ ws. write_at ws key) work.writes_are
    ∙ ap (λ c. cond c (Some (record { key = key_of (row.Task work.task); value = work.moved })) (write_at (rows_writes work.rows) key)) e

-- a row that is no task is written where it is one of those that are added
pub work_writes : (start : ℕ) (answers : List Answer) (writes : List Write) (name : KeyName) → (work : IsObserverPlan start answers writes) → IsName name → row.Task work.task ≢ name → write_at writes (key_of name) ≡ write_at (rows_writes work.rows) (key_of name)
work_writes start answers writes name work named differs =
    written_is start answers writes (key_of name) false work (keys_differ name (row.Task work.task) named work.read.valid (λ e. differs (sym e)))

-- none of another kind
pub work_leaves : (start : ℕ) (answers : List Answer) (writes : List Write) (name : KeyName) → IsObserverPlan start answers writes → IsName name → ((registration node : ℕ) (cells : List (List ℕ)) → row.Node registration node cells ≢ name) → ((other : TaskName) → row.Task other ≢ name) →
    write_at writes (key_of name) ≡ None
work_leaves start answers writes name work named no_node no_task = work_writes start answers writes name work named (no_task work.task) ∙ none_added answers work.rows name named no_node no_task work.new

-- ---- the rows of nodes

-- a worker adds the row
pub record AddsNode (start : ℕ) (answers : List Answer) (writes : List Write) (registration node : ℕ) (cells : List (List ℕ)) : Type 0 where
  pub work : IsObserverPlan start answers writes
  pub adds : AddsRow answers work.rows (row.Node registration node cells)
  pub written : Writes writes (key_of (row.Node registration node cells))

pub node_written : (start : ℕ) (answers : List Answer) (writes : List Write) (registration node : ℕ) (cells : List (List ℕ)) → HasPurpose start answers writes → IsName (row.Node registration node cells) →
    (write_at writes (key_of (row.Node registration node cells)) ≡ None) ⊎ AddsNode start answers writes registration node cells
node_written start answers writes registration node cells (inl none) named = inl (ap (λ ws. write_at ws (key_of (row.Node registration node cells))) none)
node_written start answers writes registration node cells (inr (inl load)) named = inl (load_leaves start answers writes load.0 (row.Node registration node cells) load.1 named differs)
  where
    differs : (mark : Mark) (triple : Triple) → mark_name mark triple ≢ row.Node registration node cells
    differs (by_order order) triple e = cc
    differs as_task triple e = cc
node_written start answers writes registration node cells (inr (inr (inl register))) named =
    inl (register_leaves start answers writes register.0 register.1 (row.Node registration node cells) register.2 named (λ e. cc) (λ e. cc) (λ n e. cc) (λ n e. cc))
node_written start answers writes registration node cells (inr (inr (inr work))) named = by (row_added answers work.rows registration node cells named work.new)
  where
    same : write_at writes (key_of (row.Node registration node cells)) ≡ write_at (rows_writes work.rows) (key_of (row.Node registration node cells))
    same = work_writes start answers writes (row.Node registration node cells) work named (λ e. cc)

    by : (write_at (rows_writes work.rows) (key_of (row.Node registration node cells)) ≡ None) ⊎ (AddsRow answers work.rows (row.Node registration node cells) × Writes (rows_writes work.rows) (key_of (row.Node registration node cells))) →
        (write_at writes (key_of (row.Node registration node cells)) ≡ None) ⊎ AddsNode start answers writes registration node cells
    by (inl none) = inl (same ∙ none)
    by (inr is) = inr (record { work = work; adds = is.0; written = same ∙ is.1 })

-- ---- tasks

-- a worker moves its own task
pub record MovesTask (start : ℕ) (answers : List Answer) (writes : List Write) (name : TaskName) : Type 0 where
  pub work : IsObserverPlan start answers writes
  pub own : work.task ≡ name
  pub written : write_at writes (key_of (row.Task name)) ≡ Some (record { key = key_of (row.Task name); value = work.moved })

-- or adds that of a row
pub record AddsTaskOf (start : ℕ) (answers : List Answer) (writes : List Write) (name : TaskName) : Type 0 where
  pub work : IsObserverPlan start answers writes
  pub adds : AddsTask answers work.rows name
  pub written : Writes writes (key_of (row.Task name))

pub work_task : (start : ℕ) (answers : List Answer) (writes : List Write) (name : TaskName) → IsObserverPlan start answers writes → IsTask name →
    (write_at writes (key_of (row.Task name)) ≡ None) ⊎ (MovesTask start answers writes name ⊎ AddsTaskOf start answers writes name)
work_task start answers writes name work named = by (same_bytes (key_of (row.Task name)) (key_of (row.Task work.task))) refl (task_added answers work.rows name named work.new)
  where
    by : (b : Bool) → same_bytes (key_of (row.Task name)) (key_of (row.Task work.task)) ≡ b →
        (write_at (rows_writes work.rows) (key_of (row.Task name)) ≡ None) ⊎ (AddsTask answers work.rows name × Writes (rows_writes work.rows) (key_of (row.Task name))) →
        (write_at writes (key_of (row.Task name)) ≡ None) ⊎ (MovesTask start answers writes name ⊎ AddsTaskOf start answers writes name)
    by true e added =
        let one : row.Task name ≡ row.Task work.task = names_one_row (row.Task name) (row.Task work.task) named work.read.valid (same_bytes_are _ _ e) in
        let same : work.task ≡ name = cc in
        inr (inl (record {
          work = work;
          own = same;
          written = written_is start answers writes (key_of (row.Task name)) true work e ∙ ap (λ n. Some (record { key = key_of (row.Task n); value = work.moved })) same;
        }))
    by false e (inl none) = inl (written_is start answers writes (key_of (row.Task name)) false work e ∙ none)
    by false e (inr is) = inr (inr (record { work = work; adds = is.0; written = written_is start answers writes (key_of (row.Task name)) false work e ∙ is.1 }))

-- a task that is none of a triple and none of a backfill
abbrev pub IsOfRow : TaskName → Type 0
IsOfRow (task.Triple triple) = ⊥
IsOfRow (task.Backfill registration node) = ⊥
IsOfRow (task.Row registration node cells) = Unit {0}
IsOfRow (task.Export registration cells) = Unit {0}

no_triple : (name : TaskName) (triple : Triple) → IsOfRow name → row.Task (task.Triple triple) ≢ row.Task name
no_triple (task.Triple other) triple of e = absurd of
no_triple (task.Backfill registration node) triple of e = absurd of
no_triple (task.Row registration node cells) triple of e = cc
no_triple (task.Export registration cells) triple of e = cc

no_backfill : (name : TaskName) (registration node : ℕ) → IsOfRow name → row.Task (task.Backfill registration node) ≢ row.Task name
no_backfill (task.Triple other) registration node of e = absurd of
no_backfill (task.Backfill number other) registration node of e = absurd of
no_backfill (task.Row number other cells) registration node of e = cc
no_backfill (task.Export number cells) registration node of e = cc

pub row_task_written : (start : ℕ) (answers : List Answer) (writes : List Write) (name : TaskName) → HasPurpose start answers writes → IsTask name → IsOfRow name →
    (write_at writes (key_of (row.Task name)) ≡ None) ⊎ (MovesTask start answers writes name ⊎ AddsTaskOf start answers writes name)
row_task_written start answers writes name (inl none) named of = inl (ap (λ ws. write_at ws (key_of (row.Task name))) none)
row_task_written start answers writes name (inr (inl load)) named of = inl (load_leaves start answers writes load.0 (row.Task name) load.1 named differs)
  where
    differs : (mark : Mark) (triple : Triple) → mark_name mark triple ≢ row.Task name
    differs (by_order order) triple e = cc
    differs as_task triple e = no_triple name triple of e
row_task_written start answers writes name (inr (inr (inl register))) named of =
    inl (register_leaves start answers writes register.0 register.1 (row.Task name) register.2 named (λ e. cc) (λ e. cc) (λ n e. cc) (λ n e. no_backfill name start n of e))
row_task_written start answers writes name (inr (inr (inr work))) named of = work_task start answers writes name work named

-- ---- added rows, with their tasks

-- each row that is added is written
pub new_written : (start : ℕ) (answers : List Answer) (writes : List Write) (new : NodeRow) → (work : IsObserverPlan start answers writes) → IsName (row_name new) → Contains work.rows new → Writes writes (key_of (row_name new))
new_written start answers writes new work named there = work_writes start answers writes (row_name new) work named (λ e. cc) ∙ row_held answers work.rows new work.new there

-- and so is its task
pub new_task_written : (start : ℕ) (answers : List Answer) (writes : List Write) (new : NodeRow) → (work : IsObserverPlan start answers writes) → IsName (row_name new) → Contains work.rows new → Writes writes (key_of (row.Task (task_name new)))
new_task_written start answers writes new work named there =
    work_writes start answers writes (row.Task (task_name new)) work (task_is_named new named) (λ e. own_is_not_added answers work.task work.cursor work.moved work.rows new work.done there (let same : work.task ≡ task_name new = cc in sym same))
    ∙ task_held answers work.rows new work.new there

-- ---- the tasks of exports

-- loads and registrations write none
pub load_ends_none : (start : ℕ) (answers : List Answer) (writes : List Write) (triples : List Triple) → IsLoadPlan start answers writes triples → EndsNoExport writes
load_ends_none start answers writes triples plan registration cells named = load_leaves start answers writes triples (row.Task (task.Export registration cells)) plan named differs
  where
    differs : (mark : Mark) (triple : Triple) → mark_name mark triple ≢ row.Task (task.Export registration cells)
    differs (by_order order) triple e = cc
    differs as_task triple e = cc

pub register_ends_none : (start : ℕ) (answers : List Answer) (writes : List Write) (name : List ℕ) (tree : Tree) → IsRegisterPlan start answers writes name tree → EndsNoExport writes
register_ends_none start answers writes name tree plan registration cells named =
    register_leaves start answers writes name tree (row.Task (task.Export registration cells)) plan named (λ e. cc) (λ e. cc) (λ n e. cc) (λ n e. cc)
