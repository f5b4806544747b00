-- Which rows of nodes and which tasks a worker writes.
use Rattle.std.proofs.Common.{◌≡◌, ◌≢◌, ◌⊎◌, inl, inr, ℕ, Bool, true, false, cond, List, [], ◌∷◌, Option, Some, None, refl, ap, sym, subst, ◌∙◌, if◌then◌else◌}
use Rattle.std.proofs.lemmas.List.Elements.{All-head, All-tail}
use Rattle.std.specs.List.{All, Contains}
use Rattle.pcj_term.proofs.ByteLemmas.{same_bytes_are, same_bytes_itself}
use Rattle.pcj_term.proofs.ListLemmas.{first_or_later, first_there, later_there, nothing_in}
use Rattle.pcj_term.specs.Order.{same_bytes}
use Rattle.pcj_table.specs.Table.{Key}
use Rattle.pcj_table.specs.declared.write.Write.{Write}
use Rattle.pcj_encode.proofs.Names.{names_one_row}
use Rattle.pcj_encode.specs.declared.key_name.KeyName.{KeyName}
use Rattle.pcj_encode.specs.declared.key_name.KeyName.TheVariants as row
use Rattle.pcj_encode.specs.declared.task_name.TaskName.{TaskName}
use Rattle.pcj_encode.specs.declared.task_name.TaskName.TheVariants as task
use Rattle.pcj_encode.specs.Name.{IsName, IsTask, key_of}
use Rattle.pcj_moves.specs.Transactions.{write_at}
use Rattle.pcj_moves.specs.declared.answer.Answer.{Answer}
use Rattle.pcj_rows.specs.Plans.{put_mark}
use Rattle.pcj_rows.specs.Reads.{IsFoundIn, IsMissedIn}
use Rattle.pcj_rows.proofs.EachLemmas.{of_each}
use Rattle.pcj_rows.proofs.WriteLemmas.{keys_differ}
use Rattle.pcj_duties.specs.Added.{IsNew, NodeRow, added_writes, row_name, rows_writes, task_name}
use Rattle.pcj_duties.specs.Observers.{IsDoneFor, result_row}

-- ---- added rows

pub task_is_named : (new : NodeRow) → IsName (row_name new) → IsTask (task_name new)
task_is_named new named = by new.is_result
  where
    by : (b : Bool) → IsTask (if b then task.Export new.registration new.cells else task.Row new.registration new.node new.cells)
    by true = (named.0, named.2)
    by false = named

-- a row of this name is added
pub record AddsRow (answers : List Answer) (rows : List NodeRow) (name : KeyName) : Type 0 where
  pub new : NodeRow
  pub held : Contains rows new
  pub is_new : IsNew answers new
  pub is : row_name new ≡ name

-- or a task of this name
pub record AddsTask (answers : List Answer) (rows : List NodeRow) (name : TaskName) : Type 0 where
  pub new : NodeRow
  pub held : Contains rows new
  pub is_new : IsNew answers new
  pub is : task_name new ≡ name

abbrev pub Writes : List Write → Key → Type 0
Writes writes key = write_at writes key ≡ Some (put_mark key)

-- the writes of one row and its task, and those of more
one_of : (new : NodeRow) (more : List Write) (key : Key) (first second : Bool) → same_bytes key (key_of (row_name new)) ≡ first → same_bytes key (key_of (row.Task (task_name new))) ≡ second →
    write_at (added_writes new more) key ≡ cond first (Some (put_mark (key_of (row_name new)))) (cond second (Some (put_mark (key_of (row.Task (task_name new))))) (write_at more key))
one_of new more key first second e e' =
    ap (λ b. cond b (Some (put_mark (key_of (row_name new)))) (cond (same_bytes key (key_of (row.Task (task_name new)))) (Some (put_mark (key_of (row.Task (task_name new))))) (write_at more key))) e
    ∙ ap (λ b. cond first (Some (put_mark (key_of (row_name new)))) (cond b (Some (put_mark (key_of (row.Task (task_name new))))) (write_at more key))) e'

-- the row of a node: it isn't written, or it is one that is added
pub row_added : (answers : List Answer) (rows : List NodeRow) (registration node : ℕ) (cells : List (List ℕ)) → IsName (row.Node registration node cells) → All (IsNew answers) rows →
    (write_at (rows_writes rows) (key_of (row.Node registration node cells)) ≡ None) ⊎ (AddsRow answers rows (row.Node registration node cells) × Writes (rows_writes rows) (key_of (row.Node registration node cells)))
row_added answers [] registration node cells named all = inl refl
row_added answers (new ∷ more) registration node cells named all =
    by (same_bytes key (key_of (row_name new))) refl (row_added answers more registration node cells named (All-tail (IsNew answers) new more all))
  where
    key : Key
    key = key_of (row.Node registration node cells)

    its : IsNew answers new
    its = All-head (IsNew answers) new more all

    no_task : same_bytes key (key_of (row.Task (task_name new))) ≡ false
    no_task = keys_differ (row.Node registration node cells) (row.Task (task_name new)) named (task_is_named new its.named) (λ e. cc)

    by : (b : Bool) → same_bytes key (key_of (row_name new)) ≡ b → (write_at (rows_writes more) key ≡ None) ⊎ (AddsRow answers more (row.Node registration node cells) × Writes (rows_writes more) key) →
        (write_at (rows_writes (new ∷ more)) key ≡ None) ⊎ (AddsRow answers (new ∷ more) (row.Node registration node cells) × Writes (rows_writes (new ∷ more)) key)
    by true e rest =
        let same : row_name new ≡ row.Node registration node cells = sym (names_one_row (row.Node registration node cells) (row_name new) named its.named (same_bytes_are _ _ e)) in
        inr (
          record { new = new; held = first_there new more; is_new = its; is = same },
          one_of new (rows_writes more) key true false e no_task ∙ ap (λ n. Some (put_mark (key_of n))) same,
        )
    by false e (inl none) = inl (one_of new (rows_writes more) key false false e no_task ∙ none)
    by false e (inr is) = inr (
      record { new = is.0.new; held = later_there new more is.0.new is.0.held; is_new = is.0.is_new; is = is.0.is },
      one_of new (rows_writes more) key false false e no_task ∙ is.1,
    )

-- a task
pub task_added : (answers : List Answer) (rows : List NodeRow) (name : TaskName) → IsTask name → All (IsNew answers) rows →
    (write_at (rows_writes rows) (key_of (row.Task name)) ≡ None) ⊎ (AddsTask answers rows name × Writes (rows_writes rows) (key_of (row.Task name)))
task_added answers [] name named all = inl refl
task_added answers (new ∷ more) name named all =
    by (same_bytes key (key_of (row.Task (task_name new)))) refl (task_added answers more name named (All-tail (IsNew answers) new more all))
  where
    key : Key
    key = key_of (row.Task name)

    its : IsNew answers new
    its = All-head (IsNew answers) new more all

    no_row : same_bytes key (key_of (row_name new)) ≡ false
    no_row = keys_differ (row.Task name) (row_name new) named its.named (λ e. cc)

    by : (b : Bool) → same_bytes key (key_of (row.Task (task_name new))) ≡ b → (write_at (rows_writes more) key ≡ None) ⊎ (AddsTask answers more name × Writes (rows_writes more) key) →
        (write_at (rows_writes (new ∷ more)) key ≡ None) ⊎ (AddsTask answers (new ∷ more) name × Writes (rows_writes (new ∷ more)) key)
    by true e rest =
        let one : row.Task name ≡ row.Task (task_name new) = names_one_row (row.Task name) (row.Task (task_name new)) named (task_is_named new its.named) (same_bytes_are _ _ e) in
        let same : task_name new ≡ name = cc in
        inr (
          record { new = new; held = first_there new more; is_new = its; is = same },
          one_of new (rows_writes more) key false true no_row e ∙ ap (λ n. Some (put_mark (key_of (row.Task n)))) same,
        )
    by false e (inl none) = inl (one_of new (rows_writes more) key false false no_row e ∙ none)
    by false e (inr is) = inr (
      record { new = is.0.new; held = later_there new more is.0.new is.0.held; is_new = is.0.is_new; is = is.0.is },
      one_of new (rows_writes more) key false false no_row e ∙ is.1,
    )

-- no other row
pub none_added : (answers : List Answer) (rows : List NodeRow) (name : KeyName) → IsName name → ((registration node : ℕ) (cells : List (List ℕ)) → row.Node registration node cells ≢ name) → ((other : TaskName) → row.Task other ≢ name) → All (IsNew answers) rows →
    write_at (rows_writes rows) (key_of name) ≡ None
none_added answers [] name named no_node no_task all = refl
none_added answers (new ∷ more) name named no_node no_task all =
    let its = All-head (IsNew answers) new more all in
    one_of new (rows_writes more) (key_of name) false false
    (keys_differ name (row_name new) named its.named (λ e. no_node new.registration new.node new.cells (sym e)))
    (keys_differ name (row.Task (task_name new)) named (task_is_named new its.named) (λ e. no_task (task_name new) (sym e)))
    ∙ none_added answers more name named no_node no_task (All-tail (IsNew answers) new more all)

-- ---- each row that is added is written, with its task

pub row_held : (answers : List Answer) (rows : List NodeRow) (new : NodeRow) → All (IsNew answers) rows → Contains rows new → Writes (rows_writes rows) (key_of (row_name new))
row_held answers [] new all there = absurd (nothing_in new there)
row_held answers (other ∷ more) new all there =
    by (first_or_later other more new there) (row_held answers more new (All-tail (IsNew answers) other more all)) (of_each (IsNew answers) (other ∷ more) new all there)
  where
    its : IsNew answers other
    its = All-head (IsNew answers) other more all

    later : IsNew answers new → Writes (rows_writes more) (key_of (row_name new)) → (b : Bool) → same_bytes (key_of (row_name new)) (key_of (row_name other)) ≡ b → Writes (rows_writes (other ∷ more)) (key_of (row_name new))
    later new_is rest true e = one_of other (rows_writes more) (key_of (row_name new)) true (same_bytes (key_of (row_name new)) (key_of (row.Task (task_name other)))) e refl ∙ ap (λ k. Some (put_mark k)) (sym (same_bytes_are _ _ e))
    later new_is rest false e = one_of other (rows_writes more) (key_of (row_name new)) false false e (keys_differ (row_name new) (row.Task (task_name other)) new_is.named (task_is_named other its.named) (λ e. cc)) ∙ rest

    by : (other ≡ new) ⊎ Contains more new → (Contains more new → Writes (rows_writes more) (key_of (row_name new))) → IsNew answers new → Writes (rows_writes (other ∷ more)) (key_of (row_name new))
    by (inl same) rest new_is = subst (λ n. Writes (rows_writes (other ∷ more)) (key_of (row_name n))) same
        (one_of other (rows_writes more) (key_of (row_name other)) true (same_bytes (key_of (row_name other)) (key_of (row.Task (task_name other)))) (same_bytes_itself (key_of (row_name other))) refl)
    by (inr within) rest new_is = later new_is (rest within) (same_bytes (key_of (row_name new)) (key_of (row_name other))) refl

pub task_held : (answers : List Answer) (rows : List NodeRow) (new : NodeRow) → All (IsNew answers) rows → Contains rows new → Writes (rows_writes rows) (key_of (row.Task (task_name new)))
task_held answers [] new all there = absurd (nothing_in new there)
task_held answers (other ∷ more) new all there =
    by (first_or_later other more new there) (task_held answers more new (All-tail (IsNew answers) other more all)) (of_each (IsNew answers) (other ∷ more) new all there)
  where
    its : IsNew answers other
    its = All-head (IsNew answers) other more all

    no_row : (n : NodeRow) → IsNew answers n → same_bytes (key_of (row.Task (task_name n))) (key_of (row_name other)) ≡ false
    no_row n is = keys_differ (row.Task (task_name n)) (row_name other) (task_is_named n is.named) its.named (λ e. cc)

    later : IsNew answers new → Writes (rows_writes more) (key_of (row.Task (task_name new))) → (b : Bool) → same_bytes (key_of (row.Task (task_name new))) (key_of (row.Task (task_name other))) ≡ b → Writes (rows_writes (other ∷ more)) (key_of (row.Task (task_name new)))
    later new_is rest true e = one_of other (rows_writes more) (key_of (row.Task (task_name new))) false true (no_row new new_is) e ∙ ap (λ k. Some (put_mark k)) (sym (same_bytes_are _ _ e))
    later new_is rest false e = one_of other (rows_writes more) (key_of (row.Task (task_name new))) false false (no_row new new_is) e ∙ rest

    by : (other ≡ new) ⊎ Contains more new → (Contains more new → Writes (rows_writes more) (key_of (row.Task (task_name new)))) → IsNew answers new → Writes (rows_writes (other ∷ more)) (key_of (row.Task (task_name new)))
    by (inl same) rest new_is = subst (λ n. Writes (rows_writes (other ∷ more)) (key_of (row.Task (task_name n)))) same
        (one_of other (rows_writes more) (key_of (row.Task (task_name other))) false true (no_row other its) (same_bytes_itself (key_of (row.Task (task_name other)))))
    by (inr within) rest new_is = later new_is (rest within) (same_bytes (key_of (row.Task (task_name new))) (key_of (row.Task (task_name other)))) refl

-- ---- a worker's own task is none of theirs

nothing_added : {A : Type 0} (rows : List NodeRow) (new : NodeRow) → rows ≡ [] → Contains rows new → A
nothing_added rows new none there = absurd (nothing_in new (subst (λ rs. Contains rs new) none there))

pub own_is_not_added : (answers : List Answer) (name : TaskName) (cursor : List ℕ) (moved : Option Key) (rows : List NodeRow) (new : NodeRow) → IsDoneFor answers name cursor moved rows → Contains rows new → task_name new ≢ name
own_is_not_added answers (task.Triple triple) cursor moved rows new done there = by new.is_result
  where
    by : (b : Bool) → (if b then task.Export new.registration new.cells else task.Row new.registration new.node new.cells) ≢ task.Triple triple
    by true e = cc
    by false e = cc
own_is_not_added answers (task.Backfill registration node) cursor moved rows new done there = by new.is_result
  where
    by : (b : Bool) → (if b then task.Export new.registration new.cells else task.Row new.registration new.node new.cells) ≢ task.Backfill registration node
    by true e = cc
    by false e = cc
own_is_not_added answers (task.Row registration node cells) cursor moved rows new done there = by done.adds
  where
    by : (IsFoundIn answers (key_of (row_name (result_row registration cells done.child done.parent))) × (rows ≡ [])) ⊎
        (IsMissedIn answers (key_of (row_name (result_row registration cells done.child done.parent))) × (rows ≡ result_row registration cells done.child done.parent ∷ [])) → task_name new ≢ task.Row registration node cells
    by (inl is) = nothing_added rows new is.1 there
    by (inr is) = is_result (first_or_later (result_row registration cells done.child done.parent) [] new (subst (λ rs. Contains rs new) is.1 there))
      where
        is_result : (result_row registration cells done.child done.parent ≡ new) ⊎ Contains [] new → task_name new ≢ task.Row registration node cells
        is_result (inl same) e = let clash : task.Export registration (result_row registration cells done.child done.parent).cells ≡ task.Row registration node cells = ap task_name same ∙ e in cc
        is_result (inr none) e = nothing_in new none
own_is_not_added answers (task.Export registration cells) cursor moved rows new done there = nothing_added rows new done.1 there
