-- The task of a row below a projection, whose plan was carried out, does what a worker may do.
use Rattle.std.proofs.Common.{◌≡◌, ◌≤◌, ℕ, is_some, List, [], ◌∷◌, Option, Some, None, refl, ap, sym, subst, ◌∙◌, arith}
use Rattle.std.specs.List.{Contains}
use Rattle.pcj_term.proofs.ListLemmas.{first_there, later_there}
use Rattle.pcj_table.specs.Table.{Key}
use Rattle.pcj_table.specs.declared.write.Write.{Write}
use Rattle.pcj_encode.specs.declared.key_name.KeyName.TheVariants as row
use Rattle.pcj_encode.specs.declared.task_name.TaskName.{TaskName}
use Rattle.pcj_encode.specs.declared.task_name.TaskName.TheVariants as named
use Rattle.pcj_encode.specs.Name.{IsCell, IsName, IsTask, key_of}
use Rattle.pcj_tree.specs.declared.node.Node.{Node}
use Rattle.pcj_tree.specs.declared.tree.Tree.{Tree}
use Rattle.pcj_tree.specs.Meaning.{numbered}
use Rattle.pcj_notify.specs.declared.answer.Answer as notify
use Rattle.pcj_notify.specs.declared.answer.Answer.TheVariants.{Got, Stepped, PlainDone}
use Rattle.pcj_notify.specs.declared.ask.Ask.TheVariants.{Get, Commit}
use Rattle.pcj_notify.specs.Plans.{finish, result_writes, task_key, unless_found}
use Rattle.pcj_obs_pass.specs.Cells.{cells_at}
use Rattle.pcj_obs_pass.specs.Plan.{IsPassAsk, IsProjected}
use Rattle.pcj_obs_pass.proofs.NumberLemmas.{at_most}
use Rattle.pcj_moves.specs.declared.answer.Answer.{Answer}
use Rattle.pcj_moves.specs.declared.answer.Answer.TheVariants.{OfRow}
use Rattle.pcj_rows.specs.Registrations.{IsQueryTree, registration_value}
use Rattle.pcj_rows.proofs.EachLemmas.{all_map, of_each}
use Rattle.pcj_rows.proofs.RegisterLemmas.{tree_fits}
use Rattle.pcj_duties.specs.Added.{row_name}
use Rattle.pcj_duties.specs.Observers.{IsObserverPlan, result_row}
use Rattle.pcj_duties.proofs.CellLemmas.{passed_cells}
use Rattle.pcj_plans.specs.Laws.{PassesArePurposes}
use Rattle.pcj_plans.specs.Told.{HasAsked}
use Rattle.pcj_plans.proofs.AddLemmas.{projected_writes, row_adds, row_is_new, rows_unless}
use Rattle.pcj_plans.proofs.AskedLemmas.{row_asked}
use Rattle.pcj_plans.proofs.MeetLemmas.{own_is_read, same_writes, task_of, with_own}
use Rattle.pcj_plans.proofs.ReadLemmas.{row_is_read}

-- ---- the row of the projection

-- it has a name (result_named of pcj_kept, which stands above)
result_is_named : (registration : ℕ) (tree : Tree) (number : ℕ) (cells : List (List ℕ)) (child parent : Node) → IsQueryTree tree → IsTask (named.Row registration number cells) → IsProjected tree number cells child parent →
    IsName (row_name (result_row registration cells child parent))
result_is_named registration tree number cells child parent of valid projected = (
  valid.0,
  (let le = at_most tree.nodes child.parent (ap is_some projected.parent_is) in let fits = tree_fits tree of in omega (arith, le, fits)),
  all_map (Contains cells) IsCell (λ cell there. of_each IsCell cells cell valid.2 there) (cells_at child.order cells parent.order) (passed_cells child.order cells parent.order projected.cells_fit projected.names),
)

-- and it is one
one_result : (registration : ℕ) (tree : Tree) (number : ℕ) (cells : List (List ℕ)) (child parent other above : Node) → IsProjected tree number cells child parent → IsProjected tree number cells other above →
    row_name (result_row registration cells other above) ≡ row_name (result_row registration cells child parent)
one_result registration tree number cells child parent other above is is' =
    ap (λ (c : Node). row_name (result_row registration cells c above)) same_child ∙ ap (λ (p : Node). row_name (result_row registration cells child p)) same_parent
  where
    one : (found : Option Node) (a b : Node) → found ≡ Some a → found ≡ Some b → a ≡ b
    one found a b e e' = cc

    same_child : other ≡ child
    same_child = one (numbered tree.nodes number) other child is'.child_is is.child_is

    same_parent : above ≡ parent
    same_parent = one (numbered tree.nodes child.parent) above parent (ap (λ (c : Node). numbered tree.nodes c.parent) (sym same_child) ∙ is'.parent_is) is.parent_is

-- ---- the task

-- its row, that of its registration, and more
abbrev with_tree : ℕ → ℕ → List (List ℕ) → List ℕ → List ℕ → Tree → List Answer → List Answer
with_tree registration number cells cursor name tree reads = with_own (named.Row registration number cells) cursor (OfRow (key_of (row.Registration registration)) (Some (registration_value name tree)) ∷ reads)

-- the projection's row was looked for
row_is_projected : (start at registration number : ℕ) (cells : List (List ℕ)) (cursor name : List ℕ) (tree : Tree) (child parent : Node) (found : Option (List ℕ)) (reads : List Answer) (writes : List Write) → 1 ≤ start →
    IsTask (named.Row registration number cells) → IsQueryTree tree → IsProjected tree number cells child parent → Contains reads (OfRow (key_of (row_name (result_row registration cells child parent))) found) →
    writes ≡ finish (task_of (named.Row registration number cells) cursor at) ∷ unless_found found (result_writes registration child.parent (cells_at child.order cells parent.order)) →
    IsObserverPlan start (with_tree registration number cells cursor name tree reads) writes
row_is_projected start at registration number cells cursor name tree child parent found reads writes first valid of projected there writes_are =
    let answers : List Answer = with_tree registration number cells cursor name tree reads in
    let own : Answer = OfRow (task_key (named.Row registration number cells)) (Some cursor) in
    let registered : Answer = OfRow (key_of (row.Registration registration)) (Some (registration_value name tree)) in
    let result : Answer = OfRow (key_of (row_name (result_row registration cells child parent))) found in
    let held : Contains answers result = later_there own (registered ∷ reads) result (later_there registered reads result there) in record {
      first = first;
      task = named.Row registration number cells;
      cursor = cursor;
      read = own_is_read (named.Row registration number cells) cursor (registered ∷ reads) valid;
      moved = None;
      rows = rows_unless found (result_row registration cells child parent);
      new = row_is_new answers (result_row registration cells child parent) found (result_is_named registration tree number cells child parent of valid projected) held;
      done = record {
        name = name;
        tree = tree;
        of_query = of;
        read = row_is_read answers (row.Registration registration) (registration_value name tree) valid.0 (later_there own (registered ∷ reads) registered (first_there registered reads));
        child = child;
        parent = parent;
        projected = projected;
        done = refl;
        adds = row_adds answers (result_row registration cells child parent) found held;
      };
      writes_are = writes_are ∙ ap (λ (ws : List Write). finish (task_of (named.Row registration number cells) cursor at) ∷ ws) (projected_writes registration cells child parent found);
    }

-- by its answers
row_is_planned : (start at registration number : ℕ) (cells : List (List ℕ)) (cursor name : List ℕ) (tree : Tree) (told : List notify.Answer) (reads : List Answer) (writes : List Write) → 1 ≤ start → IsQueryTree tree → IsTask (named.Row registration number cells) →
    HasAsked (IsPassAsk (task_of (named.Row registration number cells) cursor at) tree) [] told reads → IsPassAsk (task_of (named.Row registration number cells) cursor at) tree told (Commit writes) →
    IsObserverPlan start (with_tree registration number cells cursor name tree reads) writes
row_is_planned start at registration number cells cursor name tree [] reads writes first of valid asked (child, parent, projected, e) = absurd cc
row_is_planned start at registration number cells cursor name tree (Got found ∷ []) reads writes first of valid asked (child, parent, projected, e) =
    let task = task_of (named.Row registration number cells) cursor at in
    let key : Key = key_of (row_name (result_row registration cells child parent)) in
    let step = row_asked (IsPassAsk task tree) [] key found [] reads
    (λ ask given. given.3 ∙ ap (λ n. Get (key_of n)) (one_result registration tree number cells child parent given.0 given.1 projected given.2)) asked in
    row_is_projected start at registration number cells cursor name tree child parent found reads writes first valid of projected
    (subst (λ (rs : List Answer). Contains rs (OfRow key found)) (sym step.1) (first_there (OfRow key found) step.0))
    (same_writes writes (finish task ∷ unless_found found (result_writes registration child.parent (cells_at child.order cells parent.order))) e)
row_is_planned start at registration number cells cursor name tree (Got found ∷ second ∷ more) reads writes first of valid asked (child, parent, projected, none) = absurd none
row_is_planned start at registration number cells cursor name tree (Stepped met ∷ more) reads writes first of valid asked (child, parent, projected, none) = absurd none
row_is_planned start at registration number cells cursor name tree (PlainDone ∷ more) reads writes first of valid asked (child, parent, projected, none) = absurd none

pub passes_are_purposes : PassesArePurposes
passes_are_purposes start answers writes task is =
    subst (λ (read : List Answer). IsObserverPlan start read writes) (sym is.answers_are)
    (subst
    (λ (n : TaskName). IsTask n → HasAsked (IsPassAsk (task_of n task.cursor task.start) is.tree) [] is.told is.reads → IsPassAsk (task_of n task.cursor task.start) is.tree is.told (Commit writes) →
    IsObserverPlan start (with_own n task.cursor (OfRow (key_of (row.Registration is.registration)) (Some (registration_value is.name is.tree)) ∷ is.reads)) writes)
    (sym is.name_is)
    (row_is_planned start task.start is.registration is.node is.cells task.cursor is.name is.tree is.told is.reads writes is.first is.of_query) is.valid is.asked is.ends)
