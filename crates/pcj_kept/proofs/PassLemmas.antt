-- Each row below a projection keeps the projection's row, or its task.
use Rattle.std.proofs.Common.{◌≡◌, ◌⊎◌, inl, inr, ◌<◌, ◌≤◌, ℕ, Bool, true, false, is_some, length, List, [], ◌∷◌, Option, Some, None, IsSome, refl, ap, sym, subst, ◌∙◌, arith}
use Rattle.std.specs.List.{Contains}
use Rattle.pcj_term.proofs.ListLemmas.{first_there}
use Rattle.pcj_table.specs.Table.{Key}
use Rattle.pcj_table.specs.declared.write.Write.{Write}
use Rattle.pcj_encode.specs.declared.key_name.KeyName.TheVariants as row
use Rattle.pcj_encode.specs.declared.task_name.TaskName.TheVariants as task
use Rattle.pcj_encode.specs.Name.{IsCell, IsName, key_of}
use Rattle.pcj_tree.specs.declared.node.Node.{Node}
use Rattle.pcj_tree.specs.declared.tree.Tree.{Tree}
use Rattle.pcj_tree.specs.Meaning.{numbered}
use Rattle.pcj_obs_pass.specs.Cells.{cells_at}
use Rattle.pcj_obs_pass.specs.Plan.{IsProjected}
use Rattle.pcj_obs_pass.proofs.NumberLemmas.{at_most}
use Rattle.pcj_mvcc.specs.Reading.{Rows, standing}
use Rattle.pcj_moves.specs.Transactions.{write_at}
use Rattle.pcj_moves.specs.declared.answer.Answer.{Answer}
use Rattle.pcj_rows.specs.Plans.{put_mark}
use Rattle.pcj_rows.specs.Reads.{IsFoundIn, IsMissedIn}
use Rattle.pcj_rows.specs.Registrations.{IsQueryTree, IsRegistered, registration_value}
use Rattle.pcj_rows.proofs.EachLemmas.{all_map, of_each}
use Rattle.pcj_rows.proofs.RegisterLemmas.{tree_fits}
use Rattle.pcj_duties.specs.Added.{NodeRow, row_name, task_name}
use Rattle.pcj_nodes.specs.Commits.{Commits}
use Rattle.pcj_nodes.specs.Nodes.{IsNodeRow, NodeRowsAreTrue}
use Rattle.pcj_duties.specs.Observers.{ForRow, HasPurpose, IsDoneFor, result_row}
use Rattle.pcj_kept.specs.Passes.{Below, RowsArePassed}
use Rattle.pcj_nodes.specs.Puts.{PutsStay}
use Rattle.pcj_nodes.specs.Tasks.{RowTasksHaveOrigins}
use Rattle.pcj_nodes.proofs.FactLemmas.{one_tree, tree_is_read}
use Rattle.pcj_duties.proofs.PurposeLemmas.{AddsNode, AddsTaskOf, MovesTask, new_task_written, new_written, node_written, row_task_written}
use Rattle.pcj_nodes.proofs.StayLemmas.{IsNewOne, still_there, was_registered}
use Rattle.pcj_nodes.proofs.TaskLemmas.{HasPlace, IsPlace, new_place}
use Rattle.pcj_nodes.proofs.TreeLemmas.{last_has_no_parent, project_is_last}
use Rattle.pcj_duties.proofs.CellLemmas.{passed_cells}
use Rattle.pcj_nodes.proofs.ViewLemmas.{found_stands, what_stands}

-- ---- the row of the projection

-- it has a name
pub result_named : (registration : ℕ) (tree : Tree) (number : ℕ) (cells : List (List ℕ)) (child parent : Node) → IsQueryTree tree → IsName (row.Node registration number cells) → IsProjected tree number cells child parent →
    IsName (row.Node registration child.parent (cells_at child.order cells parent.order))
result_named registration tree number cells child parent of named projected = (
  named.0,
  (let le = at_most tree.nodes child.parent (ap is_some projected.parent_is) in let fits = tree_fits tree of in omega (arith, le, fits)),
  all_map (Contains cells) IsCell (λ cell there. of_each IsCell cells cell named.2 there) (cells_at child.order cells parent.order) (passed_cells child.order cells parent.order projected.cells_fit projected.names),
)

-- no row of a last node is below one
last_is_not_below : {A : Type 0} (tree : Tree) (number : ℕ) (cells : List (List ℕ)) (child parent : Node) → IsQueryTree tree → IsProjected tree number cells child parent → number ≡ length tree.nodes → A
last_is_not_below tree number cells child parent of projected last =
    let none : child.parent ≡ 0 = last_has_no_parent of.query tree number child of.is projected.child_is last in
    let same = project_is_last of.query tree child.parent number parent of.is projected.parent_is projected.projects in
    absurd (at_nothing tree.nodes parent (ap (numbered tree.nodes) (sym none) ∙ projected.parent_is))
  where
    at_nothing : (nodes : List Node) (node : Node) → numbered nodes 0 ≡ Some node → ⊥
    at_nothing [] node e = cc
    at_nothing (first ∷ nodes) node e = cc

-- ---- a row that is added has its task

added_has_task : (number commit start : ℕ) (answers : List Answer) (writes : List Write) (before after : Rows) (below : Below after) → Commits number commit start answers writes before after → (adds : AddsNode start answers writes below.registration below.number below.cells) → HasPlace after adds.adds.new →
    IsSome (standing after (key_of (row.Task (task.Row below.registration below.number below.cells))))
added_has_task number commit start answers writes before after below its adds place = by new.is_result refl place.place
  where
    new : NodeRow
    new = adds.adds.new

    registration_is : new.registration ≡ below.registration
    registration_is = let is = adds.adds.is in cc

    number_is : new.node ≡ below.number
    number_is = let is = adds.adds.is in cc

    cells_are : new.cells ≡ below.cells
    cells_are = let is = adds.adds.is in cc

    same_tree : place.tree ≡ below.tree
    same_tree = one_tree after below.registration place.name below.name place.tree below.tree place.at below.at (subst (λ r. IsRegistered after r place.name place.tree place.at) registration_is place.registered) below.registered

    task_is : new.is_result ≡ false → task_name new ≡ task.Row below.registration below.number below.cells
    task_is e = ap (λ b. Rattle.std.proofs.Common.if◌then◌else◌ b (task.Export new.registration new.cells) (task.Row new.registration new.node new.cells)) e
        ∙ ap (λ r. task.Row r new.node new.cells) registration_is ∙ ap (λ n. task.Row below.registration n new.cells) number_is ∙ ap (task.Row below.registration below.number) cells_are

    by : (b : Bool) → new.is_result ≡ b → IsPlace new.is_result new.node (length place.tree.nodes) → IsSome (standing after (key_of (row.Task (task.Row below.registration below.number below.cells))))
    by true e at = last_is_not_below below.tree below.number below.cells below.child below.parent below.registered.of_query below.projected
        (sym number_is ∙ subst (λ c. IsPlace c new.node (length place.tree.nodes)) e at ∙ ap (λ (t : Tree). length t.nodes) same_tree)
    by false e at = ap is_some (its.whole.written (key_of (row.Task (task.Row below.registration below.number below.cells))) _
        (subst (λ t. write_at writes (key_of (row.Task t)) ≡ Some (put_mark (key_of (row.Task t)))) (task_is e) (new_task_written start answers writes new adds.work adds.adds.is_new.named adds.adds.held))).stands

-- ---- a row whose task is done

-- it has its result
done_has_result : (number commit start : ℕ) (answers : List Answer) (writes : List Write) (before after : Rows) (registration : ℕ) (name : List ℕ) (tree : Tree) (at node : ℕ) (cells : List (List ℕ)) (child parent : Node) → Commits number commit start answers writes before after →
    PutsStay before → PutsStay after → IsRegistered before registration name tree at → IsName (row.Node registration node cells) → IsProjected tree node cells child parent → (own : MovesTask start answers writes (task.Row registration node cells)) →
    ForRow answers registration node cells own.work.moved own.work.rows → IsSome (standing after (key_of (row.Node registration child.parent (cells_at child.order cells parent.order))))
done_has_result number commit start answers writes before after registration name tree at node cells child parent its puts puts' registered named projected own done = subst (λ n. IsSome (standing after (key_of n))) same_row (by done.adds)
  where
    same_tree : tree ≡ done.tree
    same_tree = tree_is_read number commit start answers writes before after registration done.name name done.tree tree at its puts done.of_query done.read registered

    one : (found : Option Node) (a b : Node) → found ≡ Some a → found ≡ Some b → a ≡ b
    one found a b e e' = cc

    same_child : done.child ≡ child
    same_child = one (numbered tree.nodes node) done.child child (ap (λ (t : Tree). numbered t.nodes node) same_tree ∙ done.projected.child_is) projected.child_is

    same_parent : done.parent ≡ parent
    same_parent = one (numbered tree.nodes child.parent) done.parent parent
        (ap (λ (t : Tree). numbered t.nodes child.parent) same_tree ∙ ap (λ (c : Node). numbered done.tree.nodes c.parent) (sym same_child) ∙ done.projected.parent_is) projected.parent_is

    same_row : row_name (result_row registration cells done.child done.parent) ≡ row.Node registration child.parent (cells_at child.order cells parent.order)
    same_row = ap (λ c. row_name (result_row registration cells c done.parent)) same_child ∙ ap (λ p. row_name (result_row registration cells child p)) same_parent

    result_is : IsName (row_name (result_row registration cells done.child done.parent))
    result_is = subst IsName (sym same_row) (result_named registration tree node cells child parent registered.of_query named projected)

    key : Key
    key = key_of (row_name (result_row registration cells done.child done.parent))

    by : (IsFoundIn answers key × (own.work.rows ≡ [])) ⊎ (IsMissedIn answers key × (own.work.rows ≡ result_row registration cells done.child done.parent ∷ [])) → IsSome (standing after key)
    by (inl found) = still_there number commit start answers writes before after key its (puts'.nodes registration done.child.parent (result_row registration cells done.child done.parent).cells result_is)
        (found_stands before start answers key its.reads (puts.nodes registration done.child.parent (result_row registration cells done.child done.parent).cells result_is) found.0)
    by (inr missed) = ap is_some (its.whole.written key _ (new_written start answers writes (result_row registration cells done.child done.parent) own.work result_is
        (subst (λ rs. Contains rs (result_row registration cells done.child done.parent)) (sym missed.1) (first_there (result_row registration cells done.child done.parent) [])))).stands

-- ---- all rows

pub rows_stay_passed : (number commit start : ℕ) (answers : List Answer) (writes : List Write) (before after : Rows) → Commits number commit start answers writes before after → HasPurpose start answers writes → PutsStay before → PutsStay after → RowTasksHaveOrigins before → NodeRowsAreTrue before →
    RowsArePassed before → RowsArePassed after
rows_stay_passed number commit start answers writes before after its purpose puts puts' tasks true_rows passed below = by (node_written start answers writes below.registration below.number below.cells purpose below.named)
  where
    own_key : Key
    own_key = key_of (row.Node below.registration below.number below.cells)

    task_key : Key
    task_key = key_of (row.Task (task.Row below.registration below.number below.cells))

    result_key : Key
    result_key = key_of (row.Node below.registration below.child.parent (cells_at below.child.order below.cells below.parent.order))

    result_is : IsName (row.Node below.registration below.child.parent (cells_at below.child.order below.cells below.parent.order))
    result_is = result_named below.registration below.tree below.number below.cells below.child below.parent below.registered.of_query below.named below.projected

    -- where its registration stood before
    task_left : (registered : IsRegistered before below.registration below.name below.tree below.at) → IsSome (standing before task_key) →
        (write_at writes task_key ≡ None) ⊎ (MovesTask start answers writes (task.Row below.registration below.number below.cells) ⊎ AddsTaskOf start answers writes (task.Row below.registration below.number below.cells)) →
        IsSome (standing after task_key) ⊎ IsSome (standing after result_key)
    task_left registered some (inl none) = inl (ap is_some (its.whole.others task_key none).stands ∙ some)
    task_left registered some (inr (inl own)) = inr (done_has_result number commit start answers writes before after below.registration below.name below.tree below.at below.number below.cells below.child below.parent its puts puts' registered below.named below.projected own
        (subst (λ n. IsDoneFor answers n own.work.cursor own.work.moved own.work.rows) own.own own.work.done))
    task_left registered some (inr (inr adds)) = inl (ap is_some (its.whole.written task_key _ adds.written).stands)

    stood : (registered : IsRegistered before below.registration below.name below.tree below.at) → IsSome (standing before own_key) → IsSome (standing before task_key) ⊎ IsSome (standing before result_key) → IsSome (standing after task_key) ⊎ IsSome (standing after result_key)
    stood registered some (inl left) = task_left registered left (row_task_written start answers writes (task.Row below.registration below.number below.cells) purpose below.named tt)
    stood registered some (inr there) = inr (still_there number commit start answers writes before after result_key its (puts'.nodes below.registration below.child.parent (cells_at below.child.order below.cells below.parent.order) result_is) there)

    of_old : IsSome (standing before own_key) → IsRegistered before below.registration below.name below.tree below.at ⊎ IsNewOne commit start answers writes below.registration below.name below.tree below.at → IsSome (standing after task_key) ⊎ IsSome (standing after result_key)
    of_old some (inl registered) = stood registered some (passed (record {
      registration = below.registration;
      name = below.name;
      tree = below.tree;
      at = below.at;
      registered = registered;
      number = below.number;
      cells = below.cells;
      named = below.named;
      child = below.child;
      parent = below.parent;
      projected = below.projected;
      stands = some;
    }))
    of_old some (inr new) = absurd (
        let put = what_stands before own_key some in
        let is : IsNodeRow before below.registration below.number below.cells put.0.1 = true_rows below.registration below.number below.cells put.0 below.named put.1 in
        let clash : None ≡ Some (registration_value is.name is.tree, is.at) = sym (its.fresh below.name below.tree new.plan).1 ∙ ap (λ r. standing before (key_of (row.Registration r))) new.number ∙ is.registered.stands in
        cc)

    by : (write_at writes own_key ≡ None) ⊎ AddsNode start answers writes below.registration below.number below.cells → IsSome (standing after task_key) ⊎ IsSome (standing after result_key)
    by (inl none) = of_old (ap is_some (sym (its.whole.others own_key none).stands) ∙ below.stands)
        (was_registered number commit start answers writes before after below.registration below.name below.tree below.at its purpose puts' below.registered)
    by (inr adds) = inl (added_has_task number commit start answers writes before after below its adds (new_place number commit start answers writes before after adds.adds.new its puts puts' tasks true_rows adds.work adds.adds.held))
