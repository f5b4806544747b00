-- The rows of nodes that stand stay true, and each that is added is true.
use Rattle.std.proofs.Common.{◌≡◌, ◌⊎◌, inl, inr, ◌<◌, ℕ, false, List, [], ◌∷◌, Option, Some, None, refl, ap, sym, subst, ◌∙◌, arith}
use Rattle.std.specs.List.{Contains}
use Rattle.pcj_term.proofs.ListLemmas.{nothing_in}
use Rattle.pcj_term.specs.declared.triple.Triple.{Triple}
use Rattle.pcj_table.specs.Table.{Key}
use Rattle.pcj_table.specs.declared.write.Write.{Write}
use Rattle.pcj_encode.specs.declared.key_name.KeyName.{KeyName}
use Rattle.pcj_encode.specs.declared.key_name.KeyName.TheVariants as row
use Rattle.pcj_encode.specs.declared.task_name.TaskName.{TaskName}
use Rattle.pcj_encode.specs.declared.task_name.TaskName.TheVariants as task
use Rattle.pcj_encode.specs.Name.{IsTriple, key_of}
use Rattle.pcj_expr.specs.declared.mapping.Mapping.{Mapping}
use Rattle.pcj_algebra.specs.declared.triple_pattern.TriplePattern.{TriplePattern}
use Rattle.pcj_algebra.specs.Match.{Matches}
use Rattle.pcj_patterns.specs.Serving.{rows_of}
use Rattle.pcj_tree.specs.declared.node.Node.{Node}
use Rattle.pcj_tree.specs.Meaning.{numbered}
use Rattle.pcj_obs_pattern.specs.Rows.{cells_of}
use Rattle.pcj_obs_pass.specs.Plan.{IsProjected}
use Rattle.pcj_mvcc.specs.Reading.{Rows, standing}
use Rattle.pcj_moves.specs.Transactions.{write_at}
use Rattle.pcj_moves.specs.declared.answer.Answer.{Answer}
use Rattle.pcj_rows.specs.Reads.{IsFoundIn, IsMissedIn}
use Rattle.pcj_rows.proofs.ValueLemmas.{one_commit}
use Rattle.pcj_duties.specs.Added.{NodeRow, row_name}
use Rattle.pcj_nodes.specs.Commits.{Commits}
use Rattle.pcj_nodes.specs.Nodes.{IsNodeRow, IsRowOver, NodeRowsAreTrue, is_group}
use Rattle.pcj_duties.specs.Observers.{ForBackfill, ForRow, ForTriple, HasPurpose, IsDoneFor, IsObserverPlan, MeetsNext, MeetsNextTriple, result_row}
use Rattle.pcj_nodes.specs.Puts.{PutsStay}
use Rattle.pcj_nodes.specs.Tasks.{RowTasksHaveOrigins}
use Rattle.pcj_duties.proofs.MetLemmas.{it_is_added, it_is_met}
use Rattle.pcj_nodes.proofs.FactLemmas.{ReadsPattern, StandsSince, reads_pattern, row_triple, task_row, task_triple, tree_is_read}
use Rattle.pcj_duties.proofs.PurposeLemmas.{AddsNode, node_written}
use Rattle.pcj_nodes.proofs.StayLemmas.{over_still, registered_stays}
use Rattle.pcj_nodes.proofs.TreeLemmas.{pattern_row_over, result_row_over}

-- what is true of the row of a name, where it is one of a node
abbrev pub IsTrueRow : Rows → ℕ → KeyName → Type 0
IsTrueRow rows commit (row.Node registration number cells) = IsNodeRow rows registration number cells commit
IsTrueRow rows commit _ = Unit {0}

-- ---- a row that is added

nothing_there : {A : Type 0} (rows : List NodeRow) (new : NodeRow) → rows ≡ [] → Contains rows new → A
nothing_there rows new none there = absurd (nothing_in new (subst (λ rs. Contains rs new) none there))

-- the row of a match is true
match_is_true : (number commit start : ℕ) (answers : List Answer) (writes : List Write) (before after : Rows) (registration node : ℕ) (of : TriplePattern) (order : List (List ℕ)) (triple : Triple) (mapping : Mapping) →
    Commits number commit start answers writes before after → PutsStay after → IsTriple triple → StandsSince before start (Rattle.pcj_rowtables.specs.Rows.triple_key Rattle.pcj_encode.specs.declared.order.Order.TheVariants.Spo triple) → ReadsPattern before start registration node of order → Matches of triple mapping →
    IsNodeRow after registration node (cells_of order mapping) commit
match_is_true number commit start answers writes before after registration node of order triple mapping its puts valid there pattern matches = record {
  name = pattern.name;
  tree = pattern.tree;
  at = pattern.at;
  registered = registered_stays number commit start answers writes before after registration pattern.name pattern.tree pattern.at its puts pattern.registered;
  later = let since = pattern.since in let begun = its.begun in let granted = its.granted in omega (arith, since, begun, granted);
  node = pattern.node;
  is_node = pattern.is_node;
  no_group = ap is_group pattern.is_pattern;
  over = over_still number commit start answers writes before after pattern.tree node pattern.node (cells_of order mapping) its puts
      (subst (λ o. IsRowOver before pattern.tree node pattern.node (cells_of o mapping)) pattern.its_order
      (pattern_row_over before pattern.tree node pattern.node of triple mapping pattern.registered.of_query pattern.is_node pattern.is_pattern (valid, ap Rattle.std.proofs.Common.is_some there.stands) matches));
}

of_triple : (number commit start : ℕ) (answers : List Answer) (writes : List Write) (before after : Rows) (triple : Triple) (cursor : List ℕ) (moved : Option Key) (rows : List NodeRow) (new : NodeRow) →
    Commits number commit start answers writes before after → PutsStay before → PutsStay after → Rattle.pcj_rows.specs.Reads.HasRead answers (row.Task (task.Triple triple)) cursor → ForTriple answers triple cursor moved rows → Contains rows new → IsTrueRow after commit (row_name new)
of_triple number commit start answers writes before after triple cursor moved rows new its puts puts' read done there = by moved done.next
  where
    by : (place : Option Key) → MeetsNext answers triple place rows → IsTrueRow after commit (row_name new)
    by None none = nothing_there rows new none there
    by (Some place) met =
        let is = it_is_met answers met.registration met.node met.of met.order triple rows new met.meets there in
        let pattern = reads_pattern number commit start answers writes before after met.registration met.node met.of met.order place met.value its puts met.is_row met.read in
        subst (λ n. IsTrueRow after commit (row_name n)) is.2
        (match_is_true number commit start answers writes before after met.registration met.node met.of met.order triple is.0 its puts' read.valid
        (task_triple number commit start answers writes before after triple cursor its puts read.valid read) pattern is.1)

of_backfill : (number commit start : ℕ) (answers : List Answer) (writes : List Write) (before after : Rows) (registration node : ℕ) (cursor : List ℕ) (moved : Option Key) (rows : List NodeRow) (new : NodeRow) →
    Commits number commit start answers writes before after → PutsStay before → PutsStay after → ForBackfill answers registration node cursor moved rows → Contains rows new → IsTrueRow after commit (row_name new)
of_backfill number commit start answers writes before after registration node cursor moved rows new its puts puts' done there = by moved done.next
  where
    by : (place : Option Key) → MeetsNextTriple answers registration node done.of done.order place rows → IsTrueRow after commit (row_name new)
    by None none = nothing_there rows new none there
    by (Some place) met =
        let is = it_is_met answers registration node done.of done.order met.triple rows new met.meets there in
        let pattern = reads_pattern number commit start answers writes before after registration node done.of done.order (key_of (row.Pattern registration node)) done.value its puts done.is_row done.read in
        subst (λ n. IsTrueRow after commit (row_name n)) is.2
        (match_is_true number commit start answers writes before after registration node done.of done.order met.triple is.0 its puts' met.read.valid
        (row_triple number commit start answers writes before after (rows_of done.of).0 met.triple met.value its puts met.read.valid met.read) pattern is.1)

-- that of a projection, for a row that is true
of_row : (number commit start : ℕ) (answers : List Answer) (writes : List Write) (before after : Rows) (registration node : ℕ) (cells : List (List ℕ)) (cursor : List ℕ) (moved : Option Key) (rows : List NodeRow) (new : NodeRow) →
    Commits number commit start answers writes before after → PutsStay before → PutsStay after → RowTasksHaveOrigins before → NodeRowsAreTrue before → Rattle.pcj_rows.specs.Reads.HasRead answers (row.Task (task.Row registration node cells)) cursor →
    ForRow answers registration node cells moved rows → Contains rows new → IsTrueRow after commit (row_name new)
of_row number commit start answers writes before after registration node cells cursor moved rows new its puts puts' tasks true_rows read done there =
    subst (λ n. IsTrueRow after commit (row_name n)) (it_is_added answers (result_row registration cells done.child done.parent) rows new done.adds there) made
  where
    origin : StandsSince before start (key_of (row.Node registration node cells))
    origin = task_row number commit start answers writes before after registration node cells cursor its puts tasks read

    below : IsNodeRow before registration node cells origin.put.1
    below = true_rows registration node cells origin.put read.valid origin.stands

    tree : below.tree ≡ done.tree
    tree = tree_is_read number commit start answers writes before after registration done.name below.name done.tree below.tree below.at its puts done.of_query done.read below.registered

    projected : IsProjected below.tree node cells done.child done.parent
    projected = subst (λ t. IsProjected t node cells done.child done.parent) (sym tree) done.projected

    one_node : (found : Option Node) → found ≡ Some below.node → found ≡ Some done.child → below.node ≡ done.child
    one_node found e e' = cc

    child : IsRowOver before below.tree node done.child cells
    child = subst (λ n. IsRowOver before below.tree node n cells) (one_node (numbered below.tree.nodes node) below.is_node projected.child_is) below.over

    made : IsTrueRow after commit (row_name (result_row registration cells done.child done.parent))
    made = record {
      name = below.name;
      tree = below.tree;
      at = below.at;
      registered = registered_stays number commit start answers writes before after registration below.name below.tree below.at its puts' below.registered;
      later = let first = below.later in let since = origin.since in let begun = its.begun in let granted = its.granted in omega (arith, first, since, begun, granted);
      node = done.parent;
      is_node = projected.parent_is;
      no_group = ap is_group projected.projects;
      over = over_still number commit start answers writes before after below.tree done.child.parent done.parent (result_row registration cells done.child done.parent).cells its puts'
          (result_row_over before below.tree node cells done.child done.parent below.registered.of_query projected child);
    }

-- whatever the task was
pub new_is_true : (number commit start : ℕ) (answers : List Answer) (writes : List Write) (before after : Rows) (new : NodeRow) → Commits number commit start answers writes before after → PutsStay before → PutsStay after → RowTasksHaveOrigins before → NodeRowsAreTrue before →
    (work : IsObserverPlan start answers writes) → Contains work.rows new → IsTrueRow after commit (row_name new)
new_is_true number commit start answers writes before after new its puts puts' tasks true_rows work there = by work.task work.read work.done
  where
    by : (name : TaskName) → Rattle.pcj_rows.specs.Reads.HasRead answers (row.Task name) work.cursor → IsDoneFor answers name work.cursor work.moved work.rows → IsTrueRow after commit (row_name new)
    by (task.Triple triple) read done = of_triple number commit start answers writes before after triple work.cursor work.moved work.rows new its puts puts' read done there
    by (task.Backfill registration node) read done = of_backfill number commit start answers writes before after registration node work.cursor work.moved work.rows new its puts puts' done there
    by (task.Row registration node cells) read done = of_row number commit start answers writes before after registration node cells work.cursor work.moved work.rows new its puts puts' tasks true_rows read done there
    by (task.Export registration cells) read done = nothing_there work.rows new done.1 there

-- ---- all rows

-- a row that was true still is
pub still_true : (number commit start : ℕ) (answers : List Answer) (writes : List Write) (before after : Rows) (registration node : ℕ) (cells : List (List ℕ)) (at : ℕ) → Commits number commit start answers writes before after → PutsStay after →
    IsNodeRow before registration node cells at → IsNodeRow after registration node cells at
still_true number commit start answers writes before after registration node cells at its puts is = record {
  name = is.name;
  tree = is.tree;
  at = is.at;
  registered = registered_stays number commit start answers writes before after registration is.name is.tree is.at its puts is.registered;
  later = is.later;
  node = is.node;
  is_node = is.is_node;
  no_group = is.no_group;
  over = over_still number commit start answers writes before after is.tree node is.node cells its puts is.over;
}

pub nodes_stay_true : (number commit start : ℕ) (answers : List Answer) (writes : List Write) (before after : Rows) → Commits number commit start answers writes before after → HasPurpose start answers writes → PutsStay before → PutsStay after → RowTasksHaveOrigins before →
    NodeRowsAreTrue before → NodeRowsAreTrue after
nodes_stay_true number commit start answers writes before after its purpose puts puts' tasks true_rows registration node cells put named stands = by (node_written start answers writes registration node cells purpose named)
  where
    by : (write_at writes (key_of (row.Node registration node cells)) ≡ None) ⊎ AddsNode start answers writes registration node cells → IsNodeRow after registration node cells put.1
    by (inl none) = still_true number commit start answers writes before after registration node cells put.1 its puts'
        (true_rows registration node cells put named (sym (its.whole.others (key_of (row.Node registration node cells)) none).stands ∙ stands))
    by (inr adds) =
        subst (IsNodeRow after registration node cells) (one_commit (standing after (key_of (row.Node registration node cells))) [] put.0 commit put.1 (its.whole.written (key_of (row.Node registration node cells)) _ adds.written).stands stands)
        (subst (IsTrueRow after commit) adds.adds.is (new_is_true number commit start answers writes before after adds.adds.new its puts puts' tasks true_rows adds.work adds.adds.held))
