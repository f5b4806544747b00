-- The tree of a query of one triple pattern, and the plan of a row below its projection.
use Rattle.std.proofs.Common.{◌≡◌, inl, ◌<◌, ℕ, zero, suc, length, List, [], ◌∷◌, ◌++◌, ◌+◌, Option, Some, None, IsSome, refl, ap, sym, subst, ◌∙◌, arith}
use Rattle.std.specs.List.{All, Contains}
use Rattle.std.proofs.lemmas.List.{length-map}
use Rattle.std.proofs.lemmas.Option.{same_Some}
use Rattle.std.proofs.lemmas.List.Elements.{All-weaker, Contains-append_right}
use Rattle.pcj_term.proofs.ListLemmas.{nothing_in}
use Rattle.pcj_encode.specs.declared.key_name.KeyName.TheVariants as row
use Rattle.pcj_encode.specs.declared.task_name.TaskName.{TaskName}
use Rattle.pcj_encode.specs.declared.task_name.TaskName.TheVariants as named
use Rattle.pcj_encode.specs.Name.{IsTask, key_of}
use Rattle.pcj_expr.specs.Truth.{bound}
use Rattle.pcj_expr.specs.declared.expr.Expr.{Expr}
use Rattle.pcj_algebra.specs.declared.pattern.Pattern.{Pattern, Pattern-F}
use Rattle.pcj_algebra.specs.declared.pattern.Pattern.TheFolds.{fold-roll-Pattern}
use Rattle.pcj_algebra.specs.declared.pattern.Pattern.TheOpen as open_pattern
use Rattle.pcj_algebra.specs.declared.pattern.Pattern.TheVariants as pattern
use Rattle.pcj_algebra.specs.declared.pattern.Pattern.TheVariants.{rolls-Triple, rolls-Join, rolls-Filter, rolls-Union}
use Rattle.pcj_algebra.specs.declared.pattern.Pattern.TheViews.{out-Pattern, out-roll-Pattern}
use Rattle.pcj_algebra.specs.declared.query.Shape.{Shape}
use Rattle.pcj_algebra.specs.declared.triple_pattern.TriplePattern.{TriplePattern}
use Rattle.pcj_algebra.specs.Variables.{names_step, pattern_names, triple_names}
use Rattle.pcj_answers.specs.Rows.{cell}
use Rattle.pcj_tree.specs.declared.node.Node.{Node}
use Rattle.pcj_tree.specs.declared.node.NodeKind.TheVariants as kind
use Rattle.pcj_tree.specs.declared.tree.Tree.{Tree}
use Rattle.pcj_tree.specs.Meaning.{numbered}
use Rattle.pcj_tree.specs.Order.{IsOrder}
use Rattle.pcj_tree.specs.Tree as part
use Rattle.pcj_tree.specs.Tree.{AreNodes, HasOrder, node_of, size_of, top_node}
use Rattle.pcj_tree.proofs.StoredLaws.{size_triple}
use Rattle.pcj_notify.specs.declared.ask.Ask.{Ask}
use Rattle.pcj_notify.specs.declared.ask.Ask.TheVariants.{Get, Commit}
use Rattle.pcj_notify.specs.declared.task.Task.{Task}
use Rattle.pcj_notify.specs.Plans.{finish, result_writes, task_key, unless_found}
use Rattle.pcj_obs_pass.specs.Cells.{cells_at}
use Rattle.pcj_obs_pass.specs.Plan.{IsNamedAsk, IsProjected}
use Rattle.pcj_mvcc.specs.Reading.{Rows, seen}
use Rattle.pcj_moves.specs.declared.answer.Answer.{Answer}
use Rattle.pcj_moves.specs.Reads.{value_seen}
use Rattle.pcj_rows.specs.Registrations.{IsQueryTree, registration_value}
use Rattle.pcj_rows.proofs.ValueLemmas.{one_value}
use Rattle.pcj_nodes.specs.Nodes.{IsRowOver}
use Rattle.pcj_nodes.specs.Tasks.{IsRowTask}
use Rattle.pcj_nodes.proofs.FactLemmas.{one_tree}
use Rattle.pcj_plans.specs.Told.{HasAsked}
use Rattle.pcj_asks.specs.Asks.{AtWork, IsOfOnePattern}
use Rattle.pcj_asks.specs.Laws.{PassesGoOn}
use Rattle.pcj_asks.proofs.AskLemmas.{Looks, looks_on}
use Rattle.pcj_asks.proofs.ReadLemmas.{first_seen, second_seen, some_seen}
use Rattle.pcj_asks.proofs.RegistrationLemmas.{SeesRow, registration_seen, row_since, task_sees}

-- ---- the nodes of a triple pattern

-- what the nodes of a pattern are, where its outermost form is a triple pattern
abbrev Layer : Pattern-F Pattern → ℕ → Option Pattern → List Node → Type 0
Layer (open_pattern.Triple of) parent sibling nodes = (order : List (List ℕ)) × HasOrder (pattern.Triple of) sibling order × (nodes ≡ node_of (kind.Pattern of) parent order ∷ [])
Layer (open_pattern.Join left right) parent sibling nodes = Unit {0}
Layer (open_pattern.Filter condition inner) parent sibling nodes = Unit {0}
Layer (open_pattern.Union left right) parent sibling nodes = Unit {0}

out_triple : (of : TriplePattern) → out-Pattern (pattern.Triple of) ≡ open_pattern.Triple of
out_triple of = ap out-Pattern (sym (rolls-Triple of)) ∙ out-roll-Pattern (open_pattern.Triple of)

out_join : (left right : Pattern) → out-Pattern (pattern.Join left right) ≡ open_pattern.Join left right
out_join left right = ap out-Pattern (sym (rolls-Join left right)) ∙ out-roll-Pattern (open_pattern.Join left right)

out_filter : (condition : Expr) (inner : Pattern) → out-Pattern (pattern.Filter condition inner) ≡ open_pattern.Filter condition inner
out_filter condition inner = ap out-Pattern (sym (rolls-Filter condition inner)) ∙ out-roll-Pattern (open_pattern.Filter condition inner)

out_union : (left right : Pattern) → out-Pattern (pattern.Union left right) ≡ open_pattern.Union left right
out_union left right = ap out-Pattern (sym (rolls-Union left right)) ∙ out-roll-Pattern (open_pattern.Union left right)

layered : (p : Pattern) (layer : Pattern-F Pattern) (parent : ℕ) (sibling : Option Pattern) (nodes : List Node) → out-Pattern p ≡ layer → Layer layer parent sibling nodes → Layer (out-Pattern p) parent sibling nodes
layered p layer parent sibling nodes is h = subst (λ (l : Pattern-F Pattern). Layer l parent sibling nodes) (sym is) h

inverted : {p : Pattern} {before parent : ℕ} {sibling : Option Pattern} {nodes : List Node} → AreNodes p before parent sibling nodes → Layer (out-Pattern p) parent sibling nodes
inverted (part.triple {parent = parent} {sibling = sibling} {order = order} of has) = layered (pattern.Triple of) (open_pattern.Triple of) parent sibling _ (out_triple of) (order, has, refl)
inverted {nodes = nodes} (part.joined {parent = parent} {sibling = sibling} left right first second l r has) = layered (pattern.Join left right) (open_pattern.Join left right) parent sibling nodes (out_join left right) tt
inverted {nodes = nodes} (part.filtered {parent = parent} {sibling = sibling} condition inner first i has) = layered (pattern.Filter condition inner) (open_pattern.Filter condition inner) parent sibling nodes (out_filter condition inner) tt
inverted {nodes = nodes} (part.united {parent = parent} {sibling = sibling} left right first second l r has) = layered (pattern.Union left right) (open_pattern.Union left right) parent sibling nodes (out_union left right) tt

names_triple : (of : TriplePattern) → pattern_names (pattern.Triple of) ≡ triple_names of
names_triple of = ap pattern_names (sym (rolls-Triple of)) ∙ fold-roll-Pattern (List (List ℕ)) names_step (open_pattern.Triple of)

-- an order beside no sibling has all variables
has_all : (all order : List (List ℕ)) (name : List ℕ) → IsOrder all [] order → Contains all name → Contains order name
has_all all order name is there = subst (λ (names : List (List ℕ)). Contains names name) (sym is.is_order)
    (Contains-append_right is.shared is.others name ((is.are_others.each name).1 (there, λ none. nothing_in name none)))

-- the two nodes of such a tree
record TwoNodes (tree : Tree) : Type 0 where
  of : TriplePattern
  order : List (List ℕ)
  names : List (List ℕ)
  among : All (λ name. Contains order name) names
  nodes_are : tree.nodes ≡ node_of (kind.Pattern of) 2 order ∷ node_of (kind.Project 1) 0 names ∷ []

two_nodes : (tree : Tree) → IsOfOnePattern tree → TwoNodes tree
two_nodes tree one = record {
  of = one.of;
  order = layer.0;
  names = one.names;
  among = All-weaker (λ name. Contains (triple_names one.of) name) (λ name. Contains layer.0 name)
      (λ name there. has_all (pattern_names (pattern.Triple one.of)) layer.0 name layer.1 (subst (λ (all : List (List ℕ)). Contains all name) (sym (names_triple one.of)) there)) one.names one.among;
  nodes_are = one.is.nodes ∙ ap (λ (ns : List Node). ns ++ top_node one.query.shape (size_of one.query.pattern) ∷ []) layer.2
      ∙ ap (λ n. node_of (kind.Pattern one.of) (n + 1) layer.0 ∷ top_node one.query.shape n ∷ []) size
      ∙ ap (λ (s : Shape). node_of (kind.Pattern one.of) 2 layer.0 ∷ top_node s 1 ∷ []) one.shape_is;
}
  where
    size : size_of one.query.pattern ≡ 1
    size = ap size_of one.pattern_is ∙ size_triple one.of

    layer : Layer (open_pattern.Triple one.of) (size_of one.query.pattern + 1) None one.is.parts
    layer = subst (λ (l : Pattern-F Pattern). Layer l (size_of one.query.pattern + 1) None one.is.parts) (ap out-Pattern one.pattern_is ∙ out_triple one.of) (inverted one.is.are_parts)

-- the first of two has the number 1
first_of_two : (first second node : Node) (number : ℕ) → numbered (first ∷ second ∷ []) number ≡ Some node → number < 2 → (number ≡ 1) × (first ≡ node)
first_of_two first second node zero at less = absurd cc
first_of_two first second node (suc zero) at less = (refl, same_Some first node at)
first_of_two first second node (suc (suc number)) at less = absurd (omega (arith, less))

-- a row has a cell for each variable
cells_fit : (rows : Rows) (tree : Tree) (number : ℕ) (node : Node) (cells : List (List ℕ)) → IsRowOver rows tree number node cells → length cells ≡ length node.order
cells_fit rows tree number node cells over =
    ap length over.cells_are ∙ length-map over.its cell ∙ ap length over.is_row.2 ∙ length-map node.order (bound over.is_row.0)

-- a row below the last node is one that the projection takes
project_takes : (rows : Rows) (tree : Tree) (number : ℕ) (node : Node) (cells : List (List ℕ)) → TwoNodes tree → numbered tree.nodes number ≡ Some node → number < length tree.nodes → IsRowOver rows tree number node cells →
    (child : Node) × (parent : Node) × IsProjected tree number cells child parent
project_takes rows tree number node cells two at inner over = (
  child,
  parent,
  record {
    child_is = ap (λ (ns : List Node). numbered ns number) two.nodes_are ∙ ap (numbered (child ∷ parent ∷ [])) place.0;
    parent_is = ap (λ (ns : List Node). numbered ns 2) two.nodes_are;
    projects = ap kind.Project (sym place.0);
    cells_fit = cells_fit rows tree number node cells over ∙ ap (λ (n : Node). length n.order) (sym place.1);
    names = two.among;
  },
)
  where
    child : Node
    child = node_of (kind.Pattern two.of) 2 two.order

    parent : Node
    parent = node_of (kind.Project 1) 0 two.names

    place : (number ≡ 1) × (child ≡ node)
    place = first_of_two child parent node number (sym (ap (λ (ns : List Node). numbered ns number) two.nodes_are) ∙ at) (subst (λ (ns : List Node). number < length ns) two.nodes_are inner)

-- ---- the plan

row_looks : (task : Task) (tree : Tree) (registration number : ℕ) (cells : List (List ℕ)) → (child : Node) × (parent : Node) × IsProjected tree number cells child parent → Looks (IsNamedAsk task tree (named.Row registration number cells))
row_looks task tree registration number cells (child, parent, projected) = record {
  begins = (Get (key_of (row.Node registration child.parent (cells_at child.order cells parent.order))), (child, parent, projected, refl));
  first = λ ask is. inl (_, is.3, λ found. (Commit (finish task ∷ unless_found found (result_writes registration child.parent (cells_at child.order cells parent.order))), (child, parent, projected, refl)));
  last = λ found ask is. (_, is.3);
}

-- the tree that was read is that of the row's registration, of which it isn't the last node
record ReadsTree (rows : Rows) (tree : Tree) (number : ℕ) (cells : List (List ℕ)) : Type 0 where
  node : Node
  is_node : numbered tree.nodes number ≡ Some node
  inner : number < length tree.nodes
  over : IsRowOver rows tree number node cells

reads_tree : (number start : ℕ) (rows : Rows) (answers : List Answer) (registration node : ℕ) (cells : List (List ℕ)) (name : List ℕ) (tree : Tree) → AtWork number start rows answers → IsTask (named.Row registration node cells) → IsQueryTree tree →
    IsSome (seen rows (task_key (named.Row registration node cells)) start) → value_seen rows (key_of (row.Registration registration)) start ≡ Some (registration_value name tree) → ReadsTree rows tree node cells
reads_tree number start rows answers registration node cells name tree work valid of some read = subst (λ (t : Tree). ReadsTree rows t node cells) same its
  where
    task : IsRowTask rows registration node cells
    task = work.tasks.of_rows registration node cells start valid some

    sees : SeesRow rows start registration node cells
    sees = task_sees number start rows answers registration node cells work valid some

    its : ReadsTree rows sees.is.tree node cells
    its = record {
      node = sees.is.node;
      is_node = sees.is.is_node;
      inner = subst (λ (t : Tree). node < length t.nodes) (one_tree rows registration task.name sees.is.name task.tree sees.is.tree task.at sees.is.at task.registered sees.is.registered) task.inner;
      over = sees.is.over;
    }

    same : sees.is.tree ≡ tree
    same = (one_value sees.is.name name sees.is.tree tree sees.is.registered.of_query of
        (same_Some _ _ (sym (registration_seen number start rows answers registration sees.is.name sees.is.tree sees.is.at work sees.is.registered (row_since rows start registration node cells sees)) ∙ read))).1

pub passes_go_on : PassesGoOn
passes_go_on number start rows answers task registration node cells name tree told reads work valid name_is of one are asked =
    subst (λ (n : TaskName). (ask : Ask) × IsNamedAsk task tree n told ask) (sym name_is)
    (looks_on (IsNamedAsk task tree (named.Row registration node cells)) told reads
    (row_looks task tree registration node cells (project_takes rows tree node there.node cells (two_nodes tree one) there.is_node there.inner there.over))
    (subst (λ (n : TaskName). HasAsked (IsNamedAsk task tree n) [] told reads) name_is asked))
  where
    own : IsSome (seen rows (task_key (named.Row registration node cells)) start)
    own = subst (λ (n : TaskName). IsSome (seen rows (task_key n) start)) name_is (some_seen rows (task_key task.name) start task.cursor (first_seen rows start answers _ (task_key task.name) (Some task.cursor) work.reads are))

    there : ReadsTree rows tree node cells
    there = reads_tree number start rows answers registration node cells name tree work (subst IsTask name_is valid) of own
        (second_seen rows start answers reads _ (key_of (row.Registration registration)) (Some (registration_value name tree)) work.reads are)
