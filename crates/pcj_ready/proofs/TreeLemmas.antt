-- The tree of a query of one pattern has two nodes.
use Rattle.std.proofs.Common.{◌≡◌, ℕ, ◌+◌, List, [], ◌∷◌, ◌++◌, length, Option, Some, None, refl, ap, sym, subst, ◌∙◌, arith}
use Rattle.std.proofs.lemmas.List.Elements.{All-append, Contains-append_right}
use Rattle.std.specs.List.{All, Contains}
use Rattle.pcj_term.proofs.ListLemmas.{nothing_in}
use Rattle.pcj_encode.specs.Name.{IsNode}
use Rattle.pcj_expr.specs.declared.expr.Expr.{Expr}
use Rattle.pcj_algebra.specs.declared.pattern.Pattern.{Pattern, Pattern-F}
use Rattle.pcj_algebra.specs.declared.pattern.Pattern.TheFolds.{fold-roll-Pattern}
use Rattle.pcj_algebra.specs.declared.pattern.Pattern.TheOpen as open_pattern
use Rattle.pcj_algebra.specs.declared.pattern.Pattern.TheVariants as pattern
use Rattle.pcj_algebra.specs.declared.pattern.Pattern.TheVariants.{rolls-Triple, rolls-Join, rolls-Filter, rolls-Union}
use Rattle.pcj_algebra.specs.declared.pattern.Pattern.TheViews.{out-Pattern, out-roll-Pattern}
use Rattle.pcj_algebra.specs.declared.query.Query.{Query}
use Rattle.pcj_algebra.specs.declared.query.Shape.{Shape}
use Rattle.pcj_algebra.specs.declared.query.Shape.TheVariants.{Distinct}
use Rattle.pcj_algebra.specs.declared.triple_pattern.TriplePattern.{TriplePattern}
use Rattle.pcj_algebra.specs.Variables.{names_step, pattern_names, triple_names}
use Rattle.pcj_tree.specs.declared.node.Node.{Node}
use Rattle.pcj_tree.specs.declared.node.NodeKind.TheVariants as kind
use Rattle.pcj_tree.specs.declared.tree.Tree.{Tree}
use Rattle.pcj_tree.specs.Meaning.{numbered}
use Rattle.pcj_tree.specs.Order.{IsOrder}
use Rattle.pcj_tree.specs.Tree as part
use Rattle.pcj_tree.specs.Tree.{AreNodes, HasOrder, IsTree, node_of, size_of, top_node}
use Rattle.pcj_tree.proofs.StoredLaws.{size_triple}
use Rattle.pcj_rows.proofs.EachLemmas.{each_of}

-- the node of the pattern
abbrev pub pattern_node : TriplePattern → List (List ℕ) → Node
pattern_node of order = node_of (kind.Pattern of) 2 order

-- the projection above it
abbrev pub result_node : List (List ℕ) → Node
result_node names = node_of (kind.Project 1) 0 names

-- the tree has these two nodes, and the first one's order has the pattern's variables
pub record IsPair (tree : Tree) (of : TriplePattern) (names : List (List ℕ)) : Type 0 where
  pub order : List (List ℕ)
  pub has : HasOrder (pattern.Triple of) None order
  pub nodes : tree.nodes ≡ pattern_node of order ∷ result_node names ∷ []

-- ---- the nodes of a triple pattern

-- the outermost form of each pattern
out_triple : (of : TriplePattern) → out-Pattern (pattern.Triple of) ≡ open_pattern.Triple of
out_triple of = ap out-Pattern (sym (rolls-Triple of)) ∙ out-roll-Pattern (open_pattern.Triple of)

out_join : (left right : Pattern) → out-Pattern (pattern.Join left right) ≡ open_pattern.Join left right
out_join left right = ap out-Pattern (sym (rolls-Join left right)) ∙ out-roll-Pattern (open_pattern.Join left right)

out_filter : (condition : Expr) (inner : Pattern) → out-Pattern (pattern.Filter condition inner) ≡ open_pattern.Filter condition inner
out_filter condition inner = ap out-Pattern (sym (rolls-Filter condition inner)) ∙ out-roll-Pattern (open_pattern.Filter condition inner)

out_union : (left right : Pattern) → out-Pattern (pattern.Union left right) ≡ open_pattern.Union left right
out_union left right = ap out-Pattern (sym (rolls-Union left right)) ∙ out-roll-Pattern (open_pattern.Union left right)

-- where the pattern is a triple pattern there is one node
abbrev OneNode : Pattern-F Pattern → ℕ → Option Pattern → List Node → Type 0
OneNode (open_pattern.Triple of) parent sibling nodes = (order : List (List ℕ)) × HasOrder (pattern.Triple of) sibling order × (nodes ≡ node_of (kind.Pattern of) parent order ∷ [])
OneNode (open_pattern.Join left right) parent sibling nodes = Unit {0}
OneNode (open_pattern.Filter condition inner) parent sibling nodes = Unit {0}
OneNode (open_pattern.Union left right) parent sibling nodes = Unit {0}

-- the same where the form is known by an equation
one_layer : (layer own : Pattern-F Pattern) (parent : ℕ) (sibling : Option Pattern) (nodes : List Node) → layer ≡ own → OneNode own parent sibling nodes → OneNode layer parent sibling nodes
one_layer layer own parent sibling nodes is one = subst (λ (l : Pattern-F Pattern). OneNode l parent sibling nodes) (sym is) one

-- so it is of the nodes of each pattern
one_node : {p : Pattern} {before parent : ℕ} {sibling : Option Pattern} {nodes : List Node} → AreNodes p before parent sibling nodes → OneNode (out-Pattern p) parent sibling nodes
one_node {parent = parent} {sibling = sibling} {nodes = nodes} (part.triple {order = order} of has) = one_layer _ (open_pattern.Triple of) parent sibling nodes (out_triple of) (order, has, refl)
one_node {parent = parent} {sibling = sibling} {nodes = nodes} (part.joined left right first second l r has) = one_layer _ (open_pattern.Join left right) parent sibling nodes (out_join left right) tt
one_node {parent = parent} {sibling = sibling} {nodes = nodes} (part.filtered condition inner first i has) = one_layer _ (open_pattern.Filter condition inner) parent sibling nodes (out_filter condition inner) tt
one_node {parent = parent} {sibling = sibling} {nodes = nodes} (part.united left right first second l r has) = one_layer _ (open_pattern.Union left right) parent sibling nodes (out_union left right) tt

-- that of a triple pattern
nodes_of_triple : (of : TriplePattern) (p : Pattern) (before parent : ℕ) (sibling : Option Pattern) (nodes : List Node) → p ≡ pattern.Triple of → AreNodes p before parent sibling nodes → OneNode (open_pattern.Triple of) parent sibling nodes
nodes_of_triple of p before parent sibling nodes is are = subst (λ (l : Pattern-F Pattern). OneNode l parent sibling nodes) (ap out-Pattern is ∙ out_triple of) (one_node are)

-- the two nodes of the tree
pub is_pair : (query : Query) (tree : Tree) (of : TriplePattern) (names : List (List ℕ)) → IsTree query tree → query.pattern ≡ pattern.Triple of → query.shape ≡ Distinct names → IsPair tree of names
is_pair query tree of names is triple shape =
    let size : size_of query.pattern ≡ 1 = ap size_of triple ∙ size_triple of in
    let parent : size_of query.pattern + 1 ≡ 2 = ap (λ (n : ℕ). n + 1) size in
    let one = nodes_of_triple of query.pattern 0 (size_of query.pattern + 1) None is.parts triple is.are_parts in
    let parts : is.parts ≡ pattern_node of one.0 ∷ [] = one.2 ∙ ap (λ (n : ℕ). node_of (kind.Pattern of) n one.0 ∷ []) parent in
    let top : top_node query.shape (size_of query.pattern) ≡ result_node names = ap (λ (s : Shape). top_node s (size_of query.pattern)) shape ∙ ap (top_node (Distinct names)) size in
    record {
      order = one.0;
      has = one.1;
      nodes = is.nodes ∙ ap (λ (ns : List Node). ns ++ top_node query.shape (size_of query.pattern) ∷ []) parts ∙ ap (λ (n : Node). pattern_node of one.0 ∷ n ∷ []) top;
    }

-- there are two
pub pair_is_two : (tree : Tree) (of : TriplePattern) (names : List (List ℕ)) → IsPair tree of names → length tree.nodes ≡ 2
pair_is_two tree of names pair = ap length pair.nodes

-- the first of them
pub pattern_at_one : (tree : Tree) (of : TriplePattern) (names : List (List ℕ)) (pair : IsPair tree of names) → numbered tree.nodes 1 ≡ Some (pattern_node of pair.order)
pattern_at_one tree of names pair = ap (λ (ns : List Node). numbered ns 1) pair.nodes

-- and the last
pub result_at_two : (tree : Tree) (of : TriplePattern) (names : List (List ℕ)) → IsPair tree of names → numbered tree.nodes 2 ≡ Some (result_node names)
result_at_two tree of names pair = ap (λ (ns : List Node). numbered ns 2) pair.nodes

-- their numbers are those of nodes
pub one_is_small : IsNode 1
one_is_small = omega arith

pub two_is_small : IsNode 2
two_is_small = omega arith

-- ---- the order of the pattern's node

-- a triple pattern's variables
names_triple : (of : TriplePattern) → pattern_names (pattern.Triple of) ≡ triple_names of
names_triple of = ap pattern_names (sym (rolls-Triple of)) ∙ fold-roll-Pattern (List (List ℕ)) names_step (open_pattern.Triple of)

-- the order has each variable
ordered_has : (all order : List (List ℕ)) (name : List ℕ) → IsOrder all [] order → Contains all name → Contains order name
ordered_has all order name is there = subst (λ (ns : List (List ℕ)). Contains ns name) (sym is.is_order) (Contains-append_right is.shared is.others name ((is.are_others.each name).1 (there, λ within. nothing_in name within)))

-- and no others
all_ordered : (all order : List (List ℕ)) → IsOrder all [] order → All (Contains all) order
all_ordered all order is = subst (All (Contains all)) (sym is.is_order)
    (All-append (Contains all) is.shared is.others
    (each_of (Contains all) is.shared (λ name there. ((is.are_shared.each name).0 there).0))
    (each_of (Contains all) is.others (λ name there. ((is.are_others.each name).0 there).0)))

-- so that of a triple pattern's node has each of the pattern's
pub order_has : (of : TriplePattern) (order : List (List ℕ)) (name : List ℕ) → HasOrder (pattern.Triple of) None order → Contains (triple_names of) name → Contains order name
order_has of order name has there = ordered_has (pattern_names (pattern.Triple of)) order name has (subst (λ (ns : List (List ℕ)). Contains ns name) (sym (names_triple of)) there)

-- and no others
pub order_is_of : (of : TriplePattern) (order : List (List ℕ)) → HasOrder (pattern.Triple of) None order → All (Contains (triple_names of)) order
order_is_of of order has = subst (λ (ns : List (List ℕ)). All (Contains ns) order) (names_triple of) (all_ordered (pattern_names (pattern.Triple of)) order has)
