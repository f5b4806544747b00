-- Stored forms are read back, and the nodes of a query's tree can be stored.
use Rattle.std.proofs.Common.{◌≡◌, ℕ, ◌<◌, ◌+◌, ◌^◌, List, [], ◌∷◌, ◌++◌, Option, Some, None, refl, ap, sym, subst, ◌∙◌, arith}
use Rattle.std.specs.List.{All}
use Rattle.std.proofs.lemmas.List.Elements.{All-nil, All-cons, All-append}
use Rattle.std.proofs.lemmas.Option.{same_Some}
use Rattle.pcj_expr.specs.declared.expr.Expr.{Expr}
use Rattle.pcj_algebra.specs.declared.pattern.Pattern.{Pattern}
use Rattle.pcj_algebra.specs.declared.pattern.Pattern.TheOpen as open_pattern
use Rattle.pcj_algebra.specs.declared.pattern.Pattern.TheVariants as pattern
use Rattle.pcj_algebra.specs.declared.pattern.Pattern.TheVariants.{rolls-Triple, rolls-Join, rolls-Filter, rolls-Union}
use Rattle.pcj_algebra.specs.declared.pattern.Pattern.TheFolds.{fold-roll-Pattern}
use Rattle.pcj_algebra.specs.declared.query.Shape.{Shape}
use Rattle.pcj_algebra.specs.declared.query.Shape.TheVariants.{Distinct, Group}
use Rattle.pcj_algebra.specs.declared.triple_pattern.TriplePattern.{TriplePattern}
use Rattle.pcj_solutions.specs.Solutions.{patterns_step, triple_patterns}
use Rattle.pcj_tree.specs.declared.node.Node.{Node}
use Rattle.pcj_tree.specs.declared.tree.Tree.{Tree}
use Rattle.pcj_tree.specs.Tree.{AreNodes, triple, joined, filtered, united, size_step, size_of, top_node}
use Rattle.pcj_tree.specs.Read.{IsExpr, IsTreeNode}
use Rattle.pcj_tree.specs.Reading.{tree_of}
use Rattle.pcj_tree.specs.Laws.{ReadsBack, StoresOneTree, conditions_step, conditions_of, IsTriplePattern, CanBeStored}
use Rattle.pcj_tree.proofs.ExprLemmas.{all_left, all_right}
use Rattle.pcj_tree.proofs.NodeLemmas.{tree_again}

pub stores_one_tree : StoresOneTree
stores_one_tree tree other first second same = same_Some tree other (sym (tree_again tree first) ∙ ap tree_of same ∙ tree_again other second)

pub reads_back : ReadsBack
reads_back tree (Some other) is found = ap (λ (t : Tree). Some t) (stores_one_tree other tree found.0 is found.1)
reads_back tree None is found = absurd (found tree is refl)

-- ---- what a pattern has, by its outermost form

pub size_triple : (of : TriplePattern) → size_of (pattern.Triple of) ≡ 1
size_triple of = ap size_of (sym (rolls-Triple of)) ∙ fold-roll-Pattern ℕ size_step (open_pattern.Triple of)

pub size_join : (left right : Pattern) → size_of (pattern.Join left right) ≡ size_of left + size_of right + 1
size_join left right = ap size_of (sym (rolls-Join left right)) ∙ fold-roll-Pattern ℕ size_step (open_pattern.Join left right)

pub size_filter : (condition : Expr) (inner : Pattern) → size_of (pattern.Filter condition inner) ≡ size_of inner + 1
size_filter condition inner = ap size_of (sym (rolls-Filter condition inner)) ∙ fold-roll-Pattern ℕ size_step (open_pattern.Filter condition inner)

pub size_union : (left right : Pattern) → size_of (pattern.Union left right) ≡ size_of left + size_of right + 1
size_union left right = ap size_of (sym (rolls-Union left right)) ∙ fold-roll-Pattern ℕ size_step (open_pattern.Union left right)

triples_triple : (of : TriplePattern) → triple_patterns (pattern.Triple of) ≡ of ∷ []
triples_triple of = ap triple_patterns (sym (rolls-Triple of)) ∙ fold-roll-Pattern (List TriplePattern) patterns_step (open_pattern.Triple of)

triples_join : (left right : Pattern) → triple_patterns (pattern.Join left right) ≡ triple_patterns left ++ triple_patterns right
triples_join left right = ap triple_patterns (sym (rolls-Join left right)) ∙ fold-roll-Pattern (List TriplePattern) patterns_step (open_pattern.Join left right)

triples_filter : (condition : Expr) (inner : Pattern) → triple_patterns (pattern.Filter condition inner) ≡ triple_patterns inner
triples_filter condition inner = ap triple_patterns (sym (rolls-Filter condition inner)) ∙ fold-roll-Pattern (List TriplePattern) patterns_step (open_pattern.Filter condition inner)

triples_union : (left right : Pattern) → triple_patterns (pattern.Union left right) ≡ triple_patterns left ++ triple_patterns right
triples_union left right = ap triple_patterns (sym (rolls-Union left right)) ∙ fold-roll-Pattern (List TriplePattern) patterns_step (open_pattern.Union left right)

conditions_join : (left right : Pattern) → conditions_of (pattern.Join left right) ≡ conditions_of left ++ conditions_of right
conditions_join left right = ap conditions_of (sym (rolls-Join left right)) ∙ fold-roll-Pattern (List Expr) conditions_step (open_pattern.Join left right)

conditions_filter : (condition : Expr) (inner : Pattern) → conditions_of (pattern.Filter condition inner) ≡ conditions_of inner ++ condition ∷ []
conditions_filter condition inner = ap conditions_of (sym (rolls-Filter condition inner)) ∙ fold-roll-Pattern (List Expr) conditions_step (open_pattern.Filter condition inner)

conditions_union : (left right : Pattern) → conditions_of (pattern.Union left right) ≡ conditions_of left ++ conditions_of right
conditions_union left right = ap conditions_of (sym (rolls-Union left right)) ∙ fold-roll-Pattern (List Expr) conditions_step (open_pattern.Union left right)

-- ---- the nodes of a pattern of valid terms

abbrev Patterns : Pattern → Type 0
Patterns of = All IsTriplePattern (triple_patterns of)

abbrev Conditions : Pattern → Type 0
Conditions of = All (IsExpr 65536) (conditions_of of)

one_node : (node : Node) → IsTreeNode node → All IsTreeNode (node ∷ [])
one_node node is = All-cons IsTreeNode node [] is (All-nil IsTreeNode)

nodes_storable : {p : Pattern} {before parent : ℕ} {sibling : Option Pattern} {nodes : List Node} → AreNodes p before parent sibling nodes → before + size_of p < 2 ^ 16 → parent < 2 ^ 16 → Patterns p → Conditions p → All IsTreeNode nodes
nodes_storable (triple of order) fits under patterns conditions =
    let slots : All IsTriplePattern (of ∷ []) = subst (All IsTriplePattern) (triples_triple of) patterns in
    one_node _ (slots 0 of (omega arith), under)
nodes_storable {before = before} (joined {left_last = left_last} {last = last} {lefts = lefts} {rights = rights} left right first second l r order) fits under patterns conditions =
    let size = size_join left right in
    let ps = subst (All IsTriplePattern) (triples_join left right) patterns in
    let cs = subst (All (IsExpr 65536)) (conditions_join left right) conditions in
    All-append IsTreeNode lefts _
    (nodes_storable l (omega (arith, size, fits)) (omega (arith, size, fits, first, second)) (all_left IsTriplePattern (triple_patterns left) (triple_patterns right) ps) (all_left (IsExpr 65536) (conditions_of left) (conditions_of right) cs))
    (All-append IsTreeNode rights _
    (nodes_storable r (omega (arith, size, fits, first)) (omega (arith, size, fits, first, second)) (all_right IsTriplePattern (triple_patterns left) (triple_patterns right) ps) (all_right (IsExpr 65536) (conditions_of left) (conditions_of right) cs))
    (one_node _ ((omega (arith, size, fits, first), omega (arith, size, fits, first, second)), under)))
nodes_storable {before = before} (filtered {last = last} {inners = inners} condition inner first i order) fits under patterns conditions =
    let size = size_filter condition inner in
    let cs = subst (All (IsExpr 65536)) (conditions_filter condition inner) conditions in
    All-append IsTreeNode inners _
    (nodes_storable i (omega (arith, size, fits)) (omega (arith, size, fits, first)) (subst (All IsTriplePattern) (triples_filter condition inner) patterns) (all_left (IsExpr 65536) (conditions_of inner) (condition ∷ []) cs))
    (one_node _ ((omega (arith, size, fits, first), all_right (IsExpr 65536) (conditions_of inner) (condition ∷ []) cs 0 condition (omega arith)), under))
nodes_storable {before = before} (united {left_last = left_last} {last = last} {lefts = lefts} {rights = rights} left right first second l r order) fits under patterns conditions =
    let size = size_union left right in
    let ps = subst (All IsTriplePattern) (triples_union left right) patterns in
    let cs = subst (All (IsExpr 65536)) (conditions_union left right) conditions in
    All-append IsTreeNode lefts _
    (nodes_storable l (omega (arith, size, fits)) (omega (arith, size, fits, first, second)) (all_left IsTriplePattern (triple_patterns left) (triple_patterns right) ps) (all_left (IsExpr 65536) (conditions_of left) (conditions_of right) cs))
    (All-append IsTreeNode rights _
    (nodes_storable r (omega (arith, size, fits, first)) (omega (arith, size, fits, first, second)) (all_right IsTriplePattern (triple_patterns left) (triple_patterns right) ps) (all_right (IsExpr 65536) (conditions_of left) (conditions_of right) cs))
    (one_node _ ((omega (arith, size, fits, first), omega (arith, size, fits, first, second)), under)))

top_storable : (shape : Shape) (child : ℕ) → child < 2 ^ 16 → IsTreeNode (top_node shape child)
top_storable (Distinct names) child fits = (fits, omega arith)
top_storable (Group keys aggregate var as_name) child fits = (fits, omega arith)

pub can_be_stored : CanBeStored
can_be_stored query tree fits is =
    let small = fits.numbers in
    subst (All IsTreeNode) (sym is.nodes)
    (All-append IsTreeNode is.parts _ (nodes_storable is.are_parts (omega (arith, small)) small fits.triple_patterns fits.conditions)
    (one_node _ (top_storable query.shape (size_of query.pattern) (omega (arith, small)))))
