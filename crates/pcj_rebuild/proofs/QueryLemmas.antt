-- The query of a tree, by its last node and the nodes before it.
use Rattle.std.proofs.Common.{◌≡◌, ◌+◌, ℕ, List, [], ◌∷◌, ◌++◌, length, None, refl, ap, sym, subst, ◌∙◌, arith}
use Rattle.std.proofs.lemmas.List.{length-append, append-nil}
use Rattle.pcj_term.specs.declared.triple.Triple.{Triple}
use Rattle.pcj_algebra.specs.declared.pattern.Pattern.{Pattern}
use Rattle.pcj_algebra.specs.declared.query.Query.{Query}
use Rattle.pcj_algebra.specs.declared.query.Shape.{Shape}
use Rattle.pcj_algebra.specs.declared.query.Shape.TheVariants.{Distinct, Group}
use Rattle.pcj_answers.specs.Answers.{AreLines}
use Rattle.pcj_tree.specs.declared.node.Node.{Node}
use Rattle.pcj_tree.specs.declared.tree.Tree.{Tree}
use Rattle.pcj_tree.specs.Tree.{AreNodes, IsTree, size_of, top_node}
use Rattle.pcj_rebuild.specs.Query.{unnamed, unnamed_shape}
use Rattle.pcj_rebuild.specs.Laws.{HaveOneQuery, HaveSameLines}
use Rattle.pcj_rebuild.specs.Parts.{HasPart, HasQueryOver, IsPart, IsQueryOver, child_at, shape_at}
use Rattle.pcj_rebuild.proofs.PartLemmas.{node_parts, one_part}

-- ---- the last node

ends_alike : {X : Type 0} (xs ys : List X) (x y : X) → xs ++ x ∷ [] ≡ ys ++ y ∷ [] → (xs ≡ ys) × (x ≡ y)
ends_alike [] [] x y e = (refl, cc)
ends_alike [] (z ∷ ys) x y e = let long = ap length e in let more = length-append ys (y ∷ []) in absurd (omega (arith, long, more))
ends_alike (z ∷ xs) [] x y e = let long = ap length e in let more = length-append xs (x ∷ []) in absurd (omega (arith, long, more))
ends_alike (z ∷ xs) (w ∷ ys) x y e =
    let first : z ≡ w = cc in
    let later : xs ++ x ∷ [] ≡ ys ++ y ∷ [] = cc in
    let rest = ends_alike xs ys x y later in
    (ap (λ v. v ∷ xs) first ∙ ap (λ vs. w ∷ vs) rest.0, rest.1)

top_child : (shape : Shape) (child : ℕ) → child_at (top_node shape child).kind ≡ child
top_child (Distinct names) child = refl
top_child (Group keys aggregate var as_name) child = refl

top_shape : (shape : Shape) (child : ℕ) → shape_at (top_node shape child) ≡ unnamed_shape shape
top_shape (Distinct names) child = refl
top_shape (Group keys aggregate var as_name) child = refl

pub tree_over : (query : Query) (tree : Tree) (parts : List Node) (top : Node) → IsTree query tree → tree.nodes ≡ parts ++ top ∷ [] → IsQueryOver query parts top
tree_over query tree parts top is at =
    let same = ends_alike is.parts parts (top_node query.shape (size_of query.pattern)) top (sym is.nodes ∙ at) in
    record {
      are_parts = subst (λ (ns : List Node). AreNodes query.pattern 0 (size_of query.pattern + 1) None ns) same.0 is.are_parts;
      is_top = sym same.1;
    }

-- ---- the pattern and the shape

pub part_over : (query : Query) (parts : List Node) (top : Node) → IsQueryOver query parts top → IsPart parts (child_at top.kind) query.pattern
part_over query parts top over =
    let whole = node_parts parts [] [] over.are_parts (sym (append-nil parts)) refl in
    let first : 0 + size_of query.pattern ≡ size_of query.pattern = omega arith in
    subst (λ (n : ℕ). IsPart parts n query.pattern) (first ∙ sym (ap (λ (t : Node). child_at t.kind) over.is_top ∙ top_child query.shape (size_of query.pattern))) whole

pub shape_over : (query : Query) (parts : List Node) (top : Node) → IsQueryOver query parts top → shape_at top ≡ unnamed_shape query.shape
shape_over query parts top over = ap shape_at over.is_top ∙ top_shape query.shape (size_of query.pattern)

same_query : (shape : Shape) (pattern : Pattern) (query : Query) → shape ≡ unnamed_shape query.shape → pattern ≡ query.pattern → record { shape = shape; pattern = pattern } ≡ unnamed query
same_query shape pattern query e f = cc

pub has_part : (parts : List Node) (top : Node) (child : ℕ) → HasQueryOver parts top → child ≡ child_at top.kind → HasPart parts child
has_part parts top child has is = record { part = has.query.pattern; is = subst (λ (n : ℕ). IsPart parts n has.query.pattern) (sym is) (part_over has.query parts top has.is) }

pub rebuilt : (parts : List Node) (top : Node) (child : ℕ) (shape : Shape) (pattern : Pattern) (query : Query) → child ≡ child_at top.kind → shape ≡ shape_at top → IsPart parts child pattern → IsQueryOver query parts top →
    record { shape = shape; pattern = pattern } ≡ unnamed query
rebuilt parts top child shape pattern query at of is over =
    same_query shape pattern query (of ∙ shape_over query parts top over) (one_part query.pattern (subst (λ (n : ℕ). IsPart parts n pattern) at is) (part_over query parts top over))

-- ---- laws

pub have_one_query : HaveOneQuery
have_one_query query other tree is is' =
    let parts = is.parts in
    let top = top_node query.shape (size_of query.pattern) in
    let over = tree_over query tree parts top is is.nodes in
    let over' = tree_over other tree parts top is' is.nodes in
    rebuilt parts top (child_at top.kind) (unnamed_shape query.shape) query.pattern other refl (sym (shape_over query parts top over)) (part_over query parts top over) over'

with_no_name : (shape : Shape) (pattern : Pattern) (triples : List Triple) (lines : List (List ℕ)) → AreLines (record { shape = shape; pattern = pattern }) triples lines → AreLines (record { shape = unnamed_shape shape; pattern = pattern }) triples lines
with_no_name (Distinct names) pattern triples lines are = are
with_no_name (Group keys aggregate var as_name) pattern triples lines are = are

with_a_name : (shape : Shape) (pattern : Pattern) (triples : List Triple) (lines : List (List ℕ)) → AreLines (record { shape = unnamed_shape shape; pattern = pattern }) triples lines → AreLines (record { shape = shape; pattern = pattern }) triples lines
with_a_name (Distinct names) pattern triples lines are = are
with_a_name (Group keys aggregate var as_name) pattern triples lines are = are

pub have_same_lines : HaveSameLines
have_same_lines query other tree triples lines is is' are =
    with_a_name other.shape other.pattern triples lines (subst (λ (q : Query). AreLines q triples lines) (have_one_query query other tree is is') (with_no_name query.shape query.pattern triples lines are))
