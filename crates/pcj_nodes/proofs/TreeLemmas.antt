-- The nodes of a registered query's tree, their patterns' rows, and the cells of matches and of rows that are passed on.
use Rattle.std.proofs.Common.{◌≡◌, ◌⊎◌, inl, inr, ℕ, zero, suc, ◌<◌, List, [], ◌∷◌, ◌++◌, length, map, Option, Some, None, refl, ap, sym, subst, ◌∙◌, arith}
use Rattle.std.specs.List.{All, Contains}
use Rattle.std.proofs.lemmas.List.{length-append}
use Rattle.std.proofs.lemmas.List.Elements.{All-nil, All-cons, All-append, All-contains}
use Rattle.std.proofs.lemmas.Option.{same_Some}
use Rattle.pcj_term.specs.declared.triple.Triple.{Triple}
use Rattle.pcj_term.proofs.ListLemmas.{first_there, later_there}
use Rattle.pcj_key.proofs.Keys.{injective}
use Rattle.pcj_encode.specs.Name.{IsNode, IsRegistration}
use Rattle.pcj_expr.specs.declared.mapping.Mapping.{Mapping}
use Rattle.pcj_algebra.specs.declared.pattern.Pattern.{Pattern}
use Rattle.pcj_algebra.specs.declared.query.Query.{Query}
use Rattle.pcj_algebra.specs.declared.query.Shape.{Shape}
use Rattle.pcj_algebra.specs.declared.query.Shape.TheVariants.{Distinct, Group}
use Rattle.pcj_algebra.specs.declared.triple_pattern.Slot.{Slot}
use Rattle.pcj_algebra.specs.declared.triple_pattern.TriplePattern.{TriplePattern}
use Rattle.pcj_algebra.specs.Match.{Matches}
use Rattle.pcj_answers.specs.Rows.{Row, cell, terms_of}
use Rattle.pcj_tree.specs.declared.node.Node.{Node}
use Rattle.pcj_tree.specs.declared.node.NodeKind.{NodeKind}
use Rattle.pcj_tree.specs.declared.node.NodeKind.TheVariants as kind
use Rattle.pcj_tree.specs.declared.tree.Tree.{Tree}
use Rattle.pcj_tree.specs.Laws.{IsTriplePattern}
use Rattle.pcj_tree.specs.Meaning.{Means, numbered}
use Rattle.pcj_tree.specs.Read.{IsKind, IsSlot, IsTreeNode}
use Rattle.pcj_tree.specs.Reading.{slot_of}
use Rattle.pcj_tree.specs.Stored.{slot_part}
use Rattle.pcj_tree.specs.Tree as part
use Rattle.pcj_tree.specs.Tree.{AreNodes, IsTree, size_of, top_node}
use Rattle.pcj_tree.proofs.MeaningLemmas.{nodes_mean_parts}
use Rattle.pcj_tree.proofs.SlotLemmas.{slot_again}
use Rattle.pcj_tree.proofs.StoredLaws.{can_be_stored}
use Rattle.pcj_obs_pattern.specs.Rows.{cells_of, pattern_row, row_parts}
use Rattle.pcj_obs_pass.specs.Cells.{cells_at}
use Rattle.pcj_obs_pass.specs.Plan.{IsProjected}
use Rattle.pcj_obs_pass.proofs.CellLemmas.{cells_are_projected}
use Rattle.pcj_mvcc.specs.Reading.{Rows}
use Rattle.pcj_rows.specs.Registrations.{IsQueryTree, pattern_at, pattern_value, value_of}
use Rattle.pcj_nodes.specs.Nodes.{IsRowOver, StandsIn}

-- ---- nodes that have a number

-- what has a number in a list is in it
numbered_in : {X : Type 0} (xs : List X) (number : ℕ) (x : X) → numbered xs number ≡ Some x → Contains xs x
numbered_in [] number x e = absurd cc
numbered_in (y ∷ xs) zero x e = absurd cc
numbered_in (y ∷ xs) (suc zero) x e = subst (Contains (y ∷ xs)) (same_Some y x e) (first_there y xs)
numbered_in (y ∷ xs) (suc (suc number)) x e = later_there y xs x (numbered_in xs (suc number) x e)

-- it is the last one, or one of those before
before_or_last : {X : Type 0} (xs : List X) (last : X) (number : ℕ) (x : X) → numbered (xs ++ last ∷ []) number ≡ Some x →
    (Contains xs x × (number < suc (length xs))) ⊎ ((number ≡ suc (length xs)) × (last ≡ x))
before_or_last [] last zero x e = absurd cc
before_or_last [] last (suc zero) x e = inr (refl, same_Some last x e)
before_or_last [] last (suc (suc number)) x e = absurd cc
before_or_last (y ∷ xs) last zero x e = absurd cc
before_or_last (y ∷ xs) last (suc zero) x e = inl (subst (Contains (y ∷ xs)) (same_Some y x e) (first_there y xs), omega arith)
before_or_last (y ∷ xs) last (suc (suc number)) x e = elim (before_or_last xs last (suc number) x e) [
  | inl before ↦ inl (later_there y xs x before.0, let less = before.1 in omega (arith, less))
  | inr at ↦ inr (ap suc at.0, at.1)
]

-- a node of a part of the pattern
abbrev IsInner : NodeKind → Type 0
IsInner (kind.Pattern of) = Unit {0}
IsInner (kind.Join left right) = Unit {0}
IsInner (kind.Filter child condition) = Unit {0}
IsInner (kind.Union left right) = Unit {0}
IsInner (kind.Project child) = ⊥
IsInner (kind.Group child aggregate var) = ⊥

abbrev AreInner : List Node → Type 0
AreInner nodes = All (λ (node : Node). IsInner node.kind) nodes

one_inner : (node : Node) → IsInner node.kind → AreInner (node ∷ [])
one_inner node is = All-cons (λ (n : Node). IsInner n.kind) node [] is (All-nil (λ (n : Node). IsInner n.kind))

are_inner : {p : Pattern} {before parent : ℕ} {sibling : Option Pattern} {nodes : List Node} → AreNodes p before parent sibling nodes → AreInner nodes
are_inner (part.triple of order) = one_inner _ tt
are_inner (part.joined {lefts = lefts} {rights = rights} left right first second l r order) =
    All-append (λ (n : Node). IsInner n.kind) lefts _ (are_inner l) (All-append (λ (n : Node). IsInner n.kind) rights _ (are_inner r) (one_inner _ tt))
are_inner (part.filtered {inners = inners} condition inner first i order) = All-append (λ (n : Node). IsInner n.kind) inners _ (are_inner i) (one_inner _ tt)
are_inner (part.united {lefts = lefts} {rights = rights} left right first second l r order) =
    All-append (λ (n : Node). IsInner n.kind) lefts _ (are_inner l) (All-append (λ (n : Node). IsInner n.kind) rights _ (are_inner r) (one_inner _ tt))

-- a node of a tree is that of a part, or the last
inner_or_last : (query : Query) (tree : Tree) (number : ℕ) (node : Node) → IsTree query tree → numbered tree.nodes number ≡ Some node →
    (IsInner node.kind × (number < length tree.nodes)) ⊎ ((number ≡ length tree.nodes) × (top_node query.shape (size_of query.pattern) ≡ node))
inner_or_last query tree number node is at =
    let top = top_node query.shape (size_of query.pattern) in
    let long : length tree.nodes ≡ suc (length is.parts) = (let both = ap length is.nodes ∙ length-append is.parts (top ∷ []) in omega (arith, both)) in
    elim (before_or_last is.parts top number node (sym (ap (λ (ns : List Node). numbered ns number) is.nodes) ∙ at)) [
      | inl before ↦ inl (All-contains (λ (n : Node). IsInner n.kind) is.parts node (are_inner is.are_parts) before.0, let less = before.1 in omega (arith, long, less))
      | inr last ↦ inr (last.0 ∙ sym long, last.1)
    ]

-- a projection is the last node of its tree
pub project_is_last : (query : Query) (tree : Tree) (number child : ℕ) (node : Node) → IsTree query tree → numbered tree.nodes number ≡ Some node → node.kind ≡ kind.Project child → number ≡ length tree.nodes
project_is_last query tree number child node is at projects = elim (inner_or_last query tree number node is at) [
  | inl inner ↦ absurd (subst IsInner projects inner.0)
  | inr last ↦ last.0
]

top_is_no_pattern : (shape : Shape) (child : ℕ) (of : TriplePattern) → (top_node shape child).kind ≡ kind.Pattern of → ⊥
top_is_no_pattern (Distinct names) child of e = absurd cc
top_is_no_pattern (Group keys aggregate var as_name) child of e = absurd cc

-- a triple pattern's node is before the last
pub pattern_is_inner : (query : Query) (tree : Tree) (number : ℕ) (node : Node) (of : TriplePattern) → IsTree query tree → numbered tree.nodes number ≡ Some node → node.kind ≡ kind.Pattern of → number < length tree.nodes
pattern_is_inner query tree number node of is at matches = elim (inner_or_last query tree number node is at) [
  | inl inner ↦ inner.1
  | inr last ↦ absurd (top_is_no_pattern query.shape (size_of query.pattern) of (ap (λ (n : Node). n.kind) last.1 ∙ matches))
]

top_has_no_parent : (shape : Shape) (child : ℕ) → (top_node shape child).parent ≡ 0
top_has_no_parent (Distinct names) child = refl
top_has_no_parent (Group keys aggregate var as_name) child = refl

-- the last node has no parent
pub last_has_no_parent : (query : Query) (tree : Tree) (number : ℕ) (node : Node) → IsTree query tree → numbered tree.nodes number ≡ Some node → number ≡ length tree.nodes → node.parent ≡ 0
last_has_no_parent query tree number node is at last_is = elim (inner_or_last query tree number node is at) [
  | inl inner ↦ absurd (let less = inner.1 in omega (arith, less, last_is))
  | inr last ↦ ap (λ (n : Node). n.parent) (sym last.1) ∙ top_has_no_parent query.shape (size_of query.pattern)
]

-- ---- rows of patterns

-- the slots of a tree's pattern are valid
pattern_is_valid : (tree : Tree) (number : ℕ) (node : Node) (of : TriplePattern) → IsQueryTree tree → numbered tree.nodes number ≡ Some node → node.kind ≡ kind.Pattern of → IsTriplePattern of
pattern_is_valid tree number node of is at matches =
    let its : IsTreeNode node = All-contains IsTreeNode tree.nodes node (can_be_stored is.query tree is.storable is.is) (numbered_in tree.nodes number node at) in
    let valid : IsKind (kind.Pattern of) = subst IsKind matches its.0 in valid

same_slot : (one other : Slot) → IsSlot one → IsSlot other → slot_part one ≡ slot_part other → one ≡ other
same_slot one other valid valid' e = same_Some one other (sym (slot_again one valid) ∙ ap slot_of e ∙ slot_again other valid')

same_pattern : (of other : TriplePattern) → of.subject ≡ other.subject → of.predicate ≡ other.predicate → of.object ≡ other.object → of ≡ other
same_pattern of other s p o =
    ap (λ x. record { subject = x; predicate = of.predicate; object = of.object }) s
    ∙ ap (λ x. record { subject = other.subject; predicate = x; object = of.object }) p
    ∙ ap (λ x. record { subject = other.subject; predicate = other.predicate; object = x }) o

-- no two valid patterns with their orders have one row
one_pattern_row : (of other : TriplePattern) (order names : List (List ℕ)) → IsTriplePattern of → IsTriplePattern other → pattern_row of order ≡ pattern_row other names → (of ≡ other) × (order ≡ names)
one_pattern_row of other order names valid valid' e =
    let parts : row_parts of order ≡ row_parts other names = injective (row_parts of order) (row_parts other names) e in
    let s : slot_part of.subject ≡ slot_part other.subject = cc in
    let p : slot_part of.predicate ≡ slot_part other.predicate = cc in
    let o : slot_part of.object ≡ slot_part other.object = cc in
    let rest : order ≡ names = cc in (
      same_pattern of other (same_slot of.subject other.subject valid.0 valid'.0 s) (same_slot of.predicate other.predicate valid.1 valid'.1 p) (same_slot of.object other.object valid.2 valid'.2 o),
      rest,
    )

-- the row of a pattern is that of the tree's node that has its number
pub pattern_is : (tree : Tree) (number : ℕ) (of : TriplePattern) (order : List (List ℕ)) → IsQueryTree tree → IsTriplePattern of → pattern_at tree number ≡ Some (pattern_row of order) →
    (node : Node) × (numbered tree.nodes number ≡ Some node) × (node.kind ≡ kind.Pattern of) × (node.order ≡ order)
pattern_is tree number of order is valid e = by (numbered tree.nodes number) refl e
  where
    its : (node : Node) (k : NodeKind) → numbered tree.nodes number ≡ Some node → node.kind ≡ k → pattern_value k node.order ≡ Some (pattern_row of order) →
        (found : Node) × (numbered tree.nodes number ≡ Some found) × (found.kind ≡ kind.Pattern of) × (found.order ≡ order)
    its node (kind.Pattern other) at matches e =
        let same = one_pattern_row other of node.order order (pattern_is_valid tree number node other is at matches) valid (same_Some _ _ e) in
        (node, at, matches ∙ ap (λ (x : TriplePattern). kind.Pattern x) same.0, same.1)
    its node (kind.Join left right) at matches e = absurd cc
    its node (kind.Filter child condition) at matches e = absurd cc
    its node (kind.Union left right) at matches e = absurd cc
    its node (kind.Project child) at matches e = absurd cc
    its node (kind.Group child aggregate var) at matches e = absurd cc

    by : (found : Option Node) → numbered tree.nodes number ≡ found → value_of found ≡ Some (pattern_row of order) →
        (node : Node) × (numbered tree.nodes number ≡ Some node) × (node.kind ≡ kind.Pattern of) × (node.order ≡ order)
    by None at e = absurd cc
    by (Some node) at e = its node node.kind at refl e

-- a tree's pattern is valid, and has a row
pub pattern_row_is : (registration number : ℕ) (tree : Tree) (node : Node) (of : TriplePattern) → IsQueryTree tree → IsRegistration registration → IsNode number → numbered tree.nodes number ≡ Some node → node.kind ≡ kind.Pattern of →
    IsTriplePattern of × (pattern_at tree number ≡ Some (pattern_row of node.order))
pattern_row_is registration number tree node of is known small at matches =
    (pattern_is_valid tree number node of is at matches, ap value_of at ∙ ap (λ (k : NodeKind). pattern_value k node.order) matches)

-- ---- rows over triples that stand

-- a match of a triple that stands is a row of its pattern's node
pub pattern_row_over : (rows : Rows) (tree : Tree) (number : ℕ) (node : Node) (of : TriplePattern) (triple : Triple) (mapping : Mapping) → IsQueryTree tree → numbered tree.nodes number ≡ Some node → node.kind ≡ kind.Pattern of →
    StandsIn rows triple → Matches of triple mapping → IsRowOver rows tree number node (cells_of node.order mapping)
pattern_row_over rows tree number node of triple mapping is at matches stands match =
    let means : Means (triple ∷ []) is.query node.kind mapping = subst (λ (k : NodeKind). Means (triple ∷ []) is.query k mapping) (sym matches) (triple, first_there triple [], match) in
    record {
      query = is.query;
      of_query = is.is;
      triples = triple ∷ [];
      stand = All-cons (StandsIn rows) triple [] stands (All-nil (StandsIn rows));
      its = terms_of node.order mapping;
      is_row = (mapping, (nodes_mean_parts is.query tree (triple ∷ []) number node mapping is.is at).1 means, refl);
      cells_are = refl;
    }

-- a row below a projection gives the projection a row
pub result_row_over : (rows : Rows) (tree : Tree) (number : ℕ) (cells : List (List ℕ)) (child parent : Node) → IsQueryTree tree → IsProjected tree number cells child parent → IsRowOver rows tree number child cells →
    IsRowOver rows tree child.parent parent (cells_at child.order cells parent.order)
result_row_over rows tree number cells child parent is projected over =
    let mapping = over.is_row.0 in
    let given : cells ≡ cells_of child.order mapping = over.cells_are ∙ ap (λ (r : Row). map cell r) over.is_row.2 in
    let means : Means over.triples over.query parent.kind mapping = subst (λ (k : NodeKind). Means over.triples over.query k mapping) (sym projected.projects) over.is_row.1 in
    record {
      query = over.query;
      of_query = over.of_query;
      triples = over.triples;
      stand = over.stand;
      its = terms_of parent.order mapping;
      is_row = (mapping, (nodes_mean_parts over.query tree over.triples child.parent parent mapping over.of_query projected.parent_is).1 means, refl);
      cells_are = ap (λ (cs : List (List ℕ)). cells_at child.order cs parent.order) given ∙ cells_are_projected mapping child.order parent.order projected.names;
    }
