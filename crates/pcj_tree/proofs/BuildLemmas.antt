-- The nodes of a pattern are those of its parts and its own.
use Rattle.std.proofs.Common.{◌≡◌, ℕ, ◌+◌, List, [], ◌∷◌, ◌++◌, Option, Some, None, ap, sym, subst, ◌∙◌, append_assoc}
use Rattle.pcj_expr.specs.declared.expr.Expr.{Expr}
use Rattle.pcj_algebra.specs.declared.pattern.Pattern.{Pattern}
use Rattle.pcj_algebra.specs.declared.pattern.Pattern.TheVariants as pattern
use Rattle.pcj_algebra.specs.declared.query.Query.{Query}
use Rattle.pcj_algebra.specs.declared.triple_pattern.TriplePattern.{TriplePattern}
use Rattle.pcj_tree.specs.declared.node.Node.{Node}
use Rattle.pcj_tree.specs.declared.node.NodeKind.TheVariants as kind
use Rattle.pcj_tree.specs.declared.tree.Tree.{Tree}
use Rattle.pcj_tree.specs.Tree.{AreNodes, triple, joined, filtered, united, AddsNode, AddsNodes, HasOrder, IsTree, size_of, node_of, top_node}

pub adds_triple : (of : TriplePattern) (p : Pattern) (before parent : ℕ) (sibling : Option Pattern) (old new : List Node) → p ≡ pattern.Triple of → AddsNode (kind.Pattern of) p parent sibling old new → AddsNodes p before parent sibling old new
adds_triple of p before parent sibling old new is own =
    subst (λ (q : Pattern). AddsNodes q before parent sibling old new) (sym is)
    (node_of (kind.Pattern of) parent own.0 ∷ [], own.2, triple of (subst (λ (q : Pattern). HasOrder q sibling own.0) is own.1))

regrouped : (old lefts rights own : List Node) → ((old ++ lefts) ++ rights) ++ own ≡ old ++ (lefts ++ (rights ++ own))
regrouped old lefts rights own = append_assoc (old ++ lefts) rights own ∙ append_assoc old lefts (rights ++ own)

three : (old middle later new lefts rights own : List Node) → middle ≡ old ++ lefts → later ≡ middle ++ rights → new ≡ later ++ own → new ≡ old ++ (lefts ++ (rights ++ own))
three old middle later new lefts rights own e f g =
    g ∙ ap (λ (ns : List Node). ns ++ own) (f ∙ ap (λ (ns : List Node). ns ++ rights) e) ∙ regrouped old lefts rights own

pub adds_join : (left right l r p : Pattern) (before parent left_last last : ℕ) (sibling : Option Pattern) (old middle later new : List Node) → p ≡ pattern.Join left right → l ≡ left → r ≡ right → left_last ≡ before + size_of l → last ≡ left_last + size_of r →
    AddsNodes l before (last + 1) (Some r) old middle → AddsNodes r left_last (last + 1) (Some l) middle later → AddsNode (kind.Join left_last last) p parent sibling later new → AddsNodes p before parent sibling old new
adds_join left right l r p before parent left_last last sibling old middle later new is e f size_left size_right first second own =
    let whole : p ≡ pattern.Join l r = is ∙ ap (λ (q : Pattern). pattern.Join q right) (sym e) ∙ ap (λ (q : Pattern). pattern.Join l q) (sym f) in
    subst (λ (q : Pattern). AddsNodes q before parent sibling old new) (sym whole) (
      first.0 ++ (second.0 ++ node_of (kind.Join left_last last) parent own.0 ∷ []),
      three old middle later new first.0 second.0 (node_of (kind.Join left_last last) parent own.0 ∷ []) first.1 second.1 own.2,
      joined l r size_left size_right first.2 second.2 (subst (λ (q : Pattern). HasOrder q sibling own.0) whole own.1),
    )

pub adds_union : (left right l r p : Pattern) (before parent left_last last : ℕ) (sibling : Option Pattern) (old middle later new : List Node) → p ≡ pattern.Union left right → l ≡ left → r ≡ right → left_last ≡ before + size_of l → last ≡ left_last + size_of r →
    AddsNodes l before (last + 1) None old middle → AddsNodes r left_last (last + 1) None middle later → AddsNode (kind.Union left_last last) p parent sibling later new → AddsNodes p before parent sibling old new
adds_union left right l r p before parent left_last last sibling old middle later new is e f size_left size_right first second own =
    let whole : p ≡ pattern.Union l r = is ∙ ap (λ (q : Pattern). pattern.Union q right) (sym e) ∙ ap (λ (q : Pattern). pattern.Union l q) (sym f) in
    subst (λ (q : Pattern). AddsNodes q before parent sibling old new) (sym whole) (
      first.0 ++ (second.0 ++ node_of (kind.Union left_last last) parent own.0 ∷ []),
      three old middle later new first.0 second.0 (node_of (kind.Union left_last last) parent own.0 ∷ []) first.1 second.1 own.2,
      united l r size_left size_right first.2 second.2 (subst (λ (q : Pattern). HasOrder q sibling own.0) whole own.1),
    )

pub adds_filter : (condition copy : Expr) (inner i p : Pattern) (before parent last : ℕ) (sibling : Option Pattern) (old later new : List Node) → p ≡ pattern.Filter condition inner → i ≡ inner → copy ≡ condition → last ≡ before + size_of i →
    AddsNodes i before (last + 1) None old later → AddsNode (kind.Filter last copy) p parent sibling later new → AddsNodes p before parent sibling old new
adds_filter condition copy inner i p before parent last sibling old later new is e f size first own =
    let whole : p ≡ pattern.Filter copy i = is ∙ ap (λ (c : Expr). pattern.Filter c inner) (sym f) ∙ ap (λ (q : Pattern). pattern.Filter copy q) (sym e) in
    subst (λ (q : Pattern). AddsNodes q before parent sibling old new) (sym whole) (
      first.0 ++ node_of (kind.Filter last copy) parent own.0 ∷ [],
      own.2 ∙ ap (λ (ns : List Node). ns ++ node_of (kind.Filter last copy) parent own.0 ∷ []) first.1 ∙ append_assoc old first.0 (node_of (kind.Filter last copy) parent own.0 ∷ []),
      filtered copy i size first.2 (subst (λ (q : Pattern). HasOrder q sibling own.0) whole own.1),
    )

pub built : (query : Query) (size : ℕ) (none made all : List Node) (top : Node) (tree : Tree) → none ≡ [] → size ≡ size_of query.pattern → AddsNodes query.pattern 0 (size + 1) None none made → top ≡ top_node query.shape size → all ≡ made ++ top ∷ [] → tree.nodes ≡ all → IsTree query tree
built query size none made all top tree empty is added last pushed whole = record {
  parts = added.0;
  are_parts = subst (λ (n : ℕ). AreNodes query.pattern 0 (n + 1) None added.0) is added.2;
  nodes = whole ∙ pushed ∙ ap (λ (ns : List Node). ns ++ top ∷ []) (added.1 ∙ ap (λ (ns : List Node). ns ++ added.0) empty)
      ∙ ap (λ (n : Node). added.0 ++ n ∷ []) (last ∙ ap (top_node query.shape) is);
}
