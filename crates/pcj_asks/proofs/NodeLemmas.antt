-- The row of a pattern that was seen is that of a tree's node.
use Rattle.std.proofs.Common.{◌≡◌, ℕ, zero, suc, List, [], ◌∷◌, Option, Some, None, refl, ap, sym, subst, ◌∙◌}
use Rattle.std.specs.List.{All, Contains}
use Rattle.std.specs.Option.{option_map}
use Rattle.std.proofs.lemmas.List.Elements.{All-append, All-cons, All-head, All-nil, All-tail}
use Rattle.std.proofs.lemmas.Option.{same_Some}
use Rattle.pcj_encode.specs.declared.key_name.KeyName.TheVariants as row
use Rattle.pcj_encode.specs.Name.{IsNode, IsRegistration, key_of}
use Rattle.pcj_algebra.specs.declared.pattern.Pattern.{Pattern}
use Rattle.pcj_algebra.specs.declared.pattern.Pattern.TheFolds.{fold-roll-Pattern}
use Rattle.pcj_algebra.specs.declared.pattern.Pattern.TheOpen as open_pattern
use Rattle.pcj_algebra.specs.declared.pattern.Pattern.TheVariants as pattern
use Rattle.pcj_algebra.specs.declared.pattern.Pattern.TheVariants.{rolls-Triple}
use Rattle.pcj_algebra.specs.declared.query.Query.{Query}
use Rattle.pcj_algebra.specs.declared.query.Shape.{Shape}
use Rattle.pcj_algebra.specs.declared.query.Shape.TheVariants.{Distinct, Group}
use Rattle.pcj_algebra.specs.declared.triple_pattern.TriplePattern.{TriplePattern}
use Rattle.pcj_algebra.specs.Variables.{names_step, pattern_names, triple_names}
use Rattle.pcj_tree.specs.declared.node.Node.{Node}
use Rattle.pcj_tree.specs.declared.node.NodeKind.{NodeKind}
use Rattle.pcj_tree.specs.declared.node.NodeKind.TheVariants as kind
use Rattle.pcj_tree.specs.declared.tree.Tree.{Tree}
use Rattle.pcj_tree.specs.Meaning.{numbered}
use Rattle.pcj_tree.specs.Order.{IsOrder}
use Rattle.pcj_tree.specs.Tree as part
use Rattle.pcj_tree.specs.Tree.{AreNodes, IsTree, other_names, size_of, top_node}
use Rattle.pcj_obs_pattern.specs.Rows.{IsPatternRow}
use Rattle.pcj_mvcc.specs.Reading.{Put, Rows, standing}
use Rattle.pcj_moves.specs.declared.answer.Answer.{Answer}
use Rattle.pcj_moves.specs.Reads.{value_seen}
use Rattle.pcj_rows.proofs.EachLemmas.{each_of}
use Rattle.pcj_rows.specs.Registrations.{IsQueryTree, IsRegistered, pattern_at, pattern_value, value_of}
use Rattle.pcj_nodes.proofs.TreeLemmas.{pattern_row_is}
use Rattle.pcj_nodes.proofs.ViewLemmas.{StandsRead, seen_stays}
use Rattle.pcj_asks.specs.Asks.{AtWork}

-- ---- the variables of a pattern's node

-- those of a triple pattern
names_triple : (of : TriplePattern) → pattern_names (pattern.Triple of) ≡ triple_names of
names_triple of = ap pattern_names (sym (rolls-Triple of)) ∙ fold-roll-Pattern (List (List ℕ)) names_step (open_pattern.Triple of)

-- an order has no other variables
all_ordered : (all sibling order : List (List ℕ)) → IsOrder all sibling order → All (λ name. Contains all name) order
all_ordered all sibling order is = subst (All (λ name. Contains all name)) (sym is.is_order)
    (All-append (λ name. Contains all name) is.shared is.others
    (each_of (λ name. Contains all name) is.shared (λ name there. ((is.are_shared.each name).0 there).0))
    (each_of (λ name. Contains all name) is.others (λ name there. ((is.are_others.each name).0 there).0)))

-- the node of a pattern has variables of the pattern
abbrev HasNames : NodeKind → List (List ℕ) → Type 0
HasNames (kind.Pattern of) order = All (λ name. Contains (triple_names of) name) order
HasNames (kind.Join left right) order = Unit {0}
HasNames (kind.Filter child condition) order = Unit {0}
HasNames (kind.Union left right) order = Unit {0}
HasNames (kind.Project child) order = Unit {0}
HasNames (kind.Group child aggregate var) order = Unit {0}

abbrev IsNamed : Node → Type 0
IsNamed node = HasNames node.kind node.order

one_named : (node : Node) → IsNamed node → All IsNamed (node ∷ [])
one_named node is = All-cons IsNamed node [] is (All-nil IsNamed)

-- so it is of all nodes of a pattern's parts
are_named : {p : Pattern} {before parent : ℕ} {sibling : Option Pattern} {nodes : List Node} → AreNodes p before parent sibling nodes → All IsNamed nodes
are_named (part.triple {sibling = sibling} {order = order} of has) = one_named _ (subst (λ names. All (λ name. Contains names name) order) (names_triple of) (all_ordered (pattern_names (pattern.Triple of)) (other_names sibling) order has))
are_named (part.joined {lefts = lefts} {rights = rights} left right first second l r has) = All-append IsNamed lefts _ (are_named l) (All-append IsNamed rights _ (are_named r) (one_named _ tt))
are_named (part.filtered {inners = inners} condition inner first i has) = All-append IsNamed inners _ (are_named i) (one_named _ tt)
are_named (part.united {lefts = lefts} {rights = rights} left right first second l r has) = All-append IsNamed lefts _ (are_named l) (All-append IsNamed rights _ (are_named r) (one_named _ tt))

-- the last node is of no pattern
top_named : (shape : Shape) (child : ℕ) → IsNamed (top_node shape child)
top_named (Distinct names) child = tt
top_named (Group keys aggregate var as_name) child = tt

-- what holds of all holds of that with a number
numbered_holds : {X : Type 0} (P : X → Type 0) (xs : List X) (number : ℕ) (x : X) → All P xs → numbered xs number ≡ Some x → P x
numbered_holds P [] number x all e = absurd cc
numbered_holds P (y ∷ xs) zero x all e = absurd cc
numbered_holds P (y ∷ xs) (suc zero) x all e = subst P (same_Some y x e) (All-head P y xs all)
numbered_holds P (y ∷ xs) (suc (suc number)) x all e = numbered_holds P xs (suc number) x (All-tail P y xs all) e

-- so the order of a tree's pattern has no other variables than the pattern
order_is_of_pattern : (query : Query) (tree : Tree) (number : ℕ) (node : Node) (of : TriplePattern) → IsTree query tree → numbered tree.nodes number ≡ Some node → node.kind ≡ kind.Pattern of → All (λ name. Contains (triple_names of) name) node.order
order_is_of_pattern query tree number node of is at matches =
    let all : All IsNamed tree.nodes = subst (All IsNamed) (sym is.nodes) (All-append IsNamed is.parts _ (are_named is.are_parts) (one_named _ (top_named query.shape (size_of query.pattern)))) in
    subst (λ (k : NodeKind). HasNames k node.order) matches (numbered_holds IsNamed tree.nodes number node all at)

-- ---- the row of a pattern

-- a value that stands for a tree's node is that of a pattern's row
pub record HasPattern (registration node : ℕ) (value : List ℕ) : Type 0 where
  pub of : TriplePattern
  pub order : List (List ℕ)
  pub is_row : IsPatternRow registration node of order (key_of (row.Pattern registration node)) value

has_pattern : (registration number : ℕ) (tree : Tree) (value : List ℕ) → IsQueryTree tree → IsRegistration registration → IsNode number → pattern_at tree number ≡ Some value → HasPattern registration number value
has_pattern registration number tree value is known small e = by (numbered tree.nodes number) refl e
  where
    its : (node : Node) (k : NodeKind) → numbered tree.nodes number ≡ Some node → node.kind ≡ k → pattern_value k node.order ≡ Some value → HasPattern registration number value
    its node (kind.Pattern of) at matches e =
        record {
          of = of;
          order = node.order;
          is_row = record {
            number = known;
            small = small;
            valid = (pattern_row_is registration number tree node of is known small at matches).0;
            names = order_is_of_pattern is.query tree number node of is.is at matches;
            key_is = refl;
            value_is = sym (same_Some _ value e);
          };
        }
    its node (kind.Join left right) at matches e = absurd cc
    its node (kind.Filter child condition) at matches e = absurd cc
    its node (kind.Union left right) at matches e = absurd cc
    its node (kind.Project child) at matches e = absurd cc
    its node (kind.Group child aggregate var) at matches e = absurd cc

    by : (found : Option Node) → numbered tree.nodes number ≡ found → value_of found ≡ Some value → HasPattern registration number value
    by None at e = absurd cc
    by (Some node) at e = its node node.kind at refl e

value_of_put : (found : Option (List ℕ)) (value : List ℕ) (commit at : ℕ) → option_map {T = List ℕ} {U = Put} (λ bytes. (bytes, commit)) found ≡ Some (value, at) → found ≡ Some value
value_of_put None value commit at e = absurd cc
value_of_put (Some other) value commit at e = ap (option_map (λ (put : Put). put.0)) e

-- a pattern whose row was seen at the start, and still stands
pub record SeesPattern (rows : Rows) (registration node : ℕ) (value : List ℕ) : Type 0 where
  pub put : Put
  pub stands : standing rows (key_of (row.Pattern registration node)) ≡ Some put
  pub value_is : put.0 ≡ value
  pub has : HasPattern registration node value

pub sees_pattern : (number start : ℕ) (rows : Rows) (answers : List Answer) (registration node : ℕ) (value : List ℕ) → AtWork number start rows answers → IsRegistration registration → IsNode node →
    value_seen rows (key_of (row.Pattern registration node)) start ≡ Some value → SeesPattern rows registration node value
sees_pattern number start rows answers registration node value work known small seen = record { put = there.put; stands = there.stands; value_is = there.value_is; has = has }
  where
    there : StandsRead rows start (key_of (row.Pattern registration node)) value
    there = seen_stays rows start (key_of (row.Pattern registration node)) value (work.puts.patterns registration node known small) seen

    was : (name : List ℕ) × (tree : Tree) × IsRegistered rows registration name tree there.put.1
    was = work.base.registered.patterns registration node there.put known small there.stands

    has : HasPattern registration node value
    has = subst (HasPattern registration node) there.value_is
        (has_pattern registration node was.1 there.put.0 was.2.of_query known small (value_of_put (pattern_at was.1 node) there.put.0 there.put.1 there.put.1 (sym (was.2.patterns node small) ∙ there.stands)))
