-- Nodes and trees are read as they are stored.
use Rattle.std.proofs.Common.{◌≡◌, ℕ, suc, Bool, true, false, cond, nat_eq, List, [], ◌∷◌, map, Option, Some, None, refl, ap, sym, subst, ◌∙◌, arith, option_map}
use Rattle.std.specs.List.{All}
use Rattle.std.proofs.lemmas.Bool.{eqb-true}
use Rattle.std.proofs.lemmas.List.Elements.{All-nil, All-cons}
use Rattle.pcj_term.specs.Reading.{◌>>=◌}
use Rattle.pcj_term.proofs.OptionLemmas.{map_some, bind_some}
use Rattle.pcj_key.specs.Key.{key_of}
use Rattle.pcj_encode.specs.Name.{node_part, IsNode}
use Rattle.pcj_encode.specs.Reading as encoded
use Rattle.pcj_encode.proofs.Numbers.{node_takes, node_again}
use Rattle.pcj_expr.specs.declared.expr.Expr.{Expr}
use Rattle.pcj_algebra.specs.declared.query.Aggregate.{Aggregate}
use Rattle.pcj_algebra.specs.declared.query.Aggregate.TheVariants as aggregate
use Rattle.pcj_algebra.specs.declared.triple_pattern.Slot.{Slot}
use Rattle.pcj_tree.specs.declared.node.Node.{Node}
use Rattle.pcj_tree.specs.declared.node.NodeKind.{NodeKind}
use Rattle.pcj_tree.specs.declared.node.NodeKind.TheVariants as kind
use Rattle.pcj_tree.specs.declared.tree.Tree.{Tree}
use Rattle.pcj_tree.specs.Tree.{node_of}
use Rattle.pcj_tree.specs.Stored.{slot_part, stored_expr, aggregate_part, kind_part, kind_fields, stored_node, stored_tree}
use Rattle.pcj_tree.specs.Read.{IsKind, IsTreeNode, IsStorable, ReadsTree}
use Rattle.pcj_tree.specs.Reading.{split_of, slot_of, expr_of, pattern_of, numbers_of, join_of, union_of, filter_of, project_of, group_of, lettered, kind_of, node_with, stored_node_of, nodes_of, tree_of}
use Rattle.pcj_tree.proofs.SplitLemmas.{split_takes, split_again}
use Rattle.pcj_tree.proofs.SlotLemmas.{slot_takes, slot_again}
use Rattle.pcj_tree.proofs.ExprLemmas.{expr_takes, expr_again}

-- ---- the kinds, by their fields

-- what is said of a kind that is read behind a letter
abbrev Fits : List ℕ → List (List ℕ) → NodeKind → Type 0
Fits letter fields k = IsKind k × (kind_part k ≡ letter) × (kind_fields k ≡ fields)

pattern_fits : (fields : List (List ℕ)) (k : NodeKind) → pattern_of fields ≡ Some k → Fits (112 ∷ []) fields k
pattern_fits [] k e = absurd cc
pattern_fits (a ∷ []) k e = absurd cc
pattern_fits (a ∷ b ∷ []) k e = absurd cc
pattern_fits (a ∷ b ∷ c ∷ []) k e =
    let first = bind_some (slot_of a) _ k e in
    let second = bind_some (slot_of b) _ k first.2 in
    let third = map_some _ (slot_of c) k second.2 in
    let s = slot_takes a first.0 first.1 in
    let p = slot_takes b second.0 second.1 in
    let o = slot_takes c third.0 third.1 in
    subst (Fits (112 ∷ []) (a ∷ b ∷ c ∷ [])) third.2 (
      (s.0, p.0, o.0),
      refl,
      ap (λ (x : List ℕ). x ∷ slot_part second.0 ∷ slot_part third.0 ∷ []) s.1 ∙ ap (λ (x : List ℕ). a ∷ x ∷ slot_part third.0 ∷ []) p.1 ∙ ap (λ (x : List ℕ). a ∷ b ∷ x ∷ []) o.1,
    )
pattern_fits (a ∷ b ∷ c ∷ d ∷ fields) k e = absurd cc

numbers_fit : (fields : List (List ℕ)) (n : ℕ × ℕ) → numbers_of fields ≡ Some n → IsNode n.0 × IsNode n.1 × (node_part n.0 ∷ node_part n.1 ∷ [] ≡ fields)
numbers_fit [] n e = absurd cc
numbers_fit (a ∷ []) n e = absurd cc
numbers_fit (a ∷ b ∷ []) n e =
    let first = bind_some (encoded.node_of a) _ n e in
    let second = map_some _ (encoded.node_of b) n first.2 in
    let l = node_takes a first.0 first.1 in
    let r = node_takes b second.0 second.1 in
    subst (λ (m : ℕ × ℕ). IsNode m.0 × IsNode m.1 × (node_part m.0 ∷ node_part m.1 ∷ [] ≡ a ∷ b ∷ [])) second.2
    (l.0, r.0, ap (λ (x : List ℕ). x ∷ node_part second.0 ∷ []) l.1 ∙ ap (λ (x : List ℕ). a ∷ x ∷ []) r.1)
numbers_fit (a ∷ b ∷ c ∷ fields) n e = absurd cc

join_fits : (fields : List (List ℕ)) (k : NodeKind) → join_of fields ≡ Some k → Fits (106 ∷ []) fields k
join_fits fields k e =
    let read = map_some _ (numbers_of fields) k e in
    let both = numbers_fit fields read.0 read.1 in
    subst (Fits (106 ∷ []) fields) read.2 ((both.0, both.1), refl, both.2)

union_fits : (fields : List (List ℕ)) (k : NodeKind) → union_of fields ≡ Some k → Fits (117 ∷ []) fields k
union_fits fields k e =
    let read = map_some _ (numbers_of fields) k e in
    let both = numbers_fit fields read.0 read.1 in
    subst (Fits (117 ∷ []) fields) read.2 ((both.0, both.1), refl, both.2)

filter_fits : (fields : List (List ℕ)) (k : NodeKind) → filter_of fields ≡ Some k → Fits (102 ∷ []) fields k
filter_fits [] k e = absurd cc
filter_fits (a ∷ []) k e = absurd cc
filter_fits (a ∷ b ∷ []) k e =
    let first = bind_some (encoded.node_of a) _ k e in
    let second = map_some _ (expr_of 65536 b) k first.2 in
    let child = node_takes a first.0 first.1 in
    let condition = expr_takes 65536 b second.0 second.1 in
    subst (Fits (102 ∷ []) (a ∷ b ∷ [])) second.2
    ((child.0, condition.0), refl, ap (λ (x : List ℕ). x ∷ stored_expr second.0 ∷ []) child.1 ∙ ap (λ (x : List ℕ). a ∷ x ∷ []) condition.1)
filter_fits (a ∷ b ∷ c ∷ fields) k e = absurd cc

project_fits : (fields : List (List ℕ)) (k : NodeKind) → project_of fields ≡ Some k → Fits (100 ∷ []) fields k
project_fits [] k e = absurd cc
project_fits (a ∷ []) k e =
    let read = map_some kind.Project (encoded.node_of a) k e in
    let child = node_takes a read.0 read.1 in
    subst (Fits (100 ∷ []) (a ∷ [])) read.2 (child.0, refl, ap (λ (x : List ℕ). x ∷ []) child.1)
project_fits (a ∷ b ∷ fields) k e = absurd cc

group_fits : (of : Aggregate) (fields : List (List ℕ)) (k : NodeKind) → group_of of fields ≡ Some k → Fits (aggregate_part of) fields k
group_fits of [] k e = absurd cc
group_fits of (a ∷ []) k e = absurd cc
group_fits of (a ∷ b ∷ []) k e =
    let read = map_some (λ child. kind.Group child of b) (encoded.node_of a) k e in
    let child = node_takes a read.0 read.1 in
    subst (Fits (aggregate_part of) (a ∷ b ∷ [])) read.2 (child.0, refl, ap (λ (x : List ℕ). x ∷ b ∷ []) child.1)
group_fits of (a ∷ b ∷ c ∷ fields) k e = absurd cc

-- one letter, or one of the others
letter_or : (letter code : ℕ) (fields : List (List ℕ)) (mine rest : Option NodeKind) (k : NodeKind) → (mine ≡ Some k → Fits (code ∷ []) fields k) → (rest ≡ Some k → Fits (letter ∷ []) fields k) → cond (nat_eq letter code) mine rest ≡ Some k → Fits (letter ∷ []) fields k
letter_or letter code fields mine rest k this other e = by (nat_eq letter code) refl e
  where
    by : (is : Bool) → nat_eq letter code ≡ is → cond is mine rest ≡ Some k → Fits (letter ∷ []) fields k
    by true is e = subst (λ (l : ℕ). Fits (l ∷ []) fields k) (sym (eqb-true letter code is)) (this e)
    by false is e = other e

lettered_fits : (letter : ℕ) (fields : List (List ℕ)) (k : NodeKind) → lettered letter fields ≡ Some k → Fits (letter ∷ []) fields k
lettered_fits letter fields k =
    letter_or letter 112 fields (pattern_of fields) _ k (pattern_fits fields k) (
    letter_or letter 106 fields (join_of fields) _ k (join_fits fields k) (
    letter_or letter 102 fields (filter_of fields) _ k (filter_fits fields k) (
    letter_or letter 117 fields (union_of fields) _ k (union_fits fields k) (
    letter_or letter 100 fields (project_of fields) _ k (project_fits fields k) (
    letter_or letter 99 fields (group_of aggregate.Count fields) _ k (group_fits aggregate.Count fields k) (
    letter_or letter 115 fields (group_of aggregate.Sum fields) _ k (group_fits aggregate.Sum fields k) (
    letter_or letter 108 fields (group_of aggregate.Min fields) _ k (group_fits aggregate.Min fields k) (
    letter_or letter 104 fields (group_of aggregate.Max fields) None k (group_fits aggregate.Max fields k) (λ e. absurd cc)))))))))

kind_fits : (letter : List ℕ) (fields : List (List ℕ)) (k : NodeKind) → kind_of letter fields ≡ Some k → Fits letter fields k
kind_fits [] fields k e = absurd cc
kind_fits (letter ∷ []) fields k e = lettered_fits letter fields k e
kind_fits (letter ∷ next ∷ bytes) fields k e = absurd cc

-- ---- kinds are read again

numbers_again : (left right : ℕ) → IsNode left → IsNode right → numbers_of (node_part left ∷ node_part right ∷ []) ≡ Some (left, right)
numbers_again left right l r =
    ap (λ (x : Option ℕ). x >>= (λ a. option_map (λ b. (a, b)) (encoded.node_of (node_part right)))) (node_again left l)
    ∙ ap (λ (x : Option ℕ). option_map (λ b. (left, b)) x) (node_again right r)

pattern_again : (s p o : Slot) → IsKind (kind.Pattern (record { subject = s; predicate = p; object = o })) → pattern_of (slot_part s ∷ slot_part p ∷ slot_part o ∷ []) ≡ Some (kind.Pattern (record { subject = s; predicate = p; object = o }))
pattern_again s p o is =
    ap (λ (x : Option Slot). x >>= (λ a. slot_of (slot_part p) >>= (λ b. option_map (λ c. kind.Pattern (record { subject = a; predicate = b; object = c })) (slot_of (slot_part o))))) (slot_again s is.0)
    ∙ ap (λ (x : Option Slot). x >>= (λ b. option_map (λ c. kind.Pattern (record { subject = s; predicate = b; object = c })) (slot_of (slot_part o)))) (slot_again p is.1)
    ∙ ap (λ (x : Option Slot). option_map (λ c. kind.Pattern (record { subject = s; predicate = p; object = c })) x) (slot_again o is.2)

filter_again : (child : ℕ) (condition : Expr) → IsKind (kind.Filter child condition) → filter_of (node_part child ∷ stored_expr condition ∷ []) ≡ Some (kind.Filter child condition)
filter_again child condition is =
    ap (λ (x : Option ℕ). x >>= (λ c. option_map (kind.Filter c) (expr_of 65536 (stored_expr condition)))) (node_again child is.0)
    ∙ ap (λ (x : Option Expr). option_map (kind.Filter child) x) (expr_again condition 65536 is.1)

group_again : (child : ℕ) (of : Aggregate) (var : List ℕ) → IsNode child → group_of of (node_part child ∷ var ∷ []) ≡ Some (kind.Group child of var)
group_again child of var is = ap (λ (x : Option ℕ). option_map (λ c. kind.Group c of var) x) (node_again child is)

kind_again : (k : NodeKind) → IsKind k → kind_of (kind_part k) (kind_fields k) ≡ Some k
kind_again (kind.Pattern of) is = pattern_again of.subject of.predicate of.object is
kind_again (kind.Join left right) is = ap (λ (x : Option (ℕ × ℕ)). option_map (λ n. kind.Join n.0 n.1) x) (numbers_again left right is.0 is.1)
kind_again (kind.Filter child condition) is = filter_again child condition is
kind_again (kind.Union left right) is = ap (λ (x : Option (ℕ × ℕ)). option_map (λ n. kind.Union n.0 n.1) x) (numbers_again left right is.0 is.1)
kind_again (kind.Project child) is = ap (λ (x : Option ℕ). option_map kind.Project x) (node_again child is)
kind_again (kind.Group child aggregate.Count var) is = group_again child aggregate.Count var is
kind_again (kind.Group child aggregate.Sum var) is = group_again child aggregate.Sum var is
kind_again (kind.Group child aggregate.Min var) is = group_again child aggregate.Min var is
kind_again (kind.Group child aggregate.Max var) is = group_again child aggregate.Max var is

-- ---- nodes

node_fits : (parts : List (List ℕ)) (n : Node) → node_with parts ≡ Some n → IsTreeNode n × (stored_node n ≡ key_of parts)
node_fits [] n e = absurd cc
node_fits (letter ∷ []) n e = absurd cc
node_fits (letter ∷ parent ∷ []) n e = absurd cc
node_fits (letter ∷ parent ∷ order ∷ fields) n e =
    let first = bind_some (encoded.node_of parent) _ n e in
    let second = bind_some (split_of order) _ n first.2 in
    let third = map_some _ (kind_of letter fields) n second.2 in
    let number = node_takes parent first.0 first.1 in
    let fits = kind_fits letter fields third.0 third.1 in
    subst (λ (m : Node). IsTreeNode m × (stored_node m ≡ key_of (letter ∷ parent ∷ order ∷ fields))) third.2 (
      (fits.0, number.0),
      ap (λ (x : List ℕ). key_of (x ∷ node_part first.0 ∷ key_of second.0 ∷ kind_fields third.0)) fits.1
          ∙ ap (λ (x : List ℕ). key_of (letter ∷ x ∷ key_of second.0 ∷ kind_fields third.0)) number.1
          ∙ ap (λ (x : List ℕ). key_of (letter ∷ parent ∷ x ∷ kind_fields third.0)) (split_takes order second.0 second.1)
          ∙ ap (λ (x : List (List ℕ)). key_of (letter ∷ parent ∷ order ∷ x)) fits.2,
    )

node_is_read : (k : NodeKind) (parent : ℕ) (order : List (List ℕ)) → IsKind k → IsNode parent → stored_node_of (stored_node (node_of k parent order)) ≡ Some (node_of k parent order)
node_is_read k parent order is fits =
    ap (λ (x : Option (List (List ℕ))). x >>= node_with) (split_again (kind_part k ∷ node_part parent ∷ key_of order ∷ kind_fields k))
    ∙ ap (λ (x : Option ℕ). x >>= (λ number. split_of (key_of order) >>= (λ names. option_map (λ l. node_of l number names) (kind_of (kind_part k) (kind_fields k))))) (node_again parent fits)
    ∙ ap (λ (x : Option (List (List ℕ))). x >>= (λ names. option_map (λ l. node_of l parent names) (kind_of (kind_part k) (kind_fields k)))) (split_again order)
    ∙ ap (λ (x : Option NodeKind). option_map (λ l. node_of l parent order) x) (kind_again k is)

-- ---- trees

nodes_fit : (parts : List (List ℕ)) (nodes : List Node) → nodes_of parts ≡ Some nodes → All IsTreeNode nodes × (map stored_node nodes ≡ parts)
nodes_fit [] nodes e =
    let none : [] ≡ nodes = cc in
    subst (λ (ns : List Node). All IsTreeNode ns × (map stored_node ns ≡ [])) none (All-nil IsTreeNode, refl)
nodes_fit (bytes ∷ parts) nodes e =
    let first = bind_some (stored_node_of bytes) _ nodes e in
    let split = bind_some (split_of bytes) _ first.0 first.1 in
    let node = node_fits split.0 first.0 split.2 in
    let rest = map_some _ (nodes_of parts) nodes first.2 in
    let later = nodes_fit parts rest.0 rest.1 in
    subst (λ (ns : List Node). All IsTreeNode ns × (map stored_node ns ≡ bytes ∷ parts)) rest.2 (
      All-cons IsTreeNode first.0 rest.0 node.0 later.0,
      ap (λ (x : List ℕ). x ∷ map stored_node rest.0) (node.1 ∙ split_takes bytes split.0 split.1) ∙ ap (λ (xs : List (List ℕ)). bytes ∷ xs) later.1,
    )

nodes_again : (nodes : List Node) → All IsTreeNode nodes → nodes_of (map stored_node nodes) ≡ Some nodes
nodes_again [] all = refl
nodes_again (node ∷ nodes) all =
    let one : IsTreeNode node = all 0 node (omega arith) in
    ap (λ (x : Option Node). x >>= (λ n. option_map (λ ns. n ∷ ns) (nodes_of (map stored_node nodes)))) (node_is_read node.kind node.parent node.order one.0 one.1)
    ∙ ap (λ (x : Option (List Node)). option_map (λ ns. node ∷ ns) x) (nodes_again nodes (λ k d lt. all (suc k) d (omega arith)))

tree_takes : (bytes : List ℕ) (tree : Tree) → tree_of bytes ≡ Some tree → ReadsTree bytes (Some tree)
tree_takes bytes tree e =
    let split = bind_some (split_of bytes) _ tree e in
    let read = map_some _ (nodes_of split.0) tree split.2 in
    let nodes = nodes_fit split.0 read.0 read.1 in
    subst (λ (t : Tree). ReadsTree bytes (Some t)) read.2 (nodes.0, ap key_of nodes.1 ∙ split_takes bytes split.0 split.1)

pub tree_again : (tree : Tree) → IsStorable tree → tree_of (stored_tree tree) ≡ Some tree
tree_again tree is =
    ap (λ (x : Option (List (List ℕ))). x >>= (λ parts. option_map (λ (ns : List Node). record { nodes = ns }) (nodes_of parts))) (split_again (map stored_node tree.nodes))
    ∙ ap (λ (x : Option (List Node)). option_map (λ (ns : List Node). record { nodes = ns }) x) (nodes_again tree.nodes is)

pub reads_tree : (bytes : List ℕ) (found : Option Tree) → found ≡ tree_of bytes → ReadsTree bytes found
reads_tree bytes (Some tree) is = tree_takes bytes tree (sym is)
reads_tree bytes None is = λ tree storable stored. absurd (
    let some : tree_of bytes ≡ Some tree = ap tree_of (sym stored) ∙ tree_again tree storable in
    let none : None ≡ Some tree = is ∙ some in cc)
