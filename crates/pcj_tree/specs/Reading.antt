-- Reading a stored tree from left to right.
use Rattle.std.specs.Prelude.{ℕ, zero, suc, Bool, true, false, length, List, [], ◌∷◌, ◌==◌, codes, Option, Some, None, if◌then◌else◌}
use Rattle.std.specs.Option.{option_map}
use Rattle.pcj_term.specs.Order.{same_bytes}
use Rattle.pcj_term.specs.Reading.{◌>>=◌, after, term_of}
use Rattle.pcj_key.specs.Reading.{first_part}
use Rattle.pcj_encode.specs.Reading as encoded
use Rattle.pcj_expr.specs.declared.compare.Compare.{Compare}
use Rattle.pcj_expr.specs.declared.compare.Compare.TheVariants as compare
use Rattle.pcj_expr.specs.declared.expr.Expr.{Expr}
use Rattle.pcj_expr.specs.declared.expr.Expr.TheVariants as expr
use Rattle.pcj_expr.specs.declared.operand.Operand.{Operand}
use Rattle.pcj_expr.specs.declared.operand.Operand.TheVariants as operand
use Rattle.pcj_algebra.specs.declared.query.Aggregate.{Aggregate}
use Rattle.pcj_algebra.specs.declared.query.Aggregate.TheVariants as aggregate
use Rattle.pcj_algebra.specs.declared.triple_pattern.Slot.{Slot}
use Rattle.pcj_algebra.specs.declared.triple_pattern.Slot.TheVariants as slot
use Rattle.pcj_tree.specs.declared.node.Node.{Node}
use Rattle.pcj_tree.specs.declared.node.NodeKind.{NodeKind}
use Rattle.pcj_tree.specs.declared.node.NodeKind.TheVariants as kind
use Rattle.pcj_tree.specs.declared.tree.Tree.{Tree}
use Rattle.pcj_tree.specs.Tree.{node_of}

-- ---- the parts of a key

-- the parts, of which there are so many at most
abbrev pub split_up_to : ℕ → List ℕ → Option (List (List ℕ))
split_up_to zero [] = Some []
split_up_to zero (byte ∷ bytes) = None
split_up_to (suc count) [] = Some []
split_up_to (suc count) (byte ∷ bytes) = first_part false (byte ∷ bytes) >>= (λ found. option_map (λ parts. found.0 ∷ parts) (split_up_to count found.1))

unfoldable pub split_of : List ℕ → Option (List (List ℕ))
split_of bytes = split_up_to (length bytes) bytes

-- ---- slots and operands

abbrev pub slot_from : List ℕ → Option (List ℕ) → Option Slot
slot_from part (Some name) = Some (slot.Var name)
slot_from part None = option_map slot.Value (term_of part)

abbrev pub slot_of : List ℕ → Option Slot
slot_of part = slot_from part (after 63 part)

abbrev pub operand_from : List ℕ → Option (List ℕ) → Option Operand
operand_from part (Some name) = Some (operand.Var name)
operand_from part None = option_map operand.Value (term_of part)

abbrev pub operand_of : List ℕ → Option Operand
operand_of part = operand_from part (after 63 part)

-- ---- conditions

abbrev pub compare_of : List ℕ → Option Compare
compare_of part =
    if same_bytes part (codes "=") then Some compare.Eq else
    if same_bytes part (codes "!=") then Some compare.Ne else
    if same_bytes part (codes "<") then Some compare.Lt else
    if same_bytes part (codes ">") then Some compare.Gt else
    if same_bytes part (codes "<=") then Some compare.Le else
    if same_bytes part (codes ">=") then Some compare.Ge else
    None

abbrev pub test_of : List ℕ → List ℕ → List ℕ → Option Expr
test_of sign left right = compare_of sign >>= (λ of. operand_of left >>= (λ l. option_map (expr.Test of l) (operand_of right)))

-- whether an operator is that of an or or an and
abbrev pub pair_of : List ℕ → Option Bool
pair_of sign = if same_bytes sign (codes "|") then Some true else if same_bytes sign (codes "&") then Some false else None

abbrev pub paired : Bool → Expr → Expr → Expr
paired true left right = expr.Or left right
paired false left right = expr.And left right

abbrev pub both : Bool → Option Expr → Option Expr → Option Expr
both is_or left right = left >>= (λ l. option_map (paired is_or l) right)

-- what an operator and two sides are, where inner reads a condition
abbrev pub two_sided : (List ℕ → Option Expr) → List ℕ → List ℕ → List ℕ → Option Bool → Option Expr
two_sided inner sign left right (Some is_or) = both is_or (inner left) (inner right)
two_sided inner sign left right None = test_of sign left right

abbrev pub operation_of : (List ℕ → Option Expr) → List (List ℕ) → Option Expr
operation_of inner [] = None
operation_of inner (sign ∷ []) = None
operation_of inner (sign ∷ side ∷ []) = if same_bytes sign (codes "!") then option_map expr.Not (inner side) else None
operation_of inner (sign ∷ left ∷ right ∷ []) = two_sided inner sign left right (pair_of sign)
operation_of inner (sign ∷ left ∷ right ∷ part ∷ parts) = None

-- the condition, where it is so deep at most
unfoldable pub expr_of : ℕ → List ℕ → Option Expr
expr_of zero bytes = None
expr_of (suc levels) bytes = split_of bytes >>= operation_of (expr_of levels)

-- ---- nodes

abbrev pub pattern_of : List (List ℕ) → Option NodeKind
pattern_of [] = None
pattern_of (first ∷ []) = None
pattern_of (first ∷ second ∷ []) = None
pattern_of (first ∷ second ∷ third ∷ []) =
    slot_of first >>= (λ s. slot_of second >>= (λ p. option_map (λ o. kind.Pattern (record { subject = s; predicate = p; object = o })) (slot_of third)))
pattern_of (first ∷ second ∷ third ∷ fourth ∷ fields) = None

-- two numbers and nothing else
abbrev pub numbers_of : List (List ℕ) → Option (ℕ × ℕ)
numbers_of [] = None
numbers_of (first ∷ []) = None
numbers_of (first ∷ second ∷ []) = encoded.node_of first >>= (λ left. option_map (λ right. (left, right)) (encoded.node_of second))
numbers_of (first ∷ second ∷ third ∷ fields) = None

abbrev pub join_of : List (List ℕ) → Option NodeKind
join_of fields = option_map (λ numbers. kind.Join numbers.0 numbers.1) (numbers_of fields)

abbrev pub union_of : List (List ℕ) → Option NodeKind
union_of fields = option_map (λ numbers. kind.Union numbers.0 numbers.1) (numbers_of fields)

abbrev pub filter_of : List (List ℕ) → Option NodeKind
filter_of [] = None
filter_of (first ∷ []) = None
filter_of (first ∷ second ∷ []) = encoded.node_of first >>= (λ child. option_map (kind.Filter child) (expr_of 65536 second))
filter_of (first ∷ second ∷ third ∷ fields) = None

abbrev pub project_of : List (List ℕ) → Option NodeKind
project_of [] = None
project_of (first ∷ []) = option_map kind.Project (encoded.node_of first)
project_of (first ∷ second ∷ fields) = None

abbrev pub group_of : Aggregate → List (List ℕ) → Option NodeKind
group_of of [] = None
group_of of (first ∷ []) = None
group_of of (first ∷ second ∷ []) = option_map (λ child. kind.Group child of second) (encoded.node_of first)
group_of of (first ∷ second ∷ third ∷ fields) = None

-- the kind that has this letter
abbrev pub lettered : ℕ → List (List ℕ) → Option NodeKind
lettered letter fields =
    if letter == 112 then pattern_of fields else
    if letter == 106 then join_of fields else
    if letter == 102 then filter_of fields else
    if letter == 117 then union_of fields else
    if letter == 100 then project_of fields else
    if letter == 99 then group_of aggregate.Count fields else
    if letter == 115 then group_of aggregate.Sum fields else
    if letter == 108 then group_of aggregate.Min fields else
    if letter == 104 then group_of aggregate.Max fields else
    None

abbrev pub kind_of : List ℕ → List (List ℕ) → Option NodeKind
kind_of [] fields = None
kind_of (letter ∷ []) fields = lettered letter fields
kind_of (letter ∷ next ∷ bytes) fields = None

-- the node that has these parts
abbrev pub node_with : List (List ℕ) → Option Node
node_with [] = None
node_with (letter ∷ []) = None
node_with (letter ∷ parent ∷ []) = None
node_with (letter ∷ parent ∷ order ∷ fields) =
    encoded.node_of parent >>= (λ number. split_of order >>= (λ names. option_map (λ kind. node_of kind number names) (kind_of letter fields)))

abbrev pub stored_node_of : List ℕ → Option Node
stored_node_of bytes = split_of bytes >>= node_with

-- ---- trees

abbrev pub nodes_of : List (List ℕ) → Option (List Node)
nodes_of [] = Some []
nodes_of (bytes ∷ parts) = stored_node_of bytes >>= (λ node. option_map (λ nodes. node ∷ nodes) (nodes_of parts))

abbrev pub tree_of : List ℕ → Option Tree
tree_of bytes = split_of bytes >>= (λ parts. option_map (λ nodes. record { nodes = nodes }) (nodes_of parts))
