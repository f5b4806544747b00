-- The rows of nodes that stand are true: each is a row that the node has over triples that stand (SPARQL 1.1 Query, section 18.5).
use Rattle.std.specs.Prelude.{◌≡◌, ◌<◌, ℕ, Bool, true, false, List, map, Some, IsSome}
use Rattle.std.specs.List.{All}
use Rattle.pcj_term.specs.declared.triple.Triple.{Triple}
use Rattle.pcj_encode.specs.declared.order.Order.TheVariants.{Spo}
use Rattle.pcj_encode.specs.declared.key_name.KeyName.TheVariants as row
use Rattle.pcj_encode.specs.Name.{IsName, IsTriple, key_of}
use Rattle.pcj_rowtables.specs.Rows.{triple_key}
use Rattle.pcj_algebra.specs.declared.query.Query.{Query}
use Rattle.pcj_answers.specs.Rows.{Row, cell}
use Rattle.pcj_tree.specs.declared.node.Node.{Node}
use Rattle.pcj_tree.specs.declared.node.NodeKind.{NodeKind}
use Rattle.pcj_tree.specs.declared.node.NodeKind.TheVariants as kind
use Rattle.pcj_tree.specs.declared.tree.Tree.{Tree}
use Rattle.pcj_tree.specs.Meaning.{IsRowAt, numbered}
use Rattle.pcj_tree.specs.Tree.{IsTree}
use Rattle.pcj_mvcc.specs.Reading.{Put, Rows, standing}
use Rattle.pcj_rows.specs.Registrations.{IsRegistered}

-- the triple's rows stand
abbrev pub StandsIn : Rows → Triple → Type 0
StandsIn rows triple = IsTriple triple × IsSome (standing rows (triple_key Spo triple))

abbrev pub is_group : NodeKind → Bool
is_group (kind.Pattern of) = false
is_group (kind.Join left right) = false
is_group (kind.Filter child condition) = false
is_group (kind.Union left right) = false
is_group (kind.Project child) = false
is_group (kind.Group child aggregate var) = true

-- these are the cells of a row that the node has over some triples, each of which stands
pub record IsRowOver (rows : Rows) (tree : Tree) (number : ℕ) (node : Node) (cells : List (List ℕ)) : Type 0 where
  pub query : Query
  pub of_query : IsTree query tree
  pub triples : List Triple
  pub stand : All (StandsIn rows) triples
  pub its : Row
  pub is_row : IsRowAt triples query number node its
  pub cells_are : cells ≡ map cell its

-- the row is of a node of a registration, later than that, and of no group
pub record IsNodeRow (rows : Rows) (registration number : ℕ) (cells : List (List ℕ)) (commit : ℕ) : Type 0 where
  pub name : List ℕ
  pub tree : Tree
  pub at : ℕ
  pub registered : IsRegistered rows registration name tree at
  pub later : at < commit
  pub node : Node
  pub is_node : numbered tree.nodes number ≡ Some node
  pub no_group : is_group node.kind ≡ false
  pub over : IsRowOver rows tree number node cells

abbrev pub NodeRowsAreTrue : Rows → Type 0
NodeRowsAreTrue rows = (registration number : ℕ) (cells : List (List ℕ)) (put : Put) → IsName (row.Node registration number cells) →
    standing rows (key_of (row.Node registration number cells)) ≡ Some put → IsNodeRow rows registration number cells put.1
