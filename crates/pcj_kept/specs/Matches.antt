-- Each match of a registered pattern has its row, or a task that is still to come to it.
use Rattle.std.specs.Prelude.{◌≡◌, ◌⊎◌, ◌<◌, ◌≤◌, ℕ, true, List, Some, IsSome}
use Rattle.pcj_term.specs.declared.triple.Triple.{Triple}
use Rattle.pcj_table.specs.Table.{Key, is_before}
use Rattle.pcj_encode.specs.declared.order.Order.TheVariants.{Spo}
use Rattle.pcj_encode.specs.declared.key_name.KeyName.TheVariants as row
use Rattle.pcj_encode.specs.declared.task_name.TaskName.{TaskName}
use Rattle.pcj_encode.specs.declared.task_name.TaskName.TheVariants as task
use Rattle.pcj_encode.specs.Name.{IsNode, IsTriple, key_of}
use Rattle.pcj_rowtables.specs.Rows.{triple_key}
use Rattle.pcj_expr.specs.declared.mapping.Mapping.{Mapping}
use Rattle.pcj_algebra.specs.declared.triple_pattern.TriplePattern.{TriplePattern}
use Rattle.pcj_algebra.specs.Match.{Matches}
use Rattle.pcj_patterns.specs.Serving.{rows_of}
use Rattle.pcj_tree.specs.declared.node.Node.{Node}
use Rattle.pcj_tree.specs.declared.node.NodeKind.TheVariants as kind
use Rattle.pcj_tree.specs.declared.tree.Tree.{Tree}
use Rattle.pcj_tree.specs.Meaning.{numbered}
use Rattle.pcj_obs_pattern.specs.Rows.{cells_of}
use Rattle.pcj_mvcc.specs.Reading.{Put, Rows, standing}
use Rattle.pcj_rows.specs.Registrations.{IsRegistered}

-- a triple that stands, a pattern of a registration that stands, and the match of the two
pub record Match (rows : Rows) : Type 0 where
  pub registration : ℕ
  pub name : List ℕ
  pub tree : Tree
  pub at : ℕ
  pub registered : IsRegistered rows registration name tree at
  pub number : ℕ
  pub small : IsNode number
  pub node : Node
  pub is_node : numbered tree.nodes number ≡ Some node
  pub of : TriplePattern
  pub is_pattern : node.kind ≡ kind.Pattern of
  pub triple : Triple
  pub valid : IsTriple triple
  pub put : Put
  pub stands : standing rows (triple_key Spo triple) ≡ Some put
  pub mapping : Mapping
  pub matches : Matches of triple mapping

-- the task stands, and its cursor is before the key
abbrev pub IsStillBefore : Rows → TaskName → Key → Type 0
IsStillBefore rows name key = (put : Put) × (standing rows (key_of (row.Task name)) ≡ Some put) × (is_before put.0 key ≡ true)

-- the row of the match stands; or the triple is later than the registration, and its task has still to come to the pattern; or the
-- backfill of the pattern has still to come to the triple
abbrev pub IsMet : (rows : Rows) → Match rows → Type 0
IsMet rows match =
    IsSome (standing rows (key_of (row.Node match.registration match.number (cells_of match.node.order match.mapping))))
    ⊎ (((match.at < match.put.1) × IsStillBefore rows (task.Triple match.triple) (key_of (row.Pattern match.registration match.number)))
    ⊎ ((match.put.1 ≤ match.at) × IsStillBefore rows (task.Backfill match.registration match.number) (key_of (row.Triple (rows_of match.of).0 match.triple))))

abbrev pub MatchesAreMet : Rows → Type 0
MatchesAreMet rows = (match : Match rows) → IsMet rows match
