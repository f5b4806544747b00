-- The state in which a worker asks.
use Rattle.std.specs.Prelude.{◌≡◌, ◌⊎◌, ◌≤◌, ◌<◌, ℕ, List, [], Some}
use Rattle.std.specs.List.{All, Contains}
use Rattle.pcj_term.specs.declared.triple.Triple.{Triple}
use Rattle.pcj_encode.specs.declared.order.Order.{Order}
use Rattle.pcj_encode.specs.declared.key_name.KeyName.TheVariants as row
use Rattle.pcj_encode.specs.declared.task_name.TaskName.{TaskName}
use Rattle.pcj_encode.specs.declared.task_name.TaskName.TheVariants as task
use Rattle.pcj_encode.specs.Name.{IsTriple, key_of}
use Rattle.pcj_algebra.specs.declared.pattern.Pattern.TheVariants as pattern
use Rattle.pcj_algebra.specs.declared.query.Query.{Query}
use Rattle.pcj_algebra.specs.declared.query.Shape.TheVariants.{Distinct}
use Rattle.pcj_algebra.specs.declared.triple_pattern.TriplePattern.{TriplePattern}
use Rattle.pcj_algebra.specs.Variables.{triple_names}
use Rattle.pcj_patterns.specs.Serving.{rows_of}
use Rattle.pcj_tree.specs.declared.tree.Tree.{Tree}
use Rattle.pcj_tree.specs.Tree.{IsTree}
use Rattle.pcj_obs_pattern.specs.Rows.{IsPatternRow}
use Rattle.pcj_mvcc.specs.Reading.{Put, Rows, seen, standing}
use Rattle.pcj_moves.specs.declared.answer.Answer.{Answer}
use Rattle.pcj_moves.specs.Reads.{Reads}
use Rattle.pcj_nodes.specs.Commits.{Base}
use Rattle.pcj_nodes.specs.Nodes.{NodeRowsAreTrue}
use Rattle.pcj_nodes.specs.Puts.{PutsStay}
use Rattle.pcj_nodes.specs.Tasks.{RowTasksHaveOrigins}

-- ---- the state

-- the rows, and what was read of them at a worker's start
pub record AtWork (number start : ℕ) (rows : Rows) (answers : List Answer) : Type 0 where
  pub base : Base number rows
  pub puts : PutsStay rows
  pub nodes : NodeRowsAreTrue rows
  pub tasks : RowTasksHaveOrigins rows
  pub reads : Reads rows start answers
  pub begun : start < number
  pub number_is : 1 ≤ start

-- a cursor that is empty, or the key of a triple's row in this order
abbrev pub IsInOrder : Order → List ℕ → Type 0
IsInOrder order cursor = (cursor ≡ []) ⊎ ((triple : Triple) × IsTriple triple × (cursor ≡ key_of (row.Triple order triple)))

-- A backfill goes over triples' rows in the order that serves its pattern: so stood its cursor at each time at which it was seen.
abbrev pub CursorsAreInOrder : Rows → Type 0
CursorsAreInOrder rows = (registration node : ℕ) (of : TriplePattern) (order : List (List ℕ)) (at : ℕ) (cursor pattern : Put) → IsPatternRow registration node of order (key_of (row.Pattern registration node)) pattern.0 →
    standing rows (key_of (row.Pattern registration node)) ≡ Some pattern → seen rows (key_of (row.Task (task.Backfill registration node))) at ≡ Some cursor → IsInOrder (rows_of of).0 cursor.0

-- ---- which tasks

-- that of a triple or of a pattern
abbrev pub IsOfPattern : TaskName → Type 0
IsOfPattern (task.Triple triple) = Unit {0}
IsOfPattern (task.Backfill registration node) = Unit {0}
IsOfPattern (task.Row registration node cells) = ⊥
IsOfPattern (task.Export registration cells) = ⊥

-- that of a row of the registration, or of a line of its answer
abbrev pub IsOfAnswer : TaskName → ℕ → Type 0
IsOfAnswer (task.Triple triple) number = ⊥
IsOfAnswer (task.Backfill registration node) number = ⊥
IsOfAnswer (task.Row registration node cells) number = registration ≡ number
IsOfAnswer (task.Export registration cells) number = registration ≡ number

-- the tree of a query of one triple pattern that selects some of its variables
pub record IsOfOnePattern (tree : Tree) : Type 0 where
  pub query : Query
  pub is : IsTree query tree
  pub of : TriplePattern
  pub names : List (List ℕ)
  pub pattern_is : query.pattern ≡ pattern.Triple of
  pub shape_is : query.shape ≡ Distinct names
  pub among : All (λ name. Contains (triple_names of) name) names
