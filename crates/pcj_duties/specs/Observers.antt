-- What a worker does for a task, by what it has read: how far the task goes on, and which rows it adds.
use Rattle.std.specs.Prelude.{◌≡◌, ◌⊎◌, ◌≤◌, ℕ, true, false, List, [], ◌∷◌, Option, Some, None}
use Rattle.std.specs.List.{All}
use Rattle.pcj_term.specs.declared.triple.Triple.{Triple}
use Rattle.pcj_table.specs.Table.{Key, is_before, is_between}
use Rattle.pcj_table.specs.declared.write.Write.{Write}
use Rattle.pcj_encode.specs.declared.key_range.KeyRange.{KeyRange}
use Rattle.pcj_encode.specs.declared.key_name.KeyName.TheVariants as row
use Rattle.pcj_encode.specs.declared.task_name.TaskName.{TaskName}
use Rattle.pcj_encode.specs.declared.task_name.TaskName.TheVariants as task
use Rattle.pcj_encode.specs.Name.{IsName, key_of}
use Rattle.pcj_encode.specs.Range.{patterns, range_of}
use Rattle.pcj_expr.specs.declared.mapping.Mapping.{Mapping}
use Rattle.pcj_algebra.specs.declared.triple_pattern.TriplePattern.{TriplePattern}
use Rattle.pcj_algebra.specs.Match.{IsMatch, Matches}
use Rattle.pcj_tree.specs.declared.node.Node.{Node}
use Rattle.pcj_tree.specs.declared.tree.Tree.{Tree}
use Rattle.pcj_patterns.specs.Serving.{rows_of}
use Rattle.pcj_notify.specs.Plans.{beyond}
use Rattle.pcj_obs_pattern.specs.Rows.{IsPatternRow, cells_of}
use Rattle.pcj_obs_pass.specs.Cells.{cells_at}
use Rattle.pcj_obs_pass.specs.Plan.{IsProjected}
use Rattle.pcj_moves.specs.Transactions.{write_at}
use Rattle.pcj_moves.specs.declared.answer.Answer.{Answer}
use Rattle.pcj_rows.specs.Plans.{IsLoadPlan, IsRegisterPlan}
use Rattle.pcj_rows.specs.Reads.{HasRead, IsMissedIn}
use Rattle.pcj_rows.specs.Registrations.{IsQueryTree, registration_value}
use Rattle.pcj_duties.specs.Added.{Adds, IsNew, NodeRow, rows_writes}

-- ---- how far a task goes on

abbrev pub IsShortOf : Option Key → Key → Type 0
IsShortOf None key = Unit {0}
IsShortOf (Some place) key = is_before key place ≡ true

-- every row of the range short of this place was looked at, and has nothing
abbrev pub HasPassed : List Answer → KeyRange → Option Key → Type 0
HasPassed answers range moved = (key : Key) → is_between range.after range.end key ≡ true → IsShortOf moved key → IsMissedIn answers key

-- ---- matches

-- the row of a match
abbrev pub match_row : ℕ → ℕ → List (List ℕ) → Mapping → NodeRow
match_row registration node order mapping = record { registration = registration; node = node; cells = cells_of order mapping; is_result = false }

-- a pattern meets a triple: the row of their match is there, or it is added
abbrev pub Meets : List Answer → ℕ → ℕ → TriplePattern → List (List ℕ) → Triple → List NodeRow → Type 0
Meets answers registration node of order triple rows =
    (IsMatch of triple None × (rows ≡ [])) ⊎ ((mapping : Mapping) × Matches of triple mapping × Adds answers (match_row registration node order mapping) rows)

-- the row of a pattern stands at this place, and the pattern meets the triple
pub record MeetsPattern (answers : List Answer) (triple : Triple) (place : Key) (rows : List NodeRow) : Type 0 where
  pub registration : ℕ
  pub node : ℕ
  pub of : TriplePattern
  pub order : List (List ℕ)
  pub value : List ℕ
  pub is_row : IsPatternRow registration node of order place value
  pub read : HasRead answers (row.Pattern registration node) value
  pub meets : Meets answers registration node of order triple rows

-- where the task is done no row is added, and else the pattern is met that it goes on to
abbrev pub MeetsNext : List Answer → Triple → Option Key → List NodeRow → Type 0
MeetsNext answers triple None rows = rows ≡ []
MeetsNext answers triple (Some place) rows = MeetsPattern answers triple place rows

-- a triple's task goes over the patterns
pub record ForTriple (answers : List Answer) (triple : Triple) (cursor : List ℕ) (moved : Option Key) (rows : List NodeRow) : Type 0 where
  pub passed : HasPassed answers (beyond cursor (range_of patterns)) moved
  pub next : MeetsNext answers triple moved rows

-- the row of a triple stands at this place, in the order that serves the pattern, and the pattern meets it
pub record MeetsTriple (answers : List Answer) (registration node : ℕ) (of : TriplePattern) (order : List (List ℕ)) (place : Key) (rows : List NodeRow) : Type 0 where
  pub triple : Triple
  pub value : List ℕ
  pub is_row : place ≡ key_of (row.Triple (rows_of of).0 triple)
  pub read : HasRead answers (row.Triple (rows_of of).0 triple) value
  pub meets : Meets answers registration node of order triple rows

abbrev pub MeetsNextTriple : List Answer → ℕ → ℕ → TriplePattern → List (List ℕ) → Option Key → List NodeRow → Type 0
MeetsNextTriple answers registration node of order None rows = rows ≡ []
MeetsNextTriple answers registration node of order (Some place) rows = MeetsTriple answers registration node of order place rows

-- a backfill goes over the triples in the range of its pattern
pub record ForBackfill (answers : List Answer) (registration node : ℕ) (cursor : List ℕ) (moved : Option Key) (rows : List NodeRow) : Type 0 where
  pub of : TriplePattern
  pub order : List (List ℕ)
  pub value : List ℕ
  pub is_row : IsPatternRow registration node of order (key_of (row.Pattern registration node)) value
  pub read : HasRead answers (row.Pattern registration node) value
  pub passed : HasPassed answers (beyond cursor (rows_of of).1) moved
  pub next : MeetsNextTriple answers registration node of order moved rows

-- ---- rows of nodes

-- the row of the projection for one of its child's
abbrev pub result_row : ℕ → List (List ℕ) → Node → Node → NodeRow
result_row registration cells child parent = record { registration = registration; node = child.parent; cells = cells_at child.order cells parent.order; is_result = true }

-- the task of a row below a projection is done, and the projection's row is there, or it is added
pub record ForRow (answers : List Answer) (registration node : ℕ) (cells : List (List ℕ)) (moved : Option Key) (rows : List NodeRow) : Type 0 where
  pub name : List ℕ
  pub tree : Tree
  pub of_query : IsQueryTree tree
  pub read : HasRead answers (row.Registration registration) (registration_value name tree)
  pub child : Node
  pub parent : Node
  pub projected : IsProjected tree node cells child parent
  pub done : moved ≡ None
  pub adds : Adds answers (result_row registration cells child parent) rows

-- ---- all tasks

-- what is done for the task of this name, which has this cursor
abbrev pub IsDoneFor : List Answer → TaskName → List ℕ → Option Key → List NodeRow → Type 0
IsDoneFor answers (task.Triple triple) cursor moved rows = ForTriple answers triple cursor moved rows
IsDoneFor answers (task.Backfill registration node) cursor moved rows = ForBackfill answers registration node cursor moved rows
IsDoneFor answers (task.Row registration node cells) cursor moved rows = ForRow answers registration node cells moved rows
IsDoneFor answers (task.Export registration cells) cursor moved rows = (moved ≡ None) × (rows ≡ [])

-- A worker has read a task at its start. Its transaction moves the task on, or ends it, and adds rows that it has looked for and
-- not found, each with its task.
pub record IsObserverPlan (start : ℕ) (answers : List Answer) (writes : List Write) : Type 0 where
  pub first : 1 ≤ start
  pub task : TaskName
  pub cursor : List ℕ
  pub read : HasRead answers (row.Task task) cursor
  pub moved : Option Key
  pub rows : List NodeRow
  pub new : All (IsNew answers) rows
  pub done : IsDoneFor answers task cursor moved rows
  pub writes_are : writes ≡ record { key = key_of (row.Task task); value = moved } ∷ rows_writes rows

-- ---- all actors

-- what an actor is at work for: nothing, a load, a registration, or a task
abbrev pub HasPurpose : ℕ → List Answer → List Write → Type 0
HasPurpose start answers writes =
    (writes ≡ [])
    ⊎ (((triples : List Triple) × IsLoadPlan start answers writes triples)
    ⊎ (((name : List ℕ) × (tree : Tree) × IsRegisterPlan start answers writes name tree)
    ⊎ IsObserverPlan start answers writes))

-- no export's task is written
abbrev pub EndsNoExport : List Write → Type 0
EndsNoExport writes = (registration : ℕ) (cells : List (List ℕ)) → IsName (row.Export registration cells) → write_at writes (key_of (row.Task (task.Export registration cells))) ≡ None
