-- The exported lines of a registered query, and when all that was to come to them has come.
use Rattle.std.specs.Prelude.{◌≡◌, ℕ, List, Some, None}
use Rattle.std.specs.List.{All, Contains}
use Rattle.pcj_table.specs.declared.plain.Plain.{Plain}
use Rattle.pcj_encode.specs.declared.key_name.KeyName.TheVariants as row
use Rattle.pcj_encode.specs.declared.task_name.TaskName.{TaskName}
use Rattle.pcj_encode.specs.Name.{IsName, IsTask, key_of}
use Rattle.pcj_algebra.specs.declared.pattern.Pattern.TheVariants as pattern
use Rattle.pcj_algebra.specs.declared.query.Query.{Query}
use Rattle.pcj_algebra.specs.declared.query.Shape.TheVariants.{Distinct}
use Rattle.pcj_algebra.specs.declared.triple_pattern.TriplePattern.{TriplePattern}
use Rattle.pcj_algebra.specs.Variables.{triple_names}
use Rattle.pcj_mvcc.specs.Reading.{Rows, standing}

-- a row of the registration's exports has the line
pub record IsExportedLine (rows : Rows) (registration : ℕ) (line : List ℕ) : Type 0 where
  pub cells : List (List ℕ)
  pub named : IsName (row.Export registration cells)
  pub plain : Plain
  pub stands : (rows (key_of (row.Export registration cells))).plain ≡ Some plain
  pub line_is : plain.value ≡ Some line

-- the query asks for some variables of one triple pattern: such queries have observers
abbrev pub IsOfOnePattern : Query → Type 0
IsOfOnePattern query = (of : TriplePattern) × (names : List (List ℕ)) × (query.pattern ≡ pattern.Triple of) × (query.shape ≡ Distinct names)

-- each of them is a variable of the pattern
abbrev pub AreSelected : Query → Type 0
AreSelected query = (of : TriplePattern) (names : List (List ℕ)) → query.pattern ≡ pattern.Triple of → query.shape ≡ Distinct names → All (Contains (triple_names of)) names

-- nobody has work left
abbrev pub NoTaskStands : Rows → Type 0
NoTaskStands rows = (name : TaskName) → IsTask name → standing rows (key_of (row.Task name)) ≡ None
