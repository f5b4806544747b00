-- What holds of all exports.
use Rattle.std.specs.Prelude.{◌≡◌, ℕ, List, map, length}
use Rattle.pcj_table.specs.Table.{Table}
use Rattle.pcj_tree.specs.declared.tree.Tree.{Tree}
use Rattle.pcj_notify.specs.declared.answer.Answer.{Answer}
use Rattle.pcj_notify.specs.declared.ask.Ask.{Ask}
use Rattle.pcj_notify.specs.declared.task.Task.{Task}
use Rattle.pcj_answers.specs.Rows.{Row, cell, row_line}
use Rattle.pcj_export.specs.Lines.{HavePlainsAlone, exported, rows_met}
use Rattle.pcj_export.specs.Plan.{IsExportAsk, line_of}

-- two asks for one task, one tree and the same answers are one
abbrev pub AreOne : Type 0
AreOne = (task : Task) (tree : Tree) (answers : List Answer) (ask other : Ask) → IsExportAsk task tree answers ask → IsExportAsk task tree answers other → ask ≡ other

-- the line of a row's cells is the line of the row
abbrev pub AreRowLines : Type 0
AreRowLines = (row : Row) → line_of (map cell row) ≡ row_line row

-- of rows that have plain values alone as many are met as there are lines
abbrev pub MeetsValuesAlone : Type 0
MeetsValuesAlone = (registration : ℕ) (table : Table) → HavePlainsAlone registration table → rows_met registration table ≡ length (exported registration table)
