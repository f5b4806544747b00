-- The exported lines of a registered query are lines of its answer, and where no task stands they are all of them.
use Rattle.std.specs.Prelude.{ℕ, List}
use Rattle.pcj_term.specs.declared.triple.Triple.{Triple}
use Rattle.pcj_algebra.specs.declared.query.Query.{Query}
use Rattle.pcj_answers.specs.Answers.{IsLine}
use Rattle.pcj_tree.specs.declared.tree.Tree.{Tree}
use Rattle.pcj_tree.specs.Tree.{IsTree}
use Rattle.pcj_mvcc.specs.Reading.{Rows}
use Rattle.pcj_rows.specs.Registrations.{IsRegistered}
use Rattle.pcj_rows.specs.Triples.{HasTriples}
use Rattle.pcj_fit.specs.Fit.{Fit}
use Rattle.pcj_ready.specs.Ready.{AreSelected, IsExportedLine, IsOfOnePattern, NoTaskStands}

-- wherever the program was stopped, and whoever is at work, no exported line is false
abbrev pub ExportedLinesAreTrue : Type 0
ExportedLinesAreTrue = (number : ℕ) (rows : Rows) (triples : List Triple) (registration : ℕ) (name : List ℕ) (tree : Tree) (at : ℕ) (query : Query) (line : List ℕ) → Fit number rows → HasTriples rows triples →
    IsRegistered rows registration name tree at → IsTree query tree → IsOfOnePattern query → IsExportedLine rows registration line → IsLine query triples line

-- where no task stands each line of the answer is exported
abbrev pub QuietLinesAreAll : Type 0
QuietLinesAreAll = (number : ℕ) (rows : Rows) (triples : List Triple) (registration : ℕ) (name : List ℕ) (tree : Tree) (at : ℕ) (query : Query) (line : List ℕ) → Fit number rows → HasTriples rows triples →
    IsRegistered rows registration name tree at → IsTree query tree → IsOfOnePattern query → AreSelected query → NoTaskStands rows → IsLine query triples line → IsExportedLine rows registration line
