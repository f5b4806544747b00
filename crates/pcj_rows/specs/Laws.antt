-- What holds of all rows that decode.
use Rattle.std.specs.Prelude.{ℕ, List}
use Rattle.pcj_term.specs.declared.triple.Triple.{Triple}
use Rattle.pcj_table.specs.Table.{Table, row_at}
use Rattle.pcj_encode.specs.declared.key_name.KeyName.{KeyName}
use Rattle.pcj_encode.specs.Name.{IsName, key_of}
use Rattle.pcj_mvcc.specs.Reading.{Rows}
use Rattle.pcj_rows.specs.Rows.{Decodes, IsRowOf}
use Rattle.pcj_rows.specs.Triples.{HasTriples}

-- the row of each name is one of that name, also where it holds nothing
abbrev pub RowsAreOfNames : Type 0
RowsAreOfNames = (next : ℕ) (rows : Rows) (name : KeyName) → Decodes next rows → IsName name → IsRowOf next name (rows (key_of name))

-- each table has a list of its triples
abbrev pub TablesHaveTriples : Type 0
TablesHaveTriples = (next : ℕ) (table : Table) → Decodes next (row_at table) → (triples : List Triple) × HasTriples (row_at table) triples
