use Rattle.std.proofs.Common.{◌∙◌, ap}
use Rattle.pcj_sorted.specs.Entries.{table_of}
use Rattle.pcj_sorted.proofs.Tables.{no_rows}
use Rattle.pcj_memtable.proofs.mem_table.MemTable.new.Goals as goal

pub returns-clause-empty : goal.returns-clause-empty
returns-clause-empty c = ap table_of c.new.ensures.items ∙ no_rows
