use Rattle.std.proofs.Common.{ap, sym, ◌∙◌, arith}
use Rattle.std.specs.FinMap as finmap
use Rattle.pcj_sorted.specs.Entries.{table_of}
use Rattle.pcj_memtable.specs.Entries.{Kept}
use Rattle.pcj_sorted.proofs.Tables.{as_many}
use Rattle.pcj_memtable.proofs.mem_table.MemTableRowTable.calls.Goals as goal

pub returns-clause-keys : goal.returns-clause-keys
returns-clause-keys c =
    let many = ap (λ (kept : Kept). finmap.len (table_of kept.rows)) (sym c.self.view_is) ∙ as_many c.self.inside.rows.items c.self.invariant in
    omega (arith, many, c.self.inside.rows.ok.0, c.self.inside.rows.ok.1, c.self.inside.rows.small)
