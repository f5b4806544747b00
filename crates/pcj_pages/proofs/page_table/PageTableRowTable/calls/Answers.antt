use Rattle.std.proofs.Common.{ap, sym, ◌∙◌, arith}
use Rattle.std.specs.FinMap as finmap
use Rattle.pcj_sorted.specs.Entries.{table_of}
use Rattle.pcj_sorted.proofs.Tables.{as_many}
use Rattle.pcj_pages.specs.Pages.{Kept, rows_of}
use Rattle.pcj_pages.proofs.Walks.{rows_few}
use Rattle.pcj_pages.proofs.page_table.PageTableRowTable.calls.Goals as goal

pub returns-clause-keys : goal.returns-clause-keys
returns-clause-keys c =
    let many = ap (λ (kept : Kept). finmap.len (table_of (rows_of kept.pages))) (sym c.self.view_is) ∙ as_many (rows_of c.self.inside.pages.items) c.self.invariant.rise in
    let few = rows_few c.self.inside.pages.items c.self.invariant.sized in
    omega (arith, many, few, c.self.invariant.few)
