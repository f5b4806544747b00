use Rattle.std.proofs.Common.{◌∙◌, ap}
use Rattle.pcj_sorted.specs.Entries.{table_of}
use Rattle.pcj_sorted.proofs.Tables.{no_rows}
use Rattle.pcj_pages.specs.Pages.{rows_of}
use Rattle.pcj_pages.proofs.page_table.PageTable.new.Goals as goal

pub returns-clause-empty : goal.returns-clause-empty
returns-clause-empty c = ap (λ pages. table_of (rows_of pages)) c.new.ensures.items ∙ no_rows
