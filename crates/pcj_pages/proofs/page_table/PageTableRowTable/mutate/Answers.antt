use Rattle.std.proofs.Common.{◌∙◌, ap, arith}
use Rattle.pcj_table.specs.Row.{conds_hold}
use Rattle.pcj_table.specs.Table.{row_at}
use Rattle.pcj_sorted.specs.Entries.{table_of}
use Rattle.pcj_sorted.proofs.Tables.{as_many}
use Rattle.pcj_pages.specs.Pages.{Kept, rows_of}
use Rattle.pcj_pages.proofs.Walks.{rows_few}
use Rattle.pcj_pages.proofs.page_table.PageTableRowTable.mutate.Goals as goal

pub returns-in_err-mutate-clause-drops : goal.returns-in_err-mutate-clause-drops
returns-in_err-mutate-clause-drops c updates holds =
    let view = ap (λ (kept : Kept). conds_hold (row_at (table_of (rows_of kept.pages)) c.args.key.now) c.args.conds.now) c.self.view_is in
    let fine = c.mutate.ensures.drops updates (view ∙ holds) in
    let failed = c.in_err-mutate.was in
    let wrong = rw failed at fine in
    absurd cc

pub returns-in_err-mutate-clause-sure : goal.returns-in_err-mutate-clause-sure
returns-in_err-mutate-clause-sure c empty updates holds =
    let view = ap (λ (kept : Kept). conds_hold (row_at (table_of (rows_of kept.pages)) c.args.key.now) c.args.conds.now) c.self.view_is in
    let fine = c.mutate.ensures.drops updates (view ∙ holds) in
    let failed = c.in_err-mutate.was in
    let wrong = rw failed at fine in
    absurd cc

pub returns-in_err-begin_call-clause-keys : goal.returns-in_err-begin_call-clause-keys
returns-in_err-begin_call-clause-keys c =
    let many = as_many (rows_of c.self.inside.pages.items) c.self.invariant.rise in
    let few = rows_few c.self.inside.pages.items c.self.invariant.sized in
    omega (arith, many, few, c.self.invariant.few)

pub returns-in_err-mutate-clause-keys : goal.returns-in_err-mutate-clause-keys
returns-in_err-mutate-clause-keys c =
    let many = as_many (rows_of c.mutate.new.pages.items) c.mutate.ensures.pages.rise in
    let few = rows_few c.mutate.new.pages.items c.mutate.ensures.pages.sized in
    omega (arith, many, few, c.mutate.ensures.pages.few)

pub returns-clause-keys : goal.returns-clause-keys
returns-clause-keys c =
    let many = as_many (rows_of c.mutate.new.pages.items) c.mutate.ensures.pages.rise in
    let few = rows_few c.mutate.new.pages.items c.mutate.ensures.pages.sized in
    omega (arith, many, few, c.mutate.ensures.pages.few)
