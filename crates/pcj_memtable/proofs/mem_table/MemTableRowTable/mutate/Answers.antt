use Rattle.std.proofs.Common.{◌∙◌, ap, arith}
use Rattle.pcj_table.specs.Row.{conds_hold}
use Rattle.pcj_table.specs.Table.{row_at}
use Rattle.pcj_sorted.specs.Entries.{table_of}
use Rattle.pcj_memtable.specs.Entries.{Kept}
use Rattle.pcj_sorted.proofs.Tables.{as_many}
use Rattle.pcj_memtable.proofs.mem_table.MemTableRowTable.mutate.Goals as goal

pub returns-in_err-mutate-clause-drops : goal.returns-in_err-mutate-clause-drops
returns-in_err-mutate-clause-drops c updates holds =
    let view = ap (λ (kept : Kept). conds_hold (row_at (table_of kept.rows) c.args.key.now) c.args.conds.now) c.self.view_is in
    let fine = c.mutate.ensures.drops updates (view ∙ holds) in
    let failed = c.in_err-mutate.was in
    let wrong = rw failed at fine in
    absurd cc

pub returns-in_err-mutate-clause-sure : goal.returns-in_err-mutate-clause-sure
returns-in_err-mutate-clause-sure c empty updates holds =
    let view = ap (λ (kept : Kept). conds_hold (row_at (table_of kept.rows) c.args.key.now) c.args.conds.now) c.self.view_is in
    let fine = c.mutate.ensures.drops updates (view ∙ holds) in
    let failed = c.in_err-mutate.was in
    let wrong = rw failed at fine in
    absurd cc

pub returns-in_err-begin_call-clause-keys : goal.returns-in_err-begin_call-clause-keys
returns-in_err-begin_call-clause-keys c =
    let many = as_many c.self.inside.rows.items c.self.invariant in
    omega (arith, many, c.self.inside.rows.ok.0, c.self.inside.rows.ok.1, c.self.inside.rows.small)

pub returns-in_err-mutate-clause-keys : goal.returns-in_err-mutate-clause-keys
returns-in_err-mutate-clause-keys c =
    let many = as_many c.mutate.new.rows.items c.mutate.ensures.sorted in
    omega (arith, many, c.mutate.new.rows.ok.0, c.mutate.new.rows.ok.1, c.mutate.new.rows.small)

pub returns-clause-keys : goal.returns-clause-keys
returns-clause-keys c =
    let many = as_many c.mutate.new.rows.items c.mutate.ensures.sorted in
    omega (arith, many, c.mutate.new.rows.ok.0, c.mutate.new.rows.ok.1, c.mutate.new.rows.small)
