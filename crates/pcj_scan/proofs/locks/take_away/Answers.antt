use Rattle.std.proofs.Common.{subst, arith}
use Rattle.pcj_recover.specs.Steps.{Steps}
use Rattle.pcj_scan.proofs.ReaderLemmas.{in_part}
use Rattle.pcj_table.specs.Table.{row_at}
use Rattle.pcj_scan.proofs.RecoveryLemmas.{resolving_begins, resolving_ends, resolving_goes_on, resolving_in_part, resolving_stops, some_lock, three_at_most}
use Rattle.pcj_scan.proofs.locks.take_away.Goals as goal

pub loop-recovery-init : goal.loop-recovery-init
loop-recovery-init g c =
    let most = three_at_most c.new-recovery.result in
    (resolving_begins (g.T.RowTable.rows c.args.table.now) c.args.key c.args.lock c.new-recovery.result c.requires c.new-recovery.ensures, omega arith, omega (arith, most))

pub returns-in_err-step-clause-part : goal.returns-in_err-step-clause-part
returns-in_err-step-clause-part g c =
    resolving_in_part (g.T.RowTable.rows c.args.table.now) (g.T.RowTable.rows c.step.new.table) c.loop-recovery.recovery
    (resolving_stops (g.T.RowTable.rows c.args.table.now) (g.T.RowTable.rows c.loop-recovery.table) (g.T.RowTable.rows c.step.new.table) c.loop-recovery.recovery c.loop-recovery.invariant.0 (c.in_err-step.ensures {u = tt}).err)

pub returns-in_err-step-clause-some : goal.returns-in_err-step-clause-some
returns-in_err-step-clause-some g c = some_lock (g.T.RowTable.rows c.args.table.now) c.args.key c.args.lock c.requires

pub loop-recovery-preserved : goal.loop-recovery-preserved
loop-recovery-preserved g c =
    let told = c.in_ok-step.ensures {u = tt} in
    let fewer = told.fewer c.in-Working.is in
    let made = told.calls in (
      resolving_goes_on (g.T.RowTable.rows c.args.table.now) (g.T.RowTable.rows c.loop-recovery.table) (g.T.RowTable.rows c.step.new.table) c.loop-recovery.recovery c.step.new.self c.loop-recovery.invariant.0
          (subst (λ e. Steps c.loop-recovery.recovery (g.T.RowTable.rows c.loop-recovery.table) e c.step.new.self (g.T.RowTable.rows c.step.new.table)) c.in-Working.is told.step) c.step.ensures.plain,
      omega (arith, c.loop-recovery.invariant.1, c.step.ensures.cause.later),
      omega (arith, c.loop-recovery.invariant.2, fewer, made),
    )

pub returns-clause-part : goal.returns-clause-part
returns-clause-part g c = λ start.
    in_part start (row_at (g.T.RowTable.rows c.args.table.now)) (row_at (g.T.RowTable.rows c.step.new.table)) _
    ((resolving_ends (g.T.RowTable.rows c.args.table.now) (g.T.RowTable.rows c.loop-recovery.table) (g.T.RowTable.rows c.step.new.table) c.loop-recovery.recovery c.step.new.self c.in_ok-step.field-0 c.in_default.not-Working c.loop-recovery.invariant.0
    (c.in_ok-step.ensures {u = tt}).step c.step.ensures.plain).moves start)

pub returns-clause-whole : goal.returns-clause-whole
returns-clause-whole g c =
    (resolving_ends (g.T.RowTable.rows c.args.table.now) (g.T.RowTable.rows c.loop-recovery.table) (g.T.RowTable.rows c.step.new.table) c.loop-recovery.recovery c.step.new.self c.in_ok-step.field-0 c.in_default.not-Working c.loop-recovery.invariant.0
    (c.in_ok-step.ensures {u = tt}).step c.step.ensures.plain).moves

pub returns-clause-gone : goal.returns-clause-gone
returns-clause-gone g c =
    (resolving_ends (g.T.RowTable.rows c.args.table.now) (g.T.RowTable.rows c.loop-recovery.table) (g.T.RowTable.rows c.step.new.table) c.loop-recovery.recovery c.step.new.self c.in_ok-step.field-0 c.in_default.not-Working c.loop-recovery.invariant.0
    (c.in_ok-step.ensures {u = tt}).step c.step.ensures.plain).gone

pub returns-clause-rows : goal.returns-clause-rows
returns-clause-rows g c =
    (resolving_ends (g.T.RowTable.rows c.args.table.now) (g.T.RowTable.rows c.loop-recovery.table) (g.T.RowTable.rows c.step.new.table) c.loop-recovery.recovery c.step.new.self c.in_ok-step.field-0 c.in_default.not-Working c.loop-recovery.invariant.0
    (c.in_ok-step.ensures {u = tt}).step c.step.ensures.plain).rows

pub returns-clause-some : goal.returns-clause-some
returns-clause-some g c = some_lock (g.T.RowTable.rows c.args.table.now) c.args.key c.args.lock c.requires
