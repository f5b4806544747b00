use Rattle.std.proofs.Common.{◌≡◌, [], Some, ap, sym, subst, ◌∙◌, arith}
use Rattle.pcj_table.specs.Table.{row_at}
use Rattle.pcj_snapshot.specs.Reads.{Read, read_event}
use Rattle.pcj_pending.specs.Pending.{locks_of}
use Rattle.pcj_scan.specs.Ranges.{IsAhead}
use Rattle.pcj_scan.proofs.RangeLemmas.{IsMet, is_met, search_ends, search_finds, search_goes_on, search_so_far, search_stops, shown_by}
use Rattle.pcj_scan.proofs.range.next_found.Goals as goal

pub returns-in-Found-clause-read : goal.returns-in-Found-clause-read
returns-in-Found-clause-read g c = (
  c.in-Found.pair.value,
  search_finds c.args.at (g.T.RowTable.rows c.args.table.now) (g.T.RowTable.rows c.loop-read.table) (g.T.RowTable.rows c.step.new.table) c.args.after.now c.args.end.now c.in-Found.pair.key c.in-Found.pair.value c.requires c.step.ensures.rows c.loop-read.invariant.0
      (shown_by c.loop-read.read c.args.at c.args.after.now c.args.end.now (row_at (g.T.RowTable.rows c.loop-read.table)) c.in_ok-pair.field-0 _ c.loop-read.invariant.1 c.in-Found.is (c.in_ok-pair.ensures {u = tt}).seen),
)

pub returns-in-Found-clause-ahead : goal.returns-in-Found-clause-ahead
returns-in-Found-clause-ahead g c =
    subst (λ t. IsAhead c.args.after.now c.args.end.now t c.in-Found.pair.key) (sym c.step.ensures.rows)
    (subst (IsMet c.args.after.now c.args.end.now (g.T.RowTable.rows c.loop-read.table)) c.in-Found.is
    (is_met c.args.at c.args.after.now c.args.end.now (g.T.RowTable.rows c.loop-read.table) c.in_ok-pair.field-0
    ((c.in_ok-pair.ensures {u = tt}).told ∙ ap (λ (r : Read). read_event r (g.T.RowTable.rows c.loop-read.table)) c.loop-read.invariant.1)))

pub returns-in-Nothing-clause-read : goal.returns-in-Nothing-clause-read
returns-in-Nothing-clause-read g c = (
  [],
  search_ends c.args.at (g.T.RowTable.rows c.args.table.now) (g.T.RowTable.rows c.loop-read.table) (g.T.RowTable.rows c.step.new.table) c.args.after.now c.args.end.now c.requires c.step.ensures.rows c.loop-read.invariant.0
      (shown_by c.loop-read.read c.args.at c.args.after.now c.args.end.now (row_at (g.T.RowTable.rows c.loop-read.table)) c.in_ok-pair.field-0 _ c.loop-read.invariant.1 c.in-Nothing.is (c.in_ok-pair.ensures {u = tt}).seen),
)

pub take_away-requires : goal.take_away-requires
take_away-requires g c =
    subst (λ t. (row_at t c.in-MetLock.key).lock ≡ Some c.in-MetLock.lock) (sym c.step.ensures.rows)
    (subst (IsMet c.args.after.now c.args.end.now (g.T.RowTable.rows c.loop-read.table)) c.in-MetLock.is
    (is_met c.args.at c.args.after.now c.args.end.now (g.T.RowTable.rows c.loop-read.table) c.in_ok-pair.field-0
    ((c.in_ok-pair.ensures {u = tt}).told ∙ ap (λ (r : Read). read_event r (g.T.RowTable.rows c.loop-read.table)) c.loop-read.invariant.1)))

pub loop-read-preserved : goal.loop-read-preserved
loop-read-preserved g c =
    let done = c.in_ok-take_away-in-MetLock.ensures {u = tt} in
    let gone = done.gone in
    let read = c.step.ensures.calls in
    let taken = c.take_away.ensures.calls in
    let locks = ap locks_of c.step.ensures.rows in
    let before = c.loop-read.invariant.3 in (
      search_goes_on c.args.at (g.T.RowTable.rows c.args.table.now) (g.T.RowTable.rows c.loop-read.table) (g.T.RowTable.rows c.step.new.table) (g.T.RowTable.rows c.take_away.new.table) c.step.ensures.rows c.loop-read.invariant.0
          done.whole c.take_away.ensures.rows c.take_away.ensures.plain,
      c.step.ensures.same ∙ c.loop-read.invariant.1,
      omega (arith, c.loop-read.invariant.2, c.step.ensures.cause.later, c.take_away.ensures.cause.later),
      omega (arith, gone, read, taken, locks, before),
    )

pub returns-in_err-take_away-in-MetLock-clause-part : goal.returns-in_err-take_away-in-MetLock-clause-part
returns-in_err-take_away-in-MetLock-clause-part g c =
    search_stops c.args.at (g.T.RowTable.rows c.args.table.now) (g.T.RowTable.rows c.loop-read.table) (g.T.RowTable.rows c.step.new.table) (g.T.RowTable.rows c.take_away.new.table) c.step.ensures.rows c.loop-read.invariant.0 c.take_away.ensures.part

pub returns-in_err-pair-clause-part : goal.returns-in_err-pair-clause-part
returns-in_err-pair-clause-part g c = search_so_far c.args.at (g.T.RowTable.rows c.args.table.now) (g.T.RowTable.rows c.loop-read.table) (g.T.RowTable.rows c.step.new.table) c.step.ensures.rows c.loop-read.invariant.0

pub returns-in-Found-clause-part : goal.returns-in-Found-clause-part
returns-in-Found-clause-part g c = search_so_far c.args.at (g.T.RowTable.rows c.args.table.now) (g.T.RowTable.rows c.loop-read.table) (g.T.RowTable.rows c.step.new.table) c.step.ensures.rows c.loop-read.invariant.0

pub returns-in-Nothing-clause-part : goal.returns-in-Nothing-clause-part
returns-in-Nothing-clause-part g c = search_so_far c.args.at (g.T.RowTable.rows c.args.table.now) (g.T.RowTable.rows c.loop-read.table) (g.T.RowTable.rows c.step.new.table) c.step.ensures.rows c.loop-read.invariant.0
