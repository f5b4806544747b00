use Rattle.std.proofs.Common.{◌≡◌, None, refl, ◌∙◌, arith, rules}
use Rattle.pcj_pending.proofs.WalkLemmas.{one_call}
use Rattle.pcj_export.proofs.WalkLemmas.{found_is, one_less_ahead, reads_all, reads_on, smaller}
use Rattle.pcj_export.proofs.reading.read_between.Goals as goal

pub loop-last-smaller : goal.loop-last-smaller
loop-last-smaller g c =
    let table = g.T.RowTable.rows c.loop-last.table in
    let met = found_is table table c.loop-last.last c.as_slice.result.now c.args.end.now c.in_ok-met.field-0 c.as_slice.ensures refl (c.in_ok-met.ensures {u = tt}).found ∙ c.in-Some.is in
    smaller c.args.end.now c.loop-last.last c.in_ok-last.last table (g.T.RowTable.rows c.next.new.self) c.in-Some.met met (c.in_ok-last.ensures {u = tt}).key c.next.ensures.same

pub loop-last-preserved : goal.loop-last-preserved
loop-last-preserved g c =
    let reads = c.loop-last.invariant.0 in
    let old = g.T.RowTable.rows c.args.table.now in
    let table = g.T.RowTable.rows c.loop-last.table in
    let met = found_is table old c.loop-last.last c.as_slice.result.now c.args.end.now c.in_ok-met.field-0 c.as_slice.ensures reads.same (c.in_ok-met.ensures {u = tt}).found ∙ c.in-Some.is in
    let key = (c.in_ok-last.ensures {u = tt}).key in
    let fewer = one_less_ahead c.args.end.now c.loop-last.last c.in_ok-last.last old c.in-Some.met met key in
    let made = one_call (g.T.RowTable.made c.loop-last.table) (g.T.RowTable.made c.next.new.self) c.next.ensures.calls in (
      reads_on c.args.after c.args.end.now c.loop-last.last c.in_ok-last.last old table (g.T.RowTable.rows c.next.new.self) c.loop-last.values c.push_met.new.values c.in-Some.met met key
          c.next.ensures.same (c.in_ok-last.ensures {u = tt}).added reads,
      omega (arith, c.loop-last.invariant.1, c.next.ensures.cause.later),
      omega (arith, fewer, made, c.loop-last.invariant.2),
    )

pub returns-clause-values : goal.returns-clause-values
returns-clause-values g c =
    let none : c.in_ok-met.field-0 ≡ None = search rules in
    let reads = c.loop-last.invariant.0 in
    let old = g.T.RowTable.rows c.args.table.now in
    let table = g.T.RowTable.rows c.loop-last.table in
    let met = found_is table old c.loop-last.last c.as_slice.result.now c.args.end.now c.in_ok-met.field-0 c.as_slice.ensures reads.same (c.in_ok-met.ensures {u = tt}).found ∙ none in
    reads_all c.args.after c.args.end.now c.loop-last.last old table c.loop-last.values met reads
