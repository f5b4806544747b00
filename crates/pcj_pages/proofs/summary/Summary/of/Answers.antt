use Rattle.std.proofs.Common.{ap, arith, is_some}
use Rattle.pcj_table.specs.Row.{is_counted}
use Rattle.pcj_pages.specs.declared.summary.Summary.{Summary}
use Rattle.pcj_pages.proofs.Summaries.{one_at_most}
use Rattle.pcj_pages.proofs.summary.Summary.of.Goals as goal

pub and-summary-requires-clause-live : goal.and-summary-requires-clause-live
and-summary-requires-clause-live c =
    let one = one_at_most (is_counted c.found-item.result.row) in
    let is = ap (λ (s : Summary). s.live) c.of_row.ensures in
    omega (arith, one, is, c.loop-found.invariant.1, c.loop-found-test.true, c.requires)

pub and-summary-requires-clause-locks : goal.and-summary-requires-clause-locks
and-summary-requires-clause-locks c =
    let one = one_at_most (is_some c.found-item.result.row.lock) in
    let is = ap (λ (s : Summary). s.locks) c.of_row.ensures in
    omega (arith, one, is, c.loop-found.invariant.2, c.loop-found-test.true, c.requires)
