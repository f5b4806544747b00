use Rattle.std.proofs.Common.{◌≡◌, Some, None, sym, subst, ap, ◌∙◌, arith, rules}
use Rattle.pcj_table.specs.Table.{Key, Table, row_at}
use Rattle.pcj_pending.proofs.WalkLemmas.{one_call}
use Rattle.pcj_registrations.specs.Reading.{AddsMet}
use Rattle.pcj_registrations.specs.Registrations.{list_of}
use Rattle.pcj_registrations.proofs.WalkLemmas.{Passed, ahead_of, all_passed, first_met, found_is, less_ahead, passed_on, smaller}
use Rattle.pcj_registrations.proofs.walk.registrations.Goals as goal

pub returns-in_err-push_met-clause-calls : goal.returns-in_err-push_met-clause-calls
returns-in_err-push_met-clause-calls g c =
    let is = found_is (g.T.RowTable.rows c.loop-last.table) c.loop-last.last c.as_slice.result.now c.as_slice-in-loop-last.result.now c.in_ok-after.field-0 c.in_ok-met.field-0
    c.as_slice.ensures c.as_slice-in-loop-last.ensures (c.in_ok-after.ensures {u = tt}) (c.in_ok-met.ensures {u = tt}).found ∙ c.in-Some.is in
    let fewer = less_ahead (g.T.RowTable.rows c.args.table.now) c.loop-last.last c.in-Some.met (first_met (g.T.RowTable.rows c.loop-last.table) (g.T.RowTable.rows c.args.table.now) c.loop-last.last (Some c.in-Some.met) c.loop-last.invariant.1 is) in
    let made = one_call (g.T.RowTable.made c.loop-last.table) (g.T.RowTable.made c.next.new.self) c.next.ensures.calls in
    omega (arith, fewer, made, c.push_met.ensures.calls, c.loop-last.invariant.3)

pub loop-last-smaller : goal.loop-last-smaller
loop-last-smaller g c =
    let is = found_is (g.T.RowTable.rows c.loop-last.table) c.loop-last.last c.as_slice.result.now c.as_slice-in-loop-last.result.now c.in_ok-after.field-0 c.in_ok-met.field-0
    c.as_slice.ensures c.as_slice-in-loop-last.ensures (c.in_ok-after.ensures {u = tt}) (c.in_ok-met.ensures {u = tt}).found ∙ c.in-Some.is in
    smaller (g.T.RowTable.rows c.loop-last.table) (g.T.RowTable.rows c.push_met.new.table) c.loop-last.last c.key_of-last.result c.in-Some.met is c.key_of-last.ensures (c.push_met.ensures.same ∙ c.next.ensures.same)

pub loop-last-preserved : goal.loop-last-preserved
loop-last-preserved g c =
    let is = found_is (g.T.RowTable.rows c.loop-last.table) c.loop-last.last c.as_slice.result.now c.as_slice-in-loop-last.result.now c.in_ok-after.field-0 c.in_ok-met.field-0
    c.as_slice.ensures c.as_slice-in-loop-last.ensures (c.in_ok-after.ensures {u = tt}) (c.in_ok-met.ensures {u = tt}).found ∙ c.in-Some.is in
    let first = first_met (g.T.RowTable.rows c.loop-last.table) (g.T.RowTable.rows c.args.table.now) c.loop-last.last (Some c.in-Some.met) c.loop-last.invariant.1 is in
    let fewer = less_ahead (g.T.RowTable.rows c.args.table.now) c.loop-last.last c.in-Some.met first in
    let made = one_call (g.T.RowTable.made c.loop-last.table) (g.T.RowTable.made c.next.new.self) c.next.ensures.calls in
    let still = c.next.ensures.same ∙ c.loop-last.invariant.1 in
    let adds = subst (λ (t : Table). AddsMet (row_at t) c.in-Some.met.key c.in-Some.met.row c.loop-last.found c.push_met.new.found) still (c.in_ok-push_met.ensures {u = tt}).added in
    let same_ahead = ap (λ (k : Key). ahead_of k (g.T.RowTable.rows c.args.table.now)) c.key_of-last.ensures in (
      λ fits. subst (λ (k : Key). Passed (row_at (g.T.RowTable.rows c.args.table.now)) k (list_of c.push_met.new.found)) (sym c.key_of-last.ensures)
          (passed_on (g.T.RowTable.rows c.args.table.now) c.loop-last.last c.in-Some.met c.loop-last.found c.push_met.new.found first adds c.loop-last.invariant.0 fits),
      c.push_met.ensures.same ∙ still,
      omega (arith, c.loop-last.invariant.2, c.next.ensures.cause.later, c.push_met.ensures.cause.later),
      omega (arith, fewer, made, same_ahead, c.push_met.ensures.calls, c.loop-last.invariant.3),
    )

pub returns-clause-all : goal.returns-clause-all
returns-clause-all g c =
    let none : c.in_ok-met.field-0 ≡ None = search rules in
    let is = found_is (g.T.RowTable.rows c.loop-last.table) c.loop-last.last c.as_slice.result.now c.as_slice-in-loop-last.result.now c.in_ok-after.field-0 c.in_ok-met.field-0
    c.as_slice.ensures c.as_slice-in-loop-last.ensures (c.in_ok-after.ensures {u = tt}) (c.in_ok-met.ensures {u = tt}).found ∙ none in
    all_passed (g.T.RowTable.rows c.args.table.now) c.loop-last.last c.loop-last.found (first_met (g.T.RowTable.rows c.loop-last.table) (g.T.RowTable.rows c.args.table.now) c.loop-last.last None c.loop-last.invariant.1 is) c.loop-last.invariant.0
