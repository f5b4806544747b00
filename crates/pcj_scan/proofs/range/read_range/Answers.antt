use Rattle.std.proofs.Common.{rules, ◌≡◌, List, None, ap, sym, subst, ◌∙◌, arith}
use Rattle.pcj_table.specs.Table.{Key}
use Rattle.pcj_encode.specs.declared.key_range.KeyRange.{KeyRange}
use Rattle.pcj_expr.specs.declared.mapping.Mapping.{Mapping}
use Rattle.pcj_patterns.specs.Serving.{rows_of}
use Rattle.pcj_scan.specs.Ranges.{NeverHasPlain, rows_in}
use Rattle.pcj_scan.proofs.RangeLemmas.{Walking, step_fewer, walk_begins, walk_done, walk_step, walk_stops}
use Rattle.pcj_scan.proofs.range.read_range.Goals as goal

pub loop-last-init : goal.loop-last-init
loop-last-init g c =
    let table = g.T.RowTable.rows c.args.table.now in
    let is : c.in_ok-after.field-0 ≡ (rows_of c.args.pattern.now).1 = c.in_ok-after.ensures {u = tt} in
    let after : c.in_ok-after.field-0.after ≡ (rows_of c.args.pattern.now).1.after = ap (λ (r : KeyRange). r.after) is in
    let ahead = ap (λ (k : Key). rows_in k (rows_of c.args.pattern.now).1.end table) after in (
      subst (λ (ms : List Mapping). Walking c.args.pattern.now c.args.at table table c.in_ok-after.field-0.after ms) (sym c.new-matches.ensures) (walk_begins c.args.pattern.now c.args.at table c.in_ok-after.field-0.after after),
      omega arith,
      omega (arith, ahead),
    )

pub next_found-requires : goal.next_found-requires
next_found-requires g c =
    let is : c.in_ok-after.field-0 ≡ (rows_of c.args.pattern.now).1 = c.in_ok-after.ensures {u = tt} in
    subst (λ (k : Key). NeverHasPlain c.loop-last.last k) (sym (ap (λ (r : KeyRange). r.end) is)) c.loop-last.invariant.0.never

pub returns-in_err-key-clause-part : goal.returns-in_err-key-clause-part
returns-in_err-key-clause-part g c =
    walk_stops c.args.pattern.now c.args.at (g.T.RowTable.rows c.args.table.now) (g.T.RowTable.rows c.loop-last.table) (g.T.RowTable.rows c.next_found.new.table) c.loop-last.last c.loop-last.matches c.loop-last.invariant.0 c.next_found.ensures.part

pub returns-in_err-key-clause-plain : goal.returns-in_err-key-clause-plain
returns-in_err-key-clause-plain g c = λ key. c.next_found.ensures.plain key ∙ c.loop-last.invariant.0.plain key

pub returns-in_err-key-clause-rows : goal.returns-in_err-key-clause-rows
returns-in_err-key-clause-rows g c = λ key nothing. c.next_found.ensures.rows key (c.loop-last.invariant.0.rows key nothing)

pub returns-in_err-key-clause-most : goal.returns-in_err-key-clause-most
returns-in_err-key-clause-most g c = omega (arith, c.next_found.ensures.most, c.loop-last.invariant.2)

pub returns-in_err-push_match-clause-part : goal.returns-in_err-push_match-clause-part
returns-in_err-push_match-clause-part g c =
    walk_stops c.args.pattern.now c.args.at (g.T.RowTable.rows c.args.table.now) (g.T.RowTable.rows c.loop-last.table) (g.T.RowTable.rows c.next_found.new.table) c.loop-last.last c.loop-last.matches c.loop-last.invariant.0 c.next_found.ensures.part

pub returns-in_err-push_match-clause-plain : goal.returns-in_err-push_match-clause-plain
returns-in_err-push_match-clause-plain g c = λ key. c.next_found.ensures.plain key ∙ c.loop-last.invariant.0.plain key

pub returns-in_err-push_match-clause-rows : goal.returns-in_err-push_match-clause-rows
returns-in_err-push_match-clause-rows g c = λ key nothing. c.next_found.ensures.rows key (c.loop-last.invariant.0.rows key nothing)

pub returns-in_err-push_match-clause-most : goal.returns-in_err-push_match-clause-most
returns-in_err-push_match-clause-most g c = omega (arith, c.next_found.ensures.most, c.loop-last.invariant.2)

pub loop-last-smaller : goal.loop-last-smaller
loop-last-smaller g c =
    let is : c.in_ok-after.field-0 ≡ (rows_of c.args.pattern.now).1 = c.in_ok-after.ensures {u = tt} in
    let fewer = step_fewer c.args.pattern.now (g.T.RowTable.rows c.loop-last.table) (g.T.RowTable.rows c.next_found.new.table) c.loop-last.last c.in_ok-after.field-0.end c.in-Some.key _ (ap (λ (r : KeyRange). r.end) is) c.in-Some.is
    (c.in_ok-key.ensures {u = tt}).ahead c.next_found.ensures.rows in
    omega (arith, fewer)

pub loop-last-preserved : goal.loop-last-preserved
loop-last-preserved g c =
    let is : c.in_ok-after.field-0 ≡ (rows_of c.args.pattern.now).1 = c.in_ok-after.ensures {u = tt} in
    let found = c.in_ok-key.ensures {u = tt} in
    let calls = found.calls in
    let before = c.loop-last.invariant.2 in
    let fewer = step_fewer c.args.pattern.now (g.T.RowTable.rows c.loop-last.table) (g.T.RowTable.rows c.next_found.new.table) c.loop-last.last c.in_ok-after.field-0.end c.in-Some.key _ (ap (λ (r : KeyRange). r.end) is) c.in-Some.is
    found.ahead c.next_found.ensures.rows in (
      walk_step c.args.pattern.now c.args.at (g.T.RowTable.rows c.args.table.now) (g.T.RowTable.rows c.loop-last.table) (g.T.RowTable.rows c.next_found.new.table) c.loop-last.last c.in_ok-after.field-0.end c.in-Some.key c.as_slice.result.now _
          c.loop-last.matches c.push_match.new.matches (ap (λ (r : KeyRange). r.end) is) c.in-Some.is c.as_slice.ensures c.loop-last.invariant.0 found.read found.ahead (c.in_ok-push_match.ensures {u = tt}) c.next_found.ensures.rows c.next_found.ensures.plain,
      omega (arith, c.loop-last.invariant.1, c.next_found.ensures.cause.later),
      omega (arith, calls, before, fewer),
    )

pub returns-clause-part : goal.returns-clause-part
returns-clause-part g c =
    walk_stops c.args.pattern.now c.args.at (g.T.RowTable.rows c.args.table.now) (g.T.RowTable.rows c.loop-last.table) (g.T.RowTable.rows c.next_found.new.table) c.loop-last.last c.loop-last.matches c.loop-last.invariant.0 c.next_found.ensures.part

pub returns-clause-read : goal.returns-clause-read
returns-clause-read g c =
    let is : c.in_ok-after.field-0 ≡ (rows_of c.args.pattern.now).1 = c.in_ok-after.ensures {u = tt} in
    let none : c.in_ok-key.field-0 ≡ None = search rules in
    walk_done c.args.pattern.now c.args.at (g.T.RowTable.rows c.args.table.now) (g.T.RowTable.rows c.loop-last.table) (g.T.RowTable.rows c.next_found.new.table) c.loop-last.last c.in_ok-after.field-0.end c.in_ok-key.field-0 c.loop-last.matches
    (ap (λ (r : KeyRange). r.end) is) none c.loop-last.invariant.0 (c.in_ok-key.ensures {u = tt}).read

pub returns-clause-plain : goal.returns-clause-plain
returns-clause-plain g c = λ key. c.next_found.ensures.plain key ∙ c.loop-last.invariant.0.plain key

pub returns-clause-rows : goal.returns-clause-rows
returns-clause-rows g c = λ key nothing. c.next_found.ensures.rows key (c.loop-last.invariant.0.rows key nothing)

pub returns-clause-calls : goal.returns-clause-calls
returns-clause-calls g c = let calls = (c.in_ok-key.ensures {u = tt}).calls in let before = c.loop-last.invariant.2 in omega (arith, calls, before)
