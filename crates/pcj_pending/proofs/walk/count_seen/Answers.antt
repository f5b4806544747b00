use Rattle.std.proofs.Common.{◌≡◌, Some, None, sym, ap, ◌∙◌, arith, rules}
use Rattle.pcj_table.specs.Table.{Key, is_next_at}
use Rattle.pcj_pending.proofs.WalkLemmas.{met_key, seen_walk, counts_begin, counts_on, can_be_counted, ahead_is_less, all_counted, counted_so_far, one_call}
use Rattle.pcj_pending.proofs.walk.count_seen.Goals as goal

pub loop-last-init : goal.loop-last-init
loop-last-init g c = (counts_begin (λ key. is_next_at key c.args.end.now c.args.at) c.args.after (g.T.RowTable.rows c.args.table.now) c.rows_can_be_counted.ensures, omega arith, omega arith)

pub returns-in_err-key-clause-calls : goal.returns-in_err-key-clause-calls
returns-in_err-key-clause-calls g c =
    let made = one_call (g.T.RowTable.made c.loop-last.table) (g.T.RowTable.made c.next_seen.new.table) c.next_seen.ensures.calls in
    let counted = counted_so_far _ c.args.after (g.T.RowTable.rows c.args.table.now) (g.T.RowTable.rows c.loop-last.table) c.loop-last.seen c.loop-last.last c.loop-last.invariant.0 in
    omega (arith, made, counted, c.loop-last.invariant.2)

pub overflow_add-seen : goal.overflow_add-seen
overflow_add-seen g c =
    let key : Some c.in-Some.key ≡ met_key (is_next_at c.loop-last.last c.args.end.now c.args.at) (g.T.RowTable.rows c.loop-last.table) =
    sym c.in-Some.is ∙ (c.in_ok-key.ensures {u = tt}).key ∙ ap (λ (k : Key). met_key (is_next_at k c.args.end.now c.args.at) (g.T.RowTable.rows c.loop-last.table)) c.as_slice.ensures in
    let fits = can_be_counted (λ key. is_next_at key c.args.end.now c.args.at) _ (seen_walk c.args.end.now c.args.at) c.args.after (g.T.RowTable.rows c.args.table.now) (g.T.RowTable.rows c.loop-last.table)
    c.loop-last.seen c.loop-last.last c.in-Some.key key c.loop-last.invariant.0 in
    omega (arith, fits)

pub loop-last-smaller : goal.loop-last-smaller
loop-last-smaller g c =
    let key : Some c.in-Some.key ≡ met_key (is_next_at c.loop-last.last c.args.end.now c.args.at) (g.T.RowTable.rows c.loop-last.table) =
    sym c.in-Some.is ∙ (c.in_ok-key.ensures {u = tt}).key ∙ ap (λ (k : Key). met_key (is_next_at k c.args.end.now c.args.at) (g.T.RowTable.rows c.loop-last.table)) c.as_slice.ensures in
    ahead_is_less (λ key. is_next_at key c.args.end.now c.args.at) _ (seen_walk c.args.end.now c.args.at) (g.T.RowTable.rows c.loop-last.table) (g.T.RowTable.rows c.next_seen.new.table)
    c.loop-last.last c.in-Some.key key c.next_seen.ensures.same

pub loop-last-preserved : goal.loop-last-preserved
loop-last-preserved g c =
    let key : Some c.in-Some.key ≡ met_key (is_next_at c.loop-last.last c.args.end.now c.args.at) (g.T.RowTable.rows c.loop-last.table) =
    sym c.in-Some.is ∙ (c.in_ok-key.ensures {u = tt}).key ∙ ap (λ (k : Key). met_key (is_next_at k c.args.end.now c.args.at) (g.T.RowTable.rows c.loop-last.table)) c.as_slice.ensures in
    let made = one_call (g.T.RowTable.made c.loop-last.table) (g.T.RowTable.made c.next_seen.new.table) c.next_seen.ensures.calls in (
      counts_on (λ key. is_next_at key c.args.end.now c.args.at) _ (seen_walk c.args.end.now c.args.at) c.args.after (g.T.RowTable.rows c.args.table.now) (g.T.RowTable.rows c.loop-last.table) (g.T.RowTable.rows c.next_seen.new.table)
          c.loop-last.seen c.loop-last.last c.in-Some.key key c.next_seen.ensures.same c.loop-last.invariant.0,
      omega (arith, c.loop-last.invariant.1, c.next_seen.ensures.cause.later),
      omega (arith, made, c.loop-last.invariant.2),
    )

pub returns-clause-count : goal.returns-clause-count
returns-clause-count g c =
    let none : None ≡ met_key (is_next_at c.loop-last.last c.args.end.now c.args.at) (g.T.RowTable.rows c.loop-last.table) =
    sym (search rules) ∙ (c.in_ok-key.ensures {u = tt}).key ∙ ap (λ (k : Key). met_key (is_next_at k c.args.end.now c.args.at) (g.T.RowTable.rows c.loop-last.table)) c.as_slice.ensures in
    all_counted (λ key. is_next_at key c.args.end.now c.args.at) c.args.after (g.T.RowTable.rows c.args.table.now) (g.T.RowTable.rows c.loop-last.table) c.loop-last.seen c.loop-last.last none c.loop-last.invariant.0

pub returns-clause-calls : goal.returns-clause-calls
returns-clause-calls g c =
    let made = one_call (g.T.RowTable.made c.loop-last.table) (g.T.RowTable.made c.next_seen.new.table) c.next_seen.ensures.calls in
    let counted = counted_so_far _ c.args.after (g.T.RowTable.rows c.args.table.now) (g.T.RowTable.rows c.loop-last.table) c.loop-last.seen c.loop-last.last c.loop-last.invariant.0 in
    omega (arith, made, counted, c.loop-last.invariant.2)
