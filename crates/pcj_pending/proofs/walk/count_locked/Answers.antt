use Rattle.std.proofs.Common.{◌≡◌, [], Some, None, sym, subst, ap, ◌∙◌, arith, rules}
use Rattle.pcj_table.specs.Table.{Key, is_next_lock}
use Rattle.pcj_pending.proofs.WalkLemmas.{Counts, met_key, lock_walk, counts_begin, counts_on, can_be_counted, ahead_is_less, all_counted, counted_so_far, one_call}
use Rattle.pcj_pending.proofs.walk.count_locked.Goals as goal

pub loop-last-init : goal.loop-last-init
loop-last-init g c =
    let table = g.T.RowTable.rows c.args.table.now in
    (subst (Counts is_next_lock [] table table 0) (sym c.new-last.ensures) (counts_begin is_next_lock [] table c.rows_can_be_counted.ensures), omega arith, omega arith)

pub returns-in_err-key-clause-calls : goal.returns-in_err-key-clause-calls
returns-in_err-key-clause-calls g c =
    let made = one_call (g.T.RowTable.made c.loop-last.table) (g.T.RowTable.made c.next_locked.new.table) c.next_locked.ensures.calls in
    let counted = counted_so_far _ [] (g.T.RowTable.rows c.args.table.now) (g.T.RowTable.rows c.loop-last.table) c.loop-last.locked c.loop-last.last c.loop-last.invariant.0 in
    omega (arith, made, counted, c.loop-last.invariant.2)

pub overflow_add-locked : goal.overflow_add-locked
overflow_add-locked g c =
    let key : Some c.in-Some.key ≡ met_key (is_next_lock c.loop-last.last) (g.T.RowTable.rows c.loop-last.table) =
    sym c.in-Some.is ∙ (c.in_ok-key.ensures {u = tt}).key ∙ ap (λ (k : Key). met_key (is_next_lock k) (g.T.RowTable.rows c.loop-last.table)) c.as_slice.ensures in
    let fits = can_be_counted is_next_lock _ lock_walk [] (g.T.RowTable.rows c.args.table.now) (g.T.RowTable.rows c.loop-last.table)
    c.loop-last.locked c.loop-last.last c.in-Some.key key c.loop-last.invariant.0 in
    omega (arith, fits)

pub loop-last-smaller : goal.loop-last-smaller
loop-last-smaller g c =
    let key : Some c.in-Some.key ≡ met_key (is_next_lock c.loop-last.last) (g.T.RowTable.rows c.loop-last.table) =
    sym c.in-Some.is ∙ (c.in_ok-key.ensures {u = tt}).key ∙ ap (λ (k : Key). met_key (is_next_lock k) (g.T.RowTable.rows c.loop-last.table)) c.as_slice.ensures in
    ahead_is_less is_next_lock _ lock_walk (g.T.RowTable.rows c.loop-last.table) (g.T.RowTable.rows c.next_locked.new.table)
    c.loop-last.last c.in-Some.key key c.next_locked.ensures.same

pub loop-last-preserved : goal.loop-last-preserved
loop-last-preserved g c =
    let key : Some c.in-Some.key ≡ met_key (is_next_lock c.loop-last.last) (g.T.RowTable.rows c.loop-last.table) =
    sym c.in-Some.is ∙ (c.in_ok-key.ensures {u = tt}).key ∙ ap (λ (k : Key). met_key (is_next_lock k) (g.T.RowTable.rows c.loop-last.table)) c.as_slice.ensures in
    let made = one_call (g.T.RowTable.made c.loop-last.table) (g.T.RowTable.made c.next_locked.new.table) c.next_locked.ensures.calls in (
      counts_on is_next_lock _ lock_walk [] (g.T.RowTable.rows c.args.table.now) (g.T.RowTable.rows c.loop-last.table) (g.T.RowTable.rows c.next_locked.new.table)
          c.loop-last.locked c.loop-last.last c.in-Some.key key c.next_locked.ensures.same c.loop-last.invariant.0,
      omega (arith, c.loop-last.invariant.1, c.next_locked.ensures.cause.later),
      omega (arith, made, c.loop-last.invariant.2),
    )

pub returns-clause-count : goal.returns-clause-count
returns-clause-count g c =
    let none : None ≡ met_key (is_next_lock c.loop-last.last) (g.T.RowTable.rows c.loop-last.table) =
    sym (search rules) ∙ (c.in_ok-key.ensures {u = tt}).key ∙ ap (λ (k : Key). met_key (is_next_lock k) (g.T.RowTable.rows c.loop-last.table)) c.as_slice.ensures in
    all_counted is_next_lock [] (g.T.RowTable.rows c.args.table.now) (g.T.RowTable.rows c.loop-last.table) c.loop-last.locked c.loop-last.last none c.loop-last.invariant.0

pub returns-clause-calls : goal.returns-clause-calls
returns-clause-calls g c =
    let made = one_call (g.T.RowTable.made c.loop-last.table) (g.T.RowTable.made c.next_locked.new.table) c.next_locked.ensures.calls in
    let counted = counted_so_far _ [] (g.T.RowTable.rows c.args.table.now) (g.T.RowTable.rows c.loop-last.table) c.loop-last.locked c.loop-last.last c.loop-last.invariant.0 in
    omega (arith, made, counted, c.loop-last.invariant.2)
