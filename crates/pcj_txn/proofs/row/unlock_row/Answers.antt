use Rattle.std.proofs.Common.{refl, sym, subst}
use Rattle.pcj_mvcc.proofs.Laws.{KeepsPlain}
use Rattle.pcj_txn.proofs.Numbers.{number_stays}
use Rattle.pcj_txn.proofs.row.unlock_row.Goals as goal

pub returns-clause-number : goal.returns-clause-number
returns-clause-number g c =
    number_stays (g.T.RowTable.rows c.args.table.now) (g.T.RowTable.rows c.carry_out.new.table) _ c.in_ok-act.act c.carry_out.result
    (subst KeepsPlain (sym (c.in_ok-act.ensures {u = tt})) (λ row. refl)) c.carry_out.ensures.done c.carry_out.ensures.err
