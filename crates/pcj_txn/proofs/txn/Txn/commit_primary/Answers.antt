use Rattle.std.proofs.Common.{refl, rules}
use Rattle.pcj_txn.proofs.Events.{loses}
use Rattle.pcj_txn.proofs.txn.Txn.commit_primary.Goals as goal

pub returns-in-Rejected-clause-step : goal.returns-in-Rejected-clause-step
returns-in-Rejected-clause-step g c = λ oracle.
    (loses c.args.self.now _ (g.T.RowTable.rows c.unlock_row.new.table) c.args.commit c.in-Some.write.now c.in-Rejected.row (search rules) (search rules), search rules, refl)
