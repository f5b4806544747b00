use Rattle.std.proofs.lemmas.Result.{IfOk-weaker}
use Rattle.pcj_mvcc.proofs.Laws.{carries_out}
use Rattle.pcj_mvcc.proofs.act.Act.carry_out.Goals as goal

pub returns-clause-done : goal.returns-clause-done
returns-clause-done g c =
    IfOk-weaker c.mutate.result _ _ (λ done mutates. carries_out (g.T.RowTable.rows c.args.table.now) (g.T.RowTable.rows c.mutate.new.self) c.args.key.now c.args.self.now _ _ done c.as_slice.ensures c.as_slice-2.ensures mutates) c.mutate.ensures.done
