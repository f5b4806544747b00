use Rattle.std.proofs.lemmas.Result.{IfOk-weaker}
use Rattle.pcj_recover.proofs.Decisions.{decided}
use Rattle.pcj_recover.proofs.Plain.{plain_stays}
use Rattle.pcj_recover.proofs.recovery.Recovery.step.Goals as goal

pub returns-then-eq-clause-decides : goal.returns-then-eq-clause-decides
returns-then-eq-clause-decides g c = λ times. IfOk-weaker c.drop_own.result _ _ (λ event steps. decided c.args.self.now _ event _ _ times steps) c.drop_own.ensures.step

pub returns-in-Locked-clause-decides : goal.returns-in-Locked-clause-decides
returns-in-Locked-clause-decides g c = λ times. IfOk-weaker c.drop_lock_of_primary.result _ _ (λ event steps. decided c.args.self.now _ event _ _ times steps) c.drop_lock_of_primary.ensures.step

-- ---- plain values

pub returns-then-eq-clause-plain : goal.returns-then-eq-clause-plain
returns-then-eq-clause-plain g c = plain_stays _ _ (g.T.RowTable.rows c.args.table.now) (g.T.RowTable.rows c.drop_own.new.table) c.drop_own.result c.drop_own.ensures.step c.drop_own.ensures.err

pub returns-in-Locked-clause-plain : goal.returns-in-Locked-clause-plain
returns-in-Locked-clause-plain g c =
    plain_stays _ _ (g.T.RowTable.rows c.args.table.now) (g.T.RowTable.rows c.drop_lock_of_primary.new.table) c.drop_lock_of_primary.result c.drop_lock_of_primary.ensures.step c.drop_lock_of_primary.ensures.err

pub returns-in-Gone-clause-plain : goal.returns-in-Gone-clause-plain
returns-in-Gone-clause-plain g c = plain_stays _ _ (g.T.RowTable.rows c.args.table.now) (g.T.RowTable.rows c.roll_back.new.table) c.roll_back.result c.roll_back.ensures.step c.roll_back.ensures.err

pub returns-in-Committed-clause-plain : goal.returns-in-Committed-clause-plain
returns-in-Committed-clause-plain g c =
    plain_stays _ _ (g.T.RowTable.rows c.args.table.now) (g.T.RowTable.rows c.roll_forward.new.table) c.roll_forward.result c.roll_forward.ensures.step c.roll_forward.ensures.err
