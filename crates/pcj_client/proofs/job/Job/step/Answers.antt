use Rattle.std.proofs.Common.{IfOk, ap, sym, ◌∙◌}
use Rattle.pcj_client.specs.Events.{IsMoved, IsTold, LeavesTriples, triples_after}
use Rattle.pcj_client.specs.Job.{loaded}
use Rattle.pcj_client.specs.Kinds.{job_in}
use Rattle.pcj_client.proofs.KindLemmas.{its_own}
use Rattle.pcj_client.proofs.job.Job.step.Goals as goal
use Rattle.pcj_client.proofs.job.Job.step.Goals.{in-Load, in-Register}

pub returns-clause-told : goal.returns-clause-told
returns-clause-told g c = elim c.match-self.branch [
  | in-Load w ↦ its_own (λ j r k o t. IfOk r (λ event. IsTold j c.args.oracle.now (g.T.RowTable.rows c.args.table.now) event k o (g.T.RowTable.rows t))) _ _ _ _ _ _ _ _ _ _ (sym c.self.view_is ∙ ap job_in w.in-Load.is) w.result-is (ap (λ j. job_in j.kind) w.self-inside-is) w.oracle-is w.table-is w.step.ensures.told
  | in-Register w ↦ its_own (λ j r k o t. IfOk r (λ event. IsTold j c.args.oracle.now (g.T.RowTable.rows c.args.table.now) event k o (g.T.RowTable.rows t))) _ _ _ _ _ _ _ _ _ _ (sym c.self.view_is ∙ ap job_in w.in-Register.is) w.result-is (ap (λ j. job_in j.kind) w.self-inside-is) w.oracle-is w.table-is w.step-in-Register.ensures.told
]

pub returns-clause-triples : goal.returns-clause-triples
returns-clause-triples g c known = elim c.match-self.branch [
  | in-Load w ↦ its_own (λ j r k o t. IfOk r (λ event. LeavesTriples j c.args.oracle.now (g.T.RowTable.rows c.args.table.now) (g.T.RowTable.rows t) known (triples_after event known (loaded j.content)))) _ _ _ _ _ _ _ _ _ _ (sym c.self.view_is ∙ ap job_in w.in-Load.is) w.result-is (ap (λ j. job_in j.kind) w.self-inside-is) w.oracle-is w.table-is (w.step.ensures.triples known)
  | in-Register w ↦ its_own (λ j r k o t. IfOk r (λ event. LeavesTriples j c.args.oracle.now (g.T.RowTable.rows c.args.table.now) (g.T.RowTable.rows t) known (triples_after event known (loaded j.content)))) _ _ _ _ _ _ _ _ _ _ (sym c.self.view_is ∙ ap job_in w.in-Register.is) w.result-is (ap (λ j. job_in j.kind) w.self-inside-is) w.oracle-is w.table-is (w.step-in-Register.ensures.triples known)
]

pub returns-clause-moves : goal.returns-clause-moves
returns-clause-moves g c = elim c.match-self.branch [
  | in-Load w ↦ its_own (λ j r k o t. IsMoved j c.args.oracle.now (g.T.RowTable.rows c.args.table.now) k o (g.T.RowTable.rows t)) _ _ _ _ _ _ _ _ _ _ (sym c.self.view_is ∙ ap job_in w.in-Load.is) w.result-is (ap (λ j. job_in j.kind) w.self-inside-is) w.oracle-is w.table-is w.step.ensures.moves
  | in-Register w ↦ its_own (λ j r k o t. IsMoved j c.args.oracle.now (g.T.RowTable.rows c.args.table.now) k o (g.T.RowTable.rows t)) _ _ _ _ _ _ _ _ _ _ (sym c.self.view_is ∙ ap job_in w.in-Register.is) w.result-is (ap (λ j. job_in j.kind) w.self-inside-is) w.oracle-is w.table-is w.step-in-Register.ensures.moves
]
