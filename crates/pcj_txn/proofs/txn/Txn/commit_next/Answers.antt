use Rattle.std.proofs.Common.{◌≡◌, true, List, slice_get, Some, refl, sym, subst, rules}
use Rattle.std.proofs.lemmas.Bool.{ltb-true}
use Rattle.std.proofs.lemmas.Option.{slice_get_read}
use Rattle.pcj_table.specs.declared.write.Write.{Write}
use Rattle.pcj_txn.specs.Progress.{Progress, Due, CommitSecondary, due}
use Rattle.pcj_txn.specs.Errors.{step_calls, MakesStepCalls}
use Rattle.pcj_txn.proofs.Events.{due_next, settled}
use Rattle.pcj_txn.proofs.txn.Txn.commit_next.Goals as goal

pub returns-clause-step : goal.returns-clause-step
returns-clause-step g c = λ oracle.
    let there = (c.in-Some.ensures {u = tt}).lookup in
    let found : slice_get c.as_slice.result.now c.self.inside.settled ≡ Some c.in-Some.write.now = slice_get_read _ _ _ _ refl (ltb-true _ _ (sym there.0)) there.1 in
    let next : slice_get c.args.self.now.transaction.writes c.args.self.now.settled ≡ Some c.in-Some.write.now =
    subst (λ (p : Progress). slice_get p.transaction.writes p.settled ≡ Some c.in-Some.write.now) c.self.view_is (subst (λ (ws : List Write). slice_get ws c.self.inside.settled ≡ Some c.in-Some.write.now) c.as_slice.ensures found) in
    let is : due c.args.self.now ≡ CommitSecondary c.in-Some.write.now c.args.commit = due_next c.args.self.now c.args.commit c.in-Some.write.now c.requires.drawn c.requires.committed next in
    (settled c.args.self.now _ _ c.args.commit c.in-Some.write.now c.in_ok-unlock_row.field-0 is (search rules), search rules, refl)

pub returns-clause-calls : goal.returns-clause-calls
returns-clause-calls g c = λ oracle.
    let there = (c.in-Some.ensures {u = tt}).lookup in
    let found : slice_get c.as_slice.result.now c.self.inside.settled ≡ Some c.in-Some.write.now = slice_get_read _ _ _ _ refl (ltb-true _ _ (sym there.0)) there.1 in
    let next : slice_get c.args.self.now.transaction.writes c.args.self.now.settled ≡ Some c.in-Some.write.now =
    subst (λ (p : Progress). slice_get p.transaction.writes p.settled ≡ Some c.in-Some.write.now) c.self.view_is (subst (λ (ws : List Write). slice_get ws c.self.inside.settled ≡ Some c.in-Some.write.now) c.as_slice.ensures found) in
    let is : due c.args.self.now ≡ CommitSecondary c.in-Some.write.now c.args.commit = due_next c.args.self.now c.args.commit c.in-Some.write.now c.requires.drawn c.requires.committed next in
    subst (λ (d : Due). MakesStepCalls (step_calls d oracle (g.T.RowTable.rows c.args.table.now)) (g.T.RowTable.made c.args.table.now) (g.T.RowTable.made c.unlock_row.new.table) true) (sym is) (c.in_ok-unlock_row.ensures {u = tt}).calls
