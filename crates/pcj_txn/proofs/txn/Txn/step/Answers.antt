use Rattle.std.proofs.Common.{rules, arith}
use Rattle.pcj_txn.proofs.CallLemmas.{few_drawn, one_of_row}
use Rattle.pcj_txn.proofs.txn.Txn.step.Goals as goal

pub returns-in_err-prewrite_next-in-None-clause-one : goal.returns-in_err-prewrite_next-in-None-clause-one
returns-in_err-prewrite_next-in-None-clause-one g c = one_of_row c.args.oracle.now 1 _ _ _ (omega arith) (c.in_err-prewrite_next-in-None.ensures {u = tt}).calls

pub returns-in_ok-prewrite_next-in-None-clause-one : goal.returns-in_ok-prewrite_next-in-None-clause-one
returns-in_ok-prewrite_next-in-None-clause-one g c = one_of_row c.args.oracle.now 1 _ _ _ (omega arith) (c.in_ok-prewrite_next-in-None.ensures {u = tt}).calls

pub returns-in_err-commit_next-in-Some-clause-one : goal.returns-in_err-commit_next-in-Some-clause-one
returns-in_err-commit_next-in-Some-clause-one g c =
    one_of_row c.args.oracle.now _ _ _ _ (few_drawn c.args.self.now c.in-Some.commit c.args.oracle.now (g.T.RowTable.rows c.args.table.now) (search rules)) ((c.in_err-commit_next-in-Some.ensures {u = tt}).calls c.args.oracle.now)

pub returns-in_ok-commit_next-in-Some-clause-one : goal.returns-in_ok-commit_next-in-Some-clause-one
returns-in_ok-commit_next-in-Some-clause-one g c =
    one_of_row c.args.oracle.now _ _ _ _ (few_drawn c.args.self.now c.in-Some.commit c.args.oracle.now (g.T.RowTable.rows c.args.table.now) (search rules)) ((c.in_ok-commit_next-in-Some.ensures {u = tt}).calls c.args.oracle.now)

pub returns-in_err-commit_primary-in-Some-2-clause-one : goal.returns-in_err-commit_primary-in-Some-2-clause-one
returns-in_err-commit_primary-in-Some-2-clause-one g c =
    one_of_row c.args.oracle.now _ _ _ _ (few_drawn c.args.self.now c.in-Some-2.commit c.args.oracle.now (g.T.RowTable.rows c.args.table.now) (search rules)) ((c.in_err-commit_primary-in-Some-2.ensures {u = tt}).calls c.args.oracle.now)

pub returns-in_ok-commit_primary-in-Some-2-clause-one : goal.returns-in_ok-commit_primary-in-Some-2-clause-one
returns-in_ok-commit_primary-in-Some-2-clause-one g c =
    one_of_row c.args.oracle.now _ _ _ _ (few_drawn c.args.self.now c.in-Some-2.commit c.args.oracle.now (g.T.RowTable.rows c.args.table.now) (search rules)) ((c.in_ok-commit_primary-in-Some-2.ensures {u = tt}).calls c.args.oracle.now)
