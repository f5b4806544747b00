use Rattle.pcj_moves.proofs.RunLemmas.{transaction_runs, transaction_waits}
use Rattle.pcj_moves.proofs.runs.transactions_run_whole.Goals as goal

pub returns-clause-runs : goal.returns-clause-runs
returns-clause-runs c = transaction_runs

pub returns-clause-waits : goal.returns-clause-waits
returns-clause-waits c = transaction_waits
