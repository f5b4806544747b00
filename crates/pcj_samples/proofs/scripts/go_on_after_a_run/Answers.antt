use Rattle.pcj_samples.proofs.Runs.{fresh_is_open}
use Rattle.pcj_samples.proofs.scripts.go_on_after_a_run.Goals as goal

pub goes_on-requires : goal.goes_on-requires
goes_on-requires g c = fresh_is_open (g.T.RowTable.rows c.args.table.now) c.requires
