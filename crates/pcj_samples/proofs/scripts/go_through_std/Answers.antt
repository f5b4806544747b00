use Rattle.pcj_samples.proofs.Runs.{fresh_is_open}
use Rattle.pcj_samples.proofs.scripts.go_through_std.Goals as goal

pub replay-requires : goal.replay-requires
replay-requires g c = fresh_is_open (g.T.RowTable.rows c.args.table.now) c.requires
