use Rattle.std.proofs.Common.{subst, sym}
use Rattle.pcj_replay.specs.Entry.{IsOpen}
use Rattle.pcj_replay.proofs.EmptyTable.{nothing_is_open}
use Rattle.pcj_main.proofs.main.Goals as goal

pub replay-status-requires : goal.replay-status-requires
replay-status-requires c = subst IsOpen (sym c.new-table.ensures.empty) nothing_is_open
