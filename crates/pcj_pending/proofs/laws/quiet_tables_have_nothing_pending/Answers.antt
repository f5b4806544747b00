use Rattle.pcj_pending.proofs.QuietLemmas.{quiet_tables_have_nothing}
use Rattle.pcj_pending.proofs.laws.quiet_tables_have_nothing_pending.Goals as goal

pub returns : goal.returns
returns c = quiet_tables_have_nothing
