use Rattle.pcj_encode.proofs.Ranges.{hold_names, hold_bytes}
use Rattle.pcj_encode.proofs.laws.ranges_hold_their_kind.Goals as goal

pub returns-clause-names : goal.returns-clause-names
returns-clause-names c = hold_names

pub returns-clause-bytes : goal.returns-clause-bytes
returns-clause-bytes c = hold_bytes
