use Rattle.pcj_key.proofs.Ranges.{holds_bytes, holds_keys}
use Rattle.pcj_key.proofs.order.prefixes_are_ranges.Goals as goal

pub returns-clause-bytes : goal.returns-clause-bytes
returns-clause-bytes c = holds_bytes

pub returns-clause-keys : goal.returns-clause-keys
returns-clause-keys c = holds_keys
