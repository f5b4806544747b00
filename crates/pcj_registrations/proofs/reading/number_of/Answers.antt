use Rattle.pcj_registrations.proofs.ReadingLemmas.{number_read}
use Rattle.pcj_registrations.proofs.reading.number_of.Goals as goal

pub returns : goal.returns
returns c = number_read c.args.key.now c.in_ok-read_key.field-0 c.number_named.result (c.in_ok-read_key.ensures {u = tt}) c.number_named.ensures.some c.number_named.ensures.none
