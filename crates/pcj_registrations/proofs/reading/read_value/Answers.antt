use Rattle.std.proofs.Common.{ap, subst, ◌∙◌}
use Rattle.std.proofs.lemmas.Result.{IfOk-weaker}
use Rattle.pcj_key.specs.Key.{Splits, key_of}
use Rattle.pcj_registrations.proofs.ReadingLemmas.{value_read, value_unread}
use Rattle.pcj_registrations.proofs.reading.read_value.Goals as goal

pub returns-in-Some : goal.returns-in-Some
returns-in-Some c = IfOk-weaker c.read_parts.result _ _ (λ found reads.
    value_read c.args.number c.args.value.now c.as_slice.result.now found (ap key_of c.as_slice.ensures ∙ subst (Splits c.args.value.now) c.in-Some.is (c.in_ok-parts.ensures {u = tt})) reads) c.read_parts.ensures

pub returns-in-None : goal.returns-in-None
returns-in-None c = value_unread c.args.value.now (subst (Splits c.args.value.now) c.in-None.is (c.in_ok-parts.ensures {u = tt}))
