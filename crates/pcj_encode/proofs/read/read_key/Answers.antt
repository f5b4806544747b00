use Rattle.std.proofs.Common.{Some, subst, ap, ◌∙◌}
use Rattle.std.proofs.lemmas.Result.{IfOk-weaker}
use Rattle.pcj_key.specs.Key as parts
use Rattle.pcj_encode.proofs.Names.{reads_key}
use Rattle.pcj_encode.proofs.read.read_key.Goals as goal

pub returns-in-Some : goal.returns-in-Some
returns-in-Some c =
    let split : parts.Splits c.args.key.now (Some c.in-Some.parts) = subst (parts.Splits c.args.key.now) c.in-Some.is c.in_ok-parts.ensures in
    IfOk-weaker c.name_of.result _ _ (λ found. reads_key c.args.key.now c.as_slice.result.now found (ap parts.key_of c.as_slice.ensures ∙ split)) c.name_of.ensures
