use Rattle.std.proofs.Common.{◌<◌, arith}
use Rattle.pcj_script.proofs.NumberLemmas.{power_up}
use Rattle.pcj_script.proofs.number.value_of.Goals as goal

pub overflow_mul-value : goal.overflow_mul-value
overflow_mul-value c =
    let before : c.loop-digit.digit-index < 7 = omega (arith, c.loop-digit-test.true, c.requires.short) in
    omega (arith, c.loop-digit.invariant.few, power_up c.loop-digit.digit-index before)

pub overflow_add-value : goal.overflow_add-value
overflow_add-value c =
    let before : c.loop-digit.digit-index < 7 = omega (arith, c.loop-digit-test.true, c.requires.short) in
    omega (arith, c.loop-digit.invariant.few, power_up c.loop-digit.digit-index before, c.from.ensures, c.type_inv.digits c.loop-digit.digit-index)
