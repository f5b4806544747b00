use Rattle.std.proofs.Common.{sym, ◌+◌, ◌*◌, arith, subst, List, ℕ}
use Rattle.pcj_ntriples.proofs.ReaderSteps.{DigitsLeft, digits_start, digits_wrong, digits_next}
use Rattle.pcj_ntriples.proofs.reader.LineReader.number.Goals as goal

pub loop-init : goal.loop-init
loop-init c = digits_start c.args.digits c.args.self.now

pub loop-preserved : goal.loop-preserved
loop-preserved c =
    let now = subst (λ (t : List ℕ). DigitsLeft c.args.digits c.loop.counter c.loop.number t c.args.self.now) c.in_ok-next.ensures.some c.loop.invariant in
    let digit = c.in_ok-number.ensures.value in
    subst (λ (n : ℕ). DigitsLeft c.args.digits (c.loop.counter + 1) (c.loop.number * 16 + n) c.next.new.self c.args.self.now) (sym digit.1)
    (digits_next c.args.digits c.loop.counter c.loop.number c.in_ok-next.field-0 c.next.new.self c.args.self.now now c.loop-test.true digit.0 (omega (arith, digit.1, c.if-number-gt-LAST_CHARACTER.false)))

pub returns-in_err-number : goal.returns-in_err-number
returns-in_err-number c =
    let now = subst (λ (t : List ℕ). DigitsLeft c.args.digits c.loop.counter c.loop.number t c.args.self.now) c.in_ok-next.ensures.some c.loop.invariant in
    let none = c.in_err-number.ensures.value in
    rw c.from_residual-in_err-number.ensures (sym (digits_wrong c.args.digits c.loop.counter c.loop.number c.in_ok-next.field-0 c.next.new.self c.args.self.now now c.loop-test.true (omega (arith, none))))
