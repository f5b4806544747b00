use Rattle.std.proofs.Common.{◌+◌, arith, inl}
use Rattle.pcj_script.proofs.FrontLemmas.{whole_with_text, text_too_long}
use Rattle.pcj_script.proofs.opening.Begun.front.Goals as goal

pub overflow_add-result : goal.overflow_add-result
overflow_add-result c = omega (arith, c.requires.small, (rw c.in-Ended.is at c.read_text.ensures.within).1)

pub overflow_add-result-in-Ended : goal.overflow_add-result-in-Ended
overflow_add-result-in-Ended c =
    let within = rw c.in-Ended.is at c.read_text.ensures.within in
    omega (arith, c.requires.small, within.0, within.1)

pub overflow_add-result-in-TooLong : goal.overflow_add-result-in-TooLong
overflow_add-result-in-TooLong c = omega (arith, c.requires.room, rw c.in-TooLong.is at c.read_text.ensures.within)

pub overflow_add-result-in-TooLong-2 : goal.overflow_add-result-in-TooLong-2
overflow_add-result-in-TooLong-2 c = omega (arith, c.requires.room, rw c.in-TooLong.is at c.read_text.ensures.within)

pub returns-in-Ended-clause-told : goal.returns-in-Ended-clause-told
returns-in-Ended-clause-told c = λ first sized begins.
    let ends = rw c.in-Ended.is at c.read_text.ensures.end in
    whole_with_text first _ c.args.self _ _ _ c.args.size _ begins c.with_text.ensures ends.0 ends.1 sized

pub returns-in-TooLong-clause-told : goal.returns-in-TooLong-clause-told
returns-in-TooLong-clause-told c = λ first sized begins.
    let passes = rw c.in-TooLong.is at c.read_text.ensures.end in
    inl (c.in-TooLong.before + 1, text_too_long first _ c.args.self _ begins passes, omega arith)
