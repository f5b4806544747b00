use Rattle.std.proofs.Common.{◌≡◌, ◌≤◌, ◌+◌, arith, sym, ◌∙◌}
use Rattle.pcj_script.specs.Lines.{said}
use Rattle.pcj_script.specs.Front.{end_line}
use Rattle.pcj_script.specs.Reading.{line_of}
use Rattle.pcj_script.proofs.TextLemmas.{within, used_within, is_end, text_ends, read_more}
use Rattle.pcj_script.proofs.text.read_text.Goals as goal

pub overflow_add-result-then-eq : goal.overflow_add-result-then-eq
overflow_add-result-then-eq c =
    omega (arith, within _ _ _ _ _ _ _ c.loop-line.invariant (c.in-Some.ensures {u = tt}).some)

pub returns-then-eq-clause-end : goal.returns-then-eq-clause-end
returns-then-eq-clause-end c =
    let first = (c.in-Some.ensures {u = tt}).some in
    let end : said (line_of c.in-Some.line) ≡ end_line = sym c.said.ensures ∙ (is_end c.said.result.now c.as_slice.result.now c.eq.result c.eq.ensures c.as_slice.ensures).0 c.if-eq.true in
    rw (c.split_at.ensures.front, c.len.ensures) (text_ends _ _ _ _ _ _ _ c.loop-line.invariant first end)

pub overflow_add-lines : goal.overflow_add-lines
overflow_add-lines c =
    omega (arith, within _ _ _ _ _ _ _ c.loop-line.invariant (c.in-Some.ensures {u = tt}).some)

pub loop-line-preserved : goal.loop-line-preserved
loop-line-preserved c =
    let first = (c.in-Some.ensures {u = tt}).some in
    let few : c.loop-line.size + c.len-size.result ≤ 16777216 = c.if-size-gt-TEXT_LIMIT.false in
    rw c.len-size.ensures
    (read_more _ _ _ _ _ _ _ c.loop-line.invariant first
    (λ end. (is_end c.said.result.now c.as_slice.result.now c.eq.result c.eq.ensures c.as_slice.ensures).1 c.if-eq.false (c.said.ensures ∙ end))
    (rw c.len-size.ensures at few))

pub returns-then-eq-clause-within : goal.returns-then-eq-clause-within
returns-then-eq-clause-within c =
    rw c.len.ensures (used_within _ _ _ _ _ _ _ c.loop-line.invariant (c.in-Some.ensures {u = tt}).some)
