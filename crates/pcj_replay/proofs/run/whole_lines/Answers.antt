use Rattle.std.proofs.Common.{rules, ◌≡◌, ◌==◌, ◌∙◌, cond, get_or, ap, arith}
use Rattle.std.proofs.lemmas.List.{take_all}
use Rattle.pcj_replay.proofs.ScriptLemmas.{count_step, feeds, lines_are_feeds}
use Rattle.pcj_replay.proofs.run.whole_lines.Goals as goal

pub loop-byte-preserved : goal.loop-byte-preserved
loop-byte-preserved c =
    let is : c.from-count.result ≡ cond (get_or c.args.bytes.now c.loop-byte.byte-index 0 == 10) 1 0 = search rules in
    count_step c.args.bytes.now c.loop-byte.byte-index c.loop-byte.count c.from-count.result (omega (arith, c.loop-byte-test.true)) c.loop-byte.invariant.0 c.loop-byte.invariant.1 is

pub returns-clause-value : goal.returns-clause-value
returns-clause-value c = c.loop-byte.invariant.0 ∙ ap feeds (take_all c.loop-byte.byte-index c.args.bytes.now (omega (arith, c.loop-byte-test.false))) ∙ lines_are_feeds c.args.bytes.now
