use Rattle.std.proofs.Common.{rules, ◌≡◌, ◌<◌, ◌∙◌, length, arith}
use Rattle.pcj_replay.proofs.InputLemmas.{at_limit}
use Rattle.pcj_replay.proofs.input.Input.read.Goals as goal

pub returns-clause-read : goal.returns-clause-read
returns-clause-read g c =
    let count : length c.loop-piece.bytes.items ≡ c.len.result = search (rules, c.len.ensures) in
    let past : 67108864 < length c.loop-piece.bytes.items = omega arith in
    at_limit (g.S.Source.left c.args.source.now) (g.S.Source.left c.loop-piece.source) c.loop-piece.bytes.items c.ending-2.result c.loop-piece.invariant.consumed past (c.ending-2.ensures.bytes ∙ c.truncate.ensures.items) c.ending-2.ensures.end
