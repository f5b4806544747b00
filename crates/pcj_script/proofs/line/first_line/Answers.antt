use Rattle.pcj_script.proofs.LineLemmas.{first_ended, last_line, none_given, not_empty}
use Rattle.pcj_script.proofs.line.first_line.Goals as goal

pub returns-in-Some-clause-some : goal.returns-in-Some-clause-some
returns-in-Some-clause-some c =
    rw (c.split_at.ensures.front, c.split_at-in-Some.ensures.back) (first_ended c.args.ended c.args.text.now c.in-Some.at (c.in-Some.ensures {u = tt}))

pub returns-in-None-clause-none : goal.returns-in-None-clause-none
returns-in-None-clause-none c = rw c.if-not-ended.true (none_given c.args.text.now (c.in-None.ensures {u = tt}))

pub returns-in-None-3-clause-some : goal.returns-in-None-3-clause-some
returns-in-None-3-clause-some c =
    rw c.if-not-ended.false (last_line c.args.text.now (c.in-None.ensures {u = tt}) (not_empty c.args.text.now c.is_empty.result c.is_empty.ensures c.if-is_empty.false))
