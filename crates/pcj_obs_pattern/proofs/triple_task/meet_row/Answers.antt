use Rattle.std.proofs.lemmas.Result.{IfOk-weaker}
use Rattle.pcj_obs_pattern.proofs.AskLemmas.{meets_row, row_seen}
use Rattle.pcj_obs_pattern.proofs.triple_task.meet_row.Goals as goal

pub returns : goal.returns
returns c =
    let known = c.requires.1 in
    let pair = c.args.pair.now in
    let seen = row_seen known.registration known.node known.of known.order pair.key pair.value c.as_slice.result.now c.as_slice-2.result.now known.is_row c.as_slice.ensures c.as_slice-2.ensures in
    IfOk-weaker c.meet.result _ _
    (meets_row c.args.task.now c.args.triple.now pair c.args.answers.now c.requires.0 known c.in_ok-row.row
    (c.in_ok-row.ensures {u = tt} known.registration known.node known.of known.order seen) c.as_slice-3.result.now c.as_slice-3.ensures)
    c.meet.ensures
