use Rattle.std.proofs.lemmas.Result.{IfOk-weaker}
use Rattle.pcj_obs_pattern.proofs.AskLemmas.{match_found}
use Rattle.pcj_obs_pattern.proofs.meeting.settle.Goals as goal

pub returns : goal.returns
returns c =
    let known = c.requires.1 in
    let match = match_found c.args.row.now.pattern c.args.triple.now known.0 c.in_ok-mapping.mapping known.1 (c.in_ok-mapping.ensures {u = tt}) in
    IfOk-weaker c.last_ask.result _ _ (λ ask is. (known.0, known.1, is)) (c.last_ask.ensures known.0 match)
