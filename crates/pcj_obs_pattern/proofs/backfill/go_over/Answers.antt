use Rattle.std.proofs.Common.{◌∙◌}
use Rattle.std.proofs.lemmas.Result.{IfOk-weaker}
use Rattle.pcj_obs_pattern.proofs.AskLemmas.{goes_over}
use Rattle.pcj_obs_pattern.proofs.backfill.go_over.Goals as goal

pub returns : goal.returns
returns c =
    let known = c.requires.1 in
    IfOk-weaker c.over_triples.result _ _
    (goes_over c.args.task.now c.args.registration c.args.node c.args.value.now c.args.answers.now c.requires.0 known c.in_ok-row.row
    (c.in_ok-row.ensures {u = tt} known.of known.order (record { valid = known.is_row.valid; value_is = c.as_slice.ensures ∙ known.is_row.value_is })))
    c.over_triples.ensures
