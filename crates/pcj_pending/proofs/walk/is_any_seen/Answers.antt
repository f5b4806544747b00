use Rattle.std.proofs.Common.{is_some, ap, ◌∙◌}
use Rattle.pcj_table.specs.Table.{is_next_at}
use Rattle.pcj_pending.proofs.WalkLemmas.{met_any, seen_walk}
use Rattle.pcj_pending.proofs.walk.is_any_seen.Goals as goal

pub returns-clause-some : goal.returns-clause-some
returns-clause-some g c =
    c.is_some.ensures ∙ ap is_some (c.in_ok-next_seen.ensures {u = tt}).key
    ∙ met_any (λ key. is_next_at key c.args.end.now c.args.at) _ (seen_walk c.args.end.now c.args.at) (g.T.RowTable.rows c.args.table.now) c.args.after.now
