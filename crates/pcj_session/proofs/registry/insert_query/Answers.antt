use Rattle.std.proofs.Common.{◌∙◌}
use Rattle.indexmap.proofs.CallerLemmas.{insert_entry-new}
use Rattle.pcj_session.proofs.registry.insert_query.Goals as goal

pub returns : goal.returns
returns c = (c.in_ok-insert.ensures {u = tt}).entries ∙ insert_entry-new _ c.args.queries.now c.args.name c.args.query c.requires
