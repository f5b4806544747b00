use Rattle.std.proofs.Common.{sym, ◌∙◌}
use Rattle.pcj_encode.proofs.Cells.{term_read}
use Rattle.pcj_obs_pattern.proofs.RowLemmas.{none_read}
use Rattle.pcj_obs_pattern.proofs.fields.term_of.Goals as goal

pub unreachable-requires : goal.unreachable-requires
unreachable-requires c = none_read c.args.part.now c.in_ok-term.field-0 (c.in_ok-term.ensures {u = tt}) c.in-None.is c.requires

pub returns : goal.returns
returns c = sym (term_read c.args.part.now c.in_ok-term.field-0 (c.in_ok-term.ensures {u = tt})) ∙ c.in-Some.is
