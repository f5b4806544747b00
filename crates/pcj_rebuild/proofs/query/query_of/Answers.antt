use Rattle.std.proofs.Common.{sym, ◌∙◌}
use Rattle.pcj_rebuild.proofs.QueryLemmas.{tree_over}
use Rattle.pcj_rebuild.proofs.query.query_of.Goals as goal

pub query_over-requires : goal.query_over-requires
query_over-requires c = record {
  query = c.requires.query;
  is = tree_over c.requires.query c.args.tree.now c.in-Some.parts.now c.in-Some.top.now c.requires.is (sym c.as_slice.ensures ∙ (c.in-Some.ensures {u = tt}).cases.0);
}
