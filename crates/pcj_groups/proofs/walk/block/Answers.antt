use Rattle.std.proofs.Common.{subst, List}
use Rattle.std.proofs.lemmas.Result.{on_ok_weaker}
use Rattle.pcj_algebra.specs.declared.triple_pattern.TriplePattern.{TriplePattern}
use Rattle.pcj_translate.specs.Adding.{AddsBlock}
use Rattle.pcj_translate.specs.Reading.{scope_of_reader}
use Rattle.pcj_groups.proofs.Walked.{block_walked}
use Rattle.pcj_groups.proofs.walk.block.Goals as goal

pub returns-clause-ok : goal.returns-clause-ok
returns-clause-ok c =
    let adds = subst (λ (old : List TriplePattern). AddsBlock (scope_of_reader c.args.reader.now) c.args.reader.now.rest.now c.block.new.self.rest.now old c.block.new.triples) c.new-triples.ensures (c.in_ok-block.ensures {u = tt}).ok in
    on_ok_weaker c.add_triples.result
    (λ added. block_walked (scope_of_reader c.args.reader.now) c.args.found.now c.add_triples.new.self c.args.reader.now.rest.now c.block.new.self.rest.now c.block.new.triples c.as_slice.result.now adds added c.as_slice.ensures)
    c.add_triples.ensures
