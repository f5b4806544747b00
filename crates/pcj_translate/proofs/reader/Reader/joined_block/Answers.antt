use Rattle.std.proofs.Common.{◌≡◌, ◌∙◌, ap, subst, sym, List}
use Rattle.std.proofs.lemmas.Result.{IfOk-weaker}
use Rattle.pcj_algebra.specs.declared.triple_pattern.TriplePattern.{TriplePattern}
use Rattle.pcj_translate.specs.declared.content.Content.{Content}
use Rattle.pcj_translate.specs.Adding.{AddsBlock}
use Rattle.pcj_translate.specs.Reading.{scope_of_reader}
use Rattle.pcj_translate.specs.Group.{with_triples}
use Rattle.pcj_translate.specs.Grouping.{ReadsBlock}
use Rattle.pcj_translate.proofs.GroupsRead.{block_done}
use Rattle.pcj_translate.proofs.reader.Reader.joined_block.Goals as goal

pub returns-clause-ok : goal.returns-clause-ok
returns-clause-ok c =
    let adds = subst (λ (old : List TriplePattern). AddsBlock (scope_of_reader c.args.self.now) c.args.self.now.rest.now c.block.new.self.rest.now old c.block.new.triples) c.new-triples.ensures (c.in_ok-block.ensures {u = tt}).ok in
    IfOk-weaker c.with_triples.result
    (λ (after : Content). after ≡ with_triples c.args.before c.as_slice.result.now)
    (ReadsBlock (scope_of_reader c.args.self.now) c.args.before c.args.self.now.rest.now c.block.new.self.rest.now)
    (λ (after : Content) e. subst (λ (a : Content). ReadsBlock (scope_of_reader c.args.self.now) c.args.before c.args.self.now.rest.now c.block.new.self.rest.now a) (sym (e ∙ ap (λ (ts : List TriplePattern). with_triples c.args.before ts) c.as_slice.ensures))
    (block_done (scope_of_reader c.args.self.now) c.args.before c.args.self.now.rest.now c.block.new.self.rest.now c.block.new.triples adds))
    c.with_triples.ensures
