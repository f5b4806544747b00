use Rattle.std.proofs.Common.{subst}
use Rattle.std.proofs.lemmas.Result.{on_ok_weaker}
use Rattle.pcj_translate.specs.Term.{Scope}
use Rattle.pcj_translate.specs.Adding.{AddsObjects}
use Rattle.pcj_translate.specs.Reading.{scope_of_reader}
use Rattle.pcj_translate.proofs.PredicatesRead.{predicate_done}
use Rattle.pcj_translate.proofs.reader.Reader.predicate.Goals as goal

pub returns-clause-ok : goal.returns-clause-ok
returns-clause-ok c =
    on_ok_weaker c.objects.result
    (λ added. predicate_done (scope_of_reader c.args.self.now) c.args.subject.now c.in_ok-predicate.predicate c.args.self.now.rest.now c.value.new.self.rest.now c.objects.new.self.rest.now c.args.triples.now c.objects.new.triples c.in_ok-predicate.ensures.value
    (subst (λ (s : Scope). AddsObjects s c.args.subject.now c.in_ok-predicate.predicate c.value.new.self.rest.now c.objects.new.self.rest.now c.args.triples.now c.objects.new.triples) c.value.ensures.scope added))
    c.objects.ensures.ok
