use Rattle.std.proofs.Common.{subst}
use Rattle.std.proofs.lemmas.Result.{on_ok_weaker}
use Rattle.pcj_translate.specs.Term.{Scope}
use Rattle.pcj_translate.specs.Adding.{AddsPredicates}
use Rattle.pcj_translate.specs.Reading.{scope_of_reader}
use Rattle.pcj_translate.proofs.PredicatesRead.{same_done}
use Rattle.pcj_translate.proofs.reader.Reader.same.Goals as goal

pub returns-clause-ok : goal.returns-clause-ok
returns-clause-ok c =
    on_ok_weaker c.predicates.result
    (λ added. same_done (scope_of_reader c.args.self.now) c.in_ok-subject.subject c.args.self.now.rest.now c.value.new.self.rest.now c.predicates.new.self.rest.now c.args.triples.now c.predicates.new.triples c.in_ok-subject.ensures.value
    (subst (λ (s : Scope). AddsPredicates s c.in_ok-subject.subject c.value.new.self.rest.now c.predicates.new.self.rest.now c.args.triples.now c.predicates.new.triples) c.value.ensures.scope added))
    c.predicates.ensures.ok
