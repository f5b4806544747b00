use Rattle.std.proofs.Common.{◌∙◌, sym, subst, ap, List, length, arith}
use Rattle.std.proofs.lemmas.Bool.{OnTrue_at, OnFalse_at}
use Rattle.pcj_grammar.specs.declared.lexeme.Lexeme.{Lexeme}
use Rattle.pcj_translate.specs.Term.{Scope}
use Rattle.pcj_translate.specs.Adding.{AddsObject, AddsObjects}
use Rattle.pcj_translate.specs.Reading.{scope_of_reader}
use Rattle.pcj_translate.proofs.ObjectsRead.{Keeps, first_object, next_object, last_object}
use Rattle.pcj_translate.proofs.reader.Reader.objects.Goals as goal

pub loop-alloc-init : goal.loop-alloc-init
loop-alloc-init c = (
  first_object (scope_of_reader c.args.self.now) c.args.subject.now c.args.predicate.now c.args.self.now.rest.now c.object.new.self.rest.now c.args.triples.now c.object.new.triples (c.in_ok-object.ensures {u = tt}).ok,
  c.in_ok-object.ensures.scope,
  (c.in_ok-object.ensures {u = tt}).fewer,
)

pub loop-alloc-preserved : goal.loop-alloc-preserved
loop-alloc-preserved c =
    let taken = OnTrue_at c.loop-alloc-test.true c.comma.ensures.taken in
    let scope = c.comma.ensures.scope ∙ c.loop-alloc.invariant.1 in
    let here = subst (λ (r : List Lexeme). Keeps (scope_of_reader c.args.self.now) c.args.subject.now c.args.predicate.now c.args.self.now.rest.now r c.args.triples.now c.loop-alloc.triples) taken.1 c.loop-alloc.invariant.0 in
    let added = subst (λ (s : Scope). AddsObject s c.args.subject.now c.args.predicate.now c.comma.new.self.rest.now c.object-in-loop-alloc.new.self.rest.now c.loop-alloc.triples c.object-in-loop-alloc.new.triples) scope (c.in_ok-object-2.ensures {u = tt}).ok in (
      next_object (scope_of_reader c.args.self.now) c.args.subject.now c.args.predicate.now c.args.self.now.rest.now c.comma.new.self.rest.now c.object-in-loop-alloc.new.self.rest.now taken.0 c.args.triples.now c.loop-alloc.triples c.object-in-loop-alloc.new.triples taken.2 here added,
      c.in_ok-object-2.ensures.scope ∙ scope,
      (let size = ap (λ (r : List Lexeme). length r) taken.1 in omega (arith, size, (c.in_ok-object-2.ensures {u = tt}).fewer, c.loop-alloc.invariant.2)),
    )

pub returns-clause-ok : goal.returns-clause-ok
returns-clause-ok c =
    let none = OnFalse_at c.loop-alloc-test.false c.comma.ensures.none in
    let done = last_object (scope_of_reader c.args.self.now) c.args.subject.now c.args.predicate.now c.args.self.now.rest.now c.loop-alloc.self.rest.now c.args.triples.now c.loop-alloc.triples c.loop-alloc.invariant.0 none.0 in
    subst (λ (r : List Lexeme). AddsObjects (scope_of_reader c.args.self.now) c.args.subject.now c.args.predicate.now c.args.self.now.rest.now r c.args.triples.now c.loop-alloc.triples) (sym none.1) done
