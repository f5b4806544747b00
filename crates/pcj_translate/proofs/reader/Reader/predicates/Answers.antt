use Rattle.std.proofs.Common.{◌∙◌, sym, subst, ap, List, length, arith}
use Rattle.std.proofs.lemmas.Bool.{OnTrue_at, OnFalse_at}
use Rattle.pcj_grammar.specs.declared.lexeme.Lexeme.{Lexeme}
use Rattle.pcj_translate.specs.Term.{Scope}
use Rattle.pcj_translate.specs.Adding.{AddsPredicate, AddsPredicates}
use Rattle.pcj_translate.specs.Reading.{scope_of_reader}
use Rattle.pcj_translate.proofs.PredicatesRead.{Says, first_predicate, skip_semicolon, next_predicate, last_predicate}
use Rattle.pcj_translate.proofs.reader.Reader.predicates.Goals as goal

pub loop-alloc-init : goal.loop-alloc-init
loop-alloc-init c = (
  first_predicate (scope_of_reader c.args.self.now) c.args.subject.now c.args.self.now.rest.now c.predicate.new.self.rest.now c.args.triples.now c.predicate.new.triples (c.in_ok-predicate.ensures {u = tt}).ok,
  c.in_ok-predicate.ensures.scope,
  (c.in_ok-predicate.ensures {u = tt}).fewer,
)

pub loop-alloc-preserved-in-Continue-branch-2 : goal.loop-alloc-preserved-in-Continue-branch-2
loop-alloc-preserved-in-Continue-branch-2 c =
    let taken = OnTrue_at c.loop-alloc-test.true c.semicolon.ensures.taken in
    let scope = c.semicolon.ensures.scope ∙ c.loop-alloc.invariant.1 in
    let here = subst (λ (r : List Lexeme). Says (scope_of_reader c.args.self.now) c.args.subject.now c.args.self.now.rest.now r c.args.triples.now c.loop-alloc.triples) taken.1 c.loop-alloc.invariant.0 in
    let added = subst (λ (s : Scope). AddsPredicate s c.args.subject.now c.semicolon.new.self.rest.now c.predicate-then-starts_verb.new.self.rest.now c.loop-alloc.triples c.predicate-then-starts_verb.new.triples) scope (c.in_ok-predicate-2.ensures {u = tt}).ok in (
      next_predicate (scope_of_reader c.args.self.now) c.args.subject.now c.args.self.now.rest.now c.semicolon.new.self.rest.now c.predicate-then-starts_verb.new.self.rest.now taken.0 c.args.triples.now c.loop-alloc.triples c.predicate-then-starts_verb.new.triples taken.2 (sym c.starts_verb.ensures ∙ c.if-starts_verb.true) here added,
      c.in_ok-predicate-2.ensures.scope ∙ scope,
      (let size = ap (λ (r : List Lexeme). length r) taken.1 in omega (arith, size, (c.in_ok-predicate-2.ensures {u = tt}).fewer, c.loop-alloc.invariant.2)),
    )

pub loop-alloc-preserved : goal.loop-alloc-preserved
loop-alloc-preserved c =
    let taken = OnTrue_at c.loop-alloc-test.true c.semicolon.ensures.taken in
    let scope = c.semicolon.ensures.scope ∙ c.loop-alloc.invariant.1 in
    let here = subst (λ (r : List Lexeme). Says (scope_of_reader c.args.self.now) c.args.subject.now c.args.self.now.rest.now r c.args.triples.now c.loop-alloc.triples) taken.1 c.loop-alloc.invariant.0 in (
      skip_semicolon (scope_of_reader c.args.self.now) c.args.subject.now c.args.self.now.rest.now c.semicolon.new.self.rest.now taken.0 c.args.triples.now c.loop-alloc.triples taken.2 (sym c.starts_verb.ensures ∙ c.if-starts_verb.false) here,
      scope,
      (let size = ap (λ (r : List Lexeme). length r) taken.1 in omega (arith, size, c.loop-alloc.invariant.2)),
    )

pub returns-clause-ok : goal.returns-clause-ok
returns-clause-ok c =
    let none = OnFalse_at c.loop-alloc-test.false c.semicolon.ensures.none in
    let done = last_predicate (scope_of_reader c.args.self.now) c.args.subject.now c.args.self.now.rest.now c.loop-alloc.self.rest.now c.args.triples.now c.loop-alloc.triples c.loop-alloc.invariant.0 none.0 in
    subst (λ (r : List Lexeme). AddsPredicates (scope_of_reader c.args.self.now) c.args.subject.now c.args.self.now.rest.now r c.args.triples.now c.loop-alloc.triples) (sym none.1) done
