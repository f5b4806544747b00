use Rattle.std.proofs.Common.{◌∙◌, sym, subst, ap, refl, List, length, arith}
use Rattle.pcj_grammar.specs.declared.lexeme.Lexeme.{Lexeme}
use Rattle.pcj_translate.specs.Term.{Scope}
use Rattle.pcj_translate.specs.Adding.{AddsSame}
use Rattle.pcj_translate.specs.Reading.{scope_of_reader}
use Rattle.pcj_translate.proofs.BlocksRead.{Stands, first_same, next_same, last_same, behind_dot_fewer, value_not_none}
use Rattle.pcj_translate.proofs.reader.Reader.block.Goals as goal

pub loop-alloc-init : goal.loop-alloc-init
loop-alloc-init c = (first_same (scope_of_reader c.args.self.now) c.args.self.now.rest.now c.args.triples.now, refl, omega arith)

pub loop-alloc-preserved : goal.loop-alloc-preserved
loop-alloc-preserved c =
    let starts = sym c.starts_value.ensures ∙ c.loop-alloc-test.true in
    let added = subst (λ (s : Scope). AddsSame s c.loop-alloc.self.rest.now c.same.new.self.rest.now c.loop-alloc.triples c.same.new.triples) c.loop-alloc.invariant.1 (c.in_ok-same.ensures {u = tt}).ok in
    let next = next_same (scope_of_reader c.args.self.now) c.args.self.now.rest.now c.loop-alloc.self.rest.now c.same.new.self.rest.now c.args.triples.now c.loop-alloc.triples c.same.new.triples starts c.loop-alloc.invariant.0 added in (
      subst (λ (r : List Lexeme). Stands (scope_of_reader c.args.self.now) c.args.self.now.rest.now r c.args.triples.now c.same.new.triples) (sym c.dot.ensures.rest) next,
      c.dot.ensures.scope ∙ c.in_ok-same.ensures.scope ∙ c.loop-alloc.invariant.1,
      (let size = ap (λ (r : List Lexeme). length r) c.dot.ensures.rest in omega (arith, size, behind_dot_fewer c.same.new.self.rest.now, (c.in_ok-same.ensures {u = tt}).fewer, value_not_none c.loop-alloc.self.rest.now starts, c.loop-alloc.invariant.2)),
    )

pub returns-clause-ok : goal.returns-clause-ok
returns-clause-ok c = last_same (scope_of_reader c.args.self.now) c.args.self.now.rest.now c.loop-alloc.self.rest.now c.args.triples.now c.loop-alloc.triples c.loop-alloc.invariant.0 (sym c.starts_value.ensures ∙ c.loop-alloc-test.false)
