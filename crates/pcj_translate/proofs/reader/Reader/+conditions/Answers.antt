use Rattle.std.proofs.Common.{◌<◌, ◌-◌, ◌∙◌, sym, subst, ap, List, length, arith}
use Rattle.std.proofs.lemmas.Bool.{OnTrue_at, OnFalse_at}
use Rattle.std.proofs.lemmas.Result.{IfOk-weaker}
use Rattle.pcj_expr.specs.declared.expr.Expr.{Expr}
use Rattle.pcj_expr.specs.declared.expr.Expr.TheVariants.{Not}
use Rattle.pcj_grammar.specs.declared.lexeme.Lexeme.{Lexeme}
use Rattle.pcj_translate.specs.Term.{Scope}
use Rattle.pcj_translate.specs.Testing.{ReadsTest, ReadsInner, ReadsOne, ReadsAll, ReadsExpr}
use Rattle.pcj_translate.specs.Reading.{scope_of_reader}
use Rattle.pcj_translate.proofs.ConditionsRead.{AndsLeft, OrsLeft, first_and, next_and, last_and, first_or, next_or, last_or, inner_done, one_not, one_group, one_test}
use Rattle.pcj_translate.proofs.reader.Reader.+conditions.Goals as goal

pub all-loop-alloc-init : goal.all-loop-alloc-init
all-loop-alloc-init t c = (
  first_and (scope_of_reader c.args.self.now) c.args.levels c.args.self.now.rest.now c.one.new.self.rest.now c.in_ok-first.first c.in_ok-first.ensures.ok,
  c.in_ok-first.ensures.scope,
  c.in_ok-first.ensures.fewer,
)

pub all-loop-alloc-preserved : goal.all-loop-alloc-preserved
all-loop-alloc-preserved t c =
    let taken = OnTrue_at c.loop-alloc-test.true c.and.ensures.taken in
    let scope = c.and.ensures.scope ∙ c.loop-alloc.invariant.1 in
    let here = subst (λ (r : List Lexeme). AndsLeft (scope_of_reader c.args.self.now) c.args.levels c.args.self.now.rest.now r c.loop-alloc.first) taken.1 c.loop-alloc.invariant.0 in
    let reads = subst (λ (s : Scope). ReadsOne s c.args.levels c.and.new.self.rest.now c.one-in-loop-alloc.new.self.rest.now c.in_ok-next.next) scope c.in_ok-next.ensures.ok in
    let next = next_and (scope_of_reader c.args.self.now) c.args.levels c.args.self.now.rest.now c.and.new.self.rest.now c.one-in-loop-alloc.new.self.rest.now taken.0 c.loop-alloc.first c.in_ok-next.next taken.2 here reads in (
      subst (λ (e : Expr). AndsLeft (scope_of_reader c.args.self.now) c.args.levels c.args.self.now.rest.now c.one-in-loop-alloc.new.self.rest.now e) (sym c.in_ok-first-2.ensures) next,
      c.in_ok-next.ensures.scope ∙ scope,
      (let size = ap (λ (r : List Lexeme). length r) taken.1 in omega (arith, size, c.in_ok-next.ensures.fewer, c.loop-alloc.invariant.2)),
    )

pub all-returns-clause-ok : goal.all-returns-clause-ok
all-returns-clause-ok t c =
    let none = OnFalse_at c.loop-alloc-test.false c.and.ensures.none in
    let done = last_and (scope_of_reader c.args.self.now) c.args.levels c.args.self.now.rest.now c.loop-alloc.self.rest.now c.loop-alloc.first c.loop-alloc.invariant.0 none.0 in
    subst (λ (r : List Lexeme). ReadsAll (scope_of_reader c.args.self.now) c.args.levels c.args.self.now.rest.now r c.loop-alloc.first) (sym none.1) done

pub expr-loop-alloc-init : goal.expr-loop-alloc-init
expr-loop-alloc-init t c = (
  first_or (scope_of_reader c.args.self.now) c.args.levels c.args.self.now.rest.now c.all.new.self.rest.now c.in_ok-first.first c.in_ok-first.ensures.ok,
  c.in_ok-first.ensures.scope,
  c.in_ok-first.ensures.fewer,
)

pub expr-loop-alloc-preserved : goal.expr-loop-alloc-preserved
expr-loop-alloc-preserved t c =
    let taken = OnTrue_at c.loop-alloc-test.true c.or.ensures.taken in
    let scope = c.or.ensures.scope ∙ c.loop-alloc.invariant.1 in
    let here = subst (λ (r : List Lexeme). OrsLeft (scope_of_reader c.args.self.now) c.args.levels c.args.self.now.rest.now r c.loop-alloc.first) taken.1 c.loop-alloc.invariant.0 in
    let reads = subst (λ (s : Scope). ReadsAll s c.args.levels c.or.new.self.rest.now c.all-in-loop-alloc.new.self.rest.now c.in_ok-next.next) scope c.in_ok-next.ensures.ok in
    let next = next_or (scope_of_reader c.args.self.now) c.args.levels c.args.self.now.rest.now c.or.new.self.rest.now c.all-in-loop-alloc.new.self.rest.now taken.0 c.loop-alloc.first c.in_ok-next.next taken.2 here reads in (
      subst (λ (e : Expr). OrsLeft (scope_of_reader c.args.self.now) c.args.levels c.args.self.now.rest.now c.all-in-loop-alloc.new.self.rest.now e) (sym c.in_ok-first-2.ensures) next,
      c.in_ok-next.ensures.scope ∙ scope,
      (let size = ap (λ (r : List Lexeme). length r) taken.1 in omega (arith, size, c.in_ok-next.ensures.fewer, c.loop-alloc.invariant.2)),
    )

pub expr-returns-clause-ok : goal.expr-returns-clause-ok
expr-returns-clause-ok t c =
    let none = OnFalse_at c.loop-alloc-test.false c.or.ensures.none in
    let done = last_or (scope_of_reader c.args.self.now) c.args.levels c.args.self.now.rest.now c.loop-alloc.self.rest.now c.loop-alloc.first c.loop-alloc.invariant.0 none.0 in
    subst (λ (r : List Lexeme). ReadsExpr (scope_of_reader c.args.self.now) c.args.levels c.args.self.now.rest.now r c.loop-alloc.first) (sym none.1) done

pub inner-returns-clause-ok : goal.inner-returns-clause-ok
inner-returns-clause-ok t c =
    let some : 0 < c.args.levels = omega (arith, c.if-levels-eq0.false) in
    let reads = subst (λ (s : Scope). ReadsExpr s (c.args.levels - 1) c.skip.new.self.rest.now c.expr.new.self.rest.now c.in_ok-inner.inner) c.skip.ensures.scope c.in_ok-inner.ensures.ok in
    let behind = subst (λ (x : List Lexeme). ReadsExpr (scope_of_reader c.args.self.now) (c.args.levels - 1) x c.expr.new.self.rest.now c.in_ok-inner.inner) c.skip.ensures.rest reads in
    let done = inner_done (scope_of_reader c.args.self.now) c.args.levels c.args.self.now.rest.now c.expr.new.self.rest.now c.in_ok-inner.inner some behind in
    subst (λ (z : List Lexeme). ReadsInner (scope_of_reader c.args.self.now) c.args.levels c.args.self.now.rest.now z c.in_ok-inner.inner) (sym c.skip-2.ensures.rest) done

pub one-returns-then-starts_not-clause-ok : goal.one-returns-then-starts_not-clause-ok
one-returns-then-starts_not-clause-ok t c =
    let reads = subst (λ (s : Scope). ReadsInner s c.args.levels c.skip.new.self.rest.now c.inner.new.self.rest.now c.in_ok-inner.inner) c.skip.ensures.scope c.in_ok-inner.ensures.ok in
    let behind = subst (λ (x : List Lexeme). ReadsInner (scope_of_reader c.args.self.now) c.args.levels x c.inner.new.self.rest.now c.in_ok-inner.inner) c.skip.ensures.rest reads in
    let done = one_not (scope_of_reader c.args.self.now) c.args.levels c.args.self.now.rest.now c.inner.new.self.rest.now c.in_ok-inner.inner (sym c.starts_not.ensures ∙ c.if-starts_not.true) behind in
    subst (λ (e : Expr). ReadsOne (scope_of_reader c.args.self.now) c.args.levels c.args.self.now.rest.now c.inner.new.self.rest.now (Not e)) (sym c.in_ok-new.ensures) done

pub one-returns-then-starts_paren-clause-ok : goal.one-returns-then-starts_paren-clause-ok
one-returns-then-starts_paren-clause-ok t c =
    IfOk-weaker c.inner-then-starts_paren.result
    (ReadsInner (scope_of_reader c.args.self.now) c.args.levels c.args.self.now.rest.now c.inner-then-starts_paren.new.self.rest.now)
    (ReadsOne (scope_of_reader c.args.self.now) c.args.levels c.args.self.now.rest.now c.inner-then-starts_paren.new.self.rest.now)
    (λ (e : Expr) reads. one_group (scope_of_reader c.args.self.now) c.args.levels c.args.self.now.rest.now c.inner-then-starts_paren.new.self.rest.now e (sym c.starts_paren.ensures ∙ c.if-starts_paren.true) reads)
    c.inner-then-starts_paren.ensures.ok

pub one-returns-else-starts_paren-clause-ok : goal.one-returns-else-starts_paren-clause-ok
one-returns-else-starts_paren-clause-ok t c =
    IfOk-weaker c.test.result
    (ReadsTest (scope_of_reader c.args.self.now) c.args.self.now.rest.now c.test.new.self.rest.now)
    (ReadsOne (scope_of_reader c.args.self.now) c.args.levels c.args.self.now.rest.now c.test.new.self.rest.now)
    (λ (e : Expr) reads. one_test (scope_of_reader c.args.self.now) c.args.levels c.args.self.now.rest.now c.test.new.self.rest.now e (sym c.starts_not.ensures ∙ c.if-starts_not.false) (sym c.starts_paren.ensures ∙ c.if-starts_paren.false) reads)
    c.test.ensures.ok
