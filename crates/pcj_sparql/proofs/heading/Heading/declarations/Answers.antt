use Rattle.std.proofs.Common.{sym, subst, ap, List, length, arith}
use Rattle.pcj_grammar.specs.declared.lexeme.Lexeme.{Lexeme}
use Rattle.pcj_sparql.specs.Heading.{AddsDeclared}
use Rattle.pcj_sparql.proofs.HeadingRead.{first_declared, next_declared, last_declared, declared_fewer}
use Rattle.pcj_sparql.proofs.heading.Heading.declarations.Goals as goal

pub loop-declared-init : goal.loop-declared-init
loop-declared-init c = first_declared c.args.self.now.rest.now c.args.found.now

pub loop-declared-preserved : goal.loop-declared-preserved
loop-declared-preserved c =
    let taken = c.in-Some.ensures.some in
    next_declared c.args.self.now.rest.now c.loop-declared.self.rest.now c.declaration.new.self.rest.now c.in-Some.declared c.args.found.now c.loop-declared.found c.push.new.self taken.0 taken.1 taken.2 c.loop-declared.invariant
    (c.in_ok-push.ensures {u = tt}).ok

pub loop-declared-smaller : goal.loop-declared-smaller
loop-declared-smaller c =
    let taken = c.in-Some.ensures.some in
    let size = ap (λ (r : List Lexeme). length r) taken.2 in
    let fewer = declared_fewer c.loop-declared.self.rest.now taken.0 in
    omega (arith, size, fewer)

pub returns : goal.returns
returns c =
    let none = c.in_default.ensures.none in
    let done = last_declared c.args.self.now.rest.now c.loop-declared.self.rest.now c.args.found.now c.loop-declared.found c.loop-declared.invariant none.0 in
    subst (λ (r : List Lexeme). AddsDeclared c.args.self.now.rest.now r c.args.found.now c.loop-declared.found) (sym none.1) done
