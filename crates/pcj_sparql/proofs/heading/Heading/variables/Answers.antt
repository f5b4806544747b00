use Rattle.std.proofs.Common.{sym, subst, ap, List, length, arith}
use Rattle.pcj_grammar.specs.declared.lexeme.Lexeme.{Lexeme}
use Rattle.pcj_sparql.specs.Heading.{AddsKeys}
use Rattle.pcj_sparql.proofs.HeadingRead.{KeysLeft, first_key, next_key, last_key}
use Rattle.pcj_sparql.proofs.heading.Heading.variables.Goals as goal

pub loop-lexeme-init : goal.loop-lexeme-init
loop-lexeme-init c = first_key c.args.self.now.rest.now c.args.found.now

pub loop-lexeme-preserved : goal.loop-lexeme-preserved
loop-lexeme-preserved c =
    let taken = c.in-Some.ensures.some in
    let here = subst (λ (r : List Lexeme). KeysLeft c.args.self.now.rest.now r c.args.found.now c.loop-lexeme.found) taken.0 c.loop-lexeme.invariant in
    next_key c.args.self.now.rest.now c.variable.new.self.rest.now c.in-Some.lexeme c.args.found.now c.loop-lexeme.found c.push.new.self taken.1 here (c.in_ok-push.ensures {u = tt}).ok

pub loop-lexeme-smaller : goal.loop-lexeme-smaller
loop-lexeme-smaller c = let size = ap (λ (r : List Lexeme). length r) c.in-Some.ensures.some.0 in omega (arith, size)

pub returns : goal.returns
returns c =
    let none = c.in_default.ensures.none in
    let done = last_key c.args.self.now.rest.now c.loop-lexeme.self.rest.now c.args.found.now c.loop-lexeme.found c.loop-lexeme.invariant none.0 in
    subst (λ (r : List Lexeme). AddsKeys c.args.self.now.rest.now r c.args.found.now c.loop-lexeme.found) (sym none.1) done
