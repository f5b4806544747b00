use Rattle.std.proofs.Common.{sym, subst, ap, List, length, arith}
use Rattle.pcj_grammar.specs.declared.lexeme.Lexeme.{Lexeme}
use Rattle.pcj_sparql.specs.Heading.{AddsItems}
use Rattle.pcj_sparql.proofs.HeadingRead.{first_item, next_item, last_item, item_fewer}
use Rattle.pcj_sparql.proofs.heading.Heading.items.Goals as goal

pub loop-said-init : goal.loop-said-init
loop-said-init c = first_item c.args.self.now.rest.now c.args.found.now

pub loop-said-preserved : goal.loop-said-preserved
loop-said-preserved c =
    let taken = c.in-Some.ensures.some in
    next_item c.args.self.now.rest.now c.loop-said.self.rest.now c.item.new.self.rest.now c.in-Some.said c.args.found.now c.loop-said.found c.push.new.self taken.0 taken.1 taken.2 c.loop-said.invariant
    (c.in_ok-push.ensures {u = tt}).ok

pub loop-said-smaller : goal.loop-said-smaller
loop-said-smaller c =
    let taken = c.in-Some.ensures.some in
    let size = ap (λ (r : List Lexeme). length r) taken.2 in
    let fewer = item_fewer c.loop-said.self.rest.now taken.0 in
    omega (arith, size, fewer)

pub returns : goal.returns
returns c =
    let none = c.in_default.ensures.none in
    let done = last_item c.args.self.now.rest.now c.loop-said.self.rest.now c.args.found.now c.loop-said.found c.loop-said.invariant none.0 in
    subst (λ (r : List Lexeme). AddsItems c.args.self.now.rest.now r c.args.found.now c.loop-said.found) (sym none.1) done
