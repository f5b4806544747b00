use Rattle.std.proofs.Common.{subst, ap, ◌∙◌, List, []}
use Rattle.pcj_grammar.specs.declared.lexeme.Lexeme.{Lexeme}
use Rattle.pcj_sparql.specs.declared.declared.Declared.{Declared}
use Rattle.pcj_sparql.specs.declared.said.Said.{Said}
use Rattle.pcj_sparql.specs.Heading.{begins_distinct, behind_distinct, AddsDeclared, AddsItems}
use Rattle.pcj_sparql.proofs.HeadRead.{head_read}
use Rattle.pcj_sparql.proofs.head.head_of.Goals as goal

pub returns : goal.returns
returns c d =
    let declares = subst (λ (old : List Declared). AddsDeclared c.args.lexemes.now c.declarations.new.self.rest.now old c.declarations.new.found) c.new-declared.ensures (c.in_ok-declarations.ensures {u = tt}) in
    let behind = c.distinct-distinct.ensures.rest ∙ ap behind_distinct c.token-select.ensures.rest in
    let adds = subst (λ (old : List Said). AddsItems c.distinct-distinct.new.self.rest.now c.items-2.new.self.rest.now old c.items-2.new.found) c.new-items.ensures (c.in_ok-items.ensures {u = tt}) in
    let items = subst (λ (k : List Lexeme). AddsItems k c.items-2.new.self.rest.now [] c.items-2.new.found) behind adds in
    head_read c.args.lexemes.now c.items-2.new.self.rest.now d _ declares c.token-select.ensures.token (c.distinct-distinct.ensures.found ∙ ap begins_distinct c.token-select.ensures.rest) items c.where_word.ensures
