use Rattle.std.proofs.Common.{◌∙◌, subst, ap, List, []}
use Rattle.pcj_grammar.specs.declared.lexeme.Lexeme.{Lexeme}
use Rattle.pcj_translate.specs.Adding.{behind_one}
use Rattle.pcj_sparql.specs.Heading.{AddsKeys}
use Rattle.pcj_sparql.proofs.HeadingRead.{keys_read}
use Rattle.pcj_sparql.proofs.heading.Heading.keys.Goals as goal

pub returns : goal.returns
returns c =
    let fresh = subst (λ (old : List Lexeme). AddsKeys c.skip-2.new.self.rest.now c.variables.new.self.rest.now old c.variables.new.found) c.new-keys.ensures (c.in_ok-variables.ensures {u = tt}) in
    let behind = subst (λ (x : List Lexeme). AddsKeys x c.variables.new.self.rest.now [] c.variables.new.found) (c.skip-2.ensures ∙ ap behind_one c.skip.ensures) fresh in
    keys_read c.args.self.now.rest.now c.variables.new.self.rest.now c.variables.new.found behind
