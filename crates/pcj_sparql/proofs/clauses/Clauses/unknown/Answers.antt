use Rattle.std.proofs.Common.{◌∙◌, ap, map, Option, ℕ, List}
use Rattle.pcj_grammar.specs.declared.lexeme.Lexeme.{Lexeme}
use Rattle.pcj_translate.specs.Places.{lower_of, lowest_of}
use Rattle.pcj_translate.specs.Reading.{scope_by}
use Rattle.pcj_translate.specs.Variables.{variables_in}
use Rattle.pcj_sparql.specs.Listing.{said_use, strangers}
use Rattle.pcj_sparql.proofs.UsesRead.{unknown_read}
use Rattle.pcj_sparql.proofs.clauses.Clauses.unknown.Goals as goal

pub returns : goal.returns
returns c =
    let text = c.args.self.now.text.now in
    let sources = c.as_slice-2.ensures ∙ c.in_ok-sources.ensures {u = tt} ∙ ap (map said_use) c.as_slice.ensures in
    c.lower_of.ensures
    ∙ ap (λ (o : Option ℕ). lower_of o c.in_ok-key.key) (c.in_ok-item.ensures {u = tt} ∙ ap (λ (ls : List Lexeme). lowest_of (strangers text c.in_ok-names.names ls)) sources)
    ∙ ap (lower_of (lowest_of (strangers text c.in_ok-names.names (map said_use c.args.self.now.head.now.items)))) (c.in_ok-key.ensures {u = tt} ∙ ap (λ (ls : List Lexeme). lowest_of (strangers text c.in_ok-names.names ls)) c.as_slice-3.ensures)
    ∙ unknown_read (scope_by text c.args.self.now.prefixes.now) (variables_in c.args.self.now.pattern) c.in_ok-names.names c.args.self.now.head.now.items c.args.self.now.keys (c.in_ok-names.ensures {u = tt})
