use Rattle.std.proofs.Common.{◌∙◌, ap, map, filter, List}
use Rattle.pcj_grammar.specs.declared.lexeme.Lexeme.{Lexeme}
use Rattle.pcj_translate.specs.Places.{lowest_of}
use Rattle.pcj_translate.specs.Term.{iri_of as iri_written}
use Rattle.pcj_translate.specs.Uses.{place_of}
use Rattle.pcj_sparql.specs.Query.{is_relative}
use Rattle.pcj_translate.specs.Reading.{scope_by}
use Rattle.pcj_sparql.specs.Reading.{iri_of, relative_among}
use Rattle.pcj_sparql.proofs.Failing.{both_places, relative_iris}
use Rattle.pcj_sparql.proofs.clauses.Clauses.relative.Goals as goal

pub returns : goal.returns
returns c =
    let self = c.args.self.now in
    let scope = scope_by self.text.now self.prefixes.now in
    let iris = c.as_slice-2.ensures ∙ c.in_ok-iris.ensures {u = tt} ∙ ap (map iri_of) c.as_slice.ensures in
    c.lower_of.ensures
    ∙ both_places _ _ (map place_of (filter (λ l. is_relative (iri_written scope l)) (map iri_of self.head.now.declared))) (relative_among scope self.head.now.body.now) (c.in_ok-declared.ensures {u = tt} ∙ ap (λ (ls : List Lexeme). lowest_of (relative_among scope ls)) iris ∙ ap lowest_of (relative_iris scope (map iri_of self.head.now.declared))) (c.in_ok-body.ensures {u = tt})
