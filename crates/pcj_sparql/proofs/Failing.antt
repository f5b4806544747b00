-- The checks one behind the other, by their lowest places.
use Rattle.std.proofs.Common.{◌≡◌, ℕ, ◌&&◌, List, ◌++◌, map, filter, Option, refl, ap, sym, ◌∙◌}
use Rattle.pcj_grammar.specs.declared.lexeme.Lexeme.{Lexeme}
use Rattle.pcj_grammar.specs.declared.terminal.Terminal.{Terminal}
use Rattle.pcj_grammar.specs.declared.terminal.Terminal.TheVariants as t
use Rattle.pcj_translate.specs.Places.{lower_of, lowest_of}
use Rattle.pcj_translate.specs.Term.{Scope, source_of, iri_by, iri_of as iri_written}
use Rattle.pcj_translate.specs.Uses.{place_of}
use Rattle.pcj_translate.proofs.Lowest.{lowest_of_both}
use Rattle.pcj_sparql.specs.declared.error.QueryError.{QueryError}
use Rattle.pcj_sparql.specs.declared.kind.QueryKind.{QueryKind}
use Rattle.pcj_sparql.specs.Query.{failing, is_iri_token, is_relative}
use Rattle.pcj_sparql.specs.Reading.{failed_at, relative_among}
use Rattle.pcj_sparql.proofs.Lowest.{failing_lowest}

pub failing_step : (kind : QueryKind) (at : Option ℕ) (places : List ℕ) (later then : Option QueryError) → at ≡ lowest_of places → later ≡ then → failed_at kind at later ≡ failing kind places then
failing_step kind at places later then e f = ap (λ (o : Option ℕ). failed_at kind o later) e ∙ ap (failed_at kind (lowest_of places)) f ∙ failing_lowest kind places then

pub both_places : (at other : Option ℕ) (places others : List ℕ) → at ≡ lowest_of places → other ≡ lowest_of others → lower_of at other ≡ lowest_of (places ++ others)
both_places at other places others e f = ap (λ (o : Option ℕ). lower_of o other) e ∙ ap (lower_of (lowest_of places)) f ∙ sym (lowest_of_both places others)

-- what is no IRI is not relative
by_kind : (scope : Scope) (source : List ℕ) (k : Terminal) → (is_iri_token k && is_relative (iri_by scope k source)) ≡ is_relative (iri_by scope k source)
by_kind scope source t.Iri = refl
by_kind scope source t.Namespace = refl
by_kind scope source t.Name = refl
by_kind scope source _ = refl

pub relative_iris : (scope : Scope) (ls : List Lexeme) → relative_among scope ls ≡ map place_of (filter (λ l. is_relative (iri_written scope l)) ls)
relative_iris scope ls = λ i. map place_of (filter (λ l. by_kind scope (source_of scope.text l) l.terminal i) ls)
