-- What the checks of prefixes and IRIs look for.
use Rattle.std.specs.Prelude.{ℕ, Bool, ◌&&◌, List, map, filter, Option, Some, None}
use Rattle.pcj_grammar.specs.declared.lexeme.Lexeme.{Lexeme}
use Rattle.pcj_sparql.specs.declared.declared.Declared.{Declared}
use Rattle.pcj_sparql.specs.declared.error.QueryError.{QueryError}
use Rattle.pcj_sparql.specs.declared.kind.QueryKind.{QueryKind}
use Rattle.pcj_translate.specs.Term.{Scope, iri_of as iri_written}
use Rattle.pcj_translate.specs.Uses.{place_of}
use Rattle.pcj_sparql.specs.Query.{is_name_token, is_iri_token, is_none, is_relative}

abbrev pub is_undeclared : Scope → Lexeme → Bool
is_undeclared scope l = is_name_token l.terminal && is_none (iri_written scope l)

abbrev pub undeclared_among : Scope → List Lexeme → List ℕ
undeclared_among scope ls = map place_of (filter (is_undeclared scope) ls)

abbrev pub is_relative_token : Scope → Lexeme → Bool
is_relative_token scope l = is_iri_token l.terminal && is_relative (iri_written scope l)

abbrev pub relative_among : Scope → List Lexeme → List ℕ
relative_among scope ls = map place_of (filter (is_relative_token scope) ls)

abbrev pub iri_of : Declared → Lexeme
iri_of d = d.iri

-- a check by its lowest place, or what comes behind it
abbrev pub failed_at : QueryKind → Option ℕ → Option QueryError → Option QueryError
failed_at kind None later = later
failed_at kind (Some at) later = Some (record { at = at; kind = kind })
