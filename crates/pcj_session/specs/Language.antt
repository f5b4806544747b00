-- The language in which queries are asked and registered: SPARQL's (SPARQL 1.1 Query, sections 18 and 19).
use Rattle.std.specs.Prelude.{◌≡◌, ℕ, Bool, true, false, ◌&&◌, List, Option, Some, None, if◌then◌else◌}
use Rattle.pcj_term.specs.declared.triple.Triple.{Triple}
use Rattle.pcj_algebra.specs.declared.pattern.Pattern.{Pattern, Pattern-F, fold-Pattern}
use Rattle.pcj_algebra.specs.declared.pattern.Pattern.TheOpen as open_pattern
use Rattle.pcj_algebra.specs.declared.query.Query.{Query}
use Rattle.pcj_algebra.specs.declared.query.Shape.{Shape}
use Rattle.pcj_algebra.specs.declared.query.Shape.TheVariants.{Distinct, Group}
use Rattle.pcj_answers.specs.Answers.{AreLines}
use Rattle.pcj_sparql.specs.declared.error.QueryError.{QueryError}
use Rattle.pcj_sparql.specs.Kind.{number_of}
use Rattle.pcj_sparql.specs.Query.{QueryFault, QueryText}
use Rattle.pcj_model.specs.Reply.{Language, Refusal}

-- ---- what can be registered

abbrev pub is_triple_step : Pattern-F Bool → Bool
is_triple_step (open_pattern.Triple triple) = true
is_triple_step (open_pattern.Join left right) = false
is_triple_step (open_pattern.Filter condition inner) = false
is_triple_step (open_pattern.Union left right) = false

-- whether a pattern is one triple pattern
abbrev pub is_triple : Pattern → Bool
is_triple pattern = fold-Pattern Bool is_triple_step pattern

abbrev pub is_distinct : Shape → Bool
is_distinct (Distinct names) = true
is_distinct (Group keys aggregate var as_name) = false

-- A query can be registered that asks for some variables of one triple pattern: no other has observers yet.
abbrev pub is_observed : Query → Bool
is_observed query = is_triple query.pattern && is_distinct query.shape

-- ---- the language

abbrev pub refusal_of : QueryError → Refusal
refusal_of error = record { place = error.at; kind = number_of error.kind }

-- a query that can't be registered is refused as one that is out of the profile
abbrev pub observed_refusal : Query → Option Refusal
observed_refusal query = if is_observed query then None else Some (record { place = 0; kind = 2 })

-- A text is refused by its fault, and a query of the profile that can't be registered when it is to be. Else it is read as its
-- query. The rows of a query's answer are its printed lines.
pub record IsSparql (language : Language) : Type 0 where
  pub refuses_scan : (text : List ℕ) (error : QueryError) → QueryFault text error → language.scan_refusal text ≡ Some (refusal_of error)
  pub refuses_register : (text : List ℕ) (error : QueryError) → QueryFault text error → language.register_refusal text ≡ Some (refusal_of error)
  pub scans : (text : List ℕ) (query : Query) → QueryText text query → language.scan_refusal text ≡ None
  pub registers : (text : List ℕ) (query : Query) → QueryText text query → language.register_refusal text ≡ observed_refusal query
  pub reads : (text : List ℕ) (query : Query) → QueryText text query → language.query_of text ≡ query
  pub answers : (query : Query) (triples : List Triple) → AreLines query triples (language.rows query triples)

-- ---- laws

abbrev pub IsThere : Type 0
IsThere = (language : Language) × IsSparql language

-- two such languages refuse each text alike, read it alike where it is a query's, and answer each query alike
abbrev pub IsOneLanguage : Type 0
IsOneLanguage = (language other : Language) (text : List ℕ) (query : Query) (triples : List Triple) → IsSparql language → IsSparql other →
    (language.scan_refusal text ≡ other.scan_refusal text) × (language.register_refusal text ≡ other.register_refusal text)
    × (language.scan_refusal text ≡ None → language.query_of text ≡ other.query_of text) × (language.rows query triples ≡ other.rows query triples)
