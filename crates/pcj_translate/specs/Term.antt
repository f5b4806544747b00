-- What tokens say: names, IRIs and literals (SPARQL 1.1 Query, sections 4.1 and 19.7).
use Rattle.std.specs.Prelude.{ℕ, ◌+◌, ◌-◌, Bool, not, ◌==◌, List, [], ◌∷◌, ◌++◌, length, map, take, drop, Option, Some, None, if◌then◌else◌}
use Rattle.std.specs.Char.{to_ascii_lowercase}
use Rattle.std.specs.List.{prefix_len}
use Rattle.std.specs.Option.{option_map, unwrap_or}
use Rattle.pcj_term.specs.declared.kind.Kind.{Kind}
use Rattle.pcj_term.specs.declared.kind.Kind.TheVariants.{Plain, Typed}
use Rattle.pcj_term.specs.declared.term.Term.{Term}
use Rattle.pcj_term.specs.declared.term.Term.TheVariants.{Literal}
use Rattle.pcj_term.specs.Integer.{xsd_integer}
use Rattle.pcj_term.specs.Order.{same_bytes}
use Rattle.pcj_term.specs.Valid.{xsd_string}
use Rattle.pcj_grammar.specs.declared.lexeme.Lexeme.{Lexeme}
use Rattle.pcj_grammar.specs.declared.terminal.Terminal.{Terminal}
use Rattle.pcj_grammar.specs.declared.terminal.Terminal.TheVariants as t

-- the bytes of a token
abbrev pub source_of : List ℕ → Lexeme → List ℕ
source_of text l = take (l.end - l.at) (drop l.at text)

-- ---- names

abbrev pub is_no_colon : ℕ → Bool
is_no_colon byte = not (byte == 58)

-- what stands before a prefixed name's first colon, and what after it
abbrev pub prefix_of : List ℕ → List ℕ
prefix_of source = take (prefix_len is_no_colon source) source

abbrev pub local_of : List ℕ → List ℕ
local_of source = drop (prefix_len is_no_colon source + 1) source

-- what stands between the first byte and the last: an IRI without its brackets, a string without its quotes
abbrev pub inside_of : List ℕ → List ℕ
inside_of source = take (length source - 2) (drop 1 source)

-- `PREFIX name: <iri>` (section 4.1.1)
pub record Declaration : Type 0 where
  pub prefix : List ℕ
  pub iri : List ℕ

abbrev pub or_else : {A : Type 0} → Option A → Option A → Option A
or_else (Some found) other = Some found
or_else None other = other

-- what a prefix stands for: the last declaration counts
abbrev pub namespace_of : List Declaration → List ℕ → Option (List ℕ)
namespace_of [] prefix = None
namespace_of (d ∷ ds) prefix = or_else (namespace_of ds prefix) (if same_bytes d.prefix prefix then Some d.iri else None)

-- a text, and what each prefix stands for in it, if it is declared
pub record Scope : Type 0 where
  pub text : List ℕ
  pub namespace : List ℕ → Option (List ℕ)

abbrev pub expanded : Scope → List ℕ → Option (List ℕ)
expanded scope source = option_map (λ namespace. namespace ++ local_of source) (scope.namespace (prefix_of source))

abbrev pub iri_by : Scope → Terminal → List ℕ → Option (List ℕ)
iri_by scope t.Iri source = Some (inside_of source)
iri_by scope t.Namespace source = expanded scope source
iri_by scope t.Name source = expanded scope source
iri_by scope _ source = None

-- the IRI that a token writes, if it writes one: none where its prefix isn't declared
abbrev pub iri_of : Scope → Lexeme → Option (List ℕ)
iri_of scope l = iri_by scope l.terminal (source_of scope.text l)

abbrev pub iri_or_none : Scope → Lexeme → List ℕ
iri_or_none scope l = unwrap_or (iri_of scope l) []

-- a variable's name, without its sign
abbrev pub variable_of : Scope → Lexeme → List ℕ
variable_of scope l = drop 1 (source_of scope.text l)

-- ---- literals

-- what a letter behind a backslash stands for (section 19.7)
abbrev pub escaped_by : ℕ → ℕ
escaped_by letter =
    if letter == 116 then 9 else
    if letter == 98 then 8 else
    if letter == 110 then 10 else
    if letter == 114 then 13 else
    if letter == 102 then 12 else
    letter

-- a text without its escapes
abbrev pub unescaped : List ℕ → List ℕ
unescaped [] = []
unescaped (byte ∷ []) = byte ∷ []
unescaped (byte ∷ next ∷ more) = if byte == 92 then escaped_by next ∷ unescaped more else byte ∷ unescaped (next ∷ more)

-- a string without its quotes and escapes
abbrev pub text_of : List ℕ → List ℕ
text_of source = unescaped (inside_of source)

-- a tag in lower case, without its sign
abbrev pub tag_of : List ℕ → List ℕ
tag_of source = map to_ascii_lowercase (drop 1 source)

abbrev pub kind_of_datatype : List ℕ → Kind
kind_of_datatype iri = if same_bytes iri xsd_string then Plain else Typed iri

abbrev pub integer_term : List ℕ → Term
integer_term source = Literal source (Typed xsd_integer)
