-- The rules of tokens (SPARQL 1.1 Query, sections 19.1, 19.4 and 19.8). They are tried in their order, the first that fits applies,
-- and its token is the longest front that has the rule's form.
use Rattle.std.specs.Prelude.{◌≡◌, ℕ, Bool, true, false, not, ◌==◌, ◌&&◌, ◌||◌, List, [], ◌∷◌, ◌++◌, Option, Some, None, ◌⊎◌}
use Rattle.std.specs.List.{list_all}
use Rattle.pcj_term.specs.Integer.{is_integer_text}
use Rattle.pcj_term.specs.Iri.{is_letter, is_digit, is_iri_character}
use Rattle.pcj_term.specs.Label.{is_name_base, is_label_start, is_label_character, ends_in_a_dot}
use Rattle.pcj_term.specs.Reading.{◌>>=◌, after, before, cut}
use Rattle.pcj_term.specs.Tag.{is_language_tag}
use Rattle.pcj_ntriples.specs.Term.{IsLongest}
use Rattle.pcj_lex.specs.declared.rule.Rule.{Rule}
use Rattle.pcj_lex.specs.declared.rule.Rule.TheVariants as rows
use Rattle.pcj_lex.specs.declared.token.TokenKind.{TokenKind}
use Rattle.pcj_lex.specs.declared.token.TokenKind.TheVariants as kinds
use Rattle.pcj_lex.specs.Characters.{is_line_end, is_blank, is_quote, is_escape_letter, is_variable_start, is_variable_character, is_prefix_character, is_word_character, is_mark_character, is_long_mark, is_outside_mark}

-- ---- forms: whether these characters, all of them, have one

abbrev pub passes : {A : Type 0} → (A → Bool) → Option A → Bool
passes test None = false
passes test (Some found) = test found

-- a quote, three times
abbrev pub is_long_quotes : List ℕ → Bool
is_long_quotes [] = false
is_long_quotes (a ∷ []) = false
is_long_quotes (a ∷ b ∷ []) = false
is_long_quotes (a ∷ b ∷ c ∷ []) = is_quote a && b == a && c == a
is_long_quotes (a ∷ b ∷ c ∷ d ∷ more) = false

-- a character between quotes that stands for itself
abbrev pub stands_raw : ℕ → ℕ → Bool
stands_raw quote character = not (character == quote) && not (character == 92) && not (is_line_end character)

-- what follows the first quote: the last quote, or a character and what follows it, or an escape and what follows it
abbrev pub is_quoted : ℕ → List ℕ → Bool
is_quoted quote [] = false
is_quoted quote (character ∷ []) = character == quote
is_quoted quote (character ∷ next ∷ more) =
    (stands_raw quote character && is_quoted quote (next ∷ more)) || (character == 92 && is_escape_letter next && is_quoted quote more)

-- `STRING_LITERAL1`, `STRING_LITERAL2`
abbrev pub is_string : List ℕ → Bool
is_string [] = false
is_string (quote ∷ more) = is_quote quote && is_quoted quote more

abbrev pub is_one_quote : List ℕ → Bool
is_one_quote [] = false
is_one_quote (character ∷ []) = is_quote character
is_one_quote (character ∷ next ∷ more) = false

-- what stands between the brackets of an IRI
abbrev pub inside_brackets : List ℕ → Option (List ℕ)
inside_brackets written = after 60 written >>= before 62

-- `IRIREF`
abbrev pub is_iri_written : List ℕ → Bool
is_iri_written written = passes (list_all is_iri_character) (inside_brackets written)

-- `<` or `<=`
abbrev pub is_less : List ℕ → Bool
is_less [] = false
is_less (a ∷ []) = a == 60
is_less (a ∷ b ∷ []) = a == 60 && b == 61
is_less (a ∷ b ∷ c ∷ more) = false

-- `VAR1`, `VAR2`
abbrev pub is_variable : List ℕ → Bool
is_variable [] = false
is_variable (sign ∷ []) = false
is_variable (sign ∷ first ∷ more) = (sign == 63 || sign == 36) && is_variable_start first && list_all is_variable_character more

-- `LANGTAG`
abbrev pub is_tag : List ℕ → Bool
is_tag [] = false
is_tag (sign ∷ tag) = sign == 64 && is_language_tag tag

abbrev pub is_dot : List ℕ → Bool
is_dot [] = false
is_dot (character ∷ []) = character == 46
is_dot (character ∷ next ∷ more) = false

-- `_:`
abbrev pub is_node_mark : List ℕ → Bool
is_node_mark [] = false
is_node_mark (a ∷ []) = false
is_node_mark (a ∷ b ∷ []) = a == 95 && b == 58
is_node_mark (a ∷ b ∷ c ∷ more) = false

-- `PN_PREFIX`, or nothing
abbrev pub is_prefix : List ℕ → Bool
is_prefix [] = true
is_prefix (first ∷ more) = is_name_base first && list_all is_prefix_character more && not (ends_in_a_dot (first ∷ more))

-- `PN_LOCAL` without escapes, or nothing
abbrev pub is_local : List ℕ → Bool
is_local [] = true
is_local (first ∷ more) = is_label_start first && list_all is_label_character more && not (ends_in_a_dot (first ∷ more))

-- `PNAME_NS`, `PNAME_LN`: what stands before its first colon and what after it
abbrev pub is_name : List ℕ → Bool
is_name written = passes (λ parts. is_prefix parts.0 && is_local parts.1) (cut 58 written)

abbrev pub is_word : List ℕ → Bool
is_word [] = false
is_word (first ∷ more) = is_letter first && list_all is_word_character more

abbrev pub is_mark : List ℕ → Bool
is_mark [] = false
is_mark (a ∷ []) = is_mark_character a
is_mark (a ∷ b ∷ []) = is_long_mark a b
is_mark (a ∷ b ∷ c ∷ more) = false

abbrev pub is_outside : List ℕ → Bool
is_outside [] = false
is_outside (character ∷ []) = is_outside_mark character
is_outside (character ∷ next ∷ more) = false

-- ---- the rules

-- the form of a rule's tokens
abbrev pub has_form : Rule → List ℕ → Bool
has_form rows.LongQuotes written = is_long_quotes written
has_form rows.Text written = is_string written
has_form rows.OpenQuote written = is_one_quote written
has_form rows.Iri written = is_iri_written written
has_form rows.Less written = is_less written
has_form rows.Variable written = is_variable written
has_form rows.Tag written = is_tag written
has_form rows.Inexact written = is_integer_text written
has_form rows.Integer written = is_integer_text written
has_form rows.Fraction written = is_dot written
has_form rows.BlankNode written = is_node_mark written
has_form rows.Name written = is_name written
has_form rows.Word written = is_word written
has_form rows.Mark written = is_mark written
has_form rows.Outside written = is_outside written

abbrev pub begins_digit : List ℕ → Bool
begins_digit [] = false
begins_digit (character ∷ characters) = is_digit character

-- A dot and a digit, or an exponent, follow: the integer before them begins a decimal or a double.
abbrev pub continues_number : List ℕ → Bool
continues_number [] = false
continues_number (character ∷ characters) = (character == 46 && begins_digit characters) || character == 101 || character == 69

-- what may follow a rule's tokens
abbrev pub may_follow : Rule → List ℕ → Bool
may_follow rows.LongQuotes rest = true
may_follow rows.Text rest = true
may_follow rows.OpenQuote rest = true
may_follow rows.Iri rest = true
may_follow rows.Less rest = true
may_follow rows.Variable rest = true
may_follow rows.Tag rest = true
may_follow rows.Inexact rest = continues_number rest
may_follow rows.Integer rest = true
may_follow rows.Fraction rest = begins_digit rest
may_follow rows.BlankNode rest = true
may_follow rows.Name rest = true
may_follow rows.Word rest = true
may_follow rows.Mark rest = true
may_follow rows.Outside rest = true

-- the kind of a rule's tokens; where a quote begins no string, no token starts
abbrev pub kind_of : Rule → Option TokenKind
kind_of rows.LongQuotes = Some kinds.Outside
kind_of rows.Text = Some kinds.Text
kind_of rows.OpenQuote = None
kind_of rows.Iri = Some kinds.Iri
kind_of rows.Less = Some kinds.Mark
kind_of rows.Variable = Some kinds.Var
kind_of rows.Tag = Some kinds.Tag
kind_of rows.Inexact = Some kinds.Outside
kind_of rows.Integer = Some kinds.Integer
kind_of rows.Fraction = Some kinds.Outside
kind_of rows.BlankNode = Some kinds.Outside
kind_of rows.Name = Some kinds.Pname
kind_of rows.Word = Some kinds.Word
kind_of rows.Mark = Some kinds.Mark
kind_of rows.Outside = Some kinds.Outside

-- the rules in their order
abbrev pub token_rules : List Rule
token_rules =
    rows.LongQuotes ∷ rows.Text ∷ rows.OpenQuote ∷ rows.Iri ∷ rows.Less ∷ rows.Variable ∷ rows.Tag ∷ rows.Inexact ∷ rows.Integer
    ∷ rows.Fraction ∷ rows.BlankNode ∷ rows.Name ∷ rows.Word ∷ rows.Mark ∷ rows.Outside ∷ []

-- The rule fits: this is the longest front of its form, and what follows may follow.
pub record Fits (rule : Rule) (characters written rest : List ℕ) : Type 0 where
  pub whole : characters ≡ written ++ rest
  pub longest : IsLongest (has_form rule) written rest
  pub follows : may_follow rule rest ≡ true

abbrev pub FitsNowhere : Rule → List ℕ → Type 0
FitsNowhere rule characters = (written rest : List ℕ) → Fits rule characters written rest → ⊥

-- the first of these rules that fits
abbrev pub IsFirst : List Rule → List ℕ → Rule → List ℕ → List ℕ → Type 0
IsFirst [] characters found written rest = ⊥
IsFirst (rule ∷ rules) characters found written rest =
    ((found ≡ rule) × Fits rule characters written rest) ⊎ (FitsNowhere rule characters × IsFirst rules characters found written rest)

-- none of these rules fits
abbrev pub NoneFits : List Rule → List ℕ → Type 0
NoneFits [] characters = Unit {0}
NoneFits (rule ∷ rules) characters = FitsNowhere rule characters × NoneFits rules characters

-- The characters begin with this token, and rest follows.
pub record Begins (characters : List ℕ) (kind : TokenKind) (written rest : List ℕ) : Type 0 where
  pub rule : Rule
  pub first : IsFirst token_rules characters rule written rest
  pub kind_is : kind_of rule ≡ Some kind

-- No token starts there: no rule fits, or the first that fits is that of a quote without a string.
abbrev pub StartsNone : List ℕ → Type 0
StartsNone characters =
    NoneFits token_rules characters
    ⊎ ((found : Rule) × (written rest : List ℕ) × IsFirst token_rules characters found written rest × (kind_of found ≡ None))

-- ---- blanks and comments

-- Blanks and comments alone. A comment runs from `#` to a line's end (section 19.4); inside says whether one goes on.
abbrev pub is_gap : Bool → List ℕ → Bool
is_gap inside [] = true
is_gap true (character ∷ more) = is_gap (not (is_line_end character)) more
is_gap false (character ∷ more) = (character == 35 && is_gap true more) || (is_blank character && is_gap false more)
