-- Classes of characters (SPARQL 1.1 Query, section 19.8).
use Rattle.std.specs.Prelude.{ℕ, Bool, ◌==◌, not, ◌&&◌, ◌||◌, codes}
use Rattle.std.specs.List.{list_any}
use Rattle.pcj_term.specs.Iri.{is_letter, is_digit}
use Rattle.pcj_term.specs.Label.{is_name_base, is_name_character}

-- CR and LF
abbrev pub is_line_end : ℕ → Bool
is_line_end character = character == 13 || character == 10

-- `WS`: space, TAB, CR and LF
abbrev pub is_blank : ℕ → Bool
is_blank character = character == 32 || character == 9 || character == 13 || character == 10

abbrev pub is_quote : ℕ → Bool
is_quote character = character == 34 || character == 39

-- what may follow the backslash of an escape: `ECHAR`
abbrev pub is_escape_letter : ℕ → Bool
is_escape_letter character = list_any (λ other. other == character) (codes "tbnrf\"'\\")

-- the first character of `VARNAME`: `PN_CHARS_U` of SPARQL, which has no colon, or a digit
abbrev pub is_variable_start : ℕ → Bool
is_variable_start character = is_name_base character || character == 95 || is_digit character

-- a further character of `VARNAME`: `PN_CHARS` of SPARQL, which has no colon, without the hyphen
abbrev pub is_variable_character : ℕ → Bool
is_variable_character character = is_name_character character && not (character == 45) && not (character == 58)

-- a further character of `PN_PREFIX`: `PN_CHARS` of SPARQL, which has no colon, or the dot
abbrev pub is_prefix_character : ℕ → Bool
is_prefix_character character = (is_name_character character && not (character == 58)) || character == 46

-- a further character of a word
abbrev pub is_word_character : ℕ → Bool
is_word_character character = is_letter character || is_digit character || character == 95

-- a mark of one character
abbrev pub is_mark_character : ℕ → Bool
is_mark_character character = list_any (λ other. other == character) (codes "{}().;,=<>!")

-- a mark of two characters: `!=`, `<=`, `>=`, `&&`, `||` and `^^`
abbrev pub is_long_mark : ℕ → ℕ → Bool
is_long_mark first second =
    (second == 61 && list_any (λ other. other == first) (codes "!<>")) || (second == first && list_any (λ other. other == first) (codes "&|^"))

-- what the grammar of the standard has and this profile's leaves out
abbrev pub is_outside_mark : ℕ → Bool
is_outside_mark character = list_any (λ other. other == character) (codes "*+-/^|[]%\\")
