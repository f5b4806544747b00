-- Labels of blank nodes (RDF 1.1 N-Triples, `BLANK_NODE_LABEL`).
use Rattle.std.specs.Prelude.{ℕ, Bool, false, List, [], ◌∷◌, ◌==◌, eqb, ◌&&◌, ◌||◌, not, chars}
use Rattle.std.specs.List.{list_all, ends_with}
use Rattle.std.specs.Str.{is_utf8}
use Rattle.pcj_term.specs.Iri.{lies_between, is_letter, is_digit}

-- `PN_CHARS_BASE`
abbrev pub is_name_base : ℕ → Bool
is_name_base character =
    is_letter character
    || lies_between 0xC0 0xD6 character
    || lies_between 0xD8 0xF6 character
    || lies_between 0xF8 0x2FF character
    || lies_between 0x370 0x37D character
    || lies_between 0x37F 0x1FFF character
    || lies_between 0x200C 0x200D character
    || lies_between 0x2070 0x218F character
    || lies_between 0x2C00 0x2FEF character
    || lies_between 0x3001 0xD7FF character
    || lies_between 0xF900 0xFDCF character
    || lies_between 0xFDF0 0xFFFD character
    || lies_between 0x10000 0xEFFFF character

-- `PN_CHARS_U`: that, the underscore and the colon
abbrev pub is_name_start : ℕ → Bool
is_name_start character = is_name_base character || character == 95 || character == 58

-- `PN_CHARS`
abbrev pub is_name_character : ℕ → Bool
is_name_character character =
    is_name_start character
    || character == 45
    || is_digit character
    || character == 0xB7
    || lies_between 0x300 0x36F character
    || lies_between 0x203F 0x2040 character

abbrev pub is_label_start : ℕ → Bool
is_label_start character = is_name_start character || is_digit character

abbrev pub is_label_character : ℕ → Bool
is_label_character character = is_name_character character || character == 46

abbrev pub begins_label : List ℕ → Bool
begins_label [] = false
begins_label (character ∷ characters) = is_label_start character

abbrev pub ends_in_a_dot : List ℕ → Bool
ends_in_a_dot bytes = ends_with eqb bytes (46 ∷ [])

abbrev pub is_label_text : List ℕ → Bool
is_label_text text = begins_label (chars text) && list_all is_label_character (chars text) && not (ends_in_a_dot text)

-- a label, in UTF-8
abbrev pub is_label : List ℕ → Bool
is_label bytes = is_utf8 bytes && is_label_text bytes
