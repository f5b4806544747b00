-- Language tags (RDF 1.1 N-Triples, `LANGTAG`).
use Rattle.std.specs.Prelude.{ℕ, Bool, List, ◌==◌, ◌&&◌, not, nat_lt, length}
use Rattle.std.specs.List.{list_all, slice_split, take_while}
use Rattle.pcj_term.specs.Iri.{lies_between, is_letter, is_letter_or_digit}

-- a letter or a digit at least, and nothing else
abbrev pub is_subtag : List ℕ → Bool
is_subtag bytes = nat_lt 0 (length bytes) && list_all is_letter_or_digit bytes

-- Subtags with a hyphen between any two. The first one has letters alone.
abbrev pub is_language_tag : List ℕ → Bool
is_language_tag tag = list_all is_subtag (slice_split (λ byte. byte == 45) tag) && list_all is_letter (take_while (λ byte. not (byte == 45)) tag)

abbrev pub is_capital : ℕ → Bool
is_capital byte = lies_between 65 90 byte

-- no byte is a capital letter of ASCII
abbrev pub is_lower_case : List ℕ → Bool
is_lower_case bytes = list_all (λ byte. not (is_capital byte)) bytes
