-- An absolute IRI in printable ASCII is an absolute IRI.
use Rattle.std.proofs.Common.{◌≡◌, ℕ, ◌<◌, true, nat_le, List, [], ◌∷◌, refl, arith}
use Rattle.std.specs.List.{list_all}
use Rattle.std.specs.Str.{IsAscii}
use Rattle.std.proofs.lemmas.Bool.{and_parts, leb-true, lt-ltb, and_from}
use Rattle.std.proofs.lemmas.Str.{IsUtf8-from_ascii, is_utf8-from_IsUtf8}
use Rattle.pcj_term.specs.Iri.{is_iri_byte, is_iri_character, is_iri_text, is_absolute_iri, is_absolute}
use Rattle.pcj_term.proofs.IntegerText.{ascii_more}

byte_below : (byte : ℕ) → is_iri_byte byte ≡ true → byte < 128
byte_below byte h =
    let between = and_parts (nat_le 33 byte) (nat_le byte 126) (and_parts _ _ h).0 in
    omega (arith, leb-true byte 126 between.1)

byte_character : (byte : ℕ) → is_iri_byte byte ≡ true → is_iri_character byte ≡ true
byte_character byte h =
    let parts = and_parts _ _ h in
    let above = leb-true 33 byte (and_parts _ _ parts.0).0 in
    and_from _ _ (lt-ltb 32 byte (omega (arith, above))) parts.1

text_characters : (bytes : List ℕ) → list_all is_iri_byte bytes ≡ true → list_all is_iri_character bytes ≡ true
text_characters [] h = refl
text_characters (byte ∷ bytes) h =
    let parts = and_parts (is_iri_byte byte) (list_all is_iri_byte bytes) h in
    and_from _ _ (byte_character byte parts.0) (text_characters bytes parts.1)

text_ascii : (bytes : List ℕ) → list_all is_iri_byte bytes ≡ true → IsAscii bytes
text_ascii [] h = λ i. omega arith
text_ascii (byte ∷ bytes) h =
    let parts = and_parts (is_iri_byte byte) (list_all is_iri_byte bytes) h in
    ascii_more byte bytes (byte_below byte parts.0) (text_ascii bytes parts.1)

pub absolute_text : (iri : List ℕ) → is_iri_text iri ≡ true → is_absolute_iri iri ≡ true
absolute_text iri h =
    let parts = and_parts (list_all is_iri_byte iri) (is_absolute iri) h in
    and_from _ _ (and_from _ _ (is_utf8-from_IsUtf8 iri (IsUtf8-from_ascii iri (text_ascii iri parts.0))) (text_characters iri parts.0)) parts.1
