-- Reading a printed term from left to right.
use Rattle.std.specs.Prelude.{ℕ, Bool, false, not, ◌&&◌, ◌||◌, ◌^◌, List, [], ◌∷◌, ◌++◌, ◌==◌, nat_lt, length, Option, Some, None, if◌then◌else◌}
use Rattle.std.specs.Option.{option_map}
use Rattle.std.specs.Str.{is_utf8, all_ascii_digits}
use Rattle.std.specs.Str.Parse.{digits_value}
use Rattle.pcj_term.specs.declared.kind.Kind.{Kind}
use Rattle.pcj_term.specs.declared.kind.Kind.TheVariants.{Plain, Lang, Typed}
use Rattle.pcj_term.specs.declared.term.Term.{Term}
use Rattle.pcj_term.specs.declared.term.Term.TheVariants.{Iri, Blank, Literal}
use Rattle.pcj_term.specs.Iri.{lies_between, is_absolute_iri}
use Rattle.pcj_term.specs.Label.{is_label}
use Rattle.pcj_term.specs.Tag.{is_language_tag, is_lower_case}
use Rattle.pcj_term.specs.Valid.{xsd_string}
use Rattle.pcj_term.specs.Order.{same_bytes}

infixl 10 ◌>>=◌
abbrev pub ◌>>=◌ : {A B : Type 0} → Option A → (A → Option B) → Option B
None >>= f = None
(Some x) >>= f = f x

abbrev pub begins_with : ℕ → List ℕ → Bool
begins_with byte [] = false
begins_with byte (first ∷ bytes) = first == byte

-- what follows this byte, where it stands at the front
abbrev pub after : ℕ → List ℕ → Option (List ℕ)
after byte [] = None
after byte (first ∷ bytes) = if first == byte then Some bytes else None

-- what stands before this byte, where it stands at the end
abbrev pub before : ℕ → List ℕ → Option (List ℕ)
before byte [] = None
before byte (first ∷ []) = if first == byte then Some [] else None
before byte (first ∷ next ∷ bytes) = option_map (λ front. first ∷ front) (before byte (next ∷ bytes))

-- what stands before the first such byte, and what after it
abbrev pub cut : ℕ → List ℕ → Option (List ℕ × List ℕ)
cut byte [] = None
cut byte (first ∷ bytes) = if first == byte then Some ([], bytes) else (cut byte bytes >>= (λ parts. Some (first ∷ parts.0, parts.1)))

-- an absolute IRI without its brackets
unfoldable pub iri_of : List ℕ → Option (List ℕ)
iri_of bytes = do
  inner ← after 60 bytes
  iri ← before 62 inner
  if is_absolute_iri iri then Some iri else None

-- a digit without a zero before it
abbrev pub is_canonical : List ℕ → Bool
is_canonical [] = false
is_canonical (digit ∷ digits) = lies_between 49 57 digit || (digit == 48 && length digits == 0)

-- the number that digits write, where it is a u64 and they have no leading zero
unfoldable pub number_of_digits : List ℕ → Option ℕ
number_of_digits digits =
    if is_canonical digits && (all_ascii_digits digits && nat_lt (digits_value 10 digits) (2 ^ 64)) then Some (digits_value 10 digits) else None

-- a blank node's load and its label there
unfoldable pub node_of : List ℕ → Option (ℕ × List ℕ)
node_of bytes = do
  colon ← after 95 bytes
  t ← after 58 colon
  name ← after 116 t
  parts ← cut 120 name
  load ← number_of_digits parts.0
  if is_label parts.1 then Some (load, parts.1) else None

abbrev pub blank_of : List ℕ → Option Term
blank_of bytes = option_map (λ node. Blank node.0 node.1) (node_of bytes)

-- a byte that stands for itself in a text
unfoldable pub is_plain : ℕ → Bool
is_plain byte = not (byte == 9 || byte == 10 || byte == 13 || byte == 34 || byte == 92)

-- what a byte after a backslash stands for
abbrev pub unescaped : ℕ → Option ℕ
unescaped byte =
    if byte == 116 then Some 9 else
    if byte == 110 then Some 10 else
    if byte == 114 then Some 13 else
    if byte == 34 then Some 34 else
    if byte == 92 then Some 92 else
    None

-- the first byte of a text by its printed form, and what follows that
abbrev pub printed_byte : List ℕ → Option (ℕ × List ℕ)
printed_byte [] = None
printed_byte (byte ∷ []) = if is_plain byte then Some (byte, []) else None
printed_byte (byte ∷ next ∷ bytes) =
    if byte == 92 then (unescaped next >>= (λ plain. Some (plain, bytes))) else
    if is_plain byte then Some (byte, next ∷ bytes) else
    None

abbrev pub with_front : List ℕ → Option (List ℕ × List ℕ) → Option (List ℕ × List ℕ)
with_front front parts = option_map (λ parts. (front ++ parts.0, parts.1)) parts

-- a text up to its closing quote, without its escapes, and what follows the quote
unfoldable pub text_at : List ℕ → Option (List ℕ × List ℕ)
text_at [] = None
text_at (byte ∷ []) = if byte == 34 then Some ([], []) else None
text_at (byte ∷ next ∷ bytes) =
    if byte == 34 then Some ([], next ∷ bytes) else
    if byte == 92 then (unescaped next >>= (λ plain. with_front (plain ∷ []) (text_at bytes))) else
    if is_plain byte then with_front (byte ∷ []) (text_at (next ∷ bytes)) else
    None

abbrev pub lang_of : List ℕ → Option Kind
lang_of tag = if is_language_tag tag && is_lower_case tag then Some (Lang tag) else None

abbrev pub typed_of : List ℕ → Option Kind
typed_of brackets = iri_of brackets >>= (λ datatype. if same_bytes datatype xsd_string then None else Some (Typed datatype))

-- the kind that follows a text
unfoldable pub kind_of_suffix : List ℕ → Option Kind
kind_of_suffix [] = Some Plain
kind_of_suffix (byte ∷ bytes) =
    if byte == 64 then lang_of bytes else
    if byte == 94 then (after 94 bytes >>= typed_of) else
    None

unfoldable pub literal_of : List ℕ → Option Term
literal_of bytes = do
  inner ← after 34 bytes
  parts ← text_at inner
  if is_utf8 parts.0 then option_map (Literal parts.0) (kind_of_suffix parts.1) else None

-- the valid term whose printed form the bytes are
unfoldable pub term_of : List ℕ → Option Term
term_of bytes =
    if begins_with 60 bytes then option_map Iri (iri_of bytes) else
    if begins_with 95 bytes then blank_of bytes else
    if begins_with 34 bytes then literal_of bytes else
    None
