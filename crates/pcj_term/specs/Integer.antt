-- The value of an xsd:integer (XML Schema Part 2, section 3.3.13), where it is an i64.
use Rattle.std.specs.Prelude.{ℕ, ℤ, pos, neg_ℤ, Bool, not, ◌&&◌, ◌^◌, List, length, nat_lt, int_lt, Option, Some, None, codes, if◌then◌else◌}
use Rattle.std.specs.Str.{all_ascii_digits}
use Rattle.std.specs.Str.Parse.{without_leading_sign, signed_digits_value}
use Rattle.pcj_term.specs.declared.kind.Kind.{Kind}
use Rattle.pcj_term.specs.declared.kind.Kind.TheVariants.{Plain, Lang, Typed}
use Rattle.pcj_term.specs.declared.term.Term.{Term}
use Rattle.pcj_term.specs.declared.term.Term.TheVariants.{Iri, Blank, Literal}
use Rattle.pcj_term.specs.Order.{same_bytes}

abbrev pub xsd_integer : List ℕ
xsd_integer = codes "http://www.w3.org/2001/XMLSchema#integer"

-- a sign at most, and then one digit or more
abbrev pub is_integer_text : List ℕ → Bool
is_integer_text text = nat_lt 0 (length (without_leading_sign text)) && all_ascii_digits (without_leading_sign text)

abbrev pub is_i64 : ℤ → Bool
is_i64 value = not (int_lt value (neg_ℤ (pos (2 ^ 63)))) && int_lt value (pos (2 ^ 63))

-- the number that a sign and digits write, where they write an i64
unfoldable pub integer_text : List ℕ → Option ℤ
integer_text text = if is_integer_text text && is_i64 (signed_digits_value 10 text) then Some (signed_digits_value 10 text) else None

abbrev pub integer_literal : List ℕ → Kind → Option ℤ
integer_literal text Plain = None
integer_literal text (Lang tag) = None
integer_literal text (Typed datatype) = if same_bytes datatype xsd_integer then integer_text text else None

-- the value of a term that is an xsd:integer
abbrev pub integer_value : Term → Option ℤ
integer_value (Iri iri) = None
integer_value (Blank load label) = None
integer_value (Literal text kind) = integer_literal text kind
