-- What a comparison of two terms says (SPARQL 1.1 Query, sections 17.3 and 17.4.1.7).
use Rattle.std.specs.Prelude.{ℕ, ℤ, Bool, true, false, ◌&&◌, List, Option, Some, None, int_lt, if◌then◌else◌}
use Rattle.std.specs.Ordering.{int_eq}
use Rattle.pcj_term.specs.declared.kind.Kind.TheVariants.{Plain, Lang, Typed}
use Rattle.pcj_term.specs.declared.term.Term.{Term}
use Rattle.pcj_term.specs.declared.term.Term.TheVariants.{Iri, Blank, Literal}
use Rattle.pcj_term.specs.Order.{same_bytes, is_before}
use Rattle.pcj_term.specs.Integer.{integer_value}
use Rattle.pcj_term.specs.Triple.{same_term}
use Rattle.pcj_expr.specs.declared.compare.Compare.{Compare}
use Rattle.pcj_expr.specs.declared.compare.Compare.TheVariants.{Eq, Ne, Lt, Gt, Le, Ge}
use Rattle.pcj_expr.specs.declared.truth_value.Truth.{Truth}
use Rattle.pcj_expr.specs.declared.truth_value.Truth.TheVariants.{True, False, Error}

-- what a test that has an answer says
abbrev pub truth_when : Bool → Truth
truth_when true = True
truth_when false = False

-- True and False are turned over, and Error stays
abbrev pub not_of : Truth → Truth
not_of True = False
not_of False = True
not_of Error = Error

-- the text of an xsd:string
abbrev pub string_text : Term → Option (List ℕ)
string_text (Iri iri) = None
string_text (Blank load label) = None
string_text (Literal text Plain) = Some text
string_text (Literal text (Lang tag)) = None
string_text (Literal text (Typed datatype)) = None

abbrev pub is_literal : Term → Bool
is_literal (Iri iri) = false
is_literal (Blank load label) = false
is_literal (Literal text kind) = true

-- what is said of two values, where both are there
abbrev pub of_both : {A : Type 0} → (A → A → Bool) → Option A → Option A → Option Truth
of_both test (Some value) (Some other) = Some (truth_when (test value other))
of_both test (Some value) None = None
of_both test None (Some other) = None
of_both test None None = None

-- the first that says anything, or else the last
abbrev pub first_of : Option Truth → Option Truth → Truth → Truth
first_of (Some truth) strings others = truth
first_of None (Some truth) others = truth
first_of None None others = others

-- what is said by a test of integers and one of texts, or of terms that are neither both integers nor both strings
abbrev pub compared : (ℤ → ℤ → Bool) → (List ℕ → List ℕ → Bool) → Truth → Term → Term → Truth
compared integers texts others term other =
    first_of (of_both integers (integer_value term) (integer_value other)) (of_both texts (string_text term) (string_text other)) others

-- of terms that aren't compared by value: one term equals itself, and of two literals that differ nothing is known
abbrev pub same_or_unknown : Term → Term → Truth
same_or_unknown term other =
    if same_term term other then True else
    if is_literal term && is_literal other then Error else
    False

-- `=`: integers by their values, strings by their texts, all else by whether they are one term
abbrev pub equal : Term → Term → Truth
equal term other = compared int_eq same_bytes (same_or_unknown term other) term other

-- `<`: integers by their values, strings by their texts, and nothing else has an order. Texts of UTF-8 are in the order of
-- their bytes just where they are in that of their code points, by the law `texts_compare_by_code_points`.
abbrev pub less : Term → Term → Truth
less term other = compared int_lt is_before Error term other

-- what a comparison of two terms says: that something is at most another is that the other isn't less
abbrev pub comparison : Compare → Term → Term → Truth
comparison Eq term other = equal term other
comparison Ne term other = not_of (equal term other)
comparison Lt term other = less term other
comparison Gt term other = less other term
comparison Le term other = not_of (less other term)
comparison Ge term other = not_of (less term other)
