-- The rows of a pattern's range are those of the triples that have the pattern's constants.
use Rattle.std.specs.Prelude.{◌≡◌, ◌↔◌}
use Rattle.pcj_term.specs.declared.term.Term.{Term}
use Rattle.pcj_term.specs.declared.triple.Triple.{Triple}
use Rattle.pcj_term.specs.Valid.{IsValid}
use Rattle.pcj_expr.specs.declared.mapping.Mapping.{Mapping}
use Rattle.pcj_algebra.specs.declared.triple_pattern.Slot.{Slot}
use Rattle.pcj_algebra.specs.declared.triple_pattern.Slot.TheVariants.{Var, Value}
use Rattle.pcj_algebra.specs.declared.triple_pattern.TriplePattern.{TriplePattern}
use Rattle.pcj_algebra.specs.Match.{Matches}
use Rattle.pcj_encode.specs.declared.key_name.KeyName.{KeyName}
use Rattle.pcj_encode.specs.declared.key_name.KeyName.TheVariants as row
use Rattle.pcj_encode.specs.Name.{key_of, IsName}
use Rattle.pcj_encode.specs.Range.{Holds}
use Rattle.pcj_rowtables.specs.Rows.{triple_key}
use Rattle.pcj_patterns.specs.Serving.{rows_of}

-- every triple that matches a pattern has its row in that order in the range
abbrev pub MatchesAreInRange : Type 0
MatchesAreInRange = (pattern : TriplePattern) (triple : Triple) (mapping : Mapping) → Matches pattern triple mapping →
    Holds (rows_of pattern).1 (triple_key (rows_of pattern).0 triple)

-- the term is the slot's, where that is a constant
abbrev pub HasConstant : Slot → Term → Type 0
HasConstant (Var name) term = Unit {0}
HasConstant (Value value) term = value ≡ term

-- the triple has the pattern's constants
pub record HasConstants (pattern : TriplePattern) (triple : Triple) : Type 0 where
  pub subject : HasConstant pattern.subject triple.subject
  pub predicate : HasConstant pattern.predicate triple.predicate
  pub object : HasConstant pattern.object triple.object

abbrev pub IsValidSlot : Slot → Type 0
IsValidSlot (Var name) = Unit {0}
IsValidSlot (Value value) = IsValid value

-- the pattern's constants are valid terms
pub record IsValidPattern (pattern : TriplePattern) : Type 0 where
  pub subject : IsValidSlot pattern.subject
  pub predicate : IsValidSlot pattern.predicate
  pub object : IsValidSlot pattern.object

-- the name is that of a row in the pattern's order, of a triple that has the pattern's constants
abbrev pub IsRowOf : TriplePattern → KeyName → Type 0
IsRowOf pattern name = (triple : Triple) × (name ≡ row.Triple (rows_of pattern).0 triple) × HasConstants pattern triple

-- Of the keys of all valid names, those of such rows are those in the range: with three constants one alone.
abbrev pub RangesHoldConstants : Type 0
RangesHoldConstants = (pattern : TriplePattern) (name : KeyName) → IsValidPattern pattern → IsName name →
    IsRowOf pattern name ↔ Holds (rows_of pattern).1 (key_of name)
