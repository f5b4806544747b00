-- Which rows serve a pattern: in which order its triples stand together, and where (Punnoose, Crainiceanu and Rapp, "Rya",
-- 2012).
use Rattle.std.specs.Prelude.{ℕ, List, [], ◌∷◌, map, codes}
use Rattle.pcj_term.specs.declared.term.Term.{Term}
use Rattle.pcj_term.specs.Term.{printed}
use Rattle.pcj_algebra.specs.declared.triple_pattern.Slot.{Slot}
use Rattle.pcj_algebra.specs.declared.triple_pattern.Slot.TheVariants.{Var, Value}
use Rattle.pcj_algebra.specs.declared.triple_pattern.TriplePattern.{TriplePattern}
use Rattle.pcj_encode.specs.declared.order.Order.{Order}
use Rattle.pcj_encode.specs.declared.order.Order.TheVariants.{Spo, Pos, Osp}
use Rattle.pcj_encode.specs.declared.key_range.KeyRange.{KeyRange}
use Rattle.pcj_encode.specs.Range.{range_from}

-- the order that has a pattern's constants at its front, and the constants in that order
abbrev pub serving : Slot → Slot → Slot → Order × List Term
serving (Value s) (Value p) (Value o) = (Spo, s ∷ p ∷ o ∷ [])
serving (Value s) (Value p) (Var o) = (Spo, s ∷ p ∷ [])
serving (Value s) (Var p) (Value o) = (Osp, o ∷ s ∷ [])
serving (Value s) (Var p) (Var o) = (Spo, s ∷ [])
serving (Var s) (Value p) (Value o) = (Pos, p ∷ o ∷ [])
serving (Var s) (Value p) (Var o) = (Pos, p ∷ [])
serving (Var s) (Var p) (Value o) = (Osp, o ∷ [])
serving (Var s) (Var p) (Var o) = (Spo, [])

-- the letter that the keys of an order's rows begin with
abbrev pub order_letter : Order → List ℕ
order_letter Spo = codes "s"
order_letter Pos = codes "p"
order_letter Osp = codes "o"

-- the parts that a row's key begins with: its order's letter, and printed terms
abbrev pub front_of : Order → List Term → List (List ℕ)
front_of order terms = order_letter order ∷ map printed terms

abbrev pub rows_from : Order × List Term → Order × KeyRange
rows_from served = (served.0, range_from (front_of served.0 served.1))

-- the order that serves a pattern, and the range of its rows
abbrev pub rows_of : TriplePattern → Order × KeyRange
rows_of pattern = rows_from (serving pattern.subject pattern.predicate pattern.object)
