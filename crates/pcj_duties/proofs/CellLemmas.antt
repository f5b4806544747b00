-- The cells of rows that are added.
use Rattle.std.proofs.Common.{◌≡◌, inl, inr, ℕ, Bool, true, false, List, [], ◌∷◌, ◌++◌, length, Option, Some, refl, ap, sym, subst, arith}
use Rattle.std.specs.List.{All, Contains}
use Rattle.std.proofs.lemmas.List.Elements.{All-map, All-weaker, Contains-append_cases}
use Rattle.pcj_term.specs.declared.term.Term.{Term}
use Rattle.pcj_term.specs.declared.triple.Triple.{Triple}
use Rattle.pcj_term.specs.Order.{same_bytes}
use Rattle.pcj_term.specs.Term.{printed}
use Rattle.pcj_term.specs.Valid.{IsValid}
use Rattle.pcj_term.proofs.ByteLemmas.{same_bytes_itself}
use Rattle.pcj_term.proofs.ListLemmas.{nothing_in, first_or_later, first_there, later_there}
use Rattle.pcj_encode.specs.Name.{IsCell, IsTriple}
use Rattle.pcj_expr.specs.declared.mapping.Mapping.{Mapping}
use Rattle.pcj_expr.specs.Truth.{bound}
use Rattle.pcj_algebra.specs.declared.triple_pattern.Slot.{Slot}
use Rattle.pcj_algebra.specs.declared.triple_pattern.Slot.TheVariants as slot
use Rattle.pcj_algebra.specs.declared.triple_pattern.TriplePattern.{TriplePattern}
use Rattle.pcj_algebra.specs.Match.{Matches, Stands}
use Rattle.pcj_algebra.specs.Variables.{slot_names, triple_names}
use Rattle.pcj_answers.specs.Rows.{cell, terms_of}
use Rattle.pcj_tree.specs.Laws.{IsTriplePattern}
use Rattle.pcj_obs_pattern.specs.Rows.{cells_of}
use Rattle.pcj_obs_pass.specs.Cells.{cell_at, cells_at}
use Rattle.pcj_rows.specs.Workers.{terms_in}

-- ---- cells

-- the cell at the place of a variable is one of the cells
placed_cell : (order cells : List (List ℕ)) (name : List ℕ) → length cells ≡ length order → Contains order name → Contains cells (cell_at order cells name)
placed_cell [] cells name long there = absurd (nothing_in name there)
placed_cell (first ∷ names) [] name long there = absurd (omega (arith, long))
placed_cell (first ∷ names) (c ∷ cells) name long there = by (same_bytes first name) refl (placed_cell names cells name (let less : length cells ≡ length names = omega (arith, long) in less))
  where
    in_rest : same_bytes first name ≡ false → Contains names name
    in_rest e = elim (first_or_later first names name there) [
      | inl is ↦ absurd (let same : same_bytes first name ≡ true = subst (λ (n : List ℕ). same_bytes first n ≡ true) is (same_bytes_itself first) in cc)
      | inr later ↦ later
    ]

    by : (test : Bool) → same_bytes first name ≡ test → (Contains names name → Contains cells (cell_at names cells name)) → Contains (c ∷ cells) (cell_at (first ∷ names) (c ∷ cells) name)
    by true e later = rw e (first_there c cells)
    by false e later = rw e (later_there c cells (cell_at names cells name) (later (in_rest e)))

-- cells that are passed on are cells of the row
pub passed_cells : (order cells wanted : List (List ℕ)) → length cells ≡ length order → All (Contains order) wanted → All (Contains cells) (cells_at order cells wanted)
passed_cells order cells wanted long names =
    All-map (Contains cells) (cell_at order cells) wanted (All-weaker (Contains order) (λ name. Contains cells (cell_at order cells name)) (λ name there. placed_cell order cells name long there) wanted names)

-- a valid term that stands in the triple
record IsTermIn (triple : Triple) (value : Option Term) : Type 0 where
  pub term : Term
  pub is : value ≡ Some term
  pub valid : IsValid term
  pub there : Contains (terms_in triple) (printed term)

slot_term : (triple : Triple) (mapping : Mapping) (of : Slot) (term : Term) (name : List ℕ) → Stands mapping of term → IsValid term → Contains (terms_in triple) (printed term) → Contains (slot_names of) name → IsTermIn triple (bound mapping name)
slot_term triple mapping (slot.Value value) term name stands valid there has = absurd (nothing_in name has)
slot_term triple mapping (slot.Var var) term name stands valid there has = elim (first_or_later var [] name has) [
  | inl same ↦ record { term = term; is = subst (λ (n : List ℕ). bound mapping n ≡ Some term) same stands; valid = valid; there = there }
  | inr none ↦ absurd (nothing_in name none)
]

-- a variable of a pattern is bound to a term of the triple
bound_in : (of : TriplePattern) (triple : Triple) (mapping : Mapping) (name : List ℕ) → IsTriple triple → Matches of triple mapping → Contains (triple_names of) name → IsTermIn triple (bound mapping name)
bound_in of triple mapping name valid match has =
    let s = printed triple.subject in
    let p = printed triple.predicate in
    let o = printed triple.object in
    elim (Contains-append_cases (slot_names of.subject ++ slot_names of.predicate) (slot_names of.object) name has) [
      | inl front ↦ elim (Contains-append_cases (slot_names of.subject) (slot_names of.predicate) name front) [
        | inl here ↦ slot_term triple mapping of.subject triple.subject name match.subject valid.0 (first_there s (p ∷ o ∷ [])) here
        | inr next ↦ slot_term triple mapping of.predicate triple.predicate name match.predicate valid.1 (later_there s (p ∷ o ∷ []) p (first_there p (o ∷ []))) next
      ]
      | inr last ↦ slot_term triple mapping of.object triple.object name match.object valid.2 (later_there s (p ∷ o ∷ []) o (later_there p (o ∷ []) o (first_there o []))) last
    ]

-- the cells of a match are terms of its triple
pub pattern_cells : (of : TriplePattern) (order : List (List ℕ)) (triple : Triple) (mapping : Mapping) → IsTriple triple → IsTriplePattern of → Matches of triple mapping → All (λ name. Contains (triple_names of) name) order →
    All IsCell (cells_of order mapping) × All (Contains (terms_in triple)) (cells_of order mapping)
pattern_cells of order triple mapping valid slots match names = (
  All-map IsCell cell (terms_of order mapping) (All-map (λ (v : Option Term). IsCell (cell v)) (bound mapping) order
      (All-weaker (λ name. Contains (triple_names of) name) (λ name. IsCell (cell (bound mapping name))) (λ name has. of_cell (bound mapping name) (bound_in of triple mapping name valid match has)) order names)),
  All-map (Contains (terms_in triple)) cell (terms_of order mapping) (All-map (λ (v : Option Term). Contains (terms_in triple) (cell v)) (bound mapping) order
      (All-weaker (λ name. Contains (triple_names of) name) (λ name. Contains (terms_in triple) (cell (bound mapping name))) (λ name has. of_triple (bound mapping name) (bound_in of triple mapping name valid match has)) order names)),
)
  where
    of_cell : (value : Option Term) → IsTermIn triple value → IsCell (cell value)
    of_cell value is = (is.term, is.valid, sym (ap cell is.is))

    of_triple : (value : Option Term) → IsTermIn triple value → Contains (terms_in triple) (cell value)
    of_triple value is = subst (λ (v : Option Term). Contains (terms_in triple) (cell v)) (sym is.is) is.there
