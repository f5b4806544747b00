-- What is read from a part is the valid term that it prints, and a cell is such a part.
use Rattle.std.proofs.Common.{◌≡◌, ℕ, suc, true, false, Option, Some, None, List, [], ◌∷◌, ◌++◌, refl, ap, sym, ◌∙◌, arith}
use Rattle.std.specs.List.{list_all, All}
use Rattle.std.specs.Option.{is_some}
use Rattle.std.proofs.lemmas.Bool.{and_parts}
use Rattle.std.proofs.lemmas.List.Elements.{All-nil, All-cons}
use Rattle.pcj_term.specs.declared.term.Term.{Term}
use Rattle.pcj_term.specs.Read.{Reads}
use Rattle.pcj_term.specs.Reading.{term_of}
use Rattle.pcj_term.proofs.Reading.{reads, term_again}
use Rattle.pcj_encode.specs.Name.{IsCell}
use Rattle.pcj_encode.specs.Reading.{is_cell}

pub term_read : (bytes : List ℕ) (found : Option Term) → Reads bytes found → found ≡ term_of bytes
term_read bytes (Some term) known = sym (ap term_of (sym known.1) ∙ term_again term known.0)
term_read bytes None known = by (term_of bytes) refl
  where
    by : (other : Option Term) → term_of bytes ≡ other → None ≡ term_of bytes
    by None e = sym e
    by (Some term) e = let wrong = reads bytes (Some term) (sym e) in absurd (known term wrong.0 wrong.1)

pub term_takes : (bytes : List ℕ) (term : Term) → term_of bytes ≡ Some term → Reads bytes (Some term)
term_takes bytes term e = reads bytes (Some term) (sym e)

cell_takes : (cell : List ℕ) → is_cell cell ≡ true → IsCell cell
cell_takes cell e = by (term_of cell) refl
  where
    by : (found : Option Term) → term_of cell ≡ found → IsCell cell
    by None none = let wrong : false ≡ true = ap is_some (sym none) ∙ e in absurd cc
    by (Some term) some = let known = term_takes cell term some in (term, known.0, known.1)

pub cell_again : (cell : List ℕ) → IsCell cell → is_cell cell ≡ true
cell_again cell known = ap is_some (ap term_of (sym known.2) ∙ term_again known.0 known.1)

pub cells_take : (cells : List (List ℕ)) → list_all is_cell cells ≡ true → All IsCell cells
cells_take [] e = All-nil IsCell
cells_take (cell ∷ cells) e =
    let both = and_parts _ _ e in
    All-cons IsCell cell cells (cell_takes cell both.0) (cells_take cells both.1)

pub cells_again : (cells : List (List ℕ)) → All IsCell cells → list_all is_cell cells ≡ true
cells_again [] all = refl
cells_again (cell ∷ cells) all =
    rw (cell_again cell (all 0 cell (omega arith))) (cells_again cells (λ k d lt. all (suc k) d (omega arith)))

-- one more cell at the end
pub cells_split : (cells : List (List ℕ)) (cell : List ℕ) → list_all is_cell (cells ++ cell ∷ []) ≡ true → All IsCell cells × IsCell cell
cells_split [] cell e = (All-nil IsCell, cell_takes cell (and_parts _ _ e).0)
cells_split (first ∷ cells) cell e =
    let both = and_parts _ _ e in
    let later = cells_split cells cell both.1 in
    (All-cons IsCell first cells (cell_takes first both.0) later.0, later.1)

pub cells_joined : (cells : List (List ℕ)) (cell : List ℕ) → All IsCell cells → IsCell cell → list_all is_cell (cells ++ cell ∷ []) ≡ true
cells_joined [] cell all one = rw (cell_again cell one) refl
cells_joined (first ∷ cells) cell all one =
    rw (cell_again first (all 0 first (omega arith))) (cells_joined cells cell (λ k d lt. all (suc k) d (omega arith)) one)
