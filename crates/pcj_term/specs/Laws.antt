-- What holds of the printed forms of all valid terms.
use Rattle.std.specs.Prelude.{◌≡◌, ℕ, Bool, true, not, ◌&&◌, ◌==◌, Option, Some}
use Rattle.std.specs.List.{list_all}
use Rattle.pcj_term.specs.declared.term.Term.{Term}
use Rattle.pcj_term.specs.Term.{printed}
use Rattle.pcj_term.specs.Valid.{IsValid}
use Rattle.pcj_term.specs.Read.{Reads}

-- no two of them have one printed form
abbrev pub PrintsOneTerm : Type 0
PrintsOneTerm = (term other : Term) → IsValid term → IsValid other → printed term ≡ printed other → term ≡ other

-- what a valid term prints is read as that term
abbrev pub ReadsBack : Type 0
ReadsBack = (term : Term) (found : Option Term) → IsValid term → Reads (printed term) found → found ≡ Some term

-- neither TAB nor LF
abbrev pub is_within_cell : ℕ → Bool
is_within_cell byte = not (byte == 9) && not (byte == 10)

-- a printed form is one cell of one line
abbrev pub PrintsOneCell : Type 0
PrintsOneCell = (term : Term) → IsValid term → list_all is_within_cell (printed term) ≡ true
