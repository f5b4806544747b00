-- How a line's fields grow piece by piece.
use Rattle.std.proofs.Common.{◌≡◌, ℕ, List, [], ◌∷◌, ◌++◌, ◌+◌, ◌*◌, ◌<◌, ◌≤◌, length, Some, ap, sym, subst, ◌∙◌, append-nil, append_assoc, arith}
use Rattle.std.specs.Prelude.{◌≢◌}
use Rattle.std.specs.Char.{digit_value}
use Rattle.std.proofs.lemmas.List.{nil_from_length}
use Rattle.pcj_case_lines.specs.Field.{HasFields, end, tab, escape, number, itself, IsPiece, AddsPiece, IsDigit, escape_of}

-- what was read up to here goes before what is read from here on
abbrev pub GoesOn : List ℕ → List ℕ → List ℕ → Type 0
GoesOn line field rest = (length rest ≤ length line) × IsPiece line field rest

pub goes_on : (line field rest piece new next : List ℕ) → GoesOn line field rest → length next < length rest → IsPiece rest piece next → new ≡ field ++ piece → GoesOn line new next
goes_on line field rest piece new next so shorter is e = (
  omega (arith, so.0, shorter),
  λ more fields has. subst (λ (whole : List ℕ). HasFields line ((whole ++ more) ∷ fields)) (sym e)
      (subst (λ (whole : List ℕ). HasFields line (whole ∷ fields)) (sym (append_assoc field piece more)) (so.1 (piece ++ more) fields (is more fields has))),
)

pub goes_on_by : (line field rest behind new next : List ℕ) → GoesOn line field rest → rest ≡ 92 ∷ behind → AddsPiece (92 ∷ behind) field new next → GoesOn line new next
goes_on_by line field rest behind new next so e adds =
    let whole : AddsPiece rest field new next = subst (λ (x : List ℕ). AddsPiece x field new next) (sym e) adds in
    goes_on line field rest whole.1.0 new next so whole.0 whole.1.2 whole.1.1

pub ends : (line field rest : List ℕ) → GoesOn line field rest → length rest ≡ 0 → HasFields line (field ∷ [])
ends line field rest so none =
    subst (λ (whole : List ℕ). HasFields line (whole ∷ [])) (append-nil field)
    (so.1 [] [] (subst (λ (left : List ℕ). HasFields left ([] ∷ [])) (sym (nil_from_length rest none)) end))

pub ends_at_tab : (line field rest next : List ℕ) → GoesOn line field rest → rest ≡ 9 ∷ next → (length next < length line) × ((fields : List (List ℕ)) → HasFields next fields → HasFields line (field ∷ fields))
ends_at_tab line field rest next so e = (
  omega (arith, so.0, ap length e),
  λ fields has. subst (λ (whole : List ℕ). HasFields line (whole ∷ fields)) (append-nil field)
      (so.1 [] fields (subst (λ (left : List ℕ). HasFields left ([] ∷ fields)) (sym e) (tab has))),
)

pub is_itself : (byte : ℕ) (rest next : List ℕ) → rest ≡ byte ∷ next → byte ≢ 9 → byte ≢ 92 → IsPiece rest (byte ∷ []) next
is_itself byte rest next e not_tab not_escape field fields has =
    subst (λ (line : List ℕ). HasFields line ((byte ∷ field) ∷ fields)) (sym e) (itself not_tab not_escape has)

pub takes_escape : (line next piece old new : List ℕ) (letter : ℕ) → line ≡ letter ∷ next → escape_of letter ≡ Some piece → new ≡ old ++ piece → AddsPiece (92 ∷ line) old new next
takes_escape line next piece old new letter e is added = (
  omega (arith, ap length e),
  (piece, added, λ field fields has. subst (λ (x : List ℕ). HasFields (92 ∷ x) ((piece ++ field) ∷ fields)) (sym e) (escape is has)),
)

pub takes_number : (line mid next old new : List ℕ) (high low : ℕ) → IsDigit line high mid → IsDigit mid low next → new ≡ old ++ (high * 16 + low) ∷ [] → AddsPiece (92 ∷ 120 ∷ line) old new next
takes_number line mid next old new high low h l added = (
  omega (arith, ap length h.1, ap length l.1),
  (
    (high * 16 + low) ∷ [],
    added,
    λ field fields has.
        subst (λ (x : List ℕ). HasFields (92 ∷ 120 ∷ x) (((high * 16 + low) ∷ field) ∷ fields)) (sym (h.1 ∙ ap (λ (x : List ℕ). h.0 ∷ x) l.1))
        (subst (λ (value : ℕ). HasFields (92 ∷ 120 ∷ h.0 ∷ l.0 ∷ next) (((value * 16 + low) ∷ field) ∷ fields)) h.2
        (subst (λ (value : ℕ). HasFields (92 ∷ 120 ∷ h.0 ∷ l.0 ∷ next) (((digit_value h.0 * 16 + value) ∷ field) ∷ fields)) l.2
        (number (subst (λ (value : ℕ). value < 16) (sym h.2) h.3) (subst (λ (value : ℕ). value < 16) (sym l.2) l.3) has))),
  ),
)
