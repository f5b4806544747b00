-- A line, one cell after another.
use Rattle.std.proofs.Common.{◌≡◌, ℕ, zero, suc, ◌+◌, ◌<◌, ◌≤◌, List, [], ◌∷◌, ◌++◌, length, take, slice_index_or, refl, ap, sym, ◌∙◌, arith, append_assoc}
use Rattle.std.proofs.lemmas.List.{take_more}
use Rattle.pcj_export.specs.Plan.{line_of}

-- one more cell goes after a TAB
line_push : (x : List ℕ) (xs : List (List ℕ)) (cell : List ℕ) → line_of ((x ∷ xs) ++ cell ∷ []) ≡ line_of (x ∷ xs) ++ 9 ∷ cell
line_push x [] cell = refl
line_push x (y ∷ ys) cell =
    ap (λ (rest : List ℕ). x ++ (9 ∷ rest)) (line_push y ys cell)
    ∙ sym (append_assoc x (9 ∷ line_of (y ∷ ys)) (9 ∷ cell))

next_cells : (cells : List (List ℕ)) (i : ℕ) (cell : List ℕ) → i < length cells → cell ≡ slice_index_or cells i cell → take (i + 1) cells ≡ take i cells ++ cell ∷ []
next_cells cells i cell h is = take_more cells i cell h ∙ ap (λ (c : List ℕ). take i cells ++ c ∷ []) (sym is)

-- the first cell stands alone
pub line_first : (cells : List (List ℕ)) (i : ℕ) (cell line : List ℕ) → i ≤ 0 → i < length cells → cell ≡ slice_index_or cells i cell →
    line ≡ line_of (take i cells) → line ++ cell ≡ line_of (take (i + 1) cells)
line_first cells i cell line z h is e =
    let none : i ≡ 0 = omega arith in
    let empty : take i cells ≡ [] = ap (λ (n : ℕ). take n cells) none in
    let alone : take (i + 1) cells ≡ cell ∷ [] = next_cells cells i cell h is ∙ ap (λ (before : List (List ℕ)). before ++ cell ∷ []) empty in
    ap (λ (l : List ℕ). l ++ cell) (e ∙ ap line_of empty) ∙ sym (ap line_of alone)

begun : (cells : List (List ℕ)) (i : ℕ) → 0 < i → i < length cells → (x : List ℕ) × (xs : List (List ℕ)) × (take i cells ≡ x ∷ xs)
begun [] i z h = absurd (omega arith)
begun (x ∷ xs) zero z h = absurd (omega arith)
begun (x ∷ xs) (suc i) z h = (x, take i xs, refl)

-- each further cell goes after a TAB
pub line_more : (cells : List (List ℕ)) (i : ℕ) (cell line : List ℕ) → 0 < i → i < length cells → cell ≡ slice_index_or cells i cell →
    line ≡ line_of (take i cells) → (line ++ 9 ∷ []) ++ cell ≡ line_of (take (i + 1) cells)
line_more cells i cell line z h is e =
    let front = begun cells i z h in
    append_assoc line (9 ∷ []) cell
    ∙ ap (λ (l : List ℕ). l ++ 9 ∷ cell) (e ∙ ap line_of front.2)
    ∙ sym (line_push front.0 front.1 cell)
    ∙ ap line_of (sym (next_cells cells i cell h is ∙ ap (λ (before : List (List ℕ)). before ++ cell ∷ []) front.2))
