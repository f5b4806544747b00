-- What is read at the front of a key is its first part.
use Rattle.std.proofs.Common.{◌≡◌, ℕ, zero, suc, ◌<◌, Bool, true, false, nat_eq, ne_eqb, Option, Some, None, List, [], ◌∷◌, ◌++◌, refl, ap, sym, ◌∙◌, append_assoc, arith}
use Rattle.std.proofs.lemmas.Bool.{eqb-true}
use Rattle.std.specs.List.{flat_map}
use Rattle.pcj_term.specs.Reading.{with_front}
use Rattle.pcj_key.specs.Key.{byte_key}
use Rattle.pcj_key.specs.Reading.{first_part}

-- the bytes of a part and its end, and what follows
abbrev pub with_part : List ℕ → List ℕ → List ℕ
with_part part rest = flat_map byte_key part ++ 0 ∷ rest

-- a byte is 0, 1 or another
pub by_byte : (P : ℕ → Type 0) → P 0 → P 1 → ((byte : ℕ) → nat_eq byte 0 ≡ false → nat_eq byte 1 ≡ false → 1 < byte → P byte) → (byte : ℕ) → P byte
by_byte P none one other zero = none
by_byte P none one other (suc zero) = one
by_byte P none one other (suc (suc n)) = other (suc (suc n)) (ne_eqb (suc (suc n)) 0 (λ e. omega arith)) (ne_eqb (suc (suc n)) 1 (λ e. omega arith)) (omega arith)

-- a part that stands at the front is found
pub part_found : (part rest : List ℕ) → first_part false (with_part part rest) ≡ Some (part, rest)
part_found [] rest = refl
part_found (byte ∷ part) rest =
    let later = part_found part rest in
    by_byte (λ b. first_part false (with_part (b ∷ part) rest) ≡ Some (b ∷ part, rest))
    (ap (with_front (0 ∷ [])) later)
    (ap (with_front (1 ∷ [])) later)
    (λ b p q high. rw (p, q) (rw (p, q) (ap (with_front (b ∷ [])) later)))
    byte

-- two results that are one have the same parts
pub same_split : (p q : List ℕ × List ℕ) → Some p ≡ Some q → (p.0 ≡ q.0) × (p.1 ≡ q.1)
same_split p q e = let same : p ≡ q = cc in (ap (λ s. s.0) same, ap (λ s. s.1) same)

-- what was found behind a byte
found_before : (byte : ℕ) (found : Option (List ℕ × List ℕ)) (part rest : List ℕ) → with_front (byte ∷ []) found ≡ Some (part, rest) → (inner : List ℕ) × (found ≡ Some (inner, rest)) × (part ≡ byte ∷ inner)
found_before byte None part rest e = absurd cc
found_before byte (Some split) part rest e =
    let same = same_split (byte ∷ split.0, split.1) (part, rest) e in
    (split.0, rw (sym same.1) refl, sym same.0)

-- the bytes with the start of an escape that is open
abbrev opened : Bool → List ℕ → List ℕ
opened false key = key
opened true key = 1 ∷ key

-- what is said of the bytes behind an open escape, or behind none
abbrev IsAtFront : Bool → List ℕ → Type 0
IsAtFront is_open key = (part rest : List ℕ) → first_part is_open key ≡ Some (part, rest) → opened is_open key ≡ with_part part rest

-- a byte of a part stands before what was found
put_before : (byte : ℕ) (key part rest : List ℕ) → IsAtFront false key → with_front (byte ∷ []) (first_part false key) ≡ Some (part, rest) → byte_key byte ++ key ≡ with_part part rest
put_before byte key part rest later e =
    let inner = found_before byte (first_part false key) part rest e in
    rw inner.2 (ap (λ k. byte_key byte ++ k) (later inner.0 rest inner.1) ∙ sym (append_assoc (byte_key byte) (flat_map byte_key inner.0) (0 ∷ rest)))

closed : (byte : ℕ) (key : List ℕ) → IsAtFront false key → IsAtFront true key → IsAtFront false (byte ∷ key)
closed byte key later escaped = by_byte (λ b. IsAtFront false (b ∷ key))
    (λ part rest e. let same = same_split ([], key) (part, rest) e in rw (sym same.0, sym same.1) refl)
    escaped
    (λ b p q high part rest e.
    let found : with_front (b ∷ []) (first_part false key) ≡ Some (part, rest) = rw (p, q) at e in
    let shown : byte_key b ++ key ≡ b ∷ key = rw (p, q) refl in
    sym shown ∙ put_before b key part rest later found)
    byte

escaped : (byte : ℕ) (key : List ℕ) → IsAtFront false key → IsAtFront true (byte ∷ key)
escaped byte key later = by (nat_eq byte 1) (nat_eq byte 2) refl refl
  where
    by : (one two : Bool) → nat_eq byte 1 ≡ one → nat_eq byte 2 ≡ two → IsAtFront true (byte ∷ key)
    by true two p q part rest e =
        let found : with_front (0 ∷ []) (first_part false key) ≡ Some (part, rest) = rw p at e in
        rw (eqb-true byte 1 p) (put_before 0 key part rest later found)
    by false true p q part rest e =
        let found : with_front (1 ∷ []) (first_part false key) ≡ Some (part, rest) = rw (p, q) at e in
        rw (eqb-true byte 2 q) (put_before 1 key part rest later found)
    by false false p q part rest e = let none : first_part true (byte ∷ key) ≡ None = rw (p, q) refl in absurd cc

-- what is found stands at the front
at_front : (is_open : Bool) (key : List ℕ) → IsAtFront is_open key
at_front is_open [] = λ part rest e. absurd cc
at_front false (byte ∷ key) = closed byte key (at_front false key) (at_front true key)
at_front true (byte ∷ key) = escaped byte key (at_front false key)

pub found_part : (key part rest : List ℕ) → first_part false key ≡ Some (part, rest) → key ≡ with_part part rest
found_part key = at_front false key
