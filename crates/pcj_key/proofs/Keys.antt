-- A key is of one list of parts alone, and what follows some parts in a key is a key.
use Rattle.std.proofs.Common.{◌≡◌, ◌≢◌, ◌<◌, ℕ, false, Some, None, List, [], ◌∷◌, ◌++◌, length, refl, ap, ap₂, sym, ◌∙◌, append_assoc, arith}
use Rattle.std.proofs.lemmas.List.{length-append}
use Rattle.std.specs.List.{flat_map}
use Rattle.pcj_key.specs.Key.{byte_key, key_of, Splits}
use Rattle.pcj_key.specs.Reading.{first_part}
use Rattle.pcj_key.proofs.Reading.{with_part, part_found, found_part, same_split}

-- the key of two lists of parts, one after the other
pub key_joined : (parts others : List (List ℕ)) → key_of (parts ++ others) ≡ key_of parts ++ key_of others
key_joined [] others = refl
key_joined (part ∷ parts) others =
    ap (with_part part) (key_joined parts others) ∙ sym (append_assoc (flat_map byte_key part) (0 ∷ key_of parts) (key_of others))

-- two parts at the front of one key are one, and so is what follows them
one_part : (part other rest rest' : List ℕ) → with_part part rest ≡ with_part other rest' → (part ≡ other) × (rest ≡ rest')
one_part part other rest rest' e =
    same_split (part, rest) (other, rest') (sym (part_found part rest) ∙ ap (first_part false) e ∙ part_found other rest')

no_part : (part rest : List ℕ) → with_part part rest ≡ [] → ⊥
no_part part rest e =
    let found : first_part false [] ≡ Some (part, rest) = sym (ap (first_part false) e) ∙ part_found part rest in absurd cc

-- what follows some parts at the front of a key is the key of the other parts
pub rest_is_key : (parts others : List (List ℕ)) (rest : List ℕ) → key_of others ≡ key_of parts ++ rest → (following : List (List ℕ)) × (others ≡ parts ++ following) × (key_of following ≡ rest)
rest_is_key [] others rest e = (others, refl, e)
rest_is_key (part ∷ parts) [] rest e =
    absurd (no_part part (key_of parts ++ rest) (sym (append_assoc (flat_map byte_key part) (0 ∷ key_of parts) rest) ∙ sym e))
rest_is_key (part ∷ parts) (other ∷ others) rest e =
    let same = one_part other part (key_of others) (key_of parts ++ rest) (e ∙ append_assoc (flat_map byte_key part) (0 ∷ key_of parts) rest) in
    let later = rest_is_key parts others rest same.1 in
    (later.0, ap₂ (λ p ps. p ∷ ps) same.0 later.1, later.2)

pub injective : (parts others : List (List ℕ)) → key_of parts ≡ key_of others → parts ≡ others
injective [] [] e = refl
injective [] (other ∷ others) e = absurd (no_part other (key_of others) (sym e))
injective (part ∷ parts) [] e = absurd (no_part part (key_of parts) e)
injective (part ∷ parts) (other ∷ others) e =
    let same = one_part part other (key_of parts) (key_of others) e in
    let later = injective parts others same.1 in
    ap₂ (λ p ps. p ∷ ps) same.0 later

-- ---- splitting goes on part by part

pub split_more : (key : List ℕ) (parts : List (List ℕ)) (rest part following : List ℕ) → key ≡ key_of parts ++ rest → first_part false rest ≡ Some (part, following) → key ≡ key_of (parts ++ part ∷ []) ++ following
split_more key parts rest part following so_far found =
    so_far ∙ ap (λ r. key_of parts ++ r) (found_part rest part following found)
    ∙ sym (ap (λ k. k ++ following) (key_joined parts (part ∷ [])) ∙ append_assoc (key_of parts) (with_part part []) following ∙ ap (λ r. key_of parts ++ r) (append_assoc (flat_map byte_key part) (0 ∷ []) following))

-- each part takes a byte at least
pub split_shorter : (rest part following : List ℕ) → first_part false rest ≡ Some (part, following) → length following < length rest
split_shorter rest part following found =
    let long = ap length (found_part rest part following found) ∙ length-append (flat_map byte_key part) (0 ∷ following) in
    omega arith

pub split_none : (key : List ℕ) (parts : List (List ℕ)) (rest : List ℕ) → key ≡ key_of parts ++ rest → rest ≢ [] → first_part false rest ≡ None → Splits key None
split_none key parts rest so_far some none others e = by (rest_is_key parts others rest (e ∙ so_far))
  where
    by : ((following : List (List ℕ)) × (others ≡ parts ++ following) × (key_of following ≡ rest)) → ⊥
    by ([], same, is) = some (sym is)
    by (part ∷ following, same, is) =
        let found : first_part false rest ≡ Some (part, key_of following) = ap (first_part false) (sym is) ∙ part_found part (key_of following) in
        let wrong : first_part false rest ≡ None = none in absurd cc
