-- The parts that are split off one after another are those whose key the bytes are.
use Rattle.std.proofs.Common.{◌≡◌, ℕ, zero, suc, ◌≤◌, false, List, [], ◌∷◌, length, Option, Some, None, refl, ap, sym, ◌∙◌, arith}
use Rattle.std.specs.List.{flat_map}
use Rattle.std.specs.Option.{option_map}
use Rattle.std.proofs.lemmas.List.{length-append}
use Rattle.pcj_term.specs.Reading.{◌>>=◌}
use Rattle.pcj_term.proofs.OptionLemmas.{map_some, bind_some}
use Rattle.pcj_key.specs.Key.{byte_key, key_of, Splits}
use Rattle.pcj_key.specs.Reading.{first_part}
use Rattle.pcj_key.proofs.Reading.{with_part, part_found, found_part}
use Rattle.pcj_tree.specs.Reading.{split_up_to, split_of}

abbrev split_first : ℕ → Option (List ℕ × List ℕ) → Option (List (List ℕ))
split_first count first = first >>= (λ found. option_map (λ parts. found.0 ∷ parts) (split_up_to count found.1))

-- a key that has a part isn't empty
some_first : (count : ℕ) (key part rest : List ℕ) → key ≡ with_part part rest → split_up_to (suc count) key ≡ split_first count (first_part false key)
some_first count [] part rest e = absurd (let long = ap length e ∙ length-append (flat_map byte_key part) (0 ∷ rest) in omega (arith, long))
some_first count (byte ∷ key) part rest e = refl

again_up_to : (count : ℕ) (parts : List (List ℕ)) → length (key_of parts) ≤ count → split_up_to count (key_of parts) ≡ Some parts
again_up_to zero [] fits = refl
again_up_to (suc count) [] fits = refl
again_up_to zero (part ∷ parts) fits = absurd (let long = length-append (flat_map byte_key part) (0 ∷ key_of parts) in omega (arith, long, fits))
again_up_to (suc count) (part ∷ parts) fits =
    let long = length-append (flat_map byte_key part) (0 ∷ key_of parts) in
    let less : length (key_of parts) ≤ count = omega (arith, long, fits) in
    some_first count (key_of (part ∷ parts)) part (key_of parts) refl
    ∙ ap (split_first count) (part_found part (key_of parts))
    ∙ ap (option_map (λ ps. part ∷ ps)) (again_up_to count parts less)

pub split_again : (parts : List (List ℕ)) → split_of (key_of parts) ≡ Some parts
unfolding split_of
split_again parts = again_up_to (length (key_of parts)) parts (omega arith)

takes_up_to : (count : ℕ) (bytes : List ℕ) (parts : List (List ℕ)) → split_up_to count bytes ≡ Some parts → key_of parts ≡ bytes
takes_up_to zero [] parts e = let none : [] ≡ parts = cc in ap key_of (sym none)
takes_up_to zero (byte ∷ bytes) parts e = absurd cc
takes_up_to (suc count) [] parts e = let none : [] ≡ parts = cc in ap key_of (sym none)
takes_up_to (suc count) (byte ∷ bytes) parts e =
    let first = bind_some (first_part false (byte ∷ bytes)) _ parts e in
    let rest = map_some _ (split_up_to count (first.0).1) parts first.2 in
    let later : key_of rest.0 ≡ (first.0).1 = takes_up_to count (first.0).1 rest.0 rest.1 in
    ap key_of (sym rest.2) ∙ ap (with_part (first.0).0) later ∙ sym (found_part (byte ∷ bytes) (first.0).0 (first.0).1 first.1)

pub split_takes : (bytes : List ℕ) (parts : List (List ℕ)) → split_of bytes ≡ Some parts → key_of parts ≡ bytes
unfolding split_of
split_takes bytes parts e = takes_up_to (length bytes) bytes parts e

pub is_split : (bytes : List ℕ) (found : Option (List (List ℕ))) → Splits bytes found → found ≡ split_of bytes
is_split bytes (Some parts) is = sym (split_again parts) ∙ ap split_of is
is_split bytes None is = by (split_of bytes) refl
  where
    by : (found : Option (List (List ℕ))) → split_of bytes ≡ found → None ≡ found
    by None e = refl
    by (Some parts) e = absurd (is parts (split_takes bytes parts e))
