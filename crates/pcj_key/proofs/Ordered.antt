-- Keys compare as their lists of parts compare.
use Rattle.std.proofs.Common.{◌≡◌, ◌<◌, ℕ, nat_cmp, Less, List, [], ◌∷◌, ◌++◌, refl, ap, ap₂, sym, ◌∙◌, append_assoc, arith}
use Rattle.std.specs.List.{flat_map}
use Rattle.std.specs.declared.cmp.Ordering.{Ordering}
use Rattle.std.specs.declared.cmp.Ordering.TheVariants.{Equal, Greater}
use Rattle.std.specs.Ordering.{ordering_then}
use Rattle.std.specs.Cmp.{nat_cmp_is}
use Rattle.pcj_key.specs.Key.{byte_key, key_of}
use Rattle.pcj_key.specs.Order.{bytes_cmp, parts_cmp}
use Rattle.pcj_key.proofs.Reading.{with_part, by_byte}

pub less : (a b : ℕ) → a < b → nat_cmp a b ≡ Less
less a b lt = sym (nat_cmp_is a b Less lt)

pub greater : (a b : ℕ) → b < a → nat_cmp a b ≡ Greater
greater a b lt = sym (nat_cmp_is a b Greater lt)

then_assoc : (r s t : Ordering) → ordering_then (ordering_then r s) t ≡ ordering_then r (ordering_then s t)
then_assoc Less s t = refl
then_assoc Equal s t = refl
then_assoc Greater s t = refl

-- two bytes compare as they do in keys
abbrev IsOrdered : ℕ → ℕ → Type 0
IsOrdered a b = (left right : List ℕ) → bytes_cmp (byte_key a ++ left) (byte_key b ++ right) ≡ ordering_then (nat_cmp a b) (bytes_cmp left right)

none_ordered : (b : ℕ) → IsOrdered 0 b
none_ordered = by_byte (IsOrdered 0) (λ left right. refl) (λ left right. refl)
    (λ b p q high left right. rw (less 0 b (omega arith)) (rw (p, q) (rw (less 1 b high) refl)))

one_ordered : (b : ℕ) → IsOrdered 1 b
one_ordered = by_byte (IsOrdered 1) (λ left right. refl) (λ left right. refl)
    (λ b p q high left right. rw (p, q) (rw (less 1 b high) refl))

byte_ordered : (a b : ℕ) → IsOrdered a b
byte_ordered a b = by_byte (λ x. IsOrdered x b) (none_ordered b) (one_ordered b)
    (λ x p q high. by_byte (IsOrdered x)
    (λ left right. rw (greater x 0 (omega arith)) (rw (p, q) (rw (greater x 1 high) refl)))
    (λ left right. rw (greater x 1 high) (rw (p, q) (rw (greater x 1 high) refl)))
    (λ y p' q' high' left right. rw (p, q, p', q') refl)
    b)
    a

-- the end of a part comes before each byte of a part
end_first : (byte : ℕ) (left right : List ℕ) → bytes_cmp (0 ∷ left) (byte_key byte ++ right) ≡ Less
end_first byte left right = by_byte (λ b. bytes_cmp (0 ∷ left) (byte_key b ++ right) ≡ Less) refl refl
    (λ b p q high. rw (p, q) (rw (less 0 b (omega arith)) refl)) byte

end_last : (byte : ℕ) (left right : List ℕ) → bytes_cmp (byte_key byte ++ left) (0 ∷ right) ≡ Greater
end_last byte left right = by_byte (λ b. bytes_cmp (byte_key b ++ left) (0 ∷ right) ≡ Greater) refl refl
    (λ b p q high. rw (p, q) (rw (greater b 0 (omega arith)) refl)) byte

-- what a part's first byte stands before
split_off : (byte : ℕ) (part rest : List ℕ) → with_part (byte ∷ part) rest ≡ byte_key byte ++ with_part part rest
split_off byte part rest = append_assoc (byte_key byte) (flat_map byte_key part) (0 ∷ rest)

-- parts compare as they do in keys
part_ordered : (part other left right : List ℕ) → bytes_cmp (with_part part left) (with_part other right) ≡ ordering_then (bytes_cmp part other) (bytes_cmp left right)
part_ordered [] [] left right = refl
part_ordered [] (byte ∷ other) left right =
    ap (bytes_cmp (0 ∷ left)) (split_off byte other right) ∙ end_first byte left (with_part other right)
part_ordered (byte ∷ part) [] left right =
    ap (λ key. bytes_cmp key (0 ∷ right)) (split_off byte part left) ∙ end_last byte (with_part part left) right
part_ordered (a ∷ part) (b ∷ other) left right =
    ap₂ bytes_cmp (split_off a part left) (split_off b other right)
    ∙ byte_ordered a b (with_part part left) (with_part other right)
    ∙ ap (ordering_then (nat_cmp a b)) (part_ordered part other left right)
    ∙ sym (then_assoc (nat_cmp a b) (bytes_cmp part other) (bytes_cmp left right))

-- no bytes come before a part
empty_first : (part rest : List ℕ) → bytes_cmp [] (with_part part rest) ≡ Less
empty_first [] rest = refl
empty_first (byte ∷ part) rest = by_byte (λ b. bytes_cmp [] (with_part (b ∷ part) rest) ≡ Less) refl refl (λ b p q high. rw (p, q) refl) byte

empty_last : (part rest : List ℕ) → bytes_cmp (with_part part rest) [] ≡ Greater
empty_last [] rest = refl
empty_last (byte ∷ part) rest = by_byte (λ b. bytes_cmp (with_part (b ∷ part) rest) [] ≡ Greater) refl refl (λ b p q high. rw (p, q) refl) byte

pub ordered : (parts others : List (List ℕ)) → bytes_cmp (key_of parts) (key_of others) ≡ parts_cmp parts others
ordered [] [] = refl
ordered [] (other ∷ others) = empty_first other (key_of others)
ordered (part ∷ parts) [] = empty_last part (key_of parts)
ordered (part ∷ parts) (other ∷ others) =
    part_ordered part other (key_of parts) (key_of others) ∙ ap (ordering_then (bytes_cmp part other)) (ordered parts others)
