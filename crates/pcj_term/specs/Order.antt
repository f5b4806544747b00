-- The equality of bytes, and their order as that of a dictionary.
use Rattle.std.specs.Prelude.{◌≡◌, ℕ, Bool, List, nat_eq}
use Rattle.std.specs.declared.cmp.Ordering.{Ordering}
use Rattle.std.specs.declared.cmp.Ordering.TheVariants.{Less}
use Rattle.std.specs.Ordering.{nat_cmp, is_lt}
use Rattle.std.specs.Cmp.Lexicographic.{pointwise, slice_cmp}

-- whether two lists are as long, with the same bytes in the same places
abbrev pub same_bytes : List ℕ → List ℕ → Bool
same_bytes = pointwise nat_eq

-- the first bytes that differ decide, and a list that is a front of the other comes first
abbrev pub bytes_cmp : List ℕ → List ℕ → Ordering
bytes_cmp = slice_cmp nat_cmp

abbrev pub is_before : List ℕ → List ℕ → Bool
is_before bytes other = is_lt (bytes_cmp bytes other)

abbrev pub IsBelow : List ℕ → List ℕ → Type 0
IsBelow bytes other = bytes_cmp bytes other ≡ Less
