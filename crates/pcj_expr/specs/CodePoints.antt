-- The order of texts.
use Rattle.std.specs.Prelude.{◌≡◌, ℕ, true, List}
use Rattle.std.specs.Ordering.{nat_cmp}
use Rattle.std.specs.Cmp.Lexicographic.{slice_cmp}
use Rattle.std.specs.Str.{chars, is_utf8}
use Rattle.pcj_term.specs.Order.{bytes_cmp}

-- Texts of UTF-8 are in the order of their bytes as they are in that of their code points: the first that differ decide,
-- and a text that is a front of the other comes first.
abbrev pub TextsCompareByCodePoints : Type 0
TextsCompareByCodePoints = (text other : List ℕ) → is_utf8 text ≡ true → is_utf8 other ≡ true → bytes_cmp text other ≡ slice_cmp nat_cmp (chars text) (chars other)
