-- The words of a command line.
use Rattle.std.specs.Prelude.{ℕ, Bool, true, false, ◌==◌, List, [], ◌∷◌}
use Rattle.std.specs.List.{filter, slice_split}

abbrev pub is_word : List ℕ → Bool
is_word [] = false
is_word (byte ∷ bytes) = true

-- the words between runs of spaces; spaces before the first and after the last one say nothing
abbrev pub words_of : List ℕ → List (List ℕ)
words_of line = filter is_word (slice_split (λ byte. byte == 32) line)
