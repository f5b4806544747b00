-- The lowest of some places.
use Rattle.std.specs.Prelude.{ℕ, min, List, [], ◌∷◌, Option, Some, None}

abbrev pub lower : ℕ → Option ℕ → Option ℕ
lower place None = Some place
lower place (Some other) = Some (min place other)

-- the lowest of some places
abbrev pub lowest_of : List ℕ → Option ℕ
lowest_of [] = None
lowest_of (place ∷ places) = lower place (lowest_of places)

-- the lower of two places, where there are some
abbrev pub lower_of : Option ℕ → Option ℕ → Option ℕ
lower_of None other = other
lower_of (Some place) other = lower place other
