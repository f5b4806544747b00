-- The exported lines of a registration: the plain values of the rows of its exports.
use Rattle.std.specs.Prelude.{◌≡◌, ◌^◌, ℕ, true, List, [], filter, filter_map, Option, Some, None, IsPermutation, IsSorted}
use Rattle.std.specs.FinMap as finmap
use Rattle.pcj_table.specs.declared.plain.Plain.{Plain}
use Rattle.pcj_table.specs.Table.{Key, Table, bytes_cmp, is_between, is_next_at, row_at, rows_that}
use Rattle.pcj_encode.specs.declared.key_range.KeyRange.{KeyRange}
use Rattle.pcj_encode.specs.Range.{exports, range_of}

abbrev pub plain_value : Option Plain → Option (List ℕ)
plain_value None = None
plain_value (Some plain) = plain.value

-- the plain values of the rows between two keys, each as often as rows have it, in the order of the keys
abbrev pub values_between : Key → Key → Table → List (List ℕ)
values_between after end table = filter_map (λ entry. plain_value entry.1.plain) (filter (λ entry. is_between after end entry.0) (finmap.entries table))

abbrev pub export_range : ℕ → KeyRange
export_range registration = range_of (exports registration)

-- the plain values of the rows of a registration's exports
abbrev pub exported : ℕ → Table → List (List ℕ)
exported registration table = values_between (export_range registration).after (export_range registration).end table

-- these lines, sorted by their bytes
pub record AreExported (registration : ℕ) (table : Table) (lines : List (List ℕ)) : Type 0 where
  pub sorted : IsSorted bytes_cmp lines
  pub all : IsPermutation (exported registration table) lines

-- the rows of a registration's exports that a walk at the end of time sees: those that have a lock, a plain value, or a put for
-- their newest version
abbrev pub rows_met : ℕ → Table → ℕ
rows_met registration table = rows_that (is_next_at (export_range registration).after (export_range registration).end (2 ^ 48)) table

-- the rows of a registration's exports have plain values and nothing else
abbrev pub HavePlainsAlone : ℕ → Table → Type 0
HavePlainsAlone registration table = (key : Key) → is_between (export_range registration).after (export_range registration).end key ≡ true →
    ((row_at table key).lock ≡ None) × ((row_at table key).versions ≡ [])
