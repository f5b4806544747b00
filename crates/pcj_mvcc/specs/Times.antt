-- The order of timestamps in rows (Percolator, OSDI 2010, section 2.2).
use Rattle.std.specs.Prelude.{◌≡◌, Bool, true, ◌&&◌, nat_lt, List, [], ◌∷◌, Some}
use Rattle.std.specs.List.{list_all}
use Rattle.pcj_table.specs.declared.lock.Lock.{Lock}
use Rattle.pcj_table.specs.declared.version.Version.{Version}
use Rattle.pcj_table.specs.Row.{are_below}
use Rattle.pcj_table.specs.Table.{Key}
use Rattle.pcj_mvcc.specs.Reading.{Rows}

-- commits rise strictly
abbrev pub ascends : List Version → Bool
ascends [] = true
ascends (version ∷ versions) = list_all (λ later. nat_lt version.commit later.commit) versions && ascends versions

abbrev pub VersionsAscend : Rows → Type 0
VersionsAscend rows = (key : Key) → ascends (rows key).versions ≡ true

-- A locked row has no version of its lock's start or later.
abbrev pub LocksAreLast : Rows → Type 0
LocksAreLast rows = (key : Key) (lock : Lock) → (rows key).lock ≡ Some lock → are_below lock.start (rows key).versions ≡ true

-- a test holds of each version of each row
abbrev pub AllVersions : (Version → Bool) → Rows → Type 0
AllVersions test rows = (key : Key) → list_all test (rows key).versions ≡ true

abbrev pub starts_first : Version → Bool
starts_first version = nat_lt version.start version.commit

-- Each row's versions ascend, its lock started after them, and each version's transaction started before it committed.
pub record TimesInOrder (rows : Rows) : Type 0 where
  pub ascend : VersionsAscend rows
  pub last : LocksAreLast rows
  pub first : AllVersions starts_first rows
