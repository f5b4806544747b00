-- What a row holds, what conditions ask of it and what updates do to it.
use Rattle.std.specs.Prelude.{ℕ, suc, Bool, true, false, not, ◌&&◌, ◌||◌, ◌==◌, nat_le, nat_lt, List, [], ◌∷◌, filter, Option, Some, None, is_some, if◌then◌else◌}
use Rattle.std.specs.List.{list_all, fold}
use Rattle.pcj_table.specs.declared.lock.Lock.{Lock}
use Rattle.pcj_table.specs.declared.version.Version.{Version}
use Rattle.pcj_table.specs.declared.plain.Plain.{Plain}
use Rattle.pcj_table.specs.declared.row.Row.{Row}
use Rattle.pcj_table.specs.declared.cond.Cond.{Cond}
use Rattle.pcj_table.specs.declared.cond.Cond.TheVariants.{NoLock, LockIs, NoVersionFrom, PlainBelow}
use Rattle.pcj_table.specs.declared.update.Update.{Update}
use Rattle.pcj_table.specs.declared.update.Update.TheVariants.{SetLock, DropLock, AddVersion, SetPlain}

-- the row of a key that has nothing
abbrev pub no_row : Row
no_row = record { lock = None; versions = []; plain = None }

abbrev pub is_empty : List Version → Bool
is_empty [] = true
is_empty (version ∷ versions) = false

abbrev pub has_nothing : Row → Bool
has_nothing row = not (is_some row.lock) && is_empty row.versions && not (is_some row.plain)

-- of several versions the one that stands last
abbrev pub newest : List Version → Option Version
newest [] = None
newest (version ∷ []) = Some version
newest (version ∷ next ∷ versions) = newest (next ∷ versions)

abbrev pub versions_up_to : ℕ → List Version → List Version
versions_up_to at versions = filter (λ version. nat_le version.commit at) versions

-- there is a version, and it is no deletion
abbrev pub is_put : Option Version → Bool
is_put None = false
is_put (Some version) = is_some version.value

abbrev pub has_plain_value : Option Plain → Bool
has_plain_value None = false
has_plain_value (Some plain) = is_some plain.value

-- ---- conditions

abbrev pub is_locked_at : ℕ → Option Lock → Bool
is_locked_at start None = false
is_locked_at start (Some lock) = lock.start == start

abbrev pub is_plain_below : ℕ → Option Plain → Bool
is_plain_below seq None = true
is_plain_below seq (Some plain) = nat_lt plain.seq seq

abbrev pub are_below : ℕ → List Version → Bool
are_below commit versions = list_all (λ version. nat_lt version.commit commit) versions

abbrev pub cond_holds : Row → Cond → Bool
cond_holds row NoLock = not (is_some row.lock)
cond_holds row (LockIs start) = is_locked_at start row.lock
cond_holds row (NoVersionFrom commit) = are_below commit row.versions
cond_holds row (PlainBelow seq) = is_plain_below seq row.plain

abbrev pub conds_hold : Row → List Cond → Bool
conds_hold row conds = list_all (cond_holds row) conds

-- ---- updates

-- a version in its place: before the first that has a later commit
abbrev pub add_version : Version → List Version → List Version
add_version version [] = version ∷ []
add_version version (other ∷ versions) =
    if nat_le other.commit version.commit then other ∷ add_version version versions else version ∷ other ∷ versions

-- how many versions stand before the first that has a later commit
abbrev pub place_of : ℕ → List Version → ℕ
place_of commit [] = 0
place_of commit (version ∷ versions) = if nat_le version.commit commit then suc (place_of commit versions) else 0

abbrev pub updated : Row → Update → Row
updated row (SetLock lock) = record { lock = Some lock; versions = row.versions; plain = row.plain }
updated row DropLock = record { lock = None; versions = row.versions; plain = row.plain }
updated row (AddVersion version) = record { lock = row.lock; versions = add_version version row.versions; plain = row.plain }
updated row (SetPlain plain) = record { lock = row.lock; versions = row.versions; plain = Some plain }

-- updates in order
abbrev pub updated_all : Row → List Update → Row
updated_all row updates = fold updated row updates

-- ---- what walks look for

abbrev pub is_locked_up_to : ℕ → Option Lock → Bool
is_locked_up_to at None = false
is_locked_up_to at (Some lock) = nat_le lock.start at

-- a lock of this time or before, or a put that was the newest at this time, or a plain value
abbrev pub is_seen_at : ℕ → Row → Bool
is_seen_at at row = is_locked_up_to at row.lock || is_put (newest (versions_up_to at row.versions)) || has_plain_value row.plain

-- the newest version is a put, or there is a plain value
abbrev pub is_counted : Row → Bool
is_counted row = is_put (newest row.versions) || has_plain_value row.plain
