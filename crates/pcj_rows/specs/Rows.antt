-- Each row decodes: its key is that of a name, and what it holds is what that name's row may hold.
use Rattle.std.specs.Prelude.{◌≡◌, ℕ, ◌<◌, false, List, [], Some, None, IfSome}
use Rattle.std.specs.List.{All}
use Rattle.pcj_table.specs.declared.lock.Lock.{Lock}
use Rattle.pcj_table.specs.declared.version.Version.{Version}
use Rattle.pcj_table.specs.declared.row.Row.{Row}
use Rattle.pcj_table.specs.Row.{has_nothing}
use Rattle.pcj_table.specs.Table.{Key}
use Rattle.pcj_encode.specs.declared.key_name.KeyName.{KeyName}
use Rattle.pcj_encode.specs.declared.key_name.KeyName.TheVariants as row
use Rattle.pcj_encode.specs.Name.{IsName, key_of}
use Rattle.pcj_mvcc.specs.Reading.{Rows}
use Rattle.pcj_rows.specs.Names.{IsGranted, IsNameGranted}
use Rattle.pcj_rows.specs.Values.{MayHold}

pub record IsLockOf (next : ℕ) (name : KeyName) (lock : Lock) : Type 0 where
  pub start : IsGranted next lock.start
  pub value : MayHold next name lock.value

pub record IsVersionOf (next : ℕ) (name : KeyName) (version : Version) : Type 0 where
  pub start : IsGranted next version.start
  pub commit : version.commit < next
  pub value : MayHold next name version.value

-- a row that transactions write
pub record HoldsVersions (next : ℕ) (name : KeyName) (row : Row) : Type 0 where
  pub lock : IfSome row.lock (IsLockOf next name)
  pub versions : All (IsVersionOf next name) row.versions
  pub plain : row.plain ≡ None

-- the clock's: a number beside an empty value
pub record IsClockRow (row : Row) : Type 0 where
  pub lock : row.lock ≡ None
  pub versions : row.versions ≡ []
  pub value : IfSome row.plain (λ plain. plain.value ≡ Some [])

-- an export's: a line, and the start of the worker that wrote it
pub record IsExportRow (next : ℕ) (row : Row) : Type 0 where
  pub lock : row.lock ≡ None
  pub versions : row.versions ≡ []
  pub line : IfSome row.plain (λ plain. IsGranted next plain.seq × (line : List ℕ) × (plain.value ≡ Some line))

abbrev pub IsRowOf : ℕ → KeyName → Row → Type 0
IsRowOf next row.Clock found = IsClockRow found
IsRowOf next (row.Export registration cells) found = IsExportRow next found
IsRowOf next (row.Triple order triple) found = HoldsVersions next (row.Triple order triple) found
IsRowOf next (row.Node registration node cells) found = HoldsVersions next (row.Node registration node cells) found
IsRowOf next (row.Group registration cells) found = HoldsVersions next (row.Group registration cells) found
IsRowOf next (row.Member registration cells term) found = HoldsVersions next (row.Member registration cells term) found
IsRowOf next (row.Registration registration) found = HoldsVersions next (row.Registration registration) found
IsRowOf next (row.Name name) found = HoldsVersions next (row.Name name) found
IsRowOf next (row.Pattern registration node) found = HoldsVersions next (row.Pattern registration node) found
IsRowOf next (row.Task task) found = HoldsVersions next (row.Task task) found

-- the name of a row whose key this is, and what the row holds
pub record IsDecoded (next : ℕ) (key : Key) (row : Row) : Type 0 where
  pub name : KeyName
  pub valid : IsName name
  pub granted : IsNameGranted next name
  pub is : key ≡ key_of name
  pub holds : IsRowOf next name row

abbrev pub Decodes : ℕ → Rows → Type 0
Decodes next rows = (key : Key) → has_nothing (rows key) ≡ false → IsDecoded next key (rows key)
