-- What the rows of registrations say, one by one.
use Rattle.std.specs.Prelude.{◌≡◌, ◌^◌, ℕ, Bool, true, false, List, [], ◌∷◌, ◌++◌, Option, Some, None, is_some}
use Rattle.pcj_table.specs.declared.lock.Lock.{Lock}
use Rattle.pcj_table.specs.declared.version.Version.{Version}
use Rattle.pcj_table.specs.declared.row.Row.{Row}
use Rattle.pcj_table.specs.Row.{newest, versions_up_to}
use Rattle.pcj_table.specs.Table.{Key}
use Rattle.pcj_encode.specs.declared.key_name.KeyName.TheVariants as row
use Rattle.pcj_encode.specs.Name.{IsRegistration, key_of}
use Rattle.pcj_tree.specs.declared.tree.Tree.{Tree}
use Rattle.pcj_tree.specs.Read.{IsStorable}
use Rattle.pcj_tree.specs.Stored.{stored_tree}
use Rattle.pcj_mvcc.specs.Reading.{Rows, committed}
use Rattle.pcj_rows.specs.Registrations.{registration_value}
use Rattle.pcj_registrations.specs.declared.registration.Registration.{Registration}

-- ---- the value of a row

-- the commit of the transaction that a lock is of
abbrev pub lock_commit : Rows → Option Lock → Option ℕ
lock_commit rows None = None
lock_commit rows (Some lock) = committed rows lock.primary lock.start

abbrev pub lock_value : Option Lock → Option (List ℕ)
lock_value None = None
lock_value (Some lock) = lock.value

abbrev pub version_value : Option Version → Option (List ℕ)
version_value None = None
version_value (Some version) = version.value

-- that of its lock, where the lock's transaction is committed, and else that of its newest version
abbrev pub value_by : Row → Bool → Option (List ℕ)
value_by row true = lock_value row.lock
value_by row false = version_value (newest (versions_up_to (2 ^ 48) row.versions))

-- ---- the registration of a key and a value

abbrev pub ReadsNumber : Key → Option ℕ → Type 0
ReadsNumber key (Some number) = IsRegistration number × (key ≡ key_of (row.Registration number))
ReadsNumber key None = (number : ℕ) → IsRegistration number → key ≡ key_of (row.Registration number) → ⊥

abbrev pub ReadsParts : ℕ → List (List ℕ) → Option Registration → Type 0
ReadsParts number parts (Some found) = (found.number ≡ number) × IsStorable found.tree × (parts ≡ found.name ∷ stored_tree found.tree ∷ [])
ReadsParts number parts None = (name : List ℕ) (tree : Tree) → IsStorable tree → parts ≡ name ∷ stored_tree tree ∷ [] → ⊥

abbrev pub ReadsValue : ℕ → List ℕ → Option Registration → Type 0
ReadsValue number value (Some found) = (found.number ≡ number) × IsStorable found.tree × (value ≡ registration_value found.name found.tree)
ReadsValue number value None = (name : List ℕ) (tree : Tree) → IsStorable tree → value ≡ registration_value name tree → ⊥

-- the key and the value are those of a registration
pub record IsStored (key : Key) (value : List ℕ) (number : ℕ) (name : List ℕ) (tree : Tree) : Type 0 where
  pub number_fits : IsRegistration number
  pub storable : IsStorable tree
  pub is_key : key ≡ key_of (row.Registration number)
  pub is_value : value ≡ registration_value name tree

abbrev pub ReadsRow : Key → List ℕ → Option Registration → Type 0
ReadsRow key value (Some found) = IsStored key value found.number found.name found.tree
ReadsRow key value None = (number : ℕ) (name : List ℕ) (tree : Tree) → IsStored key value number name tree → ⊥

-- ---- what is added

abbrev pub with_one : List Registration → Option Registration → List Registration
with_one old None = old
with_one old (Some found) = old ++ found ∷ []

-- the registration that the key and the value say, if they say one
abbrev pub AddsRead : Key → List ℕ → List Registration → List Registration → Type 0
AddsRead key value old new = (found : Option Registration) × ReadsRow key value found × (new ≡ with_one old found)

abbrev pub AddsValue : Key → Option (List ℕ) → List Registration → List Registration → Type 0
AddsValue key None old new = new ≡ old
AddsValue key (Some value) old new = AddsRead key value old new

-- the registration that stands in a row, if one does
abbrev pub AddsMet : Rows → Key → Row → List Registration → List Registration → Type 0
AddsMet rows key held old new = AddsValue key (value_by held (is_some (lock_commit rows held.lock))) old new
