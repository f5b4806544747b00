-- What holds of the keys of all names.
use Rattle.std.specs.Prelude.{◌≡◌, Option, Some}
use Rattle.pcj_key.specs.Order.{bytes_cmp, parts_cmp}
use Rattle.pcj_encode.specs.declared.key_name.KeyName.{KeyName}
use Rattle.pcj_encode.specs.Name.{parts_of, key_of, IsName}
use Rattle.pcj_encode.specs.Read.{ReadsKey}
use Rattle.pcj_encode.specs.Tag.{kind_of}

-- no two valid names have one key
abbrev pub NamesOneRow : Type 0
NamesOneRow = (name other : KeyName) → IsName name → IsName other → key_of name ≡ key_of other → name ≡ other

-- the key of a valid name is read as that name
abbrev pub ReadsBack : Type 0
ReadsBack = (name : KeyName) (found : Option KeyName) → IsName name → ReadsKey (key_of name) found → found ≡ Some name

-- rows of two kinds have different keys
abbrev pub KindsAreApart : Type 0
KindsAreApart = (name other : KeyName) → key_of name ≡ key_of other → kind_of name ≡ kind_of other

-- keys compare as their lists of parts
abbrev pub KeepsOrder : Type 0
KeepsOrder = (name other : KeyName) → bytes_cmp (key_of name) (key_of other) ≡ parts_cmp (parts_of name) (parts_of other)
