-- What was read: which rows were found, and which have nothing.
use Rattle.std.specs.Prelude.{◌≡◌, ℕ, true, List, Some, None, IsSome}
use Rattle.std.specs.List.{Contains}
use Rattle.pcj_table.specs.Table.{Key}
use Rattle.pcj_encode.specs.declared.key_name.KeyName.{KeyName}
use Rattle.pcj_encode.specs.Name.{IsName, key_of}
use Rattle.pcj_moves.specs.declared.answer.Answer.{Answer}
use Rattle.pcj_moves.specs.Reads.{covers, finds}

-- the row of this name was read, and had this value
pub record HasRead (answers : List Answer) (name : KeyName) (value : List ℕ) : Type 0 where
  pub valid : IsName name
  pub answer : Answer
  pub held : Contains answers answer
  pub covered : covers answer (key_of name) ≡ true
  pub found : finds answer (key_of name) ≡ Some value

-- a row was read, and has a value
abbrev pub IsFoundIn : List Answer → Key → Type 0
IsFoundIn answers key = (answer : Answer) × Contains answers answer × (covers answer key ≡ true) × IsSome (finds answer key)

-- a row was read, and has none
abbrev pub IsMissedIn : List Answer → Key → Type 0
IsMissedIn answers key = (answer : Answer) × Contains answers answer × (covers answer key ≡ true) × (finds answer key ≡ None)
