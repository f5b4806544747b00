-- The keys of rows: for each name of a row its parts, whose key it is.
use Rattle.std.specs.Prelude.{◌≡◌, ◌≢◌, ℕ, ◌<◌, ◌^◌, List, [], ◌∷◌, ◌++◌, codes}
use Rattle.std.specs.Int.{w16, w64, to_be_bytes}
use Rattle.std.specs.List.{All}
use Rattle.pcj_term.specs.declared.term.Term.{Term}
use Rattle.pcj_term.specs.declared.triple.Triple.{Triple}
use Rattle.pcj_term.specs.Term.{printed}
use Rattle.pcj_term.specs.Valid.{IsValid}
use Rattle.pcj_key.specs.Key as parts
use Rattle.pcj_encode.specs.declared.order.Order.{Order}
use Rattle.pcj_encode.specs.declared.order.Order.TheVariants.{Spo, Pos, Osp}
use Rattle.pcj_encode.specs.declared.task_name.TaskName.{TaskName}
use Rattle.pcj_encode.specs.declared.task_name.TaskName.TheVariants as task
use Rattle.pcj_encode.specs.declared.key_name.KeyName.{KeyName}
use Rattle.pcj_encode.specs.declared.key_name.KeyName.TheVariants as row

-- a registration's number: 8 bytes, the highest first
abbrev pub registration_part : ℕ → List ℕ
registration_part registration = to_be_bytes w64 registration

-- a node's number: 2 bytes, the highest first
abbrev pub node_part : ℕ → List ℕ
node_part node = to_be_bytes w16 node

-- the parts of a triple's row: the letter of its order, and the printed terms in that order
abbrev pub triple_parts : Order → Triple → List (List ℕ)
triple_parts Spo t = codes "s" ∷ printed t.subject ∷ printed t.predicate ∷ printed t.object ∷ []
triple_parts Pos t = codes "p" ∷ printed t.predicate ∷ printed t.object ∷ printed t.subject ∷ []
triple_parts Osp t = codes "o" ∷ printed t.object ∷ printed t.subject ∷ printed t.predicate ∷ []

-- the parts of a task's row, after the letter of tasks
abbrev pub task_parts : TaskName → List (List ℕ)
task_parts (task.Triple t) = codes "t" ∷ printed t.subject ∷ printed t.predicate ∷ printed t.object ∷ []
task_parts (task.Backfill registration node) = codes "b" ∷ registration_part registration ∷ node_part node ∷ []
task_parts (task.Row registration node cells) = codes "r" ∷ registration_part registration ∷ node_part node ∷ cells
task_parts (task.Export registration cells) = codes "e" ∷ registration_part registration ∷ cells

-- the parts of each row
abbrev pub parts_of : KeyName → List (List ℕ)
parts_of row.Clock = codes "z" ∷ []
parts_of (row.Triple order triple) = triple_parts order triple
parts_of (row.Node registration node cells) = codes "r" ∷ registration_part registration ∷ node_part node ∷ cells
parts_of (row.Group registration cells) = codes "g" ∷ registration_part registration ∷ cells
parts_of (row.Member registration cells term) = codes "m" ∷ registration_part registration ∷ (cells ++ term ∷ [])
parts_of (row.Registration registration) = codes "q" ∷ registration_part registration ∷ []
parts_of (row.Name name) = codes "a" ∷ name ∷ []
parts_of (row.Pattern registration node) = codes "t" ∷ registration_part registration ∷ node_part node ∷ []
parts_of (row.Task task) = codes "n" ∷ task_parts task
parts_of (row.Export registration cells) = codes "x" ∷ registration_part registration ∷ cells

-- the key of a row
abbrev pub key_of : KeyName → List ℕ
key_of name = parts.key_of (parts_of name)

-- what may stand in a cell: the printed form of a valid term
abbrev pub IsCell : List ℕ → Type 0
IsCell cell = (term : Term) × IsValid term × (printed term ≡ cell)

abbrev pub IsRegistration : ℕ → Type 0
IsRegistration registration = registration < 2 ^ 64

abbrev pub IsNode : ℕ → Type 0
IsNode node = node < 2 ^ 16

abbrev pub IsTriple : Triple → Type 0
IsTriple t = IsValid t.subject × IsValid t.predicate × IsValid t.object

abbrev pub IsTask : TaskName → Type 0
IsTask (task.Triple triple) = IsTriple triple
IsTask (task.Backfill registration node) = IsRegistration registration × IsNode node
IsTask (task.Row registration node cells) = IsRegistration registration × IsNode node × All IsCell cells
IsTask (task.Export registration cells) = IsRegistration registration × All IsCell cells

-- the names of rows: their terms are valid, their numbers are in the ranges of their types, and a group has a cell
abbrev pub IsName : KeyName → Type 0
IsName row.Clock = Unit {0}
IsName (row.Triple order triple) = IsTriple triple
IsName (row.Node registration node cells) = IsRegistration registration × IsNode node × All IsCell cells
IsName (row.Group registration cells) = IsRegistration registration × All IsCell cells × (cells ≢ [])
IsName (row.Member registration cells term) = IsRegistration registration × All IsCell cells × IsCell term
IsName (row.Registration registration) = IsRegistration registration
IsName (row.Name name) = Unit {0}
IsName (row.Pattern registration node) = IsRegistration registration × IsNode node
IsName (row.Task task) = IsTask task
IsName (row.Export registration cells) = IsRegistration registration × All IsCell cells
