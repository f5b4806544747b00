-- The ranges of keys that are walked over, and the rows that each is made for.
use Rattle.std.specs.Prelude.{◌≡◌, ◌↔◌, ℕ, List, [], ◌∷◌, ◌++◌, codes}
use Rattle.pcj_term.specs.declared.triple.Triple.{Triple}
use Rattle.pcj_key.specs.Key as parts
use Rattle.pcj_key.specs.Order.{IsBelow, BeginsWith, without_last, end_of}
use Rattle.pcj_encode.specs.declared.order.Order.TheVariants.{Spo}
use Rattle.pcj_encode.specs.declared.task_name.TaskName.{TaskName}
use Rattle.pcj_encode.specs.declared.key_name.KeyName.{KeyName}
use Rattle.pcj_encode.specs.declared.key_name.KeyName.TheVariants as row
use Rattle.pcj_encode.specs.declared.key_range.KeyRange.{KeyRange}
use Rattle.pcj_encode.specs.Name.{key_of, registration_part, node_part, IsName, IsRegistration, IsNode}

-- the rows that are walked over together
pub data RangeKind : Type 0 where
  nodes : ℕ → ℕ → List (List ℕ) → RangeKind
  exports : ℕ → RangeKind
  patterns : RangeKind
  tasks : RangeKind
  registrations : RangeKind
  triples : RangeKind
  groups : ℕ → RangeKind

-- Whether a name is of the kind. Rows of a node are those that begin with the given cells, and rows of triples those in
-- the order SPO.
abbrev pub IsOfKind : RangeKind → KeyName → Type 0
IsOfKind (nodes registration node cells) name = (more : List (List ℕ)) × (name ≡ row.Node registration node (cells ++ more))
IsOfKind (exports registration) name = (cells : List (List ℕ)) × (name ≡ row.Export registration cells)
IsOfKind patterns name = (registration : ℕ) × (node : ℕ) × (name ≡ row.Pattern registration node)
IsOfKind tasks name = (task : TaskName) × (name ≡ row.Task task)
IsOfKind registrations name = (registration : ℕ) × (name ≡ row.Registration registration)
IsOfKind triples name = (triple : Triple) × (name ≡ row.Triple Spo triple)
IsOfKind (groups registration) name = (cells : List (List ℕ)) × (name ≡ row.Group registration cells)

-- the parts that the keys of a kind begin with
abbrev pub front_of : RangeKind → List (List ℕ)
front_of (nodes registration node cells) = codes "r" ∷ registration_part registration ∷ node_part node ∷ cells
front_of (exports registration) = codes "x" ∷ registration_part registration ∷ []
front_of patterns = codes "t" ∷ []
front_of tasks = codes "n" ∷ []
front_of registrations = codes "q" ∷ []
front_of triples = codes "s" ∷ []
front_of (groups registration) = codes "g" ∷ registration_part registration ∷ []

-- the kind's numbers are in the ranges of their types
abbrev pub IsNumbered : RangeKind → Type 0
IsNumbered (nodes registration node cells) = IsRegistration registration × IsNode node
IsNumbered (exports registration) = IsRegistration registration
IsNumbered patterns = Unit {0}
IsNumbered tasks = Unit {0}
IsNumbered registrations = Unit {0}
IsNumbered triples = Unit {0}
IsNumbered (groups registration) = IsRegistration registration

-- the range of what begins with the key of some parts
abbrev pub range_from : List (List ℕ) → KeyRange
range_from front = record { after = without_last (parts.key_of front); end = end_of (parts.key_of front) }

abbrev pub range_of : RangeKind → KeyRange
range_of kind = range_from (front_of kind)

-- the bytes are above the one end of the range, and below the other
abbrev pub Holds : KeyRange → List ℕ → Type 0
Holds range bytes = IsBelow range.after bytes × IsBelow bytes range.end

-- Of the keys of all valid names, those of the kind's names are those in the range.
abbrev pub RangesHoldNames : Type 0
RangesHoldNames = (kind : RangeKind) (name : KeyName) → IsNumbered kind → IsName name → IsOfKind kind name ↔ Holds (range_of kind) (key_of name)

-- Of all lists of bytes, those that begin with the key of the kind's first parts are those in the range.
abbrev pub RangesHoldBytes : Type 0
RangesHoldBytes = (kind : RangeKind) (bytes : List ℕ) → BeginsWith (parts.key_of (front_of kind)) bytes ↔ Holds (range_of kind) bytes
