-- The rows of a registration: that of its name, its own, and one for each pattern in the tree of its query.
use Rattle.std.specs.Prelude.{◌≡◌, ℕ, List, [], ◌∷◌, Option, Some, None}
use Rattle.std.specs.Option.{option_map}
use Rattle.pcj_key.specs.Key as parts
use Rattle.pcj_encode.specs.declared.key_name.KeyName.TheVariants as row
use Rattle.pcj_encode.specs.Name.{IsNode, IsRegistration, key_of, registration_part}
use Rattle.pcj_algebra.specs.declared.query.Query.{Query}
use Rattle.pcj_tree.specs.declared.node.Node.{Node}
use Rattle.pcj_tree.specs.declared.node.NodeKind.{NodeKind}
use Rattle.pcj_tree.specs.declared.node.NodeKind.TheVariants as kind
use Rattle.pcj_tree.specs.declared.tree.Tree.{Tree}
use Rattle.pcj_tree.specs.Laws.{HasStorableTree}
use Rattle.pcj_tree.specs.Meaning.{numbered}
use Rattle.pcj_tree.specs.Stored.{slot_part, stored_tree}
use Rattle.pcj_tree.specs.Tree.{IsTree}
use Rattle.pcj_mvcc.specs.Reading.{Put, Rows, standing}

-- ---- values

-- the tree of a query, which can be stored
pub record IsQueryTree (tree : Tree) : Type 0 where
  pub query : Query
  pub storable : HasStorableTree query
  pub is : IsTree query tree

-- its name and its stored tree
abbrev pub registration_value : List ℕ → Tree → List ℕ
registration_value name tree = parts.key_of (name ∷ stored_tree tree ∷ [])

-- the slots of a node that is a pattern, then its order
abbrev pub pattern_value : NodeKind → List (List ℕ) → Option (List ℕ)
pattern_value (kind.Pattern of) order = Some (parts.key_of (slot_part of.subject ∷ slot_part of.predicate ∷ slot_part of.object ∷ order))
pattern_value _ order = None

abbrev pub value_of : Option Node → Option (List ℕ)
value_of None = None
value_of (Some node) = pattern_value node.kind node.order

-- of the node with this number, where it is a pattern
abbrev pub pattern_at : Tree → ℕ → Option (List ℕ)
pattern_at tree node = value_of (numbered tree.nodes node)

-- ---- what stands

-- All rows of a registration stand with one commit: that of its name, its own, one for each node that is a pattern, and
-- none for any other node.
pub record IsRegistered (rows : Rows) (registration : ℕ) (name : List ℕ) (tree : Tree) (commit : ℕ) : Type 0 where
  pub number : IsRegistration registration
  pub of_query : IsQueryTree tree
  pub named : standing rows (key_of (row.Name name)) ≡ Some (registration_part registration, commit)
  pub stands : standing rows (key_of (row.Registration registration)) ≡ Some (registration_value name tree, commit)
  pub patterns : (node : ℕ) → IsNode node → standing rows (key_of (row.Pattern registration node)) ≡ option_map (λ value. (value, commit)) (pattern_at tree node)

-- where one of them stands, all do
pub record RegistrationsStand (rows : Rows) : Type 0 where
  pub names : (name : List ℕ) (put : Put) → standing rows (key_of (row.Name name)) ≡ Some put → (registration : ℕ) × (tree : Tree) × IsRegistered rows registration name tree put.1
  pub registrations : (registration : ℕ) (put : Put) → IsRegistration registration → standing rows (key_of (row.Registration registration)) ≡ Some put →
      (name : List ℕ) × (tree : Tree) × IsRegistered rows registration name tree put.1
  pub patterns : (registration node : ℕ) (put : Put) → IsRegistration registration → IsNode node → standing rows (key_of (row.Pattern registration node)) ≡ Some put →
      (name : List ℕ) × (tree : Tree) × IsRegistered rows registration name tree put.1
