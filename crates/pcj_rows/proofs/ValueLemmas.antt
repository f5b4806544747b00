-- The value of a registration's row is that of one name and one tree.
use Rattle.std.proofs.Common.{◌≡◌, ℕ, List, [], ◌∷◌, Option, Some, None, ap, sym, ◌∙◌}
use Rattle.pcj_key.proofs.Keys.{injective}
use Rattle.pcj_tree.proofs.StoredLaws.{can_be_stored, stores_one_tree}
use Rattle.pcj_tree.specs.declared.tree.Tree.{Tree}
use Rattle.pcj_tree.specs.Read.{IsStorable}
use Rattle.pcj_tree.specs.Stored.{stored_tree}
use Rattle.pcj_mvcc.specs.Reading.{Put}
use Rattle.pcj_rows.specs.Registrations.{IsQueryTree, registration_value}

pub storable : (tree : Tree) → IsQueryTree tree → IsStorable tree
storable tree is = can_be_stored is.query tree is.storable is.is

-- a value is that of one name and one tree
pub one_value : (name other : List ℕ) (tree its : Tree) → IsQueryTree tree → IsQueryTree its → registration_value name tree ≡ registration_value other its → (name ≡ other) × (tree ≡ its)
one_value name other tree its is is' e =
    let parts : name ∷ stored_tree tree ∷ [] ≡ other ∷ stored_tree its ∷ [] = injective (name ∷ stored_tree tree ∷ []) (other ∷ stored_tree its ∷ []) e in
    let stored : stored_tree tree ≡ stored_tree its = cc in
    ((cc), stores_one_tree tree its (storable tree is) (storable its is') stored)

pub one_put : (found : Option Put) (value other : List ℕ) (commit at : ℕ) → found ≡ Some (value, commit) → found ≡ Some (other, at) → value ≡ other
one_put found value other commit at e e' = ap value_or (sym e ∙ e')
  where
    value_or : Option Put → List ℕ
    value_or None = []
    value_or (Some put) = put.0

pub one_commit : (found : Option Put) (value other : List ℕ) (commit at : ℕ) → found ≡ Some (value, commit) → found ≡ Some (other, at) → commit ≡ at
one_commit found value other commit at e e' = ap commit_or (sym e ∙ e')
  where
    commit_or : Option Put → ℕ
    commit_or None = 0
    commit_or (Some put) = put.1
