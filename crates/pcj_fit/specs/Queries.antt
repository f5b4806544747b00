-- The registered queries of a table: those of the registrations that stand.
use Rattle.std.specs.Prelude.{◌≡◌, ◌↔◌, ◌<◌, ℕ, nat_lt, if◌then◌else◌, List, [], ◌∷◌, Some}
use Rattle.std.specs.List.{All, Contains}
use Rattle.pcj_encode.specs.declared.key_name.KeyName.TheVariants as row
use Rattle.pcj_encode.specs.Name.{IsRegistration, key_of}
use Rattle.pcj_tree.specs.declared.tree.Tree.{Tree}
use Rattle.pcj_mvcc.specs.Reading.{Rows, standing}
use Rattle.pcj_rows.specs.Registrations.{IsQueryTree, registration_value}

-- the name of a query, the number of its registration, and its tree
pub record Registration : Type 0 where
  pub name : List ℕ
  pub number : ℕ
  pub tree : Tree

pub record IsValidRegistration (registration : Registration) : Type 0 where
  pub number : IsRegistration registration.number
  pub of_query : IsQueryTree registration.tree

abbrev pub StandsAs : Rows → Registration → Type 0
StandsAs rows registration = (commit : ℕ) × (standing rows (key_of (row.Registration registration.number)) ≡ Some (registration_value registration.name registration.tree, commit))

-- in ascending order of their numbers
abbrev pub Ascend : List Registration → Type 0
Ascend [] = Unit {0}
Ascend (registration ∷ registrations) = All (λ (later : Registration). registration.number < later.number) registrations × Ascend registrations

-- one more, at its place by number
abbrev pub added : Registration → List Registration → List Registration
added registration [] = registration ∷ []
added registration (first ∷ registrations) =
    if nat_lt registration.number first.number then registration ∷ first ∷ registrations else first ∷ added registration registrations

-- a table has these registrations and no others
pub record HasQueries (rows : Rows) (registrations : List Registration) : Type 0 where
  pub valid : All IsValidRegistration registrations
  pub ascend : Ascend registrations
  pub each : (registration : Registration) → IsValidRegistration registration → Contains registrations registration ↔ StandsAs rows registration
