-- What a session keeps of queries, and how that changes.
use Rattle.std.specs.Prelude.{◌≡◌, ◌≢◌, ℕ, ◌==◌, List, [], ◌∷◌, Option, Some, None, cond}
use Rattle.std.specs.List.{AllByRecursion}
use Rattle.std.specs.Map.{lookup}
use Rattle.pcj_term.specs.Order.{same_bytes}
use Rattle.pcj_algebra.specs.declared.query.Query.{Query}
use Rattle.pcj_tree.specs.Tree.{IsTree}
use Rattle.pcj_rows.specs.Registrations.{IsQueryTree}
use Rattle.pcj_registrations.specs.declared.registration.Registration.{Registration}
use Rattle.pcj_session.specs.declared.registry.Opened.{Opened}

-- The registered queries by their names, what clients register, and for how many more queries there is room.
pub record Kept : Type 0 where
  pub queries : List (List ℕ × Query)
  pub opened : List (ℕ × Opened)
  pub room : ℕ

-- ---- registrations of a table

-- they have queries' trees, and names of their own
abbrev pub AreRegistrations : List Registration → Type 0
AreRegistrations [] = Unit {0}
AreRegistrations (registration ∷ registrations) =
    IsQueryTree registration.tree × AllByRecursion (λ (other : Registration). registration.name ≢ other.name) registrations × AreRegistrations registrations

-- a query for each of them, in order, whose tree it is
abbrev pub AreRebuilt : List Registration → List (List ℕ × Query) → Type 0
AreRebuilt [] [] = Unit {0}
AreRebuilt [] (entry ∷ entries) = ⊥
AreRebuilt (registration ∷ registrations) [] = ⊥
AreRebuilt (registration ∷ registrations) (entry ∷ entries) =
    (entry.0 ≡ registration.name) × IsTree entry.1 registration.tree × AreRebuilt registrations entries

-- ---- changes

-- what is open of a client is this, and of the others what it was
abbrev pub Opens : ℕ → Option Opened → List (ℕ × Opened) → List (ℕ × Opened) → Type 0
Opens client opened old new =
    (other : ℕ) → lookup (λ key. other == key) new ≡ cond (client == other) opened (lookup (λ key. other == key) old)

-- the query that was open has its name from now on, and the others have theirs
abbrev pub Names : Option Opened → List (List ℕ × Query) → List (List ℕ × Query) → Type 0
Names None old new = new ≡ old
Names (Some opened) old new =
    (name : List ℕ) → lookup (same_bytes name) new ≡ cond (same_bytes opened.name name) (Some opened.query) (lookup (same_bytes name) old)

-- What a client's commit leaves: what was open of it is kept under its name, and open no more. Without one all stays.
abbrev pub AreLeft : ℕ → Option ℕ → List (ℕ × Opened) → List (List ℕ × Query) → List (ℕ × Opened) → List (List ℕ × Query) → Type 0
AreLeft client None opened queries opened' queries' = (opened' ≡ opened) × (queries' ≡ queries)
AreLeft client (Some commit) opened queries opened' queries' = Opens client None opened opened' × Names (lookup (λ key. client == key) opened) queries queries'
