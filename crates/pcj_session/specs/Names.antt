-- The queries that a session keeps by their names, and those that clients register.
use Rattle.std.specs.Prelude.{◌≡◌, ℕ, ◌==◌, false, List, Option, Some, None}
use Rattle.std.specs.Map.{lookup}
use Rattle.pcj_term.specs.Order.{same_bytes}
use Rattle.pcj_algebra.specs.declared.query.Query.{Query}
use Rattle.pcj_tree.specs.declared.tree.Tree.{Tree}
use Rattle.pcj_tree.specs.Tree.{IsTree}
use Rattle.pcj_model.specs.Job.{Content, Job}
use Rattle.pcj_model.specs.Job.Content.{Load, Registration as Registers}
use Rattle.pcj_model.specs.Queries.{Registration, named}
use Rattle.pcj_session.specs.declared.registry.Opened.{Opened}

-- ---- registered queries

-- two queries that are stored alike: they differ in the name behind AS at most, which no line has
abbrev pub HaveOneTree : Query → Query → Type 0
HaveOneTree query other = (tree : Tree) × IsTree query tree × IsTree other tree

-- what is kept under a name, and the registration of that name: neither is there, or both are stored alike
abbrev pub IsKeptAs : Option Query → Option Registration → Type 0
IsKeptAs None None = Unit {0}
IsKeptAs None (Some registration) = ⊥
IsKeptAs (Some query) None = ⊥
IsKeptAs (Some query) (Some registration) = HaveOneTree query registration.query

-- the queries that are kept by their names are those that are registered
abbrev pub AreKept : List (List ℕ × Query) → List Registration → Type 0
AreKept kept queries = (name : List ℕ) → IsKeptAs (lookup (same_bytes name) kept) (named name queries)

-- ---- queries that clients register

-- what a job registers is open until it is committed, and of a load nothing is
abbrev pub IsOpenFor : Content → Job → Option Opened → Type 0
IsOpenFor (Load triples) job opened = opened ≡ None
IsOpenFor (Registers name query) job opened = job.is_committed ≡ false → opened ≡ Some (record { name = name; query = query })

-- of a client that has no job anything may be left
abbrev pub IsOpenOf : Option Job → Option Opened → Type 0
IsOpenOf None opened = Unit {0}
IsOpenOf (Some job) opened = IsOpenFor job.content job opened

abbrev pub AreOpen : List (ℕ × Opened) → (ℕ → Option Job) → Type 0
AreOpen opened jobs = (client : ℕ) → IsOpenOf (jobs client) (lookup (λ key. client == key) opened)
