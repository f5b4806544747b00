-- Names of rows whose numbers were granted: those of loads in blank nodes, and those of registrations.
use Rattle.std.specs.Prelude.{◌≡◌, ℕ, ◌<◌, ◌≤◌, List}
use Rattle.std.specs.List.{All}
use Rattle.pcj_term.specs.declared.term.Term.{Term}
use Rattle.pcj_term.specs.declared.term.Term.TheVariants.{Iri, Blank, Literal}
use Rattle.pcj_term.specs.declared.triple.Triple.{Triple}
use Rattle.pcj_term.specs.Term.{printed}
use Rattle.pcj_term.specs.Valid.{IsValid}
use Rattle.pcj_encode.specs.declared.task_name.TaskName.{TaskName}
use Rattle.pcj_encode.specs.declared.task_name.TaskName.TheVariants as task
use Rattle.pcj_encode.specs.declared.key_name.KeyName.{KeyName}
use Rattle.pcj_encode.specs.declared.key_name.KeyName.TheVariants as row

-- a timestamp below the next one
abbrev pub IsGranted : ℕ → ℕ → Type 0
IsGranted next number = (1 ≤ number) × (number < next)

-- the load of a blank node
abbrev pub IsTermGranted : ℕ → Term → Type 0
IsTermGranted next (Iri iri) = Unit {0}
IsTermGranted next (Blank load label) = IsGranted next load
IsTermGranted next (Literal text kind) = Unit {0}

pub record IsTripleGranted (next : ℕ) (triple : Triple) : Type 0 where
  pub subject : IsTermGranted next triple.subject
  pub predicate : IsTermGranted next triple.predicate
  pub object : IsTermGranted next triple.object

-- that of the term that a cell prints
abbrev pub IsCellGranted : ℕ → List ℕ → Type 0
IsCellGranted next cell = (term : Term) × IsValid term × (printed term ≡ cell) × IsTermGranted next term

abbrev pub IsTaskGranted : ℕ → TaskName → Type 0
IsTaskGranted next (task.Triple triple) = IsTripleGranted next triple
IsTaskGranted next (task.Backfill registration node) = IsGranted next registration
IsTaskGranted next (task.Row registration node cells) = IsGranted next registration × All (IsCellGranted next) cells
IsTaskGranted next (task.Export registration cells) = IsGranted next registration × All (IsCellGranted next) cells

abbrev pub IsNameGranted : ℕ → KeyName → Type 0
IsNameGranted next row.Clock = Unit {0}
IsNameGranted next (row.Triple order triple) = IsTripleGranted next triple
IsNameGranted next (row.Node registration node cells) = IsGranted next registration × All (IsCellGranted next) cells
IsNameGranted next (row.Group registration cells) = IsGranted next registration × All (IsCellGranted next) cells
IsNameGranted next (row.Member registration cells term) = IsGranted next registration × All (IsCellGranted next) cells × IsCellGranted next term
IsNameGranted next (row.Registration registration) = IsGranted next registration
IsNameGranted next (row.Name name) = Unit {0}
IsNameGranted next (row.Pattern registration node) = IsGranted next registration
IsNameGranted next (row.Task task) = IsTaskGranted next task
IsNameGranted next (row.Export registration cells) = IsGranted next registration × All (IsCellGranted next) cells
