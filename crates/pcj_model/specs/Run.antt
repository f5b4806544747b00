-- Commands, one after another, and what they answer.
use Rattle.std.specs.Prelude.{◌≡◌, ◌⊎◌, ℕ, ◌≤◌, List, [], ◌∷◌, Some}
use Rattle.std.specs.List.{flat_map}
use Rattle.pcj_script.specs.Commands.{Command}
use Rattle.pcj_script.specs.Commands.Command.{StepClient}
use Rattle.pcj_model.specs.Job.{Job, MayCommit, grown}
use Rattle.pcj_model.specs.Line.{Line}
use Rattle.pcj_model.specs.Line.Event.{Committed}
use Rattle.pcj_model.specs.Line.Line.{Client}
use Rattle.pcj_model.specs.State.{State, stepped}
use Rattle.pcj_model.specs.Reply.{Language, Reply}

-- each command in turn, with its lines
abbrev pub Run : Language → State → List Command → List (List Line) → State → Type 0
Run language old [] [] new = new ≡ old
Run language old [] (lines ∷ transcript) new = ⊥
Run language old (command ∷ commands) [] new = ⊥
Run language old (command ∷ commands) (lines ∷ transcript) new =
    (mid : State) × Reply language old command lines mid × Run language mid commands transcript new

-- all lines of a transcript, one after another
abbrev pub all_lines : List (List Line) → List Line
all_lines transcript = flat_map (λ lines. lines) transcript

-- ---- a command that is cut

-- the job of a client was committed, which is told, and no more is
pub record CutsSteps (old : State) (command : Command) (lines : List Line) (new : State) : Type 0 where
  pub client : ℕ
  pub most : ℕ
  pub is : command ≡ StepClient client most
  pub job : Job
  pub has : old.jobs client ≡ Some job
  pub commit : ℕ
  pub commits : MayCommit old.queries job (Some commit)
  pub count : ℕ
  pub tried : 1 ≤ count
  pub counted : count ≤ most
  pub told : lines ≡ Client client (Committed commit) ∷ []
  pub left : new ≡ stepped old client job (Some commit) (Some (grown job (Some commit) count)) count

-- a command that is cut has told nothing, and nothing joined; or else a job was committed
abbrev pub Cut : State → Command → List Line → State → Type 0
Cut old command lines new = ((lines ≡ []) × (new ≡ old)) ⊎ CutsSteps old command lines new
