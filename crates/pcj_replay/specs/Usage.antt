-- The words of the command line, and what is written where they are no command.
use Rattle.std.specs.Prelude.{◌≡◌, ◌⊎◌, ℕ, List, [], ◌∷◌, codes, Option}
use Rattle.pcj_io.specs.Sink.{Appends, AppendsPrefix}
use Rattle.pcj_lines.specs.Lines.{usage_line, ended}

-- the one command of the program that is carried out
abbrev pub IsReplay : List (List ℕ) → Type 0
IsReplay words = words ≡ codes "replay" ∷ []

abbrev pub usage : List ℕ
usage = ended usage_line

-- the usage line is written, or the write fails, or there is no memory, and then a part of it may be
abbrev pub ShowsUsage : Option (List ℕ) → Option (List ℕ) → ℕ → Type 0
ShowsUsage old new status = ((status ≡ 2) × Appends old new usage) ⊎ (((status ≡ 4) ⊎ (status ≡ 5)) × AppendsPrefix old new usage)
