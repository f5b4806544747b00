-- What becomes of one line.
use Rattle.std.specs.Prelude.{◌≡◌, ℕ, List, Err}
use Rattle.pcj_ntriples.specs.declared.error.NtRefusal.{NtRefusal}
use Rattle.pcj_ntriples.specs.declared.error.NtRefusal.TheVariants.{Refused, Memory}
use Rattle.pcj_ntriples.specs.LineReading.{said_at}

abbrev pub RefusesLine : ℕ → ℕ → List ℕ → NtRefusal → Type 0
RefusesLine load number line (Refused error) = (error.line ≡ number) × (said_at load line ≡ Err error.kind)
RefusesLine load number line Memory = Unit {0}
