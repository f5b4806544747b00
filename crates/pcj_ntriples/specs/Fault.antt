-- What a part of a line gives, beside what reading from left to right gives.
use Rattle.std.specs.Prelude.{◌≡◌, Result, Err}
use Rattle.pcj_ntriples.specs.declared.kind.NtKind.{NtKind}
use Rattle.pcj_ntriples.specs.declared.fault.Fault.{Fault}
use Rattle.pcj_ntriples.specs.declared.fault.Fault.TheVariants.{Wrong, Memory}

-- the fault is what reading gives, unless memory ran out
abbrev pub IsFault : {A : Type 0} → Fault → Result A NtKind → Type 0
IsFault (Wrong kind) found = found ≡ Err kind
IsFault Memory found = Unit {0}
