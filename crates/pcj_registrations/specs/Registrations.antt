-- Registrations as the code has them, and as a table does.
use Rattle.std.specs.Prelude.{ℕ, ◌^◌, List, map}
use Rattle.pcj_table.specs.Table.{Table, is_next_at, rows_that}
use Rattle.pcj_encode.specs.Range as kind
use Rattle.pcj_encode.specs.Range.{range_of}
use Rattle.pcj_fit.specs.Queries as fit
use Rattle.pcj_registrations.specs.declared.registration.Registration.{Registration}

abbrev pub registration_of : Registration → fit.Registration
registration_of registration = record { name = registration.name; number = registration.number; tree = registration.tree }

abbrev pub list_of : List Registration → List fit.Registration
list_of registrations = map registration_of registrations

-- the rows of registrations that a walk at the end of time sees: those that have a lock, or whose newest version is a put
abbrev pub rows_met : Table → ℕ
rows_met table = rows_that (is_next_at (range_of kind.registrations).after (range_of kind.registrations).end (2 ^ 48)) table
