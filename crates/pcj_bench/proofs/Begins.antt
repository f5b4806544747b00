-- An oracle fits a table that has no row.
use Rattle.std.proofs.Common.{◌≡◌, Option, None, ap, sym, subst, arith}
use Rattle.std.specs.Option.{unwrap_or}
use Rattle.std.specs.FinMap.{empty, get-empty}
use Rattle.pcj_table.specs.declared.row.Row.{Row}
use Rattle.pcj_table.specs.Row.{no_row}
use Rattle.pcj_term.specs.Order.{bytes_cmp}
use Rattle.pcj_oracle.specs.Clock.{IsClock, IsClockAt, clock_key, clock_number, stored_number}

nothing_stored : stored_number empty ≡ 1
nothing_stored = ap (λ (row : Option Row). clock_number (unwrap_or row no_row).plain) (get-empty bytes_cmp clock_key)

pub nothing_fits : IsClock None empty
nothing_fits = subst (IsClockAt None) (sym nothing_stored) (record { first = omega arith; last = omega arith; attached = tt })
