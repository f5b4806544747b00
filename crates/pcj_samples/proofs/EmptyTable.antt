-- A table without rows is fresh.
use Rattle.std.proofs.Common.{◌≡◌, ◌≤◌, ◌^◌, ℕ, Option, refl, ap, sym, subst, arith}
use Rattle.std.specs.Option.{unwrap_or}
use Rattle.std.specs.FinMap.{empty, get-empty}
use Rattle.pcj_term.specs.Order.{bytes_cmp}
use Rattle.pcj_table.specs.declared.row.Row.{Row}
use Rattle.pcj_table.specs.Row.{no_row}
use Rattle.pcj_table.specs.Table.{Key, row_at}
use Rattle.pcj_oracle.specs.Clock.{clock_key, clock_number, stored_number}
use Rattle.pcj_rows.specs.Rows.{IsClockRow}
use Rattle.pcj_samples.specs.Fresh.{IsFresh}

nothing_at : (key : Key) → row_at empty key ≡ no_row
nothing_at key = ap (λ (row : Option Row). unwrap_or row no_row) (get-empty bytes_cmp key)

nothing_stored : stored_number empty ≡ 1
nothing_stored = ap (λ (row : Row). clock_number row.plain) (nothing_at clock_key)

pub nothing_fresh : IsFresh empty
nothing_fresh = record {
  alone = record {
    clock = subst IsClockRow (sym (nothing_at clock_key)) (record { lock = refl; versions = refl; value = tt });
    others = λ key differs. nothing_at key;
  };
  first = subst (λ (n : ℕ). 1 ≤ n) (sym nothing_stored) (omega arith);
  last = subst (λ (n : ℕ). n ≤ 2 ^ 48) (sym nothing_stored) (omega arith);
}
