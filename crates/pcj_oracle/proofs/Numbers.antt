-- The stored number of a table.
use Rattle.std.proofs.Common.{◌≡◌, ◌≢◌, ℕ, ◌<◌, ◌==◌, arith, Bool, true, false, cond, List, [], ◌∷◌, Option, Some, None, refl, ap, ◌∙◌}
use Rattle.std.specs.FinMap as finmap
use Rattle.std.specs.FinMap.{get-insert, nat_cmp-IsAntisymmetric, slice_cmp-IsAntisymmetric}
use Rattle.std.specs.Cmp.Lexicographic.{slice_cmp}
use Rattle.std.specs.declared.cmp.Ordering.{Ordering}
use Rattle.std.specs.declared.cmp.Ordering.TheVariants.{Less, Equal, Greater}
use Rattle.std.proofs.lemmas.Bool.{eqb-true}
use Rattle.pcj_table.specs.declared.update.Update.TheVariants.{SetPlain}
use Rattle.pcj_oracle.specs.Draw.{table_after}
use Rattle.std.specs.Cmp.{tied_itself}
use Rattle.std.specs.Option.{unwrap_or}
use Rattle.std.specs.Ordering.{nat_cmp, is_eq, eq_by_cmp}
use Rattle.std.proofs.lemmas.Cmp.{nat_list_cmp_total}
use Rattle.pcj_table.specs.declared.row.Row.{Row}
use Rattle.pcj_table.specs.declared.lock.Lock.{Lock}
use Rattle.pcj_table.specs.declared.version.Version.{Version}
use Rattle.pcj_table.specs.declared.plain.Plain.{Plain}
use Rattle.pcj_table.specs.Row.{no_row, has_nothing, updated}
use Rattle.pcj_table.specs.Table.{Key, Table, row_at, with_row, shown}
use Rattle.pcj_oracle.specs.Clock.{clock_key, clock_number, stored_number, with_number, limit_after}

-- a row that is shown is the key's
pub row_shown : (held row : Row) → shown held ≡ Some row → row ≡ held
row_shown held row is = by (has_nothing held) is
  where
    by : (b : Bool) → cond b None (Some held) ≡ Some row → row ≡ held
    by true e = absurd cc
    by false e = cc

pub row_of_with : (table : Table) (key : Key) (row : Row) → has_nothing row ≡ false → row_at (with_row table key row) key ≡ row
unfolding with_row
row_of_with table key row some = rw some (ap (λ o. unwrap_or o no_row)
    (get-insert nat_list_cmp_total table key row key ∙ ap (λ r. cond (is_eq r) (Some row) (finmap.get table key)) (tied_itself nat_list_cmp_total key)))

no_part : (lock : Option Lock) (versions : List Version) (plain : Plain) → has_nothing (record { lock = lock; versions = versions; plain = Some plain }) ≡ false
no_part None [] plain = refl
no_part None (version ∷ versions) plain = refl
no_part (Some lock) versions plain = refl

pub number_of_with : (table : Table) (number : ℕ) → stored_number (with_number table number) ≡ number
number_of_with table number = ap (λ (row : Row). clock_number row.plain) (row_of_with table clock_key _ (no_part (row_at table clock_key).lock (row_at table clock_key).versions (record { seq = number; value = Some [] })))

equal_is : (r : Ordering) → is_eq r ≡ true → r ≡ Equal
equal_is Less e = absurd cc
equal_is Equal e = refl
equal_is Greater e = absurd cc

other_row_of_with : (table : Table) (key : Key) (row : Row) (other : Key) → other ≢ key → has_nothing row ≡ false → row_at (with_row table key row) other ≡ row_at table other
unfolding with_row
other_row_of_with table key row other differs some = rw some (ap (λ o. unwrap_or o no_row) (get-insert nat_list_cmp_total table key row other ∙ by (eq_by_cmp (slice_cmp nat_cmp) other key) refl))
  where
    by : (b : Bool) → eq_by_cmp (slice_cmp nat_cmp) other key ≡ b → cond b (Some row) (finmap.get table other) ≡ finmap.get table other
    by true e = absurd (differs (slice_cmp-IsAntisymmetric nat_cmp-IsAntisymmetric other key (equal_is _ e)))
    by false e = refl

pub other_rows_stay : (table : Table) (number : ℕ) (key : Key) → key ≢ clock_key → row_at (table_after table number) key ≡ row_at table key
other_rows_stay table number key differs = by (number == stored_number table)
  where
    by : (b : Bool) → row_at (cond b (with_number table (limit_after (stored_number table))) table) key ≡ row_at table key
    by true = other_row_of_with table clock_key _ key differs (no_part (row_at table clock_key).lock (row_at table clock_key).versions (record { seq = limit_after (stored_number table); value = Some [] }))
    by false = refl

pub clock_keeps_the_rest : (table : Table) (number : ℕ) →
    ((row_at (table_after table number) clock_key).lock ≡ (row_at table clock_key).lock)
    × ((row_at (table_after table number) clock_key).versions ≡ (row_at table clock_key).versions)
clock_keeps_the_rest table number = by (number == stored_number table)
  where
    row : (n : ℕ) → row_at (with_number table n) clock_key ≡ updated (row_at table clock_key) (SetPlain (record { seq = n; value = Some [] }))
    row n = row_of_with table clock_key _ (no_part (row_at table clock_key).lock (row_at table clock_key).versions (record { seq = n; value = Some [] }))

    by : (b : Bool) → ((row_at (cond b (with_number table (limit_after (stored_number table))) table) clock_key).lock ≡ (row_at table clock_key).lock)
        × ((row_at (cond b (with_number table (limit_after (stored_number table))) table) clock_key).versions ≡ (row_at table clock_key).versions)
    by true = (ap (λ (r : Row). r.lock) (row (limit_after (stored_number table))), ap (λ (r : Row). r.versions) (row (limit_after (stored_number table))))
    by false = (refl, refl)

-- a number below the stored one was taken before
pub stored_stays : (table : Table) (number : ℕ) → number < stored_number table → stored_number (table_after table number) ≡ stored_number table
stored_stays table number below = by (number == stored_number table) refl
  where
    by : (b : Bool) → (number == stored_number table) ≡ b → stored_number (cond b (with_number table (limit_after (stored_number table))) table) ≡ stored_number table
    by true e = let same = eqb-true number (stored_number table) e in absurd (omega (arith, same, below))
    by false e = refl
