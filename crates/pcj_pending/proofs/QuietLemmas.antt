-- Where nothing is pending.
use Rattle.std.proofs.Common.{◌≡◌, ◌⊎◌, inl, inr, Bool, true, false, cond, is_some, ◌&&◌, ◌||◌, List, [], ◌∷◌, filter, length, Option, Some, None, refl, ap, sym, subst, ◌∙◌, arith}
use Rattle.std.specs.List.{Contains}
use Rattle.std.specs.FinMap as finmap
use Rattle.std.proofs.lemmas.Bool.{or_parts}
use Rattle.pcj_term.proofs.ListLemmas.{nothing_in, first_or_later, first_there, later_there}
use Rattle.pcj_table.specs.declared.lock.Lock.{Lock}
use Rattle.pcj_table.specs.declared.row.Row.{Row}
use Rattle.pcj_table.specs.Row.{has_nothing, is_put, newest, no_row}
use Rattle.pcj_table.specs.Table.{Key, Table, row_at, rows_that}
use Rattle.pcj_table.proofs.EntryLemmas.{Entry, row_there, there_with_row}
use Rattle.pcj_table.proofs.RowLemmas.{no_row_is}
use Rattle.pcj_pending.specs.Pending.{IsQuiet, is_of_task, is_standing}
use Rattle.pcj_pending.specs.Laws.{HasNothingPending, QuietTablesHaveNothing}

none_filtered : (test : Entry → Bool) (es : List Entry) (entry : Entry) → length (filter test es) ≡ 0 → Contains es entry → test entry ≡ false
none_filtered test [] entry none there = absurd (nothing_in entry there)
none_filtered test (first ∷ es) entry none there = by (test first) refl none (λ left. none_filtered test es entry left) (first_or_later first es entry there)
  where
    by : (b : Bool) → test first ≡ b → length (cond b (first ∷ filter test es) (filter test es)) ≡ 0 → (length (filter test es) ≡ 0 → Contains es entry → test entry ≡ false) → (first ≡ entry) ⊎ Contains es entry → test entry ≡ false
    by true e none later either = absurd (omega (arith, none))
    by false e none later (inl here) = ap test (sym here) ∙ e
    by false e none later (inr there) = later none there

all_fail : (test : Entry → Bool) (es : List Entry) → ((entry : Entry) → Contains es entry → test entry ≡ false) → length (filter test es) ≡ 0
all_fail test [] each = refl
all_fail test (first ∷ es) each = ap (λ b. length (cond b (first ∷ filter test es) (filter test es))) (each first (first_there first es)) ∙ all_fail test es (λ entry there. each entry (later_there first es entry there))

-- a row is none of those of which there are none
none_of : (test : Entry → Bool) (table : Table) (key : Key) → rows_that test table ≡ 0 → test (key, no_row) ≡ false → test (key, row_at table key) ≡ false
none_of test table key none nothing = by (has_nothing (row_at table key)) refl
  where
    by : (b : Bool) → has_nothing (row_at table key) ≡ b → test (key, row_at table key) ≡ false
    by true e = ap (λ found. test (key, found)) (no_row_is (row_at table key) e) ∙ nothing
    by false e = none_filtered test (finmap.entries table) (key, row_at table key) none (there_with_row table key e)

no_lock : (lock : Option Lock) → is_some lock ≡ false → lock ≡ None
no_lock None e = refl
no_lock (Some lock) e = absurd cc

false_and : (b : Bool) → (b && false) ≡ false
false_and true = refl
false_and false = refl

of_both : (a b : Bool) → a ≡ true → (a && b) ≡ false → b ≡ false
of_both true b e none = none
of_both false b e none = absurd cc

where_it_is : (a b : Bool) → (a ≡ true → b ≡ false) → (a && b) ≡ false
where_it_is true b none = none refl
where_it_is false b none = refl

pub quiet_tables_have_nothing : QuietTablesHaveNothing
quiet_tables_have_nothing table = (to, from)
  where
    to : IsQuiet table → HasNothingPending (row_at table)
    to quiet = record {
      locks = λ key. no_lock (row_at table key).lock (none_of (λ entry. is_some entry.1.lock) table key quiet.locks refl);
      tasks = λ key within. (or_parts (is_some (row_at table key).lock) (is_put (newest (row_at table key).versions)) (of_both (is_of_task key) (is_standing (row_at table key)) within
          (none_of (λ entry. is_of_task entry.0 && is_standing entry.1) table key quiet.notifications (false_and (is_of_task key))))).1;
    }

    from : HasNothingPending (row_at table) → IsQuiet table
    from nothing = record {
      locks = all_fail (λ entry. is_some entry.1.lock) (finmap.entries table) (λ entry there. unlocked entry there);
      notifications = all_fail (λ entry. is_of_task entry.0 && is_standing entry.1) (finmap.entries table) (λ entry there. where_it_is (is_of_task entry.0) (is_standing entry.1) (λ within.
          ap (λ b. b || is_put (newest entry.1.versions)) (unlocked entry there) ∙ subst (λ (found : Row). is_put (newest found.versions) ≡ false) (row_there table entry there) (nothing.tasks entry.0 within)));
    }
      where
        unlocked : (entry : Entry) → Contains (finmap.entries table) entry → is_some entry.1.lock ≡ false
        unlocked entry there = ap is_some (ap (λ (found : Row). found.lock) (sym (row_there table entry there)) ∙ nothing.locks entry.0)
