-- The summary of rows, a row at a time.
use Rattle.std.proofs.Common.{◌≡◌, ◌≤◌, ◌+◌, ℕ, zero, suc, max, Bool, true, false, List, [], ◌∷◌, filter, length, is_some, refl, sym, ap, ◌∙◌, arith}
use Rattle.std.specs.List.{insert}
use Rattle.pcj_table.specs.declared.found.Found.{Found}
use Rattle.pcj_table.specs.declared.row.Row.{Row}
use Rattle.pcj_table.specs.Row.{is_counted}
use Rattle.pcj_pages.specs.declared.summary.Summary.{Summary}
use Rattle.pcj_pages.specs.Summary.{last_commit, last_commit_in, live_in, locks_in, summary_of}
use Rattle.pcj_pages.specs.Adding.{one_if, row_summary, summed}

pub same_summary : (a b : Summary) → a.live ≡ b.live → a.locks ≡ b.locks → a.newest ≡ b.newest → a ≡ b
same_summary a b e f g =
    ap (λ n. record { live = n; locks = a.locks; newest = a.newest }) e
    ∙ ap (λ n. record { live = b.live; locks = n; newest = a.newest }) f
    ∙ ap (λ n. record { live = b.live; locks = b.locks; newest = n }) g

first_counts : (test : Row → Bool) (found : Found) (rows : List Found) → length (filter (λ f. test f.row) (found ∷ rows)) ≡ one_if (test found.row) + length (filter (λ f. test f.row) rows)
first_counts test found rows = by (test found.row) refl
  where
    by : (b : Bool) → test found.row ≡ b → length (filter (λ f. test f.row) (found ∷ rows)) ≡ one_if b + length (filter (λ f. test f.row) rows)
    by true e = rw e (omega arith)
    by false e = rw e (omega arith)

pub live_first : (found : Found) (rows : List Found) → live_in (found ∷ rows) ≡ one_if (is_counted found.row) + live_in rows
live_first found rows = first_counts is_counted found rows

pub locks_first : (found : Found) (rows : List Found) → locks_in (found ∷ rows) ≡ one_if (is_some found.row.lock) + locks_in rows
locks_first found rows = first_counts (λ row. is_some row.lock) found rows

pub one_at_most : (b : Bool) → one_if b ≤ 1
one_at_most true = omega arith
one_at_most false = omega arith

pub live_few : (rows : List Found) → live_in rows ≤ length rows
live_few [] = omega arith
live_few (found ∷ rows) =
    let first = live_first found rows in
    let one = one_at_most (is_counted found.row) in
    let rest = live_few rows in
    omega (arith, first, one, rest)

pub locks_few : (rows : List Found) → locks_in rows ≤ length rows
locks_few [] = omega arith
locks_few (found ∷ rows) =
    let first = locks_first found rows in
    let one = one_at_most (is_some found.row.lock) in
    let rest = locks_few rows in
    omega (arith, first, one, rest)

-- one more row is looked at
pub sum_goes_on : (so_far : Summary) (found : Found) (rows : List Found) → summed (summed so_far (row_summary found.row)) (summary_of rows) ≡ summed so_far (summary_of (found ∷ rows))
sum_goes_on so_far found rows =
    let live = live_first found rows in
    let locks = locks_first found rows in
    same_summary _ _ (omega (arith, live)) (omega (arith, locks)) (omega arith)

-- ---- a row is put in, taken away or replaced

pub live_inserted : (rows : List Found) (at : ℕ) (new : Found) → at ≤ length rows → live_in (insert rows at new) ≡ live_in rows + one_if (is_counted new.row)
live_inserted rows zero new le = live_first new rows ∙ omega arith
live_inserted [] (suc at) new le = absurd (omega arith)
live_inserted (found ∷ rows) (suc at) new le =
    let rest = live_inserted rows at new (omega arith) in
    let before = live_first found rows in
    let after = live_first found (insert rows at new) in
    omega (arith, rest, before, after)

pub locks_inserted : (rows : List Found) (at : ℕ) (new : Found) → at ≤ length rows → locks_in (insert rows at new) ≡ locks_in rows + one_if (is_some new.row.lock)
locks_inserted rows zero new le = locks_first new rows ∙ omega arith
locks_inserted [] (suc at) new le = absurd (omega arith)
locks_inserted (found ∷ rows) (suc at) new le =
    let rest = locks_inserted rows at new (omega arith) in
    let before = locks_first found rows in
    let after = locks_first found (insert rows at new) in
    omega (arith, rest, before, after)

pub last_inserted : (rows : List Found) (at : ℕ) (new : Found) → at ≤ length rows → last_commit_in (insert rows at new) ≡ max (last_commit_in rows) (last_commit new.row.versions)
last_inserted rows zero new le = omega arith
last_inserted [] (suc at) new le = absurd (omega arith)
last_inserted (found ∷ rows) (suc at) new le =
    let rest = last_inserted rows at new (omega arith) in
    omega (arith, rest)

pub summary_inserted : (rows : List Found) (at : ℕ) (new : Found) → at ≤ length rows → summed (summary_of rows) (row_summary new.row) ≡ summary_of (insert rows at new)
summary_inserted rows at new le = same_summary _ _ (sym (live_inserted rows at new le)) (sym (locks_inserted rows at new le)) (sym (last_inserted rows at new le))
