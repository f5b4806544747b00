-- How the summary of rows is put together.
use Rattle.std.specs.Prelude.{ℕ, ◌+◌, ◌==◌, max, Bool, true, false, cond, List, [], length, is_some}
use Rattle.pcj_table.specs.declared.row.Row.{Row}
use Rattle.pcj_table.specs.declared.found.Found.{Found}
use Rattle.pcj_table.specs.Row.{is_counted}
use Rattle.pcj_sorted.specs.Edits.{row_in}
use Rattle.pcj_pages.specs.declared.summary.Summary.{Summary}
use Rattle.pcj_pages.specs.Summary.{last_commit, summary_of}

abbrev pub one_if : Bool → ℕ
one_if true = 1
one_if false = 0

abbrev pub row_summary : Row → Summary
row_summary row = record { live = one_if (is_counted row); locks = one_if (is_some row.lock); newest = last_commit row.versions }

abbrev pub summed : Summary → Summary → Summary
summed one other = record { live = one.live + other.live; locks = one.locks + other.locks; newest = max one.newest other.newest }

-- the summary of the row at a place where there are still as many rows, and else that of none
abbrev pub left_at : List Found → ℕ → ℕ → Summary
left_at rows at count = cond (length rows == count) (row_summary (row_in rows at)) (summary_of [])
