-- What a page tells of its rows.
use Rattle.std.specs.Prelude.{ℕ, max, Bool, ◌&&◌, ◌==◌, nat_le, List, [], ◌∷◌, filter, length, is_some}
use Rattle.pcj_table.specs.declared.found.Found.{Found}
use Rattle.pcj_table.specs.declared.version.Version.{Version}
use Rattle.pcj_table.specs.Row.{is_counted}
use Rattle.pcj_pages.specs.declared.summary.Summary.{Summary}
use Rattle.pcj_pages.specs.declared.page_view.PageView.{PageView}

-- the greatest commit, or 0
abbrev pub last_commit : List Version → ℕ
last_commit [] = 0
last_commit (version ∷ versions) = max version.commit (last_commit versions)

abbrev pub last_commit_in : List Found → ℕ
last_commit_in [] = 0
last_commit_in (found ∷ rows) = max (last_commit found.row.versions) (last_commit_in rows)

abbrev pub live_in : List Found → ℕ
live_in rows = length (filter (λ found. is_counted found.row) rows)

abbrev pub locks_in : List Found → ℕ
locks_in rows = length (filter (λ found. is_some found.row.lock) rows)

abbrev pub summary_of : List Found → Summary
summary_of rows = record { live = live_in rows; locks = locks_in rows; newest = last_commit_in rows }

abbrev pub view_of : List Found → PageView
view_of rows = record { rows = length rows; live = live_in rows; locks = locks_in rows; newest = last_commit_in rows }

-- no row of such a page is seen at this time or later
abbrev pub is_dead_at : ℕ → Summary → Bool
is_dead_at at summary = summary.live == 0 && summary.locks == 0 && nat_le summary.newest at
