use Rattle.std.proofs.Common.{◌≡◌, drop}
use Rattle.pcj_table.specs.Table.{is_next_at}
use Rattle.pcj_pages.specs.Pages.{rows_of}
use Rattle.pcj_pages.specs.Walk.{first_in}
use Rattle.pcj_pages.proofs.read.seen_in.Given as goal

abbrev pub invariant-loop-page : goal.invariant-loop-page
invariant-loop-page l = first_in (is_next_at l.after l.end l.at) (rows_of (drop l.page-index l.pages)) ≡ first_in (is_next_at l.after l.end l.at) (rows_of l.pages)
