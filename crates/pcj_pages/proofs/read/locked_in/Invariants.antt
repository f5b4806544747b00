use Rattle.std.proofs.Common.{◌≡◌, drop}
use Rattle.pcj_table.specs.Table.{is_next_lock}
use Rattle.pcj_pages.specs.Pages.{rows_of}
use Rattle.pcj_pages.specs.Walk.{first_in}
use Rattle.pcj_pages.proofs.read.locked_in.Given as goal

abbrev pub invariant-loop-page : goal.invariant-loop-page
invariant-loop-page l = first_in (is_next_lock l.after) (rows_of (drop l.page-index l.pages)) ≡ first_in (is_next_lock l.after) (rows_of l.pages)
