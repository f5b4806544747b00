use Rattle.std.proofs.Common.{◌≡◌, ◌+◌, drop}
use Rattle.pcj_table.specs.Table.{is_counted_between}
use Rattle.pcj_pages.specs.Pages.{rows_of}
use Rattle.pcj_pages.specs.Walk.{count_in}
use Rattle.pcj_pages.proofs.read.count_in.Given as goal

abbrev pub invariant-loop-page : goal.invariant-loop-page
invariant-loop-page l = l.count + count_in (is_counted_between l.from l.end) (rows_of (drop l.page-index l.pages)) ≡ count_in (is_counted_between l.from l.end) (rows_of l.pages)
