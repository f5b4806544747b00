use Rattle.std.proofs.Common.{◌≡◌, ◌≤◌, drop}
use Rattle.pcj_pages.specs.Adding.{summed}
use Rattle.pcj_pages.specs.Summary.{summary_of}
use Rattle.pcj_pages.proofs.summary.Summary.of.Given as goal

abbrev pub invariant-loop-found : goal.invariant-loop-found
invariant-loop-found l =
    (summed l.summary (summary_of (drop l.found-index l.rows)) ≡ summary_of l.rows) × (l.summary.live ≤ l.found-index) × (l.summary.locks ≤ l.found-index)
