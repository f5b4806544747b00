use Rattle.std.proofs.Common.{◌≡◌, max, drop}
use Rattle.pcj_pages.specs.Summary.{last_commit}
use Rattle.pcj_pages.proofs.summary.last_commit.Given as goal

abbrev pub invariant-loop-version : goal.invariant-loop-version
invariant-loop-version l = max l.last (last_commit (drop l.version-index l.versions)) ≡ last_commit l.versions
