use Rattle.std.proofs.Common.{◌≡◌, false, drop}
use Rattle.pcj_table.specs.Row.{versions_up_to}
use Rattle.pcj_table.proofs.Versions.{put_after}
use Rattle.pcj_table.proofs.row.is_put_at.Given as goal

abbrev pub invariant-loop-version : goal.invariant-loop-version
invariant-loop-version l = put_after l.is_put (versions_up_to l.at (drop l.version-index l.versions)) ≡ put_after false (versions_up_to l.at l.versions)
