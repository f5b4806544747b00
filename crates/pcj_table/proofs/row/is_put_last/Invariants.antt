use Rattle.std.proofs.Common.{◌≡◌, false, drop}
use Rattle.pcj_table.proofs.Versions.{put_after}
use Rattle.pcj_table.proofs.row.is_put_last.Given as goal

abbrev pub invariant-loop-version : goal.invariant-loop-version
invariant-loop-version l = put_after l.is_put (drop l.version-index l.versions) ≡ put_after false l.versions
