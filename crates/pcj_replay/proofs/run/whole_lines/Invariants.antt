use Rattle.std.proofs.Common.{◌≡◌, ◌≤◌, take}
use Rattle.pcj_replay.proofs.ScriptLemmas.{feeds}
use Rattle.pcj_replay.proofs.run.whole_lines.Given as goal

abbrev pub invariant-loop-byte : goal.invariant-loop-byte
invariant-loop-byte l = (l.count ≡ feeds (take l.byte-index l.bytes)) × (l.count ≤ l.byte-index)
