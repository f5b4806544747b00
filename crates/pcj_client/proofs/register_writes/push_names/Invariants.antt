use Rattle.std.proofs.Common.{◌≡◌, ◌++◌, drop}
use Rattle.pcj_client.proofs.register_writes.push_names.Given as goal

abbrev pub invariant-loop-name : goal.invariant-loop-name
invariant-loop-name l = l.parts ++ drop l.name-index l.names ≡ l.fn.parts ++ l.names
