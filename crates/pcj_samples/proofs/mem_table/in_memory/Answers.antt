use Rattle.std.proofs.Common.{subst, sym}
use Rattle.pcj_samples.specs.Fresh.{IsFresh}
use Rattle.pcj_samples.proofs.EmptyTable.{nothing_fresh}
use Rattle.pcj_samples.proofs.mem_table.in_memory.Goals as goal

pub returns : goal.returns
returns c = subst IsFresh (sym c.new.ensures.empty) nothing_fresh
