use Rattle.std.proofs.Common.{None, subst, sym}
use Rattle.pcj_oracle.specs.Clock.{IsClock}
use Rattle.pcj_bench.proofs.Begins.{nothing_fits}
use Rattle.pcj_bench.proofs.loads.time_loads.Goals as goal

pub load_into-requires : goal.load_into-requires
load_into-requires g c = subst (IsClock None) (sym c.new.ensures.empty) nothing_fits

pub load_into-requires-in-Pages : goal.load_into-requires-in-Pages
load_into-requires-in-Pages g c = subst (IsClock None) (sym c.new-in-Pages.ensures.empty) nothing_fits
