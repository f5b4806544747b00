use Rattle.std.proofs.Common.{take}
use Rattle.pcj_session.specs.Registry.{AreRebuilt}
use Rattle.pcj_session.proofs.registry.Registry.new.Given as goal

abbrev pub invariant-loop-registration : goal.invariant-loop-registration
invariant-loop-registration l = AreRebuilt (take l.registration-index l.registrations) l.queries.entries
