use Rattle.std.proofs.Common.{subst, sym}
use Rattle.pcj_clients.specs.Laws.{EndsSound}
use Rattle.pcj_clients.proofs.SoundLemmas.{all_end_sound}
use Rattle.pcj_clients.proofs.clients.Clients.crash_all.Goals as goal

pub returns-clause-sound : goal.returns-clause-sound
returns-clause-sound c = subst (λ cs. EndsSound c.args.self.now cs) (sym c.clear.ensures.items) (all_end_sound c.args.self.now)
