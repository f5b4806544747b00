use Rattle.std.proofs.Common.{◌≡◌, ◌++◌, ◌∷◌, [], None, true, ap, subst, sym, ◌∙◌}
use Rattle.pcj_clients.specs.Clients.{are_apart, job_of}
use Rattle.pcj_clients.proofs.JobLemmas.{apart_more}
use Rattle.pcj_clients.specs.Laws.{BeginsSound}
use Rattle.pcj_clients.proofs.SoundLemmas.{begins_sound}
use Rattle.pcj_clients.proofs.clients.Clients.open.Goals as goal

pub invariant_of-self-2 : goal.invariant_of-self-2
invariant_of-self-2 c = subst (λ cs. are_apart cs ≡ true) (sym ((c.in_ok-push.ensures {u = tt}).items)) (apart_more c.self.inside.busy.items c.args.client c.args.job c.self.invariant (subst (λ cs. job_of cs c.args.client ≡ None) (sym c.self.view_is) c.requires))

pub returns-clause-sound : goal.returns-clause-sound
returns-clause-sound c = subst (λ cs. BeginsSound c.args.self.now c.args.job cs) (sym ((c.in_ok-push.ensures {u = tt}).items ∙ ap (λ cs. cs ++ (record { client = c.args.client; job = c.args.job }) ∷ []) c.self.view_is))
    (begins_sound c.args.self.now c.args.client c.args.job)
