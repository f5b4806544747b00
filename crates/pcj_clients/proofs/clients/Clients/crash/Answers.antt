use Rattle.std.proofs.Common.{◌≡◌, List, None, true, ap, subst, sym, ◌∙◌}
use Rattle.pcj_clients.specs.Clients.{IsPlaceOf, are_apart, job_of, without_job}
use Rattle.pcj_clients.specs.declared.busy.Busy.{Busy}
use Rattle.pcj_clients.proofs.JobLemmas.{apart_without, removes_at, without_none}
use Rattle.pcj_clients.specs.Laws.{EndsSound}
use Rattle.pcj_clients.proofs.SoundLemmas.{ends_sound}
use Rattle.pcj_clients.proofs.clients.Clients.crash.Goals as goal

pub invariant_of-self : goal.invariant_of-self
invariant_of-self c = subst (λ cs. are_apart cs ≡ true) (sym (c.end.ensures ∙ removes_at c.self.inside.busy.items c.args.client c.in-Some.place (subst (λ cs. IsPlaceOf cs c.args.client c.in-Some.place) c.deref.ensures.value c.in-Some.ensures.some)))
    (apart_without c.self.inside.busy.items c.args.client c.self.invariant)

pub returns-in-Some-clause-jobs : goal.returns-in-Some-clause-jobs
returns-in-Some-clause-jobs c = c.end.ensures ∙ removes_at c.self.inside.busy.items c.args.client c.in-Some.place (subst (λ cs. IsPlaceOf cs c.args.client c.in-Some.place) c.deref.ensures.value c.in-Some.ensures.some)
    ∙ ap (λ (cs : List Busy). without_job cs c.args.client) c.self.view_is

pub returns-in_default-clause-jobs : goal.returns-in_default-clause-jobs
returns-in_default-clause-jobs c = sym (without_none c.args.self.now c.args.client (subst (λ cs. job_of cs c.args.client ≡ None) (c.deref.ensures.value ∙ c.self.view_is) c.in_default.ensures.none))

pub returns-in-Some-clause-sound : goal.returns-in-Some-clause-sound
returns-in-Some-clause-sound c = subst (λ cs. EndsSound c.args.self.now cs) (sym (returns-in-Some-clause-jobs c)) (ends_sound c.args.self.now c.args.client)

pub returns-in_default-clause-sound : goal.returns-in_default-clause-sound
returns-in_default-clause-sound c number rows others sound = sound
