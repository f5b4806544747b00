use Rattle.std.proofs.Common.{ap, ◌∙◌, is_some}
use Rattle.pcj_clients.specs.Clients.{job_of}
use Rattle.pcj_clients.proofs.PlaceLemmas.{found_is_busy}
use Rattle.pcj_clients.proofs.clients.Clients.is_busy.Goals as goal

pub returns : goal.returns
returns c = c.is_some.ensures ∙ found_is_busy c.deref.result.now c.args.client c.place_of.result c.place_of.ensures.some c.place_of.ensures.none
    ∙ ap (λ cs. is_some (job_of cs c.args.client)) (c.deref.ensures.value ∙ c.self.view_is)
