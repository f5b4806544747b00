use Rattle.std.proofs.Common.{rules, ◌≡◌, List, length, Some, refl, sym, subst}
use Rattle.std.proofs.lemmas.Bool.{ltb-true}
use Rattle.std.proofs.lemmas.Option.{slice_get_read}
use Rattle.std.specs.List.{slice_get}
use Rattle.pcj_moves.specs.declared.answer.Answer.{Answer}
use Rattle.pcj_client.proofs.JobLemmas.{asked}
use Rattle.pcj_client.proofs.load_job.ask.Goals as goal

pub returns-clause-work : goal.returns-clause-work
returns-clause-work c =
    let there = c.in-Some.ensures.lookup in
    let found : slice_get c.args.triples.now (length c.answers.result.now) ≡ Some c.in-Some.triple.now = slice_get_read _ _ _ _ refl (ltb-true _ _ (sym there.0)) there.1 in
    asked c.args.actor.now c.get-2.new.self c.args.triples.now c.args.writes.now.items c.add_writes.new.writes.items c.args.kept.now c.len-gathered.result c.in-Some.triple.now c.in_ok-key.key c.requires
    (search rules) (subst (λ (answers : List Answer). slice_get c.args.triples.now (length answers) ≡ Some c.in-Some.triple.now) c.answers.ensures found)
    (c.in_ok-key.ensures {u = tt}).key (search rules) (search rules) c.get-2.ensures.task
