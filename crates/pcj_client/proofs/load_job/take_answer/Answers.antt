use Rattle.std.proofs.Common.{◌≡◌, inr, List, length, ap, sym, subst, ◌∙◌}
use Rattle.pcj_table.specs.declared.write.Write.{Write}
use Rattle.pcj_moves.specs.Transactions.{are_distinct}
use Rattle.pcj_txn.specs.Progress.{new_progress as new_txn}
use Rattle.pcj_actor.specs.Progress.{Progress, with_task}
use Rattle.pcj_actor.specs.declared.task.Task.TheVariants.{Write as Writes}
use Rattle.pcj_client.specs.Job.{IsAtWork}
use Rattle.pcj_client.proofs.JobLemmas.{distinct_writes, left_of, reads_on, writes_all}
use Rattle.pcj_client.proofs.load_job.take_answer.Goals as goal

pub write-requires-clause-nothing : goal.write-requires-clause-nothing
write-requires-clause-nothing c =
    ap (λ (p : Progress). p.actor.transaction) c.requires.3.2
    ∙ (left_of c.requires.0 c.args.actor.now c.args.triples.now c.args.writes.now.items c.keep.new.writes.items c.args.kept.now c.take-len.result c.requires.3.0 c.answers.result.now _ c.is_found-found.result c.requires.1 c.requires.3.1 c.requires.3.2
    c.answers.ensures c.last.ensures.value c.is_found-found.ensures c.take-len.ensures.value c.keep.ensures).nothing

pub write-requires-clause-distinct : goal.write-requires-clause-distinct
write-requires-clause-distinct c =
    ap are_distinct (c.from_vec.ensures ∙ ap (λ v. v.items) c.replace-all.ensures.value)
    ∙ distinct_writes c.requires.0 c.args.triples.now c.requires.3.0 c.keep.new.writes.items c.args.kept.now c.args.writes.now.items c.requires.1
    (left_of c.requires.0 c.args.actor.now c.args.triples.now c.args.writes.now.items c.keep.new.writes.items c.args.kept.now c.take-len.result c.requires.3.0 c.answers.result.now _ c.is_found-found.result c.requires.1 c.requires.3.1 c.requires.3.2
    c.answers.ensures c.last.ensures.value c.is_found-found.ensures c.take-len.ensures.value c.keep.ensures)

pub returns-then-answers-triples-clause-work : goal.returns-then-answers-triples-clause-work
returns-then-answers-triples-clause-work c =
    subst (IsAtWork c.write.new.self c.args.triples.now c.replace-all.new.dest.items) (sym c.take-len.ensures.after)
    (writes_all c.requires.0 c.args.actor.now c.write.new.self c.args.triples.now c.requires.3.0 c.keep.new.writes.items c.replace-all.new.dest.items c.args.kept.now c.args.writes.now.items c.requires.1
    (left_of c.requires.0 c.args.actor.now c.args.triples.now c.args.writes.now.items c.keep.new.writes.items c.args.kept.now c.take-len.result c.requires.3.0 c.answers.result.now _ c.is_found-found.result c.requires.1 c.requires.3.1 c.requires.3.2
    c.answers.ensures c.last.ensures.value c.is_found-found.ensures c.take-len.ensures.value c.keep.ensures)
    c.requires.3.2
    (ap length (sym c.answers-2.ensures) ∙ c.if-answers-triples.true)
    (subst (λ (ws : List Write). c.write.new.self ≡ with_task c.args.actor.now (Writes (new_txn c.args.actor.now.actor.start ws))) (c.from_vec.ensures ∙ ap (λ v. v.items) c.replace-all.ensures.value) c.write.ensures.task))

pub returns-then-answers-triples-clause-goes_on : goal.returns-then-answers-triples-clause-goes_on
returns-then-answers-triples-clause-goes_on c = inr (
  c.from_vec.result,
  ap (λ (p : Progress). p.actor.transaction) c.requires.3.2
      ∙ (left_of c.requires.0 c.args.actor.now c.args.triples.now c.args.writes.now.items c.keep.new.writes.items c.args.kept.now c.take-len.result c.requires.3.0 c.answers.result.now _ c.is_found-found.result c.requires.1 c.requires.3.1 c.requires.3.2
      c.answers.ensures c.last.ensures.value c.is_found-found.ensures c.take-len.ensures.value c.keep.ensures).nothing,
  ap are_distinct (c.from_vec.ensures ∙ ap (λ v. v.items) c.replace-all.ensures.value)
      ∙ distinct_writes c.requires.0 c.args.triples.now c.requires.3.0 c.keep.new.writes.items c.args.kept.now c.args.writes.now.items c.requires.1
      (left_of c.requires.0 c.args.actor.now c.args.triples.now c.args.writes.now.items c.keep.new.writes.items c.args.kept.now c.take-len.result c.requires.3.0 c.answers.result.now _ c.is_found-found.result c.requires.1 c.requires.3.1 c.requires.3.2
      c.answers.ensures c.last.ensures.value c.is_found-found.ensures c.take-len.ensures.value c.keep.ensures),
  c.write.ensures.task,
)

pub returns-else-answers-triples-clause-work : goal.returns-else-answers-triples-clause-work
returns-else-answers-triples-clause-work c =
    subst (IsAtWork c.args.actor.now c.args.triples.now c.keep.new.writes.items) (sym c.take-len.ensures.after)
    (reads_on c.requires.0 c.args.actor.now c.args.triples.now c.requires.3.0 c.keep.new.writes.items c.args.kept.now c.args.writes.now.items c.requires.1
    (left_of c.requires.0 c.args.actor.now c.args.triples.now c.args.writes.now.items c.keep.new.writes.items c.args.kept.now c.take-len.result c.requires.3.0 c.answers.result.now _ c.is_found-found.result c.requires.1 c.requires.3.1 c.requires.3.2
    c.answers.ensures c.last.ensures.value c.is_found-found.ensures c.take-len.ensures.value c.keep.ensures)
    c.requires.3.2
    (λ same. c.if-answers-triples.false (ap length c.answers-2.ensures ∙ same)))
