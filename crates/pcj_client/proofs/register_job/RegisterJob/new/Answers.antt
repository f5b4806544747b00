use Rattle.std.proofs.Common.{rules, ap, ◌∙◌}
use Rattle.pcj_actor.specs.Progress.{new_progress, with_task}
use Rattle.pcj_actor.specs.declared.task.Task.TheVariants.{Get}
use Rattle.pcj_client.proofs.TreeLemmas.{nodes_fit, query_tree}
use Rattle.pcj_client.proofs.RegisterLemmas.{register_job_of, registers}
use Rattle.pcj_client.proofs.register_job.RegisterJob.new.Goals as goal

pub register_writes-requires : goal.register_writes-requires
register_writes-requires c = nodes_fit c.args.query.now c.in_ok-tree.tree c.requires.storable (c.in_ok-tree.ensures {u = tt})

pub invariant_of-result : goal.invariant_of-result
invariant_of-result c =
    registers c.args.registration c.args.name c.in_ok-tree.tree c.in_ok-writes.writes c.get.new.self c.requires.first (search rules)
    (query_tree c.args.query.now c.in_ok-tree.tree c.requires.storable (c.in_ok-tree.ensures {u = tt})) (c.in_ok-writes.ensures {u = tt})
    (c.get.ensures.task ∙ ap (λ p. with_task p (Get c.in_ok-key.key)) c.new-actor.ensures ∙ ap (λ key. with_task (new_progress c.args.registration) (Get key)) (c.in_ok-key.ensures {u = tt}))

pub returns-clause-job : goal.returns-clause-job
returns-clause-job c = (
  c.in_ok-tree.tree,
  c.in_ok-tree.ensures {u = tt},
  register_job_of c.get.new.self c.args.name c.in_ok-tree.tree c.in_ok-writes.writes
      (registers c.args.registration c.args.name c.in_ok-tree.tree c.in_ok-writes.writes c.get.new.self c.requires.first (search rules)
      (query_tree c.args.query.now c.in_ok-tree.tree c.requires.storable (c.in_ok-tree.ensures {u = tt})) (c.in_ok-writes.ensures {u = tt})
      (c.get.ensures.task ∙ ap (λ p. with_task p (Get c.in_ok-key.key)) c.new-actor.ensures ∙ ap (λ key. with_task (new_progress c.args.registration) (Get key)) (c.in_ok-key.ensures {u = tt}))),
)
