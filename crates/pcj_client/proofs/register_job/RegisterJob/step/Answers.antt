use Rattle.std.proofs.Common.{rules, inr, ◌∷◌, refl, ap, sym, subst, ◌∙◌}
use Rattle.pcj_table.specs.Table.{row_at}
use Rattle.pcj_moves.specs.Actors.{Actor}
use Rattle.pcj_actor.specs.StepLaws.{state_of}
use Rattle.pcj_actor.specs.Progress.{Progress}
use Rattle.pcj_fit.specs.Queries.{HasQueries}
use Rattle.pcj_fit.specs.Sound.{Sound}
use Rattle.pcj_rows.specs.Triples.{HasTriples}
use Rattle.pcj_client.specs.Job.{Content, GoesOn, IsJob, Job, Registers, has_found, job_of, loaded}
use Rattle.pcj_client.specs.Events.{CommitsOnce, HasMoved, IsNamed, IsTold, StepsOn, queries_after, register_event, triples_after}
use Rattle.pcj_client.proofs.RegisterLemmas.{goes_on_begun, may_begin, register_commits_once, register_job_of, register_keeps_triples, register_tells, registers_on, registers_work, same_answers, step_changes_queries}
use Rattle.pcj_client.proofs.SoundLemmas.{step_calls_few, step_keeps_sound}
use Rattle.pcj_client.proofs.MoveLemmas.{draws, nothing_moved, stays, step_moves, step_on}
use Rattle.pcj_client.proofs.register_job.RegisterJob.step.Goals as goal

pub take_in-requires : goal.take_in-requires
take_in-requires g c = may_begin c.self.inside.actor c.step.new.self c.args.oracle.now c.step.new.oracle (g.T.RowTable.rows c.args.table.now) (g.T.RowTable.rows c.step.new.table) c.in_ok-event.event c.self.inside.name c.self.inside.tree c.self.inside.writes c.self.invariant ((c.in_ok-event.ensures {u = tt}).tells)

pub invariant_of-self-2 : goal.invariant_of-self-2
invariant_of-self-2 g c = registers_on c.self.inside.actor c.step.new.self c.take_in.new.actor c.args.oracle.now c.step.new.oracle (g.T.RowTable.rows c.args.table.now) (g.T.RowTable.rows c.step.new.table) c.in_ok-event.event c.self.inside.name c.self.inside.tree c.self.inside.writes c.take_in.new.writes c.self.invariant ((c.in_ok-event.ensures {u = tt}).tells) c.take_in.ensures.actor c.take_in.ensures.writes

pub returns-clause-told : goal.returns-clause-told
returns-clause-told g c =
    subst (λ (j : Job). IsTold j c.args.oracle.now (g.T.RowTable.rows c.args.table.now) c.take_in.result (job_of c.take_in.new.actor (Registers c.self.inside.name c.self.inside.tree)) c.step.new.oracle (g.T.RowTable.rows c.step.new.table)) c.self.view_is
    (subst (λ e. IsTold (job_of c.self.inside.actor (Registers c.self.inside.name c.self.inside.tree)) c.args.oracle.now (g.T.RowTable.rows c.args.table.now) e (job_of c.take_in.new.actor (Registers c.self.inside.name c.self.inside.tree)) c.step.new.oracle (g.T.RowTable.rows c.step.new.table)) (sym c.take_in.ensures.event)
    (register_tells c.self.inside.actor c.step.new.self c.take_in.new.actor c.args.oracle.now c.step.new.oracle (g.T.RowTable.rows c.args.table.now) (g.T.RowTable.rows c.step.new.table) c.in_ok-event.event c.self.inside.name c.self.inside.tree (registers_work c.self.inside.actor c.self.inside.name c.self.inside.tree c.self.inside.writes c.self.invariant) ((c.in_ok-event.ensures {u = tt}).tells) ((c.in_ok-event.ensures {u = tt}).first)
    (subst (λ p. GoesOn c.step.new.self p) (sym c.take_in.ensures.actor) (goes_on_begun c.in_ok-event.event c.step.new.self c.self.inside.writes (may_begin c.self.inside.actor c.step.new.self c.args.oracle.now c.step.new.oracle (g.T.RowTable.rows c.args.table.now) (g.T.RowTable.rows c.step.new.table) c.in_ok-event.event c.self.inside.name c.self.inside.tree c.self.inside.writes c.self.invariant ((c.in_ok-event.ensures {u = tt}).tells))))
    (ap (λ (p : Progress). p.actor.answers) c.take_in.ensures.actor ∙ same_answers c.in_ok-event.event c.step.new.self c.self.inside.writes)))

pub returns-clause-commit : goal.returns-clause-commit
returns-clause-commit g c =
    subst (λ (j : Job). CommitsOnce j c.take_in.result (job_of c.take_in.new.actor (Registers c.self.inside.name c.self.inside.tree))) c.self.view_is
    (subst (λ e. CommitsOnce (job_of c.self.inside.actor (Registers c.self.inside.name c.self.inside.tree)) e (job_of c.take_in.new.actor (Registers c.self.inside.name c.self.inside.tree))) (sym c.take_in.ensures.event)
    (register_commits_once c.self.inside.actor c.step.new.self c.take_in.new.actor c.args.oracle.now c.step.new.oracle (g.T.RowTable.rows c.args.table.now) (g.T.RowTable.rows c.step.new.table) c.in_ok-event.event (Registers c.self.inside.name c.self.inside.tree) (registers_work c.self.inside.actor c.self.inside.name c.self.inside.tree c.self.inside.writes c.self.invariant) ((c.in_ok-event.ensures {u = tt}).tells)
    (subst (λ p. GoesOn c.step.new.self p) (sym c.take_in.ensures.actor) (goes_on_begun c.in_ok-event.event c.step.new.self c.self.inside.writes (may_begin c.self.inside.actor c.step.new.self c.args.oracle.now c.step.new.oracle (g.T.RowTable.rows c.args.table.now) (g.T.RowTable.rows c.step.new.table) c.in_ok-event.event c.self.inside.name c.self.inside.tree c.self.inside.writes c.self.invariant ((c.in_ok-event.ensures {u = tt}).tells))))))

pub returns-clause-sound : goal.returns-clause-sound
returns-clause-sound g c others sound =
    step_keeps_sound c.self.inside.actor c.step.new.self c.take_in.new.actor c.args.oracle.now c.step.new.oracle (g.T.RowTable.rows c.args.table.now) (g.T.RowTable.rows c.step.new.table) (registers_work c.self.inside.actor c.self.inside.name c.self.inside.tree c.self.inside.writes c.self.invariant) ((c.in_ok-event.ensures {u = tt}).moves)
    (subst (λ p. GoesOn c.step.new.self p) (sym c.take_in.ensures.actor) (goes_on_begun c.in_ok-event.event c.step.new.self c.self.inside.writes (may_begin c.self.inside.actor c.step.new.self c.args.oracle.now c.step.new.oracle (g.T.RowTable.rows c.args.table.now) (g.T.RowTable.rows c.step.new.table) c.in_ok-event.event c.self.inside.name c.self.inside.tree c.self.inside.writes c.self.invariant ((c.in_ok-event.ensures {u = tt}).tells))))
    (registers_work c.take_in.new.actor c.self.inside.name c.self.inside.tree c.take_in.new.writes (registers_on c.self.inside.actor c.step.new.self c.take_in.new.actor c.args.oracle.now c.step.new.oracle (g.T.RowTable.rows c.args.table.now) (g.T.RowTable.rows c.step.new.table) c.in_ok-event.event c.self.inside.name c.self.inside.tree c.self.inside.writes c.take_in.new.writes c.self.invariant ((c.in_ok-event.ensures {u = tt}).tells) c.take_in.ensures.actor c.take_in.ensures.writes))
    others (subst (λ (a : Actor). Sound (state_of c.args.oracle.now (g.T.RowTable.rows c.args.table.now) (a ∷ others))) (sym (ap (λ (j : Job). j.actor) c.self.view_is)) sound)

pub returns-clause-triples : goal.returns-clause-triples
returns-clause-triples g c known others sound has =
    subst (λ e. HasTriples (row_at (g.T.RowTable.rows c.step.new.table)) (triples_after e known (loaded c.args.self.now.content))) (sym c.take_in.ensures.event)
    (subst (λ (k : Content). HasTriples (row_at (g.T.RowTable.rows c.step.new.table)) (triples_after (register_event c.in_ok-event.event (has_found c.step.new.self.actor.answers)) known (loaded k))) (ap (λ (j : Job). j.content) c.self.view_is)
    (register_keeps_triples c.self.inside.actor c.step.new.self c.args.oracle.now c.step.new.oracle (g.T.RowTable.rows c.args.table.now) (g.T.RowTable.rows c.step.new.table) c.in_ok-event.event (has_found c.step.new.self.actor.answers) c.self.inside.name c.self.inside.tree c.self.inside.writes known others c.self.invariant ((c.in_ok-event.ensures {u = tt}).tells) ((c.in_ok-event.ensures {u = tt}).moves)
    (subst (λ (a : Actor). Sound (state_of c.args.oracle.now (g.T.RowTable.rows c.args.table.now) (a ∷ others))) (sym (ap (λ (j : Job). j.actor) c.self.view_is)) sound) has))

pub returns-clause-queries : goal.returns-clause-queries
returns-clause-queries g c known others sound has =
    subst (λ e. IsNamed e c.args.self.now.content known × HasQueries (row_at (g.T.RowTable.rows c.step.new.table)) (queries_after e c.args.self.now known)) (sym c.take_in.ensures.event)
    (subst (λ (j : Job). IsNamed (register_event c.in_ok-event.event (has_found c.step.new.self.actor.answers)) j.content known × HasQueries (row_at (g.T.RowTable.rows c.step.new.table)) (queries_after (register_event c.in_ok-event.event (has_found c.step.new.self.actor.answers)) j known)) c.self.view_is
    (step_changes_queries c.self.inside.actor c.step.new.self c.args.oracle.now c.step.new.oracle (g.T.RowTable.rows c.args.table.now) (g.T.RowTable.rows c.step.new.table) c.in_ok-event.event c.self.inside.name c.self.inside.tree c.self.inside.writes known others c.self.invariant ((c.in_ok-event.ensures {u = tt}).tells) ((c.in_ok-event.ensures {u = tt}).moves)
    (subst (λ (a : Actor). Sound (state_of c.args.oracle.now (g.T.RowTable.rows c.args.table.now) (a ∷ others))) (sym (ap (λ (j : Job). j.actor) c.self.view_is)) sound) has))

pub returns-clause-calls : goal.returns-clause-calls
returns-clause-calls g c = step_calls_few c.self.inside.actor (Registers c.self.inside.name c.self.inside.tree) c.args.oracle.now (g.T.RowTable.rows c.args.table.now) _ _ c.args.self.now (registers_work c.self.inside.actor c.self.inside.name c.self.inside.tree c.self.inside.writes c.self.invariant) c.self.view_is c.step.ensures.calls

pub returns-in_err-event-clause-calls : goal.returns-in_err-event-clause-calls
returns-in_err-event-clause-calls g c = step_calls_few c.self.inside.actor (Registers c.self.inside.name c.self.inside.tree) c.args.oracle.now (g.T.RowTable.rows c.args.table.now) _ _ c.args.self.now (registers_work c.self.inside.actor c.self.inside.name c.self.inside.tree c.self.inside.writes c.self.invariant) c.self.view_is c.step.ensures.calls

pub returns-clause-moves : goal.returns-clause-moves
returns-clause-moves g c others sound =
    subst (λ (j : Job). HasMoved j c.args.oracle.now (g.T.RowTable.rows c.args.table.now) (job_of c.take_in.new.actor (Registers c.self.inside.name c.self.inside.tree)) c.step.new.oracle (g.T.RowTable.rows c.step.new.table)) c.self.view_is
    (step_moves c.self.inside.actor c.step.new.self c.take_in.new.actor c.args.oracle.now c.step.new.oracle (g.T.RowTable.rows c.args.table.now) (g.T.RowTable.rows c.step.new.table) (Registers c.self.inside.name c.self.inside.tree) (registers_work c.self.inside.actor c.self.inside.name c.self.inside.tree c.self.inside.writes c.self.invariant) ((c.in_ok-event.ensures {u = tt}).moves)
    (subst (λ p. GoesOn c.step.new.self p) (sym c.take_in.ensures.actor) (goes_on_begun c.in_ok-event.event c.step.new.self c.self.inside.writes (may_begin c.self.inside.actor c.step.new.self c.args.oracle.now c.step.new.oracle (g.T.RowTable.rows c.args.table.now) (g.T.RowTable.rows c.step.new.table) c.in_ok-event.event c.self.inside.name c.self.inside.tree c.self.inside.writes c.self.invariant ((c.in_ok-event.ensures {u = tt}).tells))))
    (registers_work c.take_in.new.actor c.self.inside.name c.self.inside.tree c.take_in.new.writes (registers_on c.self.inside.actor c.step.new.self c.take_in.new.actor c.args.oracle.now c.step.new.oracle (g.T.RowTable.rows c.args.table.now) (g.T.RowTable.rows c.step.new.table) c.in_ok-event.event c.self.inside.name c.self.inside.tree c.self.inside.writes c.take_in.new.writes c.self.invariant ((c.in_ok-event.ensures {u = tt}).tells) c.take_in.ensures.actor c.take_in.ensures.writes)) others
    (subst (λ (a : Actor). Sound (state_of c.args.oracle.now (g.T.RowTable.rows c.args.table.now) (a ∷ others))) (sym (ap (λ (j : Job). j.actor) c.self.view_is)) sound))

pub returns-in_err-event-clause-moves : goal.returns-in_err-event-clause-moves
returns-in_err-event-clause-moves g c others sound =
    subst (λ (p : Progress). HasMoved c.args.self.now c.args.oracle.now (g.T.RowTable.rows c.args.table.now) (job_of p (Registers c.self.inside.name c.self.inside.tree)) c.step.new.oracle (g.T.RowTable.rows c.step.new.table)) (sym (c.in_err-event.ensures {u = tt}).same)
    (subst (λ (j : Job). HasMoved c.args.self.now c.args.oracle.now (g.T.RowTable.rows c.args.table.now) j c.step.new.oracle (g.T.RowTable.rows c.step.new.table)) (sym c.self.view_is)
    (nothing_moved c.args.self.now c.args.oracle.now c.step.new.oracle (g.T.RowTable.rows c.args.table.now) (g.T.RowTable.rows c.step.new.table) (c.in_err-event.ensures {u = tt}).kept))

pub returns-clause-on : goal.returns-clause-on
returns-clause-on g c =
    subst (λ (j : Job). StepsOn j (job_of c.take_in.new.actor (Registers c.self.inside.name c.self.inside.tree))) c.self.view_is
    (step_on c.self.inside.actor c.step.new.self c.take_in.new.actor c.args.oracle.now c.step.new.oracle (g.T.RowTable.rows c.args.table.now) (g.T.RowTable.rows c.step.new.table) c.in_ok-event.event (Registers c.self.inside.name c.self.inside.tree) (registers_work c.self.inside.actor c.self.inside.name c.self.inside.tree c.self.inside.writes c.self.invariant) ((c.in_ok-event.ensures {u = tt}).tells)
    (subst (λ p. GoesOn c.step.new.self p) (sym c.take_in.ensures.actor) (goes_on_begun c.in_ok-event.event c.step.new.self c.self.inside.writes (may_begin c.self.inside.actor c.step.new.self c.args.oracle.now c.step.new.oracle (g.T.RowTable.rows c.args.table.now) (g.T.RowTable.rows c.step.new.table) c.in_ok-event.event c.self.inside.name c.self.inside.tree c.self.inside.writes c.self.invariant ((c.in_ok-event.ensures {u = tt}).tells)))))

pub returns-in_err-event-clause-on : goal.returns-in_err-event-clause-on
returns-in_err-event-clause-on g c =
    subst (λ (p : Progress). StepsOn c.args.self.now (job_of p (Registers c.self.inside.name c.self.inside.tree))) (sym (c.in_err-event.ensures {u = tt}).same)
    (subst (λ (j : Job). StepsOn c.args.self.now j) (sym c.self.view_is) (stays c.args.self.now c.args.self.now refl refl refl))

pub returns-clause-job : goal.returns-clause-job
returns-clause-job g c = inr (c.self.inside.name, c.self.inside.tree, register_job_of c.take_in.new.actor c.self.inside.name c.self.inside.tree c.take_in.new.writes (registers_on c.self.inside.actor c.step.new.self c.take_in.new.actor c.args.oracle.now c.step.new.oracle (g.T.RowTable.rows c.args.table.now) (g.T.RowTable.rows c.step.new.table) c.in_ok-event.event c.self.inside.name c.self.inside.tree c.self.inside.writes c.take_in.new.writes c.self.invariant ((c.in_ok-event.ensures {u = tt}).tells) c.take_in.ensures.actor c.take_in.ensures.writes))

pub returns-in_err-event-clause-job : goal.returns-in_err-event-clause-job
returns-in_err-event-clause-job g c =
    subst (λ (p : Progress). IsJob (job_of p (Registers c.self.inside.name c.self.inside.tree))) (sym (c.in_err-event.ensures {u = tt}).same)
    (inr (c.self.inside.name, c.self.inside.tree, register_job_of c.self.inside.actor c.self.inside.name c.self.inside.tree c.self.inside.writes c.self.invariant))

pub returns-in_err-event-clause-spent_draw : goal.returns-in_err-event-clause-spent_draw
returns-in_err-event-clause-spent_draw g c is =
    draws c.self.inside.actor c.self.inside.actor (Registers c.self.inside.name c.self.inside.tree) c.args.self.now refl c.self.view_is ((c.in_err-event.ensures {u = tt}).spent_draw (search rules))

pub returns-clause-one : goal.returns-clause-one
returns-clause-one g c = c.step.ensures.one

pub returns-in_err-event-clause-one : goal.returns-in_err-event-clause-one
returns-in_err-event-clause-one g c = c.step.ensures.one
