use Rattle.std.proofs.Common.{rules, inl, List, ◌∷◌, refl, ap, sym, subst, ◌∙◌}
use Rattle.pcj_term.specs.declared.triple.Triple.{Triple}
use Rattle.pcj_table.specs.Table.{row_at}
use Rattle.pcj_moves.specs.Actors.{Actor}
use Rattle.pcj_actor.specs.StepLaws.{state_of}
use Rattle.pcj_fit.specs.Queries.{HasQueries}
use Rattle.pcj_fit.specs.Sound.{Sound}
use Rattle.pcj_rows.specs.Triples.{HasTriples}
use Rattle.pcj_actor.specs.Progress.{Progress}
use Rattle.pcj_client.specs.Job.{Content, HasStepped, IsAtWork, IsJob, Job, Loads, job_of, loaded}
use Rattle.pcj_client.specs.Events.{CommitsOnce, HasMoved, IsNamed, IsTold, StepsOn, event_of, queries_after, triples_after}
use Rattle.pcj_client.proofs.LoadLemmas.{its_step, load_job_of, load_tells, loads_work, step_changes_triples, step_keeps_queries}
use Rattle.pcj_client.proofs.SoundLemmas.{asks_nothing, step_calls_few, step_commits_once, step_keeps_sound}
use Rattle.pcj_client.proofs.MoveLemmas.{draws, nothing_moved, stays, step_moves, step_on}
use Rattle.pcj_client.proofs.load_job.LoadJob.step.Goals as goal

pub take_in-requires : goal.take_in-requires
take_in-requires g c =
    subst (λ (ts : List Triple). HasStepped ts c.ask.new.writes.items c.ask.new.kept c.in_ok-event.event c.step.new.self) (c.as_slice.ensures ∙ sym c.as_slice-2.ensures)
    (its_step c.ask.new.actor c.args.oracle.now (g.T.RowTable.rows c.args.table.now) c.in_ok-event.event c.step.new.self c.step.new.oracle (g.T.RowTable.rows c.step.new.table) c.as_slice.result.now c.ask.new.writes.items c.ask.new.kept
    c.ask.ensures.work ((c.in_ok-ask.ensures {u = tt}).busy) ((c.in_ok-event.ensures {u = tt}).tells))

pub returns-clause-told : goal.returns-clause-told
returns-clause-told g c =
    let at : IsAtWork c.ask.new.actor c.self.inside.triples c.ask.new.writes.items c.ask.new.kept = subst (λ (ts : List Triple). IsAtWork c.ask.new.actor ts c.ask.new.writes.items c.ask.new.kept) c.as_slice.ensures c.ask.ensures.work in
    subst (λ (j : Job). IsTold j c.args.oracle.now (g.T.RowTable.rows c.args.table.now) c.take_in.result (job_of c.take_in.new.actor (Loads c.self.inside.triples)) c.step.new.oracle (g.T.RowTable.rows c.step.new.table))
    (asks_nothing c.self.inside.actor c.ask.new.actor (Loads c.self.inside.triples) c.args.self.now c.ask.ensures.actor c.ask.ensures.writing c.ask.ensures.locked c.self.view_is)
    (subst (λ e. IsTold (job_of c.ask.new.actor (Loads c.self.inside.triples)) c.args.oracle.now (g.T.RowTable.rows c.args.table.now) e (job_of c.take_in.new.actor (Loads c.self.inside.triples)) c.step.new.oracle (g.T.RowTable.rows c.step.new.table)) (sym c.take_in.ensures.event)
    (load_tells c.ask.new.actor c.step.new.self c.take_in.new.actor c.args.oracle.now c.step.new.oracle (g.T.RowTable.rows c.args.table.now) (g.T.RowTable.rows c.step.new.table) c.in_ok-event.event c.self.inside.triples c.ask.new.writes.items c.ask.new.kept at
    ((c.in_ok-ask.ensures {u = tt}).busy) ((c.in_ok-event.ensures {u = tt}).tells) ((c.in_ok-event.ensures {u = tt}).first) c.take_in.ensures.goes_on))

pub returns-clause-commit : goal.returns-clause-commit
returns-clause-commit g c =
    let at : IsAtWork c.ask.new.actor c.self.inside.triples c.ask.new.writes.items c.ask.new.kept = subst (λ (ts : List Triple). IsAtWork c.ask.new.actor ts c.ask.new.writes.items c.ask.new.kept) c.as_slice.ensures c.ask.ensures.work in
    subst (λ (j : Job). CommitsOnce j c.take_in.result (job_of c.take_in.new.actor (Loads c.self.inside.triples)))
    (asks_nothing c.self.inside.actor c.ask.new.actor (Loads c.self.inside.triples) c.args.self.now c.ask.ensures.actor c.ask.ensures.writing c.ask.ensures.locked c.self.view_is)
    (subst (λ e. CommitsOnce (job_of c.ask.new.actor (Loads c.self.inside.triples)) e (job_of c.take_in.new.actor (Loads c.self.inside.triples))) (sym c.take_in.ensures.event)
    (step_commits_once c.ask.new.actor c.step.new.self c.take_in.new.actor c.args.oracle.now c.step.new.oracle (g.T.RowTable.rows c.args.table.now) (g.T.RowTable.rows c.step.new.table) c.in_ok-event.event (Loads c.self.inside.triples) (loads_work c.ask.new.actor c.self.inside.triples c.ask.new.writes.items c.ask.new.kept at) ((c.in_ok-event.ensures {u = tt}).tells) c.take_in.ensures.goes_on))

pub returns-clause-sound : goal.returns-clause-sound
returns-clause-sound g c others sound =
    let at : IsAtWork c.ask.new.actor c.self.inside.triples c.ask.new.writes.items c.ask.new.kept = subst (λ (ts : List Triple). IsAtWork c.ask.new.actor ts c.ask.new.writes.items c.ask.new.kept) c.as_slice.ensures c.ask.ensures.work in
    step_keeps_sound c.ask.new.actor c.step.new.self c.take_in.new.actor c.args.oracle.now c.step.new.oracle (g.T.RowTable.rows c.args.table.now) (g.T.RowTable.rows c.step.new.table) (loads_work c.ask.new.actor c.self.inside.triples c.ask.new.writes.items c.ask.new.kept at) ((c.in_ok-event.ensures {u = tt}).moves) c.take_in.ensures.goes_on
    (loads_work c.take_in.new.actor c.self.inside.triples c.take_in.new.writes.items c.take_in.new.kept
    (subst (λ (ts : List Triple). IsAtWork c.take_in.new.actor ts c.take_in.new.writes.items c.take_in.new.kept) c.as_slice-2.ensures c.take_in.ensures.work))
    others (subst (λ (a : Actor). Sound (state_of c.args.oracle.now (g.T.RowTable.rows c.args.table.now) (a ∷ others))) (sym (ap (λ (j : Job). j.actor) c.self.view_is) ∙ sym c.ask.ensures.actor) sound)

pub returns-clause-triples : goal.returns-clause-triples
returns-clause-triples g c known others sound has =
    let at : IsAtWork c.ask.new.actor c.self.inside.triples c.ask.new.writes.items c.ask.new.kept = subst (λ (ts : List Triple). IsAtWork c.ask.new.actor ts c.ask.new.writes.items c.ask.new.kept) c.as_slice.ensures c.ask.ensures.work in
    subst (λ e. HasTriples (row_at (g.T.RowTable.rows c.step.new.table)) (triples_after e known (loaded c.args.self.now.content))) (sym c.take_in.ensures.event)
    (subst (λ (k : Content). HasTriples (row_at (g.T.RowTable.rows c.step.new.table)) (triples_after (event_of c.in_ok-event.event) known (loaded k))) (ap (λ (j : Job). j.content) c.self.view_is)
    (step_changes_triples c.ask.new.actor c.step.new.self c.args.oracle.now c.step.new.oracle (g.T.RowTable.rows c.args.table.now) (g.T.RowTable.rows c.step.new.table) c.in_ok-event.event c.self.inside.triples c.ask.new.writes.items c.ask.new.kept known others at ((c.in_ok-event.ensures {u = tt}).tells) ((c.in_ok-event.ensures {u = tt}).moves)
    (subst (λ (a : Actor). Sound (state_of c.args.oracle.now (g.T.RowTable.rows c.args.table.now) (a ∷ others))) (sym (ap (λ (j : Job). j.actor) c.self.view_is) ∙ sym c.ask.ensures.actor) sound) has))

pub returns-clause-queries : goal.returns-clause-queries
returns-clause-queries g c known others sound has =
    let at : IsAtWork c.ask.new.actor c.self.inside.triples c.ask.new.writes.items c.ask.new.kept = subst (λ (ts : List Triple). IsAtWork c.ask.new.actor ts c.ask.new.writes.items c.ask.new.kept) c.as_slice.ensures c.ask.ensures.work in
    subst (λ e. IsNamed e c.args.self.now.content known × HasQueries (row_at (g.T.RowTable.rows c.step.new.table)) (queries_after e c.args.self.now known)) (sym c.take_in.ensures.event)
    (subst (λ (j : Job). IsNamed (event_of c.in_ok-event.event) j.content known × HasQueries (row_at (g.T.RowTable.rows c.step.new.table)) (queries_after (event_of c.in_ok-event.event) j known)) c.self.view_is
    (step_keeps_queries c.ask.new.actor c.step.new.self c.self.inside.actor c.args.oracle.now c.step.new.oracle (g.T.RowTable.rows c.args.table.now) (g.T.RowTable.rows c.step.new.table) c.in_ok-event.event c.self.inside.triples c.ask.new.writes.items c.ask.new.kept known others at ((c.in_ok-event.ensures {u = tt}).tells) ((c.in_ok-event.ensures {u = tt}).moves)
    (subst (λ (a : Actor). Sound (state_of c.args.oracle.now (g.T.RowTable.rows c.args.table.now) (a ∷ others))) (sym (ap (λ (j : Job). j.actor) c.self.view_is) ∙ sym c.ask.ensures.actor) sound) has))

pub returns-clause-calls : goal.returns-clause-calls
returns-clause-calls g c =
    let at : IsAtWork c.ask.new.actor c.self.inside.triples c.ask.new.writes.items c.ask.new.kept = subst (λ (ts : List Triple). IsAtWork c.ask.new.actor ts c.ask.new.writes.items c.ask.new.kept) c.as_slice.ensures c.ask.ensures.work in
    step_calls_few c.ask.new.actor (Loads c.self.inside.triples) c.args.oracle.now (g.T.RowTable.rows c.args.table.now) _ _ c.args.self.now (loads_work c.ask.new.actor c.self.inside.triples c.ask.new.writes.items c.ask.new.kept at)
    (asks_nothing c.self.inside.actor c.ask.new.actor (Loads c.self.inside.triples) c.args.self.now c.ask.ensures.actor c.ask.ensures.writing c.ask.ensures.locked c.self.view_is)
    c.step.ensures.calls

pub returns-in_err-event-clause-calls : goal.returns-in_err-event-clause-calls
returns-in_err-event-clause-calls g c =
    let at : IsAtWork c.ask.new.actor c.self.inside.triples c.ask.new.writes.items c.ask.new.kept = subst (λ (ts : List Triple). IsAtWork c.ask.new.actor ts c.ask.new.writes.items c.ask.new.kept) c.as_slice.ensures c.ask.ensures.work in
    step_calls_few c.ask.new.actor (Loads c.self.inside.triples) c.args.oracle.now (g.T.RowTable.rows c.args.table.now) _ _ c.args.self.now (loads_work c.ask.new.actor c.self.inside.triples c.ask.new.writes.items c.ask.new.kept at)
    (asks_nothing c.self.inside.actor c.ask.new.actor (Loads c.self.inside.triples) c.args.self.now c.ask.ensures.actor c.ask.ensures.writing c.ask.ensures.locked c.self.view_is)
    c.step.ensures.calls

pub returns-clause-moves : goal.returns-clause-moves
returns-clause-moves g c others sound =
    let at : IsAtWork c.ask.new.actor c.self.inside.triples c.ask.new.writes.items c.ask.new.kept = subst (λ (ts : List Triple). IsAtWork c.ask.new.actor ts c.ask.new.writes.items c.ask.new.kept) c.as_slice.ensures c.ask.ensures.work in
    subst (λ (j : Job). HasMoved j c.args.oracle.now (g.T.RowTable.rows c.args.table.now) (job_of c.take_in.new.actor (Loads c.self.inside.triples)) c.step.new.oracle (g.T.RowTable.rows c.step.new.table))
    (asks_nothing c.self.inside.actor c.ask.new.actor (Loads c.self.inside.triples) c.args.self.now c.ask.ensures.actor c.ask.ensures.writing c.ask.ensures.locked c.self.view_is)
    (step_moves c.ask.new.actor c.step.new.self c.take_in.new.actor c.args.oracle.now c.step.new.oracle (g.T.RowTable.rows c.args.table.now) (g.T.RowTable.rows c.step.new.table) (Loads c.self.inside.triples) (loads_work c.ask.new.actor c.self.inside.triples c.ask.new.writes.items c.ask.new.kept at) ((c.in_ok-event.ensures {u = tt}).moves) c.take_in.ensures.goes_on
    (loads_work c.take_in.new.actor c.self.inside.triples c.take_in.new.writes.items c.take_in.new.kept
    (subst (λ (ts : List Triple). IsAtWork c.take_in.new.actor ts c.take_in.new.writes.items c.take_in.new.kept) c.as_slice-2.ensures c.take_in.ensures.work)) others
    (subst (λ (a : Actor). Sound (state_of c.args.oracle.now (g.T.RowTable.rows c.args.table.now) (a ∷ others))) (sym (ap (λ (j : Job). j.actor) c.self.view_is) ∙ sym c.ask.ensures.actor) sound))

pub returns-in_err-ask-clause-moves : goal.returns-in_err-ask-clause-moves
returns-in_err-ask-clause-moves g c others sound =
    subst (λ (j : Job). HasMoved c.args.self.now c.args.oracle.now (g.T.RowTable.rows c.args.table.now) j c.args.oracle.now (g.T.RowTable.rows c.args.table.now)) (sym (asks_nothing c.self.inside.actor c.ask.new.actor (Loads c.self.inside.triples) c.args.self.now c.ask.ensures.actor c.ask.ensures.writing c.ask.ensures.locked c.self.view_is))
    (nothing_moved c.args.self.now c.args.oracle.now c.args.oracle.now (g.T.RowTable.rows c.args.table.now) (g.T.RowTable.rows c.args.table.now) (record { same = refl; next = refl; attached = λ some. some }))

pub returns-in_err-event-clause-moves : goal.returns-in_err-event-clause-moves
returns-in_err-event-clause-moves g c others sound =
    subst (λ (p : Progress). HasMoved c.args.self.now c.args.oracle.now (g.T.RowTable.rows c.args.table.now) (job_of p (Loads c.self.inside.triples)) c.step.new.oracle (g.T.RowTable.rows c.step.new.table)) (sym (c.in_err-event.ensures {u = tt}).same)
    (subst (λ (j : Job). HasMoved c.args.self.now c.args.oracle.now (g.T.RowTable.rows c.args.table.now) j c.step.new.oracle (g.T.RowTable.rows c.step.new.table)) (sym (asks_nothing c.self.inside.actor c.ask.new.actor (Loads c.self.inside.triples) c.args.self.now c.ask.ensures.actor c.ask.ensures.writing c.ask.ensures.locked c.self.view_is))
    (nothing_moved c.args.self.now c.args.oracle.now c.step.new.oracle (g.T.RowTable.rows c.args.table.now) (g.T.RowTable.rows c.step.new.table) (c.in_err-event.ensures {u = tt}).kept))

pub returns-clause-on : goal.returns-clause-on
returns-clause-on g c =
    let at : IsAtWork c.ask.new.actor c.self.inside.triples c.ask.new.writes.items c.ask.new.kept = subst (λ (ts : List Triple). IsAtWork c.ask.new.actor ts c.ask.new.writes.items c.ask.new.kept) c.as_slice.ensures c.ask.ensures.work in
    subst (λ (j : Job). StepsOn j (job_of c.take_in.new.actor (Loads c.self.inside.triples)))
    (asks_nothing c.self.inside.actor c.ask.new.actor (Loads c.self.inside.triples) c.args.self.now c.ask.ensures.actor c.ask.ensures.writing c.ask.ensures.locked c.self.view_is)
    (step_on c.ask.new.actor c.step.new.self c.take_in.new.actor c.args.oracle.now c.step.new.oracle (g.T.RowTable.rows c.args.table.now) (g.T.RowTable.rows c.step.new.table) c.in_ok-event.event (Loads c.self.inside.triples) (loads_work c.ask.new.actor c.self.inside.triples c.ask.new.writes.items c.ask.new.kept at) ((c.in_ok-event.ensures {u = tt}).tells) c.take_in.ensures.goes_on)

pub returns-in_err-ask-clause-on : goal.returns-in_err-ask-clause-on
returns-in_err-ask-clause-on g c = subst (λ (j : Job). StepsOn c.args.self.now j) (sym (asks_nothing c.self.inside.actor c.ask.new.actor (Loads c.self.inside.triples) c.args.self.now c.ask.ensures.actor c.ask.ensures.writing c.ask.ensures.locked c.self.view_is)) (stays c.args.self.now c.args.self.now refl refl refl)

pub returns-in_err-event-clause-on : goal.returns-in_err-event-clause-on
returns-in_err-event-clause-on g c =
    subst (λ (p : Progress). StepsOn c.args.self.now (job_of p (Loads c.self.inside.triples))) (sym (c.in_err-event.ensures {u = tt}).same)
    (subst (λ (j : Job). StepsOn c.args.self.now j) (sym (asks_nothing c.self.inside.actor c.ask.new.actor (Loads c.self.inside.triples) c.args.self.now c.ask.ensures.actor c.ask.ensures.writing c.ask.ensures.locked c.self.view_is)) (stays c.args.self.now c.args.self.now refl refl refl))

pub returns-clause-job : goal.returns-clause-job
returns-clause-job g c = inl (
  c.self.inside.triples,
  load_job_of c.take_in.new.actor c.self.inside.triples c.take_in.new.writes.items c.take_in.new.kept
      (subst (λ (ts : List Triple). IsAtWork c.take_in.new.actor ts c.take_in.new.writes.items c.take_in.new.kept) c.as_slice-2.ensures c.take_in.ensures.work),
)

pub returns-in_err-ask-clause-job : goal.returns-in_err-ask-clause-job
returns-in_err-ask-clause-job g c =
    let at : IsAtWork c.ask.new.actor c.self.inside.triples c.ask.new.writes.items c.ask.new.kept = subst (λ (ts : List Triple). IsAtWork c.ask.new.actor ts c.ask.new.writes.items c.ask.new.kept) c.as_slice.ensures c.ask.ensures.work in
    inl (c.self.inside.triples, load_job_of c.ask.new.actor c.self.inside.triples c.ask.new.writes.items c.ask.new.kept at)

pub returns-in_err-event-clause-job : goal.returns-in_err-event-clause-job
returns-in_err-event-clause-job g c =
    let at : IsAtWork c.ask.new.actor c.self.inside.triples c.ask.new.writes.items c.ask.new.kept = subst (λ (ts : List Triple). IsAtWork c.ask.new.actor ts c.ask.new.writes.items c.ask.new.kept) c.as_slice.ensures c.ask.ensures.work in
    subst (λ (p : Progress). IsJob (job_of p (Loads c.self.inside.triples))) (sym (c.in_err-event.ensures {u = tt}).same)
    (inl (c.self.inside.triples, load_job_of c.ask.new.actor c.self.inside.triples c.ask.new.writes.items c.ask.new.kept at))

pub returns-in_err-event-clause-spent_draw : goal.returns-in_err-event-clause-spent_draw
returns-in_err-event-clause-spent_draw g c is =
    draws c.self.inside.actor c.ask.new.actor (Loads c.self.inside.triples) c.args.self.now c.ask.ensures.writing c.self.view_is ((c.in_err-event.ensures {u = tt}).spent_draw (search rules))

pub returns-clause-one : goal.returns-clause-one
returns-clause-one g c = c.step.ensures.one

pub returns-in_err-event-clause-one : goal.returns-in_err-event-clause-one
returns-in_err-event-clause-one g c = c.step.ensures.one
