use Rattle.std.proofs.Common.{rules, ◌≡◌, List, ◌∷◌, ◌++◌, Option, Some, true, get_or, refl, ap, subst, sym, ◌∙◌}
use Rattle.pcj_table.specs.Table.{row_at}
use Rattle.pcj_actor.specs.Progress.{MakesUpTo}
use Rattle.pcj_fit.specs.Queries.{HasQueries}
use Rattle.pcj_rows.specs.Triples.{HasTriples}
use Rattle.pcj_client.specs.Job.{loaded}
use Rattle.pcj_client.specs.Events.{triples_after}
use Rattle.pcj_clients.specs.Clients.{IsPlaceOf, after_step, are_apart}
use Rattle.pcj_clients.specs.Laws.{DrawsNext, IsClientStep, KeepsAllSound, calls_of, queries_then, triples_then}
use Rattle.pcj_clients.specs.declared.busy.Busy.{Busy}
use Rattle.pcj_clients.proofs.JobLemmas.{apart_after, goes_on_is, is_over_is}
use Rattle.pcj_clients.proofs.PlaceLemmas.{job_read, place_within}
use Rattle.pcj_clients.proofs.SoundLemmas.{changes_queries, changes_triples, keeps_all_sound}
use Rattle.pcj_clients.proofs.clients.Clients.step.Goals as goal

pub returns-in_err-told-clause-calls : goal.returns-in_err-told-clause-calls
returns-in_err-told-clause-calls g c =
    let at = subst (λ cs. IsPlaceOf cs c.args.client c.in-Some.place) (c.deref.ensures.value ∙ c.self.view_is) c.in-Some.ensures.some in
    let read = subst (λ (cs : List Busy). c.index_mut.result.now ≡ get_or cs c.in-Some.place c.index_mut.result.now) c.self.view_is c.index_mut.ensures.value in
    subst (λ job. MakesUpTo (calls_of job c.args.oracle.now (g.T.RowTable.rows c.args.table.now)) (g.T.RowTable.made c.args.table.now) (g.T.RowTable.made c.step.new.table))
    (sym (job_read c.args.self.now c.args.client c.in-Some.place c.index_mut.result.now at read)) c.step.ensures.calls

pub end-requires : goal.end-requires
end-requires g c =
    let within = place_within c.deref.result.now c.in-Some.place c.in-Some.ensures.some.busy c.in-Some.ensures.some.at in search rules

pub invariant_of-self-then-is_last : goal.invariant_of-self-then-is_last
invariant_of-self-then-is_last g c =
    let there = subst (λ cs. IsPlaceOf cs c.args.client c.in-Some.place) c.deref.ensures.value c.in-Some.ensures.some in
    subst (λ cs. are_apart cs ≡ true) (sym (c.end.ensures ∙ is_over_is c.self.inside.busy.items c.args.client c.in-Some.place c.index_mut.result.now c.step.new.self c.in_ok-told.told there (sym c.is_last.ensures ∙ c.if-is_last.true)))
    (apart_after c.self.inside.busy.items c.args.client c.step.new.self c.in_ok-told.told c.self.invariant)

pub returns-then-is_last-clause-told : goal.returns-then-is_last-clause-told
returns-then-is_last-clause-told g c =
    let at = subst (λ cs. IsPlaceOf cs c.args.client c.in-Some.place) (c.deref.ensures.value ∙ c.self.view_is) c.in-Some.ensures.some in
    let there = subst (λ cs. IsPlaceOf cs c.args.client c.in-Some.place) c.deref.ensures.value c.in-Some.ensures.some in
    let read = subst (λ (cs : List Busy). c.index_mut.result.now ≡ get_or cs c.in-Some.place c.index_mut.result.now) c.self.view_is c.index_mut.ensures.value in
    let after = c.end.ensures ∙ is_over_is c.self.inside.busy.items c.args.client c.in-Some.place c.index_mut.result.now c.step.new.self c.in_ok-told.told there (sym c.is_last.ensures ∙ c.if-is_last.true) ∙ ap (λ (cs : List Busy). after_step cs c.args.client c.step.new.self c.in_ok-told.told) c.self.view_is in
    subst (λ job. IsClientStep job c.args.client c.args.self.now c.args.oracle.now (g.T.RowTable.rows c.args.table.now) (Some c.in_ok-told.told) c.end.new.busy.items c.step.new.oracle (g.T.RowTable.rows c.step.new.table))
    (sym (job_read c.args.self.now c.args.client c.in-Some.place c.index_mut.result.now at read)) (
      c.in_ok-told.told,
      refl,
      record {
        after = c.step.new.self;
        told = (c.in_ok-told.ensures {u = tt}).told;
        commits = (c.in_ok-told.ensures {u = tt}).commit;
        moves = c.step.ensures.moves;
        on = c.step.ensures.on;
        is = c.step.ensures.job;
        content = c.step.ensures.content;
        sound = c.step.ensures.sound;
        triples = (c.in_ok-told.ensures {u = tt}).triples;
        queries = (c.in_ok-told.ensures {u = tt}).queries;
        left = after;
      },
    )

pub returns-then-is_last-clause-sound : goal.returns-then-is_last-clause-sound
returns-then-is_last-clause-sound g c =
    let at = subst (λ cs. IsPlaceOf cs c.args.client c.in-Some.place) (c.deref.ensures.value ∙ c.self.view_is) c.in-Some.ensures.some in
    let there = subst (λ cs. IsPlaceOf cs c.args.client c.in-Some.place) c.deref.ensures.value c.in-Some.ensures.some in
    let read = subst (λ (cs : List Busy). c.index_mut.result.now ≡ get_or cs c.in-Some.place c.index_mut.result.now) c.self.view_is c.index_mut.ensures.value in
    let after = c.end.ensures ∙ is_over_is c.self.inside.busy.items c.args.client c.in-Some.place c.index_mut.result.now c.step.new.self c.in_ok-told.told there (sym c.is_last.ensures ∙ c.if-is_last.true) ∙ ap (λ (cs : List Busy). after_step cs c.args.client c.step.new.self c.in_ok-told.told) c.self.view_is in
    subst (λ (cs : List Busy). KeepsAllSound c.args.self.now c.args.oracle.now (g.T.RowTable.rows c.args.table.now) cs c.step.new.oracle (g.T.RowTable.rows c.step.new.table)) (sym after)
    (keeps_all_sound c.args.self.now c.args.client c.index_mut.result.now.job c.step.new.self c.in_ok-told.told c.args.oracle.now c.step.new.oracle (g.T.RowTable.rows c.args.table.now) (g.T.RowTable.rows c.step.new.table) (job_read c.args.self.now c.args.client c.in-Some.place c.index_mut.result.now at read) c.step.ensures.sound)

pub returns-then-is_last-clause-triples : goal.returns-then-is_last-clause-triples
returns-then-is_last-clause-triples g c known others sound has =
    let at = subst (λ cs. IsPlaceOf cs c.args.client c.in-Some.place) (c.deref.ensures.value ∙ c.self.view_is) c.in-Some.ensures.some in
    let read = subst (λ (cs : List Busy). c.index_mut.result.now ≡ get_or cs c.in-Some.place c.index_mut.result.now) c.self.view_is c.index_mut.ensures.value in
    subst (λ job. HasTriples (row_at (g.T.RowTable.rows c.step.new.table)) (triples_then job (Some c.in_ok-told.told) known)) (sym (job_read c.args.self.now c.args.client c.in-Some.place c.index_mut.result.now at read))
    (changes_triples c.args.self.now c.args.client c.index_mut.result.now.job c.args.oracle.now (g.T.RowTable.rows c.args.table.now) (g.T.RowTable.rows c.step.new.table) known (triples_after c.in_ok-told.told known (loaded c.index_mut.result.now.job.content)) (job_read c.args.self.now c.args.client c.in-Some.place c.index_mut.result.now at read)
    ((c.in_ok-told.ensures {u = tt}).triples known) others sound has)

pub returns-then-is_last-clause-queries : goal.returns-then-is_last-clause-queries
returns-then-is_last-clause-queries g c known others sound has =
    let at = subst (λ cs. IsPlaceOf cs c.args.client c.in-Some.place) (c.deref.ensures.value ∙ c.self.view_is) c.in-Some.ensures.some in
    let read = subst (λ (cs : List Busy). c.index_mut.result.now ≡ get_or cs c.in-Some.place c.index_mut.result.now) c.self.view_is c.index_mut.ensures.value in
    subst (λ job. HasQueries (row_at (g.T.RowTable.rows c.step.new.table)) (queries_then job (Some c.in_ok-told.told) known)) (sym (job_read c.args.self.now c.args.client c.in-Some.place c.index_mut.result.now at read))
    (changes_queries c.args.self.now c.args.client c.index_mut.result.now.job c.args.oracle.now (g.T.RowTable.rows c.args.table.now) (g.T.RowTable.rows c.step.new.table) known c.in_ok-told.told (job_read c.args.self.now c.args.client c.in-Some.place c.index_mut.result.now at read)
    ((c.in_ok-told.ensures {u = tt}).queries known) others sound has)

pub returns-then-is_last-clause-calls : goal.returns-then-is_last-clause-calls
returns-then-is_last-clause-calls g c =
    let at = subst (λ cs. IsPlaceOf cs c.args.client c.in-Some.place) (c.deref.ensures.value ∙ c.self.view_is) c.in-Some.ensures.some in
    let read = subst (λ (cs : List Busy). c.index_mut.result.now ≡ get_or cs c.in-Some.place c.index_mut.result.now) c.self.view_is c.index_mut.ensures.value in
    subst (λ job. MakesUpTo (calls_of job c.args.oracle.now (g.T.RowTable.rows c.args.table.now)) (g.T.RowTable.made c.args.table.now) (g.T.RowTable.made c.step.new.table))
    (sym (job_read c.args.self.now c.args.client c.in-Some.place c.index_mut.result.now at read)) c.step.ensures.calls

pub invariant_of-self-else-is_last : goal.invariant_of-self-else-is_last
invariant_of-self-else-is_last g c =
    let there = subst (λ cs. IsPlaceOf cs c.args.client c.in-Some.place) c.deref.ensures.value c.in-Some.ensures.some in
    subst (λ cs. are_apart cs ≡ true) (sym (goes_on_is c.self.inside.busy.items c.args.client c.in-Some.place c.index_mut.result.now c.step.new.self c.in_ok-told.told there c.index_mut.ensures.value (sym c.is_last.ensures ∙ c.if-is_last.false)))
    (apart_after c.self.inside.busy.items c.args.client c.step.new.self c.in_ok-told.told c.self.invariant)

pub returns-else-is_last-clause-told : goal.returns-else-is_last-clause-told
returns-else-is_last-clause-told g c =
    let at = subst (λ cs. IsPlaceOf cs c.args.client c.in-Some.place) (c.deref.ensures.value ∙ c.self.view_is) c.in-Some.ensures.some in
    let there = subst (λ cs. IsPlaceOf cs c.args.client c.in-Some.place) c.deref.ensures.value c.in-Some.ensures.some in
    let read = subst (λ (cs : List Busy). c.index_mut.result.now ≡ get_or cs c.in-Some.place c.index_mut.result.now) c.self.view_is c.index_mut.ensures.value in
    let after = goes_on_is c.self.inside.busy.items c.args.client c.in-Some.place c.index_mut.result.now c.step.new.self c.in_ok-told.told there c.index_mut.ensures.value (sym c.is_last.ensures ∙ c.if-is_last.false) ∙ ap (λ (cs : List Busy). after_step cs c.args.client c.step.new.self c.in_ok-told.told) c.self.view_is in
    subst (λ job. IsClientStep job c.args.client c.args.self.now c.args.oracle.now (g.T.RowTable.rows c.args.table.now) (Some c.in_ok-told.told) (Rattle.std.proofs.Common.slice_set c.self.inside.busy.items c.in-Some.place (record { client = c.index_mut.result.now.client; job = c.step.new.self })) c.step.new.oracle (g.T.RowTable.rows c.step.new.table))
    (sym (job_read c.args.self.now c.args.client c.in-Some.place c.index_mut.result.now at read)) (
      c.in_ok-told.told,
      refl,
      record {
        after = c.step.new.self;
        told = (c.in_ok-told.ensures {u = tt}).told;
        commits = (c.in_ok-told.ensures {u = tt}).commit;
        moves = c.step.ensures.moves;
        on = c.step.ensures.on;
        is = c.step.ensures.job;
        content = c.step.ensures.content;
        sound = c.step.ensures.sound;
        triples = (c.in_ok-told.ensures {u = tt}).triples;
        queries = (c.in_ok-told.ensures {u = tt}).queries;
        left = after;
      },
    )

pub returns-else-is_last-clause-sound : goal.returns-else-is_last-clause-sound
returns-else-is_last-clause-sound g c =
    let at = subst (λ cs. IsPlaceOf cs c.args.client c.in-Some.place) (c.deref.ensures.value ∙ c.self.view_is) c.in-Some.ensures.some in
    let there = subst (λ cs. IsPlaceOf cs c.args.client c.in-Some.place) c.deref.ensures.value c.in-Some.ensures.some in
    let read = subst (λ (cs : List Busy). c.index_mut.result.now ≡ get_or cs c.in-Some.place c.index_mut.result.now) c.self.view_is c.index_mut.ensures.value in
    let after = goes_on_is c.self.inside.busy.items c.args.client c.in-Some.place c.index_mut.result.now c.step.new.self c.in_ok-told.told there c.index_mut.ensures.value (sym c.is_last.ensures ∙ c.if-is_last.false) ∙ ap (λ (cs : List Busy). after_step cs c.args.client c.step.new.self c.in_ok-told.told) c.self.view_is in
    subst (λ (cs : List Busy). KeepsAllSound c.args.self.now c.args.oracle.now (g.T.RowTable.rows c.args.table.now) cs c.step.new.oracle (g.T.RowTable.rows c.step.new.table)) (sym after)
    (keeps_all_sound c.args.self.now c.args.client c.index_mut.result.now.job c.step.new.self c.in_ok-told.told c.args.oracle.now c.step.new.oracle (g.T.RowTable.rows c.args.table.now) (g.T.RowTable.rows c.step.new.table) (job_read c.args.self.now c.args.client c.in-Some.place c.index_mut.result.now at read) c.step.ensures.sound)

pub returns-else-is_last-clause-triples : goal.returns-else-is_last-clause-triples
returns-else-is_last-clause-triples g c known others sound has =
    let at = subst (λ cs. IsPlaceOf cs c.args.client c.in-Some.place) (c.deref.ensures.value ∙ c.self.view_is) c.in-Some.ensures.some in
    let read = subst (λ (cs : List Busy). c.index_mut.result.now ≡ get_or cs c.in-Some.place c.index_mut.result.now) c.self.view_is c.index_mut.ensures.value in
    subst (λ job. HasTriples (row_at (g.T.RowTable.rows c.step.new.table)) (triples_then job (Some c.in_ok-told.told) known)) (sym (job_read c.args.self.now c.args.client c.in-Some.place c.index_mut.result.now at read))
    (changes_triples c.args.self.now c.args.client c.index_mut.result.now.job c.args.oracle.now (g.T.RowTable.rows c.args.table.now) (g.T.RowTable.rows c.step.new.table) known (triples_after c.in_ok-told.told known (loaded c.index_mut.result.now.job.content)) (job_read c.args.self.now c.args.client c.in-Some.place c.index_mut.result.now at read)
    ((c.in_ok-told.ensures {u = tt}).triples known) others sound has)

pub returns-else-is_last-clause-queries : goal.returns-else-is_last-clause-queries
returns-else-is_last-clause-queries g c known others sound has =
    let at = subst (λ cs. IsPlaceOf cs c.args.client c.in-Some.place) (c.deref.ensures.value ∙ c.self.view_is) c.in-Some.ensures.some in
    let read = subst (λ (cs : List Busy). c.index_mut.result.now ≡ get_or cs c.in-Some.place c.index_mut.result.now) c.self.view_is c.index_mut.ensures.value in
    subst (λ job. HasQueries (row_at (g.T.RowTable.rows c.step.new.table)) (queries_then job (Some c.in_ok-told.told) known)) (sym (job_read c.args.self.now c.args.client c.in-Some.place c.index_mut.result.now at read))
    (changes_queries c.args.self.now c.args.client c.index_mut.result.now.job c.args.oracle.now (g.T.RowTable.rows c.args.table.now) (g.T.RowTable.rows c.step.new.table) known c.in_ok-told.told (job_read c.args.self.now c.args.client c.in-Some.place c.index_mut.result.now at read)
    ((c.in_ok-told.ensures {u = tt}).queries known) others sound has)

pub returns-else-is_last-clause-calls : goal.returns-else-is_last-clause-calls
returns-else-is_last-clause-calls g c =
    let at = subst (λ cs. IsPlaceOf cs c.args.client c.in-Some.place) (c.deref.ensures.value ∙ c.self.view_is) c.in-Some.ensures.some in
    let read = subst (λ (cs : List Busy). c.index_mut.result.now ≡ get_or cs c.in-Some.place c.index_mut.result.now) c.self.view_is c.index_mut.ensures.value in
    subst (λ job. MakesUpTo (calls_of job c.args.oracle.now (g.T.RowTable.rows c.args.table.now)) (g.T.RowTable.made c.args.table.now) (g.T.RowTable.made c.step.new.table))
    (sym (job_read c.args.self.now c.args.client c.in-Some.place c.index_mut.result.now at read)) c.step.ensures.calls

pub returns-in_err-told-clause-spent_draw : goal.returns-in_err-told-clause-spent_draw
returns-in_err-told-clause-spent_draw g c is =
    let at = subst (λ cs. IsPlaceOf cs c.args.client c.in-Some.place) (c.deref.ensures.value ∙ c.self.view_is) c.in-Some.ensures.some in
    let read = subst (λ (cs : List Busy). c.index_mut.result.now ≡ get_or cs c.in-Some.place c.index_mut.result.now) c.self.view_is c.index_mut.ensures.value in
    subst DrawsNext (sym (job_read c.args.self.now c.args.client c.in-Some.place c.index_mut.result.now at read)) ((c.in_err-told.ensures {u = tt}).spent_draw (search rules))

pub returns-in_err-told-clause-one : goal.returns-in_err-told-clause-one
returns-in_err-told-clause-one g c = c.step.ensures.one

pub returns-then-is_last-clause-one : goal.returns-then-is_last-clause-one
returns-then-is_last-clause-one g c = c.step.ensures.one

pub returns-else-is_last-clause-one : goal.returns-else-is_last-clause-one
returns-else-is_last-clause-one g c = c.step.ensures.one
