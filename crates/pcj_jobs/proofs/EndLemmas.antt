-- How a job may end, by what is known of it.
use Rattle.std.proofs.Common.{◌≡◌, ◌⊎◌, inl, inr, ◌≤◌, ◌<◌, ℕ, zero, suc, Bool, true, false, ◌==◌, nat_le, nat_lt, List, [], ◌∷◌, ◌++◌, length, take, Option, Some, None, refl, ap, sym, subst, ◌∙◌, arith, cond}
use Rattle.std.proofs.lemmas.Bool.{and_parts, eq-eqb, ltb-true, leb-true}
use Rattle.std.proofs.lemmas.List.{take_all}
use Rattle.std.specs.List.{Contains, list_any, slice_get}
use Rattle.std.specs.Option.{option_map}
use Rattle.pcj_term.proofs.ByteLemmas.{same_bytes_itself}
use Rattle.pcj_term.proofs.ListLemmas.{first_there, later_there}
use Rattle.pcj_term.specs.declared.triple.Triple.{Triple}
use Rattle.pcj_term.specs.Triple.{same_triple}
use Rattle.pcj_table.specs.Row.{are_below, is_locked_at, newest}
use Rattle.pcj_table.specs.Table.{Key, Table, row_at}
use Rattle.pcj_table.specs.declared.lock.Lock.{Lock}
use Rattle.pcj_table.specs.declared.row.Row.{Row}
use Rattle.pcj_table.specs.declared.version.Version.{Version}
use Rattle.pcj_table.specs.declared.write.Write.{Write}
use Rattle.pcj_oracle.specs.declared.block.Block.{Block}
use Rattle.pcj_mvcc.proofs.Laws.{read_unlocked}
use Rattle.pcj_mvcc.specs.Acts.{lock_of}
use Rattle.pcj_mvcc.specs.Reading.{Rows, versions_read}
use Rattle.pcj_moves.specs.Traces.{Trace, traces}
use Rattle.pcj_moves.specs.Transactions.{Transaction, Transacts, lock_at, primary_of, write_at}
use Rattle.pcj_moves.proofs.OtherLemmas.{lock_is}
use Rattle.pcj_moves.proofs.WriteLemmas.{first_of, undrawn_is_undone}
use Rattle.pcj_moves.specs.declared.answer.Answer.{Answer}
use Rattle.pcj_txn.specs.Progress.{CommitPrimary, End, Prewrite, Progress as TxnProgress, due, due_commit, due_first, due_last, due_of}
use Rattle.pcj_txn.specs.Steps.{Conflicts, LosesPrimary, Steps as TxnSteps, newest_from, versions_from}
use Rattle.pcj_txn.specs.declared.event.TxnEvent.{TxnEvent}
use Rattle.pcj_txn.specs.declared.event.TxnEvent.TheVariants as txn
use Rattle.pcj_encode.specs.declared.order.Order.TheVariants.{Spo, Pos, Osp}
use Rattle.pcj_rowtables.specs.Rows.{triple_key}
use Rattle.pcj_rows.specs.Plans.{absent_of, load_writes, put_mark, registration_writes, task_key, triple_writes}
use Rattle.pcj_rows.proofs.PlanLemmas.{as_task, by_order}
use Rattle.pcj_client.specs.Job.{Content, Job}
use Rattle.pcj_client.specs.Job.Content.{Loads, Registers}
use Rattle.pcj_client.specs.Events.{IsTold, job_event}
use Rattle.pcj_client.specs.declared.event.JobEvent.{JobEvent}
use Rattle.pcj_client.specs.declared.event.JobEvent.TheVariants as does
use Rattle.pcj_model.specs.Job as told
use Rattle.pcj_model.specs.Queries.{Registration}
use Rattle.pcj_jobs.specs.Agrees.{EndsAs, commit_told}
use Rattle.pcj_jobs.specs.Known.{AreUntouched, IsKnown, is_row_of}
use Rattle.pcj_jobs.proofs.CommitLemmas.{absent_is_its, among, of_mark}
use Rattle.pcj_jobs.proofs.ContentLemmas.{IsPlanOf, write_there}
use Rattle.pcj_jobs.proofs.JobLemmas.{IsWriting, is_writing, writes_nothing}

-- ---- what is due

-- a prewrite is due only before the commit is drawn
pub prewrite_due : (writes : List Write) (prewritten : ℕ) (commit : Option ℕ) (committed : Bool) (settled : ℕ) (write : Write) → due_of writes prewritten commit committed settled ≡ Prewrite write → (slice_get writes prewritten ≡ Some write) × (commit ≡ None)
prewrite_due writes prewritten None committed settled write e = (first (slice_get writes prewritten) refl e, refl)
  where
    first : (found : Option Write) → slice_get writes prewritten ≡ found → due_first found ≡ Prewrite write → slice_get writes prewritten ≡ Some write
    first None is due = absurd cc
    first (Some w) is due = let same : w ≡ write = cc in is ∙ ap Some same
prewrite_due writes prewritten (Some commit) false settled write e = absurd (never (slice_get writes 0) e)
  where
    never : (found : Option Write) → due_commit found commit ≡ Prewrite write → ⊥
    never None due = cc
    never (Some w) due = cc
prewrite_due writes prewritten (Some commit) true settled write e = absurd (never (slice_get writes settled) e)
  where
    never : (found : Option Write) → due_last found commit ≡ Prewrite write → ⊥
    never None due = cc
    never (Some w) due = cc

-- nothing is due only after the commit
pub end_due : (writes : List Write) (prewritten : ℕ) (commit : Option ℕ) (committed : Bool) (settled : ℕ) → due_of writes prewritten commit committed settled ≡ End → committed ≡ true
end_due writes prewritten None committed settled e = absurd (never (slice_get writes prewritten) e)
  where
    never : (found : Option Write) → due_first found ≡ End → ⊥
    never None due = cc
    never (Some w) due = cc
end_due writes prewritten (Some commit) false settled e = absurd (never (slice_get writes 0) e)
  where
    never : (found : Option Write) → due_commit found commit ≡ End → ⊥
    never None due = cc
    never (Some w) due = cc
end_due writes prewritten (Some commit) true settled e = refl

-- the primary's commit is due once it is drawn
pub primary_due : (writes : List Write) (prewritten : ℕ) (commit : Option ℕ) (committed : Bool) (settled : ℕ) (write : Write) (number : ℕ) → due_of writes prewritten commit committed settled ≡ CommitPrimary write number →
    (slice_get writes 0 ≡ Some write) × (commit ≡ Some number) × (committed ≡ false)
primary_due writes prewritten None committed settled write number e = absurd (never (slice_get writes prewritten) e)
  where
    never : (found : Option Write) → due_first found ≡ CommitPrimary write number → ⊥
    never None due = cc
    never (Some w) due = cc
primary_due writes prewritten (Some commit) false settled write number e = by (slice_get writes 0) refl e
  where
    by : (found : Option Write) → slice_get writes 0 ≡ found → due_commit found commit ≡ CommitPrimary write number → (slice_get writes 0 ≡ Some write) × (Some commit ≡ Some number) × (false ≡ false)
    by None is due = absurd cc
    by (Some w) is due = let same : w ≡ write = cc in let number_is : commit ≡ number = cc in (is ∙ ap Some same, ap Some number_is, refl)
primary_due writes prewritten (Some commit) true settled write number e = absurd (never (slice_get writes settled) e)
  where
    never : (found : Option Write) → due_last found commit ≡ CommitPrimary write number → ⊥
    never None due = cc
    never (Some w) due = cc

-- ---- a conflict

-- the writes of a triple are of its rows
row_of_write : (triple : Triple) (write : Write) (rest : List Write) (place : ℕ) → slice_get (triple_writes triple ++ rest) place ≡ Some write → (is_row_of triple write.key ≡ true) ⊎ ((later : ℕ) × (slice_get rest later ≡ Some write))
row_of_write triple write rest zero at = inl (let same : put_mark (triple_key Spo triple) ≡ write = cc in subst (λ (w : Write). is_row_of triple w.key ≡ true) same (of_mark (by_order Spo) triple))
row_of_write triple write rest (suc zero) at = inl (let same : put_mark (triple_key Pos triple) ≡ write = cc in subst (λ (w : Write). is_row_of triple w.key ≡ true) same (of_mark (by_order Pos) triple))
row_of_write triple write rest (suc (suc zero)) at = inl (let same : put_mark (triple_key Osp triple) ≡ write = cc in subst (λ (w : Write). is_row_of triple w.key ≡ true) same (of_mark (by_order Osp) triple))
row_of_write triple write rest (suc (suc (suc zero))) at = inl (let same : put_mark (task_key triple) ≡ write = cc in subst (λ (w : Write). is_row_of triple w.key ≡ true) same (of_mark as_task triple))
row_of_write triple write rest (suc (suc (suc (suc later)))) at = inr (later, at)

-- a write of a load is of one of the triples that it writes
written_of : (triples : List Triple) (place : ℕ) (write : Write) → slice_get (load_writes triples) place ≡ Some write → (triple : Triple) × Contains triples triple × (is_row_of triple write.key ≡ true)
written_of [] place write at = absurd cc
written_of (first ∷ triples) place write at = elim (row_of_write first write (load_writes triples) place at) [
  | inl here ↦ (first, first_there first triples, here)
  | inr later ↦ let found = written_of triples later.0 write later.1 in (found.0, later_there first triples found.0 found.1, found.2)
]

absent_contained : (triples : List Triple) (answers : List Answer) (triple : Triple) → Contains (absent_of triples answers) triple → Contains triples triple
absent_contained triples answers triple there = absent_is_its triples answers triple (among_absent (absent_of triples answers) triple there)
  where
    among_absent : (ts : List Triple) (t : Triple) → Contains ts t → list_any (same_triple t) ts ≡ true
    among_absent ts t held = among ts t held

-- a version of the start or later was found
later_version : (at : ℕ) (versions : List Version) (commit : ℕ) → newest_from at versions ≡ Some commit → are_below at versions ≡ true → ⊥
later_version at versions commit found below = none versions below found
  where
    empty : (vs : List Version) → are_below at vs ≡ true → versions_from at vs ≡ []
    empty [] all = refl
    empty (version ∷ vs) all =
        let parts = and_parts (nat_lt version.commit at) (are_below at vs) all in
        let less : version.commit < at = ltb-true version.commit at parts.0 in
        ap (λ b. cond b (version ∷ versions_from at vs) (versions_from at vs)) (not_at (nat_le at version.commit) refl less) ∙ empty vs parts.1
      where
        not_at : (b : Bool) → nat_le at version.commit ≡ b → version.commit < at → nat_le at version.commit ≡ false
        not_at true e less = absurd (let le : at ≤ version.commit = leb-true at version.commit e in omega (arith, le, less))
        not_at false e less = e

    none : (vs : List Version) → are_below at vs ≡ true → newest_from at vs ≡ Some commit → ⊥
    none vs all found = let clash : None ≡ Some commit = ap (λ (xs : List Version). option_map (λ (v : Version). v.commit) (newest xs)) (sym (empty vs all)) ∙ found in cc

-- a row that a job writes
write_untouched : (rows : Rows) (start : ℕ) (answers : List Answer) (writes : List Write) (content : Content) (place : ℕ) (write : Write) → IsPlanOf content start answers writes → slice_get writes place ≡ Some write → AreUntouched rows start content →
    are_below start (versions_read rows write.key) ≡ true
write_untouched rows start answers writes (Loads triples) place write plan at untouched =
    let found = written_of (absent_of triples answers) place write (ap (λ ws. slice_get ws place) (sym plan.writes_are) ∙ at) in untouched found.0 (absent_contained triples answers found.0 found.1) write.key found.2
write_untouched rows start answers writes (Registers name tree) place write plan at untouched =
    untouched write.key (write_there (registration_writes start name tree) place write (ap (λ ws. slice_get ws place) (sym plan.writes_are) ∙ at))

-- what is known of a job that met a conflict
conflict_has_rival : (table : Table) (job : Job) (known : told.Job) (progress : TxnProgress) (key : Key) (commit : ℕ) → IsKnown (row_at table) job known → IsWriting job progress → Conflicts progress table key commit → job.actor.transaction.committed ≡ false → known.rival ≡ true
conflict_has_rival table job known progress key commit is come conflicts undone = by known.rival refl
  where
    due_now : (slice_get progress.transaction.writes progress.transaction.prewritten ≡ Some conflicts.write) × (progress.transaction.commit ≡ None)
    due_now = prewrite_due progress.transaction.writes progress.transaction.prewritten progress.transaction.commit progress.transaction.committed progress.settled conflicts.write conflicts.due

    at : slice_get job.actor.transaction.writes progress.transaction.prewritten ≡ Some conflicts.write
    at = ap (λ (t : Transaction). slice_get t.writes progress.transaction.prewritten) come.transaction ∙ due_now.0

    by : (b : Bool) → known.rival ≡ b → known.rival ≡ true
    by true e = e
    by false e = absurd (later_version progress.start (row_at table key).versions commit conflicts.later
        (ap (λ s. are_below s (row_at table key).versions) come.start ∙ ap (are_below job.actor.start) (sym (read_unlocked (row_at table) key conflicts.unlocked))
        ∙ ap (λ k. are_below job.actor.start (versions_read (row_at table) k)) conflicts.of
        ∙ write_untouched (row_at table) job.actor.start job.actor.answers job.actor.transaction.writes job.content progress.transaction.prewritten conflicts.write come.plan at (is.untouched undone e)))

-- and of one whose primary was lost
lost_was_met : (table : Table) (job : Job) (known : told.Job) (progress : TxnProgress) (row : Row) → IsKnown (row_at table) job known → IsWriting job progress → LosesPrimary progress table row → job.actor.transaction.committed ≡ false →
    Transacts job.actor.start job.actor.transaction (traces job.actor.start (row_at table)) → known.met ≡ true
lost_was_met table job known progress row is come loses undone transacts = by known.met refl
  where
    due_now : (slice_get progress.transaction.writes 0 ≡ Some loses.write) × (progress.transaction.commit ≡ Some loses.commit) × (progress.transaction.committed ≡ false)
    due_now = primary_due progress.transaction.writes progress.transaction.prewritten progress.transaction.commit progress.transaction.committed progress.settled loses.write loses.commit loses.due

    first : (rest : List Write) × (job.actor.transaction.writes ≡ loses.write ∷ rest)
    first = first_of job.actor.transaction.writes loses.write (ap (λ (t : Transaction). slice_get t.writes 0) come.transaction ∙ due_now.0)

    taken : take job.actor.transaction.prewritten job.actor.transaction.writes ≡ loses.write ∷ first.0
    taken = ap (λ n. take n job.actor.transaction.writes) (transacts.all loses.commit (ap (λ (t : Transaction). t.commit) come.transaction ∙ due_now.1)) ∙ take_all (length job.actor.transaction.writes) job.actor.transaction.writes (omega arith) ∙ first.1

    lock : Lock
    lock = lock_of loses.write job.actor.start (primary_of job.actor.transaction)

    written : lock_at job.actor.start job.actor.transaction loses.write.key ≡ Some (lock_of loses.write job.actor.start (primary_of job.actor.transaction))
    written = ap (λ ws. option_map (λ w. lock_of w job.actor.start (primary_of job.actor.transaction)) (write_at ws loses.write.key)) taken
        ∙ ap (λ b. option_map (λ w. lock_of w job.actor.start (primary_of job.actor.transaction)) (cond b (Some loses.write) (write_at first.0 loses.write.key))) (same_bytes_itself loses.write.key)

    is_there : (found : Option Lock) (l : Lock) → found ≡ Some l → l.start ≡ job.actor.start → is_locked_at job.actor.start found ≡ true
    is_there found l e same = ap (is_locked_at job.actor.start) e ∙ ap (λ s. s == job.actor.start) same ∙ eq-eqb job.actor.start job.actor.start refl

    by : (b : Bool) → known.met ≡ b → known.met ≡ true
    by true e = e
    by false e = absurd (
        let held = lock_is (row_at table loses.write.key).lock job.actor.start (lock_of loses.write job.actor.start (primary_of job.actor.transaction)) (ap (λ (t : Trace). t.lock) (is.held undone e loses.write.key) ∙ written) in
        let locked : is_locked_at job.actor.start (row_at table loses.write.key).lock ≡ true = is_there (row_at table loses.write.key).lock (lock_of loses.write job.actor.start (primary_of job.actor.transaction)) held.0 refl in
        let clash : true ≡ false = sym locked ∙ ap (λ s. is_locked_at s (row_at table loses.write.key).lock) (sym come.start) ∙ ap (λ (r : Row). is_locked_at progress.start r.lock) (sym loses.is) ∙ loses.unlocked in cc
        )

-- ---- how it ends

pub record EndsSo (queries : List Registration) (known : told.Job) (event : JobEvent) : Type 0 where
  pub end : told.StepsEnd
  pub ends_as : EndsAs event end
  pub ends : told.MayEnd queries known (commit_told event) end

ends_with : (queries : List Registration) (table : Table) (job : Job) (known : told.Job) (progress : TxnProgress) (oracle : Option Block) (done : TxnEvent) (after : TxnProgress) (oracle' : Option Block) (table' : Table) → IsKnown (row_at table) job known → IsWriting job progress →
    Transacts job.actor.start job.actor.transaction (traces job.actor.start (row_at table)) → TxnSteps progress oracle table done after oracle' table' → EndsSo queries known (job_event done)
ends_with queries table job known progress oracle txn.Prewrote after oracle' table' is come transacts steps = record { end = told.StepsEnd.AllMade; ends_as = refl; ends = tt }
ends_with queries table job known progress oracle (txn.MetLock key lock) after oracle' table' is come transacts steps = record { end = told.StepsEnd.AllMade; ends_as = refl; ends = tt }
ends_with queries table job known progress oracle (txn.Conflict key commit) after oracle' table' is come transacts steps = record {
  end = told.StepsEnd.IsAborted;
  ends_as = refl;
  ends = (is.is_committed ∙ undone, refl, inr (conflict_has_rival table job known progress key commit is come steps.0 undone));
}
  where
    undone : job.actor.transaction.committed ≡ false
    undone = undrawn_is_undone job.actor.start job.actor.transaction (traces job.actor.start (row_at table)) transacts
        (ap (λ (t : Transaction). t.commit) come.transaction ∙ (prewrite_due progress.transaction.writes progress.transaction.prewritten progress.transaction.commit progress.transaction.committed progress.settled (steps.0).write (steps.0).due).1)
ends_with queries table job known progress oracle (txn.DrewCommit commit) after oracle' table' is come transacts steps = record { end = told.StepsEnd.AllMade; ends_as = refl; ends = tt }
ends_with queries table job known progress oracle (txn.Committed commit) after oracle' table' is come transacts steps = record { end = told.StepsEnd.AllMade; ends_as = refl; ends = tt }
ends_with queries table job known progress oracle (txn.PrimaryLost row) after oracle' table' is come transacts steps = record {
  end = told.StepsEnd.IsAborted;
  ends_as = refl;
  ends = (is.is_committed ∙ undone, refl, inl (lost_was_met table job known progress row is come steps.0 undone transacts));
}
  where
    undone : job.actor.transaction.committed ≡ false
    undone = ap (λ (t : Transaction). t.committed) come.transaction
        ∙ (primary_due progress.transaction.writes progress.transaction.prewritten progress.transaction.commit progress.transaction.committed progress.settled (steps.0).write (steps.0).commit (steps.0).due).2
ends_with queries table job known progress oracle txn.SecondaryDone after oracle' table' is come transacts steps = record { end = told.StepsEnd.AllMade; ends_as = refl; ends = tt }
ends_with queries table job known progress oracle txn.Done after oracle' table' is come transacts steps = record {
  end = told.StepsEnd.IsDone;
  ends_as = refl;
  ends = inl (is.is_committed ∙ ap (λ (t : Transaction). t.committed) come.transaction ∙ end_due progress.transaction.writes progress.transaction.prewritten progress.transaction.commit progress.transaction.committed progress.settled steps.0);
}

pub ends_so : (queries : List Registration) (oracle : Option Block) (table : Table) (job : Job) (known : told.Job) (event : JobEvent) (after : Job) (oracle' : Option Block) (table' : Table) → IsKnown (row_at table) job known →
    Transacts job.actor.start job.actor.transaction (traces job.actor.start (row_at table)) → (event ≡ does.Taken → told.is_name_held queries known.content ≡ true) → IsTold job oracle table event after oracle' table' → EndsSo queries known event
ends_so queries oracle table job known event after oracle' table' is transacts held (inl worked) = subst (EndsSo queries known) (sym worked.0) (record { end = told.StepsEnd.AllMade; ends_as = refl; ends = tt })
ends_so queries oracle table job known event after oracle' table' is transacts held (inr (inl steps)) = let (none, before, writing, done, next, made, says) = steps in
    subst (EndsSo queries known) (sym says) (ends_with queries table job known before oracle done next oracle' table' is (is_writing job before is.is writing) transacts made)
ends_so queries oracle table job known event after oracle' table' is transacts held (inr (inr taken)) = subst (EndsSo queries known) (sym taken.0) (record {
  end = told.StepsEnd.IsTaken;
  ends_as = refl;
  ends = (is.is_committed ∙ ap (λ (t : Transaction). t.committed) (writes_nothing job is.is taken.2), refl, held taken.0);
})
