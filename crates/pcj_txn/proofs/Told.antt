-- A step tells what the row that it met allows.
use Rattle.std.proofs.Common.{◌≡◌, inl, inr, ℕ, true, not, is_some, List, [], ◌∷◌, Option, Some, None, refl, ap, sym, ◌∙◌}
use Rattle.std.specs.Option.{option_map}
use Rattle.std.proofs.lemmas.Bool.{and_parts, ltb-true, lt-leb}
use Rattle.pcj_table.specs.declared.lock.Lock.{Lock}
use Rattle.pcj_table.specs.declared.row.Row.{Row}
use Rattle.pcj_table.specs.declared.version.Version.{Version}
use Rattle.pcj_table.specs.Row.{newest, are_below, is_locked_at}
use Rattle.pcj_table.specs.Table.{Key, row_at}
use Rattle.pcj_txn.specs.declared.event.TxnEvent.TheVariants as event
use Rattle.pcj_txn.specs.Progress.{Due}
use Rattle.pcj_txn.specs.Steps.{versions_from, newest_from, prewrite_event, primary_event, due_event, OneEvent}

none_from : (at : ℕ) (versions : List Version) → are_below at versions ≡ true → versions_from at versions ≡ []
none_from at [] below = refl
none_from at (version ∷ versions) below = let parts = and_parts _ _ below in rw (lt-leb at version.commit (ltb-true _ _ parts.0)) (none_from at versions parts.1)

no_lock : (lock : Option Lock) → not (is_some lock) ≡ true → lock ≡ None
no_lock None e = refl
no_lock (Some lock) e = absurd cc

pub tells : OneEvent
tells old oracle table event.Prewrote new oracle' table' (prewrites, same) =
    let allowed = and_parts _ _ prewrites.allowed in
    let row = row_at table prewrites.write.key in
    let unlocked : row.lock ≡ None = no_lock row.lock allowed.0 in
    let later : newest_from old.start row.versions ≡ None = ap (λ (vs : List Version). option_map (λ version. version.commit) (newest vs)) (none_from old.start row.versions (and_parts _ _ allowed.1).0) in
    sym (ap (λ (d : Due). due_event d old.start oracle table) prewrites.due
    ∙ ap (λ (lock : Option Lock). prewrite_event prewrites.write.key lock (newest_from old.start row.versions)) unlocked
    ∙ ap (prewrite_event prewrites.write.key None) later)
tells old oracle table (event.MetLock key lock) new oracle' table' (meets, stays, same) =
    sym (ap (λ (d : Due). due_event d old.start oracle table) meets.due
    ∙ ap (λ (k : Key). prewrite_event k (row_at table k).lock (newest_from old.start (row_at table k).versions)) (sym meets.of)
    ∙ ap (λ (l : Option Lock). prewrite_event key l (newest_from old.start (row_at table key).versions)) meets.locked)
tells old oracle table (event.Conflict key commit) new oracle' table' (conflicts, stays, same) =
    sym (ap (λ (d : Due). due_event d old.start oracle table) conflicts.due
    ∙ ap (λ (k : Key). prewrite_event k (row_at table k).lock (newest_from old.start (row_at table k).versions)) (sym conflicts.of)
    ∙ ap (λ (l : Option Lock). prewrite_event key l (newest_from old.start (row_at table key).versions)) conflicts.unlocked
    ∙ ap (prewrite_event key None) conflicts.later)
tells old oracle table (event.DrewCommit commit) new oracle' table' draws =
    ap event.DrewCommit draws.number.is ∙ sym (ap (λ (d : Due). due_event d old.start oracle table) draws.due)
tells old oracle table (event.Committed commit) new oracle' table' (inl commits, same) =
    sym (ap (λ (d : Due). due_event d old.start oracle table) commits.due
    ∙ ap (primary_event commit (row_at table commits.write.key)) (and_parts _ _ commits.allowed).0)
tells old oracle table (event.Committed commit) new oracle' table' (inr none, same) = sym (ap (λ (d : Due). due_event d old.start oracle table) none.due)
tells old oracle table (event.PrimaryLost row) new oracle' table' (loses, stays, same) =
    sym (ap (λ (d : Due). due_event d old.start oracle table) loses.due
    ∙ ap (λ (r : Row). primary_event loses.commit r (is_locked_at old.start r.lock)) (sym loses.is)
    ∙ ap (primary_event loses.commit row) loses.unlocked)
tells old oracle table event.SecondaryDone new oracle' table' (inl settles, next, same) = sym (ap (λ (d : Due). due_event d old.start oracle table) settles.due)
tells old oracle table event.SecondaryDone new oracle' table' (inr settled, next, same) = sym (ap (λ (d : Due). due_event d old.start oracle table) settled.due)
tells old oracle table event.Done new oracle' table' (ends, stays, same) = sym (ap (λ (d : Due). due_event d old.start oracle table) ends)
