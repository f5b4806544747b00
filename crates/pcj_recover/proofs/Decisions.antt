-- What decides a recovery.
use Rattle.std.proofs.Common.{◌≡◌, ◌⊎◌, inl, inr, ℕ, Bool, true, false, ◌==◌, ◌<◌, List, [], ◌∷◌, Option, Some, None, refl, ap, sym, subst, ◌∙◌, arith}
use Rattle.std.specs.List.{list_all}
use Rattle.std.proofs.lemmas.Bool.{and_parts, eqb-true, ltb-true}
use Rattle.pcj_table.specs.declared.version.Version.{Version}
use Rattle.pcj_table.specs.Row.{are_below, is_locked_at}
use Rattle.pcj_table.specs.Table.{Key, Table, row_at}
use Rattle.pcj_mvcc.specs.Reading.{Rows, commit_of, committed}
use Rattle.pcj_mvcc.specs.Times.{TimesInOrder, starts_first}
use Rattle.pcj_mvcc.proofs.Laws.{lock_there}
use Rattle.pcj_recover.specs.declared.event.RecoveryEvent.{RecoveryEvent}
use Rattle.pcj_recover.specs.declared.event.RecoveryEvent.TheVariants.{Working, RolledForward, RolledBack}
use Rattle.pcj_recover.specs.declared.primary.Primary.{Primary}
use Rattle.pcj_recover.specs.declared.primary.Primary.TheVariants.{Locked}
use Rattle.pcj_recover.specs.Progress.{Progress, Due, due, primary_of, primary_seen, with_primary}
use Rattle.pcj_recover.specs.Steps.{Drops, Steps, Decides, event_of, commit_in}

-- below a start no version is of that start, since each started before its commit
none_of : (start : ℕ) (versions : List Version) → are_below start versions ≡ true → list_all starts_first versions ≡ true → commit_of start versions ≡ None
none_of start [] below first = refl
none_of start (version ∷ versions) below first =
    let belows = and_parts _ _ below in
    let firsts = and_parts _ _ first in
    rw (differs (version.start == start) refl (ltb-true _ _ belows.0) (ltb-true _ _ firsts.0)) (none_of start versions belows.1 firsts.1)
  where
    differs : (b : Bool) → (version.start == start) ≡ b → version.commit < start → version.start < version.commit → (version.start == start) ≡ false
    differs true same under over = absurd (omega (arith, eqb-true version.start start same, under, over))
    differs false same under over = same

-- a primary that has a lock of the start has no version of it
uncommitted : (rows : Rows) (primary : Key) (start : ℕ) → TimesInOrder rows → is_locked_at start (rows primary).lock ≡ true → committed rows primary start ≡ None
uncommitted rows primary start times locked =
    let found = lock_there (rows primary).lock start locked in
    none_of start (rows primary).versions (subst (λ s. are_below s (rows primary).versions ≡ true) found.2 (times.last primary found.0 found.1)) (times.first primary)

drops_commit : (primary : Key) (start : ℕ) (table : Table) (commit : Option ℕ) (table' : Table) → TimesInOrder (row_at table) → Drops primary start table commit table' →
    commit ≡ committed (row_at table) primary start
drops_commit primary start table commit table' times (inl dropped) = dropped.1 ∙ sym (uncommitted (row_at table) primary start times (and_parts _ _ dropped.0.allowed).0)
drops_commit primary start table commit table' times (inr found) = found.1

seen_cases : (commit : Option ℕ) (locked : Bool) → (primary_seen commit locked ≡ Locked) ⊎ (primary_seen commit locked ≡ primary_of commit)
seen_cases None true = inl refl
seen_cases None false = inr refl
seen_cases (Some commit) locked = inr refl

pub decided : (old : Progress) (table : Table) (event : RecoveryEvent) (new : Progress) (table' : Table) → TimesInOrder (row_at table) → Steps old table event new table' →
    Decides (due old) old (row_at table) event new
decided old table Working new table' times (inl reads) =
    subst (λ (d : Due). Decides d old (row_at table) Working new) (sym reads.due)
    (by (seen_cases (commit_in (row_at table) old) (is_locked_at old.recovery.lock.start (row_at table old.recovery.lock.primary).lock)))
  where
    seen : Primary
    seen = primary_seen (commit_in (row_at table) old) (is_locked_at old.recovery.lock.start (row_at table old.recovery.lock.primary).lock)

    by : (seen ≡ Locked) ⊎ (seen ≡ primary_of (commit_in (row_at table) old)) → (new ≡ with_primary old Locked) ⊎ (new ≡ with_primary old (primary_of (commit_in (row_at table) old)))
    by (inl is) = inl (reads.found ∙ ap (with_primary old) is)
    by (inr is) = inr (reads.found ∙ ap (with_primary old) is)
decided old table Working new table' times (inr drops) =
    subst (λ (d : Due). Decides d old (row_at table) Working new) (sym drops.due)
    (drops.found ∙ ap (λ (c : Option ℕ). with_primary old (primary_of c)) (drops_commit _ _ table drops.commit table' times drops.drops))
decided old table RolledForward new table' times (inl rolls, same) = subst (λ (d : Due). Decides d old (row_at table) RolledForward new) (sym rolls.due) refl
decided old table RolledForward new table' times (inr (commit, drops), same) =
    subst (λ (d : Due). Decides d old (row_at table) RolledForward new) (sym drops.due) (ap event_of (drops_commit _ _ table (Some commit) table' times drops.drops))
decided old table RolledBack new table' times (inl rolls, same) = subst (λ (d : Due). Decides d old (row_at table) RolledBack new) (sym rolls.due) refl
decided old table RolledBack new table' times (inr drops, same) =
    subst (λ (d : Due). Decides d old (row_at table) RolledBack new) (sym drops.due) (ap event_of (drops_commit _ _ table None table' times drops.drops))
