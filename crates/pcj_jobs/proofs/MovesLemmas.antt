-- Moves of a step by which a transaction is committed, and moves that leave the locks of their own transaction.
use Rattle.std.proofs.Common.{◌≡◌, ◌⊎◌, inl, inr, ℕ, Bool, true, false, List, [], ◌∷◌, Some, refl, ap, sym, subst, ◌∙◌}
use Rattle.pcj_term.proofs.ByteLemmas.{same_bytes_itself}
use Rattle.pcj_table.specs.Row.{updated}
use Rattle.pcj_table.specs.declared.update.Update.TheVariants.{SetPlain}
use Rattle.pcj_table.specs.declared.write.Write.{Write}
use Rattle.pcj_mvcc.specs.Acts.{commit_act, lock_of, version_of}
use Rattle.pcj_mvcc.specs.Reading.{Rows, SameReading, acted}
use Rattle.pcj_moves.specs.Actors.{Actor}
use Rattle.pcj_moves.specs.Moves.{CommitNothing, CommitPrimary, CommitSecondary, Draw, DropPrimary, EndRecovery, IsAllowed, IsConsistent, Learn, Makes, MayCommitPrimary, Meet, Move, Plan, Prewrite, Read, RollBack, RollForward, WritePlain, actor_after, number_after, rows_after}
use Rattle.pcj_moves.specs.Traces.{lock_trace, traces}
use Rattle.pcj_moves.specs.Transactions.{IsHeld, IsNext, Transaction, lock_at, primary_of, with_next}
use Rattle.pcj_moves.proofs.ConsistencyLemmas.{its_next, its_recovery, move_is_consistent}
use Rattle.pcj_moves.proofs.OwnLemmas.{lock_more, place_each}
use Rattle.pcj_moves.proofs.TraceLemmas.{prewrite_changes, replace_changes, roll_back_changes, row_stays}
use Rattle.pcj_jobs.proofs.BesideLemmas.{move_reads_alike, move_stays_committed, moves_read_alike, stays_committed}

-- ---- what stays

pub start_stays : (moves : List Move) (number : ℕ) (rows : Rows) (actor : Actor) (number' : ℕ) (rows' : Rows) (actor' : Actor) → Makes moves number rows actor number' rows' actor' → actor'.start ≡ actor.start
start_stays [] number rows actor number' rows' actor' makes = ap (λ (a : Actor). a.start) makes.2
start_stays (move ∷ moves) number rows actor number' rows' actor' makes = start_stays moves (number_after move number) (rows_after move actor rows) (actor_after move rows actor) number' rows' actor' makes.1 ∙ one move
  where
    one : (m : Move) → (actor_after m rows actor).start ≡ actor.start
    one (Plan writes) = refl
    one (Prewrite write) = refl
    one (Draw commit) = refl
    one (CommitPrimary write commit) = refl
    one (CommitSecondary write commit) = refl
    one (CommitNothing commit) = refl
    one (Read answer) = refl
    one (Meet key lock) = refl
    one (Learn recovery) = refl
    one (DropPrimary recovery) = refl
    one (RollBack recovery) = refl
    one (RollForward recovery commit) = refl
    one EndRecovery = refl
    one (WritePlain key plain) = refl

-- the writes of a transaction that is committed
pub writes_stay : (moves : List Move) (number : ℕ) (rows : Rows) (actor : Actor) (number' : ℕ) (rows' : Rows) (actor' : Actor) → Makes moves number rows actor number' rows' actor' → actor.transaction.committed ≡ true → actor'.transaction.writes ≡ actor.transaction.writes
writes_stay [] number rows actor number' rows' actor' makes done = ap (λ (a : Actor). a.transaction.writes) makes.2
writes_stay (move ∷ moves) number rows actor number' rows' actor' makes done =
    writes_stay moves (number_after move number) (rows_after move actor rows) (actor_after move rows actor) number' rows' actor' makes.1 (move_stays_committed move number rows actor makes.0 done) ∙ one move makes.0
  where
    one : (m : Move) → IsAllowed m number rows actor → (actor_after m rows actor).transaction.writes ≡ actor.transaction.writes
    one (Plan writes) may = absurd (let clash : true ≡ false = sym done ∙ ap (λ (t : Transaction). t.committed) may.0 in cc)
    one (Prewrite write) may = refl
    one (Draw commit) may = refl
    one (CommitPrimary write commit) may = refl
    one (CommitSecondary write commit) may = refl
    one (CommitNothing commit) may = refl
    one (Read answer) may = refl
    one (Meet key lock) may = refl
    one (Learn recovery) may = refl
    one (DropPrimary recovery) may = refl
    one (RollBack recovery) may = refl
    one (RollForward recovery commit) may = refl
    one EndRecovery may = refl
    one (WritePlain key plain) may = refl

-- ---- a commit among moves

-- the commit of a primary stands among the moves, and all others leave each row's reading
pub record CommitsAmong (rows : Rows) (actor : Actor) (rows' : Rows) (actor' : Actor) (others : List Actor) : Type 0 where
  pub number : ℕ
  pub at : Rows
  pub by : Actor
  pub write : Write
  pub commit : ℕ
  pub before : SameReading rows at
  pub is : IsConsistent (record { number = number; rows = at; actors = by ∷ others })
  pub may : MayCommitPrimary at by write commit
  pub after : SameReading (acted at write.key (commit_act write by.start commit)) rows'
  pub start : actor'.start ≡ by.start
  pub writes : actor'.transaction.writes ≡ by.transaction.writes

pub commits_among : (moves : List Move) (number : ℕ) (rows : Rows) (actor : Actor) (number' : ℕ) (rows' : Rows) (actor' : Actor) (others : List Actor) → Makes moves number rows actor number' rows' actor' →
    IsConsistent (record { number = number; rows = rows; actors = actor ∷ others }) → actor.transaction.committed ≡ false → actor'.transaction.committed ≡ true → CommitsAmong rows actor rows' actor' others ⊎ SameReading rows rows'
commits_among [] number rows actor number' rows' actor' others makes is undone done = absurd (let clash : false ≡ true = sym undone ∙ ap (λ (a : Actor). a.transaction.committed) (sym makes.2) ∙ done in cc)
commits_among (move ∷ moves) number rows actor number' rows' actor' others makes is undone done =
    by move makes.0 makes.1
    (λ same. commits_among moves (number_after move number) (rows_after move actor rows) (actor_after move rows actor) number' rows' actor' others makes.1 (move_is_consistent number rows actor others move makes.0 is) (same ∙ undone) done)
  where
    on : (m : Move) → IsAllowed m number rows actor → (actor_after m rows actor).transaction.committed ≡ actor.transaction.committed →
        ((actor_after m rows actor).transaction.committed ≡ actor.transaction.committed → CommitsAmong (rows_after m actor rows) (actor_after m rows actor) rows' actor' others ⊎ SameReading (rows_after m actor rows) rows') → CommitsAmong rows actor rows' actor' others ⊎ SameReading rows rows'
    on m may same later = either (later same)
      where
        here : SameReading rows (rows_after m actor rows)
        here = move_reads_alike m number rows actor others may is same

        either : CommitsAmong (rows_after m actor rows) (actor_after m rows actor) rows' actor' others ⊎ SameReading (rows_after m actor rows) rows' → CommitsAmong rows actor rows' actor' others ⊎ SameReading rows rows'
        either (inl c) = inl (record { number = c.number; at = c.at; by = c.by; write = c.write; commit = c.commit; before = λ key. c.before key ∙ here key; is = c.is; may = c.may; after = c.after; start = c.start; writes = c.writes })
        either (inr alike) = inr (λ key. alike key ∙ here key)

    by : (m : Move) → IsAllowed m number rows actor → Makes moves (number_after m number) (rows_after m actor rows) (actor_after m rows actor) number' rows' actor' →
        ((actor_after m rows actor).transaction.committed ≡ actor.transaction.committed → CommitsAmong (rows_after m actor rows) (actor_after m rows actor) rows' actor' others ⊎ SameReading (rows_after m actor rows) rows') → CommitsAmong rows actor rows' actor' others ⊎ SameReading rows rows'
    by (Plan writes) may rest later = on (Plan writes) may (sym (ap (λ (t : Transaction). t.committed) may.0)) later
    by (Prewrite write) may rest later = on (Prewrite write) may refl later
    by (Draw commit) may rest later = on (Draw commit) may refl later
    by (CommitPrimary write commit) may rest later = inl (record {
      number = number;
      at = rows;
      by = actor;
      write = write;
      commit = commit;
      before = λ key. refl;
      is = is;
      may = may;
      after = moves_read_alike moves number (rows_after (CommitPrimary write commit) actor rows) (actor_after (CommitPrimary write commit) rows actor) number' rows' actor' others rest (move_is_consistent number rows actor others (CommitPrimary write commit) may is) done;
      start = start_stays moves number (rows_after (CommitPrimary write commit) actor rows) (actor_after (CommitPrimary write commit) rows actor) number' rows' actor' rest;
      writes = writes_stay moves number (rows_after (CommitPrimary write commit) actor rows) (actor_after (CommitPrimary write commit) rows actor) number' rows' actor' rest refl;
    })
    by (CommitSecondary write commit) may rest later = on (CommitSecondary write commit) may refl later
    by (CommitNothing commit) may rest later = inr (moves_read_alike moves number rows (actor_after (CommitNothing commit) rows actor) number' rows' actor' others rest (move_is_consistent number rows actor others (CommitNothing commit) may is) done)
    by (Read answer) may rest later = on (Read answer) may refl later
    by (Meet key lock) may rest later = on (Meet key lock) may refl later
    by (Learn recovery) may rest later = on (Learn recovery) may refl later
    by (DropPrimary recovery) may rest later = on (DropPrimary recovery) may refl later
    by (RollBack recovery) may rest later = on (RollBack recovery) may refl later
    by (RollForward recovery commit) may rest later = on (RollForward recovery commit) may refl later
    by EndRecovery may rest later = on EndRecovery may refl later
    by (WritePlain key plain) may rest later = on (WritePlain key plain) may refl later

-- ---- its own locks

-- what rows have of the actor's own transaction
abbrev HasOwn : Rows → Actor → Type 0
HasOwn rows actor = IsHeld (lock_at actor.start actor.transaction) (traces actor.start rows)

others_traces : (rows rows' : Rows) (actor : Actor) → traces actor.start rows' ≡ traces actor.start rows → HasOwn rows actor → HasOwn rows' actor
others_traces rows rows' actor same held = subst (IsHeld (lock_at actor.start actor.transaction)) (sym same) held

move_keeps_own : (move : Move) (number : ℕ) (rows : Rows) (actor : Actor) (others : List Actor) → IsAllowed move number rows actor → IsConsistent (record { number = number; rows = rows; actors = actor ∷ others }) →
    (actor_after move rows actor).transaction.committed ≡ false → HasOwn rows actor → HasOwn (rows_after move actor rows) (actor_after move rows actor)
move_keeps_own (Plan writes) number rows actor others may is undone held = λ key. held key ∙ ap (λ t. lock_trace (lock_at actor.start t key)) may.0
move_keeps_own (Prewrite write) number rows actor others may is undone held =
    let next : IsNext actor.transaction write = its_next rows actor write is.sound.0 may in
    subst (IsHeld (lock_at actor.start (with_next actor.transaction))) (sym (prewrite_changes rows write actor.start (primary_of actor.transaction) is.times may.allowed).own)
    (place_each (λ key t. t ≡ lock_trace (lock_at actor.start (with_next actor.transaction) key)) (traces actor.start rows) write.key (lock_trace (Some (lock_of write actor.start (primary_of actor.transaction))))
    (ap lock_trace (sym (lock_more actor.start actor.transaction write next write.key ∙ rw (same_bytes_itself write.key) refl)))
    (λ key apart. held key ∙ ap lock_trace (sym (lock_more actor.start actor.transaction write next key ∙ rw apart refl))))
move_keeps_own (Draw commit) number rows actor others may is undone held = held
move_keeps_own (CommitPrimary write commit) number rows actor others may is undone held = absurd (let clash : true ≡ false = undone in cc)
move_keeps_own (CommitSecondary write commit) number rows actor others may is undone held = absurd (let clash : true ≡ false = sym may.done ∙ undone in cc)
move_keeps_own (CommitNothing commit) number rows actor others may is undone held = absurd (let clash : true ≡ false = undone in cc)
move_keeps_own (Read answer) number rows actor others may is undone held = held
move_keeps_own (Meet key lock) number rows actor others may is undone held = held
move_keeps_own (Learn recovery) number rows actor others may is undone held = held
move_keeps_own (DropPrimary recovery) number rows actor others may is undone held =
    others_traces rows (rows_after (DropPrimary recovery) actor rows) actor ((roll_back_changes rows recovery.lock.primary recovery.lock.start is.times may.1).others actor.start (λ same. (its_recovery rows actor recovery is.sound.0 may.0).1 (sym same))) held
move_keeps_own (RollBack recovery) number rows actor others may is undone held =
    others_traces rows (rows_after (RollBack recovery) actor rows) actor ((roll_back_changes rows recovery.key recovery.lock.start is.times may.2).others actor.start (λ same. (its_recovery rows actor recovery is.sound.0 may.0).1 (sym same))) held
move_keeps_own (RollForward recovery commit) number rows actor others may is undone held =
    others_traces rows (rows_after (RollForward recovery commit) actor rows) actor ((replace_changes rows recovery.key (version_of recovery.lock commit) is.times may.2).others actor.start (λ same. (its_recovery rows actor recovery is.sound.0 may.0).1 (sym same))) held
move_keeps_own EndRecovery number rows actor others may is undone held = held
move_keeps_own (WritePlain key plain) number rows actor others may is undone held =
    others_traces rows (rows_after (WritePlain key plain) actor rows) actor ((row_stays rows key (updated (rows key) (SetPlain plain)) refl refl).traces_same actor.start) held

pub moves_keep_own : (moves : List Move) (number : ℕ) (rows : Rows) (actor : Actor) (number' : ℕ) (rows' : Rows) (actor' : Actor) (others : List Actor) → Makes moves number rows actor number' rows' actor' →
    IsConsistent (record { number = number; rows = rows; actors = actor ∷ others }) → actor'.transaction.committed ≡ false → HasOwn rows actor → HasOwn rows' actor'
moves_keep_own [] number rows actor number' rows' actor' others makes is undone held =
    subst (λ r. HasOwn r actor') (sym makes.1) (subst (HasOwn rows) (sym makes.2) held)
moves_keep_own (move ∷ moves) number rows actor number' rows' actor' others makes is undone held =
    moves_keep_own moves (number_after move number) (rows_after move actor rows) (actor_after move rows actor) number' rows' actor' others makes.1 (move_is_consistent number rows actor others move makes.0 is) undone
    (move_keeps_own move number rows actor others makes.0 is (not_yet (actor_after move rows actor).transaction.committed refl) held)
  where
    not_yet : (b : Bool) → (actor_after move rows actor).transaction.committed ≡ b → (actor_after move rows actor).transaction.committed ≡ false
    not_yet true e = absurd (let clash : true ≡ false = sym (stays_committed moves (number_after move number) (rows_after move actor rows) (actor_after move rows actor) number' rows' actor' makes.1 e) ∙ undone in cc)
    not_yet false e = e
