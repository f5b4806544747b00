-- What was read stays what is seen.
use Rattle.std.proofs.Common.{◌≡◌, ◌⊎◌, inl, inr, ◌<◌, ◌≤◌, ℕ, Bool, true, false, cond, not, ◌&&◌, ◌||◌, List, [], ◌∷◌, ◌++◌, Option, Some, None, refl, ap, sym, subst, ◌∙◌, arith}
use Rattle.std.proofs.lemmas.Bool.{and_from, and_parts}
use Rattle.std.specs.List.{Contains}
use Rattle.std.specs.Option.{option_map}
use Rattle.std.specs.Ordering.{is_lt}
use Rattle.std.specs.declared.cmp.Ordering.TheVariants.{Less}
use Rattle.pcj_term.proofs.ByteLemmas.{same_bytes_are, same_bytes_itself}
use Rattle.pcj_term.specs.Order.{bytes_cmp, is_before, same_bytes}
use Rattle.pcj_table.proofs.EntryLemmas.{IsFirstRow, first_row_is, no_first_row}
use Rattle.pcj_table.proofs.RowLemmas.{no_row_is}
use Rattle.pcj_table.specs.Row.{has_nothing, has_plain_value, is_locked_up_to, is_put, is_seen_at, newest, updated, versions_up_to}
use Rattle.pcj_table.specs.Table.{Key, Table, found, is_between, is_next_at, row_at}
use Rattle.pcj_table.specs.declared.lock.Lock.{Lock}
use Rattle.pcj_table.specs.declared.row.Row.{Row}
use Rattle.pcj_table.specs.declared.update.Update.TheVariants.{SetPlain}
use Rattle.pcj_mvcc.proofs.Laws.{passed_rows_show_nothing, reads_are_seen}
use Rattle.pcj_mvcc.specs.Acts.{lock_of, version_of}
use Rattle.pcj_mvcc.specs.Reading.{Put, Rows, lock_up_to, put, put_of, seen}
use Rattle.pcj_mvcc.specs.Times.{AllVersions, starts_first}
use Rattle.pcj_moves.specs.Traces.{Trace, traces}
use Rattle.pcj_moves.specs.declared.answer.Answer.{Answer}
use Rattle.pcj_moves.specs.Transactions.{IsRipe, as_committed, new_transaction, primary_of, with_next, write_at}
use Rattle.pcj_moves.specs.Reads.{IsHidden, covers, finds, value_seen}
use Rattle.pcj_moves.specs.Actors.{Actor, ArePair, ArePaired, AreSound, Each, IsSound}
use Rattle.pcj_moves.specs.Moves.{Begins, CommitNothing, CommitPrimary, CommitSecondary, Draw, DropPrimary, EndRecovery, Ends, Happens, IsAllowed, IsConsistent, Learn, Loses, Meet, Move, Moves, Plan, Prewrite, Read, RollBack, RollForward, State, Step, WritePlain, actor_after, number_after, rows_after}
use Rattle.pcj_moves.specs.TraceLaws.{ChangesTrace, Stays}
use Rattle.pcj_moves.specs.StepLaws.{Unlocks}
use Rattle.pcj_moves.specs.ReadLaws.{AnswerStaysRead, EmptyRangeIsRead, HeldStaysRead, MoveLeavesRead, MovesLeaveRead, NextRowIsRead, NothingStaysRead, RowIsRead, RunLeavesRead, StaysRead}
use Rattle.pcj_moves.proofs.OrderLemmas.{each_apart, each_together}
use Rattle.pcj_moves.proofs.TraceLemmas.{prewrite_changes, replace_changes, row_stays}
use Rattle.pcj_moves.proofs.OtherLemmas.{hidden_read, hidden_stays, reads_pass_commit, reads_stay}
use Rattle.pcj_moves.proofs.OwnLemmas.{hidden_committed, hidden_drawn, hidden_undrawn}
use Rattle.pcj_moves.proofs.ActorLemmas.{each_contains, each_holds, each_map, each_sound, either_actor, either_held}
use Rattle.pcj_moves.proofs.StepLemmas.{at_primary, recovery_drops_primary, recovery_rolls_back, recovery_rolls_forward, secondary_unlocks, unlock_hides}
use Rattle.pcj_moves.proofs.ConsistencyLemmas.{its_first, its_recovery, its_write, move_is_consistent}
use Rattle.pcj_moves.proofs.MoveLemmas.{comes_first, step_is_consistent}
use Rattle.pcj_moves.proofs.StandingLemmas.{one_move_changes}

pub row_is_read : RowIsRead
row_is_read rows key time first none = record {
  seen_there = λ other covered. let same = same_bytes_are other key covered in ap (λ k. value_seen rows k time) same ∙ ap (option_map (λ (put : Put). put.0)) (reads_are_seen rows key time first none);
  unlocked = λ other covered. let same = same_bytes_are other key covered in ap (λ k. lock_up_to time (rows k).lock) same ∙ none;
}

-- a row that a walk passes over has no lock of its time, and nothing is seen there
record IsPassed (rows : Rows) (key : Key) (time : ℕ) : Type 0 where
  pub nothing : seen rows key time ≡ None
  pub unlocked : lock_up_to time (rows key).lock ≡ None

is_passed : (rows : Rows) (key : Key) (time : ℕ) → AllVersions starts_first rows → is_seen_at time (rows key) ≡ false → IsPassed rows key time
is_passed rows key time first passed = record { nothing = passed_rows_show_nothing rows key time first passed; unlocked = no_lock (rows key).lock (left (is_locked_up_to time (rows key).lock) passed) }
  where
    left : (a : Bool) → ((a || is_put (newest (versions_up_to time (rows key).versions))) || has_plain_value (rows key).plain) ≡ false → a ≡ false
    left true e = absurd cc
    left false e = refl

    no_lock : (lock : Option Lock) → is_locked_up_to time lock ≡ false → lock_up_to time lock ≡ None
    no_lock None e = refl
    no_lock (Some lock) e = rw e refl

-- a row between the ends that isn't met is passed over
not_met : (table : Table) (after end key : Key) (time : ℕ) → AllVersions starts_first (row_at table) → is_between after end key ≡ true →
    (has_nothing (row_at table key) ≡ false → is_next_at after end time (key, row_at table key) ≡ true → ⊥) → IsPassed (row_at table) key time
not_met table after end key time first between never = is_passed (row_at table) key time first (by (has_nothing (row_at table key)) refl (is_seen_at time (row_at table key)) refl)
  where
    by : (nothing : Bool) → has_nothing (row_at table key) ≡ nothing → (met : Bool) → is_seen_at time (row_at table key) ≡ met → is_seen_at time (row_at table key) ≡ false
    by true none met e = ap (is_seen_at time) (no_row_is (row_at table key) none)
    by false some true e = absurd (never some (and_from (is_between after end key) (is_seen_at time (row_at table key)) between e))
    by false some false e = e

pub empty_range_is_read : EmptyRangeIsRead
empty_range_is_read table after end time first is = record {
  seen_there = λ key covered. ap (option_map (λ (put : Put). put.0)) (passed key covered).nothing;
  unlocked = λ key covered. (passed key covered).unlocked;
}
  where
    passed : (key : Key) → is_between after end key ≡ true → IsPassed (row_at table) key time
    passed key covered = not_met table after end key time first covered
        (λ some met. let clash : true ≡ false = sym met ∙ no_first_row (is_next_at after end time) table key is some in cc)

pub next_row_is_read : NextRowIsRead
next_row_is_read table after end time next found first is free put = record {
  seen_there = λ key covered. by key (same_bytes key next.key) refl covered;
  unlocked = λ key covered. lock_by key (same_bytes key next.key) refl covered;
}
  where
    there : IsFirstRow (is_next_at after end time) table next
    there = first_row_is (is_next_at after end time) table next is

    unlocked : lock_up_to time (row_at table next.key).lock ≡ None
    unlocked = ap (λ (r : Row). lock_up_to time r.lock) there.there ∙ free

    passed : (key : Key) → same_bytes key next.key ≡ false → (is_between after end key && not (is_before next.key key)) ≡ true → IsPassed (row_at table) key time
    passed key apart covered = not_met table after end key time first (and_parts (is_between after end key) (not (is_before next.key key)) covered).0 (λ some met. never (there.others key some met))
      where
        never : (next.key ≡ key) ⊎ (bytes_cmp next.key key ≡ Less) → ⊥
        never (inl same) = let clash : true ≡ false = sym (same_bytes_itself key) ∙ ap (same_bytes key) (sym same) ∙ apart in cc
        never (inr less) = let clash : false ≡ true = ap (λ order. not (is_lt order)) (sym less) ∙ (and_parts (is_between after end key) (not (is_before next.key key)) covered).1 in cc

    by : (key : Key) (b : Bool) → same_bytes key next.key ≡ b → (is_between after end key && not (is_before next.key key)) ≡ true → value_seen (row_at table) key time ≡ cond (same_bytes key next.key) (Some found.0) None
    by key true e covered = rw e (ap (λ k. value_seen (row_at table) k time) (same_bytes_are key next.key e) ∙ ap (option_map (λ (put : Put). put.0)) (reads_are_seen (row_at table) next.key time first unlocked
        ∙ ap (λ (r : Row). put_of (newest (versions_up_to time r.versions))) there.there ∙ put))
    by key false e covered = rw e (ap (option_map (λ (found : Put). found.0)) (passed key e covered).nothing)

    lock_by : (key : Key) (b : Bool) → same_bytes key next.key ≡ b → (is_between after end key && not (is_before next.key key)) ≡ true → lock_up_to time (row_at table key).lock ≡ None
    lock_by key true e covered = ap (λ k. lock_up_to time (row_at table k).lock) (same_bytes_are key next.key e) ∙ unlocked
    lock_by key false e covered = (passed key e covered).unlocked

pub nothing_stays_read : NothingStaysRead
nothing_stays_read rows actors time = record {
  reads = λ answer held. absurd (let within = held.1 in omega arith);
  hidden = each_holds _ (λ actor commit ripe le answer held. absurd (let within = held.1 in omega arith)) actors;
}

pub answer_stays_read : AnswerStaysRead
answer_stays_read rows actors time answer answers sound read kept = record {
  reads = λ held contains key covered. reads held key covered (either_held answer held answers contains);
  hidden = each_map (IsSound rows) (λ actor. IsHidden actor.start actor.transaction (traces actor.start rows) time answers) (λ actor. IsHidden actor.start actor.transaction (traces actor.start rows) time (answers ++ (answer ∷ [])))
      (λ actor is old commit ripe le held contains key covered. hidden actor is old commit ripe le held key covered (either_held answer held answers contains)) actors (each_sound rows actors sound) kept.hidden;
}
  where
    reads : (held : Answer) (key : Key) → covers held key ≡ true → (held ≡ answer) ⊎ Contains answers held → value_seen rows key time ≡ finds held key
    reads held key covered (inl same) = read.seen_there key (ap (λ a. covers a key) (sym same) ∙ covered) ∙ ap (λ a. finds a key) (sym same)
    reads held key covered (inr rest) = kept.reads held rest key covered

    hidden : (actor : Actor) → IsSound rows actor → IsHidden actor.start actor.transaction (traces actor.start rows) time answers → (commit : ℕ) → IsRipe actor.start actor.transaction (traces actor.start rows) commit →
        commit ≤ time → (held : Answer) (key : Key) → covers held key ≡ true → (held ≡ answer) ⊎ Contains answers held → write_at actor.transaction.writes key ≡ None
    hidden actor is old commit ripe le held key covered (inl same) =
        hidden_read rows actor.start actor.transaction time commit key is.transacts ripe le (read.unlocked key (ap (λ a. covers a key) (sym same) ∙ covered))
    hidden actor is old commit ripe le held key covered (inr rest) = old commit ripe le held rest key covered

pub held_stays_read : HeldStaysRead
held_stays_read rows actors actor sound there = record {
  reads = (each_contains (IsSound rows) actors actor (each_sound rows actors sound) there).reads;
  hidden = hidden actors sound there;
}
  where
    own : IsSound rows actor → IsHidden actor.start actor.transaction (traces actor.start rows) actor.start actor.answers
    own is commit ripe le = absurd (let later = is.transacts.later commit ripe.drawn in omega arith)

    hidden : (some : List Actor) → AreSound rows some → Contains some actor → Each (λ other. IsHidden other.start other.transaction (traces other.start rows) actor.start actor.answers) some
    hidden [] is there = absurd (let within = there.1 in omega arith)
    hidden (first ∷ rest) is there = by (either_actor first actor rest there) (hidden rest is.2)
      where
        by : (first ≡ actor) ⊎ Contains rest actor → (Contains rest actor → Each (λ other. IsHidden other.start other.transaction (traces other.start rows) actor.start actor.answers) rest) →
            Each (λ other. IsHidden other.start other.transaction (traces other.start rows) actor.start actor.answers) (first ∷ rest)
        by (inl same) later = (
          subst (λ (a : Actor). IsHidden a.start a.transaction (traces a.start rows) actor.start actor.answers) (sym same) (own (subst (IsSound rows) same is.0)),
          each_map (λ other. Unit {0}) (λ other. ArePair rows first other × ArePair rows other first) (λ other. IsHidden other.start other.transaction (traces other.start rows) actor.start actor.answers)
              (λ other c pair. subst (λ (a : Actor). IsHidden other.start other.transaction (traces other.start rows) a.start a.answers) same pair.1.hidden) rest (each_holds _ (λ other. tt) rest) is.1,
        )
        by (inr there_too) later = ((each_contains (λ other. ArePair rows first other × ArePair rows other first) rest actor is.1 there_too).0.hidden, later there_too)

-- ---- under a move

-- the others', where the moved transaction isn't theirs
others_hidden : (start : ℕ) (key : Key) (new : Trace) (before after : Rows) → ChangesTrace start key new before after → (actor : Actor) (others : List Actor) → actor.start ≡ start → ArePaired before actor others →
    (time : ℕ) (answers : List Answer) → Each (λ other. IsHidden other.start other.transaction (traces other.start before) time answers) others →
    Each (λ other. IsHidden other.start other.transaction (traces other.start after) time answers) others
others_hidden start key new before after changes actor others same paired time answers each =
    each_map (λ other. ArePair before actor other × ArePair before other actor) (λ other. IsHidden other.start other.transaction (traces other.start before) time answers) (λ other. IsHidden other.start other.transaction (traces other.start after) time answers)
    (λ other pair. hidden_stays start key new before after changes other.start other.transaction time answers (λ is. pair.1.apart.starts (is ∙ sym same))) others paired each

unlock_leaves_read : (start : ℕ) (before after : Rows) → Unlocks start before after → (actors : List Actor) (time : ℕ) (answers : List Answer) → StaysRead before actors time answers → StaysRead after actors time answers
unlock_leaves_read start before after unlocks actors time answers kept = record {
  reads = reads_stay before after time answers unlocks.same kept.reads;
  hidden = each_map (λ other. Unit {0}) (λ other. IsHidden other.start other.transaction (traces other.start before) time answers) (λ other. IsHidden other.start other.transaction (traces other.start after) time answers)
      (λ other c. unlock_hides start before after unlocks other.start other.transaction time answers) actors (each_holds _ (λ other. tt) actors) kept.hidden;
}

stay_leaves_read : (before after : Rows) → Stays before after → (actors : List Actor) (time : ℕ) (answers : List Answer) → StaysRead before actors time answers → StaysRead after actors time answers
stay_leaves_read before after stays actors time answers kept = record {
  reads = reads_stay before after time answers stays.same kept.reads;
  hidden = each_map (λ other. Unit {0}) (λ other. IsHidden other.start other.transaction (traces other.start before) time answers) (λ other. IsHidden other.start other.transaction (traces other.start after) time answers)
      (λ other c. subst (λ at. IsHidden other.start other.transaction at time answers) (sym (stays.traces_same other.start))) actors (each_holds _ (λ other. tt) actors) kept.hidden;
}

pub move_leaves_read : MoveLeavesRead
move_leaves_read number rows actor others (Plan writes) time answers may is lower kept =
    record { reads = kept.reads; hidden = (hidden_undrawn actor.start (new_transaction writes) (traces actor.start rows) time answers refl, kept.hidden.1) }
move_leaves_read number rows actor others (Prewrite write) time answers may is lower kept = record {
  reads = reads_stay rows (rows_after (Prewrite write) actor rows) time answers (one_move_changes number rows actor others (Prewrite write) may is) kept.reads;
  hidden = (
    hidden_undrawn actor.start (with_next actor.transaction) (traces actor.start (rows_after (Prewrite write) actor rows)) time answers may.undrawn,
    others_hidden actor.start write.key _ rows (rows_after (Prewrite write) actor rows) (prewrite_changes rows write actor.start (primary_of actor.transaction) is.times may.allowed) actor others refl is.sound.1 time answers kept.hidden.1,
  );
}
move_leaves_read number rows actor others (Draw commit) time answers may is lower kept =
    record { reads = kept.reads; hidden = (hidden_drawn actor.start actor.transaction (traces actor.start rows) time answers commit (let le = may.granted in omega arith), kept.hidden.1) }
move_leaves_read number rows actor others (CommitPrimary write commit) time answers may is lower kept =
    let facts = at_primary rows actor.start actor.transaction write (its_first rows actor write commit may).0 commit is.times is.sound.0.transacts (its_first rows actor write commit may).1 may.drawn may.undone may.allowed in record {
      reads = reads_pass_commit actor.start commit actor.transaction rows (rows_after (CommitPrimary write commit) actor rows) time answers is.sound.0.transacts facts.ripe kept.hidden.0 facts.at_once kept.reads;
      hidden = (
        hidden_committed actor.start (as_committed actor.transaction) (traces actor.start (rows_after (CommitPrimary write commit) actor rows)) time answers refl,
        others_hidden actor.start write.key _ rows (rows_after (CommitPrimary write commit) actor rows) (replace_changes rows write.key (version_of (lock_of write actor.start write.key) commit) is.times may.allowed) actor others refl is.sound.1 time answers kept.hidden.1,
      );
    }
move_leaves_read number rows actor others (CommitSecondary write commit) time answers may is lower kept =
    unlock_leaves_read actor.start rows _ (secondary_unlocks rows actor.start actor.transaction write commit is.times is.sound.0.transacts may.done may.drawn (its_write rows actor write commit is.sound.0 may) may.allowed) (actor ∷ others) time answers kept
move_leaves_read number rows actor others (CommitNothing commit) time answers may is lower kept =
    record { reads = kept.reads; hidden = (hidden_committed actor.start (as_committed actor.transaction) (traces actor.start rows) time answers refl, kept.hidden.1) }
move_leaves_read number rows actor others (Read answer) time answers may is lower kept = record { reads = kept.reads; hidden = (kept.hidden.0, kept.hidden.1) }
move_leaves_read number rows actor others (Meet key lock) time answers may is lower kept = record { reads = kept.reads; hidden = (kept.hidden.0, kept.hidden.1) }
move_leaves_read number rows actor others (Learn recovery) time answers may is lower kept = record { reads = kept.reads; hidden = (kept.hidden.0, kept.hidden.1) }
move_leaves_read number rows actor others (DropPrimary recovery) time answers may is lower kept =
    unlock_leaves_read recovery.lock.start rows _ (recovery_drops_primary rows recovery is.times (its_recovery rows actor recovery is.sound.0 may.0).0 may.1) (actor ∷ others) time answers kept
move_leaves_read number rows actor others (RollBack recovery) time answers may is lower kept =
    unlock_leaves_read recovery.lock.start rows _ (recovery_rolls_back rows recovery is.times (its_recovery rows actor recovery is.sound.0 may.0).0 may.1 may.2) (actor ∷ others) time answers kept
move_leaves_read number rows actor others (RollForward recovery commit) time answers may is lower kept =
    unlock_leaves_read recovery.lock.start rows _ (recovery_rolls_forward rows recovery commit is.times (its_recovery rows actor recovery is.sound.0 may.0).0 may.1 may.2) (actor ∷ others) time answers kept
move_leaves_read number rows actor others EndRecovery time answers may is lower kept = record { reads = kept.reads; hidden = (kept.hidden.0, kept.hidden.1) }
move_leaves_read number rows actor others (WritePlain key plain) time answers may is lower kept =
    stay_leaves_read rows _ (row_stays rows key (updated (rows key) (SetPlain plain)) refl refl) (actor ∷ others) time answers kept

-- ---- under runs

-- the next number never falls
pub number_rises : (move : Move) (number : ℕ) (rows : Rows) (actor : Actor) → IsAllowed move number rows actor → number ≤ number_after move number
number_rises (Plan writes) number rows actor may = omega arith
number_rises (Prewrite write) number rows actor may = omega arith
number_rises (Draw commit) number rows actor may = let le = may.granted in omega arith
number_rises (CommitPrimary write commit) number rows actor may = omega arith
number_rises (CommitSecondary write commit) number rows actor may = omega arith
number_rises (CommitNothing commit) number rows actor may = omega arith
number_rises (Read answer) number rows actor may = omega arith
number_rises (Meet key lock) number rows actor may = omega arith
number_rises (Learn recovery) number rows actor may = omega arith
number_rises (DropPrimary recovery) number rows actor may = omega arith
number_rises (RollBack recovery) number rows actor may = omega arith
number_rises (RollForward recovery commit) number rows actor may = omega arith
number_rises EndRecovery number rows actor may = omega arith
number_rises (WritePlain key plain) number rows actor may = omega arith

pub step_rises : (before : State) (step : Step) (after : State) → Happens before step after → before.number ≤ after.number
step_rises before (Moves front actor back move) after happens = subst (λ (s : State). before.number ≤ s.number) (sym happens.2) (number_rises move before.number before.rows actor happens.1)
step_rises before (Begins start) after happens = subst (λ (s : State). before.number ≤ s.number) (sym happens.1) (let le = happens.0 in omega arith)
step_rises before (Ends front actor back) after happens = subst (λ (s : State). before.number ≤ s.number) (sym happens.1) (omega arith)
step_rises before (Loses number) after happens = subst (λ (s : State). before.number ≤ s.number) (sym happens.1) happens.0

step_leaves_read : (before : State) (step : Step) (after : State) (time : ℕ) (answers : List Answer) → IsConsistent before → Happens before step after → time < before.number →
    StaysRead before.rows before.actors time answers → StaysRead after.rows after.actors time answers
step_leaves_read before (Moves front actor back move) after time answers is happens lower kept =
    subst (λ (s : State). StaysRead s.rows s.actors time answers) (sym happens.2)
    (let moved = move_leaves_read before.number before.rows actor (front ++ back) move time answers happens.1 first lower (record { reads = kept.reads; hidden = each_apart Hidden front actor back (subst (Each Hidden) happens.0 kept.hidden) }) in
    record { reads = moved.reads; hidden = each_together _ front (actor_after move before.rows actor) back moved.hidden.0 moved.hidden.1 })
  where
    Hidden : Actor → Type 0
    Hidden other = IsHidden other.start other.transaction (traces other.start before.rows) time answers

    first : IsConsistent (record { number = before.number; rows = before.rows; actors = actor ∷ (front ++ back) })
    first = comes_first before.number before.rows front actor back (subst (λ actors. IsConsistent (record { number = before.number; rows = before.rows; actors = actors })) happens.0 is)
step_leaves_read before (Begins start) after time answers is happens lower kept =
    subst (λ (s : State). StaysRead s.rows s.actors time answers) (sym happens.1)
    (record { reads = kept.reads; hidden = (hidden_undrawn start (new_transaction []) (traces start before.rows) time answers refl, kept.hidden) })
step_leaves_read before (Ends front actor back) after time answers is happens lower kept =
    subst (λ (s : State). StaysRead s.rows s.actors time answers) (sym happens.1)
    (record { reads = kept.reads; hidden = (each_apart Hidden front actor back (subst (Each Hidden) happens.0 kept.hidden)).1 })
  where
    Hidden : Actor → Type 0
    Hidden other = IsHidden other.start other.transaction (traces other.start before.rows) time answers
step_leaves_read before (Loses number) after time answers is happens lower kept =
    subst (λ (s : State). StaysRead s.rows s.actors time answers) (sym happens.1) (record { reads = kept.reads; hidden = kept.hidden })

pub moves_leave_read : MovesLeaveRead
moves_leave_read [] number rows actor number' rows' actor' others time answers makes is lower kept =
    subst (λ r. StaysRead r (actor' ∷ others) time answers) (sym makes.1) (subst (λ a. StaysRead rows (a ∷ others) time answers) (sym makes.2) kept)
moves_leave_read (move ∷ moves) number rows actor number' rows' actor' others time answers makes is lower kept =
    moves_leave_read moves (number_after move number) (rows_after move actor rows) (actor_after move rows actor) number' rows' actor' others time answers makes.1
    (move_is_consistent number rows actor others move makes.0 is) (let le = number_rises move number rows actor makes.0 in omega arith)
    (move_leaves_read number rows actor others move time answers makes.0 is lower kept)

pub run_leaves_read : RunLeavesRead
run_leaves_read before [] after time answers is runs lower kept = subst (λ (s : State). StaysRead s.rows s.actors time answers) (sym runs) kept
run_leaves_read before (step ∷ steps) after time answers is runs lower kept =
    run_leaves_read runs.0 steps after time answers (step_is_consistent before step runs.0 is runs.1) runs.2
    (let le = step_rises before step runs.0 runs.1 in omega arith) (step_leaves_read before step runs.0 time answers is runs.1 lower kept)
