-- What moves of actors add to what is pending.
use Rattle.std.proofs.Common.{◌≡◌, ◌⊎◌, inl, inr, ◌+◌, ℕ, Bool, true, false, cond, is_some, ◌&&◌, ◌||◌, List, [], ◌∷◌, ◌++◌, length, Option, Some, None, refl, ap, sym, subst, ◌∙◌, arith}
use Rattle.std.specs.List.{Contains}
use Rattle.std.proofs.lemmas.Bool.{and_parts}
use Rattle.std.proofs.lemmas.List.{length-append}
use Rattle.std.proofs.lemmas.List.Elements.{Contains-append_left, Contains-append_right}
use Rattle.pcj_term.specs.Order.{same_bytes}
use Rattle.pcj_term.proofs.ByteLemmas.{same_bytes_are}
use Rattle.pcj_term.proofs.ListLemmas.{first_there}
use Rattle.pcj_table.specs.declared.lock.Lock.{Lock}
use Rattle.pcj_table.specs.declared.row.Row.{Row}
use Rattle.pcj_table.specs.Row.{is_locked_at, is_put, newest}
use Rattle.pcj_table.specs.Table.{Key, Table, row_at}
use Rattle.pcj_mvcc.specs.Reading.{Rows, put}
use Rattle.pcj_moves.specs.Actors.{Actor}
use Rattle.pcj_moves.specs.Moves.{IsAllowed, Makes, Move, actor_after, number_after, rows_after}
use Rattle.pcj_moves.specs.Moves.{Plan, Prewrite, Draw, CommitPrimary, CommitSecondary, CommitNothing, Read, Meet, Learn, DropPrimary, RollBack, RollForward, EndRecovery, WritePlain}
use Rattle.pcj_pending.specs.Pending.{is_of_task, is_standing}
use Rattle.pcj_pending.specs.Laws.{AddsAtMost, MovesAddAtMost, StepsAddAtMost, most_added}
use Rattle.pcj_pending.proofs.CountLemmas.{added_at_most}

-- ---- rows

-- A test of rows that those with a lock pass, and that plain values are nothing to.
record OfLocks (test : Row → Bool) : Type 0 where
  locked : (found : Row) → is_some found.lock ≡ true → test found ≡ true
  plain : (found other : Row) → other.lock ≡ found.lock → other.versions ≡ found.versions → test other ≡ test found

locks : OfLocks (λ found. is_some found.lock)
locks = record { locked = λ found is. is; plain = λ found other lock versions. ap is_some lock }

standings : OfLocks is_standing
standings = record {
  locked = λ found is. ap (λ b. b || is_put (newest found.versions)) is;
  plain = λ found other lock versions. ap (λ l. is_some l || is_put (newest other.versions)) lock ∙ ap (λ vs. is_some found.lock || is_put (newest vs)) versions;
}

-- each row that passes passed before, or is that of one of the keys
abbrev Adds : (Row → Bool) → List Key → Rows → Rows → Type 0
Adds test keys before after = (key : Key) → test (after key) ≡ true → (test (before key) ≡ true) ⊎ Contains keys key

adds_nothing : (test : Row → Bool) (rows : Rows) → Adds test [] rows rows
adds_nothing test rows key passes = inl passes

adds_again : (test : Row → Bool) (first second : List Key) (before between after : Rows) → Adds test first before between → Adds test second between after → Adds test (first ++ second) before after
adds_again test first second before between after one two key passes = by (two key passes)
  where
    earlier : (test (before key) ≡ true) ⊎ Contains first key → (test (before key) ≡ true) ⊎ Contains (first ++ second) key
    earlier (inl was) = inl was
    earlier (inr there) = inr (Contains-append_left first second key there)

    by : (test (between key) ≡ true) ⊎ Contains second key → (test (before key) ≡ true) ⊎ Contains (first ++ second) key
    by (inl was) = earlier (one key was)
    by (inr there) = inr (Contains-append_right first second key there)

-- ---- moves

-- another row at one key, which passed before
passed_before : (test : Row → Bool) (rows : Rows) (key : Key) (found : Row) → (test found ≡ true → test (rows key) ≡ true) → Adds test [] rows (put rows key found)
passed_before test rows key found was other passes = by (same_bytes other key) refl passes
  where
    by : (b : Bool) → same_bytes other key ≡ b → test (cond b found (rows other)) ≡ true → (test (rows other) ≡ true) ⊎ Contains [] other
    by true same passes = inl (subst (λ k. test (rows k) ≡ true) (sym (same_bytes_are other key same)) (was passes))
    by false apart passes = inl passes

one_more : (test : Row → Bool) (rows : Rows) (key : Key) (found : Row) → Adds test (key ∷ []) rows (put rows key found)
one_more test rows key found other passes = by (same_bytes other key) refl passes
  where
    by : (b : Bool) → same_bytes other key ≡ b → test (cond b found (rows other)) ≡ true → (test (rows other) ≡ true) ⊎ Contains (key ∷ []) other
    by true same passes = inr (subst (Contains (key ∷ [])) (sym (same_bytes_are other key same)) (first_there key []))
    by false apart passes = inl passes

had_lock : (start : ℕ) (lock : Option Lock) → is_locked_at start lock ≡ true → is_some lock ≡ true
had_lock start None is = is
had_lock start (Some lock) is = refl

-- one that had a lock
unlocked : (test : Row → Bool) → OfLocks test → (rows : Rows) (key : Key) (found : Row) (start : ℕ) → (is_locked_at start (rows key).lock && true) ≡ true → Adds test [] rows (put rows key found)
unlocked test of rows key found start allowed =
    passed_before test rows key found (λ passes. of.locked (rows key) (had_lock start (rows key).lock (and_parts (is_locked_at start (rows key).lock) true allowed).0))

-- the keys that a move locks
abbrev locked_by : Move → List Key
locked_by (Prewrite write) = write.key ∷ []
locked_by _ = []

move_adds : (test : Row → Bool) → OfLocks test → (move : Move) (number : ℕ) (rows : Rows) (actor : Actor) → IsAllowed move number rows actor → Adds test (locked_by move) rows (rows_after move actor rows)
move_adds test of (Plan writes) number rows actor may = adds_nothing test rows
move_adds test of (Prewrite write) number rows actor may = one_more test rows write.key _
move_adds test of (Draw commit) number rows actor may = adds_nothing test rows
move_adds test of (CommitPrimary write commit) number rows actor may = unlocked test of rows write.key _ actor.start may.allowed
move_adds test of (CommitSecondary write commit) number rows actor may = unlocked test of rows write.key _ actor.start may.allowed
move_adds test of (CommitNothing commit) number rows actor may = adds_nothing test rows
move_adds test of (Read answer) number rows actor may = adds_nothing test rows
move_adds test of (Meet key lock) number rows actor may = adds_nothing test rows
move_adds test of (Learn recovery) number rows actor may = adds_nothing test rows
move_adds test of (DropPrimary recovery) number rows actor may = unlocked test of rows recovery.lock.primary _ recovery.lock.start may.1
move_adds test of (RollBack recovery) number rows actor may = unlocked test of rows recovery.key _ recovery.lock.start may.2
move_adds test of (RollForward recovery commit) number rows actor may = unlocked test of rows recovery.key _ recovery.lock.start may.2
move_adds test of EndRecovery number rows actor may = adds_nothing test rows
move_adds test of (WritePlain key plain) number rows actor may = passed_before test rows key _ (λ passes. sym (of.plain (rows key) _ refl refl) ∙ passes)

-- an actor has prewritten as many rows more
prewrites : (move : Move) (number : ℕ) (rows : Rows) (actor : Actor) → IsAllowed move number rows actor → (actor_after move rows actor).transaction.prewritten ≡ actor.transaction.prewritten + length (locked_by move)
prewrites (Plan writes) number rows actor may = let none = ap (λ (t : Rattle.pcj_moves.specs.Transactions.Transaction). t.prewritten) may.0 in omega (arith, none)
prewrites (Prewrite write) number rows actor may = omega arith
prewrites (Draw commit) number rows actor may = omega arith
prewrites (CommitPrimary write commit) number rows actor may = omega arith
prewrites (CommitSecondary write commit) number rows actor may = omega arith
prewrites (CommitNothing commit) number rows actor may = omega arith
prewrites (Read answer) number rows actor may = omega arith
prewrites (Meet key lock) number rows actor may = omega arith
prewrites (Learn recovery) number rows actor may = omega arith
prewrites (DropPrimary recovery) number rows actor may = omega arith
prewrites (RollBack recovery) number rows actor may = omega arith
prewrites (RollForward recovery commit) number rows actor may = omega arith
prewrites EndRecovery number rows actor may = omega arith
prewrites (WritePlain key plain) number rows actor may = omega arith

-- ---- tables

within_range : (a b c : Bool) {T : Type 0} → (b ≡ true → (c ≡ true) ⊎ T) → (a && b) ≡ true → ((a && c) ≡ true) ⊎ T
within_range true b c each passes = each passes
within_range false b c each passes = absurd cc

tables_add : (keys : List Key) (before after : Table) → ((test : Row → Bool) → OfLocks test → Adds test keys (row_at before) (row_at after)) → AddsAtMost (length keys) before after
tables_add keys before after adds = record {
  locks = added_at_most (λ entry. is_some entry.1.lock) before after keys (λ key. refl) (adds (λ found. is_some found.lock) locks);
  notifications = added_at_most (λ entry. is_of_task entry.0 && is_standing entry.1) before after keys (λ key. false_and (is_of_task key))
      (λ key. within_range (is_of_task key) (is_standing (row_at after key)) (is_standing (row_at before key)) (adds is_standing standings key));
}
  where
    false_and : (b : Bool) → (b && false) ≡ false
    false_and true = refl
    false_and false = refl

most_is : (move : Move) → length (locked_by move) ≡ most_added move
most_is (Plan writes) = refl
most_is (Prewrite write) = refl
most_is (Draw commit) = refl
most_is (CommitPrimary write commit) = refl
most_is (CommitSecondary write commit) = refl
most_is (CommitNothing commit) = refl
most_is (Read answer) = refl
most_is (Meet key lock) = refl
most_is (Learn recovery) = refl
most_is (DropPrimary recovery) = refl
most_is (RollBack recovery) = refl
most_is (RollForward recovery commit) = refl
most_is EndRecovery = refl
most_is (WritePlain key plain) = refl

pub moves_add : MovesAddAtMost
moves_add number actor move before after may same =
    subst (λ most. AddsAtMost most before after) (most_is move)
    (tables_add (locked_by move) before after (λ test of. subst (Adds test (locked_by move) (row_at before)) (sym same) (move_adds test of move number (row_at before) actor may)))

-- ---- several moves

abbrev all_locked_by : List Move → List Key
all_locked_by [] = []
all_locked_by (move ∷ moves) = locked_by move ++ all_locked_by moves

all_add : (test : Row → Bool) → OfLocks test → (moves : List Move) (number : ℕ) (rows : Rows) (actor : Actor) (number' : ℕ) (rows' : Rows) (actor' : Actor) → Makes moves number rows actor number' rows' actor' →
    Adds test (all_locked_by moves) rows rows'
all_add test of [] number rows actor number' rows' actor' makes = subst (Adds test [] rows) (sym makes.1) (adds_nothing test rows)
all_add test of (move ∷ moves) number rows actor number' rows' actor' makes =
    adds_again test (locked_by move) (all_locked_by moves) rows (rows_after move actor rows) rows' (move_adds test of move number rows actor makes.0)
    (all_add test of moves (number_after move number) (rows_after move actor rows) (actor_after move rows actor) number' rows' actor' makes.1)

all_prewrite : (moves : List Move) (number : ℕ) (rows : Rows) (actor : Actor) (number' : ℕ) (rows' : Rows) (actor' : Actor) → Makes moves number rows actor number' rows' actor' →
    actor'.transaction.prewritten ≡ actor.transaction.prewritten + length (all_locked_by moves)
all_prewrite [] number rows actor number' rows' actor' makes = let same = ap (λ (a : Actor). a.transaction.prewritten) makes.2 in omega (arith, same)
all_prewrite (move ∷ moves) number rows actor number' rows' actor' makes =
    let first = prewrites move number rows actor makes.0 in
    let rest = all_prewrite moves (number_after move number) (rows_after move actor rows) (actor_after move rows actor) number' rows' actor' makes.1 in
    let both = length-append (locked_by move) (all_locked_by moves) in
    omega (arith, first, rest, both)

pub steps_add : StepsAddAtMost
steps_add moves number actor before number' actor' after most makes few =
    let adds = tables_add (all_locked_by moves) before after (λ test of. all_add test of moves number (row_at before) actor number' (row_at after) actor' makes) in
    let written = all_prewrite moves number (row_at before) actor number' (row_at after) actor' makes in
    record { locks = (let locks = adds.locks in omega (arith, locks, written, few)); notifications = (let tasks = adds.notifications in omega (arith, tasks, written, few)) }
