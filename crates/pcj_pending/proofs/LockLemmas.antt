-- Which moves set a lock, and which take one away.
use Rattle.std.proofs.Common.{◌≡◌, ◌⊎◌, inl, inr, ◌+◌, ℕ, Bool, true, false, not, is_some, ◌&&◌, [], ◌∷◌, Option, Some, None, refl, ap, sym, subst, ◌∙◌, arith}
use Rattle.std.specs.List.{Contains}
use Rattle.std.proofs.lemmas.Bool.{and_parts}
use Rattle.pcj_term.specs.Order.{same_bytes}
use Rattle.pcj_term.proofs.ByteLemmas.{same_bytes_are}
use Rattle.pcj_term.proofs.ListLemmas.{first_there}
use Rattle.pcj_table.specs.declared.lock.Lock.{Lock}
use Rattle.pcj_table.specs.declared.row.Row.{Row}
use Rattle.pcj_table.specs.Row.{is_locked_at}
use Rattle.pcj_table.specs.Table.{Key, Table, row_at}
use Rattle.pcj_table.proofs.EntryLemmas.{Entry}
use Rattle.pcj_mvcc.specs.Reading.{put}
use Rattle.pcj_mvcc.proofs.Rows.{put_same, put_other}
use Rattle.pcj_moves.specs.Moves.{Plan, Prewrite, Draw, CommitPrimary, CommitSecondary, CommitNothing, Read, Meet, Learn, DropPrimary, RollBack, RollForward, EndRecovery, WritePlain}
use Rattle.pcj_pending.specs.Pending.{locks_of}
use Rattle.pcj_pending.specs.Laws.{MovesCountLocks}
use Rattle.pcj_pending.proofs.CountLemmas.{added_at_most, taken_away}

abbrev has_lock : Entry → Bool
has_lock entry = is_some entry.1.lock

-- ---- two tables

-- locks in the same rows
same_locks : (before after : Table) → ((key : Key) → (row_at after key).lock ≡ (row_at before key).lock) → locks_of after ≡ locks_of before
same_locks before after same =
    let fewer = added_at_most has_lock before after [] (λ key. refl) (λ key passes. inl (ap is_some (sym (same key)) ∙ passes)) in
    let more = added_at_most has_lock after before [] (λ key. refl) (λ key passes. inl (ap is_some (same key) ∙ passes)) in
    omega (arith, fewer, more)

-- and but for one in which one table alone has a lock
one_more_lock : (fewer more : Table) (key : Key) → is_some (row_at more key).lock ≡ true → is_some (row_at fewer key).lock ≡ false →
    ((other : Key) → same_bytes other key ≡ false → row_at fewer other ≡ row_at more other) → locks_of fewer + 1 ≡ locks_of more
one_more_lock fewer more key has none same =
    let least = taken_away has_lock more fewer key (λ key. refl) has none there in
    let most = added_at_most has_lock fewer more (key ∷ []) (λ key. refl) here in
    omega (arith, least, most)
  where
    there : (other : Key) → is_some (row_at fewer other).lock ≡ true → is_some (row_at more other).lock ≡ true
    there other passes = by (same_bytes other key) refl
      where
        by : (b : Bool) → same_bytes other key ≡ b → is_some (row_at more other).lock ≡ true
        by true e = ap (λ k. is_some (row_at more k).lock) (same_bytes_are other key e) ∙ has
        by false e = ap (λ (found : Row). is_some found.lock) (sym (same other e)) ∙ passes

    here : (other : Key) → is_some (row_at more other).lock ≡ true → (is_some (row_at fewer other).lock ≡ true) ⊎ Contains (key ∷ []) other
    here other passes = by (same_bytes other key) refl
      where
        by : (b : Bool) → same_bytes other key ≡ b → (is_some (row_at fewer other).lock ≡ true) ⊎ Contains (key ∷ []) other
        by true e = inr (subst (Contains (key ∷ [])) (sym (same_bytes_are other key e)) (first_there key []))
        by false e = inl (ap (λ (found : Row). is_some found.lock) (same other e) ∙ passes)

-- ---- one row

unchanged : (before after : Table) → row_at after ≡ row_at before → locks_of after + 0 ≡ locks_of before + 0
unchanged before after same =
    let equal = same_locks before after (λ key. ap (λ (rows : Key → Row). (rows key).lock) same) in
    omega (arith, equal)

freed : (before after : Table) (key : Key) (found : Row) (start : ℕ) → row_at after ≡ put (row_at before) key found → (is_locked_at start (row_at before key).lock && true) ≡ true → is_some found.lock ≡ false →
    locks_of after + 1 ≡ locks_of before + 0
freed before after key found start same allowed none =
    let one = one_more_lock after before key (had_lock (row_at before key).lock (and_parts (is_locked_at start (row_at before key).lock) true allowed).0)
    (ap (λ (rows : Key → Row). is_some (rows key).lock) same ∙ ap (λ (r : Row). is_some r.lock) (put_same (row_at before) key found) ∙ none)
    (λ other apart. ap (λ (rows : Key → Row). rows other) same ∙ put_other (row_at before) key found other apart) in
    omega (arith, one)
  where
    had_lock : (lock : Option Lock) → is_locked_at start lock ≡ true → is_some lock ≡ true
    had_lock None is = is
    had_lock (Some lock) is = refl

set_one : (before after : Table) (key : Key) (found : Row) (b : Bool) → row_at after ≡ put (row_at before) key found → (not (is_some (row_at before key).lock) && b) ≡ true → is_some found.lock ≡ true →
    locks_of after + 0 ≡ locks_of before + 1
set_one before after key found b same allowed some =
    let one = one_more_lock before after key
    (ap (λ (rows : Key → Row). is_some (rows key).lock) same ∙ ap (λ (r : Row). is_some r.lock) (put_same (row_at before) key found) ∙ some)
    (none (is_some (row_at before key).lock) (and_parts (not (is_some (row_at before key).lock)) b allowed).0)
    (λ other apart. sym (ap (λ (rows : Key → Row). rows other) same ∙ put_other (row_at before) key found other apart)) in
    omega (arith, one)
  where
    none : (c : Bool) → not c ≡ true → c ≡ false
    none true e = absurd cc
    none false e = refl

plain_alone : (before after : Table) (key : Key) (found : Row) → row_at after ≡ put (row_at before) key found → found.lock ≡ (row_at before key).lock → locks_of after + 0 ≡ locks_of before + 0
plain_alone before after key found same lock =
    let equal = same_locks before after each in
    omega (arith, equal)
  where
    each : (other : Key) → (row_at after other).lock ≡ (row_at before other).lock
    each other = by (same_bytes other key) refl
      where
        by : (b : Bool) → same_bytes other key ≡ b → (row_at after other).lock ≡ (row_at before other).lock
        by true e =
            let is = same_bytes_are other key e in
            ap (λ k. (row_at after k).lock) is ∙ ap (λ (rows : Key → Row). (rows key).lock) same ∙ ap (λ (r : Row). r.lock) (put_same (row_at before) key found) ∙ lock ∙ ap (λ k. (row_at before k).lock) (sym is)
        by false e = ap (λ (rows : Key → Row). (rows other).lock) same ∙ ap (λ (r : Row). r.lock) (put_other (row_at before) key found other e)

-- ---- moves

pub moves_count : MovesCountLocks
moves_count number actor (Plan writes) before after may same = unchanged before after same
moves_count number actor (Prewrite write) before after may same = set_one before after write.key _ _ same may.allowed refl
moves_count number actor (Draw commit) before after may same = unchanged before after same
moves_count number actor (CommitPrimary write commit) before after may same = freed before after write.key _ actor.start same may.allowed refl
moves_count number actor (CommitSecondary write commit) before after may same = freed before after write.key _ actor.start same may.allowed refl
moves_count number actor (CommitNothing commit) before after may same = unchanged before after same
moves_count number actor (Read answer) before after may same = unchanged before after same
moves_count number actor (Meet key lock) before after may same = unchanged before after same
moves_count number actor (Learn recovery) before after may same = unchanged before after same
moves_count number actor (DropPrimary recovery) before after may same = freed before after recovery.lock.primary _ recovery.lock.start same may.1 refl
moves_count number actor (RollBack recovery) before after may same = freed before after recovery.key _ recovery.lock.start same may.2 refl
moves_count number actor (RollForward recovery commit) before after may same = freed before after recovery.key _ recovery.lock.start same may.2 refl
moves_count number actor EndRecovery before after may same = unchanged before after same
moves_count number actor (WritePlain key plain) before after may same = plain_alone before after key _ same refl
