-- A step of one actor that changes a row, with any others.
use Rattle.std.proofs.Common.{◌≡◌, ◌≢◌, ◌⊎◌, inl, inr, ◌<◌, ℕ, zero, suc, true, false, cond, is_some, ◌==◌, List, [], ◌∷◌, length, take, Option, Some, None, refl, ap, sym, subst, ◌∙◌, arith}
use Rattle.std.proofs.lemmas.Bool.{and_parts, eq-eqb}
use Rattle.std.proofs.lemmas.List.{take_all}
use Rattle.std.specs.List.{find}
use Rattle.std.specs.Option.{option_map}
use Rattle.pcj_term.proofs.ByteLemmas.{same_bytes_itself}
use Rattle.pcj_table.specs.Table.{Key}
use Rattle.pcj_table.specs.declared.lock.Lock.{Lock}
use Rattle.pcj_table.specs.declared.row.Row.{Row}
use Rattle.pcj_table.specs.declared.version.Version.{Version}
use Rattle.pcj_table.specs.declared.write.Write.{Write}
use Rattle.pcj_mvcc.proofs.Laws.{commits_stand, prewrite_keeps, primary_commits, roll_back_keeps, roll_forward_keeps}
use Rattle.pcj_mvcc.proofs.Rows.{put_same}
use Rattle.pcj_mvcc.specs.Acts.{commit_act, lock_of, prewrite_act, version_of}
use Rattle.pcj_mvcc.specs.Laws.{StandsAtOnce}
use Rattle.pcj_mvcc.specs.Reading.{OnePrimary, OnlyLock, Put, Rows, SameReading, acted, allows, committed}
use Rattle.pcj_mvcc.specs.Times.{TimesInOrder}
use Rattle.pcj_moves.specs.Traces.{Trace, Traces, lock_from, lock_trace, no_trace, place, traces, version_trace}
use Rattle.pcj_moves.specs.declared.answer.Answer.{Answer}
use Rattle.pcj_moves.specs.Transactions.{IsHeld, IsLost, IsRipe, IsWon, Transaction, Transacts, as_committed, as_version, first_key, lock_at, primary_of, with_next, write_at}
use Rattle.pcj_moves.specs.Recoveries.{Knows, Recovers, Recovery}
use Rattle.pcj_moves.specs.Reads.{IsHidden, Reads}
use Rattle.pcj_moves.specs.Actors.{Actor, ArePair, IsSound}
use Rattle.pcj_moves.specs.TraceLaws.{ChangesTrace}
use Rattle.pcj_moves.specs.ActorLaws.{LocksNamePrimary, MetIsOther, NextIsFree, NothingIsFree}
use Rattle.pcj_moves.specs.StepLaws.{PrewriteStep, PrimaryStep, RecoveryDropsPrimary, RecoveryRollsBack, RecoveryRollsForward, RollBackUnlocks, RollForwardUnlocks, SecondaryUnlocks, StayStep, UnlockStep, Unlocks}
use Rattle.pcj_moves.proofs.TraceLemmas.{locked_trace, prewrite_changes, replace_changes, roll_back_changes}
use Rattle.pcj_moves.proofs.OtherLemmas.{hidden_stays, reads_pass_commit, reads_stay, recovers_stays, transacts_stays}
use Rattle.pcj_moves.proofs.OwnLemmas.{hidden_committed, hidden_undrawn, hidden_unlock, lock_is_of_write, names_primary, of_write_next, prewrite_goes_on, primary_first, primary_goes_on, recovers_prewrite, recovers_unlock, roll_back_goes_on, roll_forward_goes_on}
use Rattle.pcj_moves.proofs.ActorLemmas.{OwnStep, by_number, each_holds, if_some, own_step, sound_after, sounds_stay}

-- ---- a lock is taken away

pub unlock_hides : (start : ℕ) (before after : Rows) → Unlocks start before after → (other : ℕ) (transaction : Transaction) (reader : ℕ) (answers : List Answer) → IsHidden other transaction (traces other before) reader answers → IsHidden other transaction (traces other after) reader answers
unlock_hides start before after unlocks other transaction reader answers held = by_number other start
    (λ same. subst (λ s. IsHidden s transaction (traces s before) reader answers → IsHidden s transaction (traces s after) reader answers) (sym same)
    (λ h. subst (λ at. IsHidden start transaction at reader answers) (sym unlocks.changes.own) (hidden_unlock start transaction (traces start before) unlocks.key unlocks.new reader answers unlocks.free h)) held)
    (λ apart. hidden_stays start unlocks.key unlocks.new before after unlocks.changes other transaction reader answers apart held)

pub unlock_step : UnlockStep
unlock_step start before after actors unlocks = sounds_stay (λ actor. Unit {0}) before after (λ actor c. one actor) (λ actor other c. two actor other) actors (each_holds _ (λ actor. tt) actors)
  where
    transacts : (other : ℕ) (transaction : Transaction) → Transacts other transaction (traces other before) → Transacts other transaction (traces other after)
    transacts other transaction held = by_number other start
        (λ same. subst (λ s. Transacts s transaction (traces s before) → Transacts s transaction (traces s after)) (sym same) (λ t. subst (Transacts start transaction) (sym unlocks.changes.own) (unlocks.goes transaction t)) held)
        (λ apart. transacts_stays start unlocks.key unlocks.new before after unlocks.changes other transaction apart held)

    recovers : (recovery : Recovery) → Recovers recovery (traces recovery.lock.start before) → Recovers recovery (traces recovery.lock.start after)
    recovers recovery held = by_number recovery.lock.start start
        (λ same. subst (λ s. Recovers recovery (traces s before) → Recovers recovery (traces s after)) (sym same)
        (λ r. subst (Recovers recovery) (sym unlocks.changes.own) (recovers_unlock recovery (traces start before) unlocks.key unlocks.lock unlocks.new r unlocks.was unlocks.free)) held)
        (λ apart. recovers_stays start unlocks.key unlocks.new before after unlocks.changes recovery apart held)

    one : (actor : Actor) → IsSound before actor → IsSound after actor
    one actor sound = record {
      reads = reads_stay before after actor.start actor.answers unlocks.same sound.reads;
      transacts = transacts actor.start actor.transaction sound.transacts;
      recovers = if_some _ _ (λ recovery both. (recovers recovery both.0, both.1)) actor.recovery sound.recovers;
    }

    two : (actor other : Actor) → ArePair before actor other → ArePair after actor other
    two actor other pair = record { apart = pair.apart; hidden = unlock_hides start before after unlocks actor.start actor.transaction other.start other.answers pair.hidden; recovers = pair.recovers }

-- the primary of a transaction is the one that its locks name
primary_is : (start : ℕ) (transaction : Transaction) (rows : Rows) (primary key : Key) (lock : Lock) → OnePrimary rows primary start → (rows key).lock ≡ Some lock → lock.start ≡ start →
    traces start rows key ≡ lock_trace (Some lock) → Transacts start transaction (traces start rows) → primary_of transaction ≡ primary
primary_is start transaction rows primary key lock one locked is was transacts =
    names_primary start (primary_of transaction) (write_at _ key) lock (lock_is_of_write start transaction (traces start rows) key lock transacts (ap (λ (t : Trace). t.lock) was)) ∙ one key lock locked is

pub roll_back_unlocks : RollBackUnlocks
roll_back_unlocks rows key start primary order allowed one which =
    let locked = (and_parts _ _ allowed).0 in
    let found = locked_trace rows key start order locked in record {
      key = key;
      lock = found.0;
      new = no_trace;
      changes = roll_back_changes rows key start order allowed;
      was = found.3;
      free = refl;
      empty = ap (λ (row : Row). row.lock) (put_same rows key _);
      same = roll_back_keeps rows key start primary allowed one (none found.3 which);
      goes = λ transaction transacts. roll_back_goes_on start transaction (traces start rows) key found.0 transacts found.3
          (named (primary_of transaction) (primary_is start transaction rows primary key found.0 one found.1 found.2 found.3 transacts) which);
    }
  where
    none : {lock : Lock} → traces start rows key ≡ lock_trace (Some lock) → (key ≡ primary) ⊎ (traces start rows primary ≡ no_trace) → committed rows primary start ≡ None
    none was (inl same) = ap (λ k. committed rows k start) (sym same) ∙ ap (λ (t : Trace). option_map (λ v. v.commit) t.version) was
    none was (inr gone) = ap (λ (t : Trace). option_map (λ v. v.commit) t.version) gone

    named : (other : Key) → other ≡ primary → (key ≡ primary) ⊎ (traces start rows primary ≡ no_trace) → (key ≡ other) ⊎ (traces start rows other ≡ no_trace)
    named other same which = subst (λ k. (key ≡ k) ⊎ (traces start rows k ≡ no_trace)) (sym same) which

pub roll_forward_unlocks : RollForwardUnlocks
roll_forward_unlocks rows key lock commit order allowed only one differs is =
    let locked = (and_parts _ _ allowed).0 in
    let found = locked_trace rows key lock.start order locked in
    let same : found.0 ≡ lock = only found.0 found.1 found.2 in
    let was : traces lock.start rows key ≡ lock_trace (Some lock) = found.3 ∙ ap (λ l. lock_trace (Some l)) same in record {
      key = key;
      lock = lock;
      new = version_trace (Some (version_of lock commit));
      changes = replace_changes rows key (version_of lock commit) order allowed;
      was = was;
      free = refl;
      empty = ap (λ (row : Row). row.lock) (put_same rows key _);
      same = roll_forward_keeps rows key lock commit allowed only one differs is;
      goes = λ transaction transacts. roll_forward_goes_on lock.start transaction (traces lock.start rows) key lock commit transacts
          (ap (λ k. committed rows k lock.start) (primary_is lock.start transaction rows lock.primary key lock one (found.1 ∙ ap Some same) refl was transacts) ∙ is) was;
    }

pub trace_lock : (rows : Rows) (key : Key) (start : ℕ) (lock : Lock) → (rows key).lock ≡ Some lock → lock.start ≡ start → (traces start rows key).lock ≡ Some lock
trace_lock rows key start lock e same = ap (lock_from start) e ∙ rw (ap (λ s. s == start) same ∙ eq-eqb start start refl) refl

pub met_is_other : MetIsOther
met_is_other rows start transaction key lock transacts free locked same =
    let clash : None ≡ Some lock = sym free ∙ lock_is_of_write start transaction (traces start rows) key lock transacts (trace_lock rows key start lock locked same) in cc

pub next_is_free : NextIsFree
next_is_free start transaction write next = ap (option_map (λ w. lock_of w start (primary_of transaction))) next.new

pub nothing_is_free : NothingIsFree
nothing_is_free start transaction key none = ap (λ writes. option_map (λ w. lock_of w start (primary_of transaction)) (write_at (take transaction.prewritten writes) key)) none ∙ by transaction.prewritten
  where
    by : (n : ℕ) → option_map (λ w. lock_of w start (primary_of transaction)) (write_at (take n []) key) ≡ None
    by zero = refl
    by (suc n) = refl

-- the primary of a transaction is named by all its locks
pub names_one : LocksNamePrimary
names_one rows start transaction transacts key l e same =
    sym (names_primary start (primary_of transaction) (write_at (take transaction.prewritten transaction.writes) key) l
    (lock_is_of_write start transaction (traces start rows) key l transacts (trace_lock rows key start l e same)))

-- what a committed transaction has in a row that it writes, while its lock stands there
pub record Further (rows : Rows) (start : ℕ) (transaction : Transaction) (write : Write) (commit : ℕ) : Type 0 where
  pub only : OnlyLock rows write.key (lock_of write start (primary_of transaction))
  pub differs : write.key ≢ primary_of transaction
  pub now : committed rows (primary_of transaction) start ≡ Some commit

pub further : (rows : Rows) (start : ℕ) (transaction : Transaction) (write : Write) (commit : ℕ) → TimesInOrder rows → Transacts start transaction (traces start rows) →
    transaction.committed ≡ true → transaction.commit ≡ Some commit → write_at transaction.writes write.key ≡ Some write → allows (commit_act write start commit) (rows write.key) ≡ true →
    Further rows start transaction write commit
further rows start transaction write commit order transacts done drawn is allowed = record { only = only; differs = differs; now = now }
  where
    at : Traces
    at = traces start rows

    lock : Lock
    lock = lock_of write start (primary_of transaction)

    taken : take transaction.prewritten transaction.writes ≡ transaction.writes
    taken = ap (λ n. take n transaction.writes) (transacts.all commit drawn) ∙ take_all (length transaction.writes) transaction.writes (omega arith)

    written : lock_at start transaction write.key ≡ Some lock
    written = ap (option_map (λ w. lock_of w start (primary_of transaction))) (ap (λ ws. write_at ws write.key) taken ∙ is)

    only : OnlyLock rows write.key lock
    only l e same = let one : Some l ≡ Some lock = sym (lock_is_of_write start transaction at write.key l transacts (trace_lock rows write.key start l e same)) ∙ written in cc

    won : IsWon (primary_of transaction) (lock_at start transaction) commit at
    won = let found = transacts.won done in
        let same : found.0 ≡ commit = (let e = found.1 in cc) in subst (λ c. IsWon (primary_of transaction) (lock_at start transaction) c at) same found.2

    differs : write.key ≢ primary_of transaction
    differs same =
        let found = locked_trace rows write.key start order (and_parts _ _ allowed).0 in
        let clash : None ≡ Some found.0 = ap (λ (t : Trace). t.lock) (sym won.primary_there ∙ ap at (sym same) ∙ found.3) in cc

    some : (found : Option Lock) → lock_at start transaction (primary_of transaction) ≡ found → option_map (λ (v : Version). v.commit) (as_version commit found) ≡ Some commit
    some None e = absurd (let clash : None ≡ Some lock = sym (primary_first start transaction.prewritten transaction.writes (primary_of transaction) e write.key) ∙ written in cc)
    some (Some l) e = refl

    now : committed rows (primary_of transaction) start ≡ Some commit
    now = ap (λ (t : Trace). option_map (λ v. v.commit) t.version) won.primary_there ∙ some (lock_at start transaction (primary_of transaction)) refl

pub secondary_unlocks : SecondaryUnlocks
secondary_unlocks rows start transaction write commit order transacts done drawn is allowed =
    let facts = further rows start transaction write commit order transacts done drawn is allowed in
    roll_forward_unlocks rows write.key (lock_of write start (primary_of transaction)) commit order allowed facts.only (names_one rows start transaction transacts) facts.differs facts.now

-- ---- the prewrite of a row

-- no row has a version of a transaction that isn't committed
pub no_version_yet : (rows : Rows) (start : ℕ) (transaction : Transaction) → Transacts start transaction (traces start rows) → transaction.committed ≡ false →
    (key : Key) → find (λ version. version.start == start) (rows key).versions ≡ None
no_version_yet rows start transaction transacts not_yet key = by (transacts.undone not_yet)
  where
    each : (traces start rows key ≡ lock_trace (lock_at start transaction key)) ⊎ (traces start rows key ≡ no_trace) → find (λ version. version.start == start) (rows key).versions ≡ None
    each (inl locked) = ap (λ (t : Trace). t.version) locked
    each (inr gone) = ap (λ (t : Trace). t.version) gone

    by : IsHeld (lock_at start transaction) (traces start rows) ⊎ IsLost (primary_of transaction) (lock_at start transaction) (traces start rows) → find (λ version. version.start == start) (rows key).versions ≡ None
    by (inl held) = each (inl (held key))
    by (inr lost) = each (lost.each key)

pub uncommitted : (rows : Rows) (start : ℕ) (transaction : Transaction) → Transacts start transaction (traces start rows) → transaction.committed ≡ false → committed rows (primary_of transaction) start ≡ None
uncommitted rows start transaction transacts not_yet = ap (option_map (λ v. v.commit)) (no_version_yet rows start transaction transacts not_yet (primary_of transaction))

pub prewrite_step : PrewriteStep
prewrite_step rows actor others write order next allowed sound = sound_after _ rows after actor _ others (own_step rows after actor (with_next transaction) act) (each_holds _ (λ other. tt) others) sound
  where
    transaction : Transaction
    transaction = actor.transaction

    after : Rows
    after = acted rows write.key (prewrite_act write actor.start (primary_of actor.transaction))

    changes : ChangesTrace actor.start write.key (lock_trace (Some (lock_of write actor.start (primary_of actor.transaction)))) rows after
    changes = prewrite_changes rows write actor.start (primary_of actor.transaction) order allowed

    same : SameReading rows after
    same = prewrite_keeps rows write actor.start (primary_of actor.transaction) allowed (uncommitted rows actor.start actor.transaction sound.0.transacts next.committed)

    act : OwnStep rows after actor (with_next actor.transaction)
    act = record {
      key = write.key;
      new = lock_trace (Some (lock_of write actor.start (primary_of actor.transaction)));
      changes = changes;
      commit = refl;
      own = reads_stay rows after actor.start actor.answers same;
      reads = λ other pair. reads_stay rows after other.start other.answers same;
      goes = λ held. prewrite_goes_on actor.start actor.transaction (traces actor.start rows) write held next;
      recovers = λ recovery is. recovers_prewrite actor.start actor.transaction (traces actor.start rows) write recovery next is;
      of_write = λ key lock. of_write_next actor.start actor.transaction write key lock next;
      hidden = λ reader answers. hidden_undrawn actor.start (with_next actor.transaction) (traces actor.start after) reader answers next.commit;
    }

-- ---- the commit of the primary's row

reads_before : (start commit : ℕ) (before after : Rows) (reader : ℕ) (answers : List Answer) → StandsAtOnce start commit before after → reader < commit → Reads before reader answers → Reads after reader answers
reads_before start commit before after reader answers at_once earlier reads answer held key covered = ap (option_map (λ (put : Put). put.0)) (at_once.before key reader earlier) ∙ reads answer held key covered

-- what the commit of the primary's row does
pub record AtPrimary (rows : Rows) (start : ℕ) (transaction : Transaction) (write : Write) (commit : ℕ) : Type 0 where
  pub was : traces start rows write.key ≡ lock_trace (Some (lock_of write start write.key))
  pub ripe : IsRipe start transaction (traces start rows) commit
  pub at_once : StandsAtOnce start commit rows (acted rows write.key (commit_act write start commit))

pub at_primary : (rows : Rows) (start : ℕ) (transaction : Transaction) (write : Write) (writes : List Write) (commit : ℕ) → TimesInOrder rows → Transacts start transaction (traces start rows) →
    transaction.writes ≡ write ∷ writes → transaction.commit ≡ Some commit → transaction.committed ≡ false → allows (commit_act write start commit) (rows write.key) ≡ true →
    AtPrimary rows start transaction write commit
at_primary rows start transaction write writes commit order transacts is drawn not_yet allowed = record { was = was; ripe = ripe; at_once = at_once }
  where
    at : Traces
    at = traces start rows

    lock : Lock
    lock = lock_of write start write.key

    primary : primary_of transaction ≡ write.key
    primary = ap first_key is

    taken : take transaction.prewritten transaction.writes ≡ write ∷ writes
    taken = ap (λ n. take n transaction.writes) (transacts.all commit drawn) ∙ take_all (length transaction.writes) transaction.writes (omega arith) ∙ is

    written : lock_at start transaction write.key ≡ Some lock
    written = ap (λ ws. option_map (λ w. lock_of w start (primary_of transaction)) (write_at ws write.key)) taken
        ∙ ap (λ b. option_map (λ w. lock_of w start (primary_of transaction)) (cond b (Some write) (write_at writes write.key))) (same_bytes_itself write.key)
        ∙ ap (λ k. Some (lock_of write start k)) primary

    only : OnlyLock rows write.key lock
    only l e same = let one : Some l ≡ Some lock = sym (lock_is_of_write start transaction at write.key l transacts (trace_lock rows write.key start l e same)) ∙ written in cc

    one_primary : OnePrimary rows write.key start
    one_primary key l e same = names_one rows start transaction transacts key l e same ∙ primary

    was : at write.key ≡ lock_trace (Some lock)
    was = let found = locked_trace rows write.key start order (and_parts _ _ allowed).0 in found.3 ∙ ap (λ l. lock_trace (Some l)) (only found.0 found.1 found.2)

    ripe : IsRipe start transaction at commit
    ripe = record { drawn = drawn; undone = not_yet; locked = ap (λ k. is_some (at k).lock) primary ∙ ap (λ (t : Trace). is_some t.lock) was }

    at_once : StandsAtOnce start commit rows (acted rows write.key (commit_act write start commit))
    at_once = commits_stand start commit rows _
        (primary_commits rows write start commit allowed only one_primary (ap (λ (t : Trace). option_map (λ v. v.commit) t.version) was))
        order.last (let later = transacts.later commit drawn in omega arith)

pub primary_step : PrimaryStep
primary_step rows actor others write writes commit order is drawn not_yet allowed sound = sound_after _ rows after actor _ others (own_step rows after actor (as_committed actor.transaction) act) (each_holds _ (λ other. tt) others) sound
  where
    transaction : Transaction
    transaction = actor.transaction

    at : Traces
    at = traces actor.start rows

    lock : Lock
    lock = lock_of write actor.start write.key

    after : Rows
    after = acted rows write.key (commit_act write actor.start commit)

    facts : AtPrimary rows actor.start transaction write commit
    facts = at_primary rows actor.start transaction write writes commit order sound.0.transacts is drawn not_yet allowed

    goes : Transacts actor.start (as_committed transaction) (place at write.key (version_trace (Some (version_of lock commit))))
    goes = let primary : primary_of transaction ≡ write.key = ap first_key is in
        subst (λ k. Transacts actor.start (as_committed transaction) (place at k (version_trace (Some (version_of lock commit))))) primary
        (primary_goes_on actor.start transaction at lock commit sound.0.transacts not_yet drawn (ap at primary ∙ facts.was))

    act : OwnStep rows after actor (as_committed actor.transaction)
    act = record {
      key = write.key;
      new = version_trace (Some (version_of lock commit));
      changes = replace_changes rows write.key (version_of lock commit) order allowed;
      commit = refl;
      own = reads_before actor.start commit rows after actor.start actor.answers facts.at_once (sound.0.transacts.later commit drawn);
      reads = λ other pair. reads_pass_commit actor.start commit transaction rows after other.start other.answers sound.0.transacts facts.ripe pair.hidden facts.at_once;
      goes = λ held. goes;
      recovers = λ recovery e held. recovers_unlock recovery at write.key lock _ held facts.was refl;
      of_write = λ key l e. e;
      hidden = λ reader answers. hidden_committed actor.start (as_committed transaction) (traces actor.start after) reader answers refl;
    }

-- ---- the steps of a recovery

-- the locks of a recovery's start name one primary
one_named : (rows : Rows) (recovery : Recovery) → Recovers recovery (traces recovery.lock.start rows) → OnePrimary rows recovery.lock.primary recovery.lock.start
one_named rows recovery recovers key lock e same = recovers.names key lock (trace_lock rows key recovery.lock.start lock e same)

pub recovery_rolls_back : RecoveryRollsBack
recovery_rolls_back rows recovery order recovers is allowed =
    roll_back_unlocks rows recovery.key recovery.lock.start recovery.lock.primary order allowed (one_named rows recovery recovers)
    (inr (subst (Knows recovery (traces recovery.lock.start rows)) is recovers.knows).1)

pub recovery_drops_primary : RecoveryDropsPrimary
recovery_drops_primary rows recovery order recovers allowed =
    roll_back_unlocks rows recovery.lock.primary recovery.lock.start recovery.lock.primary order allowed (one_named rows recovery recovers) (inl refl)

pub recovery_rolls_forward : RecoveryRollsForward
recovery_rolls_forward rows recovery commit order recovers is allowed =
    let knows = subst (Knows recovery (traces recovery.lock.start rows)) is recovers.knows in
    roll_forward_unlocks rows recovery.key recovery.lock commit order allowed
    (λ l e same. recovers.holds l (trace_lock rows recovery.key recovery.lock.start l e same)) (one_named rows recovery recovers) knows.0 knows.1

-- ---- steps that change no row of a transaction

pub stay_step : StayStep
stay_step before after actors stays = sounds_stay (λ actor. Unit {0}) before after (λ actor c. one actor) (λ actor other c. two actor other) actors (each_holds _ (λ actor. tt) actors)
  where
    one : (actor : Actor) → IsSound before actor → IsSound after actor
    one actor sound = record {
      reads = reads_stay before after actor.start actor.answers stays.same sound.reads;
      transacts = subst (Transacts actor.start actor.transaction) (sym (stays.traces_same actor.start)) sound.transacts;
      recovers = if_some _ _ (λ recovery both. (subst (Recovers recovery) (sym (stays.traces_same recovery.lock.start)) both.0, both.1)) actor.recovery sound.recovers;
    }

    two : (actor other : Actor) → ArePair before actor other → ArePair after actor other
    two actor other pair = record {
      apart = pair.apart;
      hidden = subst (λ at. IsHidden actor.start actor.transaction at other.start other.answers) (sym (stays.traces_same actor.start)) pair.hidden;
      recovers = pair.recovers;
    }
