-- A step of one actor that leaves the rows as they are, with any others.
use Rattle.std.proofs.Common.{◌≡◌, ◌⊎◌, inl, inr, ℕ, Bool, true, false, is_some, ◌==◌, [], ◌∷◌, ◌++◌, Option, Some, None, IfSome, refl, ap, ap₂, sym, subst, ◌∙◌, arith}
use Rattle.std.proofs.lemmas.Bool.{and_parts}
use Rattle.std.specs.List.{Contains, find}
use Rattle.std.specs.Option.{option_map}
use Rattle.pcj_table.specs.Row.{is_locked_at}
use Rattle.pcj_table.specs.Table.{Key}
use Rattle.pcj_table.specs.declared.lock.Lock.{Lock}
use Rattle.pcj_table.specs.declared.row.Row.{Row}
use Rattle.pcj_table.specs.declared.version.Version.{Version}
use Rattle.pcj_mvcc.proofs.Laws.{rolled_back}
use Rattle.pcj_mvcc.proofs.Rows.{put_same}
use Rattle.pcj_mvcc.specs.Reading.{commit_of}
use Rattle.pcj_moves.specs.Traces.{Traces, lock_from, lock_trace, no_trace, trace, traces, version_trace}
use Rattle.pcj_moves.specs.declared.answer.Answer.{Answer}
use Rattle.pcj_moves.specs.Transactions.{IsHeld, IsLost, Transaction, Transacts, as_committed, as_version, lock_at, new_transaction, primary_of, with_commit, write_at}
use Rattle.pcj_moves.specs.Recoveries.{IsOfWrite, Knows, Recovery, told, told_by, with_known}
use Rattle.pcj_moves.specs.Reads.{IsHidden, Reads, covers, finds, value_seen}
use Rattle.pcj_moves.specs.Actors.{Actor, ArePair, IsBelow, IsOlder, IsSound, new_actor, with_answer, with_recovery, with_transaction}
use Rattle.pcj_moves.specs.StepLaws.{AnswerStep, BeginStep, DrawStep, DropTells, EmptyStep, RecoveryBegins, RecoveryLearns, RecoveryStep, WritesStep}
use Rattle.pcj_moves.proofs.TraceLemmas.{both, none_where_locked}
use Rattle.pcj_moves.proofs.OtherLemmas.{hidden_read, lock_is}
use Rattle.pcj_moves.proofs.OwnLemmas.{draw_goes_on, hidden_committed, hidden_drawn, hidden_undrawn, lock_is_of_write}
use Rattle.pcj_moves.proofs.ActorLemmas.{KeepsAll, each_holds, each_map, each_sound, either_held, if_some, sound_after}
use Rattle.pcj_moves.proofs.StepLemmas.{nothing_is_free, trace_lock}

pub draw_step : DrawStep
draw_step rows actor others commit all not_yet below sound = (own sound.0, each_map (IsBelow commit) paired _ (λ other lower pair. (from_mover other lower pair.0, to_mover other lower pair.1)) others below.1 sound.1, sound.2)
  where
    mover : Actor
    mover = with_transaction actor (with_commit actor.transaction commit)

    paired : Actor → Type 0
    paired other = ArePair rows actor other × ArePair rows other actor

    own : IsSound rows actor → IsSound rows mover
    own is = record { reads = is.reads; transacts = draw_goes_on actor.start actor.transaction (traces actor.start rows) commit is.transacts all not_yet below.0.start; recovers = is.recovers }

    from_mover : (other : Actor) → IsBelow commit other → ArePair rows actor other → ArePair rows mover other
    from_mover other lower pair = record {
      apart = record {
        starts = pair.apart.starts;
        commits = λ c e. let same : commit ≡ c = cc in (λ is. absurd (let lt = lower.start in omega arith), λ is. absurd (let lt = lower.commit c is in omega arith));
      };
      hidden = hidden_drawn actor.start actor.transaction (traces actor.start rows) other.start other.answers commit lower.start;
      recovers = pair.recovers;
    }

    to_mover : (other : Actor) → IsBelow commit other → ArePair rows other actor → ArePair rows other mover
    to_mover other lower pair = record {
      apart = record {
        starts = pair.apart.starts;
        commits = λ c e. ((pair.apart.commits c e).0, λ is. absurd (let same : commit ≡ c = cc in let lt = lower.commit c e in omega arith));
      };
      hidden = pair.hidden;
      recovers = pair.recovers;
    }

-- ---- the commit of nothing

pub empty_step : EmptyStep
empty_step rows actor others commit none drawn not_yet sound = sound_after _ rows rows actor (with_transaction actor (as_committed transaction)) others step (each_holds _ (λ other. tt) others) sound
  where
    transaction : Transaction
    transaction = actor.transaction

    at : Traces
    at = traces actor.start rows

    held : Transacts actor.start transaction at → (key : Key) → at key ≡ no_trace
    held transacts key = by (transacts.undone not_yet)
      where
        by : IsHeld (lock_at actor.start transaction) at ⊎ IsLost (primary_of transaction) (lock_at actor.start transaction) at → at key ≡ no_trace
        by (inl all) = all key ∙ ap lock_trace (nothing_is_free actor.start transaction key none)
        by (inr lost) = absurd (let clash = ap is_some (nothing_is_free actor.start transaction (primary_of transaction) none) in let some = lost.some in cc)

    free : (key : Key) → version_trace (as_version commit (lock_at actor.start transaction key)) ≡ no_trace
    free key = ap (λ lock. version_trace (as_version commit lock)) (nothing_is_free actor.start transaction key none)

    step : KeepsAll (λ other. Unit {0}) rows rows actor (with_transaction actor (as_committed transaction))
    step = record {
      own = λ is. record {
        reads = is.reads;
        transacts = record {
          distinct = is.transacts.distinct;
          within = is.transacts.within;
          undone = λ e. absurd cc;
          all = is.transacts.all;
          later = is.transacts.later;
          won = λ e. (
            commit,
            drawn,
            record {
              primary_there = held is.transacts (primary_of transaction) ∙ sym (free (primary_of transaction));
              each = λ key. inr (held is.transacts key ∙ sym (free key));
            },
          );
        };
        recovers = is.recovers;
      };
      one = λ other c to from is. is;
      two = λ other third from pair. pair;
      from_mover = λ other c is pair. record {
        apart = record { starts = pair.apart.starts; commits = pair.apart.commits };
        hidden = hidden_committed actor.start (as_committed transaction) at other.start other.answers refl;
        recovers = pair.recovers;
      };
      to_mover = λ other c is pair. record { apart = record { starts = pair.apart.starts; commits = pair.apart.commits }; hidden = pair.hidden; recovers = pair.recovers };
    }

-- ---- reads and recoveries of an actor

pub answer_step : AnswerStep
answer_step rows actor others answer read sound = (own sound.0, each_map (IsSound rows) paired _ (λ other is pair. (from_mover other pair.0, to_mover other is pair.1)) others (each_sound rows others sound.2) sound.1, sound.2)
  where
    mover : Actor
    mover = with_answer actor answer

    paired : Actor → Type 0
    paired other = ArePair rows actor other × ArePair rows other actor

    own : IsSound rows actor → IsSound rows mover
    own is = record { reads = reads is.reads; transacts = is.transacts; recovers = is.recovers }
      where
        reads : Reads rows actor.start actor.answers → Reads rows actor.start (actor.answers ++ (answer ∷ []))
        reads old held contains key covered = by (either_held answer held actor.answers contains)
          where
            by : (held ≡ answer) ⊎ Contains actor.answers held → value_seen rows key actor.start ≡ finds held key
            by (inl same) = read.seen_there key (ap (λ (a : Answer). covers a key) (sym same) ∙ covered) ∙ ap (λ (a : Answer). finds a key) (sym same)
            by (inr rest) = old held rest key covered

    from_mover : (other : Actor) → ArePair rows actor other → ArePair rows mover other
    from_mover other pair = record { apart = record { starts = pair.apart.starts; commits = pair.apart.commits }; hidden = pair.hidden; recovers = pair.recovers }

    to_mover : (other : Actor) → IsSound rows other → ArePair rows other actor → ArePair rows other mover
    to_mover other is pair = record { apart = record { starts = pair.apart.starts; commits = pair.apart.commits }; hidden = hidden; recovers = pair.recovers }
      where
        hidden : IsHidden other.start other.transaction (traces other.start rows) actor.start (actor.answers ++ (answer ∷ []))
        hidden commit ripe le held contains key covered = by (either_held answer held actor.answers contains)
          where
            by : (held ≡ answer) ⊎ Contains actor.answers held → write_at other.transaction.writes key ≡ None
            by (inl same) = hidden_read rows other.start other.transaction actor.start commit key is.transacts ripe le (read.unlocked key (ap (λ (a : Answer). covers a key) (sym same) ∙ covered))
            by (inr rest) = pair.hidden commit ripe le held rest key covered

pub recovery_step : RecoveryStep
recovery_step rows actor others recovery is sound = sound_after _ rows rows actor (with_recovery actor recovery) others step (each_holds _ (λ other. tt) others) sound
  where
    step : KeepsAll (λ other. Unit {0}) rows rows actor (with_recovery actor recovery)
    step = record {
      own = λ old. record { reads = old.reads; transacts = old.transacts; recovers = if_some _ _ (λ r may. (may.recovers, may.other)) recovery is };
      one = λ other c to from old. old;
      two = λ other third from pair. pair;
      from_mover = λ other c old pair. record { apart = record { starts = pair.apart.starts; commits = pair.apart.commits }; hidden = pair.hidden; recovers = pair.recovers };
      to_mover = λ other c old pair. record {
        apart = record { starts = pair.apart.starts; commits = pair.apart.commits };
        hidden = pair.hidden;
        recovers = if_some _ _ (λ r may same. by other old.transacts pair.recovers r same may.known) recovery is;
      };
    }
      where
        by : (other : Actor) → Transacts other.start other.transaction (traces other.start rows) → IsOfWrite other.start other.transaction actor.recovery → (r : Recovery) → r.lock.start ≡ other.start →
            ((rows r.key).lock ≡ Some r.lock) ⊎ ((old : Recovery) × (actor.recovery ≡ Some old) × (old.key ≡ r.key) × (old.lock ≡ r.lock)) → lock_at other.start other.transaction r.key ≡ Some r.lock
        by other transacts before r same (inl locked) = lock_is_of_write other.start other.transaction (traces other.start rows) r.key r.lock transacts (trace_lock rows r.key other.start r.lock locked same)
        by other transacts before r same (inr old) =
            let of_write = subst (λ found. IfSome found (λ q. q.lock.start ≡ other.start → lock_at other.start other.transaction q.key ≡ Some q.lock)) old.1 before in
            ap (lock_at other.start other.transaction) (sym old.2) ∙ of_write (ap (λ (l : Lock). l.start) old.3 ∙ same) ∙ ap Some old.3

pub recovery_begins : RecoveryBegins
recovery_begins rows key lock locked one = record {
  names = λ q l e. let found = lock_is (rows q).lock lock.start l e in one q l found.0 found.1;
  holds = λ l e. let found = lock_is (rows key).lock lock.start l e in (let same : Some l ≡ Some lock = sym found.0 ∙ locked in cc);
  knows = tt;
}

-- a row without a lock or a version of a start has nothing of it
untouched : (row : Row) (start : ℕ) → commit_of start row.versions ≡ None → is_locked_at start row.lock ≡ false → trace start row ≡ no_trace
untouched row start none free = ap₂ both (no_lock_from row.lock free) (none_found (find (λ v. v.start == start) row.versions) none)
  where
    no_lock_from : (lock : Option Lock) → is_locked_at start lock ≡ false → lock_from start lock ≡ None
    no_lock_from None free = refl
    no_lock_from (Some lock) free = rw free refl

    none_found : (found : Option Version) → option_map (λ v. v.commit) found ≡ None → found ≡ None
    none_found None e = refl
    none_found (Some v) e = absurd cc

pub recovery_learns : RecoveryLearns
recovery_learns rows recovery differs recovers = record {
  names = recovers.names;
  holds = recovers.holds;
  knows = by (commit_of start primary.versions) refl (is_locked_at start primary.lock) refl;
}
  where
    start : ℕ
    start = recovery.lock.start

    primary : Row
    primary = rows recovery.lock.primary

    by : (commit : Option ℕ) → commit_of start primary.versions ≡ commit → (locked : Bool) → is_locked_at start primary.lock ≡ locked →
        Knows (with_known recovery (told_by (commit_of start primary.versions) (is_locked_at start primary.lock))) (traces start rows) (told_by commit locked)
    by (Some commit) e locked f = (differs, e)
    by None e true f = tt
    by None e false f = (differs, untouched primary start e f)

pub drop_tells : DropTells
drop_tells rows key start order allowed =
    ap (told start) (put_same rows key (rolled_back (rows key)))
    ∙ ap (λ c. told_by c false) (ap (option_map (λ v. v.commit)) (none_where_locked rows key start order (and_parts _ _ allowed).0))

-- ---- an actor begins

pub begin_step : BeginStep
begin_step rows start others none older sound = (own, each_map (IsOlder start) (IsOlder start) _ (λ other old p. (from_new other old, to_new other old)) others older older, sound)
  where
    fresh : Actor
    fresh = new_actor start

    own : IsSound rows fresh
    own = record {
      reads = λ answer held. absurd (let within = held.1 in omega arith);
      transacts = record { distinct = refl; within = omega arith; undone = λ e. inl none; all = λ commit e. absurd cc; later = λ commit e. absurd cc; won = λ e. absurd cc };
      recovers = tt;
    }

    from_new : (other : Actor) → IsOlder start other → ArePair rows fresh other
    from_new other old = record {
      apart = record { starts = λ e. absurd (let lt = old.below.start in omega arith); commits = λ commit e. absurd cc };
      hidden = hidden_undrawn start fresh.transaction (traces start rows) other.start other.answers refl;
      recovers = if_some _ _ (λ recovery lower same. absurd (omega arith)) other.recovery old.recovers;
    }

    to_new : (other : Actor) → IsOlder start other → ArePair rows other fresh
    to_new other old = record {
      apart = record { starts = λ e. absurd (let lt = old.below.start in omega arith); commits = λ commit e. (λ is. absurd (let lt = old.below.commit commit e in omega arith), λ is. absurd cc) };
      hidden = λ commit ripe le answer held. absurd (let within = held.1 in omega arith);
      recovers = tt;
    }

pub writes_step : WritesStep
writes_step rows actor others writes is distinct sound = (own sound.0, each_map paired paired _ (λ other p q. (from_mover other p.0, to_mover other p.1)) others sound.1 sound.1, sound.2)
  where
    mover : Actor
    mover = with_transaction actor (new_transaction writes)

    paired : Actor → Type 0
    paired other = ArePair rows actor other × ArePair rows other actor

    held : Transacts actor.start (new_transaction []) (traces actor.start rows) → IsHeld (lock_at actor.start (new_transaction writes)) (traces actor.start rows)
    held old = by (old.undone refl)
      where
        by : IsHeld (lock_at actor.start (new_transaction [])) (traces actor.start rows) ⊎ IsLost [] (lock_at actor.start (new_transaction [])) (traces actor.start rows) → IsHeld (lock_at actor.start (new_transaction writes)) (traces actor.start rows)
        by (inl all) = all
        by (inr lost) = absurd (let some = lost.some in cc)

    own : IsSound rows actor → IsSound rows mover
    own old = record {
      reads = old.reads;
      transacts = record { distinct = distinct; within = omega arith; undone = λ e. inl (held (subst (λ transaction. Transacts actor.start transaction (traces actor.start rows)) is old.transacts)); all = λ commit e. absurd cc; later = λ commit e. absurd cc; won = λ e. absurd cc };
      recovers = old.recovers;
    }

    from_mover : (other : Actor) → ArePair rows actor other → ArePair rows mover other
    from_mover other pair = record {
      apart = record { starts = pair.apart.starts; commits = λ commit e. absurd cc };
      hidden = hidden_undrawn actor.start (new_transaction writes) (traces actor.start rows) other.start other.answers refl;
      recovers = subst (λ transaction. IsOfWrite actor.start transaction other.recovery) is pair.recovers;
    }

    to_mover : (other : Actor) → ArePair rows other actor → ArePair rows other mover
    to_mover other pair = record {
      apart = record { starts = pair.apart.starts; commits = λ commit e. ((pair.apart.commits commit e).0, λ same. absurd cc) };
      hidden = pair.hidden;
      recovers = pair.recovers;
    }
