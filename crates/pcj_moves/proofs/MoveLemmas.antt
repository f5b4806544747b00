-- Runs of moves.
use Rattle.std.proofs.Common.{◌≡◌, ◌≤◌, ℕ, suc, not, ◌==◌, nat_lt, List, [], ◌∷◌, ◌++◌, Option, Some, None, refl, ap, ap₂, sym, subst, ◌∙◌, arith}
use Rattle.std.proofs.lemmas.Bool.{ltb-true}
use Rattle.std.specs.List.{list_all}
use Rattle.pcj_table.specs.Table.{Key}
use Rattle.pcj_table.specs.declared.lock.Lock.{Lock}
use Rattle.pcj_mvcc.proofs.Versions.{all_weaker}
use Rattle.pcj_mvcc.specs.Reading.{Rows, commit_of}
use Rattle.pcj_mvcc.specs.Times.{TimesInOrder, ascends, starts_first}
use Rattle.pcj_moves.specs.Traces.{lock_from, no_trace, traces}
use Rattle.pcj_moves.specs.Actors.{Actor, IsOlder, new_actor}
use Rattle.pcj_moves.specs.Moves.{AreBelow, Begins, Ends, IsConsistent, Loses, Moves, NumbersAreOwn, actor_after}
use Rattle.pcj_moves.specs.MoveLaws.{EmptyIsConsistent, HigherIsConsistent, RunIsConsistent, StepIsConsistent}
use Rattle.pcj_moves.proofs.OrderLemmas.{actor_comes_first, actor_goes_back, each_apart, each_together}
use Rattle.pcj_moves.proofs.TraceLemmas.{both, none_of_start, unequal_false}
use Rattle.pcj_moves.proofs.GoOnLemmas.{begin_step}
use Rattle.pcj_moves.proofs.ConsistencyLemmas.{each_older, more_below, move_is_consistent}

-- ---- an actor to the front, and back

pub comes_first : (number : ℕ) (rows : Rows) (front : List Actor) (actor : Actor) (back : List Actor) →
    IsConsistent (record { number = number; rows = rows; actors = front ++ (actor ∷ back) }) → IsConsistent (record { number = number; rows = rows; actors = actor ∷ (front ++ back) })
comes_first number rows front actor back is = record {
  times = is.times;
  named = is.named;
  once = is.once;
  below = is.below;
  sound = actor_comes_first rows front actor back is.sound;
  older = each_apart (IsOlder number) front actor back is.older;
  own = each_apart (NumbersAreOwn rows) front actor back is.own;
}

goes_back : (number : ℕ) (rows : Rows) (front : List Actor) (actor : Actor) (back : List Actor) →
    IsConsistent (record { number = number; rows = rows; actors = actor ∷ (front ++ back) }) → IsConsistent (record { number = number; rows = rows; actors = front ++ (actor ∷ back) })
goes_back number rows front actor back is = record {
  times = is.times;
  named = is.named;
  once = is.once;
  below = is.below;
  sound = actor_goes_back rows front actor back is.sound;
  older = each_together (IsOlder number) front actor back is.older.0 is.older.1;
  own = each_together (NumbersAreOwn rows) front actor back is.own.0 is.own.1;
}

-- ---- an actor begins or ends

-- a start that isn't below the next number has nothing in the rows
pub nothing_of : (number start : ℕ) (rows : Rows) → number ≤ start → TimesInOrder rows → AreBelow number rows → (key : Key) → traces start rows key ≡ no_trace
nothing_of number start rows le order below key = ap₂ both (no_lock (rows key).lock refl)
    (none_of_start start (rows key).versions (order.first key) ((more_below number start rows le below).versions key))
  where
    no_lock : (lock : Option Lock) → (rows key).lock ≡ lock → lock_from start (rows key).lock ≡ None
    no_lock None e = ap (lock_from start) e
    no_lock (Some lock) e = ap (lock_from start) e ∙ rw (unequal_false lock.start start (λ same. absurd (let lt = below.locks key lock e in omega arith))) refl

begin_kept : (number start : ℕ) (rows : Rows) (actors : List Actor) → number ≤ start → IsConsistent (record { number = number; rows = rows; actors = actors }) →
    IsConsistent (record { number = suc start; rows = rows; actors = new_actor start ∷ actors })
begin_kept number start rows actors le is = record {
  times = is.times;
  named = is.named;
  once = is.once;
  below = more_below number (suc start) rows (omega arith) is.below;
  sound = begin_step rows start actors (nothing_of number start rows le is.times is.below) (each_older number start le actors is.older) is.sound;
  older = (record { below = record { start = omega arith; commit = λ commit e. absurd cc }; recovers = tt }, each_older number (suc start) (omega arith) actors is.older);
  own = (
    record {
      start = λ key. all_weaker (λ v. nat_lt v.commit number) (λ v. not (v.commit == start)) (λ v e. ap not (unequal_false v.commit start (λ same. absurd (let lt = ltb-true v.commit number e in omega arith)))) (rows key).versions (is.below.versions key);
      commit = λ commit e. absurd cc;
      locks = λ commit e. absurd cc;
    },
    is.own,
  );
}

-- ---- steps and runs

pub empty_is_consistent : EmptyIsConsistent
empty_is_consistent number rows none = record {
  times = record {
    ascend = λ key. ap ascends (none key).1;
    last = λ key lock e. absurd (let clash : None ≡ Some lock = sym (none key).0 ∙ e in cc);
    first = λ key. ap (list_all starts_first) (none key).1;
  };
  named = λ key lock e. absurd (let clash : None ≡ Some lock = sym (none key).0 ∙ e in cc);
  once = λ key start commit e. absurd (let clash : None ≡ Some commit = ap (commit_of start) (sym (none key).1) ∙ e in cc);
  below = record {
    versions = λ key. ap (list_all (λ v. nat_lt v.commit number)) (none key).1;
    locks = λ key lock e. absurd (let clash : None ≡ Some lock = sym (none key).0 ∙ e in cc);
  };
  sound = tt;
  older = tt;
  own = tt;
}

pub higher_is_consistent : HigherIsConsistent
higher_is_consistent number more rows actors le is = record {
  times = is.times;
  named = is.named;
  once = is.once;
  below = more_below number more rows le is.below;
  sound = is.sound;
  older = each_older number more le actors is.older;
  own = is.own;
}

pub step_is_consistent : StepIsConsistent
step_is_consistent before (Moves front actor back move) after is happens =
    subst IsConsistent (sym happens.2)
    (goes_back _ _ front (actor_after move before.rows actor) back
    (move_is_consistent before.number before.rows actor (front ++ back) move happens.1
    (comes_first before.number before.rows front actor back (subst (λ actors. IsConsistent (record { number = before.number; rows = before.rows; actors = actors })) happens.0 is))))
step_is_consistent before (Begins start) after is happens = subst IsConsistent (sym happens.1) (begin_kept before.number start before.rows before.actors happens.0 is)
step_is_consistent before (Ends front actor back) after is happens =
    subst IsConsistent (sym happens.1)
    (let first = comes_first before.number before.rows front actor back (subst (λ actors. IsConsistent (record { number = before.number; rows = before.rows; actors = actors })) happens.0 is) in
    record { times = first.times; named = first.named; once = first.once; below = first.below; sound = first.sound.2; older = first.older.1; own = first.own.1 })
step_is_consistent before (Loses number) after is happens = subst IsConsistent (sym happens.1) (higher_is_consistent before.number number before.rows before.actors happens.0 is)

pub run_is_consistent : RunIsConsistent
run_is_consistent before [] after is runs = subst IsConsistent (sym runs) is
run_is_consistent before (step ∷ steps) after is runs = run_is_consistent runs.0 steps after (step_is_consistent before step runs.0 is runs.1) runs.2
