-- The whole run of one transaction.
use Rattle.std.proofs.Common.{◌≡◌, ◌⊎◌, inl, inr, ◌<◌, ℕ, List, [], ◌∷◌, Some, ap, ap₂, sym, subst, ◌∙◌, arith}
use Rattle.std.specs.List.{Contains}
use Rattle.pcj_table.specs.declared.write.Write.{Write}
use Rattle.pcj_mvcc.specs.Reading.{Rows}
use Rattle.pcj_moves.specs.Traces.{traces}
use Rattle.pcj_moves.specs.Transactions.{Transaction, Transacts, write_at}
use Rattle.pcj_moves.specs.Actors.{Actor, ArePair, AreSound, Each, IsOlder, IsSound}
use Rattle.pcj_moves.specs.Moves.{Begins, CommitNothing, CommitPrimary, CommitSecondary, Draw, DropPrimary, EndRecovery, Ends, Happens, IsAllowed, IsConsistent, Learn, Loses, Meet, Move, Moves, Plan, Prewrite, Read, RollBack, RollForward, Runs, State, Step, WritePlain, actor_after}
use Rattle.pcj_moves.specs.StandingLaws.{version_read, version_written}
use Rattle.pcj_moves.specs.RunLaws.{TransactionRuns, TransactionWaits}
use Rattle.pcj_moves.proofs.OrderLemmas.{each_apart, each_together}
use Rattle.pcj_moves.proofs.ActorLemmas.{each_contains, each_holds, each_map, each_sound, either_actor}
use Rattle.pcj_moves.proofs.MoveLemmas.{run_is_consistent}
use Rattle.pcj_moves.proofs.StandingLemmas.{all_are_seen, all_stand, none_stands}
use Rattle.pcj_moves.proofs.ReadLemmas.{step_rises}

-- the actors of a start have these writes
abbrev HasWrites : ℕ → List Write → Actor → Type 0
HasWrites start writes actor = actor.start ≡ start → actor.transaction.writes ≡ writes

-- no two actors have one start
one_of_start : (rows : Rows) (actors : List Actor) (actor : Actor) → AreSound rows actors → Contains actors actor → Each (HasWrites actor.start actor.transaction.writes) actors
one_of_start rows [] actor sound there = absurd (let within = there.1 in omega arith)
one_of_start rows (first ∷ rest) actor sound there = by (either_actor first actor rest there) (one_of_start rows rest actor sound.2)
  where
    by : (first ≡ actor) ⊎ Contains rest actor → (Contains rest actor → Each (HasWrites actor.start actor.transaction.writes) rest) → Each (HasWrites actor.start actor.transaction.writes) (first ∷ rest)
    by (inl same) later = (
      λ e. ap (λ (a : Actor). a.transaction.writes) same,
      each_map (λ other. Unit {0}) (λ other. ArePair rows first other × ArePair rows other first) (HasWrites actor.start actor.transaction.writes)
          (λ other c pair e. absurd (pair.1.apart.starts (e ∙ ap (λ (a : Actor). a.start) (sym same)))) rest (each_holds _ (λ other. tt) rest) sound.1,
    )
    by (inr there_too) later = (
      λ e. absurd ((each_contains (λ other. ArePair rows first other × ArePair rows other first) rest actor sound.1 there_too).0.apart.starts e),
      later there_too,
    )

-- a move leaves them
writes_stay : (move : Move) (number : ℕ) (rows : Rows) (actor : Actor) (start : ℕ) (write : Write) (rest : List Write) → IsAllowed move number rows actor →
    HasWrites start (write ∷ rest) actor → HasWrites start (write ∷ rest) (actor_after move rows actor)
writes_stay (Plan writes) number rows actor start write rest may has same = absurd (let clash : [] ≡ write ∷ rest = ap (λ (t : Transaction). t.writes) (sym may.0) ∙ has same in cc)
writes_stay (Prewrite w) number rows actor start write rest may has same = has same
writes_stay (Draw commit) number rows actor start write rest may has same = has same
writes_stay (CommitPrimary w commit) number rows actor start write rest may has same = has same
writes_stay (CommitSecondary w commit) number rows actor start write rest may has same = has same
writes_stay (CommitNothing commit) number rows actor start write rest may has same = has same
writes_stay (Read answer) number rows actor start write rest may has same = has same
writes_stay (Meet key lock) number rows actor start write rest may has same = has same
writes_stay (Learn recovery) number rows actor start write rest may has same = has same
writes_stay (DropPrimary recovery) number rows actor start write rest may has same = has same
writes_stay (RollBack recovery) number rows actor start write rest may has same = has same
writes_stay (RollForward recovery commit) number rows actor start write rest may has same = has same
writes_stay EndRecovery number rows actor start write rest may has same = has same
writes_stay (WritePlain key plain) number rows actor start write rest may has same = has same

step_keeps_writes : (before : State) (step : Step) (after : State) (start : ℕ) (write : Write) (rest : List Write) → Happens before step after → start < before.number →
    Each (HasWrites start (write ∷ rest)) before.actors → Each (HasWrites start (write ∷ rest)) after.actors
step_keeps_writes before (Moves front actor back move) after start write rest happens lower each =
    let parts = each_apart (HasWrites start (write ∷ rest)) front actor back (subst (Each (HasWrites start (write ∷ rest))) happens.0 each) in
    subst (λ (s : State). Each (HasWrites start (write ∷ rest)) s.actors) (sym happens.2)
    (each_together (HasWrites start (write ∷ rest)) front (actor_after move before.rows actor) back (writes_stay move before.number before.rows actor start write rest happens.1 parts.0) parts.1)
step_keeps_writes before (Begins new) after start write rest happens lower each =
    subst (λ (s : State). Each (HasWrites start (write ∷ rest)) s.actors) (sym happens.1) (λ same. absurd (let le = happens.0 in omega arith), each)
step_keeps_writes before (Ends front actor back) after start write rest happens lower each =
    subst (λ (s : State). Each (HasWrites start (write ∷ rest)) s.actors) (sym happens.1)
    (each_apart (HasWrites start (write ∷ rest)) front actor back (subst (Each (HasWrites start (write ∷ rest))) happens.0 each)).1
step_keeps_writes before (Loses number) after start write rest happens lower each = subst (λ (s : State). Each (HasWrites start (write ∷ rest)) s.actors) (sym happens.1) each

run_keeps_writes : (before : State) (steps : List Step) (after : State) (start : ℕ) (write : Write) (rest : List Write) → Runs before steps after → start < before.number →
    Each (HasWrites start (write ∷ rest)) before.actors → Each (HasWrites start (write ∷ rest)) after.actors
run_keeps_writes before [] after start write rest runs lower each = subst (λ (s : State). Each (HasWrites start (write ∷ rest)) s.actors) (sym runs) each
run_keeps_writes before (step ∷ steps) after start write rest runs lower each =
    run_keeps_writes runs.0 steps after start write rest runs.2 (let le = step_rises before step runs.0 runs.1 in omega arith) (step_keeps_writes before step runs.0 start write rest runs.1 lower each)

pub transaction_waits : TransactionWaits
transaction_waits before steps after actor is runs there not_yet =
    let last = run_is_consistent before steps after is runs in
    none_stands after.rows actor.start actor.transaction last.times (each_contains (IsSound after.rows) after.actors actor (each_sound after.rows after.actors last.sound) there).transacts not_yet

pub transaction_runs : TransactionRuns
transaction_runs before steps after actor done write rest is runs there begun at_last same won = (
  commit,
  drawn,
  record {
    later = subst (λ s. s < commit) same (transacts.later commit drawn);
    nothing = none_stands before.rows actor.start actor.transaction is.times (each_contains (IsSound before.rows) before.actors actor (each_sound before.rows before.actors is.sound) there).transacts (ap (λ (t : Transaction). t.committed) begun);
    all = λ key. ap (λ s. version_read s after.rows key) (sym same) ∙ all_stand after.rows done.start done.transaction commit last.times transacts won drawn key
        ∙ ap₂ (λ s ws. version_written s ws commit key) same writes;
    seen_then = λ key w e. all_are_seen after.rows done.start done.transaction commit last.times transacts won drawn key w (ap (λ ws. write_at ws key) writes ∙ e);
  },
)
  where
    last : IsConsistent after
    last = run_is_consistent before steps after is runs

    transacts : Transacts done.start done.transaction (traces done.start after.rows)
    transacts = (each_contains (IsSound after.rows) after.actors done (each_sound after.rows after.actors last.sound) at_last).transacts

    commit : ℕ
    commit = (transacts.won won).0

    drawn : done.transaction.commit ≡ Some commit
    drawn = (transacts.won won).1

    has : actor.transaction.writes ≡ write ∷ rest
    has = ap (λ (t : Transaction). t.writes) begun

    writes : done.transaction.writes ≡ write ∷ rest
    writes = each_contains (HasWrites actor.start (write ∷ rest)) after.actors done
        (run_keeps_writes before steps after actor.start write rest runs (each_contains (IsOlder before.number) before.actors actor is.older there).below.start
        (subst (λ ws. Each (HasWrites actor.start ws) before.actors) has (one_of_start before.rows before.actors actor is.sound there))) at_last same
