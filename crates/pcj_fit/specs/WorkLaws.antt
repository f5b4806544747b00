-- What workers leave of the triples and of the registered queries: all of them.
use Rattle.std.specs.Prelude.{◌≡◌, ℕ, true, false, List, ◌∷◌}
use Rattle.pcj_term.specs.declared.triple.Triple.{Triple}
use Rattle.pcj_table.specs.declared.write.Write.{Write}
use Rattle.pcj_mvcc.specs.Reading.{Rows}
use Rattle.pcj_moves.specs.Actors.{Actor}
use Rattle.pcj_moves.specs.Moves.{CommitPrimary, IsAllowed, Makes, Move, rows_after}
use Rattle.pcj_fit.specs.Laws.{AreSteady, state_of}
use Rattle.pcj_fit.specs.Queries.{HasQueries, Registration}
use Rattle.pcj_fit.specs.Sound.{Sound}
use Rattle.pcj_rows.specs.Triples.{HasTriples}
use Rattle.pcj_rows.specs.Workers.{IsWorkerPlan}

-- the commit of a worker's transaction
abbrev pub WorkLeavesTriples : Type 0
WorkLeavesTriples = (number : ℕ) (rows : Rows) (actor : Actor) (others : List Actor) (write : Write) (commit : ℕ) (known : List Triple) → IsWorkerPlan actor.start actor.answers actor.transaction.writes →
    IsAllowed (CommitPrimary write commit) number rows actor → Sound (state_of number rows (actor ∷ others)) → HasTriples rows known → HasTriples (rows_after (CommitPrimary write commit) actor rows) known

abbrev pub WorkLeavesQueries : Type 0
WorkLeavesQueries = (number : ℕ) (rows : Rows) (actor : Actor) (others : List Actor) (write : Write) (commit : ℕ) (known : List Registration) → IsWorkerPlan actor.start actor.answers actor.transaction.writes →
    IsAllowed (CommitPrimary write commit) number rows actor → Sound (state_of number rows (actor ∷ others)) → HasQueries rows known → HasQueries (rows_after (CommitPrimary write commit) actor rows) known

-- and the moves of a step that commit it
abbrev pub WorkStepLeavesTriples : Type 0
WorkStepLeavesTriples = (moves : List Move) (number : ℕ) (rows : Rows) (actor : Actor) (number' : ℕ) (rows' : Rows) (actor' : Actor) (others : List Actor) (known : List Triple) → AreSteady moves →
    Makes moves number rows actor number' rows' actor' → Sound (state_of number rows (actor ∷ others)) → IsWorkerPlan actor.start actor.answers actor.transaction.writes →
    actor.transaction.committed ≡ false → actor'.transaction.committed ≡ true → HasTriples rows known → HasTriples rows' known

abbrev pub WorkStepLeavesQueries : Type 0
WorkStepLeavesQueries = (moves : List Move) (number : ℕ) (rows : Rows) (actor : Actor) (number' : ℕ) (rows' : Rows) (actor' : Actor) (others : List Actor) (known : List Registration) → AreSteady moves →
    Makes moves number rows actor number' rows' actor' → Sound (state_of number rows (actor ∷ others)) → IsWorkerPlan actor.start actor.answers actor.transaction.writes →
    actor.transaction.committed ≡ false → actor'.transaction.committed ≡ true → HasQueries rows known → HasQueries rows' known
