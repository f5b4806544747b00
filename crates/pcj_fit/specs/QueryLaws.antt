-- What moves leave of the registered queries, and what registrations leave of the triples.
use Rattle.std.specs.Prelude.{◌≡◌, ◌≢◌, ℕ, true, false, List, ◌∷◌, Some}
use Rattle.std.specs.List.{All, Contains}
use Rattle.pcj_term.specs.declared.triple.Triple.{Triple}
use Rattle.pcj_table.specs.Table.{Table, row_at}
use Rattle.pcj_table.specs.declared.write.Write.{Write}
use Rattle.pcj_encode.specs.declared.key_name.KeyName.TheVariants as row
use Rattle.pcj_encode.specs.Name.{key_of}
use Rattle.pcj_tree.specs.declared.tree.Tree.{Tree}
use Rattle.pcj_mvcc.specs.Reading.{Rows}
use Rattle.pcj_moves.specs.declared.answer.Answer.TheVariants.{OfRow}
use Rattle.pcj_moves.specs.Actors.{Actor}
use Rattle.pcj_moves.specs.Moves.{CommitPrimary, IsAllowed, Makes, Move, rows_after}
use Rattle.pcj_choices.specs.UnderChoice.{is_primary_commit}
use Rattle.pcj_fit.specs.Fit.{Fit}
use Rattle.pcj_fit.specs.Laws.{AreSteady, state_of}
use Rattle.pcj_rows.specs.Plans.{IsLoadPlan, IsRegisterPlan}
use Rattle.pcj_fit.specs.Queries.{HasQueries, Registration, added}
use Rattle.pcj_fit.specs.Sound.{Sound}
use Rattle.pcj_rows.specs.Triples.{HasTriples}

-- ---- tables

-- each fit table has a list of its queries
abbrev pub TablesHaveQueries : Type 0
TablesHaveQueries = (number : ℕ) (table : Table) → Fit number (row_at table) → (known : List Registration) × HasQueries (row_at table) known

-- and one alone
abbrev pub QueriesAreOne : Type 0
QueriesAreOne = (rows : Rows) (known others : List Registration) → HasQueries rows known → HasQueries rows others → known ≡ others

-- ---- names

-- two registrations have two names
abbrev pub NamesAreDistinct : Type 0
NamesAreDistinct = (number : ℕ) (rows : Rows) (known : List Registration) (one other : Registration) → Fit number rows → HasQueries rows known →
    Contains known one → Contains known other → one.name ≡ other.name → one ≡ other

-- a name that was read is one of theirs
abbrev pub ReadNamesAreKnown : Type 0
ReadNamesAreKnown = (number : ℕ) (rows : Rows) (actor : Actor) (others : List Actor) (name value : List ℕ) (known : List Registration) → Contains actor.answers (OfRow (key_of (row.Name name)) (Some value)) →
    Sound (state_of number rows (actor ∷ others)) → HasQueries rows known → (registration : Registration) × Contains known registration × (registration.name ≡ name)

-- ---- moves

-- every move but the commit of a primary leaves the queries
abbrev pub MovesLeaveQueries : Type 0
MovesLeaveQueries = (number : ℕ) (rows : Rows) (actor : Actor) (others : List Actor) (move : Move) (known : List Registration) → is_primary_commit move ≡ false → IsAllowed move number rows actor →
    Sound (state_of number rows (actor ∷ others)) → HasQueries rows known → HasQueries (rows_after move actor rows) known

-- so does that of a load
abbrev pub LoadsLeaveQueries : Type 0
LoadsLeaveQueries = (number : ℕ) (rows : Rows) (actor : Actor) (others : List Actor) (write : Write) (commit : ℕ) (triples : List Triple) (known : List Registration) → IsLoadPlan actor.start actor.answers actor.transaction.writes triples →
    IsAllowed (CommitPrimary write commit) number rows actor → Sound (state_of number rows (actor ∷ others)) → HasQueries rows known → HasQueries (rows_after (CommitPrimary write commit) actor rows) known

abbrev pub registration_of : Actor → List ℕ → Tree → Registration
registration_of actor name tree = record { name = name; number = actor.start; tree = tree }

-- that of a registration adds its own, whose name none of the others has
abbrev pub RegistrationsAddTheirs : Type 0
RegistrationsAddTheirs = (number : ℕ) (rows : Rows) (actor : Actor) (others : List Actor) (write : Write) (commit : ℕ) (name : List ℕ) (tree : Tree) (known : List Registration) →
    IsRegisterPlan actor.start actor.answers actor.transaction.writes name tree → IsAllowed (CommitPrimary write commit) number rows actor → Sound (state_of number rows (actor ∷ others)) → HasQueries rows known →
    All (λ (other : Registration). other.name ≢ name) known × HasQueries (rows_after (CommitPrimary write commit) actor rows) (added (registration_of actor name tree) known)

-- and leaves the triples
abbrev pub RegistrationsLeaveTriples : Type 0
RegistrationsLeaveTriples = (number : ℕ) (rows : Rows) (actor : Actor) (others : List Actor) (write : Write) (commit : ℕ) (name : List ℕ) (tree : Tree) (known : List Triple) →
    IsRegisterPlan actor.start actor.answers actor.transaction.writes name tree → IsAllowed (CommitPrimary write commit) number rows actor → Sound (state_of number rows (actor ∷ others)) →
    HasTriples rows known → HasTriples (rows_after (CommitPrimary write commit) actor rows) known

-- ---- moves of a step

-- they leave the queries where they don't commit the actor's transaction
abbrev pub StepLeavesQueries : Type 0
StepLeavesQueries = (moves : List Move) (number : ℕ) (rows : Rows) (actor : Actor) (number' : ℕ) (rows' : Rows) (actor' : Actor) (others : List Actor) (known : List Registration) → AreSteady moves →
    Makes moves number rows actor number' rows' actor' → Sound (state_of number rows (actor ∷ others)) → actor'.transaction.committed ≡ actor.transaction.committed → HasQueries rows known → HasQueries rows' known

-- or where they commit that of a load
abbrev pub LoadStepLeavesQueries : Type 0
LoadStepLeavesQueries = (moves : List Move) (number : ℕ) (rows : Rows) (actor : Actor) (number' : ℕ) (rows' : Rows) (actor' : Actor) (others : List Actor) (triples : List Triple) (known : List Registration) → AreSteady moves →
    Makes moves number rows actor number' rows' actor' → Sound (state_of number rows (actor ∷ others)) → IsLoadPlan actor.start actor.answers actor.transaction.writes triples →
    actor.transaction.committed ≡ false → actor'.transaction.committed ≡ true → HasQueries rows known → HasQueries rows' known

-- and add that of a registration where they commit it
abbrev pub StepAddsQuery : Type 0
StepAddsQuery = (moves : List Move) (number : ℕ) (rows : Rows) (actor : Actor) (number' : ℕ) (rows' : Rows) (actor' : Actor) (others : List Actor) (name : List ℕ) (tree : Tree) (known : List Registration) → AreSteady moves →
    Makes moves number rows actor number' rows' actor' → Sound (state_of number rows (actor ∷ others)) → IsRegisterPlan actor.start actor.answers actor.transaction.writes name tree →
    actor.transaction.committed ≡ false → actor'.transaction.committed ≡ true → HasQueries rows known →
    All (λ (other : Registration). other.name ≢ name) known × HasQueries rows' (added (registration_of actor name tree) known)

-- then the triples stay
abbrev pub RegisterStepLeavesTriples : Type 0
RegisterStepLeavesTriples = (moves : List Move) (number : ℕ) (rows : Rows) (actor : Actor) (number' : ℕ) (rows' : Rows) (actor' : Actor) (others : List Actor) (name : List ℕ) (tree : Tree) (known : List Triple) → AreSteady moves →
    Makes moves number rows actor number' rows' actor' → Sound (state_of number rows (actor ∷ others)) → IsRegisterPlan actor.start actor.answers actor.transaction.writes name tree →
    actor.transaction.committed ≡ false → actor'.transaction.committed ≡ true → HasTriples rows known → HasTriples rows' known
