-- The moves of a step, one after the other.
use Rattle.std.proofs.Common.{◌≡◌, ◌≢◌, ℕ, true, false, List, [], ◌∷◌, ◌++◌, refl, ap, sym, subst, ◌∙◌}
use Rattle.std.specs.List.{All}
use Rattle.pcj_table.specs.declared.write.Write.{Write}
use Rattle.pcj_tree.specs.declared.tree.Tree.{Tree}
use Rattle.pcj_mvcc.specs.Reading.{Rows}
use Rattle.pcj_moves.specs.declared.answer.Answer.{Answer}
use Rattle.pcj_moves.specs.Actors.{Actor}
use Rattle.pcj_moves.specs.Moves.{CommitNothing, CommitPrimary, CommitSecondary, Draw, DropPrimary, EndRecovery, IsAllowed, Learn, Makes, Meet, Move, Plan, Prewrite, Read, RollBack, RollForward, WritePlain, actor_after, number_after, rows_after}
use Rattle.pcj_choices.specs.UnderChoice.{is_primary_commit, is_steady}
use Rattle.pcj_choices.proofs.ClaimLemmas.{Has, Purpose, steady_has}
use Rattle.pcj_fit.specs.Laws.{AreSteady, StepAddsTriples, StepIsSound, StepLeavesTriples, WritesClock, state_of}
use Rattle.pcj_duties.specs.Observers.{HasPurpose}
use Rattle.pcj_rows.specs.Plans.{IsLoadPlan, IsRegisterPlan}
use Rattle.pcj_fit.specs.Queries.{HasQueries, Registration, added}
use Rattle.pcj_fit.specs.QueryLaws.{LoadStepLeavesQueries, RegisterStepLeavesTriples, StepAddsQuery, StepLeavesQueries, registration_of}
use Rattle.pcj_fit.specs.Sound.{Sound}
use Rattle.pcj_rows.specs.Triples.{HasTriples}
use Rattle.pcj_fit.proofs.QueryLemmas.{loads_leave_queries, moves_leave_queries, registrations_add_theirs}
use Rattle.pcj_fit.proofs.SoundLemmas.{clock_line, move_is_sound}
use Rattle.pcj_fit.proofs.TripleLemmas.{found_are_there, loads_add_triples, moves_leave_triples, registrations_leave_triples}

after_one : (number : ℕ) (rows : Rows) (actor : Actor) (others : List Actor) (move : Move) → is_steady move ≡ true → WritesClock move → IsAllowed move number rows actor → Sound (state_of number rows (actor ∷ others)) →
    Sound (state_of (number_after move number) (rows_after move actor rows) (actor_after move rows actor ∷ others))
after_one number rows actor others move steady plains may sound = move_is_sound number rows actor others move may (clock_line rows actor move plains) (steady_has HasPurpose move rows actor steady sound.planned.0) sound

pub step_is_sound : StepIsSound
step_is_sound [] number rows actor number' rows' actor' others steady makes sound =
    subst (λ n. Sound (state_of n rows' (actor' ∷ others))) (sym makes.0) (subst (λ r. Sound (state_of number r (actor' ∷ others))) (sym makes.1) (subst (λ a. Sound (state_of number rows (a ∷ others))) (sym makes.2) sound))
step_is_sound (move ∷ moves) number rows actor number' rows' actor' others steady makes sound =
    step_is_sound moves (number_after move number) (rows_after move actor rows) (actor_after move rows actor) number' rows' actor' others steady.2 makes.1 (after_one number rows actor others move steady.0 steady.1 makes.0 sound)

-- ---- what is committed stays so

committed_after : (move : Move) (rows : Rows) (actor : Actor) → is_steady move ≡ true → actor.transaction.committed ≡ true → (actor_after move rows actor).transaction.committed ≡ true
committed_after (Plan writes) rows actor steady done = absurd cc
committed_after (Prewrite write) rows actor steady done = done
committed_after (Draw commit) rows actor steady done = done
committed_after (CommitPrimary write commit) rows actor steady done = refl
committed_after (CommitSecondary write commit) rows actor steady done = done
committed_after (CommitNothing commit) rows actor steady done = refl
committed_after (Read answer) rows actor steady done = absurd cc
committed_after (Meet key lock) rows actor steady done = done
committed_after (Learn recovery) rows actor steady done = done
committed_after (DropPrimary recovery) rows actor steady done = done
committed_after (RollBack recovery) rows actor steady done = done
committed_after (RollForward recovery commit) rows actor steady done = done
committed_after EndRecovery rows actor steady done = done
committed_after (WritePlain key plain) rows actor steady done = done

stays_committed : (moves : List Move) (number : ℕ) (rows : Rows) (actor : Actor) (number' : ℕ) (rows' : Rows) (actor' : Actor) → AreSteady moves → Makes moves number rows actor number' rows' actor' → actor.transaction.committed ≡ true → actor'.transaction.committed ≡ true
stays_committed [] number rows actor number' rows' actor' steady makes done = ap (λ (a : Actor). a.transaction.committed) makes.2 ∙ done
stays_committed (move ∷ moves) number rows actor number' rows' actor' steady makes done =
    stays_committed moves (number_after move number) (rows_after move actor rows) (actor_after move rows actor) number' rows' actor' steady.2 makes.1 (committed_after move rows actor steady.0 done)

-- ---- what the commit makes of a claim

-- A claim that each move but the commit keeps, and another one that holds from then on, where the actor has this plan.
pub record Turns (P : Purpose) (before after : Rows → Type 0) : Type 0 where
  pub kept : (number : ℕ) (rows : Rows) (actor : Actor) (others : List Actor) (move : Move) → is_primary_commit move ≡ false → IsAllowed move number rows actor →
      Sound (state_of number rows (actor ∷ others)) → before rows → before (rows_after move actor rows)
  pub kept_after : (number : ℕ) (rows : Rows) (actor : Actor) (others : List Actor) (move : Move) → is_primary_commit move ≡ false → IsAllowed move number rows actor →
      Sound (state_of number rows (actor ∷ others)) → after rows → after (rows_after move actor rows)
  pub commits : (number : ℕ) (rows : Rows) (actor : Actor) (others : List Actor) (write : Write) (commit : ℕ) → Has P actor → IsAllowed (CommitPrimary write commit) number rows actor →
      Sound (state_of number rows (actor ∷ others)) → before rows → after (rows_after (CommitPrimary write commit) actor rows)
  pub nothing : (number : ℕ) (rows : Rows) (actor : Actor) (others : List Actor) → P actor.start actor.answers [] → Sound (state_of number rows (actor ∷ others)) → before rows → after rows

-- a move that commits nothing, or one that does
data Kind (P : Purpose) (before after : Rows → Type 0) (move : Move) (number : ℕ) (rows : Rows) (actor : Actor) : Type 0 where
  leaves : (is_primary_commit move ≡ false) → ((actor_after move rows actor).transaction.committed ≡ actor.transaction.committed) → Kind P before after move number rows actor
  commits : (actor.transaction.committed ≡ false) → ((actor_after move rows actor).transaction.committed ≡ true) →
      ((others : List Actor) → Has P actor → Sound (state_of number rows (actor ∷ others)) → before rows → after (rows_after move actor rows)) → Kind P before after move number rows actor

kind_of : (P : Purpose) (before after : Rows → Type 0) → Turns P before after → (move : Move) (number : ℕ) (rows : Rows) (actor : Actor) → is_steady move ≡ true → IsAllowed move number rows actor → Kind P before after move number rows actor
kind_of P before after turns (Plan writes) number rows actor steady may = absurd cc
kind_of P before after turns (Prewrite write) number rows actor steady may = leaves refl refl
kind_of P before after turns (Draw commit) number rows actor steady may = leaves refl refl
kind_of P before after turns (CommitPrimary write commit) number rows actor steady may = commits may.undone refl (λ others plan sound has. turns.commits number rows actor others write commit plan may sound has)
kind_of P before after turns (CommitSecondary write commit) number rows actor steady may = leaves refl refl
kind_of P before after turns (CommitNothing commit) number rows actor steady may = commits may.undone refl
    (λ others plan sound has. turns.nothing number rows actor others (subst (λ ws. P actor.start actor.answers ws) may.nothing plan) sound has)
kind_of P before after turns (Read answer) number rows actor steady may = absurd cc
kind_of P before after turns (Meet key lock) number rows actor steady may = leaves refl refl
kind_of P before after turns (Learn recovery) number rows actor steady may = leaves refl refl
kind_of P before after turns (DropPrimary recovery) number rows actor steady may = leaves refl refl
kind_of P before after turns (RollBack recovery) number rows actor steady may = leaves refl refl
kind_of P before after turns (RollForward recovery commit) number rows actor steady may = leaves refl refl
kind_of P before after turns EndRecovery number rows actor steady may = leaves refl refl
kind_of P before after turns (WritePlain key plain) number rows actor steady may = leaves refl refl

-- whatever the actor has to write
abbrev Anything : Purpose
Anything start answers writes = Unit {0}

-- a claim that each move but the commit keeps is kept by those that don't commit
step_keeps : (claim : Rows → Type 0) → ((number : ℕ) (rows : Rows) (actor : Actor) (others : List Actor) (move : Move) → is_primary_commit move ≡ false → IsAllowed move number rows actor →
    Sound (state_of number rows (actor ∷ others)) → claim rows → claim (rows_after move actor rows)) →
    (moves : List Move) (number : ℕ) (rows : Rows) (actor : Actor) (number' : ℕ) (rows' : Rows) (actor' : Actor) (others : List Actor) → AreSteady moves →
    Makes moves number rows actor number' rows' actor' → Sound (state_of number rows (actor ∷ others)) → actor'.transaction.committed ≡ actor.transaction.committed → claim rows → claim rows'
step_keeps claim kept [] number rows actor number' rows' actor' others steady makes sound same has = subst claim (sym makes.1) has
step_keeps claim kept (move ∷ moves) number rows actor number' rows' actor' others steady makes sound same has =
    by (kind_of Anything claim (λ r. Unit {0}) turns move number rows actor steady.0 makes.0)
    (λ still left. step_keeps claim kept moves (number_after move number) (rows_after move actor rows) (actor_after move rows actor) number' rows' actor' others steady.2 makes.1
    (after_one number rows actor others move steady.0 steady.1 makes.0 sound) still left)
  where
    turns : Turns Anything claim (λ r. Unit {0})
    turns = record {
      kept = kept;
      kept_after = λ number rows actor others move other may sound has. tt;
      commits = λ number rows actor others write commit plan may sound has. tt;
      nothing = λ number rows actor others plan sound has. tt;
    }

    by : Kind Anything claim (λ r. Unit {0}) move number rows actor → (actor'.transaction.committed ≡ (actor_after move rows actor).transaction.committed → claim (rows_after move actor rows) → claim rows') → claim rows'
    by (leaves other keeps) rest = rest (same ∙ sym keeps) (kept number rows actor others move other makes.0 sound has)
    by (commits undone done turned) rest = absurd (let clash : true ≡ false =
        sym (stays_committed moves (number_after move number) (rows_after move actor rows) (actor_after move rows actor) number' rows' actor' steady.2 makes.1 done) ∙ same ∙ undone in cc)

-- and those that commit make the other one of it
pub step_turns : (P : Purpose) (before after : Rows → Type 0) → Turns P before after → (moves : List Move) (number : ℕ) (rows : Rows) (actor : Actor) (number' : ℕ) (rows' : Rows) (actor' : Actor) (others : List Actor) → AreSteady moves →
    Makes moves number rows actor number' rows' actor' → Sound (state_of number rows (actor ∷ others)) → Has P actor → actor.transaction.committed ≡ false → actor'.transaction.committed ≡ true → before rows → after rows'
step_turns P before after turns [] number rows actor number' rows' actor' others steady makes sound plan undone done has =
    absurd (let clash : false ≡ true = sym undone ∙ ap (λ (a : Actor). a.transaction.committed) (sym makes.2) ∙ done in cc)
step_turns P before after turns (move ∷ moves) number rows actor number' rows' actor' others steady makes sound plan undone done has =
    by (kind_of P before after turns move number rows actor steady.0 makes.0)
    (λ still left. step_turns P before after turns moves (number_after move number) (rows_after move actor rows) (actor_after move rows actor) number' rows' actor' others steady.2 makes.1
    (after_one number rows actor others move steady.0 steady.1 makes.0 sound) (steady_has P move rows actor steady.0 plan) still done left)
  where
    by : Kind P before after move number rows actor → ((actor_after move rows actor).transaction.committed ≡ false → before (rows_after move actor rows) → after rows') → after rows'
    by (leaves other keeps) rest = rest (keeps ∙ undone) (turns.kept number rows actor others move other makes.0 sound has)
    by (commits not_yet now turned) rest =
        step_keeps after turns.kept_after moves (number_after move number) (rows_after move actor rows) (actor_after move rows actor) number' rows' actor' others steady.2 makes.1
        (after_one number rows actor others move steady.0 steady.1 makes.0 sound) (done ∙ sym now) (turned others plan sound has)

-- ---- triples

pub step_leaves_triples : StepLeavesTriples
step_leaves_triples moves number rows actor number' rows' actor' others known steady makes sound same has =
    step_keeps (λ r. HasTriples r known) (λ n r a os move other may s h. moves_leave_triples n r a os move known other may s h) moves number rows actor number' rows' actor' others steady makes sound same has

pub step_adds_triples : StepAddsTriples
step_adds_triples moves number rows actor number' rows' actor' others triples known steady makes sound plan undone done has =
    step_turns (λ start answers writes. IsLoadPlan start answers writes triples) (λ r. HasTriples r known) (λ r. HasTriples r (known ++ triples)) (record {
      kept = λ n r a os move other may s h. moves_leave_triples n r a os move known other may s h;
      kept_after = λ n r a os move other may s h. moves_leave_triples n r a os move (known ++ triples) other may s h;
      commits = λ n r a os write commit its may s h. loads_add_triples n r a os write commit triples known its may s h;
      nothing = λ n r a os its s h. found_are_there n r a os triples known its s h;
    }) moves number rows actor number' rows' actor' others steady makes sound plan undone done has

-- a registration writes something
registers_something : {A : Type 0} (start : ℕ) (answers : List Answer) (name : List ℕ) (tree : Tree) → IsRegisterPlan start answers [] name tree → A
registers_something start answers name tree plan = absurd (let none = plan.writes_are in cc)

pub register_step_leaves_triples : RegisterStepLeavesTriples
register_step_leaves_triples moves number rows actor number' rows' actor' others name tree known steady makes sound plan undone done has =
    step_turns (λ start answers writes. IsRegisterPlan start answers writes name tree) (λ r. HasTriples r known) (λ r. HasTriples r known) (record {
      kept = λ n r a os move other may s h. moves_leave_triples n r a os move known other may s h;
      kept_after = λ n r a os move other may s h. moves_leave_triples n r a os move known other may s h;
      commits = λ n r a os write commit its may s h. registrations_leave_triples n r a os write commit name tree known its may s h;
      nothing = λ n r a os its s h. registers_something a.start a.answers name tree its;
    }) moves number rows actor number' rows' actor' others steady makes sound plan undone done has

-- ---- queries

pub step_leaves_queries : StepLeavesQueries
step_leaves_queries moves number rows actor number' rows' actor' others known steady makes sound same has =
    step_keeps (λ r. HasQueries r known) (λ n r a os move other may s h. moves_leave_queries n r a os move known other may s h) moves number rows actor number' rows' actor' others steady makes sound same has

pub load_step_leaves_queries : LoadStepLeavesQueries
load_step_leaves_queries moves number rows actor number' rows' actor' others triples known steady makes sound plan undone done has =
    step_turns (λ start answers writes. IsLoadPlan start answers writes triples) (λ r. HasQueries r known) (λ r. HasQueries r known) (record {
      kept = λ n r a os move other may s h. moves_leave_queries n r a os move known other may s h;
      kept_after = λ n r a os move other may s h. moves_leave_queries n r a os move known other may s h;
      commits = λ n r a os write commit its may s h. loads_leave_queries n r a os write commit triples known its may s h;
      nothing = λ n r a os its s h. h;
    }) moves number rows actor number' rows' actor' others steady makes sound plan undone done has

-- none of these has the name
abbrev Lacks : List ℕ → List Registration → Type 0
Lacks name known = All (λ (other : Registration). other.name ≢ name) known

pub step_adds_query : StepAddsQuery
step_adds_query moves number rows actor number' rows' actor' others name tree known steady makes sound plan undone done has = with_new (registration_of actor name tree) refl
  where
    with_new : (new : Registration) → registration_of actor name tree ≡ new → Lacks name known × HasQueries rows' (added new known)
    with_new new is =
        step_turns (λ start answers writes. IsRegisterPlan start answers writes name tree × (start ≡ actor.start)) (λ r. HasQueries r known) (λ r. Lacks name known × HasQueries r (added new known)) (record {
          kept = λ n r a os move other may s h. moves_leave_queries n r a os move known other may s h;
          kept_after = λ n r a os move other may s h. (h.0, moves_leave_queries n r a os move (added new known) other may s h.1);
          commits = λ n r a os write commit its may s h.
              let joined = registrations_add_theirs n r a os write commit name tree known its.0 may s h in
              let same : registration_of a name tree ≡ new = ap (λ start. let one : Registration = record { name = name; number = start; tree = tree } in one) its.1 ∙ is in
              (joined.0, subst (λ one. HasQueries (rows_after (CommitPrimary write commit) a r) (added one known)) same joined.1);
          nothing = λ n r a os its s h. registers_something a.start a.answers name tree its.0;
        }) moves number rows actor number' rows' actor' others steady makes sound (plan, refl) undone done has
