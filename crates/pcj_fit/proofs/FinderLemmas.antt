-- Workers that look for their next task leave all sound, each beside those that have numbers.
use Rattle.std.proofs.Common.{◌≡◌, ◌⊎◌, inl, inr, ◌≤◌, ℕ, Bool, true, false, not, ◌==◌, List, [], ◌∷◌, Option, Some, None, refl, ap, ap₂, sym, subst, ◌∙◌, arith}
use Rattle.std.proofs.lemmas.Bool.{ltb-true}
use Rattle.std.proofs.lemmas.List.Elements.{All-head, All-tail, Contains-append_right}
use Rattle.std.specs.List.{All, Contains, find}
use Rattle.pcj_table.proofs.RowLemmas.{no_row_is}
use Rattle.pcj_table.specs.Row.{has_nothing}
use Rattle.pcj_table.specs.Table.{Key}
use Rattle.pcj_table.specs.declared.lock.Lock.{Lock}
use Rattle.pcj_table.specs.declared.row.Row.{Row}
use Rattle.pcj_table.specs.declared.version.Version.{Version}
use Rattle.pcj_encode.specs.declared.key_name.KeyName.{KeyName}
use Rattle.pcj_encode.specs.declared.key_name.KeyName.TheVariants as row
use Rattle.pcj_encode.specs.declared.task_name.TaskName.TheVariants as task
use Rattle.pcj_encode.specs.Name.{key_of}
use Rattle.pcj_mvcc.proofs.Versions.{all_weaker}
use Rattle.pcj_mvcc.specs.Reading.{Rows}
use Rattle.pcj_mvcc.specs.Times.{AllVersions, starts_first}
use Rattle.pcj_moves.specs.Traces.{lock_from, no_trace, traces}
use Rattle.pcj_moves.specs.Transactions.{Transaction, write_at}
use Rattle.pcj_moves.specs.Actors.{Actor, ArePair, ArePaired, AreSound, Each, IsSound, new_actor}
use Rattle.pcj_moves.specs.ChoiceLaws.{IsRipeAt}
use Rattle.pcj_moves.specs.Moves.{CommitNothing, CommitPrimary, CommitSecondary, Draw, DropPrimary, EndRecovery, Learn, Meet, Plan, Prewrite, Read, RollBack, RollForward, WritePlain, rows_after}
use Rattle.pcj_moves.proofs.ActorLemmas.{each_sound, either_actor, if_some}
use Rattle.pcj_moves.proofs.ConsistencyLemmas.{its_recovery}
use Rattle.pcj_moves.proofs.GoOnLemmas.{begin_step}
use Rattle.pcj_moves.proofs.OwnLemmas.{hidden_undrawn}
use Rattle.pcj_moves.proofs.StepLemmas.{recovery_drops_primary, recovery_rolls_back, recovery_rolls_forward, unlock_step}
use Rattle.pcj_moves.proofs.TraceLemmas.{both, unequal_false}
use Rattle.pcj_choices.proofs.ClaimLemmas.{claim_begins, claim_here}
use Rattle.pcj_rows.proofs.RowLemmas.{is_written, locked_row, to_versions, unwritten_versions}
use Rattle.pcj_rows.specs.Rows.{Decodes, IsDecoded, IsVersionOf}
use Rattle.pcj_fit.specs.Fit.{Fit}
use Rattle.pcj_fit.specs.FinderLaws.{FinderBegins, FinderStays, FindersLeaveEachOther, HaveNumbers, IsFinder}
use Rattle.pcj_fit.specs.Laws.{state_of}
use Rattle.pcj_fit.specs.Sound.{HasExported, HasMetGranted, IsPlanned, Sound}
use Rattle.pcj_fit.proofs.SoundLemmas.{move_is_sound}

-- ---- a finder begins

-- no version of a row that decodes is of no number
none_unnumbered : (next : ℕ) (name : KeyName) (versions : List Version) → All (IsVersionOf next name) versions → find (λ version. version.start == 0) versions ≡ None
none_unnumbered next name [] all = refl
none_unnumbered next name (version ∷ versions) all =
    let first = (All-head (IsVersionOf next name) version versions all).start.0 in
    rw (unequal_false version.start 0 (λ e. absurd (omega (arith, e, first)))) (none_unnumbered next name versions (All-tail (IsVersionOf next name) version versions all))

no_version : (number : ℕ) (rows : Rows) → Decodes number rows → (key : Key) → find (λ version. version.start == 0) (rows key).versions ≡ None
no_version number rows decodes key = by (has_nothing (rows key)) refl
  where
    by : (b : Bool) → has_nothing (rows key) ≡ b → find (λ version. version.start == 0) (rows key).versions ≡ None
    by true none = ap (λ (r : Row). find (λ version. version.start == 0) r.versions) (no_row_is (rows key) none)
    by false some = let is = decodes key some in written is (is_written is.name) refl
      where
        written : (is : IsDecoded number key (rows key)) (b : Bool) → is_written is.name ≡ b → find (λ version. version.start == 0) (rows key).versions ≡ None
        written is true e = none_unnumbered number is.name (rows key).versions (to_versions number is.name (rows key) e is.holds).versions
        written is false e = ap (find (λ version. version.start == 0)) (unwritten_versions number is.name (rows key) e is.holds)

-- nor is any lock, so no row has anything of it
nothing_unnumbered : (number : ℕ) (rows : Rows) → Decodes number rows → (key : Key) → traces 0 rows key ≡ no_trace
nothing_unnumbered number rows decodes key = ap₂ both (no_lock (rows key).lock refl) (no_version number rows decodes key)
  where
    no_lock : (lock : Option Lock) → (rows key).lock ≡ lock → lock_from 0 (rows key).lock ≡ None
    no_lock None e = ap (lock_from 0) e
    no_lock (Some lock) e = ap (lock_from 0) e ∙ rw (unequal_false lock.start 0 (λ same. absurd (let first = (locked_row number rows key lock decodes e).its.start.0 in omega (arith, same, first)))) refl

-- a finder and one that has a number
from_finder : (rows : Rows) (other : Actor) → 1 ≤ other.start → HasMetGranted other → ArePair rows (new_actor 0) other
from_finder rows other numbered met = record {
  apart = record { starts = λ e. absurd (omega (arith, e, numbered)); commits = λ commit e. absurd cc };
  hidden = hidden_undrawn 0 (new_actor 0).transaction (traces 0 rows) other.start other.answers refl;
  recovers = if_some _ _ (λ recovery first same. absurd (omega (arith, first, same))) other.recovery met;
}

to_finder : (rows : Rows) (other : Actor) → 1 ≤ other.start → IsSound rows other → ArePair rows other (new_actor 0)
to_finder rows other numbered sound = record {
  apart = record { starts = λ e. absurd (omega (arith, e, numbered)); commits = λ commit e. (λ none. absurd (let later = sound.transacts.later commit e in omega (arith, later, none)), λ is. absurd cc) };
  hidden = λ commit ripe le answer held. absurd (let within = held.1 in omega arith);
  recovers = tt;
}

pairs_finder : (rows : Rows) (actors : List Actor) → HaveNumbers actors → Each HasMetGranted actors → Each (IsSound rows) actors → ArePaired rows (new_actor 0) actors
pairs_finder rows [] numbered met sound = tt
pairs_finder rows (other ∷ actors) numbered met sound =
    ((from_finder rows other numbered.0 met.0, to_finder rows other numbered.0 sound.0), pairs_finder rows actors numbered.1 met.1 sound.1)

pub finder_begins : FinderBegins
finder_begins number rows actors first numbered sound = record {
  consistent = record {
    times = sound.consistent.times;
    named = sound.consistent.named;
    once = sound.consistent.once;
    below = sound.consistent.below;
    sound = (
      (begin_step rows 0 [] (nothing_unnumbered number rows (claim_here (Fit number) (IsRipeAt rows actors) rows sound.fit).decodes) tt tt).0,
      pairs_finder rows actors numbered sound.met (each_sound rows actors sound.consistent.sound),
      sound.consistent.sound,
    );
    older = (record { below = record { start = omega (arith, first); commit = λ commit e. absurd cc }; recovers = tt }, sound.consistent.older);
    own = (
      record {
        start = λ key. all_weaker starts_first (λ version. not (version.commit == 0)) committed_later (rows key).versions (sound.consistent.times.first key);
        commit = λ commit e. absurd cc;
        locks = λ commit e. absurd cc;
      },
      sound.consistent.own,
    );
  };
  fit = claim_begins (Fit number) rows 0 actors sound.fit;
  planned = (inl refl, sound.planned);
  exported = ((λ registration cells named e. absurd cc), sound.exported);
  low = sound.low;
  since = sound.since;
  own = sound.own;
  later = (inl refl, sound.later);
  met = (tt, sound.met);
}
  where
    committed_later : (version : Version) → starts_first version ≡ true → not (version.commit == 0) ≡ true
    committed_later version e = ap not (unequal_false version.commit 0 (λ none. absurd (let lt = ltb-true version.start version.commit e in omega (arith, none, lt))))

-- ---- what it does

pub finder_stays : FinderStays
finder_stays number rows finder (Plan writes) its is = absurd its
finder_stays number rows finder (Prewrite write) its is = absurd its
finder_stays number rows finder (Draw commit) its is = absurd its
finder_stays number rows finder (CommitPrimary write commit) its is = absurd its
finder_stays number rows finder (CommitSecondary write commit) its is = absurd its
finder_stays number rows finder (CommitNothing commit) its is = absurd its
finder_stays number rows finder (Read answer) its is = absurd its
finder_stays number rows finder (Meet key lock) its is = record { start = is.start; answers = is.answers; transaction = is.transaction }
finder_stays number rows finder (Learn recovery) its is = record { start = is.start; answers = is.answers; transaction = is.transaction }
finder_stays number rows finder (DropPrimary recovery) its is = is
finder_stays number rows finder (RollBack recovery) its is = is
finder_stays number rows finder (RollForward recovery commit) its is = is
finder_stays number rows finder EndRecovery its is = record { start = is.start; answers = is.answers; transaction = is.transaction }
finder_stays number rows finder (WritePlain key plain) its is = absurd its

-- it writes nothing
finder_is_planned : (finder : Actor) → IsFinder finder → IsPlanned finder
finder_is_planned finder is = inl (ap (λ (t : Transaction). t.writes) is.transaction)

-- it ends no export's task
finder_exports_nothing : (rows : Rows) (finder : Actor) → IsFinder finder → HasExported rows finder
finder_exports_nothing rows finder is registration cells named e = absurd (let clash = ap (λ (t : Transaction). write_at t.writes (key_of (row.Task (task.Export registration cells)))) (sym is.transaction) ∙ e in cc)

-- whatever is ripe beside one finder is so beside each other one
others_are_ripe : (rows : Rows) (finder other : Actor) (actors : List Actor) → IsFinder other → (key : Key) (commit : ℕ) → IsRipeAt rows (other ∷ actors) key commit → IsRipeAt rows (finder ∷ actors) key commit
others_are_ripe rows finder other actors is key commit ripes = by (either_actor other ripes.0 actors ripes.1)
  where
    by : (other ≡ ripes.0) ⊎ Contains actors ripes.0 → IsRipeAt rows (finder ∷ actors) key commit
    by (inl same) = absurd (let drawn : None ≡ Some commit = ap (λ (t : Transaction). t.commit) (sym is.transaction) ∙ ap (λ (a : Actor). a.transaction.commit) same ∙ ripes.3.drawn in cc)
    by (inr there) = (ripes.0, Contains-append_right (finder ∷ []) actors ripes.0 there, ripes.2, ripes.3)

-- What is sound beside one finder is so beside each other one of which the rows say what they have to: what is said of the
-- rows and of those that have numbers is the same.
beside_other : (number : ℕ) (before after : Rows) (finder other : Actor) (actors : List Actor) → IsFinder finder → IsFinder other → AreSound after (other ∷ actors) →
    Sound (state_of number after (finder ∷ actors)) → Sound (state_of number before (other ∷ actors)) → Sound (state_of number after (other ∷ actors))
beside_other number before after finder other actors is its all sound old = record {
  consistent = record {
    times = sound.consistent.times;
    named = sound.consistent.named;
    once = sound.consistent.once;
    below = sound.consistent.below;
    sound = all;
    older = old.consistent.older;
    own = (
      record {
        start = subst (λ start. AllVersions (λ version. not (version.commit == start)) after) (is.start ∙ sym its.start) sound.consistent.own.0.start;
        commit = λ commit e. absurd (undrawn commit e);
        locks = λ commit e. absurd (undrawn commit e);
      },
      sound.consistent.own.1,
    );
  };
  fit = λ choice chosen. sound.fit choice (λ key commit e. others_are_ripe after finder other actors its key commit (chosen key commit e));
  planned = old.planned;
  exported = (finder_exports_nothing after other its, sound.exported.1);
  low = sound.low;
  since = sound.since;
  own = sound.own;
  later = (inl its.start, sound.later.1);
  met = old.met;
}
  where
    undrawn : (commit : ℕ) → other.transaction.commit ≡ Some commit → ⊥
    undrawn commit e = let drawn : None ≡ Some commit = ap (λ (t : Transaction). t.commit) (sym its.transaction) ∙ e in absurd cc

pub finders_leave_each_other : FindersLeaveEachOther
finders_leave_each_other number rows finder other actors (Plan writes) moves is its may sound old = absurd moves
finders_leave_each_other number rows finder other actors (Prewrite write) moves is its may sound old = absurd moves
finders_leave_each_other number rows finder other actors (Draw commit) moves is its may sound old = absurd moves
finders_leave_each_other number rows finder other actors (CommitPrimary write commit) moves is its may sound old = absurd moves
finders_leave_each_other number rows finder other actors (CommitSecondary write commit) moves is its may sound old = absurd moves
finders_leave_each_other number rows finder other actors (CommitNothing commit) moves is its may sound old = absurd moves
finders_leave_each_other number rows finder other actors (Read answer) moves is its may sound old = absurd moves
finders_leave_each_other number rows finder other actors (Meet key lock) moves is its may sound old = old
finders_leave_each_other number rows finder other actors (Learn recovery) moves is its may sound old = old
finders_leave_each_other number rows finder other actors (DropPrimary recovery) moves is its may sound old =
    beside_other number rows (rows_after (DropPrimary recovery) finder rows) finder other actors is its
    (unlock_step recovery.lock.start rows _ (other ∷ actors) (recovery_drops_primary rows recovery sound.consistent.times (its_recovery rows finder recovery sound.consistent.sound.0 may.0).0 may.1) old.consistent.sound)
    (move_is_sound number rows finder actors (DropPrimary recovery) may tt (finder_is_planned finder is) sound) old
finders_leave_each_other number rows finder other actors (RollBack recovery) moves is its may sound old =
    beside_other number rows (rows_after (RollBack recovery) finder rows) finder other actors is its
    (unlock_step recovery.lock.start rows _ (other ∷ actors) (recovery_rolls_back rows recovery sound.consistent.times (its_recovery rows finder recovery sound.consistent.sound.0 may.0).0 may.1 may.2) old.consistent.sound)
    (move_is_sound number rows finder actors (RollBack recovery) may tt (finder_is_planned finder is) sound) old
finders_leave_each_other number rows finder other actors (RollForward recovery commit) moves is its may sound old =
    beside_other number rows (rows_after (RollForward recovery commit) finder rows) finder other actors is its
    (unlock_step recovery.lock.start rows _ (other ∷ actors) (recovery_rolls_forward rows recovery commit sound.consistent.times (its_recovery rows finder recovery sound.consistent.sound.0 may.0).0 may.1 may.2) old.consistent.sound)
    (move_is_sound number rows finder actors (RollForward recovery commit) may tt (finder_is_planned finder is) sound) old
finders_leave_each_other number rows finder other actors EndRecovery moves is its may sound old = old
finders_leave_each_other number rows finder other actors (WritePlain key plain) moves is its may sound old = absurd moves
