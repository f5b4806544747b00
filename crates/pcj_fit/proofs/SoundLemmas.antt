-- Every move keeps all sound.
use Rattle.std.proofs.Common.{◌≡◌, ◌⊎◌, inl, inr, ◌≤◌, ℕ, suc, Bool, true, false, nat_lt, List, [], ◌∷◌, IfSome, refl, ap, sym, subst, ◌∙◌, arith}
use Rattle.std.proofs.lemmas.Bool.{and_from, lt-ltb}
use Rattle.std.proofs.lemmas.List.Elements.{All-head, All-tail}
use Rattle.std.specs.List.{All, list_all}
use Rattle.pcj_table.proofs.RowLemmas.{no_row_is}
use Rattle.pcj_table.specs.Row.{has_nothing}
use Rattle.pcj_table.specs.Table.{Key}
use Rattle.pcj_table.specs.declared.row.Row.{Row}
use Rattle.pcj_table.specs.declared.version.Version.{Version}
use Rattle.pcj_table.specs.declared.write.Write.{Write}
use Rattle.pcj_encode.specs.declared.key_name.KeyName.{KeyName}
use Rattle.pcj_encode.specs.declared.key_name.KeyName.TheVariants as row
use Rattle.pcj_encode.specs.Name.{key_of}
use Rattle.pcj_mvcc.proofs.Choices.{not_chosen}
use Rattle.pcj_mvcc.proofs.Rows.{rows_alike}
use Rattle.pcj_mvcc.specs.Choices.{Choice, IsChoice, under, with_commit}
use Rattle.pcj_mvcc.specs.Reading.{Rows}
use Rattle.pcj_moves.specs.Actors.{Actor, Each, IsOlder, new_actor}
use Rattle.pcj_moves.specs.Recoveries.{Recovery}
use Rattle.pcj_moves.specs.ChoiceLaws.{IsRipeAt}
use Rattle.pcj_moves.specs.Moves.{Begins, CommitNothing, CommitPrimary, CommitSecondary, Draw, DropPrimary, EndRecovery, Ends, IsAllowed, Learn, Meet, Move, NumbersAreOwn, Plan, Prewrite, Read, RollBack, RollForward, WritePlain, actor_after, number_after, rows_after}
use Rattle.pcj_moves.proofs.ConsistencyLemmas.{move_is_consistent}
use Rattle.pcj_moves.proofs.MoveLemmas.{comes_first, higher_is_consistent, step_is_consistent}
use Rattle.pcj_moves.proofs.OrderLemmas.{actor_goes_back, each_apart, each_together}
use Rattle.pcj_choices.proofs.ClaimLemmas.{WritesOnly, claim_begins, claim_ends, claim_first, claim_goes_back, claim_here, claim_is_kept, plain_stays}
use Rattle.pcj_nodes.specs.Commits.{HasWritten, IsPlainFrom}
use Rattle.pcj_duties.proofs.WorkLemmas.{purposes_are_plans}
use Rattle.pcj_fit.specs.Fit.{Fit}
use Rattle.pcj_fit.specs.Laws.{BackIsSound, BeginIsSound, EndIsSound, FirstIsSound, FitGrows, FitIsSound, HigherIsSound, MoveIsSound, SoundIsFit, WritesClock, WritesLine, state_of}
use Rattle.pcj_rows.specs.Rows.{Decodes, IsDecoded, IsVersionOf}
use Rattle.pcj_fit.specs.Sound.{HasExported, HasMetGranted, IsFrom, IsPlanned, MayWritePlain}
use Rattle.pcj_fit.proofs.FitLemmas.{FitFrom, PlanFrom, fit_is_kept, written_after}
use Rattle.pcj_rows.proofs.OwnRowLemmas.{new_are_own, own_is_kept, own_under}
use Rattle.pcj_rows.proofs.RowLemmas.{decodes_later, is_written, locked_row, to_versions, unwritten_versions}

-- what is written of the clock is one of the plain values that may be written
pub clock_line : (rows : Rows) (actor : Actor) (move : Move) → WritesClock move → WritesLine rows actor move
clock_line rows actor (Plan writes) is = λ registration cells named e. absurd (let clash = sym (is registration cells named) ∙ e in cc)
clock_line rows actor (Prewrite write) is = tt
clock_line rows actor (Draw commit) is = tt
clock_line rows actor (CommitPrimary write commit) is = tt
clock_line rows actor (CommitSecondary write commit) is = tt
clock_line rows actor (CommitNothing commit) is = tt
clock_line rows actor (Read answer) is = tt
clock_line rows actor (Meet key lock) is = tt
clock_line rows actor (Learn recovery) is = tt
clock_line rows actor (DropPrimary recovery) is = tt
clock_line rows actor (RollBack recovery) is = tt
clock_line rows actor (RollForward recovery commit) is = tt
clock_line rows actor EndRecovery is = tt
clock_line rows actor (WritePlain key plain) is = inl is

writes_only : (rows : Rows) (actor : Actor) (move : Move) → WritesLine rows actor move → WritesOnly MayWritePlain rows actor move
writes_only rows actor (Plan writes) is = tt
writes_only rows actor (Prewrite write) is = tt
writes_only rows actor (Draw commit) is = tt
writes_only rows actor (CommitPrimary write commit) is = tt
writes_only rows actor (CommitSecondary write commit) is = tt
writes_only rows actor (CommitNothing commit) is = tt
writes_only rows actor (Read answer) is = tt
writes_only rows actor (Meet key lock) is = tt
writes_only rows actor (Learn recovery) is = tt
writes_only rows actor (DropPrimary recovery) is = tt
writes_only rows actor (RollBack recovery) is = tt
writes_only rows actor (RollForward recovery commit) is = tt
writes_only rows actor EndRecovery is = tt
writes_only rows actor (WritePlain key plain) is = is

numbers_rise : (number : ℕ) (rows : Rows) (actor : Actor) (move : Move) → IsAllowed move number rows actor → number ≤ number_after move number
numbers_rise number rows actor (Plan writes) may = omega arith
numbers_rise number rows actor (Prewrite write) may = omega arith
numbers_rise number rows actor (Draw commit) may = let le = may.granted in omega arith
numbers_rise number rows actor (CommitPrimary write commit) may = omega arith
numbers_rise number rows actor (CommitSecondary write commit) may = omega arith
numbers_rise number rows actor (CommitNothing commit) may = omega arith
numbers_rise number rows actor (Read answer) may = omega arith
numbers_rise number rows actor (Meet key lock) may = omega arith
numbers_rise number rows actor (Learn recovery) may = omega arith
numbers_rise number rows actor (DropPrimary recovery) may = omega arith
numbers_rise number rows actor (RollBack recovery) may = omega arith
numbers_rise number rows actor (RollForward recovery commit) may = omega arith
numbers_rise number rows actor EndRecovery may = omega arith
numbers_rise number rows actor (WritePlain key plain) may = omega arith

-- a move leaves its actor's start
same_start : (move : Move) (rows : Rows) (actor : Actor) → (actor_after move rows actor).start ≡ actor.start
same_start (Plan writes) rows actor = refl
same_start (Prewrite write) rows actor = refl
same_start (Draw commit) rows actor = refl
same_start (CommitPrimary write commit) rows actor = refl
same_start (CommitSecondary write commit) rows actor = refl
same_start (CommitNothing commit) rows actor = refl
same_start (Read answer) rows actor = refl
same_start (Meet key lock) rows actor = refl
same_start (Learn recovery) rows actor = refl
same_start (DropPrimary recovery) rows actor = refl
same_start (RollBack recovery) rows actor = refl
same_start (RollForward recovery commit) rows actor = refl
same_start EndRecovery rows actor = refl
same_start (WritePlain key plain) rows actor = refl

-- a lock that was met stands, and was set by a transaction that had begun
met_after : (number : ℕ) (rows : Rows) (actor : Actor) (move : Move) → IsAllowed move number rows actor → Decodes number rows → HasMetGranted actor → HasMetGranted (actor_after move rows actor)
met_after number rows actor (Plan writes) may decodes met = met
met_after number rows actor (Prewrite write) may decodes met = met
met_after number rows actor (Draw commit) may decodes met = met
met_after number rows actor (CommitPrimary write commit) may decodes met = met
met_after number rows actor (CommitSecondary write commit) may decodes met = met
met_after number rows actor (CommitNothing commit) may decodes met = met
met_after number rows actor (Read answer) may decodes met = met
met_after number rows actor (Meet key lock) may decodes met = (locked_row number rows key lock decodes may.stands).its.start.0
met_after number rows actor (Learn recovery) may decodes met = subst (λ r. IfSome r (λ (its : Recovery). 1 ≤ its.lock.start)) may.0 met
met_after number rows actor (DropPrimary recovery) may decodes met = met
met_after number rows actor (RollBack recovery) may decodes met = met
met_after number rows actor (RollForward recovery commit) may decodes met = met
met_after number rows actor EndRecovery may decodes met = tt
met_after number rows actor (WritePlain key plain) may decodes met = met

-- where a line was to be written it still stands
exported_after : (rows : Rows) (actor : Actor) (move : Move) → WritesLine rows actor move → HasExported rows actor → HasExported (rows_after move actor rows) (actor_after move rows actor)
exported_after rows actor (Plan writes) line exported = line
exported_after rows actor (Prewrite write) line exported = written_after rows actor (Prewrite write) actor.start actor.transaction.writes tt exported
exported_after rows actor (Draw commit) line exported = exported
exported_after rows actor (CommitPrimary write commit) line exported = written_after rows actor (CommitPrimary write commit) actor.start actor.transaction.writes tt exported
exported_after rows actor (CommitSecondary write commit) line exported = written_after rows actor (CommitSecondary write commit) actor.start actor.transaction.writes tt exported
exported_after rows actor (CommitNothing commit) line exported = exported
exported_after rows actor (Read answer) line exported = exported
exported_after rows actor (Meet key lock) line exported = exported
exported_after rows actor (Learn recovery) line exported = exported
exported_after rows actor (DropPrimary recovery) line exported = written_after rows actor (DropPrimary recovery) actor.start actor.transaction.writes tt exported
exported_after rows actor (RollBack recovery) line exported = written_after rows actor (RollBack recovery) actor.start actor.transaction.writes tt exported
exported_after rows actor (RollForward recovery commit) line exported = written_after rows actor (RollForward recovery commit) actor.start actor.transaction.writes tt exported
exported_after rows actor EndRecovery line exported = exported
exported_after rows actor (WritePlain key plain) line exported = written_after rows actor (WritePlain key plain) actor.start actor.transaction.writes line exported

others_exported : (rows : Rows) (actor : Actor) (move : Move) (others : List Actor) → WritesLine rows actor move → Each (HasExported rows) others → Each (HasExported (rows_after move actor rows)) others
others_exported rows actor move [] line each = tt
others_exported rows actor move (other ∷ others) line each =
    (written_after rows actor move other.start other.transaction.writes (writes_only rows actor move line) each.0, others_exported rows actor move others line each.1)

-- a choice leaves the plain values
written_under : (choice : Choice) (rows : Rows) (start : ℕ) (writes : List Write) → HasWritten start writes rows → HasWritten start writes (under choice rows)
written_under choice rows start writes written registration cells named is =
    subst (IsPlainFrom start) (sym (plain_stays (choice (key_of (row.Export registration cells))) (rows (key_of (row.Export registration cells))))) (written registration cells named is)

pub move_is_sound : MoveIsSound
move_is_sound number rows actor others move may plains planned sound = record {
  consistent = move_is_consistent number rows actor others move may sound.consistent;
  fit = λ choice is. (claim_is_kept (FitFrom sound.low actor.start actor.transaction.writes) (PlanFrom sound.low actor.start actor.transaction.writes) MayWritePlain (fit_is_kept sound.low actor.start actor.transaction.writes) number rows actor others move
      (sound.planned.0, sound.later.0, refl, refl) may (writes_only rows actor move plains) sound.consistent
      (λ choice is. (sound.fit choice is, own_under sound.low choice rows sound.own, written_under choice rows actor.start actor.transaction.writes sound.exported.0)) choice is).0;
  planned = (planned, sound.planned.1);
  exported = (exported_after rows actor move plains sound.exported.0, others_exported rows actor move others plains sound.exported.1);
  low = sound.low;
  since = let rise = numbers_rise number rows actor move may in let le = sound.since in omega (arith, rise, le);
  own = own_is_kept sound.low number rows actor others move (purposes_are_plans actor.start actor.answers actor.transaction.writes sound.planned.0) sound.consistent may sound.own;
  later = (subst (λ start. (start ≡ 0) ⊎ (sound.low ≤ start)) (sym (same_start move rows actor)) sound.later.0, sound.later.1);
  met = (met_after number rows actor move may (claim_here (Fit number) (IsRipeAt rows (actor ∷ others)) rows sound.fit).decodes sound.met.0, sound.met.1);
}

-- ---- actors that begin and end

pub fit_grows : FitGrows
fit_grows number more rows le fit = record {
  decodes = decodes_later number more rows le fit.decodes;
  times = fit.times;
  named = fit.named;
  once = fit.once;
  apart = fit.apart;
  atomic = fit.atomic;
  registered = fit.registered;
  origins = fit.origins;
  kept = fit.kept;
}

pub higher_is_sound : HigherIsSound
higher_is_sound number more rows actors le sound = record {
  consistent = higher_is_consistent number more rows actors le sound.consistent;
  fit = λ choice is. fit_grows number more (under choice rows) le (sound.fit choice is);
  planned = sound.planned;
  exported = sound.exported;
  low = sound.low;
  since = let since = sound.since in omega (arith, since, le);
  own = sound.own;
  later = sound.later;
  met = sound.met;
}

pub begin_is_sound : BeginIsSound
begin_is_sound number start rows actors le sound = record {
  consistent = step_is_consistent (state_of number rows actors) (Begins start) (state_of (suc start) rows (new_actor start ∷ actors)) sound.consistent (le, refl);
  fit = claim_begins (Fit (suc start)) rows start actors (λ choice is. fit_grows number (suc start) (under choice rows) (omega arith) (sound.fit choice is));
  planned = (inl refl, sound.planned);
  exported = ((λ registration cells named e. absurd cc), sound.exported);
  low = sound.low;
  since = let since = sound.since in omega (arith, since, le);
  own = sound.own;
  later = (inr (let since = sound.since in omega (arith, since, le)), sound.later);
  met = (tt, sound.met);
}

pub end_is_sound : EndIsSound
end_is_sound number rows actor others sound = record {
  consistent = step_is_consistent (state_of number rows (actor ∷ others)) (Ends [] actor others) (state_of number rows others) sound.consistent (refl, refl);
  fit = claim_ends (Fit number) rows actor others sound.fit;
  planned = sound.planned.1;
  exported = sound.exported.1;
  low = sound.low;
  since = sound.since;
  own = sound.own;
  later = sound.later.1;
  met = sound.met.1;
}

pub first_is_sound : FirstIsSound
first_is_sound number rows front actor back sound = record {
  consistent = comes_first number rows front actor back sound.consistent;
  fit = claim_first (Fit number) rows front actor back sound.fit;
  planned = each_apart IsPlanned front actor back sound.planned;
  exported = each_apart (HasExported rows) front actor back sound.exported;
  low = sound.low;
  since = sound.since;
  own = sound.own;
  later = each_apart (IsFrom sound.low) front actor back sound.later;
  met = each_apart HasMetGranted front actor back sound.met;
}

pub back_is_sound : BackIsSound
back_is_sound number rows front actor back sound = record {
  consistent = record {
    times = sound.consistent.times;
    named = sound.consistent.named;
    once = sound.consistent.once;
    below = sound.consistent.below;
    sound = actor_goes_back rows front actor back sound.consistent.sound;
    older = each_together (IsOlder number) front actor back sound.consistent.older.0 sound.consistent.older.1;
    own = each_together (NumbersAreOwn rows) front actor back sound.consistent.own.0 sound.consistent.own.1;
  };
  fit = claim_goes_back (Fit number) rows front actor back sound.fit;
  planned = each_together IsPlanned front actor back sound.planned.0 sound.planned.1;
  exported = each_together (HasExported rows) front actor back sound.exported.0 sound.exported.1;
  low = sound.low;
  since = sound.since;
  own = sound.own;
  later = each_together (IsFrom sound.low) front actor back sound.later.0 sound.later.1;
  met = each_together HasMetGranted front actor back sound.met.0 sound.met.1;
}

-- ---- fit tables

pub sound_is_fit : SoundIsFit
sound_is_fit number rows actors sound = claim_here (Fit number) (IsRipeAt rows actors) rows sound.fit

-- the commits of a row that decodes are below the number
commits_below : (next : ℕ) (name : KeyName) (versions : List Version) → All (IsVersionOf next name) versions → list_all (λ version. nat_lt version.commit next) versions ≡ true
commits_below next name [] all = refl
commits_below next name (version ∷ versions) all =
    and_from (nat_lt version.commit next) _ (lt-ltb version.commit next (All-head (IsVersionOf next name) version versions all).commit) (commits_below next name versions (All-tail (IsVersionOf next name) version versions all))

rows_below : (number : ℕ) (rows : Rows) → Decodes number rows → (key : Key) → list_all (λ version. nat_lt version.commit number) (rows key).versions ≡ true
rows_below number rows decodes key = by (has_nothing (rows key)) refl
  where
    by : (b : Bool) → has_nothing (rows key) ≡ b → list_all (λ version. nat_lt version.commit number) (rows key).versions ≡ true
    by true none = ap (λ (r : Row). list_all (λ version. nat_lt version.commit number) r.versions) (no_row_is (rows key) none)
    by false some = let is = decodes key some in written is (is_written is.name) refl
      where
        written : (is : IsDecoded number key (rows key)) (b : Bool) → is_written is.name ≡ b → list_all (λ version. nat_lt version.commit number) (rows key).versions ≡ true
        written is true e = commits_below number is.name (rows key).versions (to_versions number is.name (rows key) e is.holds).versions
        written is false e = ap (list_all (λ version. nat_lt version.commit number)) (unwritten_versions number is.name (rows key) e is.holds)

pub fit_is_sound : FitIsSound
fit_is_sound number rows fit = record {
  consistent = record {
    times = fit.times;
    named = fit.named;
    once = fit.once;
    below = record { versions = rows_below number rows fit.decodes; locks = λ key lock locked. (locked_row number rows key lock fit.decodes locked).its.start.1 };
    sound = tt;
    older = tt;
    own = tt;
  };
  fit = λ choice is. subst (Fit number) (sym (none choice is)) fit;
  planned = tt;
  exported = tt;
  low = number;
  since = omega arith;
  own = new_are_own number rows fit.decodes;
  later = tt;
  met = tt;
}
  where
    none : (choice : Choice) → IsChoice (IsRipeAt rows []) choice → under choice rows ≡ rows
    none choice is = rows_alike _ _ (λ key. ap (λ c. with_commit c (rows key)) (not_chosen (IsRipeAt rows []) choice key is (λ commit ripes. let within = ripes.1.1 in omega arith)))
