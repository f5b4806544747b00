-- What a reader's moves leave, and moves after moves.
use Rattle.std.proofs.Common.{◌≡◌, inl, ℕ, false, List, [], ◌∷◌, ◌++◌, refl, ap, sym, subst, ◌∙◌}
use Rattle.std.proofs.lemmas.List.{append-nil, append_assoc}
use Rattle.pcj_term.specs.declared.triple.Triple.{Triple}
use Rattle.pcj_mvcc.specs.Reading.{Rows, SameReading}
use Rattle.pcj_moves.specs.declared.answer.Answer.{Answer}
use Rattle.pcj_moves.specs.Actors.{Actor}
use Rattle.pcj_moves.specs.Moves.{CommitNothing, CommitPrimary, CommitSecondary, Draw, DropPrimary, EndRecovery, Learn, Makes, Meet, Move, Plan, Prewrite, Read, RollBack, RollForward, WritePlain, actor_after, number_after, rows_after}
use Rattle.pcj_moves.specs.StandingLaws.{Changes}
use Rattle.pcj_moves.specs.Transactions.{new_transaction}
use Rattle.pcj_moves.proofs.StandingLemmas.{one_move_changes}
use Rattle.pcj_choices.specs.UnderChoice.{is_primary_commit}
use Rattle.pcj_actor.proofs.ActorLemmas.{makes_then}
use Rattle.pcj_fit.specs.Laws.{WritesClock, state_of}
use Rattle.pcj_fit.specs.Sound.{Sound}
use Rattle.pcj_rows.specs.Triples.{HasTriples}
use Rattle.pcj_fit.proofs.SoundLemmas.{clock_line, move_is_sound}
use Rattle.pcj_fit.proofs.TripleLemmas.{moves_leave_triples}
use Rattle.pcj_scan.specs.Readers.{AreReaderMoves, IsReader, IsReaderMove, ReadsInPart, ReadsOn, with_answers}

-- ---- one move

record Leaves (move : Move) (at : ℕ) (rows : Rows) (actor : Actor) : Type 0 where
  pub clock : WritesClock move
  pub commits : is_primary_commit move ≡ false
  pub number : number_after move at ≡ at
  pub transaction : (actor_after move rows actor).transaction ≡ actor.transaction
  pub reading : Changes move actor rows (rows_after move actor rows) → SameReading rows (rows_after move actor rows)

leaves : (move : Move) (at : ℕ) (rows : Rows) (actor : Actor) → IsReaderMove move → Leaves move at rows actor
leaves (Plan writes) at rows actor is = absurd is
leaves (Prewrite write) at rows actor is = absurd is
leaves (Draw commit) at rows actor is = absurd is
leaves (CommitPrimary write commit) at rows actor is = absurd is
leaves (CommitSecondary write commit) at rows actor is = absurd is
leaves (CommitNothing commit) at rows actor is = absurd is
leaves (Read answer) at rows actor is = record { clock = tt; commits = refl; number = refl; transaction = refl; reading = λ same. same }
leaves (Meet key lock) at rows actor is = record { clock = tt; commits = refl; number = refl; transaction = refl; reading = λ same. same }
leaves (Learn recovery) at rows actor is = record { clock = tt; commits = refl; number = refl; transaction = refl; reading = λ same. same }
leaves (DropPrimary recovery) at rows actor is = record { clock = tt; commits = refl; number = refl; transaction = refl; reading = λ same. same }
leaves (RollBack recovery) at rows actor is = record { clock = tt; commits = refl; number = refl; transaction = refl; reading = λ same. same }
leaves (RollForward recovery commit) at rows actor is = record { clock = tt; commits = refl; number = refl; transaction = refl; reading = λ same. same }
leaves EndRecovery at rows actor is = record { clock = tt; commits = refl; number = refl; transaction = refl; reading = λ same. same }
leaves (WritePlain key plain) at rows actor is = record { clock = is; commits = refl; number = refl; transaction = refl; reading = λ same. same }

-- ---- several

pub record Kept (at : ℕ) (rows : Rows) (others : List Actor) (at' : ℕ) (rows' : Rows) (actor' : Actor) : Type 0 where
  pub sound : Sound (state_of at' rows' (actor' ∷ others))
  pub number : at' ≡ at
  pub nothing : actor'.transaction ≡ new_transaction []
  pub reading : SameReading rows rows'
  pub triples : (known : List Triple) → HasTriples rows known → HasTriples rows' known

pub moves_keep : (moves : List Move) (at : ℕ) (rows : Rows) (actor : Actor) (at' : ℕ) (rows' : Rows) (actor' : Actor) (others : List Actor) → AreReaderMoves moves → Makes moves at rows actor at' rows' actor' →
    actor.transaction ≡ new_transaction [] → Sound (state_of at rows (actor ∷ others)) → Kept at rows others at' rows' actor'
moves_keep [] at rows actor at' rows' actor' others are makes nothing sound =
    subst (λ n. Kept at rows others n rows' actor') (sym makes.0)
    (subst (λ r. Kept at rows others at r actor') (sym makes.1)
    (subst (λ a. Kept at rows others at rows a) (sym makes.2)
    (record { sound = sound; number = refl; nothing = nothing; reading = λ key. refl; triples = λ known has. has })))
moves_keep (move ∷ moves) at rows actor at' rows' actor' others are makes nothing sound =
    let is = leaves move at rows actor are.0 in
    let none = is.transaction ∙ nothing in
    let after = move_is_sound at rows actor others move makes.0 (clock_line rows actor move is.clock) (inl (ap (λ t. t.writes) none)) sound in
    let changed = is.reading (one_move_changes at rows actor others move makes.0 sound.consistent) in
    let rest = moves_keep moves (number_after move at) (rows_after move actor rows) (actor_after move rows actor) at' rows' actor' others are.1 makes.1 none after in
    record {
      sound = rest.sound;
      number = rest.number ∙ is.number;
      nothing = rest.nothing;
      reading = λ key. rest.reading key ∙ changed key;
      triples = λ known has. rest.triples known (moves_leave_triples at rows actor others move known is.commits makes.0 sound has);
    }

pub readers_then : (moves more : List Move) → AreReaderMoves moves → AreReaderMoves more → AreReaderMoves (moves ++ more)
readers_then [] more are then = then
readers_then (move ∷ moves) more are then = (are.0, readers_then moves more are.1 then)

-- ---- readers

pub no_more_answers : (actor : Actor) → with_answers actor [] ≡ actor
no_more_answers actor = ap (with_all actor) (append-nil actor.answers)
  where
    with_all : Actor → List Answer → Actor
    with_all a answers = record { start = a.start; answers = answers; transaction = a.transaction; recovery = a.recovery }

more_answers : (actor : Actor) (first second : List Answer) → with_answers actor (first ++ second) ≡ with_answers (with_answers actor first) second
more_answers actor first second = ap (with_all actor) (sym (append_assoc actor.answers first second))
  where
    with_all : Actor → List Answer → Actor
    with_all a answers = record { start = a.start; answers = answers; transaction = a.transaction; recovery = a.recovery }

pub still_reader : (start : ℕ) (actor : Actor) (answers : List Answer) → IsReader start actor → IsReader start (with_answers actor answers)
still_reader start actor answers is = record { is = is.is; nothing = is.nothing; free = is.free }

pub reads_nothing : (start : ℕ) (rows : Rows) → ReadsOn start rows [] rows
reads_nothing start rows at actor others is sound = ([], tt, (refl, refl, no_more_answers actor))

pub reads_then : (start : ℕ) (before between after : Rows) (first second : List Answer) → ReadsOn start before first between → ReadsOn start between second after → ReadsOn start before (first ++ second) after
reads_then start before between after first second one two at actor others is sound =
    let so = one at actor others is sound in
    let kept = moves_keep so.0 at before actor at between (with_answers actor first) others so.1 so.2 is.nothing sound in
    let then = two at (with_answers actor first) others (still_reader start actor first is) kept.sound in (
      so.0 ++ then.0,
      readers_then so.0 then.0 so.1 then.1,
      subst (λ (a : Actor). Makes (so.0 ++ then.0) at before actor at after a) (sym (more_answers actor first second))
          (makes_then so.0 then.0 at before actor at between (with_answers actor first) at after (with_answers (with_answers actor first) second) so.2 then.2),
    )

pub in_part : (start : ℕ) (before after : Rows) (answers : List Answer) → ReadsOn start before answers after → ReadsInPart start before after
in_part start before after answers one at actor others is sound = let so = one at actor others is sound in (so.0, so.1, with_answers actor answers, so.2)

pub part_then : (start : ℕ) (before between after : Rows) (first : List Answer) → ReadsOn start before first between → ReadsInPart start between after → ReadsInPart start before after
part_then start before between after first one two at actor others is sound =
    let so = one at actor others is sound in
    let kept = moves_keep so.0 at before actor at between (with_answers actor first) others so.1 so.2 is.nothing sound in
    let then = two at (with_answers actor first) others (still_reader start actor first is) kept.sound in
    (so.0 ++ then.0, readers_then so.0 then.0 so.1 then.1, then.2, makes_then so.0 then.0 at before actor at between (with_answers actor first) at after then.2 so.2 then.3)

pub nothing_in_part : (start : ℕ) (before after : Rows) → after ≡ before → ReadsInPart start before after
nothing_in_part start before after same at actor others is sound = ([], tt, actor, (refl, same, refl))
