-- Which queries a table has.
use Rattle.std.proofs.Common.{◌≡◌, ◌≢◌, ◌⊎◌, inl, inr, ◌<◌, ℕ, Bool, true, false, nat_lt, is_some, List, [], ◌∷◌, Option, Some, None, IsSome, refl, ap, sym, subst, ◌∙◌, arith, if◌then◌else◌}
use Rattle.std.proofs.lemmas.Bool.{ltb-false, ltb-true}
use Rattle.std.proofs.lemmas.List.Elements.{All-cons, All-head, All-nil, All-tail}
use Rattle.std.specs.List.{All, Contains}
use Rattle.pcj_term.proofs.ByteLemmas.{same_bytes_itself}
use Rattle.pcj_term.proofs.ListLemmas.{first_or_later, first_there, later_there, nothing_in}
use Rattle.pcj_table.specs.declared.write.Write.{Write}
use Rattle.pcj_table.specs.Table.{Key}
use Rattle.pcj_encode.proofs.Numbers.{registration_again}
use Rattle.pcj_encode.specs.declared.key_name.KeyName.TheVariants as row
use Rattle.pcj_encode.specs.Name.{key_of, registration_part}
use Rattle.pcj_tree.specs.declared.tree.Tree.{Tree}
use Rattle.pcj_mvcc.specs.Reading.{Put, Rows, standing}
use Rattle.pcj_moves.specs.declared.answer.Answer.TheVariants.{OfRow}
use Rattle.pcj_moves.specs.Actors.{Actor}
use Rattle.pcj_moves.specs.Moves.{CommitPrimary, MayCommitPrimary, rows_after}
use Rattle.pcj_moves.specs.StandingLaws.{StandsWhole}
use Rattle.pcj_moves.specs.Transactions.{write_at}
use Rattle.pcj_moves.proofs.ActorLemmas.{by_number}
use Rattle.pcj_moves.proofs.ConsistencyLemmas.{its_first}
use Rattle.pcj_moves.proofs.StandingLemmas.{one_move_changes}
use Rattle.pcj_moves.proofs.StepLemmas.{AtPrimary, at_primary}
use Rattle.pcj_choices.proofs.ClaimLemmas.{reads_the_same}
use Rattle.pcj_rows.proofs.ValueLemmas.{one_put, one_value}
use Rattle.pcj_fit.specs.Fit.{Fit}
use Rattle.pcj_fit.specs.Laws.{state_of}
use Rattle.pcj_rows.specs.Plans.{IsRegisterPlan, absent_of}
use Rattle.pcj_fit.specs.Queries.{Ascend, HasQueries, IsValidRegistration, Registration, StandsAs, added}
use Rattle.pcj_fit.specs.QueryLaws.{LoadsLeaveQueries, MovesLeaveQueries, NamesAreDistinct, ReadNamesAreKnown, RegistrationsAddTheirs}
use Rattle.pcj_rows.specs.Registrations.{IsRegistered, RegistrationsStand, registration_value}
use Rattle.pcj_fit.specs.Sound.{Sound}
use Rattle.pcj_fit.proofs.FitLemmas.{its_own, load_leaves, plan_registers}
use Rattle.pcj_rows.proofs.EachLemmas.{each_of, of_each}
use Rattle.pcj_rows.proofs.OldLemmas.{IsOld, written_is_old}
use Rattle.pcj_rows.proofs.PlanLemmas.{absent_all}
use Rattle.pcj_rows.proofs.PutLemmas.{seen_stands}
use Rattle.pcj_rows.proofs.RegisteredLemmas.{Registers, SameRegistrations, new_stands, other_registrations, same_reading}
use Rattle.pcj_fit.proofs.SoundLemmas.{sound_is_fit}

-- ---- lists of registrations

pub all_added : (P : Registration → Type 0) (new : Registration) (known : List Registration) → P new → All P known → All P (added new known)
all_added P new [] is all = All-cons P new [] is all
all_added P new (first ∷ known) is all = by (nat_lt new.number first.number) (all_added P new known is (All-tail P first known all))
  where
    by : (b : Bool) → All P (added new known) → All P (if b then new ∷ first ∷ known else first ∷ added new known)
    by true rest = All-cons P new (first ∷ known) is all
    by false rest = All-cons P first (added new known) (All-head P first known all) rest

pub in_added : (new : Registration) (known : List Registration) (other : Registration) → Contains (added new known) other → (new ≡ other) ⊎ Contains known other
in_added new [] other there = first_or_later new [] other there
in_added new (first ∷ known) other there = by (nat_lt new.number first.number) there (in_added new known other)
  where
    by : (b : Bool) → Contains (if b then new ∷ first ∷ known else first ∷ added new known) other → (Contains (added new known) other → (new ≡ other) ⊎ Contains known other) → (new ≡ other) ⊎ Contains (first ∷ known) other
    by true there rest = first_or_later new (first ∷ known) other there
    by false there rest = or (first_or_later first (added new known) other there)
      where
        or : (first ≡ other) ⊎ Contains (added new known) other → (new ≡ other) ⊎ Contains (first ∷ known) other
        or (inl same) = inr (subst (Contains (first ∷ known)) same (first_there first known))
        or (inr later) = either (rest later)
          where
            either : (new ≡ other) ⊎ Contains known other → (new ≡ other) ⊎ Contains (first ∷ known) other
            either (inl same) = inl same
            either (inr later) = inr (later_there first known other later)

pub new_added : (new : Registration) (known : List Registration) → Contains (added new known) new
new_added new [] = first_there new []
new_added new (first ∷ known) = by (nat_lt new.number first.number) (new_added new known)
  where
    by : (b : Bool) → Contains (added new known) new → Contains (if b then new ∷ first ∷ known else first ∷ added new known) new
    by true rest = first_there new (first ∷ known)
    by false rest = later_there first (added new known) new rest

pub known_added : (new : Registration) (known : List Registration) (other : Registration) → Contains known other → Contains (added new known) other
known_added new [] other there = absurd (nothing_in other there)
known_added new (first ∷ known) other there = by (nat_lt new.number first.number) (known_added new known other)
  where
    by : (b : Bool) → (Contains known other → Contains (added new known) other) → Contains (if b then new ∷ first ∷ known else first ∷ added new known) other
    by true rest = later_there new (first ∷ known) other there
    by false rest = or (first_or_later first known other there)
      where
        or : (first ≡ other) ⊎ Contains known other → Contains (first ∷ added new known) other
        or (inl same) = subst (Contains (first ∷ added new known)) same (first_there first (added new known))
        or (inr later) = later_there first (added new known) other (rest later)

pub ascend_added : (new : Registration) (known : List Registration) → Ascend known → All (λ (other : Registration). other.number ≢ new.number) known → Ascend (added new known)
ascend_added new [] ascend apart = (All-nil (λ (later : Registration). new.number < later.number), tt)
ascend_added new (first ∷ known) ascend apart = by (nat_lt new.number first.number) refl (ascend_added new known ascend.1 (All-tail (λ (other : Registration). other.number ≢ new.number) first known apart))
  where
    by : (b : Bool) → nat_lt new.number first.number ≡ b → Ascend (added new known) → Ascend (if b then new ∷ first ∷ known else first ∷ added new known)
    by true e rest =
        let lt = ltb-true new.number first.number e in (
          All-cons (λ (later : Registration). new.number < later.number) first known lt
              (each_of (λ (later : Registration). new.number < later.number) known (λ later there. let more = of_each (λ (other : Registration). first.number < other.number) known later ascend.0 there in omega (arith, lt, more))),
          ascend,
        )
    by false e rest =
        let le = ltb-false new.number first.number e in
        let differs = All-head (λ (other : Registration). other.number ≢ new.number) first known apart in
        (all_added (λ (later : Registration). first.number < later.number) new known (omega (arith, le, differs)) ascend.0, rest)

pub same_registration : (one other : Registration) → one.name ≡ other.name → one.number ≡ other.number → one.tree ≡ other.tree → one ≡ other
same_registration one other names numbers trees =
    ap (λ name. let r : Registration = record { name = name; number = one.number; tree = one.tree } in r) names
    ∙ ap (λ number. let r : Registration = record { name = other.name; number = number; tree = one.tree } in r) numbers
    ∙ ap (λ tree. let r : Registration = record { name = other.name; number = other.number; tree = tree } in r) trees

-- ---- those that stand

-- all rows of one that stands
its_rows : (rows : Rows) (registration : Registration) → RegistrationsStand rows → IsValidRegistration registration → StandsAs rows registration →
    (commit : ℕ) × IsRegistered rows registration.number registration.name registration.tree commit
its_rows rows registration stand valid stands =
    let is = stand.registrations registration.number _ valid.number stands.1 in
    let same = one_value is.0 registration.name is.1 registration.tree is.2.of_query valid.of_query (one_put (standing rows (key_of (row.Registration registration.number))) _ _ stands.0 stands.0 is.2.stands stands.1) in
    (stands.0, subst (λ name. IsRegistered rows registration.number name registration.tree stands.0) same.0 (subst (λ tree. IsRegistered rows registration.number is.0 tree stands.0) same.1 is.2))

known_rows : (rows : Rows) (known : List Registration) (registration : Registration) → RegistrationsStand rows → HasQueries rows known → Contains known registration →
    (commit : ℕ) × IsRegistered rows registration.number registration.name registration.tree commit
known_rows rows known registration stand has there =
    let valid = of_each IsValidRegistration known registration has.valid there in
    its_rows rows registration stand valid ((has.each registration valid).0 there)

pub names_are_distinct : NamesAreDistinct
names_are_distinct number rows known one other fit has there there' same =
    let first = known_rows rows known one fit.registered has there in
    let second = known_rows rows known other fit.registered has there' in
    let parts = one_put (standing rows (key_of (row.Name one.name))) (registration_part one.number) (registration_part other.number) first.0 second.0 first.1.named (ap (λ n. standing rows (key_of (row.Name n))) same ∙ second.1.named) in
    let some : Some one.number ≡ Some other.number = sym (registration_again one.number first.1.number) ∙ ap Rattle.pcj_encode.specs.Reading.registration_of parts ∙ registration_again other.number second.1.number in
    let numbers : one.number ≡ other.number = cc in
    let values = one_put (standing rows (key_of (row.Registration one.number))) (registration_value one.name one.tree) (registration_value other.name other.tree) first.0 second.0 first.1.stands
    (ap (λ n. standing rows (key_of (row.Registration n))) numbers ∙ second.1.stands) in
    same_registration one other same numbers (one_value one.name other.name one.tree other.tree first.1.of_query second.1.of_query values).1

-- one whose name stands
named_is_known : (rows : Rows) (known : List Registration) (name : List ℕ) (put : Put) → RegistrationsStand rows → HasQueries rows known → standing rows (key_of (row.Name name)) ≡ Some put →
    (registration : Registration) × Contains known registration × (registration.name ≡ name)
named_is_known rows known name put stand has e =
    let is = stand.names name put e in
    let registration : Registration = record { name = name; number = is.0; tree = is.1 } in
    let valid : IsValidRegistration registration = record { number = is.2.number; of_query = is.2.of_query } in
    (registration, (has.each registration valid).1 (put.1, is.2.stands), refl)

pub read_names_are_known : ReadNamesAreKnown
read_names_are_known number rows actor others name value known read sound has = by (standing rows (key_of (row.Name name))) refl
  where
    fit : Fit number rows
    fit = sound_is_fit number rows (actor ∷ others) sound

    there : IsSome (standing rows (key_of (row.Name name)))
    there = seen_stands number rows (row.Name name) actor.start value fit.decodes tt refl (λ deleted. deleted)
        (sound.consistent.sound.0.reads (OfRow (key_of (row.Name name)) (Some value)) read (key_of (row.Name name)) (same_bytes_itself (key_of (row.Name name))))

    by : (found : Option Put) → standing rows (key_of (row.Name name)) ≡ found → (registration : Registration) × Contains known registration × (registration.name ≡ name)
    by None e = absurd (let clash : false ≡ true = ap is_some (sym e) ∙ there in cc)
    by (Some put) e = named_is_known rows known name put fit.registered has e

-- ---- where nothing of a registration is written

pub queries_stay : (before after : Rows) (known : List Registration) → SameRegistrations before after → HasQueries before known → HasQueries after known
queries_stay before after known same has = record {
  valid = has.valid;
  ascend = has.ascend;
  each = λ registration valid. (
    λ there. let was = (has.each registration valid).0 there in (was.0, same.registrations registration.number valid.number ∙ was.1),
    λ stands. (has.each registration valid).1 (stands.0, sym (same.registrations registration.number valid.number) ∙ stands.1),
  );
}

pub moves_leave_queries : MovesLeaveQueries
moves_leave_queries number rows actor others move known other may sound has =
    queries_stay rows (rows_after move actor rows) known (same_reading rows (rows_after move actor rows) (reads_the_same number rows actor others move other may sound.consistent)) has

pub loads_leave_queries : LoadsLeaveQueries
loads_leave_queries number rows actor others write commit triples known plan may sound has =
    queries_stay rows (rows_after (CommitPrimary write commit) actor rows) known
    (load_leaves (absent_of triples actor.answers) commit rows (rows_after (CommitPrimary write commit) actor rows) (absent_all (Rattle.pcj_encode.specs.Name.IsTriple) triples actor.answers plan.load.valid)
    (subst (λ ws. StandsWhole ws commit rows (rows_after (CommitPrimary write commit) actor rows)) plan.writes_are (one_move_changes number rows actor others (CommitPrimary write commit) may sound.consistent))) has

-- ---- the commit of a registration

its_registration : (number : ℕ) (rows : Rows) (actor : Actor) (others : List Actor) (write : Write) (commit : ℕ) (name : List ℕ) (tree : Tree) → IsRegisterPlan actor.start actor.answers actor.transaction.writes name tree →
    MayCommitPrimary rows actor write commit → Sound (state_of number rows (actor ∷ others)) → Registers rows (rows_after (CommitPrimary write commit) actor rows) actor.start name tree commit
its_registration number rows actor others write commit name tree plan may sound =
    plan_registers actor.start actor.answers actor.transaction.writes name tree commit rows (rows_after (CommitPrimary write commit) actor rows) plan
    (one_move_changes number rows actor others (CommitPrimary write commit) may sound.consistent) (λ key other is. old key other is) sound.consistent.sound.0.reads
    (its_own sound.low rows actor sound.later.0 sound.own)
  where
    at : AtPrimary rows actor.start actor.transaction write commit
    at = at_primary rows actor.start actor.transaction write (its_first rows actor write commit may).0 commit sound.consistent.times sound.consistent.sound.0.transacts (its_first rows actor write commit may).1 may.drawn may.undone may.allowed

    old : (key : Key) (other : Write) → write_at actor.transaction.writes key ≡ Some other → IsOld rows actor.start key
    old key other is = written_is_old rows actor.start actor.transaction commit key other sound.consistent.times sound.consistent.sound.0.transacts at.ripe is

-- nobody had its name, or its number
others_named : (before after : Rows) (start : ℕ) (name : List ℕ) (tree : Tree) (commit : ℕ) (known : List Registration) → Registers before after start name tree commit → RegistrationsStand before → HasQueries before known →
    (other : Registration) → Contains known other → (other.name ≢ name) × (other.number ≢ start)
others_named before after start name tree commit known is stand has other there =
    let rows = known_rows before known other stand has there in (
      λ same. let clash : None ≡ Some (registration_part other.number, rows.0) = sym is.unnamed ∙ ap (λ n. standing before (key_of (row.Name n))) (sym same) ∙ rows.1.named in cc,
      λ same. let clash : None ≡ Some (registration_value other.name other.tree, rows.0) = sym is.new ∙ ap (λ n. standing before (key_of (row.Registration n))) (sym same) ∙ rows.1.stands in cc,
    )

queries_join : (before after : Rows) (start : ℕ) (name : List ℕ) (tree : Tree) (commit : ℕ) (known : List Registration) → Registers before after start name tree commit → RegistrationsStand before → HasQueries before known →
    HasQueries after (added (record { name = name; number = start; tree = tree }) known)
queries_join before after start name tree commit known is stand has = record {
  valid = all_added IsValidRegistration new known (record { number = is.number; of_query = is.of_query }) has.valid;
  ascend = ascend_added new known has.ascend (each_of (λ (other : Registration). other.number ≢ start) known (λ other there. (others_named before after start name tree commit known is stand has other there).1));
  each = λ other valid. (λ there. to other valid (in_added new known other there), λ stands. from other valid stands);
}
  where
    new : Registration
    new = record { name = name; number = start; tree = tree }

    now : IsRegistered after start name tree commit
    now = new_stands before after start name tree commit is stand

    to : (other : Registration) → IsValidRegistration other → (new ≡ other) ⊎ Contains known other → StandsAs after other
    to other valid (inl same) = subst (StandsAs after) same (commit, now.stands)
    to other valid (inr there) =
        let was = (has.each other valid).0 there in
        (was.0, other_registrations before after start name tree commit other.number is valid.number (λ same. (others_named before after start name tree commit known is stand has other there).1 (sym same)) ∙ was.1)

    from : (other : Registration) → IsValidRegistration other → StandsAs after other → Contains (added new known) other
    from other valid stands = by_number start other.number
        (λ same. let values = one_value name other.name tree other.tree is.of_query valid.of_query
        (one_put (standing after (key_of (row.Registration start))) _ _ commit stands.0 now.stands (ap (λ n. standing after (key_of (row.Registration n))) same ∙ stands.1)) in
        subst (Contains (added new known)) (same_registration new other values.0 same values.1) (new_added new known))
        (λ differs. known_added new known other ((has.each other valid).1 (stands.0, sym (other_registrations before after start name tree commit other.number is valid.number differs) ∙ stands.1)))

pub registrations_add_theirs : RegistrationsAddTheirs
registrations_add_theirs number rows actor others write commit name tree known plan may sound has =
    let is = its_registration number rows actor others write commit name tree plan may sound in
    let stand = (sound_is_fit number rows (actor ∷ others) sound).registered in (
      each_of (λ (other : Registration). other.name ≢ name) known (λ other there. (others_named rows (rows_after (CommitPrimary write commit) actor rows) actor.start name tree commit known is stand has other there).0),
      queries_join rows (rows_after (CommitPrimary write commit) actor rows) actor.start name tree commit known is stand has,
    )
