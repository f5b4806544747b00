-- What stands of registrations, and of the rows that tasks were made for, after a commit.
use Rattle.std.proofs.Common.{◌≡◌, ◌≢◌, ◌⊎◌, inl, inr, ◌<◌, ℕ, Bool, true, false, nat_le, is_some, List, [], Option, Some, None, IsSome, refl, ap, sym, subst, ◌∙◌, arith}
use Rattle.std.proofs.lemmas.Bool.{leb-false, leb-true}
use Rattle.std.specs.Option.{option_map}
use Rattle.pcj_term.proofs.ByteLemmas.{bytes_cases}
use Rattle.pcj_table.specs.Table.{Key}
use Rattle.pcj_table.specs.declared.version.Version.{Version}
use Rattle.pcj_encode.specs.declared.task_name.TaskName.TheVariants as task
use Rattle.pcj_encode.specs.declared.key_name.KeyName.TheVariants as row
use Rattle.pcj_encode.specs.Name.{IsNode, IsRegistration, key_of, registration_part}
use Rattle.pcj_tree.specs.declared.tree.Tree.{Tree}
use Rattle.pcj_mvcc.proofs.Laws.{same_standing}
use Rattle.pcj_mvcc.specs.Laws.{IsWritten, SameStanding}
use Rattle.pcj_mvcc.specs.Reading.{Put, Rows, seen, standing, versions_read}
use Rattle.pcj_moves.specs.StandingLaws.{StandsWhole}
use Rattle.pcj_moves.proofs.ActorLemmas.{by_number}
use Rattle.pcj_rows.specs.Origins.{HasOrigin, IsAfter, TasksHaveOrigins}
use Rattle.pcj_rows.specs.Plans.{registration_writes}
use Rattle.pcj_rows.specs.Registrations.{IsQueryTree, IsRegistered, RegistrationsStand, pattern_at, registration_value}
use Rattle.pcj_rows.proofs.RegisterLemmas.{Part, as_backfill, as_pattern, name_written, own_written, part_name, part_write, part_written, register_names}
use Rattle.pcj_rows.proofs.WriteLemmas.{none_written}

-- ---- where nothing of a registration is written

-- the same stands in each of these rows
pub record SameRegistrations (before after : Rows) : Type 0 where
  pub names : (name : List ℕ) → standing after (key_of (row.Name name)) ≡ standing before (key_of (row.Name name))
  pub registrations : (registration : ℕ) → IsRegistration registration → standing after (key_of (row.Registration registration)) ≡ standing before (key_of (row.Registration registration))
  pub patterns : (registration node : ℕ) → IsRegistration registration → IsNode node → SameStanding before after (key_of (row.Pattern registration node))

pub same_reading : (before after : Rows) → versions_read after ≡ versions_read before → SameRegistrations before after
same_reading before after same = record {
  names = λ name. (stays (key_of (row.Name name))).stands;
  registrations = λ registration number. (stays (key_of (row.Registration registration))).stands;
  patterns = λ registration node number small. stays (key_of (row.Pattern registration node));
}
  where
    stays : (key : Key) → SameStanding before after key
    stays key = same_standing before after key (ap (λ (read : Key → List Version). read key) same)

pub registered_same : (before after : Rows) (registration : ℕ) (name : List ℕ) (tree : Tree) (commit : ℕ) → SameRegistrations before after → IsRegistered before registration name tree commit → IsRegistered after registration name tree commit
registered_same before after registration name tree commit same is = record {
  number = is.number;
  of_query = is.of_query;
  named = same.names name ∙ is.named;
  stands = same.registrations registration is.number ∙ is.stands;
  patterns = λ node small. (same.patterns registration node is.number small).stands ∙ is.patterns node small;
}

pub registrations_stay : (before after : Rows) → SameRegistrations before after → RegistrationsStand before → RegistrationsStand after
registrations_stay before after same stand = record {
  names = λ name put e. let was = stand.names name put (sym (same.names name) ∙ e) in (was.0, was.1, registered_same before after was.0 name was.1 put.1 same was.2);
  registrations = λ registration put number e. let was = stand.registrations registration put number (sym (same.registrations registration number) ∙ e) in (was.0, was.1, registered_same before after registration was.0 was.1 put.1 same was.2);
  patterns = λ registration node put number small e.
      let was = stand.patterns registration node put number small (sym (same.patterns registration node number small).stands ∙ e) in (was.0, was.1, registered_same before after registration was.0 was.1 put.1 same was.2);
}

-- ---- tasks and their origins

after_same : (task task' origin origin' : Option Put) → task' ≡ task → origin' ≡ origin → IsAfter task origin → IsAfter task' origin'
after_same task task' origin origin' same same' is = subst (λ t. IsAfter t origin') (sym same) (subst (IsAfter task) (sym same') is)

pub origin_stays : (before after : Rows) (task origin : Key) → SameStanding before after task → SameStanding before after origin → HasOrigin before task origin → HasOrigin after task origin
origin_stays before after task origin same same' is = record {
  stands = after_same (standing before task) (standing after task) (standing before origin) (standing after origin) same.stands same'.stands is.stands;
  was_seen = λ at some. ap is_some (same'.sees at) ∙ is.was_seen at (ap is_some (sym (same.sees at)) ∙ some);
}

-- they are written with one commit
pub origin_written : (before after : Rows) (task origin : Key) (value other : List ℕ) (commit : ℕ) → ((key : Key) (at : ℕ) → at < commit → seen after key at ≡ seen before key at) → IsWritten after task (Some value) commit →
    IsWritten after origin (Some other) commit → HasOrigin before task origin → HasOrigin after task origin
origin_written before after task origin value other commit earlier written written' is = record {
  stands = subst (λ t. IsAfter t (standing after origin)) (sym written.stands) ((other, commit), written'.stands, omega arith);
  was_seen = λ at some. by at some (nat_le commit at) refl;
}
  where
    by : (at : ℕ) → IsSome (seen after task at) → (b : Bool) → nat_le commit at ≡ b → IsSome (seen after origin at)
    by at some true e = ap is_some (written'.sees at (leb-true commit at e))
    by at some false e =
        let lt = leb-false commit at e in
        ap is_some (earlier origin at lt) ∙ is.was_seen at (ap is_some (sym (earlier task at lt)) ∙ some)

-- ---- where a registration's rows are written

-- nothing had its name or its number
pub record Registers (before after : Rows) (start : ℕ) (name : List ℕ) (tree : Tree) (commit : ℕ) : Type 0 where
  pub number : IsRegistration start
  pub of_query : IsQueryTree tree
  pub whole : StandsWhole (registration_writes start name tree) commit before after
  pub unnamed : standing before (key_of (row.Name name)) ≡ None
  pub new : standing before (key_of (row.Registration start)) ≡ None

-- what stands of a node
pub part_stands : (before after : Rows) (start : ℕ) (name : List ℕ) (tree : Tree) (commit : ℕ) (part : Part) (node : ℕ) (value : List ℕ) → Registers before after start name tree commit → IsNode node → pattern_at tree node ≡ Some value →
    IsWritten after (key_of (part_name part start node)) (part_write part start node value).value commit
part_stands before after start name tree commit part node value is small e =
    is.whole.written (key_of (part_name part start node)) (part_write part start node value)
    (part_written start name tree part node is.number is.of_query small ∙ ap (option_map (part_write part start node)) e)

pub no_part_stands : (before after : Rows) (start : ℕ) (name : List ℕ) (tree : Tree) (commit : ℕ) (part : Part) (node : ℕ) → Registers before after start name tree commit → IsNode node → pattern_at tree node ≡ None →
    SameStanding before after (key_of (part_name part start node))
no_part_stands before after start name tree commit part node is small e =
    is.whole.others (key_of (part_name part start node)) (part_written start name tree part node is.number is.of_query small ∙ ap (option_map (part_write part start node)) e)

-- a row of no other registration
other_names : (before after : Rows) (start : ℕ) (name : List ℕ) (tree : Tree) (commit : ℕ) (other : List ℕ) → Registers before after start name tree commit → name ≢ other →
    standing after (key_of (row.Name other)) ≡ standing before (key_of (row.Name other))
other_names before after start name tree commit other is differs = (is.whole.others (key_of (row.Name other)) (none_written (registration_writes start name tree) (row.Name other) tt
    (register_names (λ n. n ≢ row.Name other) start name tree is.number is.of_query (λ e. differs (cc)) (λ e. cc) (λ node e. cc) (λ node e. cc)))).stands

pub other_registrations : (before after : Rows) (start : ℕ) (name : List ℕ) (tree : Tree) (commit : ℕ) (other : ℕ) → Registers before after start name tree commit → IsRegistration other → start ≢ other →
    standing after (key_of (row.Registration other)) ≡ standing before (key_of (row.Registration other))
other_registrations before after start name tree commit other is number differs = (is.whole.others (key_of (row.Registration other)) (none_written (registration_writes start name tree) (row.Registration other) number
    (register_names (λ n. n ≢ row.Registration other) start name tree is.number is.of_query (λ e. cc) (λ e. differs (cc)) (λ node e. cc) (λ node e. cc)))).stands

pub other_parts : (before after : Rows) (start : ℕ) (name : List ℕ) (tree : Tree) (commit : ℕ) (part : Part) (other node : ℕ) → Registers before after start name tree commit → IsRegistration other → IsNode node → start ≢ other →
    SameStanding before after (key_of (part_name part other node))
other_parts before after start name tree commit as_pattern other node is number small differs = is.whole.others (key_of (row.Pattern other node)) (none_written (registration_writes start name tree) (row.Pattern other node) (number, small)
    (register_names (λ n. n ≢ row.Pattern other node) start name tree is.number is.of_query (λ e. cc) (λ e. cc) (λ m e. differs (cc)) (λ m e. cc)))
other_parts before after start name tree commit as_backfill other node is number small differs = is.whole.others (key_of (row.Task (task.Backfill other node))) (none_written (registration_writes start name tree) (row.Task (task.Backfill other node)) (number, small)
    (register_names (λ n. n ≢ row.Task (task.Backfill other node)) start name tree is.number is.of_query (λ e. cc) (λ e. cc) (λ m e. cc) (λ m e. differs (cc))))

-- the new one stands
pub new_stands : (before after : Rows) (start : ℕ) (name : List ℕ) (tree : Tree) (commit : ℕ) → Registers before after start name tree commit → RegistrationsStand before → IsRegistered after start name tree commit
new_stands before after start name tree commit is stand = record {
  number = is.number;
  of_query = is.of_query;
  named = (is.whole.written (key_of (row.Name name)) _ (name_written start name tree)).stands;
  stands = (is.whole.written (key_of (row.Registration start)) _ (own_written start name tree)).stands;
  patterns = λ node small. by node small (pattern_at tree node) refl;
}
  where
    none_before : (node : ℕ) → IsNode node → (found : Option Put) → standing before (key_of (row.Pattern start node)) ≡ found → found ≡ None
    none_before node small None e = refl
    none_before node small (Some put) e = absurd (let was = stand.patterns start node put is.number small e in let there = was.2.stands in let none = is.new in
        let clash : None ≡ Some (registration_value was.0 was.1, put.1) = sym none ∙ there in cc)

    by : (node : ℕ) → IsNode node → (found : Option (List ℕ)) → pattern_at tree node ≡ found → standing after (key_of (row.Pattern start node)) ≡ option_map (λ value. (value, commit)) (pattern_at tree node)
    by node small (Some value) e = (part_stands before after start name tree commit as_pattern node value is small e).stands ∙ ap (option_map (λ bytes. (bytes, commit))) (sym e)
    by node small None e = (no_part_stands before after start name tree commit as_pattern node is small e).stands
        ∙ none_before node small (standing before (key_of (row.Pattern start node))) refl ∙ ap (option_map (λ bytes. (bytes, commit))) (sym e)

-- and so do those that stood
pub still_stands : (before after : Rows) (start : ℕ) (name : List ℕ) (tree : Tree) (commit : ℕ) (registration : ℕ) (other : List ℕ) (its : Tree) (at : ℕ) → Registers before after start name tree commit →
    IsRegistered before registration other its at → IsRegistered after registration other its at
still_stands before after start name tree commit registration other its at is was = record {
  number = was.number;
  of_query = was.of_query;
  named = other_names before after start name tree commit other is names_differ ∙ was.named;
  stands = other_registrations before after start name tree commit registration is was.number numbers_differ ∙ was.stands;
  patterns = λ node small. (other_parts before after start name tree commit as_pattern registration node is was.number small numbers_differ).stands ∙ was.patterns node small;
}
  where
    names_differ : name ≢ other
    names_differ same = let clash : None ≡ Some (registration_part registration, at) = sym is.unnamed ∙ ap (λ n. standing before (key_of (row.Name n))) same ∙ was.named in cc

    numbers_differ : start ≢ registration
    numbers_differ same = let clash : None ≡ Some (registration_value other its, at) = sym is.new ∙ ap (λ n. standing before (key_of (row.Registration n))) same ∙ was.stands in cc

commit_is : (found : Option Put) (value : List ℕ) (commit : ℕ) (put : Put) → found ≡ Some (value, commit) → found ≡ Some put → commit ≡ put.1
commit_is found value commit put e e' = ap commit_or (sym e ∙ e')
  where
    commit_or : Option Put → ℕ
    commit_or None = 0
    commit_or (Some found) = found.1

pub registrations_join : (before after : Rows) (start : ℕ) (name : List ℕ) (tree : Tree) (commit : ℕ) → Registers before after start name tree commit → RegistrationsStand before → RegistrationsStand after
registrations_join before after start name tree commit is stand = record { names = names; registrations = registrations; patterns = patterns }
  where
    new : IsRegistered after start name tree commit
    new = new_stands before after start name tree commit is stand

    still : (registration : ℕ) (other : List ℕ) (its : Tree) (at : ℕ) → IsRegistered before registration other its at → IsRegistered after registration other its at
    still registration other its at was = still_stands before after start name tree commit registration other its at is was

    names : (other : List ℕ) (put : Put) → standing after (key_of (row.Name other)) ≡ Some put → (registration : ℕ) × (its : Tree) × IsRegistered after registration other its put.1
    names other put e = by (bytes_cases name other)
      where
        by : (name ≡ other) ⊎ (name ≢ other) → (registration : ℕ) × (its : Tree) × IsRegistered after registration other its put.1
        by (inl same) = (
          start,
          tree,
          subst (λ n. IsRegistered after start n tree put.1) same (subst (λ c. IsRegistered after start name tree c)
              (commit_is (standing after (key_of (row.Name name))) (registration_part start) commit put new.named (ap (λ n. standing after (key_of (row.Name n))) same ∙ e)) new),
        )
        by (inr differs) = let was = stand.names other put (sym (other_names before after start name tree commit other is differs) ∙ e) in (was.0, was.1, still was.0 other was.1 put.1 was.2)

    registrations : (registration : ℕ) (put : Put) → IsRegistration registration → standing after (key_of (row.Registration registration)) ≡ Some put →
        (other : List ℕ) × (its : Tree) × IsRegistered after registration other its put.1
    registrations registration put number e = by_number start registration
        (λ same. (
          name,
          tree,
          subst (λ n. IsRegistered after n name tree put.1) same (subst (λ c. IsRegistered after start name tree c)
              (commit_is (standing after (key_of (row.Registration start))) (registration_value name tree) commit put new.stands (ap (λ n. standing after (key_of (row.Registration n))) same ∙ e)) new),
        ))
        (λ differs. let was = stand.registrations registration put number (sym (other_registrations before after start name tree commit registration is number differs) ∙ e) in (was.0, was.1, still registration was.0 was.1 put.1 was.2))

    patterns : (registration node : ℕ) (put : Put) → IsRegistration registration → IsNode node → standing after (key_of (row.Pattern registration node)) ≡ Some put →
        (other : List ℕ) × (its : Tree) × IsRegistered after registration other its put.1
    patterns registration node put number small e = by_number start registration
        (λ same. (name, tree, subst (λ n. IsRegistered after n name tree put.1) same (at (pattern_at tree node) refl (ap (λ n. standing after (key_of (row.Pattern n node))) same ∙ e))))
        (λ differs. let was = stand.patterns registration node put number small (sym (other_parts before after start name tree commit as_pattern registration node is number small differs).stands ∙ e) in (was.0, was.1, still registration was.0 was.1 put.1 was.2))
      where
        at : (found : Option (List ℕ)) → pattern_at tree node ≡ found → standing after (key_of (row.Pattern start node)) ≡ Some put → IsRegistered after start name tree put.1
        at None none there = absurd (let clash : None ≡ Some put = ap (option_map (λ bytes. (bytes, commit))) (sym none) ∙ sym (new.patterns node small) ∙ there in cc)
        at (Some value) some there = subst (λ c. IsRegistered after start name tree c) (commit_is (standing after (key_of (row.Pattern start node))) value commit put (new.patterns node small ∙ ap (option_map (λ bytes. (bytes, commit))) some) there) new

-- its backfills were made for its patterns
pub backfill_joins : (before after : Rows) (start : ℕ) (name : List ℕ) (tree : Tree) (commit : ℕ) (registration node : ℕ) → Registers before after start name tree commit → IsRegistration registration → IsNode node → TasksHaveOrigins before →
    HasOrigin after (key_of (row.Task (task.Backfill registration node))) (key_of (row.Pattern registration node))
backfill_joins before after start name tree commit registration node is number small origins = by_number start registration
    (λ same. subst (λ n. HasOrigin after (key_of (row.Task (task.Backfill n node))) (key_of (row.Pattern n node))) same (at (pattern_at tree node) refl))
    (λ differs. origin_stays before after (key_of (row.Task (task.Backfill registration node))) (key_of (row.Pattern registration node))
    (other_parts before after start name tree commit as_backfill registration node is number small differs) (other_parts before after start name tree commit as_pattern registration node is number small differs)
    (origins.backfills registration node number small))
  where
    at : (found : Option (List ℕ)) → pattern_at tree node ≡ found → HasOrigin after (key_of (row.Task (task.Backfill start node))) (key_of (row.Pattern start node))
    at None none = origin_stays before after (key_of (row.Task (task.Backfill start node))) (key_of (row.Pattern start node))
        (no_part_stands before after start name tree commit as_backfill node is small none) (no_part_stands before after start name tree commit as_pattern node is small none) (origins.backfills start node is.number small)
    at (Some value) some = origin_written before after (key_of (row.Task (task.Backfill start node))) (key_of (row.Pattern start node)) [] value commit is.whole.earlier
        (part_stands before after start name tree commit as_backfill node value is small some) (part_stands before after start name tree commit as_pattern node value is small some) (origins.backfills start node is.number small)
