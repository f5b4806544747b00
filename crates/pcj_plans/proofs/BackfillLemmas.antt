-- A backfill's task whose plan was carried out does what a worker may do.
use Rattle.std.proofs.Common.{◌≡◌, ◌≤◌, inl, ℕ, true, List, [], ◌∷◌, Some, None, refl, ap, sym, subst, ◌∙◌}
use Rattle.std.proofs.lemmas.List.Elements.{All-nil}
use Rattle.std.specs.List.{Contains}
use Rattle.pcj_term.proofs.ListLemmas.{first_there, later_there}
use Rattle.pcj_term.specs.declared.triple.Triple.{Triple}
use Rattle.pcj_table.specs.Table.{is_between}
use Rattle.pcj_table.specs.declared.pair.Pair.{Pair}
use Rattle.pcj_table.specs.declared.write.Write.{Write}
use Rattle.pcj_encode.specs.declared.key_name.KeyName.TheVariants as row
use Rattle.pcj_encode.specs.declared.task_name.TaskName.TheVariants as named
use Rattle.pcj_encode.specs.Name.{IsNode, IsRegistration, IsTriple, key_of}
use Rattle.pcj_algebra.specs.declared.triple_pattern.TriplePattern.{TriplePattern}
use Rattle.pcj_patterns.specs.Serving.{rows_of}
use Rattle.pcj_notify.specs.declared.answer.Answer as notify
use Rattle.pcj_notify.specs.declared.answer.Answer.TheVariants.{Got, Stepped, PlainDone}
use Rattle.pcj_notify.specs.declared.ask.Ask.{Ask}
use Rattle.pcj_notify.specs.declared.ask.Ask.TheVariants.{Get, Next, Commit}
use Rattle.pcj_notify.specs.Plans.{beyond, finish, task_key}
use Rattle.pcj_obs_pattern.specs.Plan as plan
use Rattle.pcj_obs_pattern.specs.Rows.{IsPatternRow, cells_of}
use Rattle.pcj_obs_pattern.proofs.AskLemmas.{asks_are_one}
use Rattle.pcj_moves.specs.declared.answer.Answer.{Answer}
use Rattle.pcj_moves.specs.declared.answer.Answer.TheVariants.{OfRange, OfRow}
use Rattle.pcj_rows.specs.Reads.{HasRead}
use Rattle.pcj_duties.specs.Added.{IsNew}
use Rattle.pcj_duties.specs.Observers.{IsObserverPlan}
use Rattle.pcj_plans.specs.Told.{HasAsked}
use Rattle.pcj_plans.proofs.AskedLemmas.{range_asked, row_asked}
use Rattle.pcj_plans.proofs.MeetLemmas.{HasMet, own_is_read, same_writes, task_of, with_match, with_own, without_match}
use Rattle.pcj_plans.proofs.ReadLemmas.{first_is_read, first_of_range, none_of_range, row_is_read}

-- the task's row, that of its pattern, and more
abbrev with_pattern : ℕ → ℕ → List ℕ → List ℕ → List Answer → List Answer
with_pattern registration node cursor value reads = with_own (named.Backfill registration node) cursor (OfRow (key_of (row.Pattern registration node)) (Some value) ∷ reads)

-- what was read after both is among the readings
among : (registration node : ℕ) (cursor value : List ℕ) (reads : List Answer) (answer : Answer) → Contains reads answer → Contains (with_pattern registration node cursor value reads) answer
among registration node cursor value reads answer there =
    later_there (OfRow (task_key (named.Backfill registration node)) (Some cursor)) (OfRow (key_of (row.Pattern registration node)) (Some value) ∷ reads) answer
    (later_there (OfRow (key_of (row.Pattern registration node)) (Some value)) reads answer there)

pattern_is_read : (registration node : ℕ) (cursor value : List ℕ) (reads : List Answer) → IsRegistration registration → IsNode node → HasRead (with_pattern registration node cursor value reads) (row.Pattern registration node) value
pattern_is_read registration node cursor value reads number small =
    row_is_read (with_pattern registration node cursor value reads) (row.Pattern registration node) value (number, small)
    (later_there (OfRow (task_key (named.Backfill registration node)) (Some cursor)) (OfRow (key_of (row.Pattern registration node)) (Some value) ∷ reads) (OfRow (key_of (row.Pattern registration node)) (Some value))
    (first_there (OfRow (key_of (row.Pattern registration node)) (Some value)) reads))

-- no triple is left
backfill_is_done : (start at registration node : ℕ) (cursor value : List ℕ) (of : TriplePattern) (order : List (List ℕ)) (reads : List Answer) (writes : List Write) → 1 ≤ start → IsRegistration registration → IsNode node →
    IsPatternRow registration node of order (key_of (row.Pattern registration node)) value → Contains reads (OfRange (beyond cursor (rows_of of).1).after (beyond cursor (rows_of of).1).end None) →
    writes ≡ finish (task_of (named.Backfill registration node) cursor at) ∷ [] → IsObserverPlan start (with_pattern registration node cursor value reads) writes
backfill_is_done start at registration node cursor value of order reads writes first number small is_row there writes_are =
    let answers : List Answer = with_pattern registration node cursor value reads in
    let range = beyond cursor (rows_of of).1 in record {
      first = first;
      task = named.Backfill registration node;
      cursor = cursor;
      read = own_is_read (named.Backfill registration node) cursor (OfRow (key_of (row.Pattern registration node)) (Some value) ∷ reads) (number, small);
      moved = None;
      rows = [];
      new = All-nil (IsNew answers);
      done = record {
        of = of;
        order = order;
        value = value;
        is_row = is_row;
        read = pattern_is_read registration node cursor value reads number small;
        passed = none_of_range answers range (among registration node cursor value reads (OfRange range.after range.end None) there);
        next = refl;
      };
      writes_are = writes_are;
    }

-- the next triple is met
backfill_moves : (start at registration node : ℕ) (cursor value : List ℕ) (of : TriplePattern) (order : List (List ℕ)) (reads : List Answer) (writes : List Write) (pair : Pair) (triple : Triple) → 1 ≤ start → IsRegistration registration → IsNode node →
    IsPatternRow registration node of order (key_of (row.Pattern registration node)) value →
    Contains reads (OfRange (beyond cursor (rows_of of).1).after (beyond cursor (rows_of of).1).end (Some pair)) → is_between (beyond cursor (rows_of of).1).after (beyond cursor (rows_of of).1).end pair.key ≡ true →
    IsTriple triple → pair.key ≡ key_of (row.Triple (rows_of of).0 triple) →
    HasMet (with_pattern registration node cursor value reads) (task_of (named.Backfill registration node) cursor at) pair.key registration node of order triple writes →
    IsObserverPlan start (with_pattern registration node cursor value reads) writes
backfill_moves start at registration node cursor value of order reads writes pair triple first number small is_row there within valid key_is met =
    let answers : List Answer = with_pattern registration node cursor value reads in
    let range = beyond cursor (rows_of of).1 in
    let held : Contains answers (OfRange range.after range.end (Some pair)) = among registration node cursor value reads (OfRange range.after range.end (Some pair)) there in
    let found : HasRead answers (row.Triple (rows_of of).0 triple) pair.value = first_is_read answers range pair (row.Triple (rows_of of).0 triple) valid key_is within held in record {
      first = first;
      task = named.Backfill registration node;
      cursor = cursor;
      read = own_is_read (named.Backfill registration node) cursor (OfRow (key_of (row.Pattern registration node)) (Some value) ∷ reads) (number, small);
      moved = Some pair.key;
      rows = met.rows;
      new = met.new;
      done = record {
        of = of;
        order = order;
        value = value;
        is_row = is_row;
        read = pattern_is_read registration node cursor value reads number small;
        passed = first_of_range answers range pair held;
        next = record {
          triple = triple;
          value = pair.value;
          is_row = key_is;
          read = found;
          meets = met.meets;
        };
      };
      writes_are = met.writes_are;
    }

-- the triples are asked for of the pattern that was read
one_range : (registration node at : ℕ) (cursor value : List ℕ) (is_number : IsRegistration registration) (is_node : IsNode node) (of : TriplePattern) (order : List (List ℕ)) → IsPatternRow registration node of order (key_of (row.Pattern registration node)) value →
    (ask : Ask) → plan.IsPatternAsk (task_of (named.Backfill registration node) cursor at) (Got (Some value) ∷ []) ask → ask ≡ Next (beyond cursor (rows_of of).1)
one_range registration node at cursor value number small of order is_row ask given =
    asks_are_one (task_of (named.Backfill registration node) cursor at) (Got (Some value) ∷ []) ask (Next (beyond cursor (rows_of of).1)) given (
      number,
      small,
      record {
        of = of;
        order = order;
        is_row = is_row;
        over = refl;
      },
    )

-- by the answers after that of the pattern's row
over_triples : (start at registration node : ℕ) (cursor value : List ℕ) (of : TriplePattern) (order : List (List ℕ)) (told : List notify.Answer) (reads : List Answer) (writes : List Write) → 1 ≤ start → IsRegistration registration → IsNode node →
    IsPatternRow registration node of order (key_of (row.Pattern registration node)) value →
    HasAsked (plan.IsPatternAsk (task_of (named.Backfill registration node) cursor at)) (Got (Some value) ∷ []) told reads →
    plan.IsOverTriples (task_of (named.Backfill registration node) cursor at) registration node of order told (Commit writes) →
    IsObserverPlan start (with_pattern registration node cursor value reads) writes
over_triples start at registration node cursor value of order [] reads writes first number small is_row asked e = absurd cc
over_triples start at registration node cursor value of order (Stepped None ∷ []) reads writes first number small is_row asked e =
    let task = task_of (named.Backfill registration node) cursor at in
    let range = beyond cursor (rows_of of).1 in
    let step = range_asked (plan.IsPatternAsk task) (Got (Some value) ∷ []) range None [] reads (one_range registration node at cursor value number small of order is_row) asked in
    backfill_is_done start at registration node cursor value of order reads writes first number small is_row
    (subst (λ (rs : List Answer). Contains rs (OfRange range.after range.end None)) (sym step.1) (first_there (OfRange range.after range.end None) step.0))
    (same_writes writes (finish task ∷ []) e)
over_triples start at registration node cursor value of order (Stepped None ∷ answer ∷ more) reads writes first number small is_row asked none = absurd none
over_triples start at registration node cursor value of order (Stepped (Some pair) ∷ []) reads writes first number small is_row asked is =
    let task = task_of (named.Backfill registration node) cursor at in
    let range = beyond cursor (rows_of of).1 in
    let step = range_asked (plan.IsPatternAsk task) (Got (Some value) ∷ []) range (Some pair) [] reads (one_range registration node at cursor value number small of order is_row) asked in
    backfill_moves start at registration node cursor value of order reads writes pair is.triple first number small is_row
    (subst (λ (rs : List Answer). Contains rs (OfRange range.after range.end (Some pair))) (sym step.1) (first_there (OfRange range.after range.end (Some pair)) step.0))
    step.2 is.valid is.is_row
    (without_match (with_pattern registration node cursor value reads) task pair.key registration node of order is.triple writes is.meets)
over_triples start at registration node cursor value of order (Stepped (Some pair) ∷ Got found ∷ []) reads writes first number small is_row asked is =
    let task = task_of (named.Backfill registration node) cursor at in
    let range = beyond cursor (rows_of of).1 in
    let step = range_asked (plan.IsPatternAsk task) (Got (Some value) ∷ []) range (Some pair) (Got found ∷ []) reads (one_range registration node at cursor value number small of order is_row) asked in
    let key = key_of (row.Node registration node (cells_of order (is.meets).0)) in
    let next = row_asked (plan.IsPatternAsk task) (Got (Some value) ∷ Stepped (Some pair) ∷ []) key found [] step.0
    (λ ask given. asks_are_one task (Got (Some value) ∷ Stepped (Some pair) ∷ []) ask (Get key) given (
      number,
      small,
      record {
        of = of;
        order = order;
        is_row = is_row;
        over = record { triple = is.triple; valid = is.valid; is_row = is.is_row; meets = inl ((is.meets).0, (is.meets).1, refl) };
      },
    )) step.3 in
    let reads_are : reads ≡ OfRange range.after range.end (Some pair) ∷ OfRow key found ∷ next.0 = step.1 ∙ ap (λ (rs : List Answer). OfRange range.after range.end (Some pair) ∷ rs) next.1 in
    backfill_moves start at registration node cursor value of order reads writes pair is.triple first number small is_row
    (subst (λ (rs : List Answer). Contains rs (OfRange range.after range.end (Some pair))) (sym reads_are) (first_there (OfRange range.after range.end (Some pair)) (OfRow key found ∷ next.0)))
    step.2 is.valid is.is_row
    (with_match (with_pattern registration node cursor value reads) task pair.key registration node of order is.triple found writes (key_of (row.Pattern registration node)) value is_row is.valid is.meets
    (among registration node cursor value reads (OfRow key found)
    (subst (λ (rs : List Answer). Contains rs (OfRow key found)) (sym reads_are) (later_there (OfRange range.after range.end (Some pair)) (OfRow key found ∷ next.0) (OfRow key found) (first_there (OfRow key found) next.0)))))
over_triples start at registration node cursor value of order (Stepped (Some pair) ∷ Got found ∷ answer ∷ more) reads writes first number small is_row asked is = absurd is.meets
over_triples start at registration node cursor value of order (Stepped (Some pair) ∷ Stepped other ∷ more) reads writes first number small is_row asked is = absurd is.meets
over_triples start at registration node cursor value of order (Stepped (Some pair) ∷ PlainDone ∷ more) reads writes first number small is_row asked is = absurd is.meets
over_triples start at registration node cursor value of order (Got found ∷ more) reads writes first number small is_row asked none = absurd none
over_triples start at registration node cursor value of order (PlainDone ∷ more) reads writes first number small is_row asked none = absurd none

-- by all answers
pub backfill_is_planned : (start at registration node : ℕ) (cursor : List ℕ) (told : List notify.Answer) (reads : List Answer) (writes : List Write) → 1 ≤ start →
    HasAsked (plan.IsPatternAsk (task_of (named.Backfill registration node) cursor at)) [] told reads → plan.IsPatternAsk (task_of (named.Backfill registration node) cursor at) told (Commit writes) →
    IsObserverPlan start (with_own (named.Backfill registration node) cursor reads) writes
backfill_is_planned start at registration node cursor [] reads writes first asked (number, small, e) = absurd cc
backfill_is_planned start at registration node cursor (Got None ∷ more) reads writes first asked (number, small, none) = absurd none
backfill_is_planned start at registration node cursor (Got (Some value) ∷ more) reads writes first asked (number, small, is) =
    let task = task_of (named.Backfill registration node) cursor at in
    let step = row_asked (plan.IsPatternAsk task) [] (key_of (row.Pattern registration node)) (Some value) more reads (λ ask given. given.2) asked in
    subst (λ (rs : List Answer). IsObserverPlan start (with_own (named.Backfill registration node) cursor rs) writes) (sym step.1)
    (over_triples start at registration node cursor value is.of is.order more step.0 writes first number small is.is_row step.2 is.over)
backfill_is_planned start at registration node cursor (Stepped pair ∷ more) reads writes first asked (number, small, none) = absurd none
backfill_is_planned start at registration node cursor (PlainDone ∷ more) reads writes first asked (number, small, none) = absurd none
