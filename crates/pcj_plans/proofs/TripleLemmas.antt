-- A triple's task whose plan was carried out does what a worker may do.
use Rattle.std.proofs.Common.{◌≡◌, ◌≤◌, inl, ℕ, true, List, [], ◌∷◌, Some, None, refl, ap, sym, subst, ◌∙◌}
use Rattle.std.proofs.lemmas.List.Elements.{All-nil}
use Rattle.std.specs.List.{Contains}
use Rattle.pcj_term.proofs.ListLemmas.{first_there, later_there}
use Rattle.pcj_term.specs.declared.triple.Triple.{Triple}
use Rattle.pcj_table.specs.Table.{is_between}
use Rattle.pcj_table.specs.declared.pair.Pair.{Pair}
use Rattle.pcj_table.specs.declared.write.Write.{Write}
use Rattle.pcj_encode.specs.declared.key_name.KeyName.TheVariants as row
use Rattle.pcj_encode.specs.declared.task_name.TaskName.TheVariants as named
use Rattle.pcj_encode.specs.Name.{IsTriple, key_of}
use Rattle.pcj_encode.specs.Range.{patterns, range_of}
use Rattle.pcj_algebra.specs.declared.triple_pattern.TriplePattern.{TriplePattern}
use Rattle.pcj_notify.specs.declared.answer.Answer as notify
use Rattle.pcj_notify.specs.declared.answer.Answer.TheVariants.{Got, Stepped, PlainDone}
use Rattle.pcj_notify.specs.declared.ask.Ask.TheVariants.{Get, Commit}
use Rattle.pcj_notify.specs.Plans.{beyond, finish, task_key}
use Rattle.pcj_obs_pattern.specs.Plan as plan
use Rattle.pcj_obs_pattern.specs.Rows.{IsPatternRow, cells_of}
use Rattle.pcj_obs_pattern.proofs.AskLemmas.{asks_are_one}
use Rattle.pcj_moves.specs.declared.answer.Answer.{Answer}
use Rattle.pcj_moves.specs.declared.answer.Answer.TheVariants.{OfRange, OfRow}
use Rattle.pcj_duties.specs.Added.{IsNew}
use Rattle.pcj_duties.specs.Observers.{IsObserverPlan}
use Rattle.pcj_plans.specs.Told.{HasAsked}
use Rattle.pcj_plans.proofs.AskedLemmas.{range_asked, row_asked}
use Rattle.pcj_plans.proofs.MeetLemmas.{HasMet, own_is_read, same_writes, task_of, with_match, with_own, without_match}
use Rattle.pcj_plans.proofs.ReadLemmas.{first_is_read, first_of_range, none_of_range}

-- no pattern is left
triple_is_done : (start at : ℕ) (triple : Triple) (cursor : List ℕ) (reads : List Answer) (writes : List Write) → 1 ≤ start → IsTriple triple →
    Contains reads (OfRange (beyond cursor (range_of patterns)).after (beyond cursor (range_of patterns)).end None) → writes ≡ finish (task_of (named.Triple triple) cursor at) ∷ [] →
    IsObserverPlan start (with_own (named.Triple triple) cursor reads) writes
triple_is_done start at triple cursor reads writes first valid there writes_are =
    let answers : List Answer = with_own (named.Triple triple) cursor reads in record {
      first = first;
      task = named.Triple triple;
      cursor = cursor;
      read = own_is_read (named.Triple triple) cursor reads valid;
      moved = None;
      rows = [];
      new = All-nil (IsNew answers);
      done = record {
        passed = none_of_range answers (beyond cursor (range_of patterns)) (later_there (OfRow (task_key (named.Triple triple)) (Some cursor)) reads _ there);
        next = refl;
      };
      writes_are = writes_are;
    }

-- the next pattern is met
triple_moves : (start at : ℕ) (triple : Triple) (cursor : List ℕ) (reads : List Answer) (writes : List Write) (pair : Pair) (registration node : ℕ) (of : TriplePattern) (order : List (List ℕ)) → 1 ≤ start → IsTriple triple →
    Contains reads (OfRange (beyond cursor (range_of patterns)).after (beyond cursor (range_of patterns)).end (Some pair)) → is_between (beyond cursor (range_of patterns)).after (beyond cursor (range_of patterns)).end pair.key ≡ true →
    IsPatternRow registration node of order pair.key pair.value → HasMet (with_own (named.Triple triple) cursor reads) (task_of (named.Triple triple) cursor at) pair.key registration node of order triple writes →
    IsObserverPlan start (with_own (named.Triple triple) cursor reads) writes
triple_moves start at triple cursor reads writes pair registration node of order first valid there within is_row met =
    let answers : List Answer = with_own (named.Triple triple) cursor reads in
    let range = beyond cursor (range_of patterns) in
    let held : Contains answers (OfRange range.after range.end (Some pair)) = later_there (OfRow (task_key (named.Triple triple)) (Some cursor)) reads _ there in record {
      first = first;
      task = named.Triple triple;
      cursor = cursor;
      read = own_is_read (named.Triple triple) cursor reads valid;
      moved = Some pair.key;
      rows = met.rows;
      new = met.new;
      done = record {
        passed = first_of_range answers range pair held;
        next = record {
          registration = registration;
          node = node;
          of = of;
          order = order;
          value = pair.value;
          is_row = is_row;
          read = first_is_read answers range pair (row.Pattern registration node) (is_row.number, is_row.small) is_row.key_is within held;
          meets = met.meets;
        };
      };
      writes_are = met.writes_are;
    }

-- by its answers
pub triple_is_planned : (start at : ℕ) (triple : Triple) (cursor : List ℕ) (told : List notify.Answer) (reads : List Answer) (writes : List Write) → 1 ≤ start →
    HasAsked (plan.IsPatternAsk (task_of (named.Triple triple) cursor at)) [] told reads → plan.IsPatternAsk (task_of (named.Triple triple) cursor at) told (Commit writes) →
    IsObserverPlan start (with_own (named.Triple triple) cursor reads) writes
triple_is_planned start at triple cursor [] reads writes first asked (valid, e) = absurd cc
triple_is_planned start at triple cursor (Stepped None ∷ []) reads writes first asked (valid, e) =
    let task = task_of (named.Triple triple) cursor at in
    let range = beyond cursor (range_of patterns) in
    let step = range_asked (plan.IsPatternAsk task) [] range None [] reads (λ ask is. is.1) asked in
    triple_is_done start at triple cursor reads writes first valid
    (subst (λ (rs : List Answer). Contains rs (OfRange range.after range.end None)) (sym step.1) (first_there (OfRange range.after range.end None) step.0))
    (same_writes writes (finish task ∷ []) e)
triple_is_planned start at triple cursor (Stepped None ∷ answer ∷ more) reads writes first asked (valid, none) = absurd none
triple_is_planned start at triple cursor (Stepped (Some pair) ∷ []) reads writes first asked (valid, is) =
    let task = task_of (named.Triple triple) cursor at in
    let range = beyond cursor (range_of patterns) in
    let step = range_asked (plan.IsPatternAsk task) [] range (Some pair) [] reads (λ ask is. is.1) asked in
    triple_moves start at triple cursor reads writes pair is.registration is.node is.of is.order first valid
    (subst (λ (rs : List Answer). Contains rs (OfRange range.after range.end (Some pair))) (sym step.1) (first_there (OfRange range.after range.end (Some pair)) step.0))
    step.2 is.is_row
    (without_match (with_own (named.Triple triple) cursor reads) task pair.key is.registration is.node is.of is.order triple writes is.meets)
triple_is_planned start at triple cursor (Stepped (Some pair) ∷ Got found ∷ []) reads writes first asked (valid, is) =
    let task = task_of (named.Triple triple) cursor at in
    let range = beyond cursor (range_of patterns) in
    let step = range_asked (plan.IsPatternAsk task) [] range (Some pair) (Got found ∷ []) reads (λ ask is. is.1) asked in
    let key = key_of (row.Node is.registration is.node (cells_of is.order (is.meets).0)) in
    let next = row_asked (plan.IsPatternAsk task) (Stepped (Some pair) ∷ []) key found [] step.0 (λ ask given. asks_are_one task (Stepped (Some pair) ∷ []) ask (Get key) given (
      valid,
      record {
        registration = is.registration;
        node = is.node;
        of = is.of;
        order = is.order;
        is_row = is.is_row;
        meets = inl ((is.meets).0, (is.meets).1, refl);
      },
    )) step.3 in
    let reads_are : reads ≡ OfRange range.after range.end (Some pair) ∷ OfRow key found ∷ next.0 = step.1 ∙ ap (λ (rs : List Answer). OfRange range.after range.end (Some pair) ∷ rs) next.1 in
    let answers : List Answer = with_own (named.Triple triple) cursor reads in
    triple_moves start at triple cursor reads writes pair is.registration is.node is.of is.order first valid
    (subst (λ (rs : List Answer). Contains rs (OfRange range.after range.end (Some pair))) (sym reads_are) (first_there (OfRange range.after range.end (Some pair)) (OfRow key found ∷ next.0)))
    step.2 is.is_row
    (with_match answers task pair.key is.registration is.node is.of is.order triple found writes pair.key pair.value is.is_row valid is.meets
    (later_there (OfRow (task_key (named.Triple triple)) (Some cursor)) reads (OfRow key found)
    (subst (λ (rs : List Answer). Contains rs (OfRow key found)) (sym reads_are) (later_there (OfRange range.after range.end (Some pair)) (OfRow key found ∷ next.0) (OfRow key found) (first_there (OfRow key found) next.0)))))
triple_is_planned start at triple cursor (Stepped (Some pair) ∷ Got found ∷ answer ∷ more) reads writes first asked (valid, is) = absurd is.meets
triple_is_planned start at triple cursor (Stepped (Some pair) ∷ Stepped other ∷ more) reads writes first asked (valid, is) = absurd is.meets
triple_is_planned start at triple cursor (Stepped (Some pair) ∷ PlainDone ∷ more) reads writes first asked (valid, is) = absurd is.meets
triple_is_planned start at triple cursor (Got found ∷ more) reads writes first asked (valid, none) = absurd none
triple_is_planned start at triple cursor (PlainDone ∷ more) reads writes first asked (valid, none) = absurd none
