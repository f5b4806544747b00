-- The plans of triples' tasks and of backfills go on.
use Rattle.std.proofs.Common.{◌≡◌, ◌⊎◌, inl, inr, ℕ, true, List, [], ◌∷◌, Option, Some, None, IsSome, refl, ap, sym, subst, ◌∙◌}
use Rattle.std.specs.List.{Contains}
use Rattle.std.specs.Option.{option_map}
use Rattle.pcj_term.proofs.ListLemmas.{later_there}
use Rattle.pcj_term.specs.declared.triple.Triple.{Triple}
use Rattle.pcj_table.specs.Table.{Key, is_between}
use Rattle.pcj_table.specs.declared.pair.Pair.{Pair}
use Rattle.pcj_encode.specs.declared.key_name.KeyName.TheVariants as row
use Rattle.pcj_encode.specs.declared.key_range.KeyRange.{KeyRange}
use Rattle.pcj_encode.specs.declared.task_name.TaskName.{TaskName}
use Rattle.pcj_encode.specs.declared.task_name.TaskName.TheVariants as named
use Rattle.pcj_encode.specs.Name.{IsName, IsNode, IsRegistration, IsTask, IsTriple, key_of}
use Rattle.pcj_encode.specs.Range.{IsOfKind, patterns, range_of}
use Rattle.pcj_algebra.specs.declared.triple_pattern.TriplePattern.{TriplePattern}
use Rattle.pcj_patterns.specs.Serving.{rows_of}
use Rattle.pcj_notify.specs.declared.answer.Answer as notify
use Rattle.pcj_notify.specs.declared.answer.Answer.TheVariants.{Got, Stepped}
use Rattle.pcj_notify.specs.declared.ask.Ask.{Ask}
use Rattle.pcj_notify.specs.declared.ask.Ask.TheVariants.{Get, Next, Commit}
use Rattle.pcj_notify.specs.declared.task.Task.{Task}
use Rattle.pcj_notify.specs.Plans.{advance, beyond, finish, row_writes, task_key, unless_found}
use Rattle.pcj_obs_pattern.specs.Plan.{GoesOver, IsAskFor, Meets, MeetsRow}
use Rattle.pcj_obs_pattern.specs.Rows.{IsPatternRow, cells_of}
use Rattle.pcj_obs_pattern.proofs.AskLemmas.{asks_are_one}
use Rattle.pcj_mvcc.specs.Reading.{Put, Rows, seen}
use Rattle.pcj_moves.specs.declared.answer.Answer.{Answer}
use Rattle.pcj_moves.specs.declared.answer.Answer.TheVariants.{OfRange, OfRow}
use Rattle.pcj_moves.specs.Reads.{value_seen}
use Rattle.pcj_rows.specs.Rows.{IsDecoded}
use Rattle.pcj_plans.specs.Told.{HasAsked}
use Rattle.pcj_asks.specs.Asks.{AtWork, CursorsAreInOrder, IsInOrder, IsOfPattern}
use Rattle.pcj_asks.specs.Laws.{PatternsGoOn}
use Rattle.pcj_asks.proofs.AskLemmas.{EndsWith, Finds, GoesOn, Looks, Walks, finds_on, walks_on}
use Rattle.pcj_asks.proofs.DecisionLemmas.{match_or_none}
use Rattle.pcj_asks.proofs.DecodeLemmas.{cursor_is, seen_is_named}
use Rattle.pcj_asks.proofs.NodeLemmas.{SeesPattern, sees_pattern}
use Rattle.pcj_asks.proofs.RangeLemmas.{pattern_beyond, triple_beyond}
use Rattle.pcj_asks.proofs.ReadLemmas.{first_seen, put_seen, range_seen, row_seen, some_seen}

-- ---- a pattern meets a triple

meets : (task : Task) (next : Key) (registration node : ℕ) (of : TriplePattern) (order : List (List ℕ)) (triple : Triple) → Looks (Meets task next registration node of order triple)
meets task next registration node of order triple = record {
  begins = elim (match_or_none of triple) [
    | inl match ↦ (Get (key_of (row.Node registration node (cells_of order match.0))), inl (match.0, match.1, refl))
    | inr none ↦ (Commit (advance task next ∷ []), inr (none, refl))
  ];
  first = λ ask is. elim is [
    | inl match ↦ inl (_, match.2, λ found. (Commit (advance task next ∷ unless_found found (row_writes registration node (cells_of order match.0))), (match.0, match.1, refl)))
    | inr none ↦ inr (_, none.1)
  ];
  last = λ found ask is. (_, is.2);
}

-- ---- a triple's task

-- it meets the pattern of a row
abbrev RowAsks : Task → Triple → Pair → List notify.Answer → Ask → Type 0
RowAsks task triple pair told ask = IsTriple triple × MeetsRow task triple pair told ask

row_asks : (task : Task) (triple : Triple) (pair : Pair) (told : List notify.Answer) (registration node : ℕ) (of : TriplePattern) (order : List (List ℕ)) → IsTriple triple → IsPatternRow registration node of order pair.key pair.value →
    GoesOn (Meets task pair.key registration node of order triple) told → GoesOn (RowAsks task triple pair) told
row_asks task triple pair told registration node of order valid is_row (ask, is) = (ask, (valid, record { registration = registration; node = node; of = of; order = order; is_row = is_row; meets = is }))

row_looks : (task : Task) (triple : Triple) (pair : Pair) (registration node : ℕ) (of : TriplePattern) (order : List (List ℕ)) → IsTriple triple → IsPatternRow registration node of order pair.key pair.value → Looks (RowAsks task triple pair)
row_looks task triple pair registration node of order valid is_row = record {
  begins = row_asks task triple pair [] registration node of order valid is_row (meets task pair.key registration node of order triple).begins;
  first = first;
  last = λ found ask is. (meets task pair.key is.1.registration is.1.node is.1.of is.1.order triple).last found ask is.1.meets;
}
  where
    first : (ask : Ask) → RowAsks task triple pair [] ask → ((key : Key) × (ask ≡ Get key) × ((found : Option (List ℕ)) → GoesOn (RowAsks task triple pair) (Got found ∷ []))) ⊎ EndsWith ask
    first ask (known, is) = elim ((meets task pair.key is.registration is.node is.of is.order triple).first ask is.meets) [
      | inl got ↦ inl (got.0, got.1, λ found. row_asks task triple pair (Got found ∷ []) is.registration is.node is.of is.order known is.is_row (got.2 found))
      | inr ends ↦ inr ends
    ]

-- the pattern that a row is of which was met behind the cursor
pattern_met : (number start : ℕ) (rows : Rows) (answers : List Answer) (triple : Triple) (cursor : List ℕ) (pair : Pair) → AtWork number start rows answers → IsTriple triple → value_seen rows (task_key (named.Triple triple)) start ≡ Some cursor →
    Contains answers (OfRange (beyond cursor (range_of patterns)).after (beyond cursor (range_of patterns)).end (Some pair)) → is_between (beyond cursor (range_of patterns)).after (beyond cursor (range_of patterns)).end pair.key ≡ true →
    (registration : ℕ) × (node : ℕ) × (of : TriplePattern) × (order : List (List ℕ)) × IsPatternRow registration node of order pair.key pair.value
pattern_met number start rows answers triple cursor pair work valid own there within =
    (kind.0, kind.1, sees.has.of, sees.has.order, subst (λ k. IsPatternRow kind.0 kind.1 sees.has.of sees.has.order k pair.value) (sym key_is) sees.has.is_row)
  where
    met : value_seen rows pair.key start ≡ Some pair.value
    met = range_seen rows start answers (beyond cursor (range_of patterns)).after (beyond cursor (range_of patterns)).end pair work.reads there within

    is : IsDecoded number pair.key (rows pair.key)
    is = seen_is_named number rows pair.key start pair.value work.base.decodes met

    kind : IsOfKind patterns is.name
    kind = pattern_beyond number triple cursor is.name is.valid (cursor_is number rows (named.Triple triple) start cursor work.base.decodes valid own)
        (subst (λ k. is_between (beyond cursor (range_of patterns)).after (beyond cursor (range_of patterns)).end k ≡ true) is.is within)

    key_is : pair.key ≡ key_of (row.Pattern kind.0 kind.1)
    key_is = is.is ∙ ap key_of kind.2

    known : IsName (row.Pattern kind.0 kind.1)
    known = subst IsName kind.2 is.valid

    sees : SeesPattern rows kind.0 kind.1 pair.value
    sees = sees_pattern number start rows answers kind.0 kind.1 pair.value work known.0 known.1 (subst (λ k. value_seen rows k start ≡ Some pair.value) key_is met)

triple_walks : (number start : ℕ) (rows : Rows) (answers : List Answer) (task : Task) (triple : Triple) → AtWork number start rows answers → IsTriple triple → value_seen rows (task_key (named.Triple triple)) start ≡ Some task.cursor →
    Walks (IsAskFor (named.Triple triple) task) (beyond task.cursor (range_of patterns)) answers
triple_walks number start rows answers task triple work valid own = record {
  begins = (Next (beyond task.cursor (range_of patterns)), (valid, refl));
  first = λ ask is. is.1;
  ends = (Commit (finish task ∷ []), (valid, refl));
  last = λ ask is. (_, is.1);
  meets = λ pair there within. (let met = pattern_met number start rows answers triple task.cursor pair work valid own there within in row_looks task triple pair met.0 met.1 met.2 met.3 valid met.4);
}

-- ---- a backfill

-- it meets a triple's row
abbrev OverAsks : Task → ℕ → ℕ → List ℕ → List notify.Answer → Ask → Type 0
OverAsks task registration node value told ask = IsRegistration registration × IsNode node × GoesOver task registration node value told ask

over_asks : (task : Task) (registration node : ℕ) (value : List ℕ) (of : TriplePattern) (order : List (List ℕ)) (pair : Pair) (told : List notify.Answer) (triple : Triple) → IsRegistration registration → IsNode node →
    IsPatternRow registration node of order (key_of (row.Pattern registration node)) value → IsTriple triple → pair.key ≡ key_of (row.Triple (rows_of of).0 triple) → GoesOn (Meets task pair.key registration node of order triple) told →
    GoesOn (OverAsks task registration node value) (Stepped (Some pair) ∷ told)
over_asks task registration node value of order pair told triple known small is_row valid key_is (ask, is) =
    (ask, (known, small, record { of = of; order = order; is_row = is_row; over = record { triple = triple; valid = valid; is_row = key_is; meets = is } }))

over_looks : (task : Task) (registration node : ℕ) (value : List ℕ) (of : TriplePattern) (order : List (List ℕ)) (pair : Pair) (triple : Triple) → IsRegistration registration → IsNode node →
    IsPatternRow registration node of order (key_of (row.Pattern registration node)) value → IsTriple triple → pair.key ≡ key_of (row.Triple (rows_of of).0 triple) → Looks (λ more. OverAsks task registration node value (Stepped (Some pair) ∷ more))
over_looks task registration node value of order pair triple known small is_row valid key_is = record {
  begins = over_asks task registration node value of order pair [] triple known small is_row valid key_is (meets task pair.key registration node of order triple).begins;
  first = first;
  last = λ found ask is. (meets task pair.key registration node is.2.of is.2.order is.2.over.triple).last found ask is.2.over.meets;
}
  where
    first : (ask : Ask) → OverAsks task registration node value (Stepped (Some pair) ∷ []) ask →
        ((key : Key) × (ask ≡ Get key) × ((found : Option (List ℕ)) → GoesOn (λ more. OverAsks task registration node value (Stepped (Some pair) ∷ more)) (Got found ∷ []))) ⊎ EndsWith ask
    first ask (known, small, is) = elim ((meets task pair.key registration node is.of is.order is.over.triple).first ask is.over.meets) [
      | inl got ↦ inl (got.0, got.1, λ found. over_asks task registration node value is.of is.order pair (Got found ∷ []) is.over.triple known small is.is_row is.over.valid is.over.is_row (got.2 found))
      | inr ends ↦ inr ends
    ]

-- the triple of a row that was met behind the cursor
triple_met : (number start : ℕ) (rows : Rows) (answers : List Answer) (of : TriplePattern) (cursor : List ℕ) (pair : Pair) → AtWork number start rows answers → IsInOrder (rows_of of).0 cursor →
    Contains answers (OfRange (beyond cursor (rows_of of).1).after (beyond cursor (rows_of of).1).end (Some pair)) → is_between (beyond cursor (rows_of of).1).after (beyond cursor (rows_of of).1).end pair.key ≡ true →
    (triple : Triple) × IsTriple triple × (pair.key ≡ key_of (row.Triple (rows_of of).0 triple))
triple_met number start rows answers of cursor pair work order there within = (of_row.0, subst IsName of_row.1 is.valid, is.is ∙ ap key_of of_row.1)
  where
    is : IsDecoded number pair.key (rows pair.key)
    is = seen_is_named number rows pair.key start pair.value work.base.decodes (range_seen rows start answers (beyond cursor (rows_of of).1).after (beyond cursor (rows_of of).1).end pair work.reads there within)

    of_row : (triple : Triple) × (is.name ≡ row.Triple (rows_of of).0 triple)
    of_row = triple_beyond of cursor is.name order (subst (λ k. is_between (beyond cursor (rows_of of).1).after (beyond cursor (rows_of of).1).end k ≡ true) is.is within)

-- it goes over the triples for the pattern whose row was read
over_walks : (number start : ℕ) (rows : Rows) (answers : List Answer) (task : Task) (registration node : ℕ) (value : List ℕ) → AtWork number start rows answers → CursorsAreInOrder rows → task.name ≡ named.Backfill registration node → IsRegistration registration → IsNode node →
    value_seen rows (task_key (named.Backfill registration node)) start ≡ Some task.cursor → value_seen rows (key_of (row.Pattern registration node)) start ≡ Some value →
    (range : KeyRange) × Walks (λ more. IsAskFor (named.Backfill registration node) task (Got (Some value) ∷ more)) range answers
over_walks number start rows answers task registration node value work cursors name_is known small own read = (
  beyond task.cursor (rows_of of).1,
  record {
    begins = (Next (beyond task.cursor (rows_of of).1), begins);
    first = λ ask is. asks_are_one task (Got (Some value) ∷ []) ask (Next (beyond task.cursor (rows_of of).1)) (as_named ask is) (as_named (Next (beyond task.cursor (rows_of of).1)) begins);
    ends = (Commit (finish task ∷ []), (known, small, record { of = of; order = order; is_row = sees.has.is_row; over = refl }));
    last = λ ask is. (_, is.2.over);
    meets = λ pair there within. (let met = triple_met number start rows answers of task.cursor pair work in_order there within in over_looks task registration node value of order pair met.0 known small sees.has.is_row met.1 met.2);
  },
)
  where
    sees : SeesPattern rows registration node value
    sees = sees_pattern number start rows answers registration node value work known small read

    of : TriplePattern
    of = sees.has.of

    order : List (List ℕ)
    order = sees.has.order

    begins : IsAskFor (named.Backfill registration node) task (Got (Some value) ∷ []) (Next (beyond task.cursor (rows_of of).1))
    begins = (known, small, record { of = of; order = order; is_row = sees.has.is_row; over = refl })

    as_named : (ask : Ask) → IsAskFor (named.Backfill registration node) task (Got (Some value) ∷ []) ask → IsAskFor task.name task (Got (Some value) ∷ []) ask
    as_named ask is = subst (λ n. IsAskFor n task (Got (Some value) ∷ []) ask) (sym name_is) is

    in_order : IsInOrder (rows_of of).0 task.cursor
    in_order =
        let cursor = put_seen rows (task_key (named.Backfill registration node)) start task.cursor own in
        subst (IsInOrder (rows_of of).0) cursor.2
        (cursors registration node of order start cursor.0 sees.put (subst (IsPatternRow registration node of order (key_of (row.Pattern registration node))) (sym sees.value_is) sees.has.is_row) sees.stands cursor.1)

-- the row of its pattern is always there
pattern_there : (number start : ℕ) (rows : Rows) (answers : List Answer) (registration node : ℕ) → AtWork number start rows answers → IsRegistration registration → IsNode node →
    IsSome (seen rows (task_key (named.Backfill registration node)) start) → Contains answers (OfRow (key_of (row.Pattern registration node)) None) → ⊥
pattern_there number start rows answers registration node work known small own there =
    by (seen rows (key_of (row.Pattern registration node)) start) ((work.base.origins.backfills registration node known small).was_seen start own) (row_seen rows start answers (key_of (row.Pattern registration node)) None work.reads there)
  where
    by : (found : Option Put) → IsSome found → option_map (λ (put : Put). put.0) found ≡ None → ⊥
    by None some none = cc
    by (Some put) some none = cc

backfill_finds : (number start : ℕ) (rows : Rows) (answers : List Answer) (task : Task) (registration node : ℕ) → AtWork number start rows answers → CursorsAreInOrder rows → task.name ≡ named.Backfill registration node → IsRegistration registration → IsNode node →
    value_seen rows (task_key (named.Backfill registration node)) start ≡ Some task.cursor → Finds (IsAskFor (named.Backfill registration node) task) (key_of (row.Pattern registration node)) answers
backfill_finds number start rows answers task registration node work cursors name_is known small own = record {
  begins = (Get (key_of (row.Pattern registration node)), (known, small, refl));
  first = λ ask is. is.2;
  there = pattern_there number start rows answers registration node work known small (some_seen rows (task_key (named.Backfill registration node)) start task.cursor own);
  walks = λ value there. over_walks number start rows answers task registration node value work cursors name_is known small own (row_seen rows start answers (key_of (row.Pattern registration node)) (Some value) work.reads there);
}

-- ---- either

pub patterns_go_on : PatternsGoOn
patterns_go_on number start rows answers task told reads work cursors valid of are asked =
    by task.name refl valid of (first_seen rows start answers reads (task_key task.name) (Some task.cursor) work.reads are) asked
  where
    among : (answer : Answer) → Contains reads answer → Contains answers answer
    among answer there = subst (λ (all : List Answer). Contains all answer) (sym are) (later_there _ reads answer there)

    by : (name : TaskName) → task.name ≡ name → IsTask name → IsOfPattern name → value_seen rows (task_key name) start ≡ Some task.cursor → HasAsked (IsAskFor name task) [] told reads → GoesOn (IsAskFor name task) told
    by (named.Triple triple) is valid of own asked = walks_on (IsAskFor (named.Triple triple) task) (beyond task.cursor (range_of patterns)) answers told reads among (triple_walks number start rows answers task triple work valid own) asked
    by (named.Backfill registration node) is valid of own asked =
        finds_on (IsAskFor (named.Backfill registration node) task) (key_of (row.Pattern registration node)) answers told reads among (backfill_finds number start rows answers task registration node work cursors is valid.0 valid.1 own) asked
    by (named.Row registration node cells) is valid of own asked = absurd of
    by (named.Export registration cells) is valid of own asked = absurd of
