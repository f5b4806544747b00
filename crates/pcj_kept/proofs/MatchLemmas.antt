-- Each match has its row, or a task that is still to come to it, after the commit too.
use Rattle.std.proofs.Common.{◌≡◌, ◌≢◌, ◌⊎◌, inl, inr, ◌<◌, ◌≤◌, ℕ, zero, suc, Bool, true, false, is_some, List, [], ◌∷◌, Option, Some, None, IsSome, refl, ap, sym, subst, ◌∙◌, if◌then◌else◌, arith}
use Rattle.std.proofs.lemmas.List.Elements.{All-append, All-cons, All-head, All-nil, All-tail}
use Rattle.std.proofs.lemmas.Option.{same_Some}
use Rattle.std.specs.List.{All, Contains}
use Rattle.std.specs.Option.{option_map}
use Rattle.pcj_term.proofs.ListLemmas.{first_there}
use Rattle.pcj_term.specs.declared.triple.Triple.{Triple}
use Rattle.pcj_table.specs.Table.{Key, is_before}
use Rattle.pcj_table.specs.declared.write.Write.{Write}
use Rattle.pcj_encode.proofs.Names.{names_one_row}
use Rattle.pcj_encode.specs.declared.order.Order.TheVariants.{Spo}
use Rattle.pcj_encode.specs.declared.key_name.KeyName.TheVariants as row
use Rattle.pcj_encode.specs.declared.task_name.TaskName.{TaskName}
use Rattle.pcj_encode.specs.declared.task_name.TaskName.TheVariants as task
use Rattle.pcj_encode.specs.Name.{IsName, IsNode, IsRegistration, IsTriple, key_of}
use Rattle.pcj_encode.specs.Range.{patterns, range_of}
use Rattle.pcj_rowtables.specs.Rows.{triple_key}
use Rattle.pcj_algebra.proofs.OneMatch.{matches_once}
use Rattle.pcj_algebra.specs.declared.pattern.Pattern.{Pattern}
use Rattle.pcj_algebra.specs.declared.pattern.Pattern.TheFolds.{fold-roll-Pattern}
use Rattle.pcj_algebra.specs.declared.pattern.Pattern.TheOpen as open_pattern
use Rattle.pcj_algebra.specs.declared.pattern.Pattern.TheVariants as pattern
use Rattle.pcj_algebra.specs.declared.pattern.Pattern.TheVariants.{rolls-Triple}
use Rattle.pcj_algebra.specs.declared.query.Query.{Query}
use Rattle.pcj_algebra.specs.declared.query.Shape.{Shape}
use Rattle.pcj_algebra.specs.declared.query.Shape.TheVariants.{Distinct, Group}
use Rattle.pcj_algebra.specs.declared.triple_pattern.TriplePattern.{TriplePattern}
use Rattle.pcj_algebra.specs.Variables.{names_step, pattern_names, triple_names}
use Rattle.pcj_patterns.specs.Serving.{rows_of}
use Rattle.pcj_tree.specs.declared.node.Node.{Node}
use Rattle.pcj_tree.specs.declared.node.NodeKind.{NodeKind}
use Rattle.pcj_tree.specs.declared.node.NodeKind.TheVariants as kind
use Rattle.pcj_tree.specs.declared.tree.Tree.{Tree}
use Rattle.pcj_tree.specs.Meaning.{numbered}
use Rattle.pcj_tree.specs.Order.{IsOrder}
use Rattle.pcj_tree.specs.Tree as part
use Rattle.pcj_tree.specs.Tree.{AreNodes, IsTree, other_names, size_of, top_node}
use Rattle.pcj_notify.specs.Plans.{beyond}
use Rattle.pcj_obs_pattern.specs.Rows.{cells_of, pattern_row}
use Rattle.pcj_mvcc.specs.Reading.{Put, Rows, standing}
use Rattle.pcj_moves.specs.Transactions.{write_at}
use Rattle.pcj_moves.specs.declared.answer.Answer.{Answer}
use Rattle.pcj_moves.proofs.ActorLemmas.{by_number}
use Rattle.pcj_rows.specs.Plans.{IsLoadPlan, IsRegisterPlan, absent_of, put_mark}
use Rattle.pcj_rows.specs.Reads.{HasRead}
use Rattle.pcj_rows.specs.Registrations.{IsRegistered, registration_value}
use Rattle.pcj_rows.proofs.EachLemmas.{each_of}
use Rattle.pcj_rows.proofs.PlanLemmas.{Mark, absent_all, as_task, by_order, is_among, mark_key, mark_name, mark_written, written_by}
use Rattle.pcj_rows.proofs.RegisterLemmas.{as_backfill, part_write, part_written}
use Rattle.pcj_rows.proofs.TimeLemmas.{standing_below}
use Rattle.pcj_rows.proofs.ValueLemmas.{one_commit, one_put, one_value}
use Rattle.pcj_duties.specs.Added.{Adds, NodeRow, row_name, task_name}
use Rattle.pcj_nodes.specs.Commits.{Commits}
use Rattle.pcj_kept.specs.Matches.{IsMet, IsStillBefore, Match, MatchesAreMet}
use Rattle.pcj_duties.specs.Observers.{ForBackfill, ForTriple, HasPassed, HasPurpose, IsDoneFor, IsObserverPlan, Meets, MeetsNext, MeetsNextTriple, MeetsPattern, MeetsTriple, match_row}
use Rattle.pcj_nodes.specs.Puts.{PutsStay}
use Rattle.pcj_nodes.specs.Tasks.{RowTasksHaveOrigins}
use Rattle.pcj_duties.proofs.AddedLemmas.{Writes}
use Rattle.pcj_nodes.proofs.FactLemmas.{ReadsPattern, reads_pattern, task_triple}
use Rattle.pcj_duties.proofs.PurposeLemmas.{IsOfRow, MovesTask, load_leaves, new_written, register_leaves, work_leaves, work_task}
use Rattle.pcj_nodes.proofs.PutLemmas.{order_stands}
use Rattle.pcj_kept.proofs.RangeLemmas.{cursor_goes_on, empty_is_before, pattern_between, triple_between}
use Rattle.pcj_nodes.proofs.StayLemmas.{IsNewOne, IsOwn, still_there, was_registered}
use Rattle.pcj_nodes.proofs.TreeLemmas.{pattern_row_is}
use Rattle.pcj_duties.proofs.CellLemmas.{pattern_cells}
use Rattle.pcj_nodes.proofs.ViewLemmas.{found_stands, own_stands}

-- ---- the variables of a pattern's node

-- those of a triple pattern
names_triple : (of : TriplePattern) → pattern_names (pattern.Triple of) ≡ triple_names of
names_triple of = ap pattern_names (sym (rolls-Triple of)) ∙ fold-roll-Pattern (List (List ℕ)) names_step (open_pattern.Triple of)

-- an order has no other variables
all_ordered : (all sibling order : List (List ℕ)) → IsOrder all sibling order → All (λ name. Contains all name) order
all_ordered all sibling order is = subst (All (λ name. Contains all name)) (sym is.is_order)
    (All-append (λ name. Contains all name) is.shared is.others
    (each_of (λ name. Contains all name) is.shared (λ name there. ((is.are_shared.each name).0 there).0))
    (each_of (λ name. Contains all name) is.others (λ name there. ((is.are_others.each name).0 there).0)))

-- the node of a pattern has variables of the pattern
abbrev HasNames : NodeKind → List (List ℕ) → Type 0
HasNames (kind.Pattern of) order = All (λ name. Contains (triple_names of) name) order
HasNames (kind.Join left right) order = Unit {0}
HasNames (kind.Filter child condition) order = Unit {0}
HasNames (kind.Union left right) order = Unit {0}
HasNames (kind.Project child) order = Unit {0}
HasNames (kind.Group child aggregate var) order = Unit {0}

abbrev IsNamed : Node → Type 0
IsNamed node = HasNames node.kind node.order

one_named : (node : Node) → IsNamed node → All IsNamed (node ∷ [])
one_named node is = All-cons IsNamed node [] is (All-nil IsNamed)

-- so it is of all nodes of a pattern's parts
are_named : {p : Pattern} {before parent : ℕ} {sibling : Option Pattern} {nodes : List Node} → AreNodes p before parent sibling nodes → All IsNamed nodes
are_named (part.triple {sibling = sibling} {order = order} of has) = one_named _ (subst (λ names. All (λ name. Contains names name) order) (names_triple of) (all_ordered (pattern_names (pattern.Triple of)) (other_names sibling) order has))
are_named (part.joined {lefts = lefts} {rights = rights} left right first second l r has) = All-append IsNamed lefts _ (are_named l) (All-append IsNamed rights _ (are_named r) (one_named _ tt))
are_named (part.filtered {inners = inners} condition inner first i has) = All-append IsNamed inners _ (are_named i) (one_named _ tt)
are_named (part.united {lefts = lefts} {rights = rights} left right first second l r has) = All-append IsNamed lefts _ (are_named l) (All-append IsNamed rights _ (are_named r) (one_named _ tt))

-- the last node is of no pattern
top_named : (shape : Shape) (child : ℕ) → IsNamed (top_node shape child)
top_named (Distinct names) child = tt
top_named (Group keys aggregate var as_name) child = tt

-- what holds of all holds of that with a number
numbered_holds : {X : Type 0} (P : X → Type 0) (xs : List X) (number : ℕ) (x : X) → All P xs → numbered xs number ≡ Some x → P x
numbered_holds P [] number x all e = absurd cc
numbered_holds P (y ∷ xs) zero x all e = absurd cc
numbered_holds P (y ∷ xs) (suc zero) x all e = subst P (same_Some y x e) (All-head P y xs all)
numbered_holds P (y ∷ xs) (suc (suc number)) x all e = numbered_holds P xs (suc number) x (All-tail P y xs all) e

-- so the order of a tree's pattern has no other variables than the pattern
order_is_of_pattern : (query : Query) (tree : Tree) (number : ℕ) (node : Node) (of : TriplePattern) → IsTree query tree → numbered tree.nodes number ≡ Some node → node.kind ≡ kind.Pattern of → All (λ name. Contains (triple_names of) name) node.order
order_is_of_pattern query tree number node of is at matches =
    let all : All IsNamed tree.nodes = subst (All IsNamed) (sym is.nodes) (All-append IsNamed is.parts _ (are_named is.are_parts) (one_named _ (top_named query.shape (size_of query.pattern)))) in
    subst (λ (k : NodeKind). HasNames k node.order) matches (numbered_holds IsNamed tree.nodes number node all at)

-- ---- the triple, and the registration

-- a load writes the rows of the triple and its task
record Loads (start : ℕ) (answers : List Answer) (writes : List Write) (triple : Triple) : Type 0 where
  triples : List Triple
  plan : IsLoadPlan start answers writes triples
  absent : is_among triple (absent_of triples answers) ≡ true

-- what it writes of a triple's row or task, by whether it didn't find the triple
load_marks : (start : ℕ) (answers : List Answer) (writes : List Write) (triples : List Triple) (mark : Mark) (triple : Triple) (b : Bool) → IsLoadPlan start answers writes triples → IsTriple triple → is_among triple (absent_of triples answers) ≡ b →
    write_at writes (mark_key mark triple) ≡ written_by b (mark_key mark triple)
load_marks start answers writes triples mark triple b plan valid e =
    ap (λ ws. write_at ws (mark_key mark triple)) plan.writes_are
    ∙ mark_written (absent_of triples answers) mark triple (absent_all IsTriple triples answers plan.load.valid) valid
    ∙ ap (λ c. written_by c (mark_key mark triple)) e

-- each of them has an empty value
loads_write : (start : ℕ) (answers : List Answer) (writes : List Write) (mark : Mark) (triple : Triple) → IsTriple triple → Loads start answers writes triple → Writes writes (mark_key mark triple)
loads_write start answers writes mark triple valid load = load_marks start answers writes load.triples mark triple true load.plan valid load.absent

-- it writes nothing of a triple, or all
load_or_none : (start : ℕ) (answers : List Answer) (writes : List Write) (triples : List Triple) (mark : Mark) (triple : Triple) (b : Bool) → IsLoadPlan start answers writes triples → IsTriple triple → is_among triple (absent_of triples answers) ≡ b →
    (write_at writes (mark_key mark triple) ≡ None) ⊎ Loads start answers writes triple
load_or_none start answers writes triples mark triple true plan valid e = inr (record { triples = triples; plan = plan; absent = e })
load_or_none start answers writes triples mark triple false plan valid e = inl (load_marks start answers writes triples mark triple false plan valid e)

-- the row of a triple is written by a load alone
triple_written : (start : ℕ) (answers : List Answer) (writes : List Write) (triple : Triple) → HasPurpose start answers writes → IsTriple triple → (write_at writes (triple_key Spo triple) ≡ None) ⊎ Loads start answers writes triple
triple_written start answers writes triple (inl none) valid = inl (ap (λ ws. write_at ws (triple_key Spo triple)) none)
triple_written start answers writes triple (inr (inl load)) valid = load_or_none start answers writes load.0 (by_order Spo) triple (is_among triple (absent_of load.0 answers)) load.1 valid refl
triple_written start answers writes triple (inr (inr (inl register))) valid =
    inl (register_leaves start answers writes register.0 register.1 (row.Triple Spo triple) register.2 valid (λ e. cc) (λ e. cc) (λ n e. cc) (λ n e. cc))
triple_written start answers writes triple (inr (inr (inr work))) valid = inl (work_leaves start answers writes (row.Triple Spo triple) work valid (λ r n c e. cc) (λ t e. cc))

-- a triple that stands stood before, or it is loaded
record IsLoaded (commit start : ℕ) (answers : List Answer) (writes : List Write) (triple : Triple) (at : ℕ) : Type 0 where
  load : Loads start answers writes triple
  committed : at ≡ commit

was_there : (number commit start : ℕ) (answers : List Answer) (writes : List Write) (before after : Rows) (triple : Triple) (put : Put) → Commits number commit start answers writes before after → HasPurpose start answers writes → IsTriple triple →
    standing after (triple_key Spo triple) ≡ Some put → (standing before (triple_key Spo triple) ≡ Some put) ⊎ IsLoaded commit start answers writes triple put.1
was_there number commit start answers writes before after triple put its purpose valid stands = by (triple_written start answers writes triple purpose valid)
  where
    by : (write_at writes (triple_key Spo triple) ≡ None) ⊎ Loads start answers writes triple → (standing before (triple_key Spo triple) ≡ Some put) ⊎ IsLoaded commit start answers writes triple put.1
    by (inl none) = inl (sym (its.whole.others (triple_key Spo triple) none).stands ∙ stands)
    by (inr load) = inr (record {
      load = load;
      committed = sym (one_commit (standing after (triple_key Spo triple)) [] put.0 commit put.1 (its.whole.written (triple_key Spo triple) _ (loads_write start answers writes (by_order Spo) triple valid load)).stands stands);
    })

-- no transaction is both of a load and of a registration
load_or_register : (start : ℕ) (answers : List Answer) (writes : List Write) (triple : Triple) (name : List ℕ) (tree : Tree) → IsTriple triple → Loads start answers writes triple → IsRegisterPlan start answers writes name tree → ⊥
load_or_register start answers writes triple name tree valid load plan =
    let clash : Some (put_mark (triple_key Spo triple)) ≡ None = sym (loads_write start answers writes (by_order Spo) triple valid load)
    ∙ register_leaves start answers writes name tree (row.Triple Spo triple) plan valid (λ e. cc) (λ e. cc) (λ n e. cc) (λ n e. cc) in cc

-- ---- a match of a new triple, or of a new registration

-- a triple that is loaded has its task, which begins before all patterns
loaded_is_met : (number commit start : ℕ) (answers : List Answer) (writes : List Write) (before after : Rows) (match : Match after) → Commits number commit start answers writes before after → HasPurpose start answers writes → PutsStay after →
    IsLoaded commit start answers writes match.triple match.put.1 → IsMet after match
loaded_is_met number commit start answers writes before after match its purpose puts loaded =
    by (was_registered number commit start answers writes before after match.registration match.name match.tree match.at its purpose puts match.registered)
  where
    by : IsRegistered before match.registration match.name match.tree match.at ⊎ IsNewOne commit start answers writes match.registration match.name match.tree match.at → IsMet after match
    by (inl was) =
        let below : match.at < number = standing_below number before (key_of (row.Registration match.registration)) (registration_value match.name match.tree, match.at) its.below was.stands in
        let granted = its.granted in
        let committed = loaded.committed in
        inr (inl (
          omega (arith, below, granted, committed),
          (
            ([], commit),
            (its.whole.written (key_of (row.Task (task.Triple match.triple))) _ (loads_write start answers writes as_task match.triple match.valid loaded.load)).stands,
            empty_is_before (row.Pattern match.registration match.number),
          ),
        ))
    by (inr new) = absurd (load_or_register start answers writes match.triple match.name match.tree match.valid loaded.load new.plan)

-- a pattern that is registered has its backfill, which begins before all triples
registered_is_met : (number commit start : ℕ) (answers : List Answer) (writes : List Write) (before after : Rows) (match : Match after) → Commits number commit start answers writes before after →
    standing before (triple_key Spo match.triple) ≡ Some match.put → IsNewOne commit start answers writes match.registration match.name match.tree match.at → IsMet after match
registered_is_met number commit start answers writes before after match its stood new =
    let below : match.put.1 < number = standing_below number before (triple_key Spo match.triple) match.put its.below stood in
    let granted = its.granted in
    let committed = new.committed in
    let value = (pattern_row_is match.registration match.number match.tree match.node match.of match.registered.of_query match.registered.number match.small match.is_node match.is_pattern).1 in
    inr (inr (
      omega (arith, below, granted, committed),
      (
        ([], commit),
        subst (λ r. standing after (key_of (row.Task (task.Backfill r match.number))) ≡ Some ([], commit)) new.number
            (its.whole.written (key_of (row.Task (task.Backfill start match.number))) (part_write as_backfill start match.number (pattern_row match.of match.node.order))
            (ap (λ ws. write_at ws (key_of (row.Task (task.Backfill start match.number)))) new.plan.writes_are
            ∙ part_written start match.name match.tree as_backfill match.number new.plan.number match.registered.of_query match.small
            ∙ ap (option_map (part_write as_backfill start match.number)) value)).stands,
        empty_is_before (row.Triple (rows_of match.of).0 match.triple),
      ),
    ))

-- ---- a match of before

-- the cases in which a match is met in other rows
abbrev IsMetIn : (rows other : Rows) → Match rows → Type 0
IsMetIn rows other match =
    IsSome (standing other (key_of (row.Node match.registration match.number (cells_of match.node.order match.mapping))))
    ⊎ (((match.at < match.put.1) × IsStillBefore other (task.Triple match.triple) (key_of (row.Pattern match.registration match.number)))
    ⊎ ((match.put.1 ≤ match.at) × IsStillBefore other (task.Backfill match.registration match.number) (key_of (row.Triple (rows_of match.of).0 match.triple))))

-- its row has a name
row_is_named : (rows : Rows) (match : Match rows) → IsName (row.Node match.registration match.number (cells_of match.node.order match.mapping))
row_is_named rows match =
    let query = match.registered.of_query in
    let valid = (pattern_row_is match.registration match.number match.tree match.node match.of query match.registered.number match.small match.is_node match.is_pattern).0 in
    let names = order_is_of_pattern query.query match.tree match.number match.node match.of query.is match.is_node match.is_pattern in
    (match.registered.number, match.small, (pattern_cells match.of match.node.order match.triple match.mapping match.valid valid match.matches names).0)

-- the row of its pattern stands since the registration
pattern_stands : (rows : Rows) (match : Match rows) → standing rows (key_of (row.Pattern match.registration match.number)) ≡ Some (pattern_row match.of match.node.order, match.at)
pattern_stands rows match =
    match.registered.patterns match.number match.small
    ∙ ap (option_map (λ bytes. (bytes, match.at))) (pattern_row_is match.registration match.number match.tree match.node match.of match.registered.of_query match.registered.number match.small match.is_node match.is_pattern).1

-- where a worker has met the triple with the pattern, the row of their match stands after its commit
met_stands : (number commit start : ℕ) (answers : List Answer) (writes : List Write) (before after : Rows) (match : Match before) → Commits number commit start answers writes before after → PutsStay before → PutsStay after → (work : IsObserverPlan start answers writes) →
    Meets answers match.registration match.number match.of match.node.order match.triple work.rows → IsSome (standing after (key_of (row.Node match.registration match.number (cells_of match.node.order match.mapping))))
met_stands number commit start answers writes before after match its puts puts' work (inl none) = absurd (none.0 match.mapping match.matches)
met_stands number commit start answers writes before after match its puts puts' work (inr met) =
    by (subst (λ m. Adds answers (match_row match.registration match.number match.node.order m) work.rows) (matches_once match.of match.triple met.0 match.mapping met.1 match.matches) met.2)
  where
    new : NodeRow
    new = match_row match.registration match.number match.node.order match.mapping

    key : Key
    key = key_of (row_name new)

    named : IsName (row_name new)
    named = row_is_named before match

    by : Adds answers new work.rows → IsSome (standing after key)
    by (inl found) = still_there number commit start answers writes before after key its (puts'.nodes match.registration match.number new.cells named)
        (found_stands before start answers key its.reads (puts.nodes match.registration match.number new.cells named) found.0)
    by (inr added) = ap is_some (its.whole.written key _ (new_written start answers writes new work named (subst (λ rs. Contains rs new) (sym added.1) (first_there new [])))).stands

-- ---- the pattern that was read

-- it is that of the match, which was registered before the start
record SamePattern (start at : ℕ) (of other : TriplePattern) (order names : List (List ℕ)) : Type 0 where
  of_is : of ≡ other
  order_is : order ≡ names
  since : at ≤ start

-- a number has one node, and a kind one pattern
one_node : (found : Option Node) (node other : Node) → found ≡ Some node → found ≡ Some other → node ≡ other
one_node found node other e e' = cc

one_pattern : (of_kind : NodeKind) (of other : TriplePattern) → of_kind ≡ kind.Pattern of → of_kind ≡ kind.Pattern other → of ≡ other
one_pattern of_kind of other e e' = cc

is_that_pattern : (rows : Rows) (start : ℕ) (match : Match rows) (other : TriplePattern) (names : List (List ℕ)) → ReadsPattern rows start match.registration match.number other names → SamePattern start match.at match.of other match.node.order names
is_that_pattern rows start match other names read =
    let key = key_of (row.Registration match.registration) in
    let when : match.at ≡ read.at = one_commit (standing rows key) (registration_value match.name match.tree) (registration_value read.name read.tree) match.at read.at match.registered.stands read.registered.stands in
    let one = one_value match.name read.name match.tree read.tree match.registered.of_query read.registered.of_query
    (one_put (standing rows key) (registration_value match.name match.tree) (registration_value read.name read.tree) match.at read.at match.registered.stands read.registered.stands) in
    let same : match.node ≡ read.node = one_node (numbered match.tree.nodes match.number) match.node read.node match.is_node (ap (λ (t : Tree). numbered t.nodes match.number) one.1 ∙ read.is_node) in
    record {
      of_is = one_pattern match.node.kind match.of other match.is_pattern (ap (λ (n : Node). n.kind) same ∙ read.is_pattern);
      order_is = ap (λ (n : Node). n.order) same ∙ read.its_order;
      since = let since = read.since in omega (arith, when, since);
    }

-- what was read of a task that is moved is the cursor that stands
cursor_is : (number commit start : ℕ) (answers : List Answer) (writes : List Write) (before after : Rows) (name : TaskName) (write : Write) (cursor : List ℕ) (put : Put) → Commits number commit start answers writes before after →
    write_at writes (key_of (row.Task name)) ≡ Some write → HasRead answers (row.Task name) cursor → standing before (key_of (row.Task name)) ≡ Some put → put.0 ≡ cursor
cursor_is number commit start answers writes before after name write cursor put its written read stands =
    let own = own_stands before start answers (row.Task name) cursor its.reads (its.old (key_of (row.Task name)) write written) read in
    one_put (standing before (key_of (row.Task name))) put.0 own.put.0 put.1 own.put.1 stands own.stands ∙ own.value_is

-- a task that is added is that of a row
added_is_of_row : (new : NodeRow) → IsOfRow (task_name new)
added_is_of_row new = by new.is_result
  where
    by : (b : Bool) → IsOfRow (if b then task.Export new.registration new.cells else task.Row new.registration new.node new.cells)
    by true = tt
    by false = tt

-- ---- the triple's task has still to come to the pattern

-- the task of a triple is written by a load, or by the worker that moves it
triple_task_written : (start : ℕ) (answers : List Answer) (writes : List Write) (triple : Triple) → HasPurpose start answers writes → IsTriple triple →
    (write_at writes (key_of (row.Task (task.Triple triple))) ≡ None) ⊎ (Loads start answers writes triple ⊎ MovesTask start answers writes (task.Triple triple))
triple_task_written start answers writes triple (inl none) valid = inl (ap (λ ws. write_at ws (key_of (row.Task (task.Triple triple)))) none)
triple_task_written start answers writes triple (inr (inl load)) valid = elim (load_or_none start answers writes load.0 as_task triple (is_among triple (absent_of load.0 answers)) load.1 valid refl) [
  | inl none ↦ inl none
  | inr loads ↦ inr (inl loads)
]
triple_task_written start answers writes triple (inr (inr (inl register))) valid =
    inl (register_leaves start answers writes register.0 register.1 (row.Task (task.Triple triple)) register.2 valid (λ e. cc) (λ e. cc) (λ n e. cc) (λ n e. cc))
triple_task_written start answers writes triple (inr (inr (inr work))) valid = elim (work_task start answers writes (task.Triple triple) work valid) [
  | inl none ↦ inl none
  | inr (inl moves) ↦ inr (inr moves)
  | inr (inr adds) ↦ absurd (subst IsOfRow adds.adds.is (added_is_of_row adds.adds.new))
]

-- where the worker of the triple's task goes on to the pattern, it has met it
triple_meets : (number commit start : ℕ) (answers : List Answer) (writes : List Write) (before after : Rows) (match : Match before) (rows : List NodeRow) → Commits number commit start answers writes before after → PutsStay before →
    MeetsPattern answers match.triple (key_of (row.Pattern match.registration match.number)) rows → Meets answers match.registration match.number match.of match.node.order match.triple rows
triple_meets number commit start answers writes before after match rows its puts met =
    let one : row.Pattern match.registration match.number ≡ row.Pattern met.registration met.node = names_one_row (row.Pattern match.registration match.number) (row.Pattern met.registration met.node)
    (match.registered.number, match.small) (met.is_row.number, met.is_row.small) met.is_row.key_is in
    let of_registration : met.registration ≡ match.registration = cc in
    let of_number : met.node ≡ match.number = cc in
    let read = reads_pattern number commit start answers writes before after met.registration met.node met.of met.order (key_of (row.Pattern match.registration match.number)) met.value its puts met.is_row met.read in
    let same = is_that_pattern before start match met.of met.order
    (subst (λ r. ReadsPattern before start r match.number met.of met.order) of_registration (subst (λ n. ReadsPattern before start met.registration n met.of met.order) of_number read)) in
    subst (λ r. Meets answers r match.number match.of match.node.order match.triple rows) of_registration
    (subst (λ n. Meets answers met.registration n match.of match.node.order match.triple rows) of_number
    (subst (λ o. Meets answers met.registration met.node o match.node.order match.triple rows) (sym same.of_is)
    (subst (λ names. Meets answers met.registration met.node met.of names match.triple rows) (sym same.order_is) met.meets)))

-- the triple's task moves on: it has still to come to the pattern, or it has met it
triple_moves : (number commit start : ℕ) (answers : List Answer) (writes : List Write) (before after : Rows) (match : Match before) → Commits number commit start answers writes before after → PutsStay before → PutsStay after → match.at < match.put.1 →
    IsStillBefore before (task.Triple match.triple) (key_of (row.Pattern match.registration match.number)) → MovesTask start answers writes (task.Triple match.triple) → IsMetIn before after match
triple_moves number commit start answers writes before after match its puts puts' later still moves =
    by (cursor_goes_on start before after answers (task.Triple match.triple) moves.work.cursor moves.work.moved (range_of patterns) key commit (pattern_row match.of match.node.order, match.at)
    its.base.times its.reads done.passed (pattern_between match.registration match.number match.registered.number match.small) behind (pattern_stands before match) since (its.whole.written task_key _ moves.written))
  where
    key : Key
    key = key_of (row.Pattern match.registration match.number)

    task_key : Key
    task_key = key_of (row.Task (task.Triple match.triple))

    read : HasRead answers (row.Task (task.Triple match.triple)) moves.work.cursor
    read = subst (λ n. HasRead answers (row.Task n) moves.work.cursor) moves.own moves.work.read

    done : ForTriple answers match.triple moves.work.cursor moves.work.moved moves.work.rows
    done = subst (λ n. IsDoneFor answers n moves.work.cursor moves.work.moved moves.work.rows) moves.own moves.work.done

    behind : is_before moves.work.cursor key ≡ true
    behind = subst (λ c. is_before c key ≡ true) (cursor_is number commit start answers writes before after (task.Triple match.triple) _ moves.work.cursor still.0 its moves.written read still.1) still.2

    since : match.at ≤ start
    since =
        let there = task_triple number commit start answers writes before after match.triple moves.work.cursor its puts match.valid read in
        let one : match.put.1 ≡ there.put.1 = one_commit (standing before (triple_key Spo match.triple)) match.put.0 there.put.0 match.put.1 there.put.1 match.stands there.stands in
        let le = there.since in
        omega (arith, later, one, le)

    by : (moves.work.moved ≡ Some key) ⊎ IsStillBefore after (task.Triple match.triple) key → IsMetIn before after match
    by (inl there) = inl (met_stands number commit start answers writes before after match its puts puts' moves.work
        (triple_meets number commit start answers writes before after match moves.work.rows its puts (subst (λ m. MeetsNext answers match.triple m moves.work.rows) there done.next)))
    by (inr before_it) = inr (inl (later, before_it))

-- the same, whoever commits
triple_still : (number commit start : ℕ) (answers : List Answer) (writes : List Write) (before after : Rows) (match : Match before) → Commits number commit start answers writes before after → HasPurpose start answers writes → PutsStay before → PutsStay after → match.at < match.put.1 →
    IsStillBefore before (task.Triple match.triple) (key_of (row.Pattern match.registration match.number)) → IsMetIn before after match
triple_still number commit start answers writes before after match its purpose puts puts' later still = by (triple_task_written start answers writes match.triple purpose match.valid)
  where
    key : Key
    key = key_of (row.Task (task.Triple match.triple))

    by : (write_at writes key ≡ None) ⊎ (Loads start answers writes match.triple ⊎ MovesTask start answers writes (task.Triple match.triple)) → IsMetIn before after match
    by (inl none) = inr (inl (later, (still.0, (its.whole.others key none).stands ∙ still.1, still.2)))
    by (inr (inl load)) = inr (inl (
      later,
      (
        ([], commit),
        (its.whole.written key _ (loads_write start answers writes as_task match.triple match.valid load)).stands,
        empty_is_before (row.Pattern match.registration match.number),
      ),
    ))
    by (inr (inr moves)) = triple_moves number commit start answers writes before after match its puts puts' later still moves

-- ---- the pattern's backfill has still to come to the triple

-- a backfill is written by its registration, or by the worker that moves it
backfill_written : (commit start : ℕ) (answers : List Answer) (writes : List Write) (registration node : ℕ) → HasPurpose start answers writes → IsRegistration registration → IsNode node →
    (write_at writes (key_of (row.Task (task.Backfill registration node))) ≡ None) ⊎ (IsOwn commit start answers writes registration ⊎ MovesTask start answers writes (task.Backfill registration node))
backfill_written commit start answers writes registration node (inl none) valid small = inl (ap (λ ws. write_at ws (key_of (row.Task (task.Backfill registration node)))) none)
backfill_written commit start answers writes registration node (inr (inl load)) valid small = inl (load_leaves start answers writes load.0 (row.Task (task.Backfill registration node)) load.1 (valid, small) differs)
  where
    differs : (mark : Mark) (triple : Triple) → mark_name mark triple ≢ row.Task (task.Backfill registration node)
    differs (by_order order) triple e = cc
    differs as_task triple e = cc
backfill_written commit start answers writes registration node (inr (inr (inl register))) valid small = by_number start registration
    (λ same. inr (inl (record { name = register.0; tree = register.1; plan = register.2; number = same })))
    (λ apart. inl (register_leaves start answers writes register.0 register.1 (row.Task (task.Backfill registration node)) register.2 (valid, small) (λ e. cc) (λ e. cc) (λ n e. cc) (λ n e. apart (cc))))
backfill_written commit start answers writes registration node (inr (inr (inr work))) valid small = elim (work_task start answers writes (task.Backfill registration node) work (valid, small)) [
  | inl none ↦ inl none
  | inr (inl moves) ↦ inr (inr moves)
  | inr (inr adds) ↦ absurd (subst IsOfRow adds.adds.is (added_is_of_row adds.adds.new))
]

-- where the worker of the backfill goes on to the triple, it has met it
backfill_meets : (answers : List Answer) (registration node : ℕ) (of : TriplePattern) (order : List (List ℕ)) (triple : Triple) (rows : List NodeRow) → IsTriple triple →
    MeetsTriple answers registration node of order (key_of (row.Triple (rows_of of).0 triple)) rows → Meets answers registration node of order triple rows
backfill_meets answers registration node of order triple rows valid met =
    let one : row.Triple (rows_of of).0 triple ≡ row.Triple (rows_of of).0 met.triple = names_one_row (row.Triple (rows_of of).0 triple) (row.Triple (rows_of of).0 met.triple) valid met.read.valid met.is_row in
    let same : met.triple ≡ triple = cc in
    subst (λ t. Meets answers registration node of order t rows) same met.meets

-- the backfill moves on: it has still to come to the triple, or it has met it
backfill_moves : (number commit start : ℕ) (answers : List Answer) (writes : List Write) (before after : Rows) (match : Match before) → Commits number commit start answers writes before after → PutsStay before → PutsStay after → match.put.1 ≤ match.at →
    IsStillBefore before (task.Backfill match.registration match.number) (key_of (row.Triple (rows_of match.of).0 match.triple)) → MovesTask start answers writes (task.Backfill match.registration match.number) → IsMetIn before after match
backfill_moves number commit start answers writes before after match its puts puts' first still moves =
    by (cursor_goes_on start before after answers (task.Backfill match.registration match.number) moves.work.cursor moves.work.moved (rows_of match.of).1 key commit match.put
    its.base.times its.reads passed (triple_between match.of match.triple match.mapping match.valid match.matches) behind (order_stands before (rows_of match.of).0 match.triple its.base.atomic match.valid ∙ match.stands) since
    (its.whole.written task_key _ moves.written))
  where
    key : Key
    key = key_of (row.Triple (rows_of match.of).0 match.triple)

    task_key : Key
    task_key = key_of (row.Task (task.Backfill match.registration match.number))

    read : HasRead answers (row.Task (task.Backfill match.registration match.number)) moves.work.cursor
    read = subst (λ n. HasRead answers (row.Task n) moves.work.cursor) moves.own moves.work.read

    done : ForBackfill answers match.registration match.number moves.work.cursor moves.work.moved moves.work.rows
    done = subst (λ n. IsDoneFor answers n moves.work.cursor moves.work.moved moves.work.rows) moves.own moves.work.done

    same : SamePattern start match.at match.of done.of match.node.order done.order
    same = is_that_pattern before start match done.of done.order
        (reads_pattern number commit start answers writes before after match.registration match.number done.of done.order (key_of (row.Pattern match.registration match.number)) done.value its puts done.is_row done.read)

    passed : HasPassed answers (beyond moves.work.cursor (rows_of match.of).1) moves.work.moved
    passed = subst (λ o. HasPassed answers (beyond moves.work.cursor (rows_of o).1) moves.work.moved) (sym same.of_is) done.passed

    next : MeetsNextTriple answers match.registration match.number match.of match.node.order moves.work.moved moves.work.rows
    next = subst (λ o. MeetsNextTriple answers match.registration match.number o match.node.order moves.work.moved moves.work.rows) (sym same.of_is)
        (subst (λ names. MeetsNextTriple answers match.registration match.number done.of names moves.work.moved moves.work.rows) (sym same.order_is) done.next)

    behind : is_before moves.work.cursor key ≡ true
    behind = subst (λ c. is_before c key ≡ true) (cursor_is number commit start answers writes before after (task.Backfill match.registration match.number) _ moves.work.cursor still.0 its moves.written read still.1) still.2

    since : match.put.1 ≤ start
    since = let registered = same.since in omega (arith, first, registered)

    by : (moves.work.moved ≡ Some key) ⊎ IsStillBefore after (task.Backfill match.registration match.number) key → IsMetIn before after match
    by (inl there) = inl (met_stands number commit start answers writes before after match its puts puts' moves.work
        (backfill_meets answers match.registration match.number match.of match.node.order match.triple moves.work.rows match.valid
        (subst (λ m. MeetsNextTriple answers match.registration match.number match.of match.node.order m moves.work.rows) there next)))
    by (inr before_it) = inr (inr (first, before_it))

-- the same, whoever commits
backfill_still : (number commit start : ℕ) (answers : List Answer) (writes : List Write) (before after : Rows) (match : Match before) → Commits number commit start answers writes before after → HasPurpose start answers writes → PutsStay before → PutsStay after → match.put.1 ≤ match.at →
    IsStillBefore before (task.Backfill match.registration match.number) (key_of (row.Triple (rows_of match.of).0 match.triple)) → IsMetIn before after match
backfill_still number commit start answers writes before after match its purpose puts puts' first still =
    by (backfill_written commit start answers writes match.registration match.number purpose match.registered.number match.small)
  where
    key : Key
    key = key_of (row.Task (task.Backfill match.registration match.number))

    by : (write_at writes key ≡ None) ⊎ (IsOwn commit start answers writes match.registration ⊎ MovesTask start answers writes (task.Backfill match.registration match.number)) → IsMetIn before after match
    by (inl none) = inr (inr (first, (still.0, (its.whole.others key none).stands ∙ still.1, still.2)))
    by (inr (inl own)) = absurd (
        let clash : None ≡ Some (registration_value match.name match.tree, match.at) = sym (its.fresh own.name own.tree own.plan).1 ∙ ap (λ r. standing before (key_of (row.Registration r))) own.number ∙ match.registered.stands in cc)
    by (inr (inr moves)) = backfill_moves number commit start answers writes before after match its puts puts' first still moves

-- ---- all matches

-- a match that was met before the commit is met after it
still_met : (number commit start : ℕ) (answers : List Answer) (writes : List Write) (before after : Rows) (match : Match before) → Commits number commit start answers writes before after → HasPurpose start answers writes → PutsStay before → PutsStay after → IsMet before match → IsMetIn before after match
still_met number commit start answers writes before after match its purpose puts puts' (inl stands) = inl (still_there number commit start answers writes before after _ its
    (puts'.nodes match.registration match.number (cells_of match.node.order match.mapping) (row_is_named before match)) stands)
still_met number commit start answers writes before after match its purpose puts puts' (inr (inl is)) = triple_still number commit start answers writes before after match its purpose puts puts' is.0 is.1
still_met number commit start answers writes before after match its purpose puts puts' (inr (inr is)) = backfill_still number commit start answers writes before after match its purpose puts puts' is.0 is.1

-- a match of a triple and a registration that both stood before
abbrev match_before : (before after : Rows) (match : Match after) → standing before (triple_key Spo match.triple) ≡ Some match.put → IsRegistered before match.registration match.name match.tree match.at → Match before
match_before before after match stood was = record {
  registration = match.registration;
  name = match.name;
  tree = match.tree;
  at = match.at;
  registered = was;
  number = match.number;
  small = match.small;
  node = match.node;
  is_node = match.is_node;
  of = match.of;
  is_pattern = match.is_pattern;
  triple = match.triple;
  valid = match.valid;
  put = match.put;
  stands = stood;
  mapping = match.mapping;
  matches = match.matches;
}

-- each match is of a triple that is loaded, or of a pattern that is registered, or it was one before
pub matches_stay_met : (number commit start : ℕ) (answers : List Answer) (writes : List Write) (before after : Rows) → Commits number commit start answers writes before after → HasPurpose start answers writes → PutsStay before → PutsStay after → RowTasksHaveOrigins before → MatchesAreMet before → MatchesAreMet after
matches_stay_met number commit start answers writes before after its purpose puts puts' tasks met match = by (was_there number commit start answers writes before after match.triple match.put its purpose match.valid match.stands)
  where
    stood : standing before (triple_key Spo match.triple) ≡ Some match.put → IsRegistered before match.registration match.name match.tree match.at ⊎ IsNewOne commit start answers writes match.registration match.name match.tree match.at → IsMet after match
    stood there (inl was) =
        let old = match_before before after match there was in
        still_met number commit start answers writes before after old its purpose puts puts' (met old)
    stood there (inr new) = registered_is_met number commit start answers writes before after match its there new

    by : (standing before (triple_key Spo match.triple) ≡ Some match.put) ⊎ IsLoaded commit start answers writes match.triple match.put.1 → IsMet after match
    by (inl there) = stood there (was_registered number commit start answers writes before after match.registration match.name match.tree match.at its purpose puts' match.registered)
    by (inr loaded) = loaded_is_met number commit start answers writes before after match its purpose puts' loaded
