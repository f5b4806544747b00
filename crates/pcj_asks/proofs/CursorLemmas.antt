-- The cursors of backfills stay in the order that serves their patterns.
use Rattle.std.proofs.Common.{if◌then◌else◌, ◌≡◌, ◌≢◌, ◌⊎◌, inl, inr, ◌≤◌, ℕ, Bool, true, false, nat_le, is_some, List, [], Option, Some, None, IsSome, refl, ap, sym, subst, ◌∙◌}
use Rattle.std.proofs.lemmas.Bool.{leb-false, leb-true}
use Rattle.std.proofs.lemmas.Option.{same_Some}
use Rattle.std.specs.Option.{option_map}
use Rattle.pcj_term.specs.declared.triple.Triple.{Triple}
use Rattle.pcj_table.specs.Row.{newest, versions_up_to}
use Rattle.pcj_table.specs.Table.{Key}
use Rattle.pcj_table.specs.declared.row.Row.{Row}
use Rattle.pcj_table.specs.declared.write.Write.{Write}
use Rattle.pcj_encode.specs.declared.key_name.KeyName.TheVariants as row
use Rattle.pcj_encode.specs.declared.task_name.TaskName.TheVariants as named
use Rattle.pcj_encode.specs.Name.{IsNode, IsRegistration, key_of}
use Rattle.pcj_algebra.specs.declared.triple_pattern.TriplePattern.{TriplePattern}
use Rattle.pcj_patterns.specs.Serving.{rows_of}
use Rattle.pcj_tree.specs.declared.node.Node.{Node}
use Rattle.pcj_tree.specs.declared.node.NodeKind.TheVariants as kind
use Rattle.pcj_tree.specs.declared.tree.Tree.{Tree}
use Rattle.pcj_tree.specs.Meaning.{numbered}
use Rattle.pcj_obs_pattern.specs.Rows.{IsPatternRow}
use Rattle.pcj_mvcc.specs.Reading.{Put, Rows, committed, put_of, reading, seen, standing}
use Rattle.pcj_moves.specs.declared.answer.Answer.{Answer}
use Rattle.pcj_moves.specs.Transactions.{write_at}
use Rattle.pcj_moves.proofs.ActorLemmas.{by_number}
use Rattle.pcj_rows.specs.Registrations.{pattern_at}
use Rattle.pcj_rows.proofs.PlanLemmas.{Mark, as_task, by_order, mark_name}
use Rattle.pcj_rows.proofs.RegisterLemmas.{as_backfill, part_write, part_written}
use Rattle.pcj_duties.specs.Added.{NodeRow, task_name}
use Rattle.pcj_duties.specs.Observers.{ForBackfill, HasPurpose, IsDoneFor, MeetsNextTriple}
use Rattle.pcj_duties.proofs.PurposeLemmas.{IsOfRow, MovesTask, load_leaves, register_leaves, work_task}
use Rattle.pcj_nodes.specs.Commits.{Commits}
use Rattle.pcj_nodes.specs.Puts.{PutsStay}
use Rattle.pcj_nodes.proofs.FactLemmas.{ReadsPattern, one_tree, reads_pattern}
use Rattle.pcj_nodes.proofs.PutLemmas.{puts_stay}
use Rattle.pcj_nodes.proofs.StayLemmas.{IsOwn, remains}
use Rattle.pcj_nodes.proofs.ViewLemmas.{StandsRead, read_stands}
use Rattle.pcj_asks.specs.Asks.{CursorsAreInOrder, IsInOrder}
use Rattle.pcj_asks.specs.Laws.{CursorsStayInOrder, EmptyIsInOrder, ReadingsSayOrder}

-- ---- what was seen before the commit

some_put : (found : Option Put) → IsSome found → (put : Put) × (found ≡ Some put)
some_put None e = absurd cc
some_put (Some put) e = (put, refl)

-- a cursor that was seen before is as it was
as_before : (number commit start : ℕ) (answers : List Answer) (writes : List Write) (before after : Rows) (registration node : ℕ) (of : TriplePattern) (order : List (List ℕ)) (at : ℕ) (cursor pattern : Put) → Commits number commit start answers writes before after → PutsStay before → PutsStay after →
    CursorsAreInOrder before → IsPatternRow registration node of order (key_of (row.Pattern registration node)) pattern.0 → standing after (key_of (row.Pattern registration node)) ≡ Some pattern →
    seen before (key_of (row.Task (named.Backfill registration node))) at ≡ Some cursor → IsInOrder (rows_of of).0 cursor.0
as_before number commit start answers writes before after registration node of order at cursor pattern its puts puts' cursors is stands there =
    cursors registration node of order at cursor pattern is (stood ∙ sym (remains number commit start answers writes before after key was.0 its (puts'.patterns registration node is.number is.small) stood) ∙ stands) there
  where
    key : Key
    key = key_of (row.Pattern registration node)

    was : (put : Put) × (seen before key at ≡ Some put)
    was = some_put (seen before key at) ((its.base.origins.backfills registration node is.number is.small).was_seen at (ap is_some there))

    stood : standing before key ≡ Some was.0
    stood = puts.patterns registration node is.number is.small at was.0 was.1

-- ---- what the commit writes

-- a task that is added with its row is that of a row
added_is_of_row : (new : NodeRow) → IsOfRow (task_name new)
added_is_of_row new = by new.is_result
  where
    by : (b : Bool) → IsOfRow (if b then named.Export new.registration new.cells else named.Row new.registration new.node new.cells)
    by true = tt
    by false = tt

-- a backfill is written by its registration, or by the worker that moves it
backfill_written : (commit start : ℕ) (answers : List Answer) (writes : List Write) (registration node : ℕ) → HasPurpose start answers writes → IsRegistration registration → IsNode node →
    (write_at writes (key_of (row.Task (named.Backfill registration node))) ≡ None) ⊎ (IsOwn commit start answers writes registration ⊎ MovesTask start answers writes (named.Backfill registration node))
backfill_written commit start answers writes registration node (inl none) valid small = inl (ap (λ ws. write_at ws (key_of (row.Task (named.Backfill registration node)))) none)
backfill_written commit start answers writes registration node (inr (inl load)) valid small = inl (load_leaves start answers writes load.0 (row.Task (named.Backfill registration node)) load.1 (valid, small) differs)
  where
    differs : (mark : Mark) (triple : Triple) → mark_name mark triple ≢ row.Task (named.Backfill registration node)
    differs (by_order order) triple e = cc
    differs as_task triple e = cc
backfill_written commit start answers writes registration node (inr (inr (inl register))) valid small = by_number start registration
    (λ same. inr (inl (record { name = register.0; tree = register.1; plan = register.2; number = same })))
    (λ apart. inl (register_leaves start answers writes register.0 register.1 (row.Task (named.Backfill registration node)) register.2 (valid, small) (λ e. cc) (λ e. cc) (λ n e. cc) (λ n e. apart (cc))))
backfill_written commit start answers writes registration node (inr (inr (inr work))) valid small = elim (work_task start answers writes (named.Backfill registration node) work (valid, small)) [
  | inl none ↦ inl none
  | inr (inl moves) ↦ inr (inr moves)
  | inr (inr adds) ↦ absurd (subst IsOfRow adds.adds.is (added_is_of_row adds.adds.new))
]

-- its registration writes it with no cursor, or not
own_writes : (commit start : ℕ) (answers : List Answer) (writes : List Write) (registration node : ℕ) → IsOwn commit start answers writes registration → IsNode node →
    (write_at writes (key_of (row.Task (named.Backfill registration node))) ≡ None) ⊎ (write_at writes (key_of (row.Task (named.Backfill registration node))) ≡ Some (part_write as_backfill registration node []))
own_writes commit start answers writes registration node own small = by (pattern_at own.tree node) refl
  where
    is : write_at writes (key_of (row.Task (named.Backfill start node))) ≡ option_map (part_write as_backfill start node) (pattern_at own.tree node)
    is = ap (λ ws. write_at ws (key_of (row.Task (named.Backfill start node)))) own.plan.writes_are ∙ part_written start own.name own.tree as_backfill node own.plan.number own.plan.of_query small

    by : (found : Option (List ℕ)) → pattern_at own.tree node ≡ found →
        (write_at writes (key_of (row.Task (named.Backfill registration node))) ≡ None) ⊎ (write_at writes (key_of (row.Task (named.Backfill registration node))) ≡ Some (part_write as_backfill registration node []))
    by None e = inl (subst (λ r. write_at writes (key_of (row.Task (named.Backfill r node))) ≡ None) own.number (is ∙ ap (option_map (part_write as_backfill start node)) e))
    by (Some value) e = inr (subst (λ r. write_at writes (key_of (row.Task (named.Backfill r node))) ≡ Some (part_write as_backfill r node [])) own.number (is ∙ ap (option_map (part_write as_backfill start node)) e))

-- ---- where a worker moves it on

one_kind : (found : Option Node) (node other : Node) (of its : TriplePattern) → found ≡ Some node → found ≡ Some other → node.kind ≡ kind.Pattern of → other.kind ≡ kind.Pattern its → of ≡ its
one_kind found node other of its e e' is is' = let same : kind.Pattern of ≡ kind.Pattern its = sym is ∙ ap (λ (n : Node). n.kind) (same_Some node other (sym e ∙ e')) ∙ is' in cc

-- the pattern that it has read is the one that stands
same_pattern : (number commit start : ℕ) (answers : List Answer) (writes : List Write) (before after : Rows) (registration node : ℕ) (of : TriplePattern) (order : List (List ℕ)) (cursor : List ℕ) (moved : Option Key) (pattern : Put) (rows : List NodeRow) → Commits number commit start answers writes before after → PutsStay before → PutsStay after →
    IsPatternRow registration node of order (key_of (row.Pattern registration node)) pattern.0 → standing after (key_of (row.Pattern registration node)) ≡ Some pattern → (done : ForBackfill answers registration node cursor moved rows) → done.of ≡ of
same_pattern number commit start answers writes before after registration node of order cursor moved pattern rows its puts puts' is stands done =
    one_kind (numbered standing_one.tree.nodes node) read_one.node standing_one.node done.of of (subst (λ (t : Tree). numbered t.nodes node ≡ Some read_one.node) trees read_one.is_node) standing_one.is_node read_one.is_pattern standing_one.is_pattern
  where
    key : Key
    key = key_of (row.Pattern registration node)

    there : StandsRead before start key done.value
    there = read_stands before start answers (row.Pattern registration node) done.value its.reads (puts.patterns registration node is.number is.small) done.read

    one : there.put ≡ pattern
    one = same_Some there.put pattern (sym (remains number commit start answers writes before after key there.put its (puts'.patterns registration node is.number is.small) there.stands) ∙ stands)

    value_is : pattern.0 ≡ done.value
    value_is = ap (λ (p : Put). p.0) (sym one) ∙ there.value_is

    read_one : ReadsPattern before start registration node done.of done.order
    read_one = reads_pattern number commit start answers writes before after registration node done.of done.order key done.value its puts done.is_row done.read

    standing_one : ReadsPattern before start registration node of order
    standing_one = reads_pattern number commit start answers writes before after registration node of order key done.value its puts (subst (IsPatternRow registration node of order key) value_is is) done.read

    trees : read_one.tree ≡ standing_one.tree
    trees = one_tree before registration read_one.name standing_one.name read_one.tree standing_one.tree read_one.at standing_one.at read_one.registered standing_one.registered

-- so it goes on in its order
moves_on : (number commit start : ℕ) (answers : List Answer) (writes : List Write) (before after : Rows) (registration node : ℕ) (of : TriplePattern) (order : List (List ℕ)) (at : ℕ) (cursor pattern : Put) → Commits number commit start answers writes before after → PutsStay before → PutsStay after →
    IsPatternRow registration node of order (key_of (row.Pattern registration node)) pattern.0 → standing after (key_of (row.Pattern registration node)) ≡ Some pattern → (own : MovesTask start answers writes (named.Backfill registration node)) →
    commit ≤ at → seen after (key_of (row.Task (named.Backfill registration node))) at ≡ Some cursor → IsInOrder (rows_of of).0 cursor.0
moves_on number commit start answers writes before after registration node of order at cursor pattern its puts puts' is stands own later there =
    by own.work.moved (sym ((its.whole.written (key_of (row.Task (named.Backfill registration node))) _ own.written).sees at later) ∙ there) done.next
  where
    done : ForBackfill answers registration node own.work.cursor own.work.moved own.work.rows
    done = subst (λ n. IsDoneFor answers n own.work.cursor own.work.moved own.work.rows) own.own own.work.done

    of_is : done.of ≡ of
    of_is = same_pattern number commit start answers writes before after registration node of order own.work.cursor own.work.moved pattern own.work.rows its puts puts' is stands done

    by : (moved : Option Key) → option_map {T = List ℕ} {U = Put} (λ bytes. (bytes, commit)) moved ≡ Some cursor → MeetsNextTriple answers registration node done.of done.order moved own.work.rows → IsInOrder (rows_of of).0 cursor.0
    by None e met = absurd cc
    by (Some place) e met =
        subst (λ (x : TriplePattern). IsInOrder (rows_of x).0 cursor.0) of_is (inr (met.triple, met.read.valid, ap (λ (p : Put). p.0) (sym (same_Some (place, commit) cursor e)) ∙ met.is_row))

-- ---- all cursors

pub cursors_stay_in_order : CursorsStayInOrder
cursors_stay_in_order number commit start answers writes before after its purpose puts cursors registration node of order at cursor pattern is stands there = by (nat_le commit at) refl
  where
    key : Key
    key = key_of (row.Task (named.Backfill registration node))

    puts' : PutsStay after
    puts' = puts_stay number commit start answers writes before after its purpose puts

    was : seen before key at ≡ Some cursor → IsInOrder (rows_of of).0 cursor.0
    was seen_then = as_before number commit start answers writes before after registration node of order at cursor pattern its puts puts' cursors is stands seen_then

    unwritten : write_at writes key ≡ None → IsInOrder (rows_of of).0 cursor.0
    unwritten none = was (sym ((its.whole.others key none).sees at) ∙ there)

    begun : commit ≤ at → write_at writes key ≡ Some (part_write as_backfill registration node []) → IsInOrder (rows_of of).0 cursor.0
    begun later writes_it = inl (ap (λ (p : Put). p.0) (same_Some cursor ([], commit) (sym there ∙ (its.whole.written key _ writes_it).sees at later)))

    by : (b : Bool) → nat_le commit at ≡ b → IsInOrder (rows_of of).0 cursor.0
    by false e = was (sym (its.whole.earlier key at (leb-false commit at e)) ∙ there)
    by true e = elim (backfill_written commit start answers writes registration node purpose is.number is.small) [
      | inl none ↦ unwritten none
      | inr (inl own) ↦ elim (own_writes commit start answers writes registration node own is.small) [ inl none ↦ unwritten none | inr writes_it ↦ begun (leb-true commit at e) writes_it ]
      | inr (inr moves) ↦ moves_on number commit start answers writes before after registration node of order at cursor pattern its puts puts' is stands moves (leb-true commit at e) there
    ]

-- ---- other moves, and rows that have nothing

pub readings_say_order : ReadingsSayOrder
readings_say_order before after same cursors registration node of order at cursor pattern is stands there =
    cursors registration node of order at cursor pattern is
    (ap (λ read. put_of (newest (read (key_of (row.Pattern registration node))))) (sym same) ∙ stands)
    (ap (λ read. put_of (newest (versions_up_to at (read (key_of (row.Task (named.Backfill registration node))))))) (sym same) ∙ there)

pub empty_is_in_order : EmptyIsInOrder
empty_is_in_order rows empty registration node of order at cursor pattern is stands there =
    absurd (let clash : None ≡ Some pattern = sym (ap (λ (r : Row). put_of (newest (reading (committed rows) r.lock r.versions))) (empty (row.Pattern registration node) (is.number, is.small) (λ e. cc))) ∙ stands in cc)
