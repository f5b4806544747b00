-- The exported lines stay true, and each result keeps one, or the task that exports it.
use Rattle.std.proofs.Common.{◌≡◌, ◌⊎◌, inl, inr, ◌<◌, ◌≤◌, ℕ, Bool, true, false, cond, not, ◌==◌, is_some, length, List, [], ◌∷◌, Option, Some, None, IfSome, IsSome, refl, ap, sym, subst, ◌∙◌, arith, if◌then◌else◌}
use Rattle.std.proofs.lemmas.Bool.{eqb-false}
use Rattle.pcj_term.proofs.ByteLemmas.{same_bytes_are}
use Rattle.pcj_term.specs.Order.{same_bytes}
use Rattle.pcj_table.specs.Row.{newest, updated}
use Rattle.pcj_table.specs.Table.{Key}
use Rattle.pcj_table.specs.declared.plain.Plain.{Plain}
use Rattle.pcj_table.specs.declared.update.Update.TheVariants.{SetPlain}
use Rattle.pcj_table.specs.declared.version.Version.{Version}
use Rattle.pcj_table.specs.declared.write.Write.{Write}
use Rattle.pcj_encode.proofs.Names.{names_one_row}
use Rattle.pcj_encode.specs.declared.key_name.KeyName.TheVariants as row
use Rattle.pcj_encode.specs.declared.task_name.TaskName.TheVariants as task
use Rattle.pcj_encode.specs.Name.{IsName, key_of}
use Rattle.pcj_tree.specs.declared.tree.Tree.{Tree}
use Rattle.pcj_mvcc.proofs.Laws.{plain_keeps}
use Rattle.pcj_mvcc.specs.Reading.{Put, Rows, put, put_of, seen, standing, versions_read}
use Rattle.pcj_moves.specs.Reads.{Reads}
use Rattle.pcj_moves.specs.Transactions.{write_at}
use Rattle.pcj_moves.specs.declared.answer.Answer.{Answer}
use Rattle.pcj_rows.specs.Plans.{put_mark}
use Rattle.pcj_rows.specs.Reads.{HasRead}
use Rattle.pcj_rows.specs.Registrations.{IsRegistered, registration_value}
use Rattle.pcj_rows.specs.Workers.{IsExport}
use Rattle.pcj_rows.proofs.TimeLemmas.{standing_passes}
use Rattle.pcj_duties.specs.Added.{NodeRow, task_name}
use Rattle.pcj_nodes.specs.Commits.{Base, Commits, HasWritten, IsPlainFrom}
use Rattle.pcj_kept.specs.Exports.{ExportsAreTrue, IsExported, IsTold, Result}
use Rattle.pcj_nodes.specs.Nodes.{IsNodeRow, NodeRowsAreTrue}
use Rattle.pcj_duties.specs.Observers.{HasPurpose, IsDoneFor}
use Rattle.pcj_nodes.specs.Puts.{PutsStay}
use Rattle.pcj_nodes.specs.Tasks.{IsExportTask, RowTasksHaveOrigins}
use Rattle.pcj_kept.proofs.AlikeLemmas.{exported_alike, result_alike}
use Rattle.pcj_nodes.proofs.FactLemmas.{StandsSince, one_tree, read_is_seen, seen_since}
use Rattle.pcj_duties.proofs.PurposeLemmas.{AddsNode, AddsTaskOf, MovesTask, new_task_written, node_written, row_task_written}
use Rattle.pcj_nodes.proofs.StayLemmas.{IsNewOne, registered_stays, seen_still, was_registered}
use Rattle.pcj_nodes.proofs.TaskLemmas.{HasPlace, IsPlace, last_named, new_place}

-- ---- commits

-- a line is still that of a row which was seen then
line_stays : (number commit start : ℕ) (answers : List Answer) (writes : List Write) (before after : Rows) (registration : ℕ) (cells : List (List ℕ)) (plain : Plain) → Commits number commit start answers writes before after → PutsStay before → PutsStay after → IsName (row.Export registration cells) →
    IsExported before registration cells plain → IsExported after registration cells plain
line_stays number commit start answers writes before after registration cells plain its puts puts' named is =
    let last = last_named before registration is.name is.tree is.at cells is.registered named in
    record {
      line_is = is.line_is;
      name = is.name;
      tree = is.tree;
      at = is.at;
      registered = registered_stays number commit start answers writes before after registration is.name is.tree is.at its puts' is.registered;
      was_seen = seen_still number commit start answers writes before after (key_of (row.Node registration (length is.tree.nodes) cells)) plain.seq its
          (puts.nodes registration (length is.tree.nodes) cells last) (puts'.nodes registration (length is.tree.nodes) cells last) is.was_seen;
    }

-- a result that is added has its task
added_is_told : (number commit start : ℕ) (answers : List Answer) (writes : List Write) (before after : Rows) (result : Result after) → Commits number commit start answers writes before after →
    (adds : AddsNode start answers writes result.registration (length result.tree.nodes) result.cells) → HasPlace after adds.adds.new → IsTold after result
added_is_told number commit start answers writes before after result its adds place = by new.is_result refl place.place
  where
    new : NodeRow
    new = adds.adds.new

    registration_is : new.registration ≡ result.registration
    registration_is = let is = adds.adds.is in cc

    node_is : new.node ≡ length result.tree.nodes
    node_is = let is = adds.adds.is in cc

    cells_are : new.cells ≡ result.cells
    cells_are = let is = adds.adds.is in cc

    same_tree : place.tree ≡ result.tree
    same_tree = one_tree after result.registration place.name result.name place.tree result.tree place.at result.at (subst (λ r. IsRegistered after r place.name place.tree place.at) registration_is place.registered) result.registered

    task_is : new.is_result ≡ true → task_name new ≡ task.Export result.registration result.cells
    task_is e = ap (λ b. if b then task.Export new.registration new.cells else task.Row new.registration new.node new.cells) e
        ∙ ap (λ r. task.Export r new.cells) registration_is ∙ ap (task.Export result.registration) cells_are

    by : (b : Bool) → new.is_result ≡ b → IsPlace new.is_result new.node (length place.tree.nodes) → IsTold after result
    by true e at = inl (ap is_some (its.whole.written (key_of (row.Task (task.Export result.registration result.cells))) _
        (subst (λ t. write_at writes (key_of (row.Task t)) ≡ Some (put_mark (key_of (row.Task t)))) (task_is e) (new_task_written start answers writes new adds.work adds.adds.is_new.named adds.adds.held))).stands)
    by false e at = absurd (
        let less : new.node < length place.tree.nodes = subst (λ c. IsPlace c new.node (length place.tree.nodes)) e at in
        let long = ap (λ (t : Tree). length t.nodes) same_tree in
        omega (arith, less, node_is, long))

-- a result whose task is done has its line
ended_is_told : (number commit start : ℕ) (answers : List Answer) (writes : List Write) (before after : Rows) (result : Result before) → Commits number commit start answers writes before after → HasWritten start writes before → PutsStay before → RowTasksHaveOrigins before →
    (own : MovesTask start answers writes (task.Export result.registration result.cells)) → own.work.moved ≡ None → HasRead answers (row.Task (task.Export result.registration result.cells)) own.work.cursor →
    (plain : Plain) × ((before (key_of (row.Export result.registration result.cells))).plain ≡ Some plain) × (result.put.1 < plain.seq)
ended_is_told number commit start answers writes before after result its written puts tasks own done read = by (before (key_of (row.Export result.registration result.cells))).plain refl there
  where
    named : IsName (row.Export result.registration result.cells)
    named = (result.named.0, result.named.2)

    there : IsPlainFrom start (before (key_of (row.Export result.registration result.cells))).plain
    there = written result.registration result.cells named (own.written ∙ ap (λ m. Some (record { key = key_of (row.Task (task.Export result.registration result.cells)); value = m })) done)

    seen_then : IsSome (seen before (key_of (row.Task (task.Export result.registration result.cells))) start)
    seen_then = read_is_seen start before answers (row.Task (task.Export result.registration result.cells)) own.work.cursor its.reads read

    made : IsExportTask before result.registration result.cells
    made = tasks.of_exports result.registration result.cells start named seen_then

    row_then : IsSome (seen before (key_of (row.Node result.registration (length result.tree.nodes) result.cells)) start)
    row_then = subst (λ (t : Tree). IsSome (seen before (key_of (row.Node result.registration (length t.nodes) result.cells)) start))
        (one_tree before result.registration made.name result.name made.tree result.tree made.at result.at made.registered result.registered) (made.origin.was_seen start seen_then)

    since : StandsSince before start (key_of (row.Node result.registration (length result.tree.nodes) result.cells))
    since = seen_since before start (key_of (row.Node result.registration (length result.tree.nodes) result.cells)) (puts.nodes result.registration (length result.tree.nodes) result.cells result.named) row_then

    one : (found : Option Put) (a b : Put) → found ≡ Some a → found ≡ Some b → a.1 ≡ b.1
    one found a b e e' = let same : a ≡ b = cc in ap (λ (p : Put). p.1) same

    lower : result.put.1 ≤ start
    lower = let le = since.since in let same = one (standing before (key_of (row.Node result.registration (length result.tree.nodes) result.cells))) since.put result.put since.stands result.stands in omega (arith, le, same)

    apart : (result.put.1 == start) ≡ false
    apart = unnot (result.put.1 == start) (standing_passes (λ c. not (c == start)) before (key_of (row.Node result.registration (length result.tree.nodes) result.cells)) result.put its.apart result.stands)
      where
        unnot : (b : Bool) → not b ≡ true → b ≡ false
        unnot true e = absurd cc
        unnot false e = refl

    by : (found : Option Plain) → (before (key_of (row.Export result.registration result.cells))).plain ≡ found → IsPlainFrom start (before (key_of (row.Export result.registration result.cells))).plain →
        (plain : Plain) × ((before (key_of (row.Export result.registration result.cells))).plain ≡ Some plain) × (result.put.1 < plain.seq)
    by None e from = absurd (subst (IsPlainFrom start) e from)
    by (Some plain) e from = (plain, e, (let le : start ≤ plain.seq = subst (IsPlainFrom start) e from in let differs = eqb-false result.put.1 start apart in omega (arith, lower, le, differs)))

pub exports_stay_true : (number commit start : ℕ) (answers : List Answer) (writes : List Write) (before after : Rows) → Commits number commit start answers writes before after → HasPurpose start answers writes → HasWritten start writes before → PutsStay before → PutsStay after → RowTasksHaveOrigins before →
    NodeRowsAreTrue before → ExportsAreTrue before → ExportsAreTrue after
exports_stay_true number commit start answers writes before after its purpose written puts puts' tasks true_rows exports = record {
  lines = λ registration cells plain named is.
      line_stays number commit start answers writes before after registration cells plain its puts puts' named (exports.lines registration cells plain named (sym (its.plains (key_of (row.Export registration cells))) ∙ is));
  results = λ result. by result (node_written start answers writes result.registration (length result.tree.nodes) result.cells purpose result.named);
}
  where
    told : (result : Result after) (old : Result before) → old.registration ≡ result.registration → old.cells ≡ result.cells → old.put ≡ result.put → IsTold before old → (own : (write_at writes (key_of (row.Task (task.Export old.registration old.cells))) ≡ None) ⊎
        (MovesTask start answers writes (task.Export old.registration old.cells) ⊎ AddsTaskOf start answers writes (task.Export old.registration old.cells))) → IsTold after result
    told result old same same' same'' was own = by_task own was
      where
        line : (plain : Plain) × ((before (key_of (row.Export old.registration old.cells))).plain ≡ Some plain) × (old.put.1 < plain.seq) → IsTold after result
        line is = inr (
          is.0,
          its.plains (key_of (row.Export result.registration result.cells)) ∙ ap (λ r. (before (key_of (row.Export r result.cells))).plain) (sym same) ∙ ap (λ c. (before (key_of (row.Export old.registration c))).plain) (sym same') ∙ is.1,
          subst (λ (p : Put). p.1 < is.0.seq) same'' is.2,
        )

        left : IsSome (standing after (key_of (row.Task (task.Export old.registration old.cells)))) → IsTold after result
        left some = inl (subst (λ c. IsSome (standing after (key_of (row.Task (task.Export result.registration c))))) same' (subst (λ r. IsSome (standing after (key_of (row.Task (task.Export r old.cells))))) same some))

        by_task : (write_at writes (key_of (row.Task (task.Export old.registration old.cells))) ≡ None) ⊎
            (MovesTask start answers writes (task.Export old.registration old.cells) ⊎ AddsTaskOf start answers writes (task.Export old.registration old.cells)) → IsTold before old → IsTold after result
        by_task own (inr is) = line is
        by_task (inl none) (inl some) = left (ap is_some (its.whole.others (key_of (row.Task (task.Export old.registration old.cells))) none).stands ∙ some)
        by_task (inr (inl own)) (inl some) = line (ended_is_told number commit start answers writes before after old its written puts tasks own
            (subst (λ n. IsDoneFor answers n own.work.cursor own.work.moved own.work.rows) own.own own.work.done).0 (subst (λ n. HasRead answers (row.Task n) own.work.cursor) own.own own.work.read))
        by_task (inr (inr adds)) (inl some) = left (ap is_some (its.whole.written (key_of (row.Task (task.Export old.registration old.cells))) _ adds.written).stands)

    stood : (result : Result after) → standing before (key_of (row.Node result.registration (length result.tree.nodes) result.cells)) ≡ Some result.put →
        IsRegistered before result.registration result.name result.tree result.at ⊎ IsNewOne commit start answers writes result.registration result.name result.tree result.at → IsTold after result
    stood result stands (inl registered) =
        let old : Result before = record { registration = result.registration; name = result.name; tree = result.tree; at = result.at; registered = registered; cells = result.cells; named = result.named; put = result.put; stands = stands } in
        told result old refl refl refl (exports.results old) (row_task_written start answers writes (task.Export result.registration result.cells) purpose (result.named.0, result.named.2) tt)
    stood result stands (inr new) = absurd (
        let is : IsNodeRow before result.registration (length result.tree.nodes) result.cells result.put.1 = true_rows result.registration (length result.tree.nodes) result.cells result.put result.named stands in
        let clash : None ≡ Some (registration_value is.name is.tree, is.at) = sym (its.fresh result.name result.tree new.plan).1 ∙ ap (λ r. standing before (key_of (row.Registration r))) new.number ∙ is.registered.stands in
        cc)

    by : (result : Result after) → (write_at writes (key_of (row.Node result.registration (length result.tree.nodes) result.cells)) ≡ None) ⊎ AddsNode start answers writes result.registration (length result.tree.nodes) result.cells → IsTold after result
    by result (inl none) = stood result (sym (its.whole.others (key_of (row.Node result.registration (length result.tree.nodes) result.cells)) none).stands ∙ result.stands)
        (was_registered number commit start answers writes before after result.registration result.name result.tree result.at its purpose puts' result.registered)
    by result (inr adds) = added_is_told number commit start answers writes before after result its adds (new_place number commit start answers writes before after adds.adds.new its puts puts' tasks true_rows adds.work adds.adds.held)

-- ---- exported lines

pub lines_stay_true : (number start : ℕ) (answers : List Answer) (rows : Rows) (key : Key) (plain : Plain) → Base number rows → Reads rows start answers → IsExport start answers (rows key).plain key plain → PutsStay rows → RowTasksHaveOrigins rows → ExportsAreTrue rows →
    ExportsAreTrue (put rows key (updated (rows key) (SetPlain plain)))
lines_stay_true number start answers rows key plain base reads is puts tasks exports = record {
  lines = λ registration cells found named there. exported_alike rows after registration cells found same (lines registration cells found named there (same_bytes (key_of (row.Export registration cells)) key) refl);
  results = λ result. results result (exports.results (result_alike rows after same result)) (same_bytes (key_of (row.Export result.registration result.cells)) key) refl;
}
  where
    after : Rows
    after = put rows key (updated (rows key) (SetPlain plain))

    same : versions_read after ≡ versions_read rows
    same = λ i. λ other. plain_keeps rows key (record { conds = []; updates = SetPlain plain ∷ [] }) plain refl other i

    here : (other : Key) (b : Bool) → same_bytes other key ≡ b → (after other).plain ≡ (cond b (updated (rows key) (SetPlain plain)) (rows other)).plain
    here other b e = ap (λ c. (cond c (updated (rows key) (SetPlain plain)) (rows other)).plain) e

    seen_then : IsSome (seen rows (key_of (row.Task (task.Export is.registration is.cells))) start)
    seen_then = read_is_seen start rows answers (row.Task (task.Export is.registration is.cells)) is.cursor reads is.read

    made : IsExportTask rows is.registration is.cells
    made = tasks.of_exports is.registration is.cells start is.read.valid seen_then

    own_line : IsExported rows is.registration is.cells plain
    own_line = record {
      line_is = is.line_is;
      name = made.name;
      tree = made.tree;
      at = made.at;
      registered = made.registered;
      was_seen = subst (λ n. IsSome (seen rows (key_of (row.Node is.registration (length made.tree.nodes) is.cells)) n)) (sym is.number_is) (made.origin.was_seen start seen_then);
    }

    lines : (registration : ℕ) (cells : List (List ℕ)) (found : Plain) → IsName (row.Export registration cells) → (after (key_of (row.Export registration cells))).plain ≡ Some found → (b : Bool) → same_bytes (key_of (row.Export registration cells)) key ≡ b →
        IsExported rows registration cells found
    lines registration cells found named there false e = exports.lines registration cells found named (sym (here (key_of (row.Export registration cells)) false e) ∙ there)
    lines registration cells found named there true e =
        let name_is : row.Export is.registration is.cells ≡ row.Export registration cells = names_one_row (row.Export is.registration is.cells) (row.Export registration cells) is.read.valid named (sym is.row_is ∙ sym (same_bytes_are _ _ e)) in
        let numbers : is.registration ≡ registration = cc in
        let cells_are : is.cells ≡ cells = cc in
        let some : Some plain ≡ Some found = sym (here (key_of (row.Export registration cells)) true e) ∙ there in
        let plains : plain ≡ found = cc in
        subst (λ p. IsExported rows registration cells p) plains (subst (λ c. IsExported rows registration c plain) cells_are (subst (λ r. IsExported rows r is.cells plain) numbers own_line))

    later : (old : Option Plain) (other : Plain) → IfSome old (λ (p : Plain). p.seq < start) → old ≡ Some other → other.seq < start
    later None other lower e = absurd cc
    later (Some p) other lower e = let one : p ≡ other = cc in subst (λ (q : Plain). q.seq < start) one lower

    results : (result : Result after) → IsTold rows (result_alike rows after same result) → (b : Bool) → same_bytes (key_of (row.Export result.registration result.cells)) key ≡ b → IsTold after result
    results result (inl some) b e = inl (ap (λ (read : Key → List Version). is_some (put_of (newest (read (key_of (row.Task (task.Export result.registration result.cells))))))) same ∙ some)
    results result (inr told) false e = inr (told.0, here (key_of (row.Export result.registration result.cells)) false e ∙ told.1, told.2)
    results result (inr told) true e = inr (
      plain,
      here (key_of (row.Export result.registration result.cells)) true e,
      (let lower = told.2 in
          let less = later (rows key).plain told.0 is.later (ap (λ k. (rows k).plain) (sym (same_bytes_are _ _ e)) ∙ told.1) in
          let number_is = is.number_is in omega (arith, lower, less, number_is)),
    )
