-- What a worker does for a task is what any worker may write.
use Rattle.std.proofs.Common.{◌≡◌, inl, inr, ℕ, Bool, true, false, List, [], ◌∷◌, Option, Some, None, refl, sym, subst, if◌then◌else◌}
use Rattle.std.proofs.lemmas.List.Elements.{All-cons, All-nil, All-tail}
use Rattle.std.specs.List.{All, Contains}
use Rattle.pcj_term.proofs.ListLemmas.{first_there, later_there, nothing_in}
use Rattle.pcj_term.specs.declared.triple.Triple.{Triple}
use Rattle.pcj_table.specs.Table.{Key}
use Rattle.pcj_table.specs.declared.write.Write.{Write}
use Rattle.pcj_encode.specs.declared.key_name.KeyName.{KeyName}
use Rattle.pcj_encode.specs.declared.key_name.KeyName.TheVariants as row
use Rattle.pcj_encode.specs.declared.task_name.TaskName.{TaskName}
use Rattle.pcj_encode.specs.declared.task_name.TaskName.TheVariants as task
use Rattle.pcj_encode.specs.Name.{IsTriple, key_of}
use Rattle.pcj_expr.specs.declared.mapping.Mapping.{Mapping}
use Rattle.pcj_algebra.specs.declared.triple_pattern.TriplePattern.{TriplePattern}
use Rattle.pcj_algebra.specs.Match.{Matches}
use Rattle.pcj_patterns.specs.Serving.{rows_of}
use Rattle.pcj_obs_pattern.specs.Rows.{IsPatternRow, cells_of}
use Rattle.pcj_moves.specs.declared.answer.Answer.{Answer}
use Rattle.pcj_rows.specs.Plans.{HasPlan, put_mark}
use Rattle.pcj_rows.specs.Reads.{HasRead}
use Rattle.pcj_rows.specs.Workers.{IsAdded, IsAddedTask, IsFromRead, IsReadCell, IsWorkerPlan, MayMoveTo, cells_in, terms_in}
use Rattle.pcj_rows.proofs.EachLemmas.{all_map, of_each}
use Rattle.pcj_duties.specs.Added.{IsNew, NodeRow, row_name, rows_writes, task_name}
use Rattle.pcj_duties.specs.Observers.{HasPurpose, IsDoneFor, IsObserverPlan, MeetsNext, MeetsNextTriple, result_row}
use Rattle.pcj_duties.proofs.AddedLemmas.{task_is_named}
use Rattle.pcj_duties.proofs.MetLemmas.{it_is_added, it_is_met}
use Rattle.pcj_duties.proofs.CellLemmas.{passed_cells, pattern_cells}

-- ---- the cells of added rows stand in names that were read

-- those of a match
match_from : (answers : List Answer) (registration node : ℕ) (of : TriplePattern) (order : List (List ℕ)) (key value other : List ℕ) (triple : Triple) (mapping : Mapping) (name : KeyName) → IsPatternRow registration node of order key value →
    HasRead answers (row.Pattern registration node) value → IsTriple triple → HasRead answers name other → cells_in name ≡ terms_in triple → Matches of triple mapping → IsFromRead answers registration (cells_of order mapping)
match_from answers registration node of order key value other triple mapping name is read valid read_name terms matches = record {
  number = record { name = row.Pattern registration node; value = value; read = read; is = refl };
  cells_read = all_map (Contains (terms_in triple)) (IsReadCell answers)
      (λ cell there. record { name = name; value = other; read = read_name; is = subst (λ cells. Contains cells cell) (sym terms) there }) (cells_of order mapping) (pattern_cells of order triple mapping valid is.valid matches is.names).1;
}

nothing_new : {A : Type 0} (rows : List NodeRow) (new : NodeRow) → rows ≡ [] → Contains rows new → A
nothing_new rows new none there = absurd (nothing_in new (subst (λ rs. Contains rs new) none there))

new_from : (answers : List Answer) (name : TaskName) (cursor : List ℕ) (moved : Option Key) (rows : List NodeRow) (new : NodeRow) → HasRead answers (row.Task name) cursor → IsDoneFor answers name cursor moved rows → Contains rows new → IsFromRead answers new.registration new.cells
new_from answers (task.Triple triple) cursor moved rows new read done there = by moved done.next
  where
    by : (place : Option Key) → MeetsNext answers triple place rows → IsFromRead answers new.registration new.cells
    by None none = nothing_new rows new none there
    by (Some place) is =
        let met = it_is_met answers is.registration is.node is.of is.order triple rows new is.meets there in
        subst (λ (n : NodeRow). IsFromRead answers n.registration n.cells) met.2
        (match_from answers is.registration is.node is.of is.order place is.value cursor triple met.0 (row.Task (task.Triple triple)) is.is_row is.read read.valid read refl met.1)
new_from answers (task.Backfill registration node) cursor moved rows new read done there = by moved done.next
  where
    by : (place : Option Key) → MeetsNextTriple answers registration node done.of done.order place rows → IsFromRead answers new.registration new.cells
    by None none = nothing_new rows new none there
    by (Some place) is =
        let met = it_is_met answers registration node done.of done.order is.triple rows new is.meets there in
        subst (λ (n : NodeRow). IsFromRead answers n.registration n.cells) met.2
        (match_from answers registration node done.of done.order (key_of (row.Pattern registration node)) done.value is.value is.triple met.0 (row.Triple (rows_of done.of).0 is.triple) done.is_row done.read is.read.valid is.read refl met.1)
new_from answers (task.Row registration node cells) cursor moved rows new read done there =
    subst (λ (n : NodeRow). IsFromRead answers n.registration n.cells) (it_is_added answers (result_row registration cells done.child done.parent) rows new done.adds there) (record {
      number = record { name = row.Registration registration; value = _; read = done.read; is = refl };
      cells_read = all_map (Contains cells) (IsReadCell answers) (λ cell there. record { name = row.Task (task.Row registration node cells); value = cursor; read = read; is = there })
          (result_row registration cells done.child done.parent).cells (passed_cells done.child.order cells done.parent.order done.projected.cells_fit done.projected.names);
    })
new_from answers (task.Export registration cells) cursor moved rows new read done there = nothing_new rows new done.1 there

-- ---- what is written

-- a task goes on to the row of a name that was read
moves_on : (answers : List Answer) (name : TaskName) (cursor : List ℕ) (moved : Option Key) (rows : List NodeRow) → IsDoneFor answers name cursor moved rows → MayMoveTo answers name moved
moves_on answers name cursor None rows done = tt
moves_on answers (task.Triple triple) cursor (Some place) rows done = (row.Pattern (done.next).registration (done.next).node, (done.next).value, (done.next).read, ((done.next).registration, (done.next).node, refl), (done.next).is_row.key_is)
moves_on answers (task.Backfill registration node) cursor (Some place) rows done = (row.Triple (rows_of done.of).0 (done.next).triple, (done.next).value, (done.next).read, ((rows_of done.of).0, (done.next).triple, refl), (done.next).is_row)
moves_on answers (task.Row registration node cells) cursor (Some place) rows done = absurd (let clash = done.done in cc)
moves_on answers (task.Export registration cells) cursor (Some place) rows done = absurd (let clash = done.0 in cc)

task_from : (answers : List Answer) (new : NodeRow) → IsFromRead answers new.registration new.cells → IsAddedTask answers (task_name new)
task_from answers new from = by new.is_result
  where
    by : (b : Bool) → IsAddedTask answers (if b then task.Export new.registration new.cells else task.Row new.registration new.node new.cells)
    by true = from
    by false = from

all_added : (answers : List Answer) (rows : List NodeRow) → All (IsNew answers) rows → ((new : NodeRow) → Contains rows new → IsFromRead answers new.registration new.cells) → All (IsAdded answers) (rows_writes rows)
all_added answers [] all from = All-nil (IsAdded answers)
all_added answers (new ∷ more) all from =
    All-cons (IsAdded answers) (put_mark (key_of (row_name new))) (put_mark (key_of (row.Task (task_name new))) ∷ rows_writes more)
    (record { name = row_name new; valid = its.named; is = refl; empty = refl; from = from new (first_there new more) })
    (All-cons (IsAdded answers) (put_mark (key_of (row.Task (task_name new)))) (rows_writes more)
    (record { name = row.Task (task_name new); valid = task_is_named new its.named; is = refl; empty = refl; from = task_from answers new (from new (first_there new more)) })
    (all_added answers more (All-tail (IsNew answers) new more all) (λ other there. from other (later_there new more other there))))
  where
    its : IsNew answers new
    its = of_each (IsNew answers) (new ∷ more) new all (first_there new more)

pub observers_are_workers : (start : ℕ) (answers : List Answer) (writes : List Write) → IsObserverPlan start answers writes → IsWorkerPlan start answers writes
observers_are_workers start answers writes work = record {
  first = work.first;
  task = work.task;
  cursor = work.cursor;
  read = work.read;
  moved = work.moved;
  may = moves_on answers work.task work.cursor work.moved work.rows work.done;
  added = rows_writes work.rows;
  are_added = all_added answers work.rows work.new (λ new there. new_from answers work.task work.cursor work.moved work.rows new work.read work.done there);
  writes_are = work.writes_are;
}

pub purposes_are_plans : (start : ℕ) (answers : List Answer) (writes : List Write) → HasPurpose start answers writes → HasPlan start answers writes
purposes_are_plans start answers writes (inl none) = inl none
purposes_are_plans start answers writes (inr (inl load)) = inr (inl load)
purposes_are_plans start answers writes (inr (inr (inl register))) = inr (inr (inl register))
purposes_are_plans start answers writes (inr (inr (inr work))) = inr (inr (inr (observers_are_workers start answers writes work)))
