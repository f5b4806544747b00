-- The tasks of nodes' rows keep the rows that they were made for.
use Rattle.std.proofs.Common.{◌≡◌, ◌⊎◌, inl, inr, ◌<◌, ◌≤◌, ℕ, Bool, true, false, nat_le, is_some, length, List, [], Option, Some, None, IsSome, refl, ap, sym, subst, ◌∙◌, arith, if◌then◌else◌}
use Rattle.std.proofs.lemmas.Bool.{leb-false, leb-true}
use Rattle.std.specs.List.{Contains}
use Rattle.std.specs.Option.{option_map}
use Rattle.pcj_term.proofs.ListLemmas.{nothing_in}
use Rattle.pcj_table.specs.Table.{Key}
use Rattle.pcj_table.specs.declared.write.Write.{Write}
use Rattle.pcj_encode.specs.declared.key_name.KeyName.TheVariants as row
use Rattle.pcj_encode.specs.declared.task_name.TaskName.{TaskName}
use Rattle.pcj_encode.specs.declared.task_name.TaskName.TheVariants as task
use Rattle.pcj_encode.specs.Name.{IsName, key_of}
use Rattle.pcj_algebra.specs.declared.triple_pattern.TriplePattern.{TriplePattern}
use Rattle.pcj_tree.specs.declared.tree.Tree.{Tree}
use Rattle.pcj_mvcc.proofs.Laws.{standing_is_seen}
use Rattle.pcj_mvcc.specs.Laws.{IsWritten, SameStanding}
use Rattle.pcj_mvcc.specs.Reading.{Put, Rows, seen, standing}
use Rattle.pcj_moves.specs.Transactions.{write_at}
use Rattle.pcj_moves.specs.declared.answer.Answer.{Answer}
use Rattle.pcj_rows.specs.Origins.{HasOrigin, IsAfter}
use Rattle.pcj_rows.specs.Plans.{put_mark}
use Rattle.pcj_rows.specs.Reads.{HasRead}
use Rattle.pcj_rows.specs.Registrations.{IsRegistered}
use Rattle.pcj_rows.proofs.RegisterLemmas.{tree_fits}
use Rattle.pcj_rows.proofs.TimeLemmas.{standing_below}
use Rattle.pcj_duties.specs.Added.{NodeRow, row_name, task_name}
use Rattle.pcj_nodes.specs.Commits.{Commits}
use Rattle.pcj_nodes.specs.Nodes.{IsNodeRow, NodeRowsAreTrue}
use Rattle.pcj_duties.specs.Observers.{HasPurpose, IsDoneFor, IsObserverPlan, MeetsNext, MeetsNextTriple, match_row, result_row}
use Rattle.pcj_nodes.specs.Puts.{PutsStay, StaysPut}
use Rattle.pcj_nodes.specs.Tasks.{IsExportTask, IsRowTask, RowTasksHaveOrigins}
use Rattle.pcj_nodes.proofs.FactLemmas.{ReadsPattern, one_tree, read_is_seen, reads_pattern, task_row, tree_is_read}
use Rattle.pcj_duties.proofs.MetLemmas.{it_is_added, it_is_met}
use Rattle.pcj_duties.proofs.PurposeLemmas.{AddsTaskOf, MovesTask, new_written, row_task_written}
use Rattle.pcj_nodes.proofs.StayLemmas.{registered_stays, remains, seen_still}
use Rattle.pcj_nodes.proofs.TreeLemmas.{pattern_is_inner, project_is_last}
use Rattle.pcj_nodes.proofs.ViewLemmas.{own_stands}

-- ---- origins that are put once

-- of a task that isn't written
origin_remains : (number commit start : ℕ) (answers : List Answer) (writes : List Write) (before after : Rows) (name origin : Key) → Commits number commit start answers writes before after → StaysPut before origin → StaysPut after origin →
    SameStanding before after name → HasOrigin before name origin → HasOrigin after name origin
origin_remains number commit start answers writes before after name origin its stays stays' same is = record {
  stands = subst (λ t. IsAfter t (standing after origin)) (sym same.stands) (by (standing before name) is.stands);
  was_seen = λ at some. seen_still number commit start answers writes before after origin at its stays stays' (is.was_seen at (ap is_some (sym (same.sees at)) ∙ some));
}
  where
    by : (found : Option Put) → IsAfter found (standing before origin) → IsAfter found (standing after origin)
    by None was = tt
    by (Some put) was = (was.0, remains number commit start answers writes before after origin was.0 its stays' was.1, was.2)

-- of one that is moved
origin_of_moved : (number commit start : ℕ) (answers : List Answer) (writes : List Write) (before after : Rows) (name origin : Key) (moved : Option (List ℕ)) (put : Put) → Commits number commit start answers writes before after → StaysPut before origin → StaysPut after origin →
    IsWritten after name moved commit → standing before name ≡ Some put → HasOrigin before name origin → HasOrigin after name origin
origin_of_moved number commit start answers writes before after name origin moved put its stays stays' written stood is = record {
  stands = subst (λ t. IsAfter t (standing after origin)) (sym written.stands) (still moved);
  was_seen = λ at some. by at some (nat_le commit at) refl;
}
  where
    was : (other : Put) × (standing before origin ≡ Some other) × (other.1 ≤ put.1)
    was = subst (λ t. IsAfter t (standing before origin)) stood is.stands

    now : standing after origin ≡ Some was.0
    now = remains number commit start answers writes before after origin was.0 its stays' was.1

    le : was.0.1 ≤ commit
    le = let lt = standing_below number before origin was.0 its.below was.1 in let granted = its.granted in omega (arith, lt, granted)

    still : (value : Option (List ℕ)) → IsAfter (option_map (λ bytes. (bytes, commit)) value) (standing after origin)
    still None = tt
    still (Some value) = (was.0, now, le)

    by : (at : ℕ) → IsSome (seen after name at) → (b : Bool) → nat_le commit at ≡ b → IsSome (seen after origin at)
    by at some true e = let later = leb-true commit at e in ap is_some (standing_is_seen after origin at was.0 its.after_times now (omega (arith, le, later)))
    by at some false e = seen_still number commit start answers writes before after origin at its stays stays' (is.was_seen at (ap is_some (sym (its.whole.earlier name at (leb-false commit at e))) ∙ some))

-- of one that is added with its row
origin_of_added : (number commit start : ℕ) (answers : List Answer) (writes : List Write) (before after : Rows) (name origin : Key) (value other : List ℕ) → Commits number commit start answers writes before after → StaysPut before origin → StaysPut after origin →
    IsWritten after name (Some value) commit → IsWritten after origin (Some other) commit → ((at : ℕ) → IsSome (seen before name at) → HasOrigin before name origin) → HasOrigin after name origin
origin_of_added number commit start answers writes before after name origin value other its stays stays' written written' was = record {
  stands = subst (λ t. IsAfter t (standing after origin)) (sym written.stands) ((other, commit), written'.stands, omega arith);
  was_seen = λ at some. by at some (nat_le commit at) refl;
}
  where
    by : (at : ℕ) → IsSome (seen after name at) → (b : Bool) → nat_le commit at ≡ b → IsSome (seen after origin at)
    by at some true e = ap is_some (written'.sees at (leb-true commit at e))
    by at some false e =
        let earlier : IsSome (seen before name at) = ap is_some (sym (its.whole.earlier name at (leb-false commit at e))) ∙ some in
        seen_still number commit start answers writes before after origin at its stays stays' ((was at earlier).was_seen at earlier)

-- ---- where an added row stands in its tree

abbrev pub IsPlace : Bool → ℕ → ℕ → Type 0
IsPlace true node last = node ≡ last
IsPlace false node last = node < last

-- a result is of the last node, and no other row is
pub record HasPlace (rows : Rows) (new : NodeRow) : Type 0 where
  pub name : List ℕ
  pub tree : Tree
  pub at : ℕ
  pub registered : IsRegistered rows new.registration name tree at
  pub place : IsPlace new.is_result new.node (length tree.nodes)

nowhere : {A : Type 0} (rows : List NodeRow) (new : NodeRow) → rows ≡ [] → Contains rows new → A
nowhere rows new none there = absurd (nothing_in new (subst (λ rs. Contains rs new) none there))

match_place : (number commit start : ℕ) (answers : List Answer) (writes : List Write) (before after : Rows) (registration node : ℕ) (of : TriplePattern) (order : List (List ℕ)) (new : NodeRow) → Commits number commit start answers writes before after → PutsStay after →
    ReadsPattern before start registration node of order → (mapping : _) → match_row registration node order mapping ≡ new → HasPlace after new
match_place number commit start answers writes before after registration node of order new its puts pattern mapping same = subst (HasPlace after) same (record {
  name = pattern.name;
  tree = pattern.tree;
  at = pattern.at;
  registered = registered_stays number commit start answers writes before after registration pattern.name pattern.tree pattern.at its puts pattern.registered;
  place = pattern_is_inner pattern.registered.of_query.query pattern.tree node pattern.node of pattern.registered.of_query.is pattern.is_node pattern.is_pattern;
})

pub new_place : (number commit start : ℕ) (answers : List Answer) (writes : List Write) (before after : Rows) (new : NodeRow) → Commits number commit start answers writes before after → PutsStay before → PutsStay after → RowTasksHaveOrigins before → NodeRowsAreTrue before →
    (work : IsObserverPlan start answers writes) → Contains work.rows new → HasPlace after new
new_place number commit start answers writes before after new its puts puts' tasks true_rows work there = by work.task work.read work.done
  where
    by : (name : TaskName) → HasRead answers (row.Task name) work.cursor → IsDoneFor answers name work.cursor work.moved work.rows → HasPlace after new
    by (task.Triple triple) read done = met work.moved done.next
      where
        met : (place : Option Key) → MeetsNext answers triple place work.rows → HasPlace after new
        met None none = nowhere work.rows new none there
        met (Some place) is =
            let its_match = it_is_met answers is.registration is.node is.of is.order triple work.rows new is.meets there in
            match_place number commit start answers writes before after is.registration is.node is.of is.order new its puts'
            (reads_pattern number commit start answers writes before after is.registration is.node is.of is.order place is.value its puts is.is_row is.read) its_match.0 its_match.2
    by (task.Backfill registration node) read done = met work.moved done.next
      where
        met : (place : Option Key) → MeetsNextTriple answers registration node done.of done.order place work.rows → HasPlace after new
        met None none = nowhere work.rows new none there
        met (Some place) is =
            let its_match = it_is_met answers registration node done.of done.order is.triple work.rows new is.meets there in
            match_place number commit start answers writes before after registration node done.of done.order new its puts'
            (reads_pattern number commit start answers writes before after registration node done.of done.order (key_of (row.Pattern registration node)) done.value its puts done.is_row done.read) its_match.0 its_match.2
    by (task.Row registration node cells) read done =
        let origin = task_row number commit start answers writes before after registration node cells work.cursor its puts tasks read in
        let below : IsNodeRow before registration node cells origin.put.1 = true_rows registration node cells origin.put read.valid origin.stands in
        let same = tree_is_read number commit start answers writes before after registration done.name below.name done.tree below.tree below.at its puts done.of_query done.read below.registered in
        subst (HasPlace after) (it_is_added answers (result_row registration cells done.child done.parent) work.rows new done.adds there) (record {
          name = below.name;
          tree = done.tree;
          at = below.at;
          registered = subst (λ t. IsRegistered after registration below.name t below.at) same (registered_stays number commit start answers writes before after registration below.name below.tree below.at its puts' below.registered);
          place = project_is_last done.of_query.query done.tree done.child.parent node done.parent done.of_query.is done.projected.parent_is done.projected.projects;
        })
    by (task.Export registration cells) read done = nowhere work.rows new done.1 there

-- ---- what the task of an added row says of it

task_of_row : (new : NodeRow) (registration node : ℕ) (cells : List (List ℕ)) → task_name new ≡ task.Row registration node cells →
    (new.is_result ≡ false) × (new.registration ≡ registration) × (new.node ≡ node) × (new.cells ≡ cells)
task_of_row new registration node cells is = by new.is_result refl
  where
    by : (b : Bool) → new.is_result ≡ b → (new.is_result ≡ false) × (new.registration ≡ registration) × (new.node ≡ node) × (new.cells ≡ cells)
    by true e = absurd (let clash : task.Export new.registration new.cells ≡ task.Row registration node cells = ap (λ b. if b then task.Export new.registration new.cells else task.Row new.registration new.node new.cells) (sym e) ∙ is in cc)
    by false e =
        let same : task.Row new.registration new.node new.cells ≡ task.Row registration node cells = ap (λ b. if b then task.Export new.registration new.cells else task.Row new.registration new.node new.cells) (sym e) ∙ is in
        (e, cc, cc, cc)

task_of_result : (new : NodeRow) (registration : ℕ) (cells : List (List ℕ)) → task_name new ≡ task.Export registration cells → (new.is_result ≡ true) × (new.registration ≡ registration) × (new.cells ≡ cells)
task_of_result new registration cells is = by new.is_result refl
  where
    by : (b : Bool) → new.is_result ≡ b → (new.is_result ≡ true) × (new.registration ≡ registration) × (new.cells ≡ cells)
    by true e =
        let same : task.Export new.registration new.cells ≡ task.Export registration cells = ap (λ b. if b then task.Export new.registration new.cells else task.Row new.registration new.node new.cells) (sym e) ∙ is in
        (e, cc, cc)
    by false e = absurd (let clash : task.Row new.registration new.node new.cells ≡ task.Export registration cells = ap (λ b. if b then task.Export new.registration new.cells else task.Row new.registration new.node new.cells) (sym e) ∙ is in cc)

-- ---- the tasks of rows

-- the registration of a task, after the commit
row_task_stays : (number commit start : ℕ) (answers : List Answer) (writes : List Write) (before after : Rows) (registration node : ℕ) (cells : List (List ℕ)) → Commits number commit start answers writes before after → PutsStay after →
    IsRowTask before registration node cells → HasOrigin after (key_of (row.Task (task.Row registration node cells))) (key_of (row.Node registration node cells)) → IsRowTask after registration node cells
row_task_stays number commit start answers writes before after registration node cells its puts is origin = record {
  name = is.name;
  tree = is.tree;
  at = is.at;
  registered = registered_stays number commit start answers writes before after registration is.name is.tree is.at its puts is.registered;
  inner = is.inner;
  origin = origin;
}

rows_have_origins : (number commit start : ℕ) (answers : List Answer) (writes : List Write) (before after : Rows) → Commits number commit start answers writes before after → HasPurpose start answers writes → PutsStay before → PutsStay after → NodeRowsAreTrue before → RowTasksHaveOrigins before →
    (registration node : ℕ) (cells : List (List ℕ)) (at : ℕ) → IsName (row.Task (task.Row registration node cells)) → IsSome (seen after (key_of (row.Task (task.Row registration node cells))) at) → IsRowTask after registration node cells
rows_have_origins number commit start answers writes before after its purpose puts puts' true_rows tasks registration node cells at named some =
    by (row_task_written start answers writes (task.Row registration node cells) purpose named tt)
  where
    key : Key
    key = key_of (row.Task (task.Row registration node cells))

    origin : Key
    origin = key_of (row.Node registration node cells)

    moves : (own : MovesTask start answers writes (task.Row registration node cells)) → HasRead answers (row.Task (task.Row registration node cells)) own.work.cursor → IsRowTask after registration node cells
    moves own read =
        let was = tasks.of_rows registration node cells start named (read_is_seen start before answers (row.Task (task.Row registration node cells)) own.work.cursor its.reads read) in
        let stood = own_stands before start answers (row.Task (task.Row registration node cells)) own.work.cursor its.reads (its.old key _ own.written) read in
        row_task_stays number commit start answers writes before after registration node cells its puts' was
        (origin_of_moved number commit start answers writes before after key origin own.work.moved stood.put its (puts.nodes registration node cells named) (puts'.nodes registration node cells named) (its.whole.written key _ own.written) stood.stands was.origin)

    added : (adds : AddsTaskOf start answers writes (task.Row registration node cells)) → HasPlace after adds.adds.new → IsRowTask after registration node cells
    added adds place =
        let new = adds.adds.new in
        let of = task_of_row new registration node cells adds.adds.is in
        let row_is : row_name new ≡ row.Node registration node cells = ap (λ r. row.Node r new.node new.cells) of.1 ∙ ap (λ n. row.Node registration n new.cells) of.2 ∙ ap (row.Node registration node) of.3 in
        record {
          name = place.name;
          tree = place.tree;
          at = place.at;
          registered = subst (λ r. IsRegistered after r place.name place.tree place.at) of.1 place.registered;
          inner = subst (λ n. n < length place.tree.nodes) of.2 (subst (λ b. IsPlace b new.node (length place.tree.nodes)) of.0 place.place);
          origin = origin_of_added number commit start answers writes before after key origin [] [] its (puts.nodes registration node cells named) (puts'.nodes registration node cells named) (its.whole.written key _ adds.written)
              (its.whole.written origin _ (subst (λ n. write_at writes (key_of n) ≡ Some (put_mark (key_of n))) row_is (new_written start answers writes new adds.work adds.adds.is_new.named adds.adds.held)))
              (λ t then_some. (tasks.of_rows registration node cells t named then_some).origin);
        }

    by : (write_at writes key ≡ None) ⊎ (MovesTask start answers writes (task.Row registration node cells) ⊎ AddsTaskOf start answers writes (task.Row registration node cells)) → IsRowTask after registration node cells
    by (inl none) =
        let same = its.whole.others key none in
        let was = tasks.of_rows registration node cells at named (ap is_some (sym (same.sees at)) ∙ some) in
        row_task_stays number commit start answers writes before after registration node cells its puts' was
        (origin_remains number commit start answers writes before after key origin its (puts.nodes registration node cells named) (puts'.nodes registration node cells named) same was.origin)
    by (inr (inl own)) = moves own (subst (λ n. HasRead answers (row.Task n) own.work.cursor) own.own own.work.read)
    by (inr (inr adds)) = added adds (new_place number commit start answers writes before after adds.adds.new its puts puts' tasks true_rows adds.work adds.adds.held)

-- ---- the tasks of exports

export_task_stays : (number commit start : ℕ) (answers : List Answer) (writes : List Write) (before after : Rows) (registration : ℕ) (cells : List (List ℕ)) → Commits number commit start answers writes before after → PutsStay after →
    (is : IsExportTask before registration cells) → HasOrigin after (key_of (row.Task (task.Export registration cells))) (key_of (row.Node registration (length is.tree.nodes) cells)) → IsExportTask after registration cells
export_task_stays number commit start answers writes before after registration cells its puts is origin = record {
  name = is.name;
  tree = is.tree;
  at = is.at;
  registered = registered_stays number commit start answers writes before after registration is.name is.tree is.at its puts is.registered;
  origin = origin;
}

-- the row of the last node has a name
pub last_named : (rows : Rows) (registration : ℕ) (name : List ℕ) (tree : Tree) (at : ℕ) (cells : List (List ℕ)) → IsRegistered rows registration name tree at → IsName (row.Task (task.Export registration cells)) → IsName (row.Node registration (length tree.nodes) cells)
last_named rows registration name tree at cells is named = (named.0, (let fits = tree_fits tree is.of_query in omega (arith, fits)), named.1)

exports_have_origins : (number commit start : ℕ) (answers : List Answer) (writes : List Write) (before after : Rows) → Commits number commit start answers writes before after → HasPurpose start answers writes → PutsStay before → PutsStay after → NodeRowsAreTrue before → RowTasksHaveOrigins before →
    (registration : ℕ) (cells : List (List ℕ)) (at : ℕ) → IsName (row.Task (task.Export registration cells)) → IsSome (seen after (key_of (row.Task (task.Export registration cells))) at) → IsExportTask after registration cells
exports_have_origins number commit start answers writes before after its purpose puts puts' true_rows tasks registration cells at named some =
    by (row_task_written start answers writes (task.Export registration cells) purpose named tt)
  where
    key : Key
    key = key_of (row.Task (task.Export registration cells))

    moves : (own : MovesTask start answers writes (task.Export registration cells)) → HasRead answers (row.Task (task.Export registration cells)) own.work.cursor → IsExportTask after registration cells
    moves own read =
        let was = tasks.of_exports registration cells start named (read_is_seen start before answers (row.Task (task.Export registration cells)) own.work.cursor its.reads read) in
        let stood = own_stands before start answers (row.Task (task.Export registration cells)) own.work.cursor its.reads (its.old key _ own.written) read in
        let last = last_named before registration was.name was.tree was.at cells was.registered named in
        export_task_stays number commit start answers writes before after registration cells its puts' was
        (origin_of_moved number commit start answers writes before after key (key_of (row.Node registration (length was.tree.nodes) cells)) own.work.moved stood.put its (puts.nodes registration (length was.tree.nodes) cells last) (puts'.nodes registration (length was.tree.nodes) cells last)
        (its.whole.written key _ own.written) stood.stands was.origin)

    added : (adds : AddsTaskOf start answers writes (task.Export registration cells)) → HasPlace after adds.adds.new → IsExportTask after registration cells
    added adds place =
        let new = adds.adds.new in
        let of = task_of_result new registration cells adds.adds.is in
        let last_is : new.node ≡ length place.tree.nodes = subst (λ b. IsPlace b new.node (length place.tree.nodes)) of.0 place.place in
        let registered : IsRegistered after registration place.name place.tree place.at = subst (λ r. IsRegistered after r place.name place.tree place.at) of.1 place.registered in
        let last = last_named after registration place.name place.tree place.at cells registered named in
        let row_is : row_name new ≡ row.Node registration (length place.tree.nodes) cells = ap (λ r. row.Node r new.node new.cells) of.1 ∙ ap (λ n. row.Node registration n new.cells) last_is ∙ ap (row.Node registration (length place.tree.nodes)) of.2 in
        record {
          name = place.name;
          tree = place.tree;
          at = place.at;
          registered = registered;
          origin = origin_of_added number commit start answers writes before after key (key_of (row.Node registration (length place.tree.nodes) cells)) [] [] its
              (puts.nodes registration (length place.tree.nodes) cells last) (puts'.nodes registration (length place.tree.nodes) cells last) (its.whole.written key _ adds.written)
              (its.whole.written (key_of (row.Node registration (length place.tree.nodes) cells)) _
              (subst (λ n. write_at writes (key_of n) ≡ Some (put_mark (key_of n))) row_is (new_written start answers writes new adds.work adds.adds.is_new.named adds.adds.held)))
              (λ t then_some. same_origin place.name place.tree place.at registered (tasks.of_exports registration cells t named then_some));
        }
      where
        -- of the same tree
        same_origin : (name : List ℕ) (tree : Tree) (since : ℕ) → IsRegistered after registration name tree since → (was : IsExportTask before registration cells) → HasOrigin before key (key_of (row.Node registration (length tree.nodes) cells))
        same_origin name tree since registered was =
            let now = registered_stays number commit start answers writes before after registration was.name was.tree was.at its puts' was.registered in
            let same = one_tree after registration was.name name was.tree tree was.at since now registered in
            subst (λ (t : Tree). HasOrigin before key (key_of (row.Node registration (length t.nodes) cells))) same was.origin

    by : (write_at writes key ≡ None) ⊎ (MovesTask start answers writes (task.Export registration cells) ⊎ AddsTaskOf start answers writes (task.Export registration cells)) → IsExportTask after registration cells
    by (inl none) =
        let same = its.whole.others key none in
        let was = tasks.of_exports registration cells at named (ap is_some (sym (same.sees at)) ∙ some) in
        let last = last_named before registration was.name was.tree was.at cells was.registered named in
        export_task_stays number commit start answers writes before after registration cells its puts' was
        (origin_remains number commit start answers writes before after key (key_of (row.Node registration (length was.tree.nodes) cells)) its (puts.nodes registration (length was.tree.nodes) cells last) (puts'.nodes registration (length was.tree.nodes) cells last) same was.origin)
    by (inr (inl own)) = moves own (subst (λ n. HasRead answers (row.Task n) own.work.cursor) own.own own.work.read)
    by (inr (inr adds)) = added adds (new_place number commit start answers writes before after adds.adds.new its puts puts' tasks true_rows adds.work adds.adds.held)

pub tasks_keep_origins : (number commit start : ℕ) (answers : List Answer) (writes : List Write) (before after : Rows) → Commits number commit start answers writes before after → HasPurpose start answers writes → PutsStay before → PutsStay after → NodeRowsAreTrue before →
    RowTasksHaveOrigins before → RowTasksHaveOrigins after
tasks_keep_origins number commit start answers writes before after its purpose puts puts' true_rows tasks = record {
  of_rows = rows_have_origins number commit start answers writes before after its purpose puts puts' true_rows tasks;
  of_exports = exports_have_origins number commit start answers writes before after its purpose puts puts' true_rows tasks;
}
