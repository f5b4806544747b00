-- Every move keeps the rows fit.
use Rattle.std.proofs.Common.{◌≡◌, ◌≢◌, ◌⊎◌, inl, inr, ◌<◌, ◌≤◌, ℕ, suc, Bool, true, false, cond, nat_lt, List, [], ◌∷◌, Option, Some, None, IfSome, refl, ap, sym, subst, ◌∙◌, arith, if◌then◌else◌}
use Rattle.std.proofs.lemmas.Bool.{and_parts, ltb-true}
use Rattle.std.specs.List.{All, Contains}
use Rattle.std.specs.Option.{option_map}
use Rattle.pcj_term.proofs.ByteLemmas.{same_bytes_are, same_bytes_itself}
use Rattle.pcj_term.proofs.ListLemmas.{first_there}
use Rattle.pcj_term.specs.declared.triple.Triple.{Triple}
use Rattle.pcj_term.specs.Order.{same_bytes}
use Rattle.pcj_table.specs.Row.{newest, updated, updated_all}
use Rattle.pcj_table.specs.Table.{Key}
use Rattle.pcj_table.specs.declared.lock.Lock.{Lock}
use Rattle.pcj_table.specs.declared.plain.Plain.{Plain}
use Rattle.pcj_table.specs.declared.row.Row.{Row}
use Rattle.pcj_table.specs.declared.update.Update.TheVariants.{SetPlain}
use Rattle.pcj_table.specs.declared.version.Version.{Version}
use Rattle.pcj_table.specs.declared.write.Write.{Write}
use Rattle.pcj_encode.specs.declared.order.Order.TheVariants.{Spo, Pos, Osp}
use Rattle.pcj_encode.specs.declared.task_name.TaskName.{TaskName}
use Rattle.pcj_encode.specs.declared.task_name.TaskName.TheVariants as task
use Rattle.pcj_encode.specs.declared.key_name.KeyName.TheVariants as row
use Rattle.pcj_encode.specs.Name.{IsName, IsNode, IsRegistration, IsTriple, key_of}
use Rattle.pcj_tree.specs.declared.tree.Tree.{Tree}
use Rattle.pcj_rowtables.specs.Rows.{triple_key}
use Rattle.pcj_oracle.specs.Clock.{clock_key}
use Rattle.pcj_mvcc.proofs.Laws.{lock_there, replaced, rolled_back, same_standing}
use Rattle.pcj_mvcc.specs.Laws.{SameStanding}
use Rattle.pcj_mvcc.proofs.Versions.{version_of_start}
use Rattle.pcj_mvcc.specs.Acts.{commit_act, lock_of, roll_back_act, version_of}
use Rattle.pcj_mvcc.specs.Reading.{Put, Rows, acted, allows, commit_of, committed, put, put_of, seen, standing, versions_read}
use Rattle.pcj_moves.specs.Traces.{traces}
use Rattle.pcj_moves.specs.Transactions.{primary_of, with_commit, write_at}
use Rattle.pcj_moves.specs.declared.answer.Answer.{Answer}
use Rattle.pcj_moves.specs.declared.answer.Answer.TheVariants.{OfRow}
use Rattle.pcj_moves.specs.Reads.{Reads}
use Rattle.pcj_moves.specs.Recoveries.{Knows, Recovers, Recovery}
use Rattle.pcj_moves.specs.Actors.{Actor, with_transaction}
use Rattle.pcj_moves.specs.Moves.{AreBelow, CommitNothing, CommitPrimary, CommitSecondary, Draw, DropPrimary, EndRecovery, IsAllowed, IsConsistent, Learn, MayCommitPrimary, MayCommitSecondary, MayPrewrite, Meet, Move, Plan, Prewrite, Read, RollBack, RollForward, WritePlain, actor_after, number_after, rows_after}
use Rattle.pcj_moves.specs.StandingLaws.{StandsWhole}
use Rattle.pcj_moves.proofs.ConsistencyLemmas.{forwarded, its_first, its_recovery, its_write, move_is_consistent, same_versions}
use Rattle.pcj_moves.proofs.OtherLemmas.{lock_is}
use Rattle.pcj_moves.proofs.StandingLemmas.{one_move_changes}
use Rattle.pcj_moves.proofs.StepLemmas.{AtPrimary, at_primary, further, trace_lock}
use Rattle.pcj_moves.proofs.WriteLemmas.{distinct_are_there, undrawn_is_undone}
use Rattle.pcj_choices.specs.ChoiceLaws.{IsLast}
use Rattle.pcj_choices.specs.UnderChoice.{is_primary_commit}
use Rattle.pcj_choices.proofs.ClaimLemmas.{IsKept, WritesOnly, reads_the_same}
use Rattle.pcj_rows.specs.Triples.{AtomicRows}
use Rattle.pcj_fit.specs.Fit.{Fit, NumbersApart}
use Rattle.pcj_rows.specs.Origins.{HasOrigin, TasksHaveOrigins}
use Rattle.pcj_rows.specs.OwnRows.{AreOwnFrom, IsOwnRow}
use Rattle.pcj_rows.specs.Plans.{HasPlan, IsLoadPlan, IsRegisterPlan, absent_of, load_writes}
use Rattle.pcj_rows.specs.Registrations.{RegistrationsStand}
use Rattle.pcj_rows.specs.Rows.{Decodes, HoldsVersions, IsVersionOf}
use Rattle.pcj_rows.specs.Names.{IsGranted}
use Rattle.pcj_fit.specs.Sound.{HasExported, IsClockPlain, IsFrom, MayWritePlain}
use Rattle.pcj_rows.specs.Workers.{IsExport, IsWorkerPlan, export_line}
use Rattle.pcj_nodes.specs.Commits.{Base, Commits, HasWritten, IsPlainFrom}
use Rattle.pcj_kept.specs.Kept.{Kept}
use Rattle.pcj_duties.specs.Observers.{HasPurpose}
use Rattle.pcj_kept.proofs.KeptLemmas.{commits_keep_all, exports_keep_all, readings_say_all}
use Rattle.pcj_duties.proofs.WorkLemmas.{purposes_are_plans}
use Rattle.pcj_fit.proofs.NumberLemmas.{apart_committed, apart_kept, apart_locked}
use Rattle.pcj_rows.proofs.OwnRowLemmas.{own_is_empty, own_is_kept, own_replaced}
use Rattle.pcj_rows.proofs.OldLemmas.{IsOld, written_is_old}
use Rattle.pcj_rows.proofs.RegisterLemmas.{as_backfill, as_pattern, name_written, own_written, part_name}
use Rattle.pcj_rows.proofs.RegisteredLemmas.{Registers, SameRegistrations, backfill_joins, origin_stays, origin_written, registrations_join, registrations_stay, same_reading}
use Rattle.pcj_rows.proofs.WriteLemmas.{CanWrite, keys_differ, none_written}
use Rattle.pcj_rows.proofs.TimeLemmas.{standing_below}
use Rattle.pcj_rows.proofs.WorkerLemmas.{IsOwnTask, granted_read, origin_outlasts, own_task, value_read, work_leaves}
use Rattle.pcj_rows.proofs.PlanLemmas.{Mark, absent_all, as_task, by_order, can_write, is_among, load_names, mark_key, mark_name, mark_unwritten, mark_written, writes_whole, written_by}
use Rattle.pcj_rows.proofs.RowLemmas.{all_with_version, decodes_later, decodes_put, from_versions, locked_row, row_of_name, to_versions}

-- ---- the row of a write, and of a lock

-- what its row holds
row_of_write : (next start : ℕ) (rows : Rows) (write : Write) → Decodes next rows → (can : CanWrite next start write) → HoldsVersions next can.name (rows write.key)
row_of_write next start rows write decodes can =
    to_versions next can.name (rows write.key) can.written (subst (λ k. Rattle.pcj_rows.specs.Rows.IsRowOf next can.name (rows k)) (sym can.is) (row_of_name next rows can.name decodes can.valid))

-- the row with something else, of the same name
written_row : (next start : ℕ) (rows : Rows) (write : Write) (found : Row) → Decodes next rows → (can : CanWrite next start write) → HoldsVersions next can.name found → Decodes next (put rows write.key found)
written_row next start rows write found decodes can holds = decodes_put next rows write.key found decodes
    (λ some. record { name = can.name; valid = can.valid; granted = can.granted; is = can.is; holds = from_versions next can.name found can.written holds })

-- a row whose lock was taken away
decodes_unlocked : (next : ℕ) (rows : Rows) (key : Key) (lock : Lock) → Decodes next rows → (rows key).lock ≡ Some lock → Decodes next (put rows key (rolled_back (rows key)))
decodes_unlocked next rows key lock decodes locked =
    let is = locked_row next rows key lock decodes locked in
    decodes_put next rows key (rolled_back (rows key)) decodes (λ some. record {
      name = is.name;
      valid = is.valid;
      granted = is.granted;
      is = is.is;
      holds = from_versions next is.name (rolled_back (rows key)) is.written (record { lock = tt; versions = is.holds.versions; plain = is.holds.plain });
    })

-- or became a version
decodes_replaced : (next : ℕ) (rows : Rows) (key : Key) (lock : Lock) (commit : ℕ) → Decodes next rows → (rows key).lock ≡ Some lock → commit < next → Decodes next (put rows key (replaced (rows key) (version_of lock commit)))
decodes_replaced next rows key lock commit decodes locked lt =
    let is = locked_row next rows key lock decodes locked in
    decodes_put next rows key (replaced (rows key) (version_of lock commit)) decodes (λ some. record {
      name = is.name;
      valid = is.valid;
      granted = is.granted;
      is = is.is;
      holds = from_versions next is.name (replaced (rows key) (version_of lock commit)) is.written (record {
        lock = tt;
        versions = all_with_version (IsVersionOf next is.name) (version_of lock commit) (rows key).versions (record { start = is.its.start; commit = lt; value = is.its.value }) is.holds.versions;
        plain = is.holds.plain;
      });
    })

-- ---- what stands

atomic_same : (before after : Rows) → versions_read after ≡ versions_read before → AtomicRows before → AtomicRows after
atomic_same before after same atomic = record {
  pos = subst (λ (read : Key → List Version). (triple : Triple) → IsTriple triple → put_of (newest (read (triple_key Pos triple))) ≡ put_of (newest (read (triple_key Spo triple)))) (sym same) atomic.pos;
  osp = subst (λ (read : Key → List Version). (triple : Triple) → IsTriple triple → put_of (newest (read (triple_key Osp triple))) ≡ put_of (newest (read (triple_key Spo triple)))) (sym same) atomic.osp;
}

-- what stands of a triple's row after the commit of a transaction that writes it whole, or not at all
pub stands_of : (writes : List Write) (commit : ℕ) (before after : Rows) (triple : Triple) (mark : Mark) (b : Bool) → StandsWhole writes commit before after → write_at writes (mark_key mark triple) ≡ written_by b (mark_key mark triple) →
    standing after (mark_key mark triple) ≡ (if b then Some ([], commit) else standing before (mark_key mark triple))
stands_of writes commit before after triple mark true whole e = (whole.written (mark_key mark triple) _ e).stands
stands_of writes commit before after triple mark false whole e = (whole.others (mark_key mark triple) e).stands

atomic_whole : (start : ℕ) (answers : List Rattle.pcj_moves.specs.declared.answer.Answer.Answer) (writes : List Write) (commit : ℕ) (before after : Rows) → HasPlan start answers writes → StandsWhole writes commit before after →
    AtomicRows before → AtomicRows after
atomic_whole start answers writes commit before after plan whole atomic = record {
  pos = λ triple valid. let its = writes_whole start answers writes triple plan valid in
      stands_of writes commit before after triple (by_order Pos) its.is whole (its.each Pos)
      ∙ same (Some ([], commit)) its.is (atomic.pos triple valid) ∙ sym (stands_of writes commit before after triple (by_order Spo) its.is whole (its.each Spo));
  osp = λ triple valid. let its = writes_whole start answers writes triple plan valid in
      stands_of writes commit before after triple (by_order Osp) its.is whole (its.each Osp)
      ∙ same (Some ([], commit)) its.is (atomic.osp triple valid) ∙ sym (stands_of writes commit before after triple (by_order Spo) its.is whole (its.each Spo));
}
  where
    same : {X : Type 0} (new : X) {a b : X} (is : Bool) → a ≡ b → (if is then new else a) ≡ (if is then new else b)
    same new true e = refl
    same new false e = e

-- ---- registrations, and what tasks were made for

origins_same : (before after : Rows) → versions_read after ≡ versions_read before → TasksHaveOrigins before → TasksHaveOrigins after
origins_same before after same origins = record {
  triples = λ triple valid. origin_stays before after (mark_key as_task triple) (mark_key (by_order Spo) triple) (stays (mark_key as_task triple)) (stays (mark_key (by_order Spo) triple)) (origins.triples triple valid);
  backfills = λ registration node number small. origin_stays before after (key_of (part_name as_backfill registration node)) (key_of (part_name as_pattern registration node))
      (stays (key_of (part_name as_backfill registration node))) (stays (key_of (part_name as_pattern registration node))) (origins.backfills registration node number small);
}
  where
    stays : (key : Key) → SameStanding before after key
    stays key = same_standing before after key (ap (λ (read : Key → List Version). read key) same)

-- a commit of something else leaves the rows of registrations
pub load_leaves : (triples : List Triple) (commit : ℕ) (before after : Rows) → All IsTriple triples → StandsWhole (load_writes triples) commit before after → SameRegistrations before after
load_leaves triples commit before after valid whole = record {
  names = λ name. (whole.others (key_of (row.Name name)) (none_written (load_writes triples) (row.Name name) tt (load_names (λ n. n ≢ row.Name name) triples valid (λ mark triple. not_name name mark triple)))).stands;
  registrations = λ registration number. (whole.others (key_of (row.Registration registration)) (none_written (load_writes triples) (row.Registration registration) number
      (load_names (λ n. n ≢ row.Registration registration) triples valid (λ mark triple. not_registration registration mark triple)))).stands;
  patterns = λ registration node number small. whole.others (key_of (row.Pattern registration node)) (none_written (load_writes triples) (row.Pattern registration node) (number, small)
      (load_names (λ n. n ≢ row.Pattern registration node) triples valid (λ mark triple. not_pattern registration node mark triple)));
}
  where
    not_name : (name : List ℕ) (mark : Mark) (triple : Triple) → mark_name mark triple ≢ row.Name name
    not_name name (by_order order) triple e = cc
    not_name name as_task triple e = cc

    not_registration : (registration : ℕ) (mark : Mark) (triple : Triple) → mark_name mark triple ≢ row.Registration registration
    not_registration registration (by_order order) triple e = cc
    not_registration registration as_task triple e = cc

    not_pattern : (registration node : ℕ) (mark : Mark) (triple : Triple) → mark_name mark triple ≢ row.Pattern registration node
    not_pattern registration node (by_order order) triple e = cc
    not_pattern registration node as_task triple e = cc

-- and the tasks of its backfills
load_leaves_backfills : (triples : List Triple) (commit : ℕ) (before after : Rows) → All IsTriple triples → StandsWhole (load_writes triples) commit before after → (registration node : ℕ) → IsRegistration registration → IsNode node →
    SameStanding before after (key_of (row.Task (task.Backfill registration node)))
load_leaves_backfills triples commit before after valid whole registration node number small =
    whole.others (key_of (row.Task (task.Backfill registration node))) (none_written (load_writes triples) (row.Task (task.Backfill registration node)) (number, small)
    (load_names (λ n. n ≢ row.Task (task.Backfill registration node)) triples valid not_backfill))
  where
    not_backfill : (mark : Mark) (triple : Triple) → mark_name mark triple ≢ row.Task (task.Backfill registration node)
    not_backfill (by_order order) triple e = cc
    not_backfill as_task triple e = cc

nothing_leaves : (writes : List Write) (commit : ℕ) (before after : Rows) → writes ≡ [] → StandsWhole writes commit before after → SameRegistrations before after
nothing_leaves writes commit before after none whole = record {
  names = λ name. (whole.others (key_of (row.Name name)) (free (key_of (row.Name name)))).stands;
  registrations = λ registration number. (whole.others (key_of (row.Registration registration)) (free (key_of (row.Registration registration)))).stands;
  patterns = λ registration node number small. whole.others (key_of (row.Pattern registration node)) (free (key_of (row.Pattern registration node)));
}
  where
    free : (key : Key) → write_at writes key ≡ None
    free key = ap (λ ws. write_at ws key) none

-- a worker writes none of these rows
pub work_leaves_registrations : (start : ℕ) (answers : List Answer) (writes : List Write) (commit : ℕ) (before after : Rows) → IsWorkerPlan start answers writes → StandsWhole writes commit before after → SameRegistrations before after
work_leaves_registrations start answers writes commit before after work whole = record {
  names = λ name. (whole.others (key_of (row.Name name)) (work_leaves start answers writes (row.Name name) work tt (λ other e. cc) (λ registration node cells e. cc))).stands;
  registrations = λ registration number. (whole.others (key_of (row.Registration registration)) (work_leaves start answers writes (row.Registration registration) work number (λ other e. cc) (λ registration node cells e. cc))).stands;
  patterns = λ registration node number small. whole.others (key_of (row.Pattern registration node))
      (work_leaves start answers writes (row.Pattern registration node) work (number, small) (λ other e. cc) (λ registration node cells e. cc));
}

-- A registration has read that nothing has its name, and its rows are locked since. Its own row has nothing but what it
-- has written itself.
pub plan_registers : (start : ℕ) (answers : List Answer) (writes : List Write) (name : List ℕ) (tree : Tree) (commit : ℕ) (before after : Rows) → IsRegisterPlan start answers writes name tree → StandsWhole writes commit before after →
    ((key : Key) (write : Write) → write_at writes key ≡ Some write → IsOld before start key) → Reads before start answers → (1 ≤ start → IsRegistration start → IsOwnRow start (before (key_of (row.Registration start)))) → Registers before after start name tree commit
plan_registers start answers writes name tree commit before after plan whole old reads own = record {
  number = plan.number;
  of_query = plan.of_query;
  whole = subst (λ ws. StandsWhole ws commit before after) plan.writes_are whole;
  unnamed = sym (old (key_of (row.Name name)) _ (ap (λ ws. write_at ws (key_of (row.Name name))) plan.writes_are ∙ name_written start name tree)).seen_then ∙ unseen;
  new = ap (λ versions. put_of (newest versions)) (its.read ∙ own_is_empty start (before (key_of (row.Registration start))).versions (own plan.first plan.number).versions its.unwritten);
}
  where
    unseen : seen before (key_of (row.Name name)) start ≡ None
    unseen = none (seen before (key_of (row.Name name)) start)
        (reads (OfRow (key_of (row.Name name)) None) (subst (λ held. Contains held (OfRow (key_of (row.Name name)) None)) (sym plan.reads) (first_there (OfRow (key_of (row.Name name)) None) [])) (key_of (row.Name name)) (same_bytes_itself (key_of (row.Name name))))
      where
        none : (found : Option Put) → option_map (λ (put : Put). put.0) found ≡ None → found ≡ None
        none None e = refl
        none (Some put) e = absurd cc

    its : IsOld before start (key_of (row.Registration start))
    its = old (key_of (row.Registration start)) _ (ap (λ ws. write_at ws (key_of (row.Registration start))) plan.writes_are ∙ own_written start name tree)

registered_whole : (start : ℕ) (answers : List Answer) (writes : List Write) (commit : ℕ) (before after : Rows) → HasPlan start answers writes → StandsWhole writes commit before after →
    ((key : Key) (write : Write) → write_at writes key ≡ Some write → IsOld before start key) → Reads before start answers → (1 ≤ start → IsRegistration start → IsOwnRow start (before (key_of (row.Registration start)))) → RegistrationsStand before → RegistrationsStand after
registered_whole start answers writes commit before after (inl none) whole old reads own stand = registrations_stay before after (nothing_leaves writes commit before after none whole) stand
registered_whole start answers writes commit before after (inr (inl load)) whole old reads own stand =
    registrations_stay before after (load_leaves (absent_of load.0 answers) commit before after (absent_all IsTriple load.0 answers load.1.load.valid) (subst (λ ws. StandsWhole ws commit before after) load.1.writes_are whole)) stand
registered_whole start answers writes commit before after (inr (inr (inr work))) whole old reads own stand = registrations_stay before after (work_leaves_registrations start answers writes commit before after work whole) stand
registered_whole start answers writes commit before after (inr (inr (inl register))) whole old reads own stand =
    registrations_join before after start register.0 register.1 commit (plan_registers start answers writes register.0 register.1 commit before after register.2 whole old reads own) stand

-- ---- tasks

-- what a worker's own task had
own_outlasts : (number commit start : ℕ) (answers : List Answer) (writes : List Write) (before after : Rows) (name : TaskName) (origin : Key) → number ≤ commit → AreBelow number before → StandsWhole writes commit before after →
    ((key : Key) (write : Write) → write_at writes key ≡ Some write → IsOld before start key) → Reads before start answers → IsOwnTask start answers writes name → write_at writes origin ≡ None →
    HasOrigin before (key_of (row.Task name)) origin → HasOrigin after (key_of (row.Task name)) origin
own_outlasts number commit start answers writes before after name origin le below whole old reads own free is = by (standing before (key_of (row.Task name))) refl
  where
    stood : option_map (λ (put : Put). put.0) (standing before (key_of (row.Task name))) ≡ Some own.cursor
    stood = ap (option_map (λ (put : Put). put.0)) (sym (old (key_of (row.Task name)) _ own.written).seen_then) ∙ value_read start before answers (row.Task name) own.cursor reads own.read

    by : (found : Option Put) → standing before (key_of (row.Task name)) ≡ found → HasOrigin after (key_of (row.Task name)) origin
    by None e = absurd (let clash : None ≡ Some own.cursor = ap (option_map (λ (put : Put). put.0)) (sym e) ∙ stood in cc)
    by (Some put) e = origin_outlasts number commit before after (key_of (row.Task name)) origin put own.moved le below whole.earlier
        (whole.written (key_of (row.Task name)) _ own.written) (whole.others origin free) e
        (let lt = standing_below number before (key_of (row.Task name)) put below e in omega (arith, lt, le)) is

-- a triple's task is written with the triple, or by a worker that had read it
triple_origins : (number commit start : ℕ) (answers : List Answer) (writes : List Write) (before after : Rows) → number ≤ commit → AreBelow number before → HasPlan start answers writes → StandsWhole writes commit before after →
    ((key : Key) (write : Write) → write_at writes key ≡ Some write → IsOld before start key) → Reads before start answers → TasksHaveOrigins before →
    (triple : Triple) → IsTriple triple → HasOrigin after (mark_key as_task triple) (mark_key (by_order Spo) triple)
triple_origins number commit start answers writes before after le below plan whole old reads origins triple valid = by plan
  where
    stays : write_at writes (mark_key as_task triple) ≡ None → write_at writes (mark_key (by_order Spo) triple) ≡ None → HasOrigin after (mark_key as_task triple) (mark_key (by_order Spo) triple)
    stays e e' = origin_stays before after (mark_key as_task triple) (mark_key (by_order Spo) triple) (whole.others (mark_key as_task triple) e) (whole.others (mark_key (by_order Spo) triple) e') (origins.triples triple valid)

    together : (b : Bool) → write_at writes (mark_key as_task triple) ≡ written_by b (mark_key as_task triple) → write_at writes (mark_key (by_order Spo) triple) ≡ written_by b (mark_key (by_order Spo) triple) →
        HasOrigin after (mark_key as_task triple) (mark_key (by_order Spo) triple)
    together true e e' = origin_written before after (mark_key as_task triple) (mark_key (by_order Spo) triple) [] [] commit whole.earlier
        (whole.written (mark_key as_task triple) _ e) (whole.written (mark_key (by_order Spo) triple) _ e') (origins.triples triple valid)
    together false e e' = stays e e'

    marked : (load : (triples : List Triple) × IsLoadPlan start answers writes triples) (mark : Mark) → write_at writes (mark_key mark triple) ≡ written_by (is_among triple (absent_of load.0 answers)) (mark_key mark triple)
    marked load mark = ap (λ ws. write_at ws (mark_key mark triple)) load.1.writes_are ∙ mark_written (absent_of load.0 answers) mark triple (absent_all IsTriple load.0 answers load.1.load.valid) valid

    unmarked : (register : (name : List ℕ) × (tree : Tree) × IsRegisterPlan start answers writes name tree) (mark : Mark) → write_at writes (mark_key mark triple) ≡ None
    unmarked register mark = ap (λ ws. write_at ws (mark_key mark triple)) register.2.writes_are ∙ mark_unwritten start register.0 register.1 mark triple register.2.number register.2.of_query valid

    free : IsWorkerPlan start answers writes → write_at writes (mark_key (by_order Spo) triple) ≡ None
    free work = work_leaves start answers writes (row.Triple Spo triple) work valid (λ other e. cc) (λ registration node cells e. cc)

    works : IsWorkerPlan start answers writes → (write_at writes (mark_key as_task triple) ≡ None) ⊎ IsOwnTask start answers writes (task.Triple triple) → HasOrigin after (mark_key as_task triple) (mark_key (by_order Spo) triple)
    works work (inl none) = stays none (free work)
    works work (inr own) = own_outlasts number commit start answers writes before after (task.Triple triple) (mark_key (by_order Spo) triple) le below whole old reads own (free work) (origins.triples triple valid)

    by : HasPlan start answers writes → HasOrigin after (mark_key as_task triple) (mark_key (by_order Spo) triple)
    by (inl none) = stays (ap (λ ws. write_at ws (mark_key as_task triple)) none) (ap (λ ws. write_at ws (mark_key (by_order Spo) triple)) none)
    by (inr (inl load)) = together (is_among triple (absent_of load.0 answers)) (marked load as_task) (marked load (by_order Spo))
    by (inr (inr (inl register))) = stays (unmarked register as_task) (unmarked register (by_order Spo))
    by (inr (inr (inr work))) = works work (own_task start answers writes (task.Triple triple) work valid (λ registration node cells e. cc) (λ registration cells e. cc))

-- and that of a backfill with its pattern's row
backfill_origins : (number commit start : ℕ) (answers : List Answer) (writes : List Write) (before after : Rows) → number ≤ commit → AreBelow number before → HasPlan start answers writes → StandsWhole writes commit before after →
    ((key : Key) (write : Write) → write_at writes key ≡ Some write → IsOld before start key) → Reads before start answers → (1 ≤ start → IsRegistration start → IsOwnRow start (before (key_of (row.Registration start)))) → TasksHaveOrigins before →
    (registration node : ℕ) → IsRegistration registration → IsNode node → HasOrigin after (key_of (row.Task (task.Backfill registration node))) (key_of (row.Pattern registration node))
backfill_origins number commit start answers writes before after le below plan whole old reads own origins registration node numbered small = by plan
  where
    stays : SameStanding before after (key_of (row.Task (task.Backfill registration node))) → SameStanding before after (key_of (row.Pattern registration node)) →
        HasOrigin after (key_of (row.Task (task.Backfill registration node))) (key_of (row.Pattern registration node))
    stays same same' = origin_stays before after (key_of (row.Task (task.Backfill registration node))) (key_of (row.Pattern registration node)) same same' (origins.backfills registration node numbered small)

    pattern : SameRegistrations before after → SameStanding before after (key_of (row.Pattern registration node))
    pattern same = same.patterns registration node numbered small

    free : IsWorkerPlan start answers writes → write_at writes (key_of (row.Pattern registration node)) ≡ None
    free work = work_leaves start answers writes (row.Pattern registration node) work (numbered, small) (λ other e. cc) (λ registration node cells e. cc)

    works : IsWorkerPlan start answers writes → (write_at writes (key_of (row.Task (task.Backfill registration node))) ≡ None) ⊎ IsOwnTask start answers writes (task.Backfill registration node) →
        HasOrigin after (key_of (row.Task (task.Backfill registration node))) (key_of (row.Pattern registration node))
    works work (inl none) = stays (whole.others (key_of (row.Task (task.Backfill registration node))) none) (whole.others (key_of (row.Pattern registration node)) (free work))
    works work (inr its) = own_outlasts number commit start answers writes before after (task.Backfill registration node) (key_of (row.Pattern registration node)) le below whole old reads its (free work) (origins.backfills registration node numbered small)

    by : HasPlan start answers writes → HasOrigin after (key_of (row.Task (task.Backfill registration node))) (key_of (row.Pattern registration node))
    by (inl none) = stays (whole.others (key_of (row.Task (task.Backfill registration node))) (ap (λ ws. write_at ws (key_of (row.Task (task.Backfill registration node)))) none)) (pattern (nothing_leaves writes commit before after none whole))
    by (inr (inl load)) =
        let valid = absent_all IsTriple load.0 answers load.1.load.valid in
        let stand = subst (λ ws. StandsWhole ws commit before after) load.1.writes_are whole in
        stays (load_leaves_backfills (absent_of load.0 answers) commit before after valid stand registration node numbered small) (pattern (load_leaves (absent_of load.0 answers) commit before after valid stand))
    by (inr (inr (inl register))) =
        backfill_joins before after start register.0 register.1 commit registration node (plan_registers start answers writes register.0 register.1 commit before after register.2 whole old reads own) numbered small origins
    by (inr (inr (inr work))) = works work (own_task start answers writes (task.Backfill registration node) work (numbered, small) (λ other number cells e. cc) (λ other cells e. cc))

-- ---- each move

-- the rows after a move, with what is left to show of them
assembled : (number : ℕ) (rows : Rows) (actor : Actor) (others : List Actor) (move : Move) → is_primary_commit move ≡ false → IsAllowed move number rows actor →
    IsConsistent (record { number = number; rows = rows; actors = actor ∷ others }) → Fit number rows → Decodes (number_after move number) (rows_after move actor rows) → NumbersApart (rows_after move actor rows) → Kept (rows_after move actor rows) →
    Fit (number_after move number) (rows_after move actor rows)
assembled number rows actor others move other may consistent fit decodes apart kept =
    let after = move_is_consistent number rows actor others move may consistent in
    let same = reads_the_same number rows actor others move other may consistent in
    record {
      decodes = decodes;
      times = after.times;
      named = after.named;
      once = after.once;
      apart = apart;
      atomic = atomic_same rows (rows_after move actor rows) same fit.atomic;
      registered = registrations_stay rows (rows_after move actor rows) (same_reading rows (rows_after move actor rows) same) fit.registered;
      origins = origins_same rows (rows_after move actor rows) same fit.origins;
      kept = kept;
    }

-- ---- plain values

-- an act on a row leaves them
pub plains_stay : (rows : Rows) (key : Key) (row : Row) → row.plain ≡ (rows key).plain → (other : Key) → (put rows key row other).plain ≡ (rows other).plain
plains_stay rows key found same other = by (same_bytes other key) refl
  where
    by : (b : Bool) → same_bytes other key ≡ b → (put rows key found other).plain ≡ (rows other).plain
    by true e = ap (λ c. (cond c found (rows other)).plain) e ∙ same ∙ ap (λ k. (rows k).plain) (sym (same_bytes_are other key e))
    by false e = ap (λ c. (cond c found (rows other)).plain) e

-- so what is kept stays
act_keeps : (number : ℕ) (rows : Rows) (actor : Actor) (others : List Actor) (move : Move) (key : Key) (found : Row) → is_primary_commit move ≡ false → IsAllowed move number rows actor →
    IsConsistent (record { number = number; rows = rows; actors = actor ∷ others }) → rows_after move actor rows ≡ put rows key found → found.plain ≡ (rows key).plain → Kept rows → Kept (rows_after move actor rows)
act_keeps number rows actor others move key found other may consistent after same kept =
    readings_say_all rows (rows_after move actor rows) (reads_the_same number rows actor others move other may consistent)
    (λ registration cells named. ap (λ (r : Rows). (r (key_of (row.Export registration cells))).plain) after ∙ plains_stay rows key found same (key_of (row.Export registration cells))) kept

prewrite_fit : (number : ℕ) (rows : Rows) (actor : Actor) (others : List Actor) (write : Write) → HasPlan actor.start actor.answers actor.transaction.writes → MayPrewrite rows actor write →
    IsConsistent (record { number = number; rows = rows; actors = actor ∷ others }) → Fit number rows → Fit number (rows_after (Prewrite write) actor rows)
prewrite_fit number rows actor others write plan may consistent fit =
    assembled number rows actor others (Prewrite write) refl may consistent fit
    (written_row number actor.start rows write _ fit.decodes can (record { lock = record { start = can.begun; value = can.value }; versions = holds.versions; plain = holds.plain }))
    (apart_locked rows write.key _ (lock_of write actor.start (primary_of actor.transaction)) consistent.own.0.start refl refl fit.apart)
    (act_keeps number rows actor others (Prewrite write) write.key _ refl may consistent refl refl fit.kept)
  where
    can : CanWrite number actor.start write
    can = can_write number actor.start rows actor.answers actor.transaction.writes write consistent.older.0.below.start fit.decodes consistent.sound.0.reads plan
        (distinct_are_there actor.transaction.writes actor.transaction.prewritten write consistent.sound.0.transacts.distinct may.next)

    holds : HoldsVersions number can.name (rows write.key)
    holds = row_of_write number actor.start rows write fit.decodes can

secondary_fit : (number : ℕ) (rows : Rows) (actor : Actor) (others : List Actor) (write : Write) (commit : ℕ) → MayCommitSecondary rows actor write commit →
    IsConsistent (record { number = number; rows = rows; actors = actor ∷ others }) → Fit number rows → Fit number (rows_after (CommitSecondary write commit) actor rows)
secondary_fit number rows actor others write commit may consistent fit =
    assembled number rows actor others (CommitSecondary write commit) refl may consistent fit
    (decodes_replaced number rows write.key lock commit fit.decodes locked (consistent.older.0.below.commit commit may.drawn))
    (apart_kept rows _ (forwarded rows write.key lock commit consistent.times may.allowed its.now) fit.apart)
    (act_keeps number rows actor others (CommitSecondary write commit) write.key _ refl may consistent refl refl fit.kept)
  where
    lock : Lock
    lock = lock_of write actor.start (primary_of actor.transaction)

    its : Rattle.pcj_moves.proofs.StepLemmas.Further rows actor.start actor.transaction write commit
    its = further rows actor.start actor.transaction write commit consistent.times consistent.sound.0.transacts may.done may.drawn (its_write rows actor write commit consistent.sound.0 may) may.allowed

    there : (l : Lock) × ((rows write.key).lock ≡ Some l) × (l.start ≡ actor.start)
    there = lock_there (rows write.key).lock actor.start (and_parts _ _ may.allowed).0

    locked : (rows write.key).lock ≡ Some lock
    locked = there.1 ∙ ap Some (its.only there.0 there.1 there.2)

back_fit : (number : ℕ) (rows : Rows) (actor : Actor) (others : List Actor) (key : Key) (start : ℕ) (move : Move) → is_primary_commit move ≡ false → IsAllowed move number rows actor →
    IsConsistent (record { number = number; rows = rows; actors = actor ∷ others }) → Fit number rows → number_after move number ≡ number → rows_after move actor rows ≡ put rows key (rolled_back (rows key)) → allows (roll_back_act start) (rows key) ≡ true →
    Fit (number_after move number) (rows_after move actor rows)
back_fit number rows actor others key start move other may consistent fit same after allowed =
    let there = lock_there (rows key).lock start (and_parts _ _ allowed).0 in
    assembled number rows actor others move other may consistent fit
    (subst (λ n. Decodes n (rows_after move actor rows)) (sym same) (subst (Decodes number) (sym after) (decodes_unlocked number rows key there.0 fit.decodes there.1)))
    (subst NumbersApart (sym after) (apart_kept rows _ (same_versions rows key (rolled_back (rows key)) (λ lock e. absurd cc) refl) fit.apart))
    (act_keeps number rows actor others move key (rolled_back (rows key)) other may consistent after refl fit.kept)

forward_fit : (number : ℕ) (rows : Rows) (actor : Actor) (others : List Actor) (recovery : Recovery) (commit : ℕ) → IsAllowed (RollForward recovery commit) number rows actor →
    IsConsistent (record { number = number; rows = rows; actors = actor ∷ others }) → Fit number rows → Fit number (rows_after (RollForward recovery commit) actor rows)
forward_fit number rows actor others recovery commit may consistent fit =
    assembled number rows actor others (RollForward recovery commit) refl may consistent fit
    (decodes_replaced number rows recovery.key recovery.lock commit fit.decodes locked lower)
    (apart_kept rows _ (forwarded rows recovery.key recovery.lock commit consistent.times may.2 known) fit.apart)
    (act_keeps number rows actor others (RollForward recovery commit) recovery.key _ refl may consistent refl refl fit.kept)
  where
    recovers : Recovers recovery (traces recovery.lock.start rows)
    recovers = (its_recovery rows actor recovery consistent.sound.0 may.0).0

    there : (l : Lock) × ((rows recovery.key).lock ≡ Some l) × (l.start ≡ recovery.lock.start)
    there = lock_there (rows recovery.key).lock recovery.lock.start (and_parts _ _ may.2).0

    locked : (rows recovery.key).lock ≡ Some recovery.lock
    locked = there.1 ∙ ap Some (recovers.holds there.0 (trace_lock rows recovery.key recovery.lock.start there.0 there.1 there.2))

    known : committed rows recovery.lock.primary recovery.lock.start ≡ Some commit
    known = (subst (Knows recovery (traces recovery.lock.start rows)) may.1 recovers.knows).1

    lower : commit < number
    lower = let found = version_of_start (λ version. nat_lt version.commit number) recovery.lock.start commit (rows recovery.lock.primary).versions (consistent.below.versions recovery.lock.primary) known in
        let lt = ltb-true found.0.commit number found.3 in let same = found.2 in omega arith

-- the clock's row is no export's
other_plain : (rows : Rows) (key : Key) (found : Row) (registration : ℕ) (cells : List (List ℕ)) → key ≡ clock_key → IsName (row.Export registration cells) →
    (put rows key found (key_of (row.Export registration cells))).plain ≡ (rows (key_of (row.Export registration cells))).plain
other_plain rows key found registration cells is named = ap (λ c. (cond c found (rows (key_of (row.Export registration cells)))).plain)
    (subst (λ k. same_bytes (key_of (row.Export registration cells)) k ≡ false) (sym is) (keys_differ (row.Export registration cells) row.Clock named tt (λ e. cc)))

clock_fit : (number : ℕ) (rows : Rows) (actor : Actor) (others : List Actor) (key : Key) (plain : Plain) → IsClockPlain key plain →
    IsConsistent (record { number = number; rows = rows; actors = actor ∷ others }) → Fit number rows → Fit number (rows_after (WritePlain key plain) actor rows)
clock_fit number rows actor others key plain is consistent fit =
    assembled number rows actor others (WritePlain key plain) refl tt consistent fit
    (decodes_put number rows key (updated (rows key) (SetPlain plain)) fit.decodes (λ some. record {
      name = row.Clock;
      valid = tt;
      granted = tt;
      is = is.0;
      holds = record { lock = clock.lock; versions = clock.versions; value = is.1 };
    }))
    (apart_kept rows _ (same_versions rows key (updated (rows key) (SetPlain plain)) (λ lock e. e) refl) fit.apart)
    (readings_say_all rows (rows_after (WritePlain key plain) actor rows) (reads_the_same number rows actor others (WritePlain key plain) refl tt consistent)
    (λ registration cells named. other_plain rows key (updated (rows key) (SetPlain plain)) registration cells is.0 named) fit.kept)
  where
    clock : Rattle.pcj_rows.specs.Rows.IsClockRow (rows key)
    clock = subst (λ k. Rattle.pcj_rows.specs.Rows.IsClockRow (rows k)) (sym is.0) (row_of_name number rows row.Clock fit.decodes tt)

pub base : (number : ℕ) (rows : Rows) → Fit number rows → Base number rows
base number rows fit = record { decodes = fit.decodes; times = fit.times; atomic = fit.atomic; registered = fit.registered; origins = fit.origins }

export_fit : (number : ℕ) (rows : Rows) (actor : Actor) (others : List Actor) (key : Key) (plain : Plain) → IsExport actor.start actor.answers (rows key).plain key plain →
    IsConsistent (record { number = number; rows = rows; actors = actor ∷ others }) → Fit number rows → Fit number (rows_after (WritePlain key plain) actor rows)
export_fit number rows actor others key plain is consistent fit =
    assembled number rows actor others (WritePlain key plain) refl tt consistent fit
    (decodes_put number rows key (updated (rows key) (SetPlain plain)) fit.decodes (λ some. record {
      name = row.Export is.registration is.cells;
      valid = is.read.valid;
      granted = granted_read number actor.start rows actor.answers (row.Task (task.Export is.registration is.cells)) is.cursor fit.decodes consistent.sound.0.reads is.read;
      is = is.row_is;
      holds = record { lock = held.lock; versions = held.versions; line = (subst (IsGranted number) (sym is.number_is) (is.first, consistent.older.0.below.start), export_line is.cells, is.line_is) };
    }))
    (apart_kept rows _ (same_versions rows key (updated (rows key) (SetPlain plain)) (λ lock e. e) refl) fit.apart)
    (exports_keep_all number actor.start actor.answers rows key plain (base number rows fit) consistent.sound.0.reads is fit.kept)
  where
    held : Rattle.pcj_rows.specs.Rows.IsExportRow number (rows key)
    held = subst (λ k. Rattle.pcj_rows.specs.Rows.IsExportRow number (rows k)) (sym is.row_is) (row_of_name number rows (row.Export is.registration is.cells) fit.decodes is.read.valid)

plain_fit : (number : ℕ) (rows : Rows) (actor : Actor) (others : List Actor) (key : Key) (plain : Plain) → MayWritePlain actor.start actor.answers (rows key).plain key plain →
    IsConsistent (record { number = number; rows = rows; actors = actor ∷ others }) → Fit number rows → Fit number (rows_after (WritePlain key plain) actor rows)
plain_fit number rows actor others key plain (inl is) consistent fit = clock_fit number rows actor others key plain is consistent fit
plain_fit number rows actor others key plain (inr is) consistent fit = export_fit number rows actor others key plain is consistent fit

others_fit : (number : ℕ) (rows : Rows) (actor : Actor) (others : List Actor) (move : Move) → is_primary_commit move ≡ false → HasPlan actor.start actor.answers actor.transaction.writes →
    IsConsistent (record { number = number; rows = rows; actors = actor ∷ others }) → IsAllowed move number rows actor → WritesOnly MayWritePlain rows actor move → Fit number rows → Fit (number_after move number) (rows_after move actor rows)
others_fit number rows actor others (Plan writes) other plan consistent may plains fit = fit
others_fit number rows actor others (Prewrite write) other plan consistent may plains fit = prewrite_fit number rows actor others write plan may consistent fit
others_fit number rows actor others (Draw commit) other plan consistent may plains fit = record {
  decodes = decodes_later number (suc commit) rows (let le = may.granted in omega arith) fit.decodes;
  times = fit.times;
  named = fit.named;
  once = fit.once;
  apart = fit.apart;
  atomic = fit.atomic;
  registered = fit.registered;
  origins = fit.origins;
  kept = fit.kept;
}
others_fit number rows actor others (CommitPrimary write commit) other plan consistent may plains fit = absurd cc
others_fit number rows actor others (CommitSecondary write commit) other plan consistent may plains fit = secondary_fit number rows actor others write commit may consistent fit
others_fit number rows actor others (CommitNothing commit) other plan consistent may plains fit = fit
others_fit number rows actor others (Read answer) other plan consistent may plains fit = fit
others_fit number rows actor others (Meet key lock) other plan consistent may plains fit = fit
others_fit number rows actor others (Learn recovery) other plan consistent may plains fit = fit
others_fit number rows actor others (DropPrimary recovery) other plan consistent may plains fit =
    back_fit number rows actor others recovery.lock.primary recovery.lock.start (DropPrimary recovery) refl may consistent fit refl refl may.1
others_fit number rows actor others (RollBack recovery) other plan consistent may plains fit =
    back_fit number rows actor others recovery.key recovery.lock.start (RollBack recovery) refl may consistent fit refl refl may.2
others_fit number rows actor others (RollForward recovery commit) other plan consistent may plains fit = forward_fit number rows actor others recovery commit may consistent fit
others_fit number rows actor others EndRecovery other plan consistent may plains fit = fit
others_fit number rows actor others (WritePlain key plain) other plan consistent may plains fit = plain_fit number rows actor others key plain plains consistent fit

-- ---- the last commit

-- the row of a registration with an actor's number is its own
pub its_own : (low : ℕ) (rows : Rows) (actor : Actor) → IsFrom low actor → AreOwnFrom low rows → 1 ≤ actor.start → IsRegistration actor.start → IsOwnRow actor.start (rows (key_of (row.Registration actor.start)))
its_own low rows actor (inl none) own first numbered = absurd (omega (arith, none, first))
its_own low rows actor (inr le) own first numbered = own actor.start le numbered

last_fit : (low number : ℕ) (rows : Rows) (actor : Actor) (others : List Actor) (write : Write) (commit : ℕ) → HasPurpose actor.start actor.answers actor.transaction.writes → IsLast number rows actor others write commit →
    IsFrom low actor → AreOwnFrom low rows → HasExported rows actor → Fit number rows → Fit (suc commit) (acted rows write.key (commit_act write actor.start commit))
last_fit low number rows actor others write commit purpose last from own exported fit = record {
  decodes = decodes_replaced (suc commit) rows write.key lock commit (decodes_later number (suc commit) rows (omega arith) fit.decodes) locked (omega arith);
  times = after.times;
  named = after.named;
  once = after.once;
  apart = apart_committed number rows write.key lock commit last.draws.granted last.consistent.below locked none last.consistent.own.0.start fit.times.first fit.apart;
  atomic = atomic_whole actor.start actor.answers actor.transaction.writes commit rows _ plan whole fit.atomic;
  registered = registered;
  origins = record {
    triples = triple_origins number commit actor.start actor.answers actor.transaction.writes rows _ last.draws.granted last.consistent.below plan whole (λ key write is. old key write is) last.consistent.sound.0.reads fit.origins;
    backfills = backfill_origins number commit actor.start actor.answers actor.transaction.writes rows _ last.draws.granted last.consistent.below plan whole (λ key write is. old key write is) last.consistent.sound.0.reads (its_own low rows actor from own) fit.origins;
  };
  kept = commits_keep_all number commit actor.start actor.answers actor.transaction.writes rows _ commits purpose exported fit.kept;
}
  where
    plan : HasPlan actor.start actor.answers actor.transaction.writes
    plan = purposes_are_plans actor.start actor.answers actor.transaction.writes purpose

    drawn : Actor
    drawn = with_transaction actor (with_commit actor.transaction commit)

    consistent : IsConsistent (record { number = suc commit; rows = rows; actors = drawn ∷ others })
    consistent = move_is_consistent number rows actor others (Draw commit) last.draws last.consistent

    may : MayCommitPrimary rows drawn write commit
    may = record { first = last.first; drawn = refl; undone = undrawn_is_undone actor.start actor.transaction (traces actor.start rows) last.consistent.sound.0.transacts last.draws.undrawn; allowed = last.allowed }

    after : IsConsistent (record { number = suc commit; rows = acted rows write.key (commit_act write actor.start commit); actors = actor_after (CommitPrimary write commit) rows drawn ∷ others })
    after = move_is_consistent (suc commit) rows drawn others (CommitPrimary write commit) may consistent

    first : (rest : List Write) × (actor.transaction.writes ≡ write ∷ rest)
    first = its_first rows drawn write commit may

    at : AtPrimary rows actor.start drawn.transaction write commit
    at = at_primary rows actor.start drawn.transaction write first.0 commit consistent.times consistent.sound.0.transacts first.1 refl may.undone last.allowed

    whole : StandsWhole actor.transaction.writes commit rows (acted rows write.key (commit_act write actor.start commit))
    whole = one_move_changes (suc commit) rows drawn others (CommitPrimary write commit) may consistent

    old : (key : Key) (other : Write) → write_at actor.transaction.writes key ≡ Some other → IsOld rows actor.start key
    old key other is = written_is_old rows actor.start drawn.transaction commit key other consistent.times consistent.sound.0.transacts at.ripe is

    registered : RegistrationsStand (acted rows write.key (commit_act write actor.start commit))
    registered = registered_whole actor.start actor.answers actor.transaction.writes commit rows _ plan whole (λ key write is. old key write is) last.consistent.sound.0.reads (its_own low rows actor from own) fit.registered

    commits : Commits number commit actor.start actor.answers actor.transaction.writes rows (acted rows write.key (commit_act write actor.start commit))
    commits = record {
      base = base number rows fit;
      after_times = after.times;
      registered = registered;
      whole = whole;
      old = λ key write is. (old key write is).seen_then;
      reads = last.consistent.sound.0.reads;
      begun = last.consistent.older.0.below.start;
      granted = last.draws.granted;
      below = last.consistent.below;
      apart = last.consistent.own.0.start;
      fresh = λ name tree its.
          let registers = plan_registers actor.start actor.answers actor.transaction.writes name tree commit rows _ its whole (λ key write is. old key write is) last.consistent.sound.0.reads (its_own low rows actor from own) in
          (registers.unnamed, registers.new);
      plains = plains_stay rows write.key (updated_all (rows write.key) (commit_act write actor.start commit).updates) refl;
    }

    lock : Lock
    lock = lock_of write actor.start write.key

    locked : (rows write.key).lock ≡ Some lock
    locked = (lock_is (rows write.key).lock actor.start lock (ap (λ t. t.lock) at.was)).0

    none : commit_of actor.start (rows write.key).versions ≡ None
    none = ap (λ t. option_map (λ v. v.commit) t.version) at.was

-- ---- lines that were exported stay

-- a plain value that is written has the highest number yet
rises : (rows : Rows) (actor : Actor) (move : Move) (start registration : ℕ) (cells : List (List ℕ)) → WritesOnly MayWritePlain rows actor move → IsName (row.Export registration cells) →
    IsPlainFrom start (rows (key_of (row.Export registration cells))).plain → IsPlainFrom start (rows_after move actor rows (key_of (row.Export registration cells))).plain
rises rows actor (Plan writes) start registration cells plains named is = is
rises rows actor (Prewrite write) start registration cells plains named is = subst (IsPlainFrom start) (sym (plains_stay rows write.key _ refl (key_of (row.Export registration cells)))) is
rises rows actor (Draw commit) start registration cells plains named is = is
rises rows actor (CommitPrimary write commit) start registration cells plains named is = subst (IsPlainFrom start) (sym (plains_stay rows write.key _ refl (key_of (row.Export registration cells)))) is
rises rows actor (CommitSecondary write commit) start registration cells plains named is = subst (IsPlainFrom start) (sym (plains_stay rows write.key _ refl (key_of (row.Export registration cells)))) is
rises rows actor (CommitNothing commit) start registration cells plains named is = is
rises rows actor (Read answer) start registration cells plains named is = is
rises rows actor (Meet key lock) start registration cells plains named is = is
rises rows actor (Learn recovery) start registration cells plains named is = is
rises rows actor (DropPrimary recovery) start registration cells plains named is = subst (IsPlainFrom start) (sym (plains_stay rows recovery.lock.primary _ refl (key_of (row.Export registration cells)))) is
rises rows actor (RollBack recovery) start registration cells plains named is = subst (IsPlainFrom start) (sym (plains_stay rows recovery.key _ refl (key_of (row.Export registration cells)))) is
rises rows actor (RollForward recovery commit) start registration cells plains named is = subst (IsPlainFrom start) (sym (plains_stay rows recovery.key _ refl (key_of (row.Export registration cells)))) is
rises rows actor EndRecovery start registration cells plains named is = is
rises rows actor (WritePlain key plain) start registration cells (inl clock) named is = subst (IsPlainFrom start) (sym (other_plain rows key (updated (rows key) (SetPlain plain)) registration cells clock.0 named)) is
rises rows actor (WritePlain key plain) start registration cells (inr line) named is = by (same_bytes (key_of (row.Export registration cells)) key) refl
  where
    own : Key
    own = key_of (row.Export registration cells)

    later : (old : Option Plain) → IfSome old (λ other. other.seq < actor.start) → IsPlainFrom start old → start ≤ plain.seq
    later None lower from = absurd from
    later (Some other) lower from = let same = line.number_is in omega (arith, lower, from, same)

    by : (b : Bool) → same_bytes own key ≡ b → IsPlainFrom start (put rows key (updated (rows key) (SetPlain plain)) own).plain
    by true e = subst (λ c. IsPlainFrom start (cond c (updated (rows key) (SetPlain plain)) (rows own)).plain) (sym e) (later (rows key).plain line.later (subst (λ k. IsPlainFrom start (rows k).plain) (same_bytes_are own key e) is))
    by false e = subst (λ c. IsPlainFrom start (cond c (updated (rows key) (SetPlain plain)) (rows own)).plain) (sym e) is

pub written_after : (rows : Rows) (actor : Actor) (move : Move) (start : ℕ) (writes : List Write) → WritesOnly MayWritePlain rows actor move → HasWritten start writes rows → HasWritten start writes (rows_after move actor rows)
written_after rows actor move start writes plains written registration cells named is = rises rows actor move start registration cells plains named (written registration cells named is)

-- ---- all moves

-- fit rows of which those of later registrations are their own, where what is written at one start has its exported line
abbrev pub FitFrom : ℕ → ℕ → List Write → ℕ → Rows → Type 0
FitFrom low start writes number rows = Fit number rows × AreOwnFrom low rows × HasWritten start writes rows

abbrev pub PlanFrom : ℕ → ℕ → List Write → ℕ → List Answer → List Write → Type 0
PlanFrom low start writes its answers own = HasPurpose its answers own × ((its ≡ 0) ⊎ (low ≤ its)) × (its ≡ start) × (own ≡ writes)

pub fit_is_kept : (low start : ℕ) (writes : List Write) → IsKept (FitFrom low start writes) (PlanFrom low start writes) MayWritePlain
fit_is_kept low start writes = record {
  others = λ number rows actor others move other plan consistent may plains fit. (
    others_fit number rows actor others move other (purposes_are_plans actor.start actor.answers actor.transaction.writes plan.0) consistent may plains fit.0,
    own_is_kept low number rows actor others move (purposes_are_plans actor.start actor.answers actor.transaction.writes plan.0) consistent may fit.1,
    written_after rows actor move start writes plains fit.2,
  );
  last = λ number rows actor others write commit plan last fit. (
    last_fit low number rows actor others write commit plan.0 last plan.1 fit.1 (subst (λ s. HasWritten s actor.transaction.writes rows) (sym plan.2) (subst (λ ws. HasWritten start ws rows) (sym plan.3) fit.2)) fit.0,
    (let there = lock_there (rows write.key).lock actor.start (and_parts _ _ last.allowed).0 in
        own_replaced low rows write.key (version_of (lock_of write actor.start write.key) commit) there.0 there.1 there.2 fit.1),
    written_after rows actor (CommitPrimary write commit) start writes tt fit.2,
  );
}
