-- What a commit of somebody else's job leaves of the rows of another job, of either kind.
use Rattle.std.proofs.Common.{◌≡◌, ◌≢◌, ◌⊎◌, inl, inr, ℕ, zero, suc, Bool, true, false, not, ◌||◌, is_some, List, [], ◌∷◌, length, take, filter, Option, Some, None, refl, ap, sym, ◌∙◌, arith, cond}
use Rattle.std.proofs.lemmas.List.{take_all}
use Rattle.std.specs.List.{All, list_any, slice_get}
use Rattle.std.specs.Option.{option_map}
use Rattle.pcj_term.proofs.ByteLemmas.{same_bytes_are, same_bytes_itself}
use Rattle.pcj_term.specs.Order.{same_bytes}
use Rattle.pcj_term.specs.declared.triple.Triple.{Triple}
use Rattle.pcj_table.specs.Row.{are_below, is_locked_at}
use Rattle.pcj_table.specs.Table.{Key}
use Rattle.pcj_table.specs.declared.lock.Lock.{Lock}
use Rattle.pcj_table.specs.declared.write.Write.{Write}
use Rattle.pcj_encode.specs.declared.task_name.TaskName.TheVariants as task
use Rattle.pcj_encode.specs.declared.key_name.KeyName.{KeyName}
use Rattle.pcj_encode.specs.declared.key_name.KeyName.TheVariants as row
use Rattle.pcj_encode.specs.Name.{IsName, IsRegistration, IsTriple, key_of}
use Rattle.pcj_mvcc.proofs.Laws.{lock_cases}
use Rattle.pcj_mvcc.specs.Acts.{commit_act, lock_of}
use Rattle.pcj_mvcc.specs.Reading.{Rows, SameReading, acted, versions_read}
use Rattle.pcj_tree.specs.declared.tree.Tree.{Tree}
use Rattle.pcj_moves.specs.declared.answer.Answer.{Answer}
use Rattle.pcj_moves.specs.Actors.{Actor}
use Rattle.pcj_moves.specs.Moves.{IsConsistent, MayCommitPrimary}
use Rattle.pcj_moves.specs.Reads.{Reads}
use Rattle.pcj_moves.specs.Traces.{traces}
use Rattle.pcj_moves.specs.Transactions.{primary_of, write_at}
use Rattle.pcj_moves.proofs.OwnLemmas.{lock_is_of_write}
use Rattle.pcj_moves.proofs.StepLemmas.{trace_lock}
use Rattle.pcj_rows.specs.Plans.{IsLoadPlan, IsRegisterPlan, absent_of, load_writes, registration_writes}
use Rattle.pcj_rows.specs.Registrations.{IsQueryTree}
use Rattle.pcj_rows.specs.Triples.{HasTriples}
use Rattle.pcj_rows.proofs.PlanLemmas.{Mark, absent_all, as_task, by_order, load_names, mark_name, mark_unwritten}
use Rattle.pcj_rows.proofs.RegisterLemmas.{register_names}
use Rattle.pcj_rows.proofs.WriteLemmas.{EachWrite, IsNamed, none_written}
use Rattle.pcj_client.specs.Job.{Content}
use Rattle.pcj_client.specs.Job.Content.{Loads, Registers}
use Rattle.pcj_model.specs.Job as told
use Rattle.pcj_jobs.specs.Known.{AreUntouched, IsContentOf, is_row_of_query}
use Rattle.pcj_jobs.proofs.CommitLemmas.{Facts, facts_of, mark_of, untouched_by_load}

-- ---- what a job of either kind is to write

abbrev pub IsPlanOf : Content → ℕ → List Answer → List Write → Type 0
IsPlanOf (Loads triples) start answers writes = IsLoadPlan start answers writes triples
IsPlanOf (Registers name tree) start answers writes = IsRegisterPlan start answers writes name tree

-- its triples are valid, or its number and its tree
abbrev pub IsValidContent : ℕ → Content → Type 0
IsValidContent start (Loads triples) = All IsTriple triples
IsValidContent start (Registers name tree) = IsRegistration start × IsQueryTree tree

-- ---- rows that a commit doesn't write

some_written : (found : Option Write) (start : ℕ) (primary : Key) (lock : Lock) → option_map (λ w. lock_of w start primary) found ≡ Some lock → found ≡ None → ⊥
some_written None start primary lock e none = cc
some_written (Some write) start primary lock e none = cc

-- they are read as before
pub unwritten_stays : (number : ℕ) (rows : Rows) (actor : Actor) (others : List Actor) (write : Write) (commit : ℕ) (key : Key) → IsConsistent (record { number = number; rows = rows; actors = actor ∷ others }) → MayCommitPrimary rows actor write commit →
    write_at actor.transaction.writes key ≡ None → versions_read (acted rows write.key (commit_act write actor.start commit)) key ≡ versions_read rows key
unwritten_stays number rows actor others write commit key is may unwritten = by (lock_cases (rows key).lock actor.start)
  where
    taken : take actor.transaction.prewritten actor.transaction.writes ≡ actor.transaction.writes
    taken = ap (λ n. take n actor.transaction.writes) (is.sound.0.transacts.all commit may.drawn) ∙ take_all (length actor.transaction.writes) actor.transaction.writes (omega arith)

    facts : Facts rows actor write commit
    facts = facts_of number rows actor others write commit is may

    by : ((l : Lock) × ((rows key).lock ≡ Some l) × (l.start ≡ actor.start)) ⊎ (is_locked_at actor.start (rows key).lock ≡ false) → versions_read (acted rows write.key (commit_act write actor.start commit)) key ≡ versions_read rows key
    by (inr free) = facts.commits.others key free
    by (inl found) = absurd (some_written (write_at (take actor.transaction.prewritten actor.transaction.writes) key) actor.start (primary_of actor.transaction) found.0
        (lock_is_of_write actor.start actor.transaction (traces actor.start rows) key found.0 is.sound.0.transacts (trace_lock rows key actor.start found.0 found.1 found.2))
        (ap (λ ws. write_at ws key) taken ∙ unwritten))

-- ---- the rows of a registration

-- of rows whose names aren't written none is written
none_of_named : (writes others : List Write) (key : Key) → EachWrite (IsNamed (λ name. IsName name → write_at writes (key_of name) ≡ None)) others → is_some (write_at others key) ≡ true → write_at writes key ≡ None
none_of_named writes [] key each some = absurd cc
none_of_named writes (other ∷ others) key each some = by (same_bytes key other.key) refl (none_of_named writes others key each.1)
  where
    here : key ≡ other.key → write_at writes key ≡ None
    here same = ap (write_at writes) (same ∙ each.0.2) ∙ each.0.3 each.0.1

    by : (b : Bool) → same_bytes key other.key ≡ b → (is_some (write_at others key) ≡ true → write_at writes key ≡ None) → write_at writes key ≡ None
    by true e later = here (same_bytes_are key other.key e)
    by false e later = later (ap (λ b. is_some (cond b (Some other) (write_at others key))) (sym e) ∙ some)

-- a load writes none of them
load_apart : (triples : List Triple) (number : ℕ) (name : List ℕ) (tree : Tree) (key : Key) → All IsTriple triples → IsRegistration number → IsQueryTree tree → is_row_of_query number name tree key ≡ true → write_at (load_writes triples) key ≡ None
load_apart triples number name tree key valid numbered of_query is =
    none_of_named (load_writes triples) (registration_writes number name tree) key
    (register_names (λ other. IsName other → write_at (load_writes triples) (key_of other) ≡ None) number name tree numbered of_query
    (λ valid_name. none (row.Name name) valid_name (λ mark triple. no_name mark triple))
    (λ valid_name. none (row.Registration number) valid_name (λ mark triple. no_registration mark triple))
    (λ node valid_name. none (row.Pattern number node) valid_name (λ mark triple. no_pattern mark triple node))
    (λ node valid_name. none (row.Task (task.Backfill number node)) valid_name (λ mark triple. no_backfill mark triple node))) is
  where
    none : (other : KeyName) → IsName other → ((mark : Mark) (triple : Triple) → mark_name mark triple ≢ other) → write_at (load_writes triples) (key_of other) ≡ None
    none other valid_name differs = none_written (load_writes triples) other valid_name (load_names (λ written. written ≢ other) triples valid differs)

    no_name : (mark : Mark) (triple : Triple) → mark_name mark triple ≢ row.Name name
    no_name (by_order order) triple e = cc
    no_name as_task triple e = cc

    no_registration : (mark : Mark) (triple : Triple) → mark_name mark triple ≢ row.Registration number
    no_registration (by_order order) triple e = cc
    no_registration as_task triple e = cc

    no_pattern : (mark : Mark) (triple : Triple) (node : ℕ) → mark_name mark triple ≢ row.Pattern number node
    no_pattern (by_order order) triple node e = cc
    no_pattern as_task triple node e = cc

    no_backfill : (mark : Mark) (triple : Triple) (node : ℕ) → mark_name mark triple ≢ row.Task (task.Backfill number node)
    no_backfill (by_order order) triple node e = cc
    no_backfill as_task triple node e = cc

-- nor does a registration of another number and another name
query_apart : (start : ℕ) (own : List ℕ) (its : Tree) (number : ℕ) (name : List ℕ) (tree : Tree) (key : Key) → IsRegistration start → IsQueryTree its → IsRegistration number → IsQueryTree tree → number ≢ start → name ≢ own →
    is_row_of_query number name tree key ≡ true → write_at (registration_writes start own its) key ≡ None
query_apart start own its number name tree key started of_its numbered of_query other_number other_name is =
    none_of_named (registration_writes start own its) (registration_writes number name tree) key
    (register_names (λ other. IsName other → write_at (registration_writes start own its) (key_of other) ≡ None) number name tree numbered of_query
    (λ valid_name. none_written (registration_writes start own its) (row.Name name) valid_name
    (register_names (λ written. written ≢ row.Name name) start own its started of_its (λ e. other_name (let same : own ≡ name = cc in sym same)) (λ e. cc) (λ node e. cc) (λ node e. cc)))
    (λ valid_name. none_written (registration_writes start own its) (row.Registration number) valid_name
    (register_names (λ written. written ≢ row.Registration number) start own its started of_its (λ e. cc) (λ e. other_number (let same : start ≡ number = cc in sym same)) (λ node e. cc) (λ node e. cc)))
    (λ at valid_name. none_written (registration_writes start own its) (row.Pattern number at) valid_name
    (register_names (λ written. written ≢ row.Pattern number at) start own its started of_its (λ e. cc) (λ e. cc) (λ node e. other_number (let same : start ≡ number = cc in sym same)) (λ node e. cc)))
    (λ at valid_name. none_written (registration_writes start own its) (row.Task (task.Backfill number at)) valid_name
    (register_names (λ written. written ≢ row.Task (task.Backfill number at)) start own its started of_its (λ e. cc) (λ e. cc) (λ node e. cc) (λ node e. other_number (let same : start ≡ number = cc in sym same))))) is

-- ---- another job's rows

-- the name of another registration that joins is another one
name_differs : (name other known joined : List ℕ) → known ≡ name → joined ≡ other → list_any (same_bytes known) (joined ∷ []) ≡ false → name ≢ other
name_differs name other known joined is that none same =
    let alike : same_bytes known joined ≡ true = ap (same_bytes known) (that ∙ sym same ∙ sym is) ∙ same_bytes_itself known in
    let clash : true ≡ false = sym (ap (λ b. b || false) alike) ∙ none in cc

-- They stay untouched, unless one of its triples joins, or its name.
pub untouched_by_commit : (number : ℕ) (rows : Rows) (actor : Actor) (others : List Actor) (write : Write) (commit : ℕ) (first last : Rows) (answers : List Answer) (content : Content) (told_of : told.Content) (known : List Triple) (time : ℕ) (its : Content) (told_its : told.Content) →
    IsConsistent (record { number = number; rows = rows; actors = actor ∷ others }) → MayCommitPrimary rows actor write commit → SameReading first rows → SameReading (acted rows write.key (commit_act write actor.start commit)) last →
    IsPlanOf content actor.start answers actor.transaction.writes → Reads last actor.start answers → HasTriples first known → IsContentOf content told_of → IsContentOf its told_its → IsValidContent time its → time ≢ actor.start →
    told.is_rival told_its (filter (λ triple. not (told.is_among known triple)) (told.triples_of told_of)) (told.names_of told_of) ≡ false → AreUntouched first time its → AreUntouched last time its
untouched_by_commit number rows actor others write commit first last answers (Loads triples) (told.Content.Registration joined query) known time its told_its is may before same plan reads has told_content told_other valid differs none untouched = absurd told_content
untouched_by_commit number rows actor others write commit first last answers (Registers name tree) (told.Content.Load joined) known time its told_its is may before same plan reads has told_content told_other valid differs none untouched = absurd told_content
untouched_by_commit number rows actor others write commit first last answers content told_of known time (Loads triples) (told.Content.Registration its_name its_query) is may before same plan reads has told_content told_other valid differs none untouched = absurd told_other
untouched_by_commit number rows actor others write commit first last answers content told_of known time (Registers name tree) (told.Content.Load its_triples) is may before same plan reads has told_content told_other valid differs none untouched = absurd told_other
untouched_by_commit number rows actor others write commit first last answers (Loads triples) (told.Content.Load joined) known time (Loads its) (told.Content.Load its_known) is may before same plan reads has told_content told_other valid differs none untouched =
    untouched_by_load number rows actor others write commit first last answers triples known time its is may before same plan reads has valid
    (ap (λ ts. list_any (told.is_among its) (filter (λ triple. not (told.is_among known triple)) ts)) (sym told_content)
    ∙ ap (λ ts. list_any (told.is_among ts) (filter (λ triple. not (told.is_among known triple)) joined)) (sym told_other) ∙ none) untouched
untouched_by_commit number rows actor others write commit first last answers (Loads triples) (told.Content.Load joined) known time (Registers name tree) (told.Content.Registration its_name its_query) is may before same plan reads has told_content told_other valid differs none untouched = λ key row_is.
    ap (are_below time) (same key ∙ unwritten_stays number rows actor others write commit key is may
    (ap (λ ws. write_at ws key) plan.writes_are ∙ load_apart (absent_of triples answers) time name tree key (absent_all IsTriple triples answers plan.load.valid) valid.0 valid.1 row_is) ∙ before key) ∙ untouched key row_is
untouched_by_commit number rows actor others write commit first last answers (Registers name tree) (told.Content.Registration joined query) known time (Loads its) (told.Content.Load its_known) is may before same plan reads has told_content told_other valid differs none untouched = λ triple there key row_is.
    let mark = mark_of triple key row_is in
    ap (are_below time) (same key ∙ unwritten_stays number rows actor others write commit key is may
    (ap (λ ws. write_at ws key) plan.writes_are ∙ ap (write_at (registration_writes actor.start name tree)) mark.1
    ∙ mark_unwritten actor.start name tree mark.0 triple plan.number plan.of_query (Rattle.std.proofs.lemmas.List.Elements.All-contains IsTriple its triple valid there)) ∙ before key) ∙ untouched triple there key row_is
untouched_by_commit number rows actor others write commit first last answers (Registers name tree) (told.Content.Registration joined query) known time (Registers own its) (told.Content.Registration its_name its_query) is may before same plan reads has told_content told_other valid differs none untouched = λ key row_is.
    ap (are_below time) (same key ∙ unwritten_stays number rows actor others write commit key is may
    (ap (λ ws. write_at ws key) plan.writes_are ∙ query_apart actor.start name tree time own its key plan.number plan.of_query valid.0 valid.1 differs (name_differs own name its_name joined told_other.0 told_content.0 none) row_is) ∙ before key) ∙ untouched key row_is

-- ---- a job's own rows

pub write_there : (writes : List Write) (place : ℕ) (write : Write) → slice_get writes place ≡ Some write → is_some (write_at writes write.key) ≡ true
write_there [] place write at = absurd cc
write_there (first ∷ writes) place write at = by (same_bytes write.key first.key) refl place at (λ later found. write_there writes later write found)
  where
    by : (b : Bool) → same_bytes write.key first.key ≡ b → (n : ℕ) → slice_get (first ∷ writes) n ≡ Some write → ((later : ℕ) → slice_get writes later ≡ Some write → is_some (write_at writes write.key) ≡ true) → is_some (write_at (first ∷ writes) write.key) ≡ true
    by true e n found later = ap (λ b. is_some (cond b (Some first) (write_at writes write.key))) e
    by false e zero found later = absurd (let same : first ≡ write = cc in let clash : true ≡ false = sym (same_bytes_itself write.key) ∙ ap (λ (w : Write). same_bytes write.key w.key) (sym same) ∙ e in cc)
    by false e (suc n) found later = ap (λ b. is_some (cond b (Some first) (write_at writes write.key))) e ∙ later n found
