-- What a commit of somebody else's load leaves of what is known.
use Rattle.std.proofs.Common.{◌≡◌, ◌⊎◌, inl, inr, ◌<◌, ℕ, Bool, true, false, not, is_some, nat_le, nat_lt, IsSome, List, [], ◌∷◌, length, take, filter, Option, Some, None, refl, ap, sym, subst, ◌∙◌, arith, cond}
use Rattle.std.proofs.lemmas.Bool.{le-leb, ltb-true, or_cases, or_left, or_right}
use Rattle.std.proofs.lemmas.List.{take_all}
use Rattle.std.specs.List.{All, Contains, list_any}
use Rattle.std.specs.Option.{option_map}
use Rattle.pcj_term.proofs.ByteLemmas.{same_bytes_are, same_bytes_itself}
use Rattle.pcj_term.proofs.ListLemmas.{first_or_later, first_there, later_there, nothing_in, passed_by_one}
use Rattle.pcj_term.proofs.Same.{same_triple_refl, same_triple_true}
use Rattle.pcj_term.specs.Order.{same_bytes}
use Rattle.pcj_term.specs.declared.triple.Triple.{Triple}
use Rattle.pcj_term.specs.Triple.{same_triple}
use Rattle.pcj_table.specs.Row.{are_below, newest, versions_up_to}
use Rattle.pcj_table.specs.Table.{Key}
use Rattle.pcj_table.specs.declared.lock.Lock.{Lock}
use Rattle.pcj_table.specs.declared.write.Write.{Write}
use Rattle.pcj_encode.specs.declared.order.Order.TheVariants.{Spo, Pos, Osp}
use Rattle.pcj_encode.specs.Name.{IsTriple}
use Rattle.pcj_rowtables.specs.Rows.{triple_key}
use Rattle.pcj_mvcc.proofs.Laws.{lock_cases, primary_commits}
use Rattle.pcj_mvcc.proofs.Versions.{all_weaker, up_to_all}
use Rattle.pcj_mvcc.specs.Acts.{commit_act, lock_of}
use Rattle.pcj_mvcc.specs.Reading.{Commits, OnePrimary, OnlyLock, Put, Rows, SameReading, acted, put_of, seen, standing, versions_read}
use Rattle.pcj_moves.specs.declared.answer.Answer.{Answer}
use Rattle.pcj_moves.specs.declared.answer.Answer.TheVariants.{OfRange, OfRow}
use Rattle.pcj_moves.specs.Actors.{Actor}
use Rattle.pcj_moves.specs.Moves.{IsConsistent, MayCommitPrimary}
use Rattle.pcj_moves.specs.Reads.{Reads, value_seen}
use Rattle.pcj_moves.specs.Traces.{Trace, traces}
use Rattle.pcj_moves.specs.Transactions.{lock_at, primary_of, write_at}
use Rattle.pcj_moves.proofs.ConsistencyLemmas.{its_first}
use Rattle.pcj_moves.proofs.OtherLemmas.{lock_is, ripe_is_held}
use Rattle.pcj_moves.proofs.OwnLemmas.{lock_is_of_write}
use Rattle.pcj_moves.proofs.StepLemmas.{AtPrimary, at_primary, names_one, trace_lock, uncommitted}
use Rattle.pcj_rows.specs.Plans.{AreReadOf, IsLoadPlan, absent_of, put_mark, task_key}
use Rattle.pcj_rows.specs.Triples.{HasTriples}
use Rattle.pcj_rows.proofs.PlanLemmas.{Mark, absent_all, as_task, by_order, is_among, mark_key, mark_written, written_by}
use Rattle.pcj_client.specs.Job.Content.{Loads}
use Rattle.pcj_model.specs.Job as told
use Rattle.pcj_jobs.specs.Known.{AreUntouched, is_row_of}

-- ---- the rows of a triple

pub mark_of : (triple : Triple) (key : Key) → is_row_of triple key ≡ true → (mark : Mark) × (key ≡ mark_key mark triple)
mark_of triple key is = by (same_bytes key (triple_key Spo triple)) refl (same_bytes key (triple_key Pos triple)) refl (same_bytes key (triple_key Osp triple)) refl (same_bytes key (task_key triple)) refl
  where
    by : (a : Bool) → same_bytes key (triple_key Spo triple) ≡ a → (b : Bool) → same_bytes key (triple_key Pos triple) ≡ b → (c : Bool) → same_bytes key (triple_key Osp triple) ≡ c → (d : Bool) → same_bytes key (task_key triple) ≡ d →
        (mark : Mark) × (key ≡ mark_key mark triple)
    by true ea b eb c ec d ed = (by_order Spo, same_bytes_are key (triple_key Spo triple) ea)
    by false ea true eb c ec d ed = (by_order Pos, same_bytes_are key (triple_key Pos triple) eb)
    by false ea false eb true ec d ed = (by_order Osp, same_bytes_are key (triple_key Osp triple) ec)
    by false ea false eb false ec true ed = (as_task, same_bytes_are key (task_key triple) ed)
    by false ea false eb false ec false ed = absurd (let none : is_row_of triple key ≡ false = rw (ea, eb, ec, ed) refl in let clash : true ≡ false = sym is ∙ none in cc)

pub of_mark : (mark : Mark) (triple : Triple) → is_row_of triple (mark_key mark triple) ≡ true
of_mark (by_order Spo) triple = rw (same_bytes_itself (triple_key Spo triple)) refl
of_mark (by_order Pos) triple = by (same_bytes (triple_key Pos triple) (triple_key Spo triple))
  where
    by : (a : Bool) → is_some (cond a (Some (put_mark (triple_key Spo triple))) (cond (same_bytes (triple_key Pos triple) (triple_key Pos triple)) (Some (put_mark (triple_key Pos triple))) (write_at (put_mark (triple_key Osp triple) ∷ put_mark (task_key triple) ∷ []) (triple_key Pos triple)))) ≡ true
    by true = refl
    by false = rw (same_bytes_itself (triple_key Pos triple)) refl
of_mark (by_order Osp) triple = by (same_bytes (triple_key Osp triple) (triple_key Spo triple)) (same_bytes (triple_key Osp triple) (triple_key Pos triple))
  where
    by : (a b : Bool) → is_some (cond a (Some (put_mark (triple_key Spo triple))) (cond b (Some (put_mark (triple_key Pos triple))) (cond (same_bytes (triple_key Osp triple) (triple_key Osp triple)) (Some (put_mark (triple_key Osp triple))) (write_at (put_mark (task_key triple) ∷ []) (triple_key Osp triple))))) ≡ true
    by true b = refl
    by false true = refl
    by false false = rw (same_bytes_itself (triple_key Osp triple)) refl
of_mark as_task triple = by (same_bytes (task_key triple) (triple_key Spo triple)) (same_bytes (task_key triple) (triple_key Pos triple)) (same_bytes (task_key triple) (triple_key Osp triple))
  where
    by : (a b c : Bool) → is_some (cond a (Some (put_mark (triple_key Spo triple))) (cond b (Some (put_mark (triple_key Pos triple))) (cond c (Some (put_mark (triple_key Osp triple))) (cond (same_bytes (task_key triple) (task_key triple)) (Some (put_mark (task_key triple))) None)))) ≡ true
    by true b c = refl
    by false true c = refl
    by false false true = refl
    by false false false = rw (same_bytes_itself (task_key triple)) refl

-- ---- the triples of a load that weren't found

some_written : (b : Bool) (key : Key) → is_some (written_by b key) ≡ true → b ≡ true
some_written true key e = refl
some_written false key e = absurd cc

-- nothing of them was seen at the start
pub absent_unseen : (rows : Rows) (start : ℕ) (triples : List Triple) (answers : List Answer) (triple : Triple) → AreReadOf triples answers → Reads rows start answers → is_among triple (absent_of triples answers) ≡ true → value_seen rows (triple_key Spo triple) start ≡ None
absent_unseen rows start [] answers triple reads seen there = absurd cc
absent_unseen rows start (first ∷ triples) [] triple reads seen there = absurd cc
absent_unseen rows start (first ∷ triples) (OfRow key None ∷ answers) triple reads seen there = elim (or_cases (same_triple triple first) (is_among triple (absent_of triples answers)) there) [
  | inl here ↦ ap (λ t. value_seen rows (triple_key Spo t) start) (same_triple_true triple first here) ∙ ap (λ k. value_seen rows k start) (sym reads.0)
      ∙ seen (OfRow key None) (first_there (OfRow key None) answers) key (same_bytes_itself key)
  | inr later ↦ absent_unseen rows start triples answers triple reads.1 (λ answer held. seen answer (later_there (OfRow key None) answers answer held)) later
]
absent_unseen rows start (first ∷ triples) (OfRow key (Some value) ∷ answers) triple reads seen there =
    absent_unseen rows start triples answers triple reads.1 (λ answer held. seen answer (later_there (OfRow key (Some value)) answers answer held)) there
absent_unseen rows start (first ∷ triples) (OfRange after end found ∷ answers) triple reads seen there = absurd reads

-- and they are of its triples
pub absent_is_its : (triples : List Triple) (answers : List Answer) (triple : Triple) → is_among triple (absent_of triples answers) ≡ true → Contains triples triple
absent_is_its [] answers triple there = absurd cc
absent_is_its (first ∷ triples) [] triple there = absurd cc
absent_is_its (first ∷ triples) (OfRow key None ∷ answers) triple there = elim (or_cases (same_triple triple first) (is_among triple (absent_of triples answers)) there) [
  | inl here ↦ subst (Contains (first ∷ triples)) (sym (same_triple_true triple first here)) (first_there first triples)
  | inr later ↦ later_there first triples triple (absent_is_its triples answers triple later)
]
absent_is_its (first ∷ triples) (OfRow key (Some value) ∷ answers) triple there = later_there first triples triple (absent_is_its triples answers triple there)
absent_is_its (first ∷ triples) (OfRange after end found ∷ answers) triple there = later_there first triples triple (absent_is_its triples answers triple there)

-- one that passes is among those that are kept
passes_kept : (keep test : Triple → Bool) (triples : List Triple) (triple : Triple) → Contains triples triple → keep triple ≡ true → test triple ≡ true → list_any test (filter keep triples) ≡ true
passes_kept keep test [] triple there kept passes = absurd (nothing_in triple there)
passes_kept keep test (first ∷ triples) triple there kept passes = by (first_or_later first triples triple there) (passes_kept keep test triples triple)
  where
    by : (first ≡ triple) ⊎ Contains triples triple → (Contains triples triple → keep triple ≡ true → test triple ≡ true → list_any test (filter keep triples) ≡ true) → list_any test (filter keep (first ∷ triples)) ≡ true
    by (inl same) rest = ap (λ b. list_any test (cond b (first ∷ filter keep triples) (filter keep triples))) (ap keep same ∙ kept) ∙ or_left (test first) (list_any test (filter keep triples)) (ap test same ∙ passes)
    by (inr later) rest = more (keep first) refl (rest later kept passes)
      where
        more : (b : Bool) → keep first ≡ b → list_any test (filter keep triples) ≡ true → list_any test (filter keep (first ∷ triples)) ≡ true
        more true e h = ap (λ b. list_any test (cond b (first ∷ filter keep triples) (filter keep triples))) e ∙ or_right (test first) (list_any test (filter keep triples)) h
        more false e h = ap (λ b. list_any test (cond b (first ∷ filter keep triples) (filter keep triples))) e ∙ h

pub among : (triples : List Triple) (triple : Triple) → Contains triples triple → told.is_among triples triple ≡ true
among [] triple there = absurd (nothing_in triple there)
among (first ∷ triples) triple there = elim (first_or_later first triples triple there) [
  | inl same ↦ or_left (same_triple triple first) (list_any (same_triple triple) triples) (ap (same_triple triple) same ∙ same_triple_refl triple)
  | inr later ↦ or_right (same_triple triple first) (list_any (same_triple triple) triples) (among triples triple later)
]

-- ---- the commit

pub record Facts (rows : Rows) (actor : Actor) (write : Write) (commit : ℕ) : Type 0 where
  pub at : AtPrimary rows actor.start actor.transaction write commit
  pub commits : Commits actor.start commit rows (acted rows write.key (commit_act write actor.start commit))

pub facts_of : (number : ℕ) (rows : Rows) (actor : Actor) (others : List Actor) (write : Write) (commit : ℕ) → IsConsistent (record { number = number; rows = rows; actors = actor ∷ others }) → MayCommitPrimary rows actor write commit → Facts rows actor write commit
facts_of number rows actor others write commit is may = record { at = at; commits = primary_commits rows write actor.start commit may.allowed only one none }
  where
    first : (rest : List Write) × (actor.transaction.writes ≡ write ∷ rest)
    first = its_first rows actor write commit may

    at : AtPrimary rows actor.start actor.transaction write commit
    at = at_primary rows actor.start actor.transaction write first.0 commit is.times is.sound.0.transacts first.1 may.drawn may.undone may.allowed

    primary : primary_of actor.transaction ≡ write.key
    primary = ap Rattle.pcj_moves.specs.Transactions.first_key first.1

    only : OnlyLock rows write.key (lock_of write actor.start write.key)
    only l e same = let clash : Some l ≡ Some (lock_of write actor.start write.key) = sym (trace_lock rows write.key actor.start l e same) ∙ ap (λ (t : Trace). t.lock) at.was in cc

    one : OnePrimary rows write.key actor.start
    one key l e same = names_one rows actor.start actor.transaction is.sound.0.transacts key l e same ∙ primary

    none : Rattle.pcj_mvcc.specs.Reading.committed rows write.key actor.start ≡ None
    none = ap (λ k. Rattle.pcj_mvcc.specs.Reading.committed rows k actor.start) (sym primary) ∙ uncommitted rows actor.start actor.transaction is.sound.0.transacts may.undone

-- what is locked by it is the row of one of its triples, and that triple didn't stand before
pub record IsNew (before : Rows) (triples : List Triple) (triple : Triple) : Type 0 where
  pub its : Contains triples triple
  pub absent : standing before (triple_key Spo triple) ≡ None

nothing_put : (found : Option Put) → option_map (λ (p : Put). p.0) found ≡ None → found ≡ None
nothing_put None e = refl
nothing_put (Some found) e = absurd cc

pub locked_is_new : (number : ℕ) (rows : Rows) (actor : Actor) (others : List Actor) (write : Write) (commit : ℕ) (last : Rows) (answers : List Answer) (triples : List Triple) (triple : Triple) (key : Key) (lock : Lock) →
    IsConsistent (record { number = number; rows = rows; actors = actor ∷ others }) → MayCommitPrimary rows actor write commit → Facts rows actor write commit → SameReading (acted rows write.key (commit_act write actor.start commit)) last →
    IsLoadPlan actor.start answers actor.transaction.writes triples → Reads last actor.start answers → IsTriple triple → is_row_of triple key ≡ true → (rows key).lock ≡ Some lock → lock.start ≡ actor.start → IsNew rows triples triple
locked_is_new number rows actor others write commit last answers triples triple key lock is may facts same plan reads valid row locked own = record { its = absent_is_its triples answers triple there; absent = nothing_put (standing rows (triple_key Spo triple)) unseen }
  where
    start : ℕ
    start = actor.start

    taken : take actor.transaction.prewritten actor.transaction.writes ≡ actor.transaction.writes
    taken = ap (λ n. take n actor.transaction.writes) (is.sound.0.transacts.all commit may.drawn) ∙ take_all (length actor.transaction.writes) actor.transaction.writes (omega arith)

    mark : (mark : Mark) × (key ≡ mark_key mark triple)
    mark = mark_of triple key row

    written : (m : Mark) → write_at actor.transaction.writes (mark_key m triple) ≡ written_by (is_among triple (absent_of triples answers)) (mark_key m triple)
    written m = ap (λ ws. write_at ws (mark_key m triple)) plan.writes_are ∙ mark_written (absent_of triples answers) m triple (absent_all IsTriple triples answers plan.load.valid) valid

    some_of : (found : Option Write) (l : Lock) → option_map (λ w. lock_of w actor.start (primary_of actor.transaction)) found ≡ Some l → is_some found ≡ true
    some_of None l e = absurd cc
    some_of (Some w) l e = refl

    there : is_among triple (absent_of triples answers) ≡ true
    there = some_written (is_among triple (absent_of triples answers)) (mark_key mark.0 triple)
        (ap is_some (sym (written mark.0)) ∙ ap (λ k. is_some (write_at actor.transaction.writes k)) (sym mark.1) ∙ ap (λ ws. is_some (write_at ws key)) (sym taken)
        ∙ some_of (write_at (take actor.transaction.prewritten actor.transaction.writes) key) lock (lock_is_of_write actor.start actor.transaction (traces actor.start rows) key lock is.sound.0.transacts (trace_lock rows key actor.start lock locked own)))

    spo : Key
    spo = triple_key Spo triple

    held : (traces actor.start rows (triple_key Spo triple)).lock ≡ Some (lock_of (put_mark (triple_key Spo triple)) actor.start (primary_of actor.transaction))
    held = ap (λ (t : Trace). t.lock) (ripe_is_held actor.start actor.transaction (traces actor.start rows) commit is.sound.0.transacts facts.at.ripe (triple_key Spo triple))
        ∙ ap (option_map (λ w. lock_of w actor.start (primary_of actor.transaction))) (ap (λ ws. write_at ws (triple_key Spo triple)) taken ∙ written (by_order Spo) ∙ ap (λ b. written_by b (triple_key Spo triple)) there)

    stands : ((rows (triple_key Spo triple)).lock ≡ Some (lock_of (put_mark (triple_key Spo triple)) actor.start (primary_of actor.transaction))) × (actor.start ≡ actor.start)
    stands = lock_is (rows (triple_key Spo triple)).lock actor.start _ held

    below : are_below actor.start (versions_read rows (triple_key Spo triple)) ≡ true
    below = ap (are_below actor.start) (facts.commits.before (triple_key Spo triple) _ stands.0 refl) ∙ is.times.last (triple_key Spo triple) _ stands.0

    all_seen : seen rows (triple_key Spo triple) actor.start ≡ standing rows (triple_key Spo triple)
    all_seen = ap (λ vs. put_of (newest vs)) (up_to_all actor.start (versions_read rows (triple_key Spo triple))
        (all_weaker (λ v. nat_lt v.commit actor.start) (λ v. nat_le v.commit actor.start) (λ v lt. le-leb v.commit actor.start (let less : v.commit < actor.start = ltb-true v.commit actor.start lt in omega arith)) (versions_read rows (triple_key Spo triple)) below))

    unseen : option_map (λ (p : Put). p.0) (standing rows (triple_key Spo triple)) ≡ None
    unseen = ap (option_map (λ (p : Put). p.0)) (sym all_seen ∙ sym (facts.at.at_once.before (triple_key Spo triple) actor.start (is.sound.0.transacts.later commit may.drawn)))
        ∙ ap (λ vs. option_map (λ (p : Put). p.0) (put_of (newest (versions_up_to actor.start vs)))) (sym (same (triple_key Spo triple)))
        ∙ absent_unseen last actor.start triples answers triple plan.reads reads there

-- So the rows of others' triples stay untouched, unless one of them joins.
pub untouched_by_load : (number : ℕ) (rows : Rows) (actor : Actor) (others : List Actor) (write : Write) (commit : ℕ) (first last : Rows) (answers : List Answer) (triples known : List Triple) (time : ℕ) (its : List Triple) →
    IsConsistent (record { number = number; rows = rows; actors = actor ∷ others }) → MayCommitPrimary rows actor write commit → SameReading first rows → SameReading (acted rows write.key (commit_act write actor.start commit)) last →
    IsLoadPlan actor.start answers actor.transaction.writes triples → Reads last actor.start answers → HasTriples first known → All IsTriple its →
    list_any (told.is_among its) (filter (λ triple. not (told.is_among known triple)) triples) ≡ false → AreUntouched first time (Loads its) → AreUntouched last time (Loads its)
untouched_by_load number rows actor others write commit first last answers triples known time its is may before same plan reads has valid none untouched triple there key row =
    ap (are_below time) (same key) ∙ by (lock_cases (rows key).lock actor.start)
  where
    facts : Facts rows actor write commit
    facts = facts_of number rows actor others write commit is may

    by : ((l : Lock) × ((rows key).lock ≡ Some l) × (l.start ≡ actor.start)) ⊎ (Rattle.pcj_table.specs.Row.is_locked_at actor.start (rows key).lock ≡ false) → are_below time (versions_read (acted rows write.key (commit_act write actor.start commit)) key) ≡ true
    by (inr free) = ap (are_below time) (facts.commits.others key free ∙ before key) ∙ untouched triple there key row
    by (inl found) = absurd (let clash : true ≡ false = sym (passes_kept (λ t. not (told.is_among known t)) (told.is_among its) triples triple new.its (ap not other) (among its triple there)) ∙ none in cc)
      where
        is_triple : IsTriple triple
        is_triple = Rattle.std.proofs.lemmas.List.Elements.All-contains IsTriple its triple valid there

        new : IsNew rows triples triple
        new = locked_is_new number rows actor others write commit last answers triples triple key found.0 is may facts same plan reads is_triple row found.1 found.2

        not_known : (b : Bool) → told.is_among known triple ≡ b → b ≡ false
        not_known true e = absurd (
            let one = passed_by_one (same_triple triple) known e in
            let held : Contains known triple = subst (Contains known) (sym (same_triple_true triple one.0 one.2)) one.1 in
            let stood : IsSome (standing first (triple_key Spo triple)) = (has.each triple is_triple).0 held in
            let gone : standing first (triple_key Spo triple) ≡ None = ap (λ vs. put_of (newest vs)) (sym (before (triple_key Spo triple))) ∙ new.absent in
            let clash : false ≡ true = ap is_some (sym gone) ∙ stood in cc
            )
        not_known false e = refl

        other : told.is_among known triple ≡ false
        other = not_known (told.is_among known triple) refl
