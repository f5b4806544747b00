-- Every move leaves a registration's row to the transaction whose start is its number.
use Rattle.std.proofs.Common.{◌≡◌, ◌≢◌, inl, inr, ℕ, Bool, true, false, ◌==◌, cond, List, [], ◌∷◌, Option, Some, None, refl, ap, sym, subst, ◌∙◌, arith}
use Rattle.std.proofs.lemmas.Bool.{and_parts, eq-eqb}
use Rattle.std.specs.List.{find, list_all}
use Rattle.pcj_table.proofs.RowLemmas.{no_row_is}
use Rattle.pcj_table.specs.Row.{has_nothing}
use Rattle.pcj_table.specs.Table.{Key}
use Rattle.pcj_table.specs.declared.lock.Lock.{Lock}
use Rattle.pcj_table.specs.declared.row.Row.{Row}
use Rattle.pcj_table.specs.declared.version.Version.{Version}
use Rattle.pcj_table.specs.declared.write.Write.{Write}
use Rattle.pcj_encode.proofs.Names.{names_one_row}
use Rattle.pcj_encode.specs.declared.key_name.KeyName.TheVariants as row
use Rattle.pcj_encode.specs.Name.{IsRegistration, key_of}
use Rattle.pcj_mvcc.proofs.Laws.{lock_there, replaced, rolled_back}
use Rattle.pcj_mvcc.proofs.Rows.{put_each}
use Rattle.pcj_mvcc.proofs.Versions.{all_added}
use Rattle.pcj_mvcc.specs.Acts.{lock_of, version_of}
use Rattle.pcj_mvcc.specs.Choices.{Choice, committed_row, under, with_commit}
use Rattle.pcj_mvcc.specs.Reading.{Rows, put}
use Rattle.pcj_moves.specs.declared.answer.Answer.{Answer}
use Rattle.pcj_moves.specs.Actors.{Actor}
use Rattle.pcj_moves.specs.Moves.{CommitNothing, CommitPrimary, CommitSecondary, Draw, DropPrimary, EndRecovery, IsAllowed, Learn, Meet, Move, Plan, Prewrite, Read, RollBack, RollForward, WritePlain, rows_after}
use Rattle.pcj_moves.specs.Transactions.{primary_of, write_at}
use Rattle.pcj_moves.proofs.ActorLemmas.{by_number}
use Rattle.pcj_moves.proofs.WriteLemmas.{distinct_are_there}
use Rattle.pcj_moves.specs.Moves.{IsConsistent}
use Rattle.pcj_rows.specs.OwnRows.{AreOwnFrom, IsOwnRow}
use Rattle.pcj_rows.specs.Plans.{HasPlan, absent_of, load_writes, registration_writes}
use Rattle.pcj_rows.specs.Rows.{Decodes}
use Rattle.pcj_rows.proofs.PlanLemmas.{Mark, absent_all, as_task, by_order, load_names, mark_name}
use Rattle.pcj_rows.proofs.RegisterLemmas.{register_names}
use Rattle.pcj_rows.proofs.WorkerLemmas.{work_leaves}
use Rattle.pcj_rows.proofs.WriteLemmas.{none_written}

-- ---- one row

-- where one row is changed
own_put : (low : ℕ) (rows : Rows) (key : Key) (found : Row) → AreOwnFrom low rows → ((registration : ℕ) → IsRegistration registration → key ≡ key_of (row.Registration registration) → IsOwnRow registration (rows key) → IsOwnRow registration found) →
    AreOwnFrom low (put rows key found)
own_put low rows key found own new registration le number =
    put_each (λ q r. q ≡ key_of (row.Registration registration) → IsOwnRow registration r) rows key found
    (λ same. new registration number same (subst (λ k. IsOwnRow registration (rows k)) (sym same) (own registration le number)))
    (λ q differs same. subst (λ k. IsOwnRow registration (rows k)) (sym same) (own registration le number)) (key_of (row.Registration registration)) refl

-- a lock is taken away, or becomes a version
own_unlocked : (low : ℕ) (rows : Rows) (key : Key) → AreOwnFrom low rows → AreOwnFrom low (put rows key (rolled_back (rows key)))
own_unlocked low rows key own = own_put low rows key (rolled_back (rows key)) own (λ registration number same was. record { lock = λ lock e. absurd cc; versions = was.versions })

pub own_replaced : (low : ℕ) (rows : Rows) (key : Key) (version : Version) (lock : Lock) → (rows key).lock ≡ Some lock → lock.start ≡ version.start → AreOwnFrom low rows → AreOwnFrom low (put rows key (replaced (rows key) version))
own_replaced low rows key version lock locked starts own = own_put low rows key (replaced (rows key) version) own (λ registration number same was. record {
  lock = λ other e. absurd cc;
  versions = all_added (λ v. v.start == registration) version (rows key).versions (eq-eqb version.start registration (sym starts ∙ was.lock lock locked)) was.versions;
})

-- ---- what is written

-- a plan writes the row of no registration but its own
writes_own : (start : ℕ) (answers : List Answer) (writes : List Write) (write : Write) (registration : ℕ) → HasPlan start answers writes → IsRegistration registration → write_at writes write.key ≡ Some write → write.key ≡ key_of (row.Registration registration) → start ≡ registration
writes_own start answers writes write registration plan number e same = by plan
  where
    unwritten : {A : Type 0} (all : List Write) → writes ≡ all → write_at all (key_of (row.Registration registration)) ≡ None → A
    unwritten all is none = absurd (let clash : None ≡ Some write = sym none ∙ ap (write_at all) (sym same) ∙ ap (λ ws. write_at ws write.key) (sym is) ∙ e in cc)

    not_marked : (mark : Mark) (triple : Rattle.pcj_term.specs.declared.triple.Triple.Triple) → mark_name mark triple ≢ row.Registration registration
    not_marked (by_order order) triple e = cc
    not_marked as_task triple e = cc

    by : HasPlan start answers writes → start ≡ registration
    by (inl none) = unwritten [] none refl
    by (inr (inl load)) = unwritten (load_writes (absent_of load.0 answers)) load.1.writes_are (none_written (load_writes (absent_of load.0 answers)) (row.Registration registration) number
        (load_names (λ n. n ≢ row.Registration registration) (absent_of load.0 answers) (absent_all Rattle.pcj_encode.specs.Name.IsTriple load.0 answers load.1.load.valid) not_marked))
    by (inr (inr (inr work))) = unwritten writes refl (work_leaves start answers writes (row.Registration registration) work number (λ other clash. cc) (λ registration node cells clash. cc))
    by (inr (inr (inl register))) = by_number start registration (λ is. is)
        (λ differs. unwritten (registration_writes start register.0 register.1) register.2.writes_are (none_written (registration_writes start register.0 register.1) (row.Registration registration) number
        (register_names (λ n. n ≢ row.Registration registration) start register.0 register.1 register.2.number register.2.of_query (λ clash. cc) (λ clash. differs (cc)) (λ node clash. cc) (λ node clash. cc))))

-- ---- each move

pub own_is_kept : (low number : ℕ) (rows : Rows) (actor : Actor) (others : List Actor) (move : Move) → HasPlan actor.start actor.answers actor.transaction.writes →
    IsConsistent (record { number = number; rows = rows; actors = actor ∷ others }) → IsAllowed move number rows actor → AreOwnFrom low rows → AreOwnFrom low (rows_after move actor rows)
own_is_kept low number rows actor others (Plan writes) plan consistent may own = own
own_is_kept low number rows actor others (Prewrite write) plan consistent may own = own_put low rows write.key _ own (λ registration numbered same was. record {
  lock = λ lock e.
      let one : Some (lock_of write actor.start (primary_of actor.transaction)) ≡ Some lock = e in
      let is : lock_of write actor.start (primary_of actor.transaction) ≡ lock = cc in
      ap (λ (l : Lock). l.start) (sym is)
      ∙ writes_own actor.start actor.answers actor.transaction.writes write registration plan numbered (distinct_are_there actor.transaction.writes actor.transaction.prewritten write consistent.sound.0.transacts.distinct may.next) same;
  versions = was.versions;
})
own_is_kept low number rows actor others (Draw commit) plan consistent may own = own
own_is_kept low number rows actor others (CommitPrimary write commit) plan consistent may own =
    let there = lock_there (rows write.key).lock actor.start (and_parts _ _ may.allowed).0 in own_replaced low rows write.key (version_of (lock_of write actor.start write.key) commit) there.0 there.1 there.2 own
own_is_kept low number rows actor others (CommitSecondary write commit) plan consistent may own =
    let there = lock_there (rows write.key).lock actor.start (and_parts _ _ may.allowed).0 in own_replaced low rows write.key (version_of (lock_of write actor.start write.key) commit) there.0 there.1 there.2 own
own_is_kept low number rows actor others (CommitNothing commit) plan consistent may own = own
own_is_kept low number rows actor others (Read answer) plan consistent may own = own
own_is_kept low number rows actor others (Meet key lock) plan consistent may own = own
own_is_kept low number rows actor others (Learn recovery) plan consistent may own = own
own_is_kept low number rows actor others (DropPrimary recovery) plan consistent may own = own_unlocked low rows recovery.lock.primary own
own_is_kept low number rows actor others (RollBack recovery) plan consistent may own = own_unlocked low rows recovery.key own
own_is_kept low number rows actor others (RollForward recovery commit) plan consistent may own =
    let there = lock_there (rows recovery.key).lock recovery.lock.start (and_parts _ _ may.2).0 in own_replaced low rows recovery.key (version_of recovery.lock commit) there.0 there.1 there.2 own
own_is_kept low number rows actor others EndRecovery plan consistent may own = own
own_is_kept low number rows actor others (WritePlain key plain) plan consistent may own = own_put low rows key _ own (λ registration numbered same was. record { lock = was.lock; versions = was.versions })

-- ---- under a choice

pub own_under : (low : ℕ) (choice : Choice) (rows : Rows) → AreOwnFrom low rows → AreOwnFrom low (under choice rows)
own_under low choice rows own registration le number = by (choice (key_of (row.Registration registration))) (rows (key_of (row.Registration registration))) (own registration le number)
  where
    by : (chosen : Option ℕ) (found : Row) → IsOwnRow registration found → IsOwnRow registration (with_commit chosen found)
    by None found is = is
    by (Some commit) found is = locked found.lock refl
      where
        locked : (lock : Option Lock) → found.lock ≡ lock → IsOwnRow registration (committed_row lock commit found)
        locked None e = is
        locked (Some lock) e = record {
          lock = λ other clash. absurd cc;
          versions = all_added (λ v. v.start == registration) (version_of lock commit) found.versions (eq-eqb lock.start registration (is.lock lock e)) is.versions;
        }

-- ---- numbers that weren't granted

-- no row is of such a registration
pub new_are_own : (number : ℕ) (rows : Rows) → Decodes number rows → AreOwnFrom number rows
new_are_own number rows decodes registration le numbered = by (has_nothing (rows (key_of (row.Registration registration)))) refl
  where
    by : (b : Bool) → has_nothing (rows (key_of (row.Registration registration))) ≡ b → IsOwnRow registration (rows (key_of (row.Registration registration)))
    by true none = subst (IsOwnRow registration) (sym (no_row_is (rows (key_of (row.Registration registration))) none)) (record { lock = λ lock e. absurd cc; versions = refl })
    by false some =
        let is = decodes (key_of (row.Registration registration)) some in
        let granted = subst (Rattle.pcj_rows.specs.Names.IsNameGranted number) (sym (names_one_row (row.Registration registration) is.name numbered is.valid is.is)) is.granted in
        absurd (let lt = granted.1 in omega (arith, lt, le))

-- ---- a row that is written first

-- it has no version yet
pub own_is_empty : (start : ℕ) (versions : List Version) → list_all (λ version. version.start == start) versions ≡ true → find (λ version. version.start == start) versions ≡ None → versions ≡ []
own_is_empty start [] all none = refl
own_is_empty start (version ∷ versions) all none = absurd (let is = (and_parts (version.start == start) _ all).0 in
    let clash : Some version ≡ None = ap (λ b. cond b (Some version) (find (λ v. v.start == start) versions)) (sym is) ∙ none in cc)
