-- Each step of a transaction is a move or two.
use Rattle.std.proofs.Common.{◌≡◌, ◌⊎◌, inl, inr, ◌≤◌, ◌<◌, ℕ, suc, Bool, true, false, cond, ◌==◌, List, [], ◌∷◌, length, get_or, Option, Some, None, refl, ap, ap₂, sym, ◌∙◌, arith}
use Rattle.std.specs.List.{slice_get}
use Rattle.std.proofs.lemmas.Option.{slice_get_cases}
use Rattle.pcj_table.specs.declared.row.Row.{Row}
use Rattle.pcj_table.specs.declared.plain.Plain.{Plain}
use Rattle.pcj_table.specs.declared.write.Write.{Write}
use Rattle.pcj_table.specs.declared.update.Update.TheVariants.{SetPlain}
use Rattle.pcj_table.specs.Row.{updated, updated_all}
use Rattle.pcj_table.specs.Table.{Key, Table, row_at}
use Rattle.pcj_oracle.specs.declared.block.Block.{Block}
use Rattle.pcj_oracle.specs.Clock.{clock_key, clock_number, stored_number, next_at, next_number, limit_after, with_number}
use Rattle.pcj_mvcc.specs.declared.act.Act.{Act}
use Rattle.pcj_mvcc.specs.Acts.{prewrite_act, commit_act}
use Rattle.pcj_mvcc.specs.Reading.{Rows, acted}
use Rattle.pcj_mvcc.proofs.Rows.{put_each}
use Rattle.pcj_mvcc.proofs.Laws.{changes_one_row}
use Rattle.pcj_moves.specs.Transactions.{Transaction, primary_of, with_commit}
use Rattle.pcj_moves.specs.Actors.{Actor, with_transaction}
use Rattle.pcj_moves.specs.Moves.{Move, Prewrite, Draw, CommitPrimary, CommitSecondary, CommitNothing, WritePlain, Makes, MayDraw, IsConsistent}
use Rattle.pcj_txn.specs.declared.event.TxnEvent.TheVariants as event
use Rattle.pcj_txn.specs.Progress as due
use Rattle.pcj_txn.specs.Progress.{Progress, Due, due_first, due_commit, due_last, due_of}
use Rattle.pcj_txn.specs.Steps as steps
use Rattle.pcj_actor.specs.StepLaws.{state_of, progress_of, AreTxnMoves, TxnStepsAreMoves}

-- ---- what is due

pub prewrite_due : (writes : List Write) (prewritten : ℕ) (commit : Option ℕ) (committed : Bool) (settled : ℕ) (write : Write) → due_of writes prewritten commit committed settled ≡ due.Prewrite write →
    (slice_get writes prewritten ≡ Some write) × (commit ≡ None)
prewrite_due writes prewritten None committed settled write is = (first (slice_get writes prewritten) is, refl)
  where
    first : (found : Option Write) → due_first found ≡ due.Prewrite write → found ≡ Some write
    first None e = absurd cc
    first (Some w) e = cc
prewrite_due writes prewritten (Some c) false settled write is = absurd (never (slice_get writes 0) is)
  where
    never : (found : Option Write) → due_commit found c ≡ due.Prewrite write → ⊥
    never None e = cc
    never (Some w) e = cc
prewrite_due writes prewritten (Some c) true settled write is = absurd (never (slice_get writes settled) is)
  where
    never : (found : Option Write) → due_last found c ≡ due.Prewrite write → ⊥
    never None e = cc
    never (Some w) e = cc

draw_due : (writes : List Write) (prewritten : ℕ) (commit : Option ℕ) (committed : Bool) (settled : ℕ) → due_of writes prewritten commit committed settled ≡ due.Draw →
    (slice_get writes prewritten ≡ None) × (commit ≡ None)
draw_due writes prewritten None committed settled is = (first (slice_get writes prewritten) is, refl)
  where
    first : (found : Option Write) → due_first found ≡ due.Draw → found ≡ None
    first None e = refl
    first (Some w) e = absurd cc
draw_due writes prewritten (Some c) false settled is = absurd (never (slice_get writes 0) is)
  where
    never : (found : Option Write) → due_commit found c ≡ due.Draw → ⊥
    never None e = cc
    never (Some w) e = cc
draw_due writes prewritten (Some c) true settled is = absurd (never (slice_get writes settled) is)
  where
    never : (found : Option Write) → due_last found c ≡ due.Draw → ⊥
    never None e = cc
    never (Some w) e = cc

pub primary_due : (writes : List Write) (prewritten : ℕ) (commit : Option ℕ) (committed : Bool) (settled : ℕ) (write : Write) (number : ℕ) → due_of writes prewritten commit committed settled ≡ due.CommitPrimary write number →
    (slice_get writes 0 ≡ Some write) × (commit ≡ Some number) × (committed ≡ false)
primary_due writes prewritten None committed settled write number is = absurd (never (slice_get writes prewritten) is)
  where
    never : (found : Option Write) → due_first found ≡ due.CommitPrimary write number → ⊥
    never None e = cc
    never (Some w) e = cc
primary_due writes prewritten (Some c) false settled write number is = let both = first (slice_get writes 0) is in (both.0, both.1, refl)
  where
    first : (found : Option Write) → due_commit found c ≡ due.CommitPrimary write number → (found ≡ Some write) × (Some c ≡ Some number)
    first None e = absurd cc
    first (Some w) e = (cc, cc)
primary_due writes prewritten (Some c) true settled write number is = absurd (never (slice_get writes settled) is)
  where
    never : (found : Option Write) → due_last found c ≡ due.CommitPrimary write number → ⊥
    never None e = cc
    never (Some w) e = cc

pub none_due : (writes : List Write) (prewritten : ℕ) (commit : Option ℕ) (committed : Bool) (settled : ℕ) (number : ℕ) → due_of writes prewritten commit committed settled ≡ due.CommitNone number →
    (slice_get writes 0 ≡ None) × (commit ≡ Some number) × (committed ≡ false)
none_due writes prewritten None committed settled number is = absurd (never (slice_get writes prewritten) is)
  where
    never : (found : Option Write) → due_first found ≡ due.CommitNone number → ⊥
    never None e = cc
    never (Some w) e = cc
none_due writes prewritten (Some c) false settled number is = let both = first (slice_get writes 0) is in (both.0, both.1, refl)
  where
    first : (found : Option Write) → due_commit found c ≡ due.CommitNone number → (found ≡ None) × (Some c ≡ Some number)
    first None e = (refl, cc)
    first (Some w) e = absurd cc
none_due writes prewritten (Some c) true settled number is = absurd (never (slice_get writes settled) is)
  where
    never : (found : Option Write) → due_last found c ≡ due.CommitNone number → ⊥
    never None e = cc
    never (Some w) e = cc

secondary_due : (writes : List Write) (prewritten : ℕ) (commit : Option ℕ) (committed : Bool) (settled : ℕ) (write : Write) (number : ℕ) → due_of writes prewritten commit committed settled ≡ due.CommitSecondary write number →
    (slice_get writes settled ≡ Some write) × (commit ≡ Some number) × (committed ≡ true)
secondary_due writes prewritten None committed settled write number is = absurd (never (slice_get writes prewritten) is)
  where
    never : (found : Option Write) → due_first found ≡ due.CommitSecondary write number → ⊥
    never None e = cc
    never (Some w) e = cc
secondary_due writes prewritten (Some c) false settled write number is = absurd (never (slice_get writes 0) is)
  where
    never : (found : Option Write) → due_commit found c ≡ due.CommitSecondary write number → ⊥
    never None e = cc
    never (Some w) e = cc
secondary_due writes prewritten (Some c) true settled write number is = let both = first (slice_get writes settled) is in (both.0, both.1, refl)
  where
    first : (found : Option Write) → due_last found c ≡ due.CommitSecondary write number → (found ≡ Some write) × (Some c ≡ Some number)
    first None e = absurd cc
    first (Some w) e = (cc, cc)

nothing_left : (writes : List Write) → slice_get writes 0 ≡ None → writes ≡ []
nothing_left [] e = refl
nothing_left (write ∷ writes) e = absurd cc

all_prewritten : (writes : List Write) (prewritten : ℕ) → slice_get writes prewritten ≡ None → prewritten ≤ length writes → prewritten ≡ length writes
all_prewritten writes prewritten none within = by (slice_get_cases writes prewritten).1
  where
    by : ((x : Write) × (prewritten < length writes) × (slice_get writes prewritten ≡ Some x) × (get_or writes prewritten x ≡ x)) ⊎ ((length writes ≤ prewritten) × (slice_get writes prewritten ≡ None)) → prewritten ≡ length writes
    by (inl found) = absurd (let clash : None ≡ Some found.0 = sym none ∙ found.2 in cc)
    by (inr past) = let le = past.0 in omega arith

-- ---- the next number

acted_plain : (rows : Rows) (key : Key) (act : Act) → ((row : Row) → (updated_all row act.updates).plain ≡ row.plain) → (other : Key) → (acted rows key act other).plain ≡ (rows other).plain
acted_plain rows key act keeps = put_each (λ at row. row.plain ≡ (rows at).plain) rows key (updated_all (rows key) act.updates) (keeps (rows key)) (λ other differs. refl)

-- an act that leaves plain values leaves it
pub number_kept : (oracle : Option Block) (table table' : Table) (key : Key) (act : Act) → ((row : Row) → (updated_all row act.updates).plain ≡ row.plain) → row_at table' ≡ acted (row_at table) key act →
    next_number oracle table' ≡ next_number oracle table
number_kept oracle table table' key act keeps acts =
    ap (next_at oracle) (ap (λ (rows : Rows). clock_number (rows clock_key).plain) acts ∙ ap clock_number (acted_plain (row_at table) key act keeps clock_key))

-- ---- steps

-- nothing is done
nothing_made : (actor : Actor) (settled : ℕ) (new : Progress) (oracle oracle' : Option Block) (table table' : Table) → steps.Stays (progress_of actor settled) table new table' → oracle' ≡ oracle →
    Makes [] (next_number oracle table) (row_at table) actor (next_number oracle' table') (row_at table') (with_transaction actor new.transaction)
nothing_made actor settled new oracle oracle' table table' stays same =
    (ap₂ next_number same stays.rows, ap row_at stays.rows, ap (λ (p : Progress). with_transaction actor p.transaction) stays.progress)

drawn : (actor : Actor) (others : List Actor) (settled : ℕ) (new : Progress) (oracle oracle' : Option Block) (table table' : Table) (commit : ℕ) → IsConsistent (state_of oracle table (actor ∷ others)) →
    steps.Draws (progress_of actor settled) oracle table commit new oracle' table' →
    (moves : List Move) × AreTxnMoves (event.DrewCommit commit) moves × Makes moves (next_number oracle table) (row_at table) actor (next_number oracle' table') (row_at table') (with_transaction actor new.transaction)
drawn actor others settled new oracle oracle' table table' commit is draws = by (commit == stored_number table) refl
  where
    transaction : Transaction
    transaction = actor.transaction

    plain : Plain
    plain = record { seq = limit_after (stored_number table); value = Some [] }

    its : (slice_get transaction.writes transaction.prewritten ≡ None) × (transaction.commit ≡ None)
    its = draw_due transaction.writes transaction.prewritten transaction.commit transaction.committed settled draws.due

    may : MayDraw (next_number oracle table) actor commit
    may = record {
      all = all_prewritten transaction.writes transaction.prewritten its.0 is.sound.0.transacts.within;
      undrawn = its.1;
      granted = (let same = draws.number.is in omega arith);
    }

    number : next_number oracle' table' ≡ suc commit
    number = draws.number.next ∙ omega arith

    taken : with_transaction actor new.transaction ≡ with_transaction actor (with_commit actor.transaction commit)
    taken = ap (λ (p : Progress). with_transaction actor p.transaction) draws.next

    by : (b : Bool) → (commit == stored_number table) ≡ b →
        (moves : List Move) × AreTxnMoves (event.DrewCommit commit) moves × Makes moves (next_number oracle table) (row_at table) actor (next_number oracle' table') (row_at table') (with_transaction actor new.transaction)
    by true e = (
      WritePlain clock_key plain ∷ Draw commit ∷ [],
      inr (plain, refl, refl),
      (
        tt,
        (
          may,
          (
            number,
            ap row_at (draws.number.stored ∙ ap (λ b. cond b (with_number table (limit_after (stored_number table))) table) e)
                ∙ changes_one_row table clock_key (updated (row_at table clock_key) (SetPlain plain)),
            taken,
          ),
        ),
      ),
    )
    by false e = (Draw commit ∷ [], inl refl, (may, (number, ap row_at (draws.number.stored ∙ ap (λ b. cond b (with_number table (limit_after (stored_number table))) table) e), taken)))

committed : (actor : Actor) (settled : ℕ) (new : Progress) (oracle oracle' : Option Block) (table table' : Table) (commit : ℕ) →
    steps.CommitsPrimary (progress_of actor settled) table commit new table' ⊎ steps.CommitsNone (progress_of actor settled) table commit new table' → oracle' ≡ oracle →
    (moves : List Move) × AreTxnMoves (event.Committed commit) moves × Makes moves (next_number oracle table) (row_at table) actor (next_number oracle' table') (row_at table') (with_transaction actor new.transaction)
committed actor settled new oracle oracle' table table' commit (inl done) same =
    let its = primary_due actor.transaction.writes actor.transaction.prewritten actor.transaction.commit actor.transaction.committed settled done.write commit done.due in (
      CommitPrimary done.write commit ∷ [],
      inl (done.write, refl),
      (
        record { first = its.0; drawn = its.1; undone = its.2; allowed = done.allowed },
        (
          ap (λ o. next_number o table') same ∙ number_kept oracle table table' (done.write).key (commit_act done.write actor.start commit) (λ row. refl) done.acts,
          done.acts,
          ap (λ (p : Progress). with_transaction actor p.transaction) done.next,
        ),
      ),
    )
committed actor settled new oracle oracle' table table' commit (inr none) same =
    let its = none_due actor.transaction.writes actor.transaction.prewritten actor.transaction.commit actor.transaction.committed settled commit none.due in (
      CommitNothing commit ∷ [],
      inr refl,
      (
        record { nothing = nothing_left actor.transaction.writes its.0; drawn = its.1; undone = its.2 },
        (ap₂ next_number same none.same, ap row_at none.same, ap (λ (p : Progress). with_transaction actor p.transaction) none.next),
      ),
    )

settles : (actor : Actor) (settled : ℕ) (new : Progress) (oracle oracle' : Option Block) (table table' : Table) →
    steps.Settles (progress_of actor settled) table table' ⊎ steps.IsSettled (progress_of actor settled) table table' → new ≡ due.one_settled (progress_of actor settled) → oracle' ≡ oracle →
    (moves : List Move) × AreTxnMoves event.SecondaryDone moves × Makes moves (next_number oracle table) (row_at table) actor (next_number oracle' table') (row_at table') (with_transaction actor new.transaction)
settles actor settled new oracle oracle' table table' (inl done) next same =
    let its = secondary_due actor.transaction.writes actor.transaction.prewritten actor.transaction.commit actor.transaction.committed settled done.write done.commit done.due in (
      CommitSecondary done.write done.commit ∷ [],
      inl (done.write, done.commit, refl),
      (
        record { place = settled; written = its.0; drawn = its.1; done = its.2; allowed = done.allowed },
        (
          ap (λ o. next_number o table') same ∙ number_kept oracle table table' (done.write).key (commit_act done.write actor.start done.commit) (λ row. refl) done.acts,
          done.acts,
          ap (λ (p : Progress). with_transaction actor p.transaction) next,
        ),
      ),
    )
settles actor settled new oracle oracle' table table' (inr left) next same =
    ([], inr refl, (ap₂ next_number same left.same, ap row_at left.same, ap (λ (p : Progress). with_transaction actor p.transaction) next))

pub txn_steps_are_moves : TxnStepsAreMoves
txn_steps_are_moves actor others settled new oracle oracle' table table' event.Prewrote is steps =
    let its = prewrite_due actor.transaction.writes actor.transaction.prewritten actor.transaction.commit actor.transaction.committed settled (steps.0).write (steps.0).due in (
      Prewrite (steps.0).write ∷ [],
      ((steps.0).write, refl),
      (
        record { next = its.0; undrawn = its.1; allowed = (steps.0).allowed },
        (
          ap (λ o. next_number o table') steps.1 ∙ number_kept oracle table table' ((steps.0).write).key (prewrite_act (steps.0).write actor.start (primary_of actor.transaction)) (λ row. refl) (steps.0).acts,
          (steps.0).acts,
          ap (λ (p : Progress). with_transaction actor p.transaction) (steps.0).next,
        ),
      ),
    )
txn_steps_are_moves actor others settled new oracle oracle' table table' (event.MetLock key lock) is steps = ([], refl, nothing_made actor settled new oracle oracle' table table' steps.1 steps.2)
txn_steps_are_moves actor others settled new oracle oracle' table table' (event.Conflict key commit) is steps = ([], refl, nothing_made actor settled new oracle oracle' table table' steps.1 steps.2)
txn_steps_are_moves actor others settled new oracle oracle' table table' (event.DrewCommit commit) is steps = drawn actor others settled new oracle oracle' table table' commit is steps
txn_steps_are_moves actor others settled new oracle oracle' table table' (event.Committed commit) is steps = committed actor settled new oracle oracle' table table' commit steps.0 steps.1
txn_steps_are_moves actor others settled new oracle oracle' table table' (event.PrimaryLost row) is steps = ([], refl, nothing_made actor settled new oracle oracle' table table' steps.1 steps.2)
txn_steps_are_moves actor others settled new oracle oracle' table table' event.SecondaryDone is steps = settles actor settled new oracle oracle' table table' steps.0 steps.1 steps.2
txn_steps_are_moves actor others settled new oracle oracle' table table' event.Done is steps = ([], refl, nothing_made actor settled new oracle oracle' table table' steps.1 steps.2)
