-- The rows that a transaction may commit next: what stands there stood at its start.
use Rattle.std.proofs.Common.{◌≡◌, ℕ, true, ◌==◌, nat_le, nat_lt, length, take, Some, None, ap, sym, ◌∙◌, arith}
use Rattle.std.proofs.lemmas.Bool.{le-leb, ltb-true}
use Rattle.std.proofs.lemmas.List.{take_all}
use Rattle.std.specs.List.{find}
use Rattle.std.specs.Option.{option_map}
use Rattle.pcj_table.specs.Row.{are_below, newest, versions_up_to}
use Rattle.pcj_table.specs.Table.{Key}
use Rattle.pcj_table.specs.declared.lock.Lock.{Lock}
use Rattle.pcj_table.specs.declared.write.Write.{Write}
use Rattle.pcj_mvcc.proofs.Laws.{read_uncommitted}
use Rattle.pcj_mvcc.proofs.Versions.{all_weaker, up_to_all}
use Rattle.pcj_mvcc.specs.Acts.{lock_of}
use Rattle.pcj_mvcc.specs.Reading.{Rows, put_of, seen, standing, versions_read}
use Rattle.pcj_mvcc.specs.Times.{TimesInOrder}
use Rattle.pcj_moves.specs.Traces.{Trace, lock_trace, traces}
use Rattle.pcj_moves.specs.Transactions.{IsRipe, Transaction, Transacts, lock_at, primary_of, write_at}
use Rattle.pcj_moves.proofs.OtherLemmas.{lock_is, ripe_is_held}
use Rattle.pcj_moves.proofs.StepLemmas.{uncommitted}

-- what stands is seen at the start, and nothing of the transaction is read yet
pub record IsOld (rows : Rows) (start : ℕ) (key : Key) : Type 0 where
  pub seen_then : seen rows key start ≡ standing rows key
  pub unwritten : find (λ version. version.start == start) (rows key).versions ≡ None
  pub read : versions_read rows key ≡ (rows key).versions

pub written_is_old : (rows : Rows) (start : ℕ) (transaction : Transaction) (commit : ℕ) (key : Key) (write : Write) → TimesInOrder rows → Transacts start transaction (traces start rows) → IsRipe start transaction (traces start rows) commit →
    write_at transaction.writes key ≡ Some write → IsOld rows start key
written_is_old rows start transaction commit key write times transacts ripe is = record {
  seen_then = ap (λ versions. put_of (newest (versions_up_to start versions))) read
      ∙ ap (λ versions. put_of (newest versions)) (up_to_all start (rows key).versions (all_weaker (λ v. nat_lt v.commit start) (λ v. nat_le v.commit start) (λ v lt. le-leb v.commit start (let lower = ltb-true v.commit start lt in omega arith)) (rows key).versions below))
      ∙ ap (λ versions. put_of (newest versions)) (sym read);
  unwritten = ap (λ (t : Trace). t.version) trace_is;
  read = read;
}
  where
    lock : Lock
    lock = lock_of write start (primary_of transaction)

    trace_is : traces start rows key ≡ lock_trace (lock_at start transaction key)
    trace_is = ripe_is_held start transaction (traces start rows) commit transacts ripe key

    locked : ((rows key).lock ≡ Some lock) × (start ≡ start)
    locked = lock_is (rows key).lock start lock
        (ap (λ (t : Trace). t.lock) trace_is
        ∙ ap (option_map (λ w. lock_of w start (primary_of transaction)))
        (ap (λ n. write_at (take n transaction.writes) key) (transacts.all commit ripe.drawn) ∙ ap (λ writes. write_at writes key) (take_all (length transaction.writes) transaction.writes (omega arith)) ∙ is))

    read : versions_read rows key ≡ (rows key).versions
    read = read_uncommitted rows key lock locked.0 (uncommitted rows start transaction transacts ripe.undone)

    below : are_below start (rows key).versions ≡ true
    below = times.last key lock locked.0
