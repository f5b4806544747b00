-- What an act leaves of actors of other starts.
use Rattle.std.proofs.Common.{◌≡◌, ◌⊎◌, inl, inr, ℕ, Bool, true, false, cond, is_some, ◌==◌, nat_le, length, take, Option, Some, None, refl, ap, sym, subst, ◌∙◌, arith}
use Rattle.std.proofs.lemmas.Bool.{eqb-true, le-leb, leb-false, leb-true}
use Rattle.std.proofs.lemmas.List.{take_all}
use Rattle.std.specs.Option.{option_map}
use Rattle.pcj_table.specs.Row.{is_locked_at, newest, versions_up_to}
use Rattle.pcj_table.specs.Table.{Key, found}
use Rattle.pcj_table.specs.declared.lock.Lock.{Lock}
use Rattle.pcj_table.specs.declared.write.Write.{Write}
use Rattle.pcj_mvcc.specs.Acts.{lock_of}
use Rattle.pcj_mvcc.specs.Reading.{Put, Rows, lock_up_to, put_of, seen}
use Rattle.pcj_moves.specs.Traces.{Trace, Traces, lock_from, traces}
use Rattle.pcj_moves.specs.Transactions.{IsHeld, IsLost, IsRipe, Transaction, Transacts, lock_at, primary_of, write_at}
use Rattle.pcj_moves.specs.Recoveries.{Recovers}
use Rattle.pcj_moves.specs.Reads.{IsHidden, finds, value_seen}
use Rattle.pcj_moves.specs.ActorLaws.{HiddenRead, HiddenStays, ReadsPassCommit, ReadsStay, RecoversStays, TransactsStays}

pub transacts_stays : TransactsStays
transacts_stays start key new before after changes other transaction differs = subst (Transacts other transaction) (sym (changes.others other differs))

pub recovers_stays : RecoversStays
recovers_stays start key new before after changes recovery differs = subst (Recovers recovery) (sym (changes.others recovery.lock.start differs))

pub hidden_stays : HiddenStays
hidden_stays start key new before after changes other transaction reader answers differs = subst (λ at. IsHidden other transaction at reader answers) (sym (changes.others other differs))

pub reads_stay : ReadsStay
reads_stay before after reader answers same reads answer held key covered = ap (λ vs. option_map (λ (put : Put). put.0) (put_of (newest (versions_up_to reader vs)))) (same key) ∙ reads answer held key covered

-- a ripe transaction has all its locks
pub ripe_is_held : (start : ℕ) (transaction : Transaction) (at : Traces) (commit : ℕ) → Transacts start transaction at → IsRipe start transaction at commit → IsHeld (lock_at start transaction) at
ripe_is_held start transaction at commit transacts ripe = by (transacts.undone ripe.undone)
  where
    by : IsHeld (lock_at start transaction) at ⊎ IsLost (primary_of transaction) (lock_at start transaction) at → IsHeld (lock_at start transaction) at
    by (inl held) = held
    by (inr lost) = absurd (let free = ap (λ (t : Trace). is_some t.lock) lost.primary_gone in let locked = ripe.locked in cc)

pub not_locked : (lock : Option Lock) (start : ℕ) → lock_from start lock ≡ None → is_locked_at start lock ≡ false
not_locked None start none = refl
not_locked (Some lock) start none = by (lock.start == start) refl
  where
    by : (b : Bool) → (lock.start == start) ≡ b → (lock.start == start) ≡ false
    by true e = absurd (let some : Some lock ≡ None = ap (λ b. cond b (Some lock) None) (sym e) ∙ none in cc)
    by false e = e

-- a row that isn't written has no lock of the transaction
pub unwritten_unlocked : (start : ℕ) (transaction : Transaction) (rows : Rows) (commit : ℕ) → Transacts start transaction (traces start rows) → IsRipe start transaction (traces start rows) commit →
    (key : Key) → write_at transaction.writes key ≡ None → is_locked_at start (rows key).lock ≡ false
unwritten_unlocked start transaction rows commit transacts ripe key none =
    not_locked (rows key).lock start (ap (λ (t : Trace). t.lock) (ripe_is_held start transaction (traces start rows) commit transacts ripe key)
    ∙ ap (option_map (λ write. lock_of write start (primary_of transaction))) (ap (λ writes. write_at writes key) (all_taken transaction transacts ripe) ∙ none))
  where
    all_taken : (transaction : Transaction) → Transacts start transaction (traces start rows) → IsRipe start transaction (traces start rows) commit → take transaction.prewritten transaction.writes ≡ transaction.writes
    all_taken transaction transacts ripe = ap (λ n. take n transaction.writes) (transacts.all commit ripe.drawn) ∙ take_all (length transaction.writes) transaction.writes (omega arith)

pub reads_pass_commit : ReadsPassCommit
reads_pass_commit start commit transaction before after reader answers transacts ripe hidden at_once reads answer held key covered = by (nat_le commit reader) refl
  where
    value : seen after key reader ≡ seen before key reader → value_seen after key reader ≡ value_seen before key reader
    value same = ap (option_map (λ (put : Put). put.0)) same

    by : (b : Bool) → nat_le commit reader ≡ b → value_seen after key reader ≡ finds answer key
    by true e = value ((at_once.others key (unwritten_unlocked start transaction before commit transacts ripe key (hidden commit ripe (leb-true commit reader e) answer held key covered))).sees reader) ∙ reads answer held key covered
    by false e = value (at_once.before key reader (leb-false commit reader e)) ∙ reads answer held key covered

pub lock_is : (lock : Option Lock) (start : ℕ) (found : Lock) → lock_from start lock ≡ Some found → (lock ≡ Some found) × (found.start ≡ start)
lock_is None start found e = absurd cc
lock_is (Some lock) start found e = by (lock.start == start) refl
  where
    by : (b : Bool) → (lock.start == start) ≡ b → (Some lock ≡ Some found) × (found.start ≡ start)
    by true same =
        let is : Some lock ≡ Some found = ap (λ b. cond b (Some lock) None) (sym same) ∙ e in
        let one : lock ≡ found = cc in
        (is, ap (λ (l : Lock). l.start) (sym one) ∙ eqb-true lock.start start same)
    by false same = absurd (let none : None ≡ Some found = ap (λ b. cond b (Some lock) None) (sym same) ∙ e in cc)

pub hidden_read : HiddenRead
hidden_read rows start transaction reader commit key transacts ripe le none = by (write_at transaction.writes key) refl
  where
    held : IsHeld (lock_at start transaction) (traces start rows)
    held = ripe_is_held start transaction (traces start rows) commit transacts ripe

    by : (found : Option Write) → write_at transaction.writes key ≡ found → write_at transaction.writes key ≡ None
    by None e = e
    by (Some write) e = absurd
        (let locked : lock_from start (rows key).lock ≡ Some (lock_of write start (primary_of transaction)) = ap (λ (t : Trace). t.lock) (held key)
        ∙ ap (option_map (λ write. lock_of write start (primary_of transaction))) (ap (λ n. write_at (take n transaction.writes) key) (transacts.all commit ripe.drawn) ∙ ap (λ writes. write_at writes key) (take_all (length transaction.writes) transaction.writes (omega arith)) ∙ e) in
        let met : lock_up_to reader (Some (lock_of write start (primary_of transaction))) ≡ None = ap (lock_up_to reader) (sym (lock_is (rows key).lock start _ locked).0) ∙ none in
        let some : Some (lock_of write start (primary_of transaction)) ≡ None = ap (λ b. cond b (Some (lock_of write start (primary_of transaction))) None) (sym (le-leb start reader (let later = transacts.later commit ripe.drawn in omega arith))) ∙ met in
        cc)
