-- What each act changes of what rows have of transactions.
use Rattle.std.proofs.Common.{◌≡◌, ◌≢◌, ◌<◌, ℕ, Bool, true, false, cond, not, is_some, ◌==◌, List, [], ◌∷◌, Option, Some, None, refl, ap, ap₂, sym, subst, ◌∙◌, arith}
use Rattle.std.specs.List.{find, list_all}
use Rattle.std.proofs.lemmas.Bool.{and_parts, eqb-true, eq-eqb, ltb-true}
use Rattle.pcj_table.specs.declared.lock.Lock.{Lock}
use Rattle.pcj_table.specs.declared.version.Version.{Version}
use Rattle.pcj_table.specs.declared.row.Row.{Row}
use Rattle.pcj_table.specs.Row.{are_below, is_locked_at, updated, updated_all}
use Rattle.pcj_table.specs.declared.update.Update.TheVariants.{SetPlain}
use Rattle.pcj_table.specs.Table.{Key}
use Rattle.pcj_mvcc.specs.Acts.{lock_of, prewrite_act, replace_lock_act, roll_back_act}
use Rattle.pcj_term.specs.Order.{same_bytes}
use Rattle.pcj_mvcc.specs.Reading.{Rows, put}
use Rattle.pcj_mvcc.specs.Times.{starts_first, TimesInOrder}
use Rattle.pcj_mvcc.proofs.Versions.{find_added, found_added}
use Rattle.pcj_mvcc.proofs.Rows.{put_each}
use Rattle.pcj_mvcc.specs.Reading.{committed, reading}
use Rattle.pcj_mvcc.proofs.Laws.{lock_there, versions_kept, reads_as_before, reading_alike}
use Rattle.pcj_moves.specs.Traces.{Trace, Traces, trace, lock_from, no_trace, lock_trace, version_trace}
use Rattle.pcj_moves.specs.TraceLaws.{Stays, RowStays, PlainStays, ChangesTrace, LockedTrace, PrewriteChanges, ReplaceChanges, RollBackChanges}

pub traces_alike : (at others : Traces) → ((key : Key) → at key ≡ others key) → at ≡ others
traces_alike at others alike = λ i. λ key. alike key i

pub unequal_false : (a b : ℕ) → a ≢ b → (a == b) ≡ false
unequal_false a b differs = by (a == b) refl
  where
    by : (same : Bool) → (a == b) ≡ same → (a == b) ≡ false
    by true e = absurd (differs (eqb-true a b e))
    by false e = e

-- one row has something else, and it is of one start
pub changes_at : (start : ℕ) (key : Key) (new : Trace) (rows : Rows) (row : Row) → trace start row ≡ new →
    ((other : ℕ) → other ≢ start → trace other row ≡ trace other (rows key)) → ChangesTrace start key new rows (put rows key row)
changes_at start key new rows row own others = record {
  own = traces_alike _ _ (λ q. by q (same_bytes q key));
  others = λ other differs. traces_alike _ _ (put_each (λ q r. trace other r ≡ trace other (rows q)) rows key row (others other differs) (λ q apart. refl));
}
  where
    by : (q : Key) (b : Bool) → trace start (cond b row (rows q)) ≡ cond b new (trace start (rows q))
    by q true = own
    by q false = refl

-- a row without versions from a time on has none of the transaction that started then
pub none_of_start : (start : ℕ) (versions : List Version) → list_all starts_first versions ≡ true → are_below start versions ≡ true → find (λ version. version.start == start) versions ≡ None
none_of_start start [] first below = refl
none_of_start start (version ∷ versions) first below =
    let lower : version.commit < start = ltb-true version.commit start (and_parts _ _ below).0 in
    let before : version.start < version.commit = ltb-true version.start version.commit (and_parts _ _ first).0 in
    rw (unequal_false version.start start (λ e. absurd (omega arith))) (none_of_start start versions (and_parts _ _ first).1 (and_parts _ _ below).1)

-- a locked row has no version of its lock's transaction
pub none_where_locked : (rows : Rows) (key : Key) (start : ℕ) → TimesInOrder rows → is_locked_at start (rows key).lock ≡ true → find (λ version. version.start == start) (rows key).versions ≡ None
none_where_locked rows key start order locked =
    let found = lock_there (rows key).lock start locked in
    none_of_start start (rows key).versions (order.first key) (subst (λ s. are_below s (rows key).versions ≡ true) found.2 (order.last key found.0 found.1))

-- nor has it a lock of another
pub other_lock : (lock : Option Lock) (start other : ℕ) → is_locked_at start lock ≡ true → other ≢ start → lock_from other lock ≡ None
other_lock None start other locked differs = refl
other_lock (Some lock) start other locked differs =
    let is = eqb-true lock.start start locked in
    rw (unequal_false lock.start other (λ e. differs (sym e ∙ is))) refl

pub none_there : (lock : Option Lock) (other : ℕ) → not (is_some lock) ≡ true → lock_from other lock ≡ None
none_there None other e = refl
none_there (Some lock) other e = absurd cc

abbrev pub both : Option Lock → Option Version → Trace
both lock version = record { lock = lock; version = version }

pub locked_trace : LockedTrace
locked_trace rows key start order locked =
    let found = lock_there (rows key).lock start locked in
    (found.0, found.1, found.2, ap₂ both (ap (lock_from start) found.1 ∙ rw (ap (λ s. s == start) found.2 ∙ eq-eqb start start refl) refl) (none_where_locked rows key start order locked))

pub prewrite_changes : PrewriteChanges
prewrite_changes rows write start primary order allowed =
    changes_at start write.key (lock_trace (Some (lock_of write start primary))) rows (updated_all (rows write.key) (prewrite_act write start primary).updates)
    (ap₂ both (rw (eq-eqb start start refl) refl) (none_of_start start (rows write.key).versions (order.first write.key) (and_parts _ _ (and_parts _ _ allowed).1).0))
    (λ other differs. ap (λ l. both l (find (λ version. version.start == other) (rows write.key).versions))
    (rw (unequal_false start other (λ e. differs (sym e))) (sym (none_there (rows write.key).lock other (and_parts _ _ allowed).0))))

pub replace_changes : ReplaceChanges
replace_changes rows key version order allowed =
    let locked = (and_parts _ _ allowed).0 in
    changes_at version.start key (version_trace (Some version)) rows (updated_all (rows key) (replace_lock_act version).updates)
    (ap (both None) (found_added (λ v. v.start == version.start) version (rows key).versions (eq-eqb version.start version.start refl) (none_where_locked rows key version.start order locked)))
    (λ other differs. ap₂ both (sym (other_lock (rows key).lock version.start other locked differs))
    (find_added (λ v. v.start == other) version (rows key).versions (unequal_false version.start other (λ e. differs (sym e)))))

pub roll_back_changes : RollBackChanges
roll_back_changes rows key start order allowed =
    let locked = (and_parts _ _ allowed).0 in
    changes_at start key no_trace rows (updated_all (rows key) (roll_back_act start).updates)
    (ap (both None) (none_where_locked rows key start order locked))
    (λ other differs. ap (λ l. both l (find (λ version. version.start == other) (rows key).versions)) (sym (other_lock (rows key).lock start other locked differs)))

-- ---- what changes nothing of any transaction

pub row_stays : RowStays
row_stays rows key row lock versions = record {
  same = let kept = versions_kept rows key row versions in
      reads_as_before rows key row (λ other l e. kept l.primary l.start)
      (ap₂ (reading (committed (put rows key row))) lock versions
      ∙ reading_alike (committed (put rows key row)) (committed rows) (rows key).lock (rows key).versions (λ l e. kept l.primary l.start));
  traces_same = λ start. traces_alike _ _ (put_each (λ q r. trace start r ≡ trace start (rows q)) rows key row
      (ap₂ both (ap (lock_from start) lock) (ap (find (λ version. version.start == start)) versions)) (λ q apart. refl));
}

pub plain_stays : PlainStays
plain_stays rows key act plain is =
    subst (λ updates. Stays rows (put rows key (updated_all (rows key) updates))) (sym is) (row_stays rows key (updated (rows key) (SetPlain plain)) refl refl)
