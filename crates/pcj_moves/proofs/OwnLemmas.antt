-- What an act makes of the transaction of its start.
use Rattle.std.proofs.Common.{◌≡◌, ◌⊎◌, inl, inr, ℕ, zero, suc, Bool, true, false, cond, is_some, List, [], ◌∷◌, ◌++◌, take, Option, Some, None, refl, ap, sym, subst, ◌∙◌, arith}
use Rattle.std.proofs.Math.Seq.{take-suc}
use Rattle.std.proofs.lemmas.List.Folds.{find-append}
use Rattle.std.proofs.lemmas.Option.{get_or_from_slice_get, slice_get_within}
use Rattle.std.specs.List.{find}
use Rattle.std.specs.Option.{option_map, option_or}
use Rattle.pcj_term.proofs.ByteLemmas.{other_bytes, same_bytes_are, same_bytes_itself}
use Rattle.pcj_term.specs.Order.{same_bytes}
use Rattle.pcj_table.specs.Table.{Key, found}
use Rattle.pcj_table.specs.declared.lock.Lock.{Lock}
use Rattle.pcj_table.specs.declared.version.Version.{Version}
use Rattle.pcj_table.specs.declared.write.Write.{Write}
use Rattle.pcj_mvcc.specs.Acts.{lock_of, version_of}
use Rattle.pcj_moves.specs.Traces.{Trace, Traces, lock_trace, no_trace, place, version_trace}
use Rattle.pcj_moves.specs.Transactions.{IsHeld, IsLost, IsNext, IsWon, Transaction, Transacts, as_version, first_key, lock_at, primary_of, with_next, write_at}
use Rattle.pcj_moves.specs.Recoveries.{Knows}
use Rattle.pcj_moves.specs.ActorLaws.{DrawGoesOn, HiddenCommitted, HiddenDrawn, HiddenUndrawn, HiddenUnlock, LockIsOfWrite, OfWriteNext, PrewriteGoesOn, PrimaryGoesOn, RecoversPrewrite, RecoversUnlock, RollBackGoesOn, RollForwardGoesOn, SecondaryGoesOn}

-- ---- traces with another one at a key

pub place_same : (at : Traces) (key : Key) (new : Trace) → place at key new key ≡ new
place_same at key new = rw (same_bytes_itself key) refl

pub place_other : (at : Traces) (key : Key) (new : Trace) (other : Key) → same_bytes other key ≡ false → place at key new other ≡ at other
place_other at key new other apart = rw apart refl

-- what holds of the trace at its key, and of the others, holds of each
pub place_each : (P : Key → Trace → Type 0) (at : Traces) (key : Key) (new : Trace) → P key new → ((other : Key) → same_bytes other key ≡ false → P other (at other)) → (other : Key) → P other (place at key new other)
place_each P at key new here there other = by (same_bytes other key) refl
  where
    by : (b : Bool) → same_bytes other key ≡ b → P other (cond b new (at other))
    by true e = subst (λ k. P k new) (sym (same_bytes_are other key e)) here
    by false e = there other e

by_key : {P : Type 0} (other key : Key) → (other ≡ key → P) → (same_bytes other key ≡ false → P) → P
by_key {P} other key here there = by (same_bytes other key) refl
  where
    by : (b : Bool) → same_bytes other key ≡ b → P
    by true e = here (same_bytes_are other key e)
    by false e = there e

-- ---- the locks that were prewritten

or_none : (found : Option Write) → option_or found None ≡ found
or_none None = refl
or_none (Some write) = refl

-- with one more write its row has a lock
pub lock_more : (start : ℕ) (transaction : Transaction) (write : Write) → IsNext transaction write → (key : Key) →
    lock_at start (with_next transaction) key ≡ cond (same_bytes key write.key) (Some (lock_of write start (primary_of transaction))) (lock_at start transaction key)
lock_more start transaction write next key =
    ap (option_map (λ w. lock_of w start (primary_of transaction)))
    (ap (find (λ w. same_bytes key w.key)) (take-suc transaction.writes transaction.prewritten write (slice_get_within transaction.writes transaction.prewritten write next.is) ∙ ap (λ w. take transaction.prewritten transaction.writes ++ (w ∷ [])) (get_or_from_slice_get transaction.writes transaction.prewritten write write next.is))
    ∙ find-append (λ w. same_bytes key w.key) (take transaction.prewritten transaction.writes) (write ∷ []))
    ∙ by_key key write.key
    (λ same. rw same (ap (λ found. option_map (λ w. lock_of w start (primary_of transaction)) (option_or found (cond (same_bytes write.key write.key) (Some write) None))) next.new ∙ rw (same_bytes_itself write.key) refl))
    (λ apart. rw apart (ap (option_map (λ w. lock_of w start (primary_of transaction))) (or_none (write_at (take transaction.prewritten transaction.writes) key))))

-- where one row was prewritten, the primary was
pub primary_first : (start count : ℕ) (writes : List Write) (primary : Key) → option_map (λ write. lock_of write start primary) (write_at (take count writes) (first_key writes)) ≡ None →
    (key : Key) → option_map (λ write. lock_of write start primary) (write_at (take count writes) key) ≡ None
primary_first start zero writes primary none key = refl
primary_first start (suc count) [] primary none key = refl
primary_first start (suc count) (write ∷ writes) primary none key =
    absurd (let some : Some (lock_of write start primary) ≡ None = ap (λ b. option_map (λ w. lock_of w start primary) (cond b (Some write) (write_at (take count writes) write.key))) (sym (same_bytes_itself write.key)) ∙ none in cc)

-- ---- the acts of the transaction

lock_here : {at : Trace} (lock : Lock) (other : Trace) → at ≡ lock_trace (Some lock) → at ≡ other → other.lock ≡ Some lock
lock_here lock other is same = ap (λ (t : Trace). t.lock) (sym same ∙ is)

pub lock_is_of_write : LockIsOfWrite
lock_is_of_write start transaction at key lock transacts locked = by transaction.committed refl
  where
    either : (none : Trace) → none.lock ≡ None → (at key ≡ lock_trace (lock_at start transaction key)) ⊎ (at key ≡ none) → lock_at start transaction key ≡ Some lock
    either none free (inl held) = ap (λ (t : Trace). t.lock) (sym held) ∙ locked
    either none free (inr gone) = absurd (let e : None ≡ Some lock = sym free ∙ ap (λ (t : Trace). t.lock) (sym gone) ∙ locked in cc)

    undone : IsHeld (lock_at start transaction) at ⊎ IsLost (primary_of transaction) (lock_at start transaction) at → lock_at start transaction key ≡ Some lock
    undone (inl held) = ap (λ (t : Trace). t.lock) (sym (held key)) ∙ locked
    undone (inr lost) = either no_trace refl (lost.each key)

    by : (b : Bool) → transaction.committed ≡ b → lock_at start transaction key ≡ Some lock
    by true e = let won = transacts.won e in either (version_trace (as_version won.0 (lock_at start transaction key))) refl (won.2.each key)
    by false e = undone (transacts.undone e)

-- a row that is still to be prewritten isn't one that was
not_next : (start : ℕ) (transaction : Transaction) (write : Write) → IsNext transaction write → (key : Key) → is_some (lock_at start transaction key) ≡ true → same_bytes key write.key ≡ false
not_next start transaction write next key some = other_bytes key write.key (λ same. absurd
    (let none : true ≡ false = sym some ∙ ap (λ k. is_some (lock_at start transaction k)) same ∙ ap (λ found. is_some (option_map (λ w. lock_of w start (primary_of transaction)) found)) next.new in cc))

lock_stays : (start : ℕ) (transaction : Transaction) (write : Write) → IsNext transaction write → (key : Key) → same_bytes key write.key ≡ false → lock_at start (with_next transaction) key ≡ lock_at start transaction key
lock_stays start transaction write next key apart = lock_more start transaction write next key ∙ rw apart refl

pub prewrite_goes_on : PrewriteGoesOn
prewrite_goes_on start transaction at write transacts next = record {
  distinct = transacts.distinct;
  within = (let lt = slice_get_within transaction.writes transaction.prewritten write next.is in omega arith);
  undone = λ e. undone (transacts.undone next.committed);
  all = λ commit e. absurd (let none = next.commit in cc);
  later = transacts.later;
  won = λ e. absurd (let not_yet = next.committed in cc);
}
  where
    after : Traces
    after = place at write.key (lock_trace (Some (lock_of write start (primary_of transaction))))

    here : lock_trace (Some (lock_of write start (primary_of transaction))) ≡ lock_trace (lock_at start (with_next transaction) write.key)
    here = ap lock_trace (sym (lock_more start transaction write next write.key ∙ rw (same_bytes_itself write.key) refl))

    undone : IsHeld (lock_at start transaction) at ⊎ IsLost (primary_of transaction) (lock_at start transaction) at → IsHeld (lock_at start (with_next transaction)) after ⊎ IsLost (primary_of transaction) (lock_at start (with_next transaction)) after
    undone (inl held) = inl (place_each (λ key t. t ≡ lock_trace (lock_at start (with_next transaction) key)) at write.key _ here (λ key apart. held key ∙ ap lock_trace (sym (lock_stays start transaction write next key apart))))
    undone (inr lost) = let apart = not_next start transaction write next (primary_of transaction) lost.some in inr (record {
      some = ap is_some (lock_stays start transaction write next (primary_of transaction) apart) ∙ lost.some;
      primary_gone = place_other at write.key _ (primary_of transaction) apart ∙ lost.primary_gone;
      each = place_each (λ key t. (t ≡ lock_trace (lock_at start (with_next transaction) key)) ⊎ (t ≡ no_trace)) at write.key _ (inl here)
          (λ key apart. subst (λ l. (at key ≡ lock_trace l) ⊎ (at key ≡ no_trace)) (sym (lock_stays start transaction write next key apart)) (lost.each key));
    })

pub draw_goes_on : DrawGoesOn
draw_goes_on start transaction at commit transacts all open_yet before = record {
  distinct = transacts.distinct;
  within = transacts.within;
  undone = transacts.undone;
  all = λ c e. all;
  later = λ c e. let same : commit ≡ c = cc in omega arith;
  won = λ e. absurd cc;
}

pub primary_goes_on : PrimaryGoesOn
primary_goes_on start transaction at lock commit transacts open_yet drawn locked = record {
  distinct = transacts.distinct;
  within = transacts.within;
  undone = λ e. absurd cc;
  all = transacts.all;
  later = transacts.later;
  won = λ e. (commit, drawn, won (transacts.undone open_yet));
}
  where
    new : Trace
    new = version_trace (Some (version_of lock commit))

    here : new ≡ version_trace (as_version commit (lock_at start transaction (primary_of transaction)))
    here = ap (λ l. version_trace (as_version commit l)) (sym (lock_is_of_write start transaction at (primary_of transaction) lock transacts (ap (λ (t : Trace). t.lock) locked)))

    won : IsHeld (lock_at start transaction) at ⊎ IsLost (primary_of transaction) (lock_at start transaction) at → IsWon (primary_of transaction) (lock_at start transaction) commit (place at (primary_of transaction) new)
    won (inl held) = record {
      primary_there = place_same at (primary_of transaction) new ∙ here;
      each = place_each (λ key t. (t ≡ lock_trace (lock_at start transaction key)) ⊎ (t ≡ version_trace (as_version commit (lock_at start transaction key)))) at (primary_of transaction) new (inr here) (λ key apart. inl (held key));
    }
    won (inr lost) = absurd (let clash = lock_here lock no_trace locked lost.primary_gone in cc)

pub secondary_goes_on : SecondaryGoesOn
secondary_goes_on start transaction at key lock commit transacts done drawn locked = record {
  distinct = transacts.distinct;
  within = transacts.within;
  undone = λ e. absurd cc;
  all = transacts.all;
  later = transacts.later;
  won = λ e. (commit, drawn, won (transacts.won done));
}
  where
    new : Trace
    new = version_trace (Some (version_of lock commit))

    here : new ≡ version_trace (as_version commit (lock_at start transaction key))
    here = ap (λ l. version_trace (as_version commit l)) (sym (lock_is_of_write start transaction at key lock transacts (ap (λ (t : Trace). t.lock) locked)))

    by_commit : IsWon (primary_of transaction) (lock_at start transaction) commit at → IsWon (primary_of transaction) (lock_at start transaction) commit (place at key new)
    by_commit won = record {
      primary_there = place_other at key new (primary_of transaction)
          (other_bytes (primary_of transaction) key (λ same. absurd (let clash = lock_here lock _ locked (ap at (sym same) ∙ won.primary_there) in cc))) ∙ won.primary_there;
      each = place_each (λ key t. (t ≡ lock_trace (lock_at start transaction key)) ⊎ (t ≡ version_trace (as_version commit (lock_at start transaction key)))) at key new (inr here) (λ key apart. won.each key);
    }

    won : (c : ℕ) × (transaction.commit ≡ Some c) × IsWon (primary_of transaction) (lock_at start transaction) c at → IsWon (primary_of transaction) (lock_at start transaction) commit (place at key new)
    won found = let same : found.0 ≡ commit = (let e = found.1 in cc) in by_commit (subst (λ c. IsWon (primary_of transaction) (lock_at start transaction) c at) same found.2)

none_as_version : (commit : ℕ) (lock : Option Lock) → as_version commit lock ≡ None → lock ≡ None
none_as_version commit None e = refl
none_as_version commit (Some lock) e = absurd cc

pub roll_back_goes_on : RollBackGoesOn
roll_back_goes_on start transaction at key lock transacts locked which = record {
  distinct = transacts.distinct;
  within = transacts.within;
  undone = λ e. inr (undone (transacts.undone e) which);
  all = transacts.all;
  later = transacts.later;
  won = λ e. absurd (let found = transacts.won e in not_won found.0 found.2 which);
}
  where
    primary : Key
    primary = primary_of transaction

    written : lock_at start transaction key ≡ Some lock
    written = lock_is_of_write start transaction at key lock transacts (ap (λ (t : Trace). t.lock) locked)

    not_none : lock_at start transaction primary ≡ None → ⊥
    not_none none = let clash : None ≡ Some lock = sym (primary_first start transaction.prewritten transaction.writes primary none key) ∙ written in cc

    undone : IsHeld (lock_at start transaction) at ⊎ IsLost primary (lock_at start transaction) at → (key ≡ primary) ⊎ (at primary ≡ no_trace) → IsLost primary (lock_at start transaction) (place at key no_trace)
    undone (inl held) (inl same) = record {
      some = ap (λ k. is_some (lock_at start transaction k)) (sym same) ∙ ap is_some written;
      primary_gone = ap (place at key no_trace) (sym same) ∙ place_same at key no_trace;
      each = place_each (λ q t. (t ≡ lock_trace (lock_at start transaction q)) ⊎ (t ≡ no_trace)) at key no_trace (inr refl) (λ q apart. inl (held q));
    }
    undone (inl held) (inr gone) = absurd (not_none (ap (λ (t : Trace). t.lock) (sym (held primary) ∙ gone)))
    undone (inr lost) either = record {
      some = lost.some;
      primary_gone = place_each (λ q t. q ≡ primary → t ≡ no_trace) at key no_trace (λ same. refl) (λ q apart same. ap at same ∙ lost.primary_gone) primary refl;
      each = place_each (λ q t. (t ≡ lock_trace (lock_at start transaction q)) ⊎ (t ≡ no_trace)) at key no_trace (inr refl) (λ q apart. lost.each q);
    }

    not_won : (commit : ℕ) → IsWon primary (lock_at start transaction) commit at → (key ≡ primary) ⊎ (at primary ≡ no_trace) → ⊥
    not_won commit won (inl same) = let clash = lock_here lock _ locked (ap at same ∙ won.primary_there) in cc
    not_won commit won (inr gone) = not_none (none_as_version commit (lock_at start transaction primary) (ap (λ (t : Trace). t.version) (sym won.primary_there ∙ gone)))

version_committed : (commit : ℕ) (lock : Option Lock) (found : ℕ) → option_map (λ (v : Version). v.commit) (as_version commit lock) ≡ Some found → commit ≡ found
version_committed commit None found e = absurd cc
version_committed commit (Some lock) found e = cc

pub roll_forward_goes_on : RollForwardGoesOn
roll_forward_goes_on start transaction at key lock commit transacts is locked = by transaction.committed refl
  where
    none : at (primary_of transaction) ≡ lock_trace (lock_at start transaction (primary_of transaction)) → ⊥
    none held = let clash : None ≡ Some commit = ap (λ (t : Trace). option_map (λ v. v.commit) t.version) (sym held) ∙ is in cc

    never : IsHeld (lock_at start transaction) at ⊎ IsLost (primary_of transaction) (lock_at start transaction) at → ⊥
    never (inl held) = none (held (primary_of transaction))
    never (inr lost) = let clash : None ≡ Some commit = ap (λ (t : Trace). option_map (λ v. v.commit) t.version) (sym lost.primary_gone) ∙ is in cc

    by : (b : Bool) → transaction.committed ≡ b → Transacts start transaction (place at key (version_trace (Some (version_of lock commit))))
    by true e =
        let won = transacts.won e in
        let same : won.0 ≡ commit = version_committed won.0 (lock_at start transaction (primary_of transaction)) commit (ap (λ (t : Trace). option_map (λ v. v.commit) t.version) (sym won.2.primary_there) ∙ is) in
        secondary_goes_on start transaction at key lock commit transacts e (won.1 ∙ ap Some same) locked
    by false e = absurd (never (transacts.undone e))

-- ---- recoveries of this start

pub recovers_unlock : RecoversUnlock
recovers_unlock recovery at key lock new recovers locked free = record {
  names = place_each (λ q t. (l : Lock) → t.lock ≡ Some l → l.primary ≡ recovery.lock.primary) at key new (λ l e. absurd cc) (λ q apart. recovers.names q);
  holds = place_each (λ q t. q ≡ recovery.key → (l : Lock) → t.lock ≡ Some l → l ≡ recovery.lock) at key new (λ same l e. absurd cc)
      (λ q apart same l e. recovers.holds l (ap (λ k. (at k).lock) (sym same) ∙ e)) recovery.key refl;
  knows = by recovery.known recovers.knows;
}
  where
    by : (known : Option (Option ℕ)) → Knows recovery at known → Knows recovery (place at key new) known
    by None knows = tt
    by (Some None) knows = (
      knows.0,
      place_other at key new recovery.lock.primary
          (other_bytes recovery.lock.primary key (λ same. absurd (let clash = lock_here lock no_trace locked (ap at (sym same) ∙ knows.1) in cc))) ∙ knows.1,
    )
    by (Some (Some commit)) knows = (
      knows.0,
      ap (λ (t : Trace). option_map (λ v. v.commit) t.version) (place_other at key new recovery.lock.primary
          (other_bytes recovery.lock.primary key (λ same. absurd (let clash : None ≡ Some commit = ap (λ (t : Trace). option_map (λ v. v.commit) t.version) (sym locked ∙ ap at (sym same)) ∙ knows.1 in cc)))) ∙ knows.1,
    )

pub names_primary : (start : ℕ) (primary : Key) (found : Option Write) (lock : Lock) → option_map (λ w. lock_of w start primary) found ≡ Some lock → primary ≡ lock.primary
names_primary start primary None lock e = absurd cc
names_primary start primary (Some write) lock e = let same : lock_of write start primary ≡ lock = cc in ap (λ (l : Lock). l.primary) same

pub recovers_prewrite : RecoversPrewrite
recovers_prewrite start transaction at write recovery next is recovers = record {
  names = place_each (λ q t. (l : Lock) → t.lock ≡ Some l → l.primary ≡ recovery.lock.primary) at write.key _
      (λ l e. let same : lock_of write start (primary_of transaction) ≡ l = cc in ap (λ (x : Lock). x.primary) (sym same) ∙ named) (λ q apart. recovers.names q);
  holds = λ l e. recovers.holds l (ap (λ (t : Trace). t.lock) (sym (place_other at write.key _ recovery.key (not_next start transaction write next recovery.key (ap is_some is)))) ∙ e);
  knows = by recovery.known recovers.knows;
}
  where
    named : primary_of transaction ≡ recovery.lock.primary
    named = names_primary start (primary_of transaction) (write_at (take transaction.prewritten transaction.writes) recovery.key) recovery.lock is

    some : (found : Option Lock) → lock_at start transaction (primary_of transaction) ≡ found → is_some (lock_at start transaction (primary_of transaction)) ≡ true
    some None e = absurd (let clash : None ≡ Some recovery.lock = sym (primary_first start transaction.prewritten transaction.writes (primary_of transaction) e recovery.key) ∙ is in cc)
    some (Some lock) e = ap is_some e

    there : place at write.key (lock_trace (Some (lock_of write start (primary_of transaction)))) recovery.lock.primary ≡ at recovery.lock.primary
    there = place_other at write.key _ recovery.lock.primary (ap (λ k. same_bytes k write.key) (sym named) ∙ not_next start transaction write next (primary_of transaction) (some _ refl))

    by : (known : Option (Option ℕ)) → Knows recovery at known → Knows recovery (place at write.key (lock_trace (Some (lock_of write start (primary_of transaction))))) known
    by None knows = tt
    by (Some None) knows = (knows.0, there ∙ knows.1)
    by (Some (Some commit)) knows = (knows.0, ap (λ (t : Trace). option_map (λ v. v.commit) t.version) there ∙ knows.1)

pub of_write_next : OfWriteNext
of_write_next start transaction write key lock next is = lock_stays start transaction write next key (not_next start transaction write next key (ap is_some is)) ∙ is

-- ---- what is hidden

pub hidden_unlock : HiddenUnlock
hidden_unlock start transaction at key new reader answers free hidden commit ripe = hidden commit (record {
  drawn = ripe.drawn;
  undone = ripe.undone;
  locked = place_each (λ q t. is_some t.lock ≡ true → is_some (at q).lock ≡ true) at key new (λ e. absurd (let none = ap is_some free in cc)) (λ q apart e. e) (primary_of transaction) ripe.locked;
})

pub hidden_undrawn : HiddenUndrawn
hidden_undrawn start transaction at reader answers none commit ripe = absurd (let drawn = ripe.drawn in cc)

pub hidden_drawn : HiddenDrawn
hidden_drawn start transaction at reader answers drawn later commit ripe le = absurd (let same : drawn ≡ commit = (let e = ripe.drawn in cc) in omega arith)

pub hidden_committed : HiddenCommitted
hidden_committed start transaction at reader answers done commit ripe = absurd (let open_yet = ripe.undone in cc)
