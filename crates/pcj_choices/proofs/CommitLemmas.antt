-- Each choice is committed by a run of commits.
use Rattle.std.proofs.Common.{◌≡◌, ◌⊎◌, inl, inr, ℕ, Bool, true, false, is_some, ◌==◌, cond, List, [], ◌∷◌, ◌++◌, length, take, Option, Some, None, refl, ap, sym, subst, ◌∙◌, arith}
use Rattle.std.proofs.lemmas.List.{take_all}
use Rattle.std.proofs.lemmas.List.Elements.{Contains-append_right}
use Rattle.std.specs.List.{Contains, slice_get}
use Rattle.std.specs.Option.{option_map}
use Rattle.pcj_term.specs.Order.{same_bytes}
use Rattle.pcj_term.proofs.ByteLemmas.{same_bytes_are, same_bytes_itself}
use Rattle.pcj_table.specs.Row.{is_locked_at}
use Rattle.pcj_table.specs.Table.{Key}
use Rattle.pcj_table.specs.declared.lock.Lock.{Lock}
use Rattle.pcj_table.specs.declared.write.Write.{Write}
use Rattle.pcj_mvcc.proofs.Choices.{chosen_here, chosen_there, not_chosen, under_committed}
use Rattle.pcj_mvcc.proofs.Rows.{rows_alike}
use Rattle.pcj_mvcc.specs.Acts.{commit_act, lock_of, version_of}
use Rattle.pcj_mvcc.specs.Choices.{Choice, IsChoice, choose, under, with_commit}
use Rattle.pcj_mvcc.specs.Reading.{Rows, acted, allows}
use Rattle.pcj_moves.specs.Traces.{Trace, lock_from, traces}
use Rattle.pcj_moves.specs.Transactions.{IsRipe, as_committed, first_key, primary_of, write_at}
use Rattle.pcj_moves.specs.Actors.{Actor, ArePair, IsOlder, with_transaction}
use Rattle.pcj_moves.specs.ChoiceLaws.{IsRipeAt}
use Rattle.pcj_moves.specs.Moves.{CommitPrimary, IsConsistent, NumbersAreOwn}
use Rattle.pcj_moves.proofs.ActorLemmas.{each_contains, either_actor}
use Rattle.pcj_moves.proofs.ConsistencyLemmas.{move_is_consistent}
use Rattle.pcj_moves.proofs.MoveLemmas.{comes_first}
use Rattle.pcj_moves.proofs.OrderLemmas.{actor_goes_back, each_together}
use Rattle.pcj_moves.proofs.OtherLemmas.{lock_is, ripe_is_held}
use Rattle.pcj_moves.proofs.StepLemmas.{AtPrimary, at_primary}
use Rattle.pcj_moves.proofs.TraceLemmas.{replace_changes}
use Rattle.pcj_choices.specs.UnderChoice.{StandsUnder}
use Rattle.pcj_choices.specs.ChoiceLaws.{ChoicesStand}

pub by_key : {P : Type 0} (other key : Key) → (other ≡ key → P) → (same_bytes other key ≡ false → P) → P
by_key {P} other key here there = by (same_bytes other key) refl
  where
    by : (b : Bool) → same_bytes other key ≡ b → P
    by true e = here (same_bytes_are other key e)
    by false e = there e

-- ---- a transaction that may be committed next

-- The first write and its lock, which stands in its row: it may be committed.
pub record HasPrimary (rows : Rows) (actor : Actor) (commit : ℕ) : Type 0 where
  pub write : Write
  pub rest : List Write
  pub writes : actor.transaction.writes ≡ write ∷ rest
  pub locked : (rows write.key).lock ≡ Some (lock_of write actor.start write.key)
  pub allowed : allows (commit_act write actor.start commit) (rows write.key) ≡ true
  pub at : AtPrimary rows actor.start actor.transaction write commit

locked_at : (lock : Option Lock) (start : ℕ) → is_some (lock_from start lock) ≡ true → is_locked_at start lock ≡ true
locked_at None start some = absurd cc
locked_at (Some lock) start some = by (lock.start == start) refl
  where
    by : (b : Bool) → (lock.start == start) ≡ b → (lock.start == start) ≡ true
    by true e = e
    by false e = absurd (let clash : false ≡ true = ap (λ b. is_some (cond b (Some lock) None)) (sym e) ∙ some in cc)

-- its primary's row can be committed
pub has_primary : (number : ℕ) (rows : Rows) (actor : Actor) (others : List Actor) (commit : ℕ) → IsConsistent (record { number = number; rows = rows; actors = actor ∷ others }) →
    IsRipe actor.start actor.transaction (traces actor.start rows) commit → HasPrimary rows actor commit
has_primary number rows actor others commit is ripe = by actor.transaction.writes refl
  where
    taken : take actor.transaction.prewritten actor.transaction.writes ≡ actor.transaction.writes
    taken = ap (λ n. take n actor.transaction.writes) (is.sound.0.transacts.all commit ripe.drawn) ∙ take_all (length actor.transaction.writes) actor.transaction.writes (omega arith)

    by : (writes : List Write) → actor.transaction.writes ≡ writes → HasPrimary rows actor commit
    by [] none = absurd (let free : is_some (traces actor.start rows (primary_of actor.transaction)).lock ≡ false =
        ap (λ (t : Trace). is_some t.lock) (ripe_is_held actor.start actor.transaction (traces actor.start rows) commit is.sound.0.transacts ripe (primary_of actor.transaction))
        ∙ ap (λ ws. is_some (option_map (λ w. lock_of w actor.start (primary_of actor.transaction)) (write_at ws (primary_of actor.transaction)))) (taken ∙ none) in
        let locked = ripe.locked in cc)
    by (write ∷ rest) writes = record { write = write; rest = rest; writes = writes; locked = locked; allowed = allowed; at = at }
      where
        primary : primary_of actor.transaction ≡ write.key
        primary = ap first_key writes

        allowed : allows (commit_act write actor.start commit) (rows write.key) ≡ true
        allowed = rw (locked_at (rows write.key).lock actor.start (ap (λ k. is_some (traces actor.start rows k).lock) (sym primary) ∙ ripe.locked)) refl

        at : AtPrimary rows actor.start actor.transaction write commit
        at = at_primary rows actor.start actor.transaction write rest commit is.times is.sound.0.transacts writes ripe.drawn ripe.undone allowed

        locked : (rows write.key).lock ≡ Some (lock_of write actor.start write.key)
        locked = (lock_is (rows write.key).lock actor.start (lock_of write actor.start write.key) (ap (λ (t : Trace). t.lock) at.was)).0

-- ---- the commit of one that is chosen

-- The rows after it, in which all is as it has to be, and what is left of the choice.
record OneIsCommitted (number : ℕ) (rows : Rows) (actor : Actor) (others : List Actor) (choice : Choice) : Type 0 where
  pub after : Rows
  pub left : Choice
  pub consistent : IsConsistent (record { number = number; rows = after; actors = with_transaction actor (as_committed actor.transaction) ∷ others })
  pub chosen : (todo : List Actor) → ((other : Actor) → Contains todo other → Contains others other) → IsChoice (IsRipeAt rows (actor ∷ todo)) choice → IsChoice (IsRipeAt after todo) left
  pub same : under left after ≡ under choice rows

one_is_committed : (number : ℕ) (rows : Rows) (actor : Actor) (others : List Actor) (choice : Choice) (commit : ℕ) → IsConsistent (record { number = number; rows = rows; actors = actor ∷ others }) →
    IsRipe actor.start actor.transaction (traces actor.start rows) commit → choice (primary_of actor.transaction) ≡ Some commit → OneIsCommitted number rows actor others choice
one_is_committed number rows actor others choice commit is ripe chosen_here_is = record {
  after = after;
  left = left;
  consistent = move_is_consistent number rows actor others (CommitPrimary its.write commit)
      (record { first = ap (λ ws. slice_get ws 0) its.writes; drawn = ripe.drawn; undone = ripe.undone; allowed = its.allowed }) is;
  chosen = chosen;
  same = under_committed left rows its.write.key (lock_of its.write actor.start its.write.key) commit its.locked (chosen_here choice its.write.key None) ∙ ap (λ c. under c rows) again;
}
  where
    its : HasPrimary rows actor commit
    its = has_primary number rows actor others commit is ripe

    after : Rows
    after = acted rows its.write.key (commit_act its.write actor.start commit)

    left : Choice
    left = choose choice its.write.key None

    here : choice its.write.key ≡ Some commit
    here = ap choice (sym (ap first_key its.writes)) ∙ chosen_here_is

    again : choose left its.write.key (Some commit) ≡ choice
    again = λ i. λ other. alike other i
      where
        alike : (other : Key) → choose left its.write.key (Some commit) other ≡ choice other
        alike other = by_key other its.write.key
            (λ same. ap (choose left its.write.key (Some commit)) same ∙ chosen_here left its.write.key (Some commit) ∙ sym here ∙ ap choice (sym same))
            (λ differs. chosen_there left its.write.key (Some commit) other differs ∙ chosen_there choice its.write.key None other differs)

    chosen : (todo : List Actor) → ((other : Actor) → Contains todo other → Contains others other) → IsChoice (IsRipeAt rows (actor ∷ todo)) choice → IsChoice (IsRipeAt after todo) left
    chosen todo within was key c e = by_key key its.write.key
        (λ same. absurd (let none : None ≡ Some c = sym (chosen_here choice its.write.key None) ∙ ap left (sym same) ∙ e in cc))
        (λ differs. from differs (was key c (sym (chosen_there choice its.write.key None key differs) ∙ e)))
      where
        from : same_bytes key its.write.key ≡ false → IsRipeAt rows (actor ∷ todo) key c → IsRipeAt after todo key c
        from differs ripes = by (either_actor actor ripes.0 todo ripes.1)
          where
            by : (actor ≡ ripes.0) ⊎ Contains todo ripes.0 → IsRipeAt after todo key c
            by (inl same) = absurd (let alike : its.write.key ≡ key = sym (ap first_key its.writes) ∙ ap (λ (a : Actor). primary_of a.transaction) same ∙ ripes.2 in
                let clash : true ≡ false = sym (same_bytes_itself key) ∙ ap (same_bytes key) (sym alike) ∙ differs in cc)
            by (inr there) =
                let pair = each_contains (λ other. ArePair rows actor other × ArePair rows other actor) others ripes.0 is.sound.1 (within ripes.0 there) in
                let stays = (replace_changes rows its.write.key (version_of (lock_of its.write actor.start its.write.key) commit) is.times its.allowed).others ripes.0.start pair.1.apart.starts in
                (ripes.0, there, ripes.2, subst (λ at. IsRipe ripes.0.start ripes.0.transaction at c) (sym stays) ripes.3)

-- ---- all that are chosen

-- a choice of these actors' transactions in which this actor's isn't chosen is one of the others'
without : (rows : Rows) (actor : Actor) (todo : List Actor) (choice : Choice) → choice (primary_of actor.transaction) ≡ None → IsChoice (IsRipeAt rows (actor ∷ todo)) choice → IsChoice (IsRipeAt rows todo) choice
without rows actor todo choice none was key c e = from (was key c e)
  where
    from : IsRipeAt rows (actor ∷ todo) key c → IsRipeAt rows todo key c
    from ripes = by (either_actor actor ripes.0 todo ripes.1)
      where
        by : (actor ≡ ripes.0) ⊎ Contains todo ripes.0 → IsRipeAt rows todo key c
        by (inl same) = absurd (let clash : None ≡ Some c = sym none ∙ ap (λ (a : Actor). choice (primary_of a.transaction)) same ∙ ap choice ripes.2 ∙ e in cc)
        by (inr there) = (ripes.0, there, ripes.2, ripes.3)

-- and so is one where another has this primary
with_another : (rows : Rows) (actor : Actor) (todo : List Actor) (choice : Choice) (commit : ℕ) → choice (primary_of actor.transaction) ≡ Some commit → IsRipeAt rows todo (primary_of actor.transaction) commit →
    IsChoice (IsRipeAt rows (actor ∷ todo)) choice → IsChoice (IsRipeAt rows todo) choice
with_another rows actor todo choice commit some other was key c e = from (was key c e)
  where
    from : IsRipeAt rows (actor ∷ todo) key c → IsRipeAt rows todo key c
    from ripes = by (either_actor actor ripes.0 todo ripes.1)
      where
        by : (actor ≡ ripes.0) ⊎ Contains todo ripes.0 → IsRipeAt rows todo key c
        by (inl same) =
            let at : primary_of actor.transaction ≡ key = ap (λ (a : Actor). primary_of a.transaction) same ∙ ripes.2 in
            let commits : Some commit ≡ Some c = sym some ∙ ap choice at ∙ e in
            let one : commit ≡ c = cc in
            subst (λ k. IsRipeAt rows todo k c) at (subst (λ n. IsRipeAt rows todo (primary_of actor.transaction) n) one other)
        by (inr there) = (ripes.0, there, ripes.2, ripes.3)

-- the first of the actors, and another one to be looked at behind it
swapped : (number : ℕ) (rows : Rows) (first actor : Actor) (back : List Actor) → IsConsistent (record { number = number; rows = rows; actors = actor ∷ (first ∷ back) }) →
    IsConsistent (record { number = number; rows = rows; actors = first ∷ (actor ∷ back) })
swapped number rows first actor back is = record {
  times = is.times;
  named = is.named;
  once = is.once;
  below = is.below;
  sound = actor_goes_back rows (first ∷ []) actor back is.sound;
  older = each_together (IsOlder number) (first ∷ []) actor back is.older.0 is.older.1;
  own = each_together (NumbersAreOwn rows) (first ∷ []) actor back is.own.0 is.own.1;
}

-- a choice is committed, and an actor that it doesn't have stays as it was
record RestIsCommitted (number : ℕ) (rows : Rows) (first : Actor) (choice : Choice) : Type 0 where
  pub beside : List Actor
  pub consistent : IsConsistent (record { number = number; rows = under choice rows; actors = first ∷ beside })

-- that it can be done for the others that are left
abbrev CanCommitRest : List Actor → ℕ → Actor → Type 0
CanCommitRest todo number first = (rows : Rows) (front : List Actor) (choice : Choice) → IsConsistent (record { number = number; rows = rows; actors = first ∷ (front ++ todo) }) →
    IsChoice (IsRipeAt rows todo) choice → RestIsCommitted number rows first choice

rest_is_committed : (todo : List Actor) (number : ℕ) (first : Actor) → CanCommitRest todo number first
rest_is_committed [] number first rows front choice is chosen = record {
  beside = front ++ [];
  consistent = subst (λ r. IsConsistent (record { number = number; rows = r; actors = first ∷ (front ++ []) })) (sym none) is;
}
  where
    none : under choice rows ≡ rows
    none = rows_alike _ _ (λ key. ap (λ c. with_commit c (rows key)) (not_chosen (IsRipeAt rows []) choice key chosen (λ commit ripes. let within = ripes.1.1 in omega arith)))
rest_is_committed (actor ∷ todo) number first rows front choice is chosen = by (rest_is_committed todo number first) (choice (primary_of actor.transaction)) refl
  where
    ahead : IsConsistent (record { number = number; rows = rows; actors = actor ∷ (first ∷ (front ++ todo)) })
    ahead = comes_first number rows (first ∷ front) actor todo is

    pass : CanCommitRest todo number first → IsChoice (IsRipeAt rows todo) choice → RestIsCommitted number rows first choice
    pass later rest = later rows (actor ∷ front) choice (swapped number rows first actor (front ++ todo) ahead) rest

    commit_it : CanCommitRest todo number first → (commit : ℕ) → choice (primary_of actor.transaction) ≡ Some commit → IsRipe actor.start actor.transaction (traces actor.start rows) commit → RestIsCommitted number rows first choice
    commit_it later commit e ripe =
        let one = one_is_committed number rows actor (first ∷ (front ++ todo)) choice commit ahead ripe e in
        let done = later one.after (with_transaction actor (as_committed actor.transaction) ∷ front) one.left
        (swapped number one.after first (with_transaction actor (as_committed actor.transaction)) (front ++ todo) one.consistent)
        (one.chosen todo (λ other there. Contains-append_right (first ∷ front) todo other there) chosen) in
        record {
          beside = done.beside;
          consistent = subst (λ r. IsConsistent (record { number = number; rows = r; actors = first ∷ done.beside })) one.same done.consistent;
        }

    by : CanCommitRest todo number first → (c : Option ℕ) → choice (primary_of actor.transaction) ≡ c → RestIsCommitted number rows first choice
    by later None e = pass later (without rows actor todo choice e chosen)
    by later (Some commit) e = from (chosen (primary_of actor.transaction) commit e)
      where
        from : IsRipeAt rows (actor ∷ todo) (primary_of actor.transaction) commit → RestIsCommitted number rows first choice
        from ripes = or (either_actor actor ripes.0 todo ripes.1)
          where
            or : (actor ≡ ripes.0) ⊎ Contains todo ripes.0 → RestIsCommitted number rows first choice
            or (inl same) = commit_it later commit e (subst (λ (a : Actor). IsRipe a.start a.transaction (traces a.start rows) commit) (sym same) ripes.3)
            or (inr there) = pass later (with_another rows actor todo choice commit e (ripes.0, there, ripes.2, ripes.3) chosen)

pub choices_stand : ChoicesStand
choices_stand number rows actor others choice is chosen = by (choice (primary_of actor.transaction)) refl
  where
    alone : IsChoice (IsRipeAt rows others) choice → StandsUnder number rows actor choice
    alone rest = let done = rest_is_committed others number actor rows [] choice is rest in
        record { mover = actor; beside = done.beside; is = inl refl; consistent = done.consistent }

    by : (c : Option ℕ) → choice (primary_of actor.transaction) ≡ c → StandsUnder number rows actor choice
    by None e = alone (without rows actor others choice e chosen)
    by (Some commit) e = from (chosen (primary_of actor.transaction) commit e)
      where
        from : IsRipeAt rows (actor ∷ others) (primary_of actor.transaction) commit → StandsUnder number rows actor choice
        from ripes = or (either_actor actor ripes.0 others ripes.1)
          where
            or : (actor ≡ ripes.0) ⊎ Contains others ripes.0 → StandsUnder number rows actor choice
            or (inl same) =
                let ripe = subst (λ (a : Actor). IsRipe a.start a.transaction (traces a.start rows) commit) (sym same) ripes.3 in
                let one = one_is_committed number rows actor others choice commit is ripe e in
                let done = rest_is_committed others number (with_transaction actor (as_committed actor.transaction)) one.after [] one.left one.consistent (one.chosen others (λ other there. there) chosen) in
                record {
                  mover = with_transaction actor (as_committed actor.transaction);
                  beside = done.beside;
                  is = inr (commit, ripe, refl);
                  consistent = subst (λ r. IsConsistent (record { number = number; rows = r; actors = with_transaction actor (as_committed actor.transaction) ∷ done.beside })) one.same done.consistent;
                }
            or (inr there) = alone (with_another rows actor others choice commit e (ripes.0, there, ripes.2, ripes.3) chosen)
