-- Actors one by one, and what the step of one leaves of all.
use Rattle.std.proofs.Common.{◌≡◌, ◌≢◌, ◌⊎◌, inl, inr, ℕ, Bool, true, false, ◌==◌, List, [], ◌∷◌, ◌++◌, Option, Some, None, IfSome, refl, sym, subst, ◌∙◌, arith}
use Rattle.std.proofs.lemmas.Bool.{eq-eqb, eqb-true}
use Rattle.std.proofs.lemmas.List.Elements.{Contains-append_cases, Contains-push_cases}
use Rattle.std.specs.List.{Contains}
use Rattle.pcj_table.specs.Table.{Key}
use Rattle.pcj_table.specs.declared.lock.Lock.{Lock}
use Rattle.pcj_mvcc.specs.Reading.{Rows}
use Rattle.pcj_moves.specs.Traces.{Trace, place, traces}
use Rattle.pcj_moves.specs.declared.answer.Answer.{Answer}
use Rattle.pcj_moves.specs.Transactions.{Transaction, Transacts, lock_at}
use Rattle.pcj_moves.specs.Recoveries.{Recovers, Recovery}
use Rattle.pcj_moves.specs.Reads.{IsHidden, Reads}
use Rattle.pcj_moves.specs.Actors.{Actor, ArePair, AreSound, Each, IsSound, with_transaction}
use Rattle.pcj_moves.specs.TraceLaws.{ChangesTrace}
use Rattle.pcj_moves.proofs.TraceLemmas.{both}
use Rattle.pcj_moves.proofs.OtherLemmas.{hidden_stays, recovers_stays, transacts_stays}

-- ---- actors, one by one

pub by_number : {P : Type 0} (a b : ℕ) → (a ≡ b → P) → (a ≢ b → P) → P
by_number {P} a b same apart = by (a == b) refl
  where
    by : (e : Bool) → (a == b) ≡ e → P
    by true e = same (eqb-true a b e)
    by false e = apart (λ is. absurd (let one : (a == b) ≡ true = eq-eqb a b is in cc))

pub if_some : {X : Type 0} (P Q : X → Type 0) → ((x : X) → P x → Q x) → (found : Option X) → IfSome found P → IfSome found Q
if_some P Q weaker None holds = tt
if_some P Q weaker (Some x) holds = weaker x holds

pub if_both : {X : Type 0} (O P Q : X → Type 0) → ((x : X) → O x → P x → Q x) → (found : Option X) → IfSome found O → IfSome found P → IfSome found Q
if_both O P Q both None os ps = tt
if_both O P Q both (Some x) os ps = both x os ps

pub each_map : (C P Q : Actor → Type 0) → ((actor : Actor) → C actor → P actor → Q actor) → (actors : List Actor) → Each C actors → Each P actors → Each Q actors
each_map C P Q weaker [] cs ps = tt
each_map C P Q weaker (actor ∷ actors) cs ps = (weaker actor cs.0 ps.0, each_map C P Q weaker actors cs.1 ps.1)

pub each_holds : (P : Actor → Type 0) → ((actor : Actor) → P actor) → (actors : List Actor) → Each P actors
each_holds P all [] = tt
each_holds P all (actor ∷ actors) = (all actor, each_holds P all actors)

-- what keeps each actor and each pair keeps all
pub sounds_stay : (C : Actor → Type 0) (before after : Rows) → ((actor : Actor) → C actor → IsSound before actor → IsSound after actor) →
    ((actor other : Actor) → C actor → ArePair before actor other → ArePair after actor other) → (actors : List Actor) → Each C actors → AreSound before actors → AreSound after actors
sounds_stay C before after one two [] cs sound = tt
sounds_stay C before after one two (actor ∷ actors) cs sound = (
  one actor cs.0 sound.0,
  each_map C (λ other. ArePair before actor other × ArePair before other actor) (λ other. ArePair after actor other × ArePair after other actor)
      (λ other c pair. (two actor other cs.0 pair.0, two other actor c pair.1)) actors cs.1 sound.1,
  sounds_stay C before after one two actors cs.1 sound.2,
)

pub each_sound : (rows : Rows) (actors : List Actor) → AreSound rows actors → Each (IsSound rows) actors
each_sound rows [] sound = tt
each_sound rows (actor ∷ actors) sound = (sound.0, each_sound rows actors sound.2)

pub either_held : (answer held : Answer) (answers : List Answer) → Contains (answers ++ (answer ∷ [])) held → (held ≡ answer) ⊎ Contains answers held
either_held answer held answers contains = by (Contains-push_cases answers answer held contains)
  where
    by : Contains answers held ⊎ (answer ≡ held) → (held ≡ answer) ⊎ Contains answers held
    by (inl rest) = inr rest
    by (inr same) = inl (sym same)

pub either_actor : (first other : Actor) (actors : List Actor) → Contains (first ∷ actors) other → (first ≡ other) ⊎ Contains actors other
either_actor first other actors contains = by (Contains-append_cases (first ∷ []) actors other contains)
  where
    by_push : Contains [] other ⊎ (first ≡ other) → (first ≡ other) ⊎ Contains actors other
    by_push (inl none) = absurd (let within = none.1 in omega arith)
    by_push (inr same) = inl same

    by : Contains (first ∷ []) other ⊎ Contains actors other → (first ≡ other) ⊎ Contains actors other
    by (inl head) = by_push (Contains-push_cases [] first other head)
    by (inr rest) = inr rest

pub each_contains : (P : Actor → Type 0) (actors : List Actor) (other : Actor) → Each P actors → Contains actors other → P other
each_contains P [] other each contains = absurd (let within = contains.1 in omega arith)
each_contains P (actor ∷ actors) other each contains = by (either_actor actor other actors contains) (each_contains P actors other each.1)
  where
    by : (actor ≡ other) ⊎ Contains actors other → (Contains actors other → P other) → P other
    by (inl same) later = subst P same each.0
    by (inr rest) later = later rest

-- ---- the actor that steps, and the others

-- what a step keeps, where C holds of each other actor
pub record KeepsAll (C : Actor → Type 0) (before after : Rows) (actor mover : Actor) : Type 0 where
  pub own : IsSound before actor → IsSound after mover
  pub one : (other : Actor) → C other → ArePair before actor other → ArePair before other actor → IsSound before other → IsSound after other
  pub two : (other third : Actor) → ArePair before other actor → ArePair before other third → ArePair after other third
  pub from_mover : (other : Actor) → C other → IsSound before other → ArePair before actor other → ArePair after mover other
  pub to_mover : (other : Actor) → C other → IsSound before other → ArePair before other actor → ArePair after other mover

pub sound_after : (C : Actor → Type 0) (before after : Rows) (actor mover : Actor) (others : List Actor) → KeepsAll C before after actor mover → Each C others →
    AreSound before (actor ∷ others) → AreSound after (mover ∷ others)
sound_after C before after actor mover others step cs sound = (
  step.own sound.0,
  each_map Known paired _ (λ other k p. (step.from_mover other k.0 k.1 p.0, step.to_mover other k.0 k.1 p.1)) others known sound.1,
  sounds_stay Met before after (λ other m. step.one other m.0 m.1.0 m.1.1) (λ other third m. step.two other third m.1.1) others
      (each_map C paired Met (λ other c p. (c, p)) others cs sound.1) sound.2,
)
  where
    paired : Actor → Type 0
    paired other = ArePair before actor other × ArePair before other actor

    Known : Actor → Type 0
    Known other = C other × IsSound before other

    Met : Actor → Type 0
    Met other = C other × paired other

    known : Each Known others
    known = each_map C (IsSound before) Known (λ other c is. (c, is)) others cs (each_sound before others sound.2)

-- What the transaction of the actor's start has in the rows changes, and nothing of any other.
pub record OwnStep (before after : Rows) (actor : Actor) (transaction : Transaction) : Type 0 where
  pub key : Key
  pub new : Trace
  pub changes : ChangesTrace actor.start key new before after
  pub commit : transaction.commit ≡ actor.transaction.commit
  pub own : Reads before actor.start actor.answers → Reads after actor.start actor.answers
  pub reads : (other : Actor) → ArePair before actor other → Reads before other.start other.answers → Reads after other.start other.answers
  pub goes : Transacts actor.start actor.transaction (traces actor.start before) → Transacts actor.start transaction (place (traces actor.start before) key new)
  pub recovers : (recovery : Recovery) → lock_at actor.start actor.transaction recovery.key ≡ Some recovery.lock → Recovers recovery (traces actor.start before) →
      Recovers recovery (place (traces actor.start before) key new)
  pub of_write : (key : Key) (lock : Lock) → lock_at actor.start actor.transaction key ≡ Some lock → lock_at actor.start transaction key ≡ Some lock
  pub hidden : (reader : ℕ) (answers : List Answer) → IsHidden actor.start transaction (traces actor.start after) reader answers

pub own_step : (before after : Rows) (actor : Actor) (transaction : Transaction) → OwnStep before after actor transaction → KeepsAll (λ other. Unit {0}) before after actor (with_transaction actor transaction)
own_step before after actor transaction act = record {
  own = λ is. record {
    reads = act.own is.reads;
    transacts = subst (Transacts actor.start transaction) (sym act.changes.own) (act.goes is.transacts);
    recovers = if_some _ _ (λ recovery both. (recovers_stays actor.start act.key act.new before after act.changes recovery both.1 both.0, both.1)) actor.recovery is.recovers;
  };
  one = λ other c to from is. record {
    reads = act.reads other to is.reads;
    transacts = transacts_stays actor.start act.key act.new before after act.changes other.start other.transaction from.apart.starts is.transacts;
    recovers = if_both _ _ _ (λ recovery of_write both. (recovers recovery of_write both.0, both.1)) other.recovery to.recovers is.recovers;
  };
  two = λ other third from pair. record {
    apart = pair.apart;
    hidden = hidden_stays actor.start act.key act.new before after act.changes other.start other.transaction third.start third.answers from.apart.starts pair.hidden;
    recovers = pair.recovers;
  };
  from_mover = λ other c is pair. record {
    apart = record { starts = pair.apart.starts; commits = λ commit e. pair.apart.commits commit (sym act.commit ∙ e) };
    hidden = act.hidden other.start other.answers;
    recovers = if_some _ _ (λ recovery of_write same. act.of_write recovery.key recovery.lock (of_write same)) other.recovery pair.recovers;
  };
  to_mover = λ other c is pair. record {
    apart = record { starts = pair.apart.starts; commits = λ commit e. ((pair.apart.commits commit e).0, λ same. (pair.apart.commits commit e).1 (sym act.commit ∙ same)) };
    hidden = hidden_stays actor.start act.key act.new before after act.changes other.start other.transaction actor.start actor.answers pair.apart.starts pair.hidden;
    recovers = pair.recovers;
  };
}
  where
    recovers : (recovery : Recovery) → (recovery.lock.start ≡ actor.start → lock_at actor.start actor.transaction recovery.key ≡ Some recovery.lock) →
        Recovers recovery (traces recovery.lock.start before) → Recovers recovery (traces recovery.lock.start after)
    recovers recovery of_write held = by_number recovery.lock.start actor.start
        (λ is. subst (λ s. Recovers recovery (traces s before) → Recovers recovery (traces s after)) (sym is)
        (λ r. subst (Recovers recovery) (sym act.changes.own) (act.recovers recovery (of_write is) r)) held)
        (λ apart. recovers_stays actor.start act.key act.new before after act.changes recovery apart held)
