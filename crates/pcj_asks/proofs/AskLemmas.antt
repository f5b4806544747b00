-- Plans by what they ask: one row, or the rows of a range one after another, and at last a transaction.
use Rattle.std.proofs.Common.{◌≡◌, ◌⊎◌, inl, inr, ℕ, true, List, [], ◌∷◌, ◌++◌, Option, Some, None, ap, sym, subst, ◌∙◌}
use Rattle.std.specs.List.{Contains}
use Rattle.pcj_term.proofs.ListLemmas.{first_there, later_there}
use Rattle.pcj_table.specs.Table.{Key, is_between}
use Rattle.pcj_table.specs.declared.pair.Pair.{Pair}
use Rattle.pcj_table.specs.declared.write.Write.{Write}
use Rattle.pcj_encode.specs.declared.key_range.KeyRange.{KeyRange}
use Rattle.pcj_notify.specs.declared.answer.Answer as notify
use Rattle.pcj_notify.specs.declared.answer.Answer.TheVariants.{Got, Stepped, PlainDone}
use Rattle.pcj_notify.specs.declared.ask.Ask.{Ask}
use Rattle.pcj_notify.specs.declared.ask.Ask.TheVariants.{Get, Next, Commit}
use Rattle.pcj_moves.specs.declared.answer.Answer.{Answer}
use Rattle.pcj_moves.specs.declared.answer.Answer.TheVariants.{OfRange, OfRow}
use Rattle.pcj_plans.specs.Told.{HasAsked, IsReadBy}

-- what is asked by the answers so far
abbrev pub Asks : Type 1
Asks = List notify.Answer → Ask → Type 0

-- there is a next ask
abbrev pub GoesOn : Asks → List notify.Answer → Type 0
GoesOn asks told = (ask : Ask) × asks told ask

-- nothing is told after the transaction
ended : {A : Type 0} (ask : Ask) (writes : List Write) (answer : notify.Answer) (front : List Answer) → ask ≡ Commit writes → IsReadBy ask answer front → A
ended ask writes answer front is read = absurd (subst (λ a. IsReadBy a answer front) is read)

-- what follows an answer
pub behind : (asks : Asks) (first : notify.Answer) (done told : List notify.Answer) (reads : List Answer) → HasAsked asks (first ∷ done) told reads → HasAsked (λ more. asks (first ∷ more)) done told reads
behind asks first done [] reads asked = asked
behind asks first done (answer ∷ told) reads (ask, is, front, rest, are, read, later) = (ask, is, front, rest, are, read, behind asks first (done ++ answer ∷ []) told rest later)

-- ---- a plan that looks for a row at most once

abbrev pub EndsWith : Ask → Type 0
EndsWith ask = (writes : List Write) × (ask ≡ Commit writes)

pub record Looks (asks : Asks) : Type 0 where
  pub begins : GoesOn asks []
  pub first : (ask : Ask) → asks [] ask → ((key : Key) × (ask ≡ Get key) × ((found : Option (List ℕ)) → GoesOn asks (Got found ∷ []))) ⊎ EndsWith ask
  pub last : (found : Option (List ℕ)) (ask : Ask) → asks (Got found ∷ []) ask → EndsWith ask

-- its first ask is told of by what was found alone
looked : {A : Type 0} (asks : Asks) (ask : Ask) (answer : notify.Answer) (front : List Answer) → ((key : Key) → IsReadBy (Get key) answer front → A) → Looks asks → asks [] ask → IsReadBy ask answer front → A
looked asks ask answer front gets looks is read = elim (looks.first ask is) [
  | inl got ↦ gets got.0 (subst (λ a. IsReadBy a answer front) got.1 read)
  | inr ends ↦ ended ask ends.0 answer front ends.1 read
]

pub looks_on : (asks : Asks) (told : List notify.Answer) (reads : List Answer) → Looks asks → HasAsked asks [] told reads → GoesOn asks told
looks_on asks [] reads looks asked = looks.begins
looks_on asks (Got found ∷ []) reads looks (ask, is, front, rest, are, read, done) = elim (looks.first ask is) [
  | inl got ↦ got.2 found
  | inr ends ↦ ended ask ends.0 (Got found) front ends.1 read
]
looks_on asks (Got found ∷ second ∷ more) reads looks (ask, is, front, rest, are, read, (next, is', front', rest', are', read', later)) =
    let ends = looks.last found next is' in ended next ends.0 second front' ends.1 read'
looks_on asks (Stepped met ∷ more) reads looks (ask, is, front, rest, are, read, later) = looked asks ask (Stepped met) front (λ key none. absurd none) looks is read
looks_on asks (PlainDone ∷ more) reads looks (ask, is, front, rest, are, read, later) = looked asks ask PlainDone front (λ key none. absurd none) looks is read

-- ---- a plan that goes on to the next row of a range

pub record Walks (asks : Asks) (range : KeyRange) (answers : List Answer) : Type 0 where
  pub begins : GoesOn asks []
  pub first : (ask : Ask) → asks [] ask → ask ≡ Next range
  pub ends : GoesOn asks (Stepped None ∷ [])
  pub last : (ask : Ask) → asks (Stepped None ∷ []) ask → EndsWith ask
  pub meets : (pair : Pair) → Contains answers (OfRange range.after range.end (Some pair)) → is_between range.after range.end pair.key ≡ true → Looks (λ more. asks (Stepped (Some pair) ∷ more))

pub walks_on : (asks : Asks) (range : KeyRange) (answers : List Answer) (told : List notify.Answer) (reads : List Answer) → ((answer : Answer) → Contains reads answer → Contains answers answer) → Walks asks range answers → HasAsked asks [] told reads → GoesOn asks told
walks_on asks range answers [] reads among walks asked = walks.begins
walks_on asks range answers (Stepped None ∷ []) reads among walks asked = walks.ends
walks_on asks range answers (Stepped None ∷ second ∷ more) reads among walks (ask, is, front, rest, are, read, (next, is', front', rest', are', read', later)) =
    let ends = walks.last next is' in ended next ends.0 second front' ends.1 read'
walks_on asks range answers (Stepped (Some pair) ∷ more) reads among walks (ask, is, front, rest, are, read, later) =
    looks_on (λ others. asks (Stepped (Some pair) ∷ others)) more rest (walks.meets pair there met.1) (behind asks (Stepped (Some pair)) [] more rest later)
  where
    met : (front ≡ OfRange range.after range.end (Some pair) ∷ []) × (is_between range.after range.end pair.key ≡ true)
    met = subst (λ a. IsReadBy a (Stepped (Some pair)) front) (walks.first ask is) read

    there : Contains answers (OfRange range.after range.end (Some pair))
    there = among _ (subst (λ (all : List Answer). Contains all (OfRange range.after range.end (Some pair))) (sym (are ∙ ap (λ (xs : List Answer). xs ++ rest) met.0)) (first_there (OfRange range.after range.end (Some pair)) rest))
walks_on asks range answers (Got found ∷ more) reads among walks (ask, is, front, rest, are, read, later) = absurd (subst (λ a. IsReadBy a (Got found) front) (walks.first ask is) read)
walks_on asks range answers (PlainDone ∷ more) reads among walks (ask, is, front, rest, are, read, later) = absurd (subst (λ a. IsReadBy a PlainDone front) (walks.first ask is) read)

-- ---- a plan that has to find a row first

pub record Finds (asks : Asks) (key : Key) (answers : List Answer) : Type 0 where
  pub begins : GoesOn asks []
  pub first : (ask : Ask) → asks [] ask → ask ≡ Get key
  pub there : Contains answers (OfRow key None) → ⊥
  pub walks : (value : List ℕ) → Contains answers (OfRow key (Some value)) → (range : KeyRange) × Walks (λ more. asks (Got (Some value) ∷ more)) range answers

pub finds_on : (asks : Asks) (key : Key) (answers : List Answer) (told : List notify.Answer) (reads : List Answer) → ((answer : Answer) → Contains reads answer → Contains answers answer) → Finds asks key answers → HasAsked asks [] told reads → GoesOn asks told
finds_on asks key answers [] reads among finds asked = finds.begins
finds_on asks key answers (Got found ∷ more) reads among finds (ask, is, front, rest, are, read, later) = by found (subst (λ a. IsReadBy a (Got found) front) (finds.first ask is) read) later
  where
    all_are : (value : Option (List ℕ)) → front ≡ OfRow key value ∷ [] → reads ≡ OfRow key value ∷ rest
    all_are value is = are ∙ ap (λ (xs : List Answer). xs ++ rest) is

    there : (value : Option (List ℕ)) → front ≡ OfRow key value ∷ [] → Contains answers (OfRow key value)
    there value is = among _ (subst (λ (all : List Answer). Contains all (OfRow key value)) (sym (all_are value is)) (first_there (OfRow key value) rest))

    by : (value : Option (List ℕ)) → front ≡ OfRow key value ∷ [] → HasAsked asks (Got value ∷ []) more rest → GoesOn asks (Got value ∷ more)
    by None is next = absurd (finds.there (there None is))
    by (Some value) is next =
        let walks = finds.walks value (there (Some value) is) in
        walks_on (λ others. asks (Got (Some value) ∷ others)) walks.0 answers more rest
        (λ answer held. among answer (subst (λ (all : List Answer). Contains all answer) (sym (all_are (Some value) is)) (later_there (OfRow key (Some value)) rest answer held))) walks.1 (behind asks (Got (Some value)) [] more rest next)
finds_on asks key answers (Stepped met ∷ more) reads among finds (ask, is, front, rest, are, read, later) = absurd (subst (λ a. IsReadBy a (Stepped met) front) (finds.first ask is) read)
finds_on asks key answers (PlainDone ∷ more) reads among finds (ask, is, front, rest, are, read, later) = absurd (subst (λ a. IsReadBy a PlainDone front) (finds.first ask is) read)
