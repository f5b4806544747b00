-- Steps that end where no number is left.
use Rattle.std.proofs.Common.{◌≡◌, ℕ, Bool, true, false, ◌&&◌, List, [], ◌∷◌, ◌++◌, Option, Some, None, Ok, Err, refl, ap, sym, subst, ◌∙◌}
use Rattle.pcj_table.specs.Table.{Table}
use Rattle.pcj_oracle.specs.declared.block.Block.{Block}
use Rattle.pcj_txn.specs.declared.error.TxnError.TheVariants as txn_error
use Rattle.pcj_client.specs.declared.event.JobEvent.TheVariants as does
use Rattle.pcj_clients.specs.Steps.{AreSteps, AreStepsOf, GoOnUpTo, IsStepOf, Told, all_go_on, goes_on, no_steps, stepped_from, with_told}
use Rattle.pcj_clients.specs.declared.busy.Busy.{Busy}
use Rattle.pcj_clients.specs.declared.stepped.Stepped.{Stepped}
use Rattle.pcj_clients.specs.declared.stepped.StepsEnd.TheVariants as all
use Rattle.pcj_session.specs.Draws.{AreSpent}

going_keeps : (came : Stepped) (told : Told) → goes_on told ≡ true → (with_told came told).end ≡ came.end
going_keeps came (Ok (Some does.Worked)) on = refl
going_keeps came (Ok (Some (does.Committed commit))) on = refl
going_keeps came (Ok (Some does.Done)) on = absurd cc
going_keeps came (Ok (Some does.Aborted)) on = absurd cc
going_keeps came (Ok (Some does.Taken)) on = absurd cc
going_keeps came (Ok None) on = absurd cc
going_keeps came (Err error) on = absurd cc

both : (a b : Bool) → a && b ≡ true → (a ≡ true) × (b ≡ true)
both true b e = (refl, e)
both false b e = absurd cc

all_keep : (came : Stepped) (events : List Told) → all_go_on events ≡ true → (stepped_from came events).end ≡ came.end
all_keep came [] on = refl
all_keep came (told ∷ more) on = let is = both (goes_on told) (all_go_on more) on in all_keep (with_told came told) more is.1 ∙ going_keeps came told is.0

from_last : (came : Stepped) (front : List Told) (last : Told) → stepped_from came (front ++ last ∷ []) ≡ with_told (stepped_from came front) last
from_last came [] last = refl
from_last came (told ∷ front) last = from_last (with_told came told) front last

last_step : (client : ℕ) (front : List Told) (last : Told) (old : List Busy) (oracle : Option Block) (table : Table) (new : List Busy) (oracle' : Option Block) (table' : Table) → AreSteps (front ++ last ∷ []) client old oracle table new oracle' table' →
    (clients : List Busy) × (between : Option Block) × (rows : Table) × IsStepOf last client clients between rows new oracle' table'
last_step client [] last old oracle table new oracle' table' (clients, between, rows, step, (same, is, stays)) =
    (old, oracle, table, subst (λ n. IsStepOf last client old oracle table n oracle' table') (sym same) (subst (λ o. IsStepOf last client old oracle table clients o table') (sym is) (subst (λ t. IsStepOf last client old oracle table clients between t) (sym stays) step)))
last_step client (told ∷ front) last old oracle table new oracle' table' (clients, between, rows, step, rest) = last_step client front last clients between rows new oracle' table' rest

ends_spent : (client : ℕ) (came : Stepped) (last : Told) (old : List Busy) (oracle : Option Block) (table : Table) (new : List Busy) (oracle' : Option Block) (table' : Table) → came.end ≡ all.AllMade → IsStepOf last client old oracle table new oracle' table' → (with_told came last).end ≡ all.Spent →
    AreSpent oracle' table'
ends_spent client came (Ok None) old oracle table new oracle' table' made step ends = absurd cc
ends_spent client came (Ok (Some does.Worked)) old oracle table new oracle' table' made step ends = absurd (let clash : all.AllMade ≡ all.Spent = sym made ∙ ends in cc)
ends_spent client came (Ok (Some (does.Committed commit))) old oracle table new oracle' table' made step ends = absurd (let clash : all.AllMade ≡ all.Spent = sym made ∙ ends in cc)
ends_spent client came (Ok (Some does.Done)) old oracle table new oracle' table' made step ends = absurd cc
ends_spent client came (Ok (Some does.Aborted)) old oracle table new oracle' table' made step ends = absurd cc
ends_spent client came (Ok (Some does.Taken)) old oracle table new oracle' table' made step ends = absurd cc
ends_spent client came (Err txn_error.Failed) old oracle table new oracle' table' made step ends = absurd cc
ends_spent client came (Err txn_error.Memory) old oracle table new oracle' table' made step ends = absurd (let clash : all.AllMade ≡ all.Spent = sym made ∙ ends in cc)
ends_spent client came (Err txn_error.Spent) old oracle table new oracle' table' made (same, keeps, spent) ends = keeps.next ∙ (spent refl).0

-- steps end so only where no number is left
pub steps_end_spent : (client most : ℕ) (old : List Busy) (oracle : Option Block) (table : Table) (events : List Told) (new : List Busy) (oracle' : Option Block) (table' : Table) (came : Stepped) → came ≡ stepped_from no_steps events → AreStepsOf client most old oracle table events new oracle' table' →
    came.end ≡ all.Spent → AreSpent oracle' table'
steps_end_spent client most old oracle table events new oracle' table' came is are ends = by are.going are.go_on (ap (λ (s : Stepped). s.end) (sym is) ∙ ends)
  where
    by : (going : Bool) → GoOnUpTo going events → (stepped_from no_steps events).end ≡ all.Spent → AreSpent oracle' table'
    by true on spent = absurd (let clash : all.AllMade ≡ all.Spent = sym (all_keep no_steps events on) ∙ spent in cc)
    by false (front, last, split, on, stops_at) spent =
        let (clients, between, rows, step) = last_step client front last old oracle table new oracle' table' (subst (λ list. AreSteps list client old oracle table new oracle' table') split are.steps) in
        ends_spent client (stepped_from no_steps front) last clients between rows new oracle' table' (all_keep no_steps front on) step
        (ap (λ (s : Stepped). s.end) (sym (from_last no_steps front last)) ∙ ap (λ list. (stepped_from no_steps list).end) (sym split) ∙ spent)
