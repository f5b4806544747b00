-- What a client's step leaves of all who are at work, of the triples and of the queries.
use Rattle.std.proofs.Common.{◌≡◌, ℕ, suc, Bool, true, false, List, [], ◌∷◌, ◌++◌, Option, Some, None, refl, ap, sym, subst, ◌∙◌}
use Rattle.std.proofs.lemmas.List.{append_assoc}
use Rattle.pcj_term.specs.declared.triple.Triple.{Triple}
use Rattle.pcj_table.specs.Table.{Table, row_at}
use Rattle.pcj_oracle.specs.Clock.{next_number}
use Rattle.pcj_oracle.specs.declared.block.Block.{Block}
use Rattle.pcj_moves.specs.Actors.{Actor}
use Rattle.pcj_actor.specs.StepLaws.{state_of}
use Rattle.pcj_fit.specs.Laws as fit
use Rattle.pcj_fit.specs.Queries.{Registration}
use Rattle.pcj_fit.specs.Sound.{Sound}
use Rattle.pcj_fit.proofs.SoundLemmas.{back_is_sound, begin_is_sound, end_is_sound, first_is_sound}
use Rattle.pcj_client.specs.Job.{Job}
use Rattle.pcj_client.specs.Events.{KeepsAllSound as JobKeepsSound, LeavesQueries, LeavesTriples, queries_after}
use Rattle.pcj_client.specs.declared.event.JobEvent.{JobEvent}
use Rattle.pcj_clients.specs.Clients.{actors_of, after_step, is_end, job_of, with_job, without_job}
use Rattle.pcj_clients.specs.Laws.{BeginsSound, ChangesQueries, ChangesTriples, EndsSound, KeepsAllSound}
use Rattle.pcj_clients.specs.declared.busy.Busy.{Busy}
use Rattle.pcj_clients.proofs.JobLemmas.{AreAround, around, without_none}

-- the client's actor comes first
pub comes_first : (clients : List Busy) (job : Job) (front back : List Actor) (client : ℕ) (oracle : Option Block) (table : Table) (others : List Actor) → AreAround clients client job front back →
    Sound (state_of oracle table (actors_of clients ++ others)) → Sound (state_of oracle table (job.actor ∷ (front ++ (back ++ others))))
comes_first clients job front back client oracle table others are sound =
    first_is_sound (next_number oracle table) (row_at table) front job.actor (back ++ others)
    (subst (λ actors. Sound (state_of oracle table actors)) (ap (λ actors. actors ++ others) are.now ∙ append_assoc front (job.actor ∷ back) others) sound)

-- the client's step, whose job goes on
keeps_with : (clients : List Busy) (client : ℕ) (job job' : Job) (oracle oracle' : Option Block) (table table' : Table) → job_of clients client ≡ Some job → JobKeepsSound job oracle table job' oracle' table' →
    KeepsAllSound clients oracle table (with_job clients client job') oracle' table'
keeps_with clients client job job' oracle oracle' table table' some keeps others sound =
    let (front, back, are) = around clients client job some in
    subst (λ actors. Sound (state_of oracle' table' actors)) (sym (ap (λ actors. actors ++ others) (are.with job') ∙ append_assoc front (job'.actor ∷ back) others))
    (back_is_sound (next_number oracle' table') (row_at table') front job'.actor (back ++ others) (keeps (front ++ (back ++ others)) (comes_first clients job front back client oracle table others are sound)))

-- and one whose job ends
keeps_without : (clients : List Busy) (client : ℕ) (job job' : Job) (oracle oracle' : Option Block) (table table' : Table) → job_of clients client ≡ Some job → JobKeepsSound job oracle table job' oracle' table' →
    KeepsAllSound clients oracle table (without_job clients client) oracle' table'
keeps_without clients client job job' oracle oracle' table table' some keeps others sound =
    let (front, back, are) = around clients client job some in
    subst (λ actors. Sound (state_of oracle' table' actors)) (sym (ap (λ actors. actors ++ others) are.without ∙ append_assoc front back others))
    (end_is_sound (next_number oracle' table') (row_at table') job'.actor (front ++ (back ++ others)) (keeps (front ++ (back ++ others)) (comes_first clients job front back client oracle table others are sound)))

pub keeps_all_sound : (clients : List Busy) (client : ℕ) (job job' : Job) (told : JobEvent) (oracle oracle' : Option Block) (table table' : Table) → job_of clients client ≡ Some job → JobKeepsSound job oracle table job' oracle' table' →
    KeepsAllSound clients oracle table (after_step clients client job' told) oracle' table'
keeps_all_sound clients client job job' told oracle oracle' table table' some keeps = by (is_end told) refl
  where
    by : (b : Bool) → is_end told ≡ b → KeepsAllSound clients oracle table (after_step clients client job' told) oracle' table'
    by true e = rw e (keeps_without clients client job job' oracle oracle' table table' some keeps)
    by false e = rw e (keeps_with clients client job job' oracle oracle' table table' some keeps)

pub changes_triples : (clients : List Busy) (client : ℕ) (job : Job) (oracle : Option Block) (table table' : Table) (before after : List Triple) → job_of clients client ≡ Some job → LeavesTriples job oracle table table' before after →
    ChangesTriples clients oracle table table' before after
changes_triples clients client job oracle table table' before after some leaves others sound has =
    let (front, back, are) = around clients client job some in
    leaves (front ++ (back ++ others)) (comes_first clients job front back client oracle table others are sound) has

pub changes_queries : (clients : List Busy) (client : ℕ) (job : Job) (oracle : Option Block) (table table' : Table) (known : List Registration) (told : JobEvent) → job_of clients client ≡ Some job → LeavesQueries job oracle table table' known told →
    ChangesQueries clients oracle table table' known (queries_after told job known)
changes_queries clients client job oracle table table' known told some leaves others sound has =
    let (front, back, are) = around clients client job some in
    (leaves (front ++ (back ++ others)) (comes_first clients job front back client oracle table others are sound) has).1

-- ---- jobs that begin and end

actors_with_more : (clients : List Busy) (busy : Busy) (others : List Actor) → actors_of (clients ++ busy ∷ []) ++ others ≡ actors_of clients ++ (busy.job.actor ∷ others)
actors_with_more [] busy others = refl
actors_with_more (first ∷ clients) busy others = ap (λ actors. first.job.actor ∷ actors) (actors_with_more clients busy others)

pub begins_sound : (clients : List Busy) (client : ℕ) (job : Job) → BeginsSound clients job (clients ++ (record { client = client; job = job }) ∷ [])
begins_sound clients client job number rows others later new sound =
    subst (λ actors. Sound (fit.state_of (suc job.actor.start) rows actors)) (sym (actors_with_more clients (record { client = client; job = job }) others))
    (back_is_sound (suc job.actor.start) rows (actors_of clients) job.actor others
    (subst (λ actor. Sound (fit.state_of (suc job.actor.start) rows (actor ∷ (actors_of clients ++ others)))) (sym new) (begin_is_sound number job.actor.start rows (actors_of clients ++ others) later sound)))

pub ends_sound : (clients : List Busy) (client : ℕ) → EndsSound clients (without_job clients client)
ends_sound clients client number rows others sound = by (job_of clients client) refl
  where
    by : (found : Option Job) → job_of clients client ≡ found → Sound (fit.state_of number rows (actors_of (without_job clients client) ++ others))
    by None e = subst (λ (cs : List Busy). Sound (fit.state_of number rows (actors_of cs ++ others))) (sym (without_none clients client e)) sound
    by (Some job) e = let (front, back, are) = around clients client job e in
        subst (λ actors. Sound (fit.state_of number rows actors)) (sym (ap (λ actors. actors ++ others) are.without ∙ append_assoc front back others))
        (end_is_sound number rows job.actor (front ++ (back ++ others)) (first_is_sound number rows front job.actor (back ++ others)
        (subst (λ actors. Sound (fit.state_of number rows actors)) (ap (λ actors. actors ++ others) are.now ∙ append_assoc front (job.actor ∷ back) others) sound)))

pub all_end_sound : (clients : List Busy) → EndsSound clients []
all_end_sound [] number rows others sound = sound
all_end_sound (busy ∷ clients) number rows others sound = all_end_sound clients number rows others (end_is_sound number rows busy.job.actor (actors_of clients ++ others) sound)
