-- The session that a run begins with knows the registered queries of the table.
use Rattle.std.proofs.Common.{◌≡◌, ◌≢◌, ◌<◌, ℕ, Bool, true, false, ◌&&◌, ◌==◌, ◌⊎◌, inl, inr, cond, List, [], ◌∷◌, Some, refl, ap, sym, subst, ◌∙◌, arith}
use Rattle.std.specs.List.{All, Contains}
use Rattle.std.specs.Map.{lookup}
use Rattle.std.proofs.lemmas.Bool.{eqb-true}
use Rattle.std.proofs.lemmas.List.Elements.{All-head, All-tail}
use Rattle.pcj_term.specs.Order.{same_bytes}
use Rattle.pcj_term.proofs.ListLemmas.{all_by_recursion, first_or_later, first_there, later_there, nothing_in}
use Rattle.pcj_table.specs.Table.{Table, row_at}
use Rattle.pcj_oracle.specs.Clock.{stored_number}
use Rattle.pcj_algebra.specs.declared.query.Query.{Query}
use Rattle.pcj_fit.specs.Fit.{Fit}
use Rattle.pcj_fit.specs.Queries as fit
use Rattle.pcj_rows.proofs.EachLemmas.{of_each}
use Rattle.pcj_fit.proofs.QueryLemmas.{names_are_distinct}
use Rattle.pcj_fit.proofs.SoundLemmas.{fit_is_sound}
use Rattle.pcj_fit.proofs.TableQueries.{queries_are_one, tables_have_queries}
use Rattle.pcj_registrations.specs.declared.registration.Registration.{Registration}
use Rattle.pcj_registrations.specs.Registrations.{list_of, registration_of}
use Rattle.pcj_pending.specs.Pending.{IsFit, locks_of, notifications_of}
use Rattle.pcj_model.specs.Queries as told
use Rattle.pcj_jobs.specs.Agrees.{AreTreesOf, HasRegistered}
use Rattle.pcj_session.specs.Names.{AreKept, IsKeptAs}
use Rattle.pcj_session.specs.Registry.{AreRebuilt, AreRegistrations}
use Rattle.pcj_session.specs.Session.{Held, Holds, held_first}
use Rattle.pcj_replay.specs.Entry.{IsOpen}
use Rattle.pcj_replay.specs.Runs.{HoldsFirst}
use Rattle.pcj_replay.proofs.AnswerLemmas.{below_first}

-- ---- the registrations that are read

there_said : (registrations : List Registration) (other : Registration) → Contains registrations other → Contains (list_of registrations) (registration_of other)
there_said [] other there = absurd (nothing_in other there)
there_said (first ∷ registrations) other there = by (there_said registrations other) (first_or_later first registrations other there)
  where
    by : (Contains registrations other → Contains (list_of registrations) (registration_of other)) → (first ≡ other) ⊎ Contains registrations other → Contains (registration_of first ∷ list_of registrations) (registration_of other)
    by deeper (inl same) = subst (λ (r : Registration). Contains (registration_of first ∷ list_of registrations) (registration_of r)) same (first_there (registration_of first) (list_of registrations))
    by deeper (inr later) = later_there (registration_of first) (list_of registrations) (registration_of other) (deeper later)

apart : (all : List fit.Registration) (rest : List Registration) → ((one other : fit.Registration) → Contains all one → Contains all other → one.name ≡ other.name → one ≡ other) → ((one : fit.Registration) → Contains (list_of rest) one → Contains all one) →
    All fit.IsValidRegistration (list_of rest) → fit.Ascend (list_of rest) → AreRegistrations rest
apart all [] distinct inside valid ascend = tt
apart all (first ∷ rest) distinct inside valid ascend = (
  (All-head fit.IsValidRegistration (registration_of first) (list_of rest) valid).of_query,
  all_by_recursion (λ (other : Registration). first.name ≢ other.name) rest differ,
  apart all rest distinct (λ one there. inside one (later_there (registration_of first) (list_of rest) one there)) (All-tail fit.IsValidRegistration (registration_of first) (list_of rest) valid) ascend.1,
)
  where
    differ : (other : Registration) → Contains rest other → first.name ≢ other.name
    differ other there same =
        let said = there_said rest other there in
        let one = distinct (registration_of first) (registration_of other) (inside (registration_of first) (first_there (registration_of first) (list_of rest))) (inside (registration_of other) (later_there (registration_of first) (list_of rest) (registration_of other) said)) same in
        let lower = of_each (λ (later : fit.Registration). first.number < later.number) (list_of rest) (registration_of other) ascend.0 said in
        let number = ap (λ (r : fit.Registration). r.number) one in
        omega (arith, lower, number)

-- they have queries' trees, and names of their own
pub are_registrations : (table : Table) (registrations : List Registration) → IsOpen table → fit.HasQueries (row_at table) (list_of registrations) → AreRegistrations registrations
are_registrations table registrations ready has =
    apart (list_of registrations) registrations (λ one other there there' same. names_are_distinct (stored_number table) (row_at table) (list_of registrations) one other ready.fit has there there' same) (λ one there. there) has.valid has.ascend

-- the queries that are kept of them are those of whoever is registered
kept_first : (registrations : List Registration) (entries : List (List ℕ × Query)) (queries : List told.Registration) → AreRebuilt registrations entries → AreTreesOf queries (list_of registrations) → AreKept entries queries
kept_first [] [] [] rebuilt trees name = tt
kept_first [] [] (query ∷ queries) rebuilt trees name = absurd trees
kept_first [] (entry ∷ entries) queries rebuilt trees name = absurd rebuilt
kept_first (first ∷ registrations) [] queries rebuilt trees name = absurd rebuilt
kept_first (first ∷ registrations) (entry ∷ entries) [] rebuilt trees name = absurd trees
kept_first (first ∷ registrations) (entry ∷ entries) (query ∷ queries) rebuilt trees name =
    by (same_bytes name entry.0) (same_bytes name query.name) (ap (same_bytes name) (rebuilt.0 ∙ sym (trees.0).name)) (kept_first registrations entries queries rebuilt.2 trees.1 name)
  where
    by : (a b : Bool) → a ≡ b → IsKeptAs (lookup (same_bytes name) entries) (told.named name queries) → IsKeptAs (cond a (Some entry.1) (lookup (same_bytes name) entries)) (cond b (Some query) (told.named name queries))
    by true true e later = (first.tree, rebuilt.1, (trees.0).tree)
    by true false e later = absurd cc
    by false true e later = absurd cc
    by false false e later = later

-- the rows are fit below some number
pub fit_at_entry : (table : Table) → IsOpen table → IsFit (row_at table)
fit_at_entry table ready = record { next = stored_number table; last = ready.clock.last; fit = ready.fit }

-- those that are read at the entry are the table's
pub found_at_entry : (table behind : Table) (found : List Registration) → IsOpen table → behind ≡ table → (IsFit (row_at behind) → fit.HasQueries (row_at behind) (list_of found)) → fit.HasQueries (row_at table) (list_of found)
found_at_entry table behind found ready same read = subst (λ (t : Table). fit.HasQueries (row_at t) (list_of found)) same (read (subst (λ (t : Table). IsFit (row_at t)) (sym same) (fit_at_entry table ready)))

-- ---- before the first command

is_zero : (n : ℕ) → n == 0 ≡ true → n ≡ 0
is_zero n e = eqb-true n 0 e

both : (a b : Bool) → a && b ≡ true → (a ≡ true) × (b ≡ true)
both true b e = (refl, e)
both false b e = absurd cc

pub holds_first : (held : Held) (table : Table) (registrations : List Registration) → IsOpen table → AreRebuilt registrations held.queries → held ≡ held_first held.queries → fit.HasQueries (row_at table) (list_of registrations) → HoldsFirst held table
holds_first held table registrations ready rebuilt is has start (triples, queries, has_triples, registered, at) =
    subst (λ (h : Held). Holds [] h table start) (sym is) (subst (Holds [] (held_first held.queries) table) (sym at) (record {
      sound = fit_is_sound (stored_number table) (row_at table) ready.fit;
      kept = kept_first registrations held.queries queries rebuilt (subst (AreTreesOf queries) (queries_are_one (row_at table) registered.known (list_of registrations) registered.has has) registered.trees);
      opened = λ client. tt;
      agrees = record {
        known = record { apart = refl; each = λ client. tt };
        triples = has_triples;
        queries = registered;
        last = below_first (stored_number table) ready.clock.first;
        locks = omega arith;
        notifications = omega arith;
        idle = is_zero (notifications_of table);
        quiet = λ e. let known = both (notifications_of table == 0) (locks_of table == 0) e in record { locks = is_zero (locks_of table) known.1; notifications = is_zero (notifications_of table) known.0 };
      };
    }))

-- ---- each table has some queries

told_of : (known : List fit.Registration) → All fit.IsValidRegistration known → (queries : List told.Registration) × AreTreesOf queries known
told_of [] valid = ([], tt)
told_of (first ∷ known) valid =
    let (queries, trees) = told_of known (All-tail fit.IsValidRegistration first known valid) in
    let its = (All-head fit.IsValidRegistration first known valid).of_query in
    (record { name = first.name; number = first.number; query = its.query } ∷ queries, (record { name = refl; number = refl; tree = its.is }, trees))

pub some_queries : (number : ℕ) (table : Table) → Fit number (row_at table) → (queries : List told.Registration) × HasRegistered (row_at table) queries
some_queries number table is =
    let (known, has) = tables_have_queries number table is in
    let (queries, trees) = told_of known has.valid in
    (queries, record { known = known; has = has; trees = trees })
