-- Queries by their names, and what clients register.
use Rattle.std.proofs.Common.{◌≡◌, ℕ, Bool, true, false, cond, ◌==◌, nat_lt, if◌then◌else◌, List, [], ◌∷◌, Option, Some, None, refl, ap, sym, subst, ◌∙◌}
use Rattle.std.specs.Map.{lookup}
use Rattle.std.specs.Option.{option_map}
use Rattle.std.proofs.lemmas.Bool.{eq-eqb, eqb-false, eqb-true, ne_eqb}
use Rattle.pcj_term.specs.declared.triple.Triple.{Triple}
use Rattle.pcj_term.specs.Order.{same_bytes}
use Rattle.pcj_term.proofs.ByteLemmas.{same_bytes_are, same_bytes_itself}
use Rattle.pcj_algebra.specs.declared.query.Query.{Query}
use Rattle.pcj_model.specs.Job.{Content, Job, beside}
use Rattle.pcj_model.specs.Job.Content.{Load, Registration as Registers}
use Rattle.pcj_model.specs.Queries.{Registration, named, placed}
use Rattle.pcj_model.specs.State.{all_beside, with_job}
use Rattle.pcj_session.specs.declared.registry.Opened.{Opened}
use Rattle.pcj_session.specs.Names.{AreKept, AreOpen, HaveOneTree, IsKeptAs, IsOpenFor, IsOpenOf}
use Rattle.pcj_session.specs.Registry.{Opens}

-- ---- what is kept under a name

none_of : (found : Option Registration) → IsKeptAs None found → found ≡ None
none_of None is = refl
none_of (Some registration) is = absurd is

some_of : (query : Query) (found : Option Registration) → IsKeptAs (Some query) found → (registration : Registration) × (found ≡ Some registration) × HaveOneTree query registration.query
some_of query None is = absurd is
some_of query (Some registration) is = (registration, refl, is)

pub none_kept : (kept : List (List ℕ × Query)) (queries : List Registration) (name : List ℕ) → AreKept kept queries → lookup (same_bytes name) kept ≡ None → named name queries ≡ None
none_kept kept queries name are none = none_of (named name queries) (subst (λ found. IsKeptAs found (named name queries)) none (are name))

pub some_kept : (kept : List (List ℕ × Query)) (queries : List Registration) (name : List ℕ) (query : Query) → AreKept kept queries → lookup (same_bytes name) kept ≡ Some query →
    (registration : Registration) × (named name queries ≡ Some registration) × HaveOneTree query registration.query
some_kept kept queries name query are some = some_of query (named name queries) (subst (λ found. IsKeptAs found (named name queries)) some (are name))

-- ---- one more

same_turned : (name other : List ℕ) → same_bytes name other ≡ same_bytes other name
same_turned name other = by (same_bytes name other) (same_bytes other name) refl refl
  where
    by : (one two : Bool) → same_bytes name other ≡ one → same_bytes other name ≡ two → same_bytes name other ≡ same_bytes other name
    by true true e f = e ∙ sym f
    by false false e f = e ∙ sym f
    by true false e f = absurd (let clash : true ≡ false = sym (same_bytes_itself other) ∙ ap (same_bytes other) (sym (same_bytes_are name other e)) ∙ f in cc)
    by false true e f = absurd (let clash : true ≡ false = sym (same_bytes_itself name) ∙ ap (same_bytes name) (sym (same_bytes_are other name f)) ∙ e in cc)

-- two names of which not both are this one are looked for in either order
one_first : {X : Type 0} (a b : Bool) (x y : X) (rest : Option X) → (a ≡ true → b ≡ true → ⊥) → cond a (Some x) (cond b (Some y) rest) ≡ cond b (Some y) (cond a (Some x) rest)
one_first true true x y rest apart = absurd (apart refl refl)
one_first true false x y rest apart = refl
one_first false true x y rest apart = refl
one_first false false x y rest apart = refl

-- a new registration is found by its name, and the others by theirs
pub named_placed : (name : List ℕ) (new : Registration) (queries : List Registration) → named new.name queries ≡ None → named name (placed new queries) ≡ cond (same_bytes name new.name) (Some new) (named name queries)
named_placed name new [] none = refl
named_placed name new (first ∷ queries) none = by (nat_lt new.number first.number) (same_bytes new.name first.name) refl none (named_placed name new queries)
  where
    by : (lower same : Bool) → same_bytes new.name first.name ≡ same → cond same (Some first) (named new.name queries) ≡ None →
        (named new.name queries ≡ None → named name (placed new queries) ≡ cond (same_bytes name new.name) (Some new) (named name queries)) →
        named name (if lower then new ∷ first ∷ queries else first ∷ placed new queries) ≡ cond (same_bytes name new.name) (Some new) (cond (same_bytes name first.name) (Some first) (named name queries))
    by lower true is none later = absurd (let clash = none in cc)
    by true false is none later = refl
    by false false is none later = ap (cond (same_bytes name first.name) (Some first)) (later none)
        ∙ one_first (same_bytes name first.name) (same_bytes name new.name) first new (named name queries)
        (λ a b. let clash : true ≡ false = sym (same_bytes_itself new.name) ∙ ap (same_bytes new.name) (sym (same_bytes_are name new.name b) ∙ same_bytes_are name first.name a) ∙ is in cc)

one_is : (query : Query) (new : Registration) (b : Bool) (was : Option Query) (found : Option Registration) → HaveOneTree query new.query → IsKeptAs was found → IsKeptAs (cond b (Some query) was) (cond b (Some new) found)
one_is query new true was found one is = one
one_is query new false was found one is = is

-- the query that was open is kept under its name
pub kept_more : (kept more : List (List ℕ × Query)) (queries : List Registration) (query : Query) (new : Registration) → AreKept kept queries → named new.name queries ≡ None → HaveOneTree query new.query →
    ((name : List ℕ) → lookup (same_bytes name) more ≡ cond (same_bytes new.name name) (Some query) (lookup (same_bytes name) kept)) → AreKept more (placed new queries)
kept_more kept more queries query new are none one changed name =
    subst (λ found. IsKeptAs found (named name (placed new queries))) (sym (changed name))
    (subst (IsKeptAs (cond (same_bytes new.name name) (Some query) (lookup (same_bytes name) kept))) (sym (named_placed name new queries none ∙ ap (λ b. cond b (Some new) (named name queries)) (same_turned name new.name)))
    (one_is query new (same_bytes new.name name) (lookup (same_bytes name) kept) (named name queries) one (are name)))

-- ---- what clients register

-- beside a step of somebody else
pub stays_open : (content : Content) (job other : Job) (opened : Option Opened) → other.is_committed ≡ job.is_committed → IsOpenFor content job opened → IsOpenFor content other opened
stays_open (Load triples) job other opened same is = is
stays_open (Registers name query) job other opened same is = λ undone. is (sym same ∙ undone)

open_beside : (joined : List Triple) (names : List (List ℕ)) (job : Option Job) (opened : Option Opened) → IsOpenOf job opened → IsOpenOf (option_map (beside joined names) job) opened
open_beside joined names None opened is = tt
open_beside joined names (Some job) opened is = stays_open job.content job (beside joined names job) opened refl is

pub all_open_beside : (joined : List Triple) (names : List (List ℕ)) (opened : List (ℕ × Opened)) (jobs : ℕ → Option Job) → AreOpen opened jobs → AreOpen opened (all_beside joined names jobs)
all_open_beside joined names opened jobs are client = open_beside joined names (jobs client) (lookup (λ key. client == key) opened) (are client)

-- a client begins with a job, ends with it, or goes on; the others have theirs
pub open_with : (client : ℕ) (job : Option Job) (entry : Option Opened) (opened more : List (ℕ × Opened)) (jobs : ℕ → Option Job) → Opens client entry opened more → IsOpenOf job entry → AreOpen opened jobs → AreOpen more (with_job jobs client job)
open_with client job entry opened more jobs opens is are other = by (other == client) refl
  where
    turned : (b : Bool) → other == client ≡ b → client == other ≡ b
    turned true e = eq-eqb client other (sym (eqb-true other client e))
    turned false e = ne_eqb client other (λ same. eqb-false other client e (sym same))

    by : (b : Bool) → other == client ≡ b → IsOpenOf (if b then job else jobs other) (lookup (λ key. other == key) more)
    by true e = subst (IsOpenOf job) (sym (opens other ∙ ap (λ b. cond b entry (lookup (λ key. other == key) opened)) (turned true e))) is
    by false e = subst (IsOpenOf (jobs other)) (sym (opens other ∙ ap (λ b. cond b entry (lookup (λ key. other == key) opened)) (turned false e))) (are other)

-- where nothing is opened or closed, a client's job may end, or go on uncommitted as it was
pub open_on : (client : ℕ) (job : Option Job) (opened : List (ℕ × Opened)) (jobs : ℕ → Option Job) → IsOpenOf job (lookup (λ key. client == key) opened) → AreOpen opened jobs → AreOpen opened (with_job jobs client job)
open_on client job opened jobs is are other = by (other == client) refl
  where
    by : (b : Bool) → other == client ≡ b → IsOpenOf (if b then job else jobs other) (lookup (λ key. other == key) opened)
    by true e = subst (λ n. IsOpenOf job (lookup (λ key. n == key) opened)) (sym (eqb-true other client e)) is
    by false e = are other
