-- The registered queries of a state and of a table.
use Rattle.std.proofs.Common.{◌≡◌, ◌≢◌, ◌⊎◌, inl, inr, ℕ, Bool, true, false, nat_lt, is_some, List, [], ◌∷◌, Option, Some, None, refl, ap, sym, subst, ◌∙◌, if◌then◌else◌}
use Rattle.std.proofs.lemmas.List.Elements.{All-head, All-tail}
use Rattle.std.specs.List.{All, Contains}
use Rattle.pcj_term.proofs.ByteLemmas.{other_bytes, same_bytes_itself}
use Rattle.pcj_term.proofs.ListLemmas.{first_or_later, nothing_in}
use Rattle.pcj_term.specs.Order.{same_bytes}
use Rattle.pcj_table.specs.Row.{newest}
use Rattle.pcj_encode.specs.declared.key_name.KeyName.TheVariants as row
use Rattle.pcj_encode.specs.Name.{key_of}
use Rattle.pcj_mvcc.specs.Reading.{Rows, SameReading, put_of, standing}
use Rattle.pcj_moves.specs.Actors.{Actor}
use Rattle.pcj_fit.specs.Queries as fit
use Rattle.pcj_fit.specs.QueryLaws.{registration_of}
use Rattle.pcj_client.specs.Job.{Content, Job}
use Rattle.pcj_client.specs.Job.Content.{Loads, Registers}
use Rattle.pcj_client.specs.Events.{IsKnown as IsNameKnown, IsNew, joined, queries_after as job_queries_after}
use Rattle.pcj_client.specs.declared.event.JobEvent.{JobEvent}
use Rattle.pcj_client.specs.declared.event.JobEvent.TheVariants as does
use Rattle.pcj_model.specs.Job as told
use Rattle.pcj_model.specs.Queries.{Registration, named, placed}
use Rattle.pcj_model.specs.State.{queries_after, with_content}
use Rattle.pcj_jobs.specs.Agrees.{AreTreesOf, HasRegistered, IsTreeOf, commit_told}
use Rattle.pcj_jobs.specs.Known.{IsContentOf}

-- ---- rows that are read as before

queries_alike : (before after : Rows) (known : List fit.Registration) → SameReading before after → fit.HasQueries before known → fit.HasQueries after known
queries_alike before after known same has = record {
  valid = has.valid;
  ascend = has.ascend;
  each = λ registration valid. (
    λ there. let was = (has.each registration valid).0 there in (was.0, stands registration ∙ was.1),
    λ stands_now. (has.each registration valid).1 (stands_now.0, sym (stands registration) ∙ stands_now.1),
  );
}
  where
    stands : (registration : fit.Registration) → standing after (key_of (row.Registration registration.number)) ≡ standing before (key_of (row.Registration registration.number))
    stands registration = ap (λ vs. put_of (newest vs)) (same (key_of (row.Registration registration.number)))

pub registered_alike : (before after : Rows) (queries : List Registration) → SameReading before after → HasRegistered before queries → HasRegistered after queries
registered_alike before after queries same registered = record { known = registered.known; has = queries_alike before after registered.known same registered.has; trees = registered.trees }

-- ---- one more

pub placed_trees : (new : Registration) (its : fit.Registration) (queries : List Registration) (known : List fit.Registration) → IsTreeOf new its → AreTreesOf queries known → AreTreesOf (placed new queries) (fit.added its known)
placed_trees new its [] [] is are = (is, tt)
placed_trees new its [] (first ∷ known) is are = absurd are
placed_trees new its (query ∷ queries) [] is are = absurd are
placed_trees new its (query ∷ queries) (first ∷ known) is are = by (nat_lt new.number query.number) refl (placed_trees new its queries known is are.1)
  where
    same : nat_lt its.number first.number ≡ nat_lt new.number query.number
    same = ap (λ n. nat_lt n first.number) (sym is.number) ∙ ap (nat_lt new.number) (sym are.0.number)

    by : (b : Bool) → nat_lt new.number query.number ≡ b → AreTreesOf (placed new queries) (fit.added its known) → AreTreesOf (placed new (query ∷ queries)) (fit.added its (first ∷ known))
    by true e rest = subst (λ b. AreTreesOf (if b then new ∷ query ∷ queries else query ∷ placed new queries) (fit.added its (first ∷ known))) (sym e)
        (subst (λ b. AreTreesOf (new ∷ query ∷ queries) (if b then its ∷ first ∷ known else first ∷ fit.added its known)) (sym (same ∙ e)) (is, are))
    by false e rest = subst (λ b. AreTreesOf (if b then new ∷ query ∷ queries else query ∷ placed new queries) (fit.added its (first ∷ known))) (sym e)
        (subst (λ b. AreTreesOf (query ∷ placed new queries) (if b then its ∷ first ∷ known else first ∷ fit.added its known)) (sym (same ∙ e)) (are.0, rest))

-- ---- names

-- a name that one of the table's has is told
pub name_is_told : (name : List ℕ) (queries : List Registration) (known : List fit.Registration) (its : fit.Registration) → AreTreesOf queries known → Contains known its → its.name ≡ name → is_some (named name queries) ≡ true
name_is_told name [] [] its are there is = absurd (nothing_in its there)
name_is_told name [] (first ∷ known) its are there is = absurd are
name_is_told name (query ∷ queries) [] its are there is = absurd are
name_is_told name (query ∷ queries) (first ∷ known) its are there is = by (same_bytes name query.name) refl (first_or_later first known its there) (name_is_told name queries known its are.1)
  where
    by : (b : Bool) → same_bytes name query.name ≡ b → (first ≡ its) ⊎ Contains known its → (Contains known its → its.name ≡ name → is_some (named name queries) ≡ true) → is_some (named name (query ∷ queries)) ≡ true
    by true e either later = ap (λ b. is_some (if b then Some query else named name queries)) e
    by false e (inr there) later = ap (λ b. is_some (if b then Some query else named name queries)) e ∙ later there is
    by false e (inl here) later = absurd (
        let same : query.name ≡ name = are.0.name ∙ ap (λ (r : fit.Registration). r.name) here ∙ is in
        let clash : true ≡ false = sym (same_bytes_itself name) ∙ ap (same_bytes name) (sym same) ∙ e in cc
        )

-- one that none of them has isn't
pub name_is_new : (name : List ℕ) (queries : List Registration) (known : List fit.Registration) → AreTreesOf queries known → All (λ (other : fit.Registration). other.name ≢ name) known → named name queries ≡ None
name_is_new name [] [] are others = refl
name_is_new name [] (first ∷ known) are others = absurd are
name_is_new name (query ∷ queries) [] are others = absurd are
name_is_new name (query ∷ queries) (first ∷ known) are others =
    ap (λ b. if b then Some query else named name queries) (other_bytes name query.name (λ same. All-head (λ (other : fit.Registration). other.name ≢ name) first known others (sym (same ∙ are.0.name))))
    ∙ name_is_new name queries known are.1 (All-tail (λ (other : fit.Registration). other.name ≢ name) first known others)

-- ---- with a commit

with_content_trees : (rows : Rows) (actor : Actor) (content : Content) (start : ℕ) (told_of : told.Content) (queries : List Registration) (known : List fit.Registration) → AreTreesOf queries known → start ≡ actor.start → IsContentOf content told_of →
    fit.HasQueries rows (joined content actor known) → HasRegistered rows (with_content queries start told_of)
with_content_trees rows actor (Loads triples) start (told.Content.Load its) queries known are same is has = record { known = known; has = has; trees = are }
with_content_trees rows actor (Loads triples) start (told.Content.Registration name query) queries known are same is has = absurd is
with_content_trees rows actor (Registers name tree) start (told.Content.Load its) queries known are same is has = absurd is
with_content_trees rows actor (Registers name tree) start (told.Content.Registration its query) queries known are same is has = record {
  known = fit.added (registration_of actor name tree) known;
  has = has;
  trees = placed_trees (record { name = its; number = start; query = query }) (registration_of actor name tree) queries known (record { name = is.0; number = same; tree = is.1 }) are;
}

-- what a step leaves of the queries
pub queries_then : (rows : Rows) (event : JobEvent) (job : Job) (its : told.Job) (queries : List Registration) (known : List fit.Registration) → AreTreesOf queries known → its.start ≡ job.actor.start → IsContentOf job.content its.content →
    fit.HasQueries rows (job_queries_after event job known) → HasRegistered rows (queries_after queries its (commit_told event))
queries_then rows does.Worked job its queries known are same is has = record { known = known; has = has; trees = are }
queries_then rows (does.Committed commit) job its queries known are same is has = with_content_trees rows job.actor job.content its.start its.content queries known are same is has
queries_then rows does.Done job its queries known are same is has = record { known = known; has = has; trees = are }
queries_then rows does.Aborted job its queries known are same is has = record { known = known; has = has; trees = are }
queries_then rows does.Taken job its queries known are same is has = record { known = known; has = has; trees = are }

-- ---- what is told of names

is_none : (found : Option Registration) → found ≡ None → is_some found ≡ false
is_none None e = refl
is_none (Some registration) e = absurd cc

-- with the commit of a registration no query has its name
pub held_by_none : (content : Content) (told_of : told.Content) (queries : List Registration) (known : List fit.Registration) → AreTreesOf queries known → IsContentOf content told_of → IsNew content known → told.is_name_held queries told_of ≡ false
held_by_none (Loads triples) (told.Content.Load its) queries known are is new = refl
held_by_none (Loads triples) (told.Content.Registration name query) queries known are is new = absurd is
held_by_none (Registers name tree) (told.Content.Load its) queries known are is new = absurd is
held_by_none (Registers name tree) (told.Content.Registration its query) queries known are is new =
    ap (λ n. is_some (named n queries)) is.0 ∙ is_none (named name queries) (name_is_new name queries known are new)

-- and where one is taken a query has it
pub held_by_one : (content : Content) (told_of : told.Content) (queries : List Registration) (known : List fit.Registration) → AreTreesOf queries known → IsContentOf content told_of → IsNameKnown content known → told.is_name_held queries told_of ≡ true
held_by_one (Loads triples) told_of queries known are is held = absurd held
held_by_one (Registers name tree) (told.Content.Load its) queries known are is held = absurd is
held_by_one (Registers name tree) (told.Content.Registration its query) queries known are is held =
    ap (λ n. is_some (named n queries)) is.0 ∙ name_is_told name queries known held.0 are held.1 held.2
