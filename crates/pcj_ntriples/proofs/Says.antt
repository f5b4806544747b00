-- What is read from a line is what it says, or what is wrong with it, and the other way round.
use Rattle.std.proofs.Common.{◌≡◌, ℕ, Bool, true, false, List, [], ◌∷◌, drop, Option, Some, None, Result, Ok, Err, refl, ap, sym, subst, ◌∙◌, inl, inr, ◌⊎◌, chars}
use Rattle.std.specs.Str.{all_scalars, is_utf8}
use Rattle.std.proofs.lemmas.Str.{scalars-chars, IsUtf8-from_is_utf8}
use Rattle.pcj_term.specs.declared.term.Term.{Term}
use Rattle.pcj_term.specs.declared.term.Term.TheVariants.{Iri, Blank, Literal}
use Rattle.pcj_term.specs.declared.triple.Triple.{Triple}
use Rattle.pcj_term.specs.Reading.{begins_with}
use Rattle.pcj_ntriples.specs.declared.kind.NtKind.{NtKind}
use Rattle.pcj_ntriples.specs.declared.kind.NtKind.TheVariants.{NotUtf8, SubjectExpected, PredicateExpected, ObjectExpected, DotExpected, IriChar, IriOpen, StringOpen, BadEscape, BadTag, RelativeIri, TrailingText, TermTooLong, TooMany}
use Rattle.pcj_ntriples.specs.declared.enclosure.Enclosure.TheVariants as enclosures
use Rattle.pcj_ntriples.specs.declared.place.Place.TheVariants as places
use Rattle.pcj_ntriples.specs.Text.{HoldsForbidden, IsForbiddenRaw, IsForbiddenEscape}
use Rattle.pcj_ntriples.specs.Term.{TakesTerm, TakesLongTerm}
use Rattle.pcj_ntriples.specs.Line.{ends_line, BeforeSubject, BeforePredicate, BeforeObject, BeforeDot, AfterDot, AtString, AfterString, AtIri, IsTooLong, IsFaulty, Says, Good, Bad}
use Rattle.pcj_ntriples.specs.LineReading.{◌>>=◌, skip_blanks, term_at, end_at, dot_at, object_at, predicate_at, subject_at, said_by, said_at}
use Rattle.pcj_ntriples.proofs.Taken.{Ends, ends_through, ends_scalars, skips_ends, takes_ends, skip_taken, skip_again, begins_is, IsIriFault, IsKindFault, IsLiteralFault, IsTermFault, IsTermOutcome, term_outcome, term_read, long_read, fault_read}

-- ---- whole items

pub before_predicate_ends : (load : ℕ) (line : List ℕ) (subject : Term) (rest : List ℕ) → BeforePredicate load line subject rest → Ends line rest
before_predicate_ends load line subject rest h = let takes = h.3 in
    ends_through line h.0 rest (skips_ends line h.0 h.2)
    (ends_through h.0 h.1 rest (takes_ends load h.0 subject h.1 takes.1) (skips_ends h.1 rest h.4))

pub before_object_ends : (load : ℕ) (line : List ℕ) (subject predicate : Term) (rest : List ℕ) → BeforeObject load line subject predicate rest → Ends line rest
before_object_ends load line subject predicate rest h = let takes = h.3 in
    ends_through line h.0 rest (before_predicate_ends load line subject h.0 h.2)
    (ends_through h.0 h.1 rest (takes_ends load h.0 predicate h.1 takes.1) (skips_ends h.1 rest h.4))

subject_read : (load : ℕ) (line rest : List ℕ) → BeforeSubject line rest → said_by load line ≡ subject_at load rest
subject_read load line rest h = ap (subject_at load) (skip_again line rest h)

abbrev with_subject : ℕ → Result (Term × List ℕ) NtKind → Result (Option Triple) NtKind
with_subject load r = r >>= (λ found. predicate_at load found.0 (skip_blanks found.1))

abbrev with_predicate : ℕ → Term → Result (Term × List ℕ) NtKind → Result (Option Triple) NtKind
with_predicate load subject r = r >>= (λ found. object_at load subject found.0 (skip_blanks found.1))

abbrev with_object : Term → Term → Result (Term × List ℕ) NtKind → Result (Option Triple) NtKind
with_object subject predicate r = r >>= (λ found. dot_at (record { subject = subject; predicate = predicate; object = found.0 }) (skip_blanks found.1))

subject_goes_on : (load : ℕ) (rest : List ℕ) (r : Result (Term × List ℕ) NtKind) → ends_line rest ≡ false → term_at load places.Subject rest ≡ r → subject_at load rest ≡ with_subject load r
unfolding subject_at
subject_goes_on load rest r e h = rw e (ap (with_subject load) h)

predicate_goes_on : (load : ℕ) (subject : Term) (rest : List ℕ) (r : Result (Term × List ℕ) NtKind) → term_at load places.Predicate rest ≡ r → predicate_at load subject rest ≡ with_predicate load subject r
unfolding predicate_at
predicate_goes_on load subject rest r h = ap (with_predicate load subject) h

object_goes_on : (load : ℕ) (subject predicate : Term) (rest : List ℕ) (r : Result (Term × List ℕ) NtKind) → term_at load places.Object rest ≡ r → object_at load subject predicate rest ≡ with_object subject predicate r
unfolding object_at
object_goes_on load subject predicate rest r h = ap (with_object subject predicate) h

subject_no_end : (load : ℕ) (from : List ℕ) (subject : Term) (to : List ℕ) → TakesTerm load places.Subject from subject to → ends_line from ≡ false
subject_no_end load from (Iri iri) to h = let takes = h.1 in ap ends_line takes.1
subject_no_end load from (Blank node label) to h = let takes = h.1 in ap ends_line takes.1
subject_no_end load from (Literal text kind) to h = let wrong = h.0 in absurd cc

long_no_end : (load : ℕ) (from : List ℕ) (subject : Term) (to : List ℕ) → TakesLongTerm load places.Subject from subject to → ends_line from ≡ false
long_no_end load from (Iri iri) to h = let takes = h.1 in ap ends_line takes.1
long_no_end load from (Blank node label) to h = let takes = h.1 in ap ends_line takes.1
long_no_end load from (Literal text kind) to h = let wrong = h.0 in absurd cc

predicate_read : (load : ℕ) (line : List ℕ) (subject : Term) (rest : List ℕ) → all_scalars line ≡ true → BeforePredicate load line subject rest → said_by load line ≡ predicate_at load subject rest
predicate_read load line subject rest are h =
    let some = ends_scalars line h.0 (skips_ends line h.0 h.2) are in
    subject_read load line h.0 h.2
    ∙ subject_goes_on load h.0 (Ok (subject, h.1)) (subject_no_end load h.0 subject h.1 h.3) (term_read load places.Subject h.0 subject h.1 some h.3)
    ∙ ap (predicate_at load subject) (skip_again h.1 rest h.4)

object_read : (load : ℕ) (line : List ℕ) (subject predicate : Term) (rest : List ℕ) → all_scalars line ≡ true → BeforeObject load line subject predicate rest → said_by load line ≡ object_at load subject predicate rest
object_read load line subject predicate rest are h =
    let some = ends_scalars line h.0 (before_predicate_ends load line subject h.0 h.2) are in
    predicate_read load line subject h.0 are h.2
    ∙ predicate_goes_on load subject h.0 (Ok (predicate, h.1)) (term_read load places.Predicate h.0 predicate h.1 some h.3)
    ∙ ap (object_at load subject predicate) (skip_again h.1 rest h.4)

dot_read : (load : ℕ) (line : List ℕ) (triple : Triple) (rest : List ℕ) → all_scalars line ≡ true → BeforeDot load line triple rest → said_by load line ≡ dot_at triple rest
dot_read load line triple rest are h =
    let some = ends_scalars line h.0 (before_object_ends load line triple.subject triple.predicate h.0 h.2) are in
    object_read load line triple.subject triple.predicate h.0 are h.2
    ∙ object_goes_on load triple.subject triple.predicate h.0 (Ok (triple.object, h.1)) (term_read load places.Object h.0 triple.object h.1 some h.3)
    ∙ ap (dot_at triple) (skip_again h.1 rest h.4)

dot_found : (triple : Triple) (after : List ℕ) → dot_at triple (46 ∷ after) ≡ end_at triple (skip_blanks after)
unfolding dot_at
dot_found triple after = refl

end_read : (load : ℕ) (line : List ℕ) (triple : Triple) (rest : List ℕ) → all_scalars line ≡ true → AfterDot load line triple rest → said_by load line ≡ end_at triple rest
end_read load line triple rest are h =
    dot_read load line triple (46 ∷ h.0) are h.1 ∙ dot_found triple h.0 ∙ ap (end_at triple) (skip_again h.0 rest h.2)

-- ---- what a line says is read

empty_said : (load : ℕ) (rest : List ℕ) → ends_line rest ≡ true → subject_at load rest ≡ Ok None
unfolding subject_at
empty_said load rest e = rw e refl

whole_said : (triple : Triple) (rest : List ℕ) → ends_line rest ≡ true → end_at triple rest ≡ Ok (Some triple)
unfolding end_at
whole_said triple rest e = rw e refl

pub says_read : (load : ℕ) (line : List ℕ) (said : Option Triple) → all_scalars line ≡ true → Says load line said → said_by load line ≡ Ok said
says_read load line None are h = subject_read load line h.0 h.1 ∙ empty_said load h.0 h.2
says_read load line (Some triple) are h = end_read load line triple h.0 are h.1 ∙ whole_said triple h.0 h.2

-- ---- what is wrong with a line is read

trailing_read : (triple : Triple) (rest : List ℕ) → ends_line rest ≡ false → end_at triple rest ≡ Err TrailingText
unfolding end_at
trailing_read triple rest e = rw e refl

no_dot_read : (triple : Triple) (rest : List ℕ) → begins_with 46 rest ≡ false → dot_at triple rest ≡ Err DotExpected
unfolding dot_at
no_dot_read triple rest e = rw e refl

string_fault : (load : ℕ) (line inner : List ℕ) (kind : NtKind) → all_scalars line ≡ true → AtString load line inner → IsLiteralFault inner kind → said_by load line ≡ Err kind
string_fault load line inner kind are h fault =
    object_read load line h.0 h.1 (34 ∷ inner) are h.2
    ∙ object_goes_on load h.0 h.1 (34 ∷ inner) (Err kind) (fault_read load places.Object (34 ∷ inner) kind (inr (inr (inner, refl, refl, fault))))

after_string_fault : (load : ℕ) (line after : List ℕ) (kind : NtKind) → all_scalars line ≡ true → AfterString load line after → IsKindFault after kind → said_by load line ≡ Err kind
after_string_fault load line after kind are h fault = string_fault load line h.0 kind are h.2 (inr (h.1, after, h.3, fault))

iri_fault : (load : ℕ) (line inner : List ℕ) (kind : NtKind) → all_scalars line ≡ true → AtIri load line inner → IsIriFault inner kind → said_by load line ≡ Err kind
iri_fault load line inner kind are (inl h) fault =
    subject_read load line (60 ∷ inner) h
    ∙ subject_goes_on load (60 ∷ inner) (Err kind) refl (fault_read load places.Subject (60 ∷ inner) kind (inr (inl (inner, refl, fault))))
iri_fault load line inner kind are (inr (inl h)) fault =
    predicate_read load line h.0 (60 ∷ inner) are h.1
    ∙ predicate_goes_on load h.0 (60 ∷ inner) (Err kind) (fault_read load places.Predicate (60 ∷ inner) kind (inr (inl (inner, refl, fault))))
iri_fault load line inner kind are (inr (inr (inl h))) fault =
    object_read load line h.0 h.1 (60 ∷ inner) are h.2
    ∙ object_goes_on load h.0 h.1 (60 ∷ inner) (Err kind) (fault_read load places.Object (60 ∷ inner) kind (inr (inl (inner, refl, fault))))
iri_fault load line inner kind are (inr (inr (inr h))) fault =
    after_string_fault load line h.0 kind are h.1 (inr (inr (inner, h.2, fault)))

long_fault : (load : ℕ) (line : List ℕ) → all_scalars line ≡ true → IsTooLong load line → said_by load line ≡ Err TermTooLong
long_fault load line are (inl h) =
    let some = ends_scalars line h.0 (skips_ends line h.0 h.3) are in
    subject_read load line h.0 h.3
    ∙ subject_goes_on load h.0 (Err TermTooLong) (long_no_end load h.0 h.2 h.1 h.4) (long_read load places.Subject h.0 h.2 h.1 some h.4)
long_fault load line are (inr (inl h)) =
    let some = ends_scalars line h.0 (before_predicate_ends load line h.2 h.0 h.4) are in
    predicate_read load line h.2 h.0 are h.4
    ∙ predicate_goes_on load h.2 h.0 (Err TermTooLong) (long_read load places.Predicate h.0 h.3 h.1 some h.5)
long_fault load line are (inr (inr h)) =
    let triple = h.2 in
    let some = ends_scalars line h.0 (before_object_ends load line triple.subject triple.predicate h.0 h.3) are in
    object_read load line triple.subject triple.predicate h.0 are h.3
    ∙ object_goes_on load triple.subject triple.predicate h.0 (Err TermTooLong) (long_read load places.Object h.0 triple.object h.1 some h.4)

pub faulty_read : (load : ℕ) (line : List ℕ) (kind : NtKind) → all_scalars line ≡ true → IsFaulty load line kind → said_by load line ≡ Err kind
faulty_read load line NotUtf8 are h = absurd h
faulty_read load line SubjectExpected are h =
    subject_read load line h.0 h.1 ∙ subject_goes_on load h.0 (Err SubjectExpected) h.2 (fault_read load places.Subject h.0 SubjectExpected (inl (refl, h.3)))
faulty_read load line PredicateExpected are h =
    predicate_read load line h.1 h.0 are h.2 ∙ predicate_goes_on load h.1 h.0 (Err PredicateExpected) (fault_read load places.Predicate h.0 PredicateExpected (inl (refl, h.3)))
faulty_read load line ObjectExpected are (inl h) =
    object_read load line h.1 h.2 h.0 are h.3 ∙ object_goes_on load h.1 h.2 h.0 (Err ObjectExpected) (fault_read load places.Object h.0 ObjectExpected (inl (refl, h.4)))
faulty_read load line ObjectExpected are (inr h) = let place = h.1 in after_string_fault load line place.0 ObjectExpected are place.1 (inr (inl (refl, (h.0, place.2, h.2))))
faulty_read load line DotExpected are h = dot_read load line h.1 h.0 are h.2 ∙ no_dot_read h.1 h.0 h.3
faulty_read load line IriChar are h = iri_fault load line h.0 IriChar are h.1 (inl (inr (inr (refl, h.2))))
faulty_read load line IriOpen are h = iri_fault load line h.0 IriOpen are h.1 (inl (inl (refl, h.2)))
faulty_read load line StringOpen are h = string_fault load line h.0 StringOpen are h.1 (inl (inl (refl, h.2)))
faulty_read load line BadEscape are (inl h) = iri_fault load line h.0 BadEscape are h.1 (inl (inr (inl (refl, h.2))))
faulty_read load line BadEscape are (inr h) = string_fault load line h.0 BadEscape are h.1 (inl (inr (inl (refl, h.2))))
faulty_read load line BadTag are h = let place = h.1 in after_string_fault load line place.0 BadTag are place.1 (inl (refl, (h.0, place.2, h.2)))
faulty_read load line RelativeIri are h = iri_fault load line h.0 RelativeIri are h.1 (inr (refl, h.2))
faulty_read load line TrailingText are h = end_read load line h.1 h.0 are h.2 ∙ trailing_read h.1 h.0 h.3
faulty_read load line TermTooLong are h = long_fault load line are h
faulty_read load line TooMany are h = absurd h

-- ---- what is read is what a line says, or what is wrong with it

iri_faulty : (load : ℕ) (line inner : List ℕ) (kind : NtKind) → AtIri load line inner → IsIriFault inner kind → IsFaulty load line kind
iri_faulty load line inner kind place (inl (inl h)) = subst (IsFaulty load line) (sym h.0) (inner, place, h.1)
iri_faulty load line inner kind place (inl (inr (inl h))) = subst (IsFaulty load line) (sym h.0) (inl (inner, place, h.1))
iri_faulty load line inner kind place (inl (inr (inr h))) = subst (IsFaulty load line) (sym h.0) (inner, place, h.1)
iri_faulty load line inner kind place (inr h) = subst (IsFaulty load line) (sym h.0) (inner, place, h.1)

kind_faulty : (load : ℕ) (line after : List ℕ) (kind : NtKind) → AfterString load line after → IsKindFault after kind → IsFaulty load line kind
kind_faulty load line after kind place (inl h) = let found = h.1 in subst (IsFaulty load line) (sym h.0) (found.0, (after, place, found.1), found.2)
kind_faulty load line after kind place (inr (inl h)) = let found = h.1 in subst (IsFaulty load line) (sym h.0) (inr (found.0, (after, place, found.1), found.2))
kind_faulty load line after kind place (inr (inr h)) = iri_faulty load line h.0 kind (inr (inr (inr (after, place, h.1)))) h.2

-- a string allows each character
none_forbidden : (inner : List ℕ) → HoldsForbidden enclosures.String inner → ⊥
none_forbidden inner h = by h.1 h.3
  where
    by : (rest : List ℕ) → IsForbiddenRaw enclosures.String rest ⊎ IsForbiddenEscape enclosures.String rest → ⊥
    by [] (inl raw) = raw
    by (character ∷ rest) (inl raw) = let wrong = raw.1 in absurd cc
    by rest (inr escape) = let wrong = escape.5 in absurd cc

literal_faulty : (load : ℕ) (line inner : List ℕ) (kind : NtKind) → AtString load line inner → IsLiteralFault inner kind → IsFaulty load line kind
literal_faulty load line inner kind place (inl (inl h)) = subst (IsFaulty load line) (sym h.0) (inner, place, h.1)
literal_faulty load line inner kind place (inl (inr (inl h))) = subst (IsFaulty load line) (sym h.0) (inr (inner, place, h.1))
literal_faulty load line inner kind place (inl (inr (inr h))) = absurd (none_forbidden inner h.1)
literal_faulty load line inner kind place (inr h) = kind_faulty load line h.1 kind (inner, h.0, place, h.2) h.3

abbrev pub IsLineOutcome : ℕ → List ℕ → Result (Option Triple) NtKind → Type 0
IsLineOutcome load line (Ok said) = Says load line said
IsLineOutcome load line (Err kind) = IsFaulty load line kind

end_outcome : (load : ℕ) (line : List ℕ) (triple : Triple) (rest : List ℕ) → AfterDot load line triple rest → IsLineOutcome load line (end_at triple rest)
unfolding end_at
end_outcome load line triple rest h = by (ends_line rest) refl
  where
    by : (v : Bool) → ends_line rest ≡ v → IsLineOutcome load line (end_at triple rest)
    by true p = rw p (rest, h, p)
    by false p = rw p (rest, triple, h, p)

dot_outcome : (load : ℕ) (line : List ℕ) (triple : Triple) (rest : List ℕ) → BeforeDot load line triple rest → IsLineOutcome load line (dot_at triple rest)
unfolding dot_at
dot_outcome load line triple rest h = by (begins_with 46 rest) refl
  where
    by : (v : Bool) → begins_with 46 rest ≡ v → IsLineOutcome load line (dot_at triple rest)
    by true p =
        rw p (end_outcome load line triple (skip_blanks (drop 1 rest)) (drop 1 rest, subst (BeforeDot load line triple) (begins_is 46 rest p) h, skip_taken (drop 1 rest)))
    by false p = rw p (rest, triple, h, p)

object_faulty : (load : ℕ) (line : List ℕ) (subject predicate : Term) (rest : List ℕ) (kind : NtKind) → BeforeObject load line subject predicate rest → IsTermFault load places.Object rest kind → IsFaulty load line kind
object_faulty load line subject predicate rest kind h (inl (inl f)) = subst (IsFaulty load line) (sym f.0) (inl (rest, subject, predicate, h, f.1))
object_faulty load line subject predicate rest kind h (inl (inr (inl f))) =
    iri_faulty load line f.0 kind (inr (inr (inl (subject, predicate, subst (BeforeObject load line subject predicate) f.1 h)))) f.2
object_faulty load line subject predicate rest kind h (inl (inr (inr f))) =
    literal_faulty load line f.0 kind (subject, predicate, subst (BeforeObject load line subject predicate) f.2 h) f.3
object_faulty load line subject predicate rest kind h (inr f) = let long = f.1 in
    subst (IsFaulty load line) (sym f.0) (inr (inr (rest, long.1, record { subject = subject; predicate = predicate; object = long.0 }, h, long.2)))

object_outcome : (load : ℕ) (line : List ℕ) (subject predicate : Term) (rest : List ℕ) → all_scalars line ≡ true → BeforeObject load line subject predicate rest → IsLineOutcome load line (object_at load subject predicate rest)
unfolding object_at
object_outcome load line subject predicate rest are h = by (term_at load places.Object rest) (term_outcome load places.Object rest (ends_scalars line rest (before_object_ends load line subject predicate rest h) are))
  where
    by : (r : Result (Term × List ℕ) NtKind) → IsTermOutcome load places.Object rest r → IsLineOutcome load line (with_object subject predicate r)
    by (Ok found) takes =
        dot_outcome load line (record { subject = subject; predicate = predicate; object = found.0 }) (skip_blanks found.1) (rest, found.1, h, takes, skip_taken found.1)
    by (Err kind) fault = object_faulty load line subject predicate rest kind h fault

predicate_faulty : (load : ℕ) (line : List ℕ) (subject : Term) (rest : List ℕ) (kind : NtKind) → BeforePredicate load line subject rest → IsTermFault load places.Predicate rest kind → IsFaulty load line kind
predicate_faulty load line subject rest kind h (inl (inl f)) = subst (IsFaulty load line) (sym f.0) (rest, subject, h, f.1)
predicate_faulty load line subject rest kind h (inl (inr (inl f))) =
    iri_faulty load line f.0 kind (inr (inl (subject, subst (BeforePredicate load line subject) f.1 h))) f.2
predicate_faulty load line subject rest kind h (inl (inr (inr f))) = let wrong = f.1 in absurd cc
predicate_faulty load line subject rest kind h (inr f) = let long = f.1 in
    subst (IsFaulty load line) (sym f.0) (inr (inl (rest, long.1, subject, long.0, h, long.2)))

predicate_outcome : (load : ℕ) (line : List ℕ) (subject : Term) (rest : List ℕ) → all_scalars line ≡ true → BeforePredicate load line subject rest → IsLineOutcome load line (predicate_at load subject rest)
unfolding predicate_at
predicate_outcome load line subject rest are h = by (term_at load places.Predicate rest) (term_outcome load places.Predicate rest (ends_scalars line rest (before_predicate_ends load line subject rest h) are))
  where
    by : (r : Result (Term × List ℕ) NtKind) → IsTermOutcome load places.Predicate rest r → IsLineOutcome load line (with_predicate load subject r)
    by (Ok found) takes = object_outcome load line subject found.0 (skip_blanks found.1) are (rest, found.1, h, takes, skip_taken found.1)
    by (Err kind) fault = predicate_faulty load line subject rest kind h fault

subject_faulty : (load : ℕ) (line rest : List ℕ) (kind : NtKind) → ends_line rest ≡ false → BeforeSubject line rest → IsTermFault load places.Subject rest kind → IsFaulty load line kind
subject_faulty load line rest kind some h (inl (inl f)) = subst (IsFaulty load line) (sym f.0) (rest, h, some, f.1)
subject_faulty load line rest kind some h (inl (inr (inl f))) = iri_faulty load line f.0 kind (inl (subst (BeforeSubject line) f.1 h)) f.2
subject_faulty load line rest kind some h (inl (inr (inr f))) = let wrong = f.1 in absurd cc
subject_faulty load line rest kind some h (inr f) = let long = f.1 in subst (IsFaulty load line) (sym f.0) (inl (rest, long.1, long.0, h, long.2))

subject_outcome : (load : ℕ) (line rest : List ℕ) → all_scalars line ≡ true → BeforeSubject line rest → IsLineOutcome load line (subject_at load rest)
unfolding subject_at
subject_outcome load line rest are h = by (ends_line rest) refl
  where
    found_by : (r : Result (Term × List ℕ) NtKind) → ends_line rest ≡ false → IsTermOutcome load places.Subject rest r → IsLineOutcome load line (with_subject load r)
    found_by (Ok found) some takes = predicate_outcome load line found.0 (skip_blanks found.1) are (rest, found.1, h, takes, skip_taken found.1)
    found_by (Err kind) some fault = subject_faulty load line rest kind some h fault

    by : (v : Bool) → ends_line rest ≡ v → IsLineOutcome load line (subject_at load rest)
    by true p = rw p (rest, h, p)
    by false p = rw p (found_by (term_at load places.Subject rest) p (term_outcome load places.Subject rest (ends_scalars line rest (skips_ends line rest h) are)))

said_outcome : (load : ℕ) (line : List ℕ) → all_scalars line ≡ true → IsLineOutcome load line (said_by load line)
said_outcome load line are = subject_outcome load line (skip_blanks line) are (skip_taken line)

-- ---- lines as bytes

pub said_utf8 : (load : ℕ) (line : List ℕ) → is_utf8 line ≡ true → said_at load line ≡ said_by load (chars line)
unfolding said_at
said_utf8 load line p = rw p refl

pub said_not_utf8 : (load : ℕ) (line : List ℕ) → is_utf8 line ≡ false → said_at load line ≡ Err NotUtf8
unfolding said_at
said_not_utf8 load line p = rw p refl

line_scalars : (line : List ℕ) → is_utf8 line ≡ true → all_scalars (chars line) ≡ true
line_scalars line p = scalars-chars line (IsUtf8-from_is_utf8 line p)

pub good_read : (load : ℕ) (line : List ℕ) (said : Option Triple) → Good load line said → said_at load line ≡ Ok said
good_read load line said h = said_utf8 load line h.0 ∙ says_read load (chars line) said (line_scalars line h.0) h.1

-- what reading with one load says of a line, with any load
abbrev pub IsOutcome : ℕ → List ℕ → Result (Option Triple) NtKind → Type 0
IsOutcome load line (Ok said) = Good load line said
IsOutcome load line (Err kind) = Bad line kind

pub outcome : (load : ℕ) (line : List ℕ) → IsOutcome load line (said_at load line)
unfolding said_at
outcome load line = by (is_utf8 line) refl
  where
    of_text : (r : Result (Option Triple) NtKind) → is_utf8 line ≡ true → IsLineOutcome load (chars line) r → IsOutcome load line r
    of_text (Ok said) p h = (p, h)
    of_text (Err kind) p h = inr (p, (load, h))

    by : (v : Bool) → is_utf8 line ≡ v → IsOutcome load line (said_at load line)
    by true p = rw p (of_text (said_by load (chars line)) p (said_outcome load (chars line) (line_scalars line p)))
    by false p = rw p (inl (p, refl))

-- the line is bad, whatever the load's number
pub bad_read_some : (line : List ℕ) (kind : NtKind) → Bad line kind → (load : ℕ) × (said_at load line ≡ Err kind)
bad_read_some line kind (inl h) = (0, said_not_utf8 0 line h.0 ∙ ap Err (sym h.1))
bad_read_some line kind (inr h) = let faulty = h.1 in
    (faulty.0, said_utf8 faulty.0 line h.0 ∙ faulty_read faulty.0 (chars line) kind (line_scalars line h.0) faulty.1)
