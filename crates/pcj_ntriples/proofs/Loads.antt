-- The load's number makes no difference but in the blank nodes.
use Rattle.std.proofs.Common.{◌≡◌, ℕ, Bool, true, false, not, ◌&&◌, cond, nat_eq, nat_lt, length, drop, chars, List, [], ◌∷◌, map, Option, Result, Ok, Err, refl, ap, sym, ◌∙◌, option_map, filter}
use Rattle.std.specs.Str.{is_utf8}
use Rattle.std.proofs.lemmas.Bool.{eq-eqb}
use Rattle.std.proofs.lemmas.List.{length-map}
use Rattle.pcj_term.specs.declared.kind.Kind.{Kind}
use Rattle.pcj_ntriples.specs.declared.enclosure.Enclosure.TheVariants as enclosures
use Rattle.pcj_term.specs.declared.term.Term.{Term}
use Rattle.pcj_term.specs.declared.term.Term.TheVariants.{Iri, Blank, Literal}
use Rattle.pcj_term.specs.declared.triple.Triple.{Triple}
use Rattle.pcj_term.specs.Triple.{same_term, same_triple, distinct}
use Rattle.pcj_term.specs.Reading.{begins_with}
use Rattle.pcj_term.specs.Order.{same_bytes}
use Rattle.pcj_ntriples.specs.declared.kind.NtKind.{NtKind}
use Rattle.pcj_ntriples.specs.declared.kind.NtKind.TheVariants.{TermTooLong}
use Rattle.pcj_ntriples.specs.declared.place.Place.{Place}
use Rattle.pcj_ntriples.specs.declared.place.Place.TheVariants as places
use Rattle.pcj_ntriples.specs.Term.{takes_nodes, takes_literals, begins_node, term_limit}
use Rattle.pcj_ntriples.specs.Line.{ends_line}
use Rattle.pcj_ntriples.specs.LineReading.{◌>>=◌, skip_blanks, text_at, iri_at, kind_at, literal_at, any_term_at, bytes_between, term_at, end_at, dot_at, object_at, predicate_at, subject_at, said_at}

abbrev pub carried : ℕ → Term → Term
carried load (Iri iri) = Iri iri
carried load (Blank node label) = Blank load label
carried load (Literal text kind) = Literal text kind

abbrev pub carried_triple : ℕ → Triple → Triple
carried_triple load triple = record { subject = carried load triple.subject; predicate = carried load triple.predicate; object = carried load triple.object }

abbrev moved : ℕ → Result (Term × List ℕ) NtKind → Result (Term × List ℕ) NtKind
moved load (Ok found) = Ok (carried load found.0, found.1)
moved load (Err kind) = Err kind

abbrev pub moved_line : ℕ → Result (Option Triple) NtKind → Result (Option Triple) NtKind
moved_line load (Ok said) = Ok (option_map (carried_triple load) said)
moved_line load (Err kind) = Err kind

iri_moved : (load : ℕ) (r : Result (List ℕ × List ℕ) NtKind) → r >>= (λ found. Ok (Iri found.0, found.1)) ≡ moved load (r >>= (λ found. Ok (Iri found.0, found.1)))
iri_moved load (Ok found) = refl
iri_moved load (Err kind) = refl

literal_moved : (load : ℕ) (characters : List ℕ) → literal_at characters ≡ moved load (literal_at characters)
unfolding literal_at
literal_moved load characters = by (text_at enclosures.String characters)
  where
    with_kind : (text : List ℕ) (r : Result (Kind × List ℕ) NtKind) → r >>= (λ kind. Ok (Literal text kind.0, kind.1)) ≡ moved load (r >>= (λ kind. Ok (Literal text kind.0, kind.1)))
    with_kind text (Ok found) = refl
    with_kind text (Err kind) = refl

    by : (r : Result (List ℕ × List ℕ) NtKind) → r >>= (λ text. kind_at text.1 (skip_blanks text.1) >>= (λ kind. Ok (Literal text.0 kind.0, kind.1))) ≡ moved load (r >>= (λ text. kind_at text.1 (skip_blanks text.1) >>= (λ kind. Ok (Literal text.0 kind.0, kind.1))))
    by (Ok found) = with_kind found.0 (kind_at found.1 (skip_blanks found.1))
    by (Err kind) = refl

any_moved : (load other : ℕ) (place : Place) (characters : List ℕ) → any_term_at load place characters ≡ moved load (any_term_at other place characters)
unfolding any_term_at
any_moved load other place characters = by (begins_with 60 characters) (takes_nodes place && begins_node characters) (takes_literals place && begins_with 34 characters) refl refl refl
  where
    by : (iri node literal : Bool) → begins_with 60 characters ≡ iri → takes_nodes place && begins_node characters ≡ node → takes_literals place && begins_with 34 characters ≡ literal → any_term_at load place characters ≡ moved load (any_term_at other place characters)
    by true node literal p q r = rw p (iri_moved load (iri_at (drop 1 characters)))
    by false true literal p q r = rw (p, q) refl
    by false false true p q r = rw (p, q, r) (literal_moved load (drop 1 characters))
    by false false false p q r = rw (p, q, r) refl

abbrev measured : List ℕ → Result (Term × List ℕ) NtKind → Result (Term × List ℕ) NtKind
measured characters r = r >>= (λ found. cond (nat_lt term_limit (bytes_between characters found.1)) (Err TermTooLong) (Ok found))

term_moved : (load other : ℕ) (place : Place) (characters : List ℕ) → term_at load place characters ≡ moved load (term_at other place characters)
unfolding term_at
term_moved load other place characters = ap (measured characters) (any_moved load other place characters) ∙ by (any_term_at other place characters)
  where
    tested : (found : Term × List ℕ) (v : Bool) → cond v (Err TermTooLong) (Ok (carried load found.0, found.1)) ≡ moved load (cond v (Err TermTooLong) (Ok found))
    tested found true = refl
    tested found false = refl

    by : (r : Result (Term × List ℕ) NtKind) → measured characters (moved load r) ≡ moved load (measured characters r)
    by (Ok found) = tested found (nat_lt term_limit (bytes_between characters found.1))
    by (Err kind) = refl

dot_moved : (load : ℕ) (triple : Triple) (characters : List ℕ) → dot_at (carried_triple load triple) characters ≡ moved_line load (dot_at triple characters)
unfolding dot_at end_at
dot_moved load triple characters = by (begins_with 46 characters) (ends_line (skip_blanks (drop 1 characters))) refl refl
  where
    by : (dot ends : Bool) → begins_with 46 characters ≡ dot → ends_line (skip_blanks (drop 1 characters)) ≡ ends → dot_at (carried_triple load triple) characters ≡ moved_line load (dot_at triple characters)
    by true true p q = rw (p, q) refl
    by true false p q = rw (p, q) refl
    by false ends p q = rw p refl

object_moved : (load other : ℕ) (subject predicate : Term) (characters : List ℕ) → object_at load (carried load subject) (carried load predicate) characters ≡ moved_line load (object_at other subject predicate characters)
unfolding object_at
object_moved load other subject predicate characters =
    ap (λ (r : Result (Term × List ℕ) NtKind). r >>= (λ found. dot_at (record { subject = carried load subject; predicate = carried load predicate; object = found.0 }) (skip_blanks found.1))) (term_moved load other places.Object characters)
    ∙ by (term_at other places.Object characters)
  where
    by : (r : Result (Term × List ℕ) NtKind) → moved load r >>= (λ found. dot_at (record { subject = carried load subject; predicate = carried load predicate; object = found.0 }) (skip_blanks found.1)) ≡ moved_line load (r >>= (λ found. dot_at (record { subject = subject; predicate = predicate; object = found.0 }) (skip_blanks found.1)))
    by (Ok found) = dot_moved load (record { subject = subject; predicate = predicate; object = found.0 }) (skip_blanks found.1)
    by (Err kind) = refl

predicate_moved : (load other : ℕ) (subject : Term) (characters : List ℕ) → predicate_at load (carried load subject) characters ≡ moved_line load (predicate_at other subject characters)
unfolding predicate_at
predicate_moved load other subject characters =
    ap (λ (r : Result (Term × List ℕ) NtKind). r >>= (λ found. object_at load (carried load subject) found.0 (skip_blanks found.1))) (term_moved load other places.Predicate characters)
    ∙ by (term_at other places.Predicate characters)
  where
    by : (r : Result (Term × List ℕ) NtKind) → moved load r >>= (λ found. object_at load (carried load subject) found.0 (skip_blanks found.1)) ≡ moved_line load (r >>= (λ found. object_at other subject found.0 (skip_blanks found.1)))
    by (Ok found) = object_moved load other subject found.0 (skip_blanks found.1)
    by (Err kind) = refl

subject_moved : (load other : ℕ) (characters : List ℕ) → subject_at load characters ≡ moved_line load (subject_at other characters)
unfolding subject_at
subject_moved load other characters = by (ends_line characters) refl
  where
    found_by : (r : Result (Term × List ℕ) NtKind) → moved load r >>= (λ found. predicate_at load found.0 (skip_blanks found.1)) ≡ moved_line load (r >>= (λ found. predicate_at other found.0 (skip_blanks found.1)))
    found_by (Ok found) = predicate_moved load other found.0 (skip_blanks found.1)
    found_by (Err kind) = refl

    by : (v : Bool) → ends_line characters ≡ v → subject_at load characters ≡ moved_line load (subject_at other characters)
    by true p = rw p refl
    by false p =
        rw p (ap (λ (r : Result (Term × List ℕ) NtKind). r >>= (λ found. predicate_at load found.0 (skip_blanks found.1))) (term_moved load other places.Subject characters) ∙ found_by (term_at other places.Subject characters))

pub said_moved : (load other : ℕ) (line : List ℕ) → said_at load line ≡ moved_line load (said_at other line)
unfolding said_at
said_moved load other line = by (is_utf8 line) refl
  where
    by : (v : Bool) → is_utf8 line ≡ v → said_at load line ≡ moved_line load (said_at other line)
    by true p = rw p (subject_moved load other (skip_blanks (chars line)))
    by false p = rw p refl

-- ---- how many triples are distinct

abbrev distinct_by : (Triple → Triple → Bool) → List Triple → List Triple
distinct_by same [] = []
distinct_by same (triple ∷ triples) = triple ∷ filter (λ other. not (same triple other)) (distinct_by same triples)

filter_map_test : (f : Triple → Triple) (test : Triple → Bool) (triples : List Triple) → filter test (map f triples) ≡ map f (filter (λ t. test (f t)) triples)
filter_map_test f test [] = refl
filter_map_test f test (triple ∷ triples) = by (test (f triple)) refl (filter_map_test f test triples)
  where
    by : (v : Bool) → test (f triple) ≡ v → filter test (map f triples) ≡ map f (filter (λ t. test (f t)) triples) → filter test (map f (triple ∷ triples)) ≡ map f (filter (λ t. test (f t)) (triple ∷ triples))
    by true p later = rw p (ap (λ (ts : List Triple). f triple ∷ ts) later)
    by false p later = rw p later

distinct_mapped : (f : Triple → Triple) (triples : List Triple) → distinct (map f triples) ≡ map f (distinct_by (λ t u. same_triple (f t) (f u)) triples)
distinct_mapped f [] = refl
distinct_mapped f (triple ∷ triples) =
    ap (λ (ts : List Triple). f triple ∷ filter (λ other. not (same_triple (f triple) other)) ts) (distinct_mapped f triples)
    ∙ ap (λ (ts : List Triple). f triple ∷ ts) (filter_map_test f (λ other. not (same_triple (f triple) other)) (distinct_by (λ t u. same_triple (f t) (f u)) triples))

same_number : (m n : ℕ) → nat_eq m m ≡ nat_eq n n
same_number m n = eq-eqb m m refl ∙ sym (eq-eqb n n refl)

carried_same : (m n : ℕ) (s t : Term) → same_term (carried m s) (carried m t) ≡ same_term (carried n s) (carried n t)
carried_same m n (Iri a) (Iri b) = refl
carried_same m n (Iri a) (Blank k b) = refl
carried_same m n (Iri a) (Literal b l) = refl
carried_same m n (Blank j a) (Iri b) = refl
carried_same m n (Blank j a) (Blank k b) = ap (λ (v : Bool). v && same_bytes a b) (same_number m n)
carried_same m n (Blank j a) (Literal b l) = refl
carried_same m n (Literal a k) (Iri b) = refl
carried_same m n (Literal a k) (Blank j b) = refl
carried_same m n (Literal a k) (Literal b l) = refl

triples_same : (m n : ℕ) (t u : Triple) → same_triple (carried_triple m t) (carried_triple m u) ≡ same_triple (carried_triple n t) (carried_triple n u)
triples_same m n t u =
    ap (λ (v : Bool). v && same_term (carried m t.predicate) (carried m u.predicate) && same_term (carried m t.object) (carried m u.object)) (carried_same m n t.subject u.subject)
    ∙ ap (λ (v : Bool). same_term (carried n t.subject) (carried n u.subject) && v && same_term (carried m t.object) (carried m u.object)) (carried_same m n t.predicate u.predicate)
    ∙ ap (λ (v : Bool). same_term (carried n t.subject) (carried n u.subject) && same_term (carried n t.predicate) (carried n u.predicate) && v) (carried_same m n t.object u.object)

pub distinct_count : (m n : ℕ) (triples : List Triple) → length (distinct (map (carried_triple m) triples)) ≡ length (distinct (map (carried_triple n) triples))
distinct_count m n triples =
    ap length (distinct_mapped (carried_triple m) triples) ∙ length-map (distinct_by (λ t u. same_triple (carried_triple m t) (carried_triple m u)) triples) (carried_triple m)
    ∙ ap (λ (same : Triple → Triple → Bool). length (distinct_by same triples)) (λ i t u. triples_same m n t u i)
    ∙ sym (length-map (distinct_by (λ t u. same_triple (carried_triple n t) (carried_triple n u)) triples) (carried_triple n)) ∙ sym (ap length (distinct_mapped (carried_triple n) triples))
