-- Terms and triples that are the same, and triples that stand once.
use Rattle.std.proofs.Common.{◌≡◌, Bool, true, false, not, cond, List, [], ◌∷◌, ◌++◌, refl, ap, sym, subst, ◌∙◌, append-nil}
use Rattle.std.specs.List.{filter, list_any}
use Rattle.std.specs.Prelude.{◌||◌}
use Rattle.std.proofs.lemmas.Bool.{and_parts, and_from}
use Rattle.std.proofs.lemmas.List.Elements.{filter-append}
use Rattle.std.proofs.lemmas.Bool.Decides.{Decides-eqb}
use Rattle.pcj_term.specs.declared.term.Term.{Term}
use Rattle.pcj_term.specs.declared.term.Term.TheVariants.{Iri, Blank, Literal}
use Rattle.pcj_term.specs.declared.triple.Triple.{Triple}
use Rattle.pcj_term.specs.declared.kind.Kind.{Kind}
use Rattle.pcj_term.specs.declared.kind.Kind.TheVariants.{Plain, Lang, Typed}
use Rattle.pcj_term.specs.Triple.{same_kind, same_term, same_triple, distinct}
use Rattle.pcj_term.proofs.ByteLemmas.{same_bytes_are, same_bytes_itself}

same_kind_true : (k l : Kind) → same_kind k l ≡ true → k ≡ l
same_kind_true Plain Plain h = refl
same_kind_true Plain (Lang b) h = cc
same_kind_true Plain (Typed b) h = cc
same_kind_true (Lang a) Plain h = cc
same_kind_true (Lang a) (Lang b) h = ap Lang (same_bytes_are a b h)
same_kind_true (Lang a) (Typed b) h = cc
same_kind_true (Typed a) Plain h = cc
same_kind_true (Typed a) (Lang b) h = cc
same_kind_true (Typed a) (Typed b) h = ap Typed (same_bytes_are a b h)

same_kind_refl : (k : Kind) → same_kind k k ≡ true
same_kind_refl Plain = refl
same_kind_refl (Lang a) = same_bytes_itself a
same_kind_refl (Typed a) = same_bytes_itself a

pub same_term_true : (s t : Term) → same_term s t ≡ true → s ≡ t
same_term_true (Iri a) (Iri b) h = ap Iri (same_bytes_are a b h)
same_term_true (Iri a) (Blank m b) h = cc
same_term_true (Iri a) (Literal b l) h = cc
same_term_true (Blank n a) (Iri b) h = cc
same_term_true (Blank n a) (Blank m b) h =
    let parts = and_parts _ _ h in
    let loads : n ≡ m = (Decides-eqb n m).0 parts.0 in
    let labels : a ≡ b = same_bytes_are a b parts.1 in
    cc
same_term_true (Blank n a) (Literal b l) h = cc
same_term_true (Literal a k) (Iri b) h = cc
same_term_true (Literal a k) (Blank m b) h = cc
same_term_true (Literal a k) (Literal b l) h =
    let parts = and_parts _ _ h in
    let texts : a ≡ b = same_bytes_are a b parts.0 in
    let kinds : k ≡ l = same_kind_true k l parts.1 in
    cc

pub same_term_refl : (t : Term) → same_term t t ≡ true
same_term_refl (Iri a) = same_bytes_itself a
same_term_refl (Blank n a) = and_from _ _ ((Decides-eqb n n).1 refl) (same_bytes_itself a)
same_term_refl (Literal a k) = and_from _ _ (same_bytes_itself a) (same_kind_refl k)

abbrev triple_of : Term → Term → Term → Triple
triple_of s p o = record { subject = s; predicate = p; object = o }

pub same_triple_true : (a b : Triple) → same_triple a b ≡ true → a ≡ b
same_triple_true a b h =
    let outer = and_parts _ _ h in
    let inner = and_parts _ _ outer.0 in
    ap (λ (s : Term). triple_of s a.predicate a.object) (same_term_true _ _ inner.0)
    ∙ ap (λ (p : Term). triple_of b.subject p a.object) (same_term_true _ _ inner.1)
    ∙ ap (λ (o : Term). triple_of b.subject b.predicate o) (same_term_true _ _ outer.1)

pub same_triple_refl : (a : Triple) → same_triple a a ≡ true
same_triple_refl a =
    and_from _ _ (and_from _ _ (same_term_refl a.subject) (same_term_refl a.predicate)) (same_term_refl a.object)

same_triple_flip : (a b : Triple) → same_triple a b ≡ false → same_triple b a ≡ false
same_triple_flip a b h = by (same_triple b a) refl
  where
    by : (v : Bool) → same_triple b a ≡ v → same_triple b a ≡ false
    by false e = e
    by true e = let same : b ≡ a = same_triple_true b a e in
        let itself : same_triple a b ≡ true = subst (λ (x : Triple). same_triple a x ≡ true) (sym same) (same_triple_refl a) in cc

-- taking another triple out keeps the answer to whether t is there
list_any-without : (x t : Triple) (ds : List Triple) → same_triple t x ≡ false → list_any (same_triple t) (filter (λ other. not (same_triple x other)) ds) ≡ list_any (same_triple t) ds
list_any-without x t [] h = refl
list_any-without x t (d ∷ ds) h = by (same_triple x d) refl (list_any-without x t ds h)
  where
    by : (v : Bool) → same_triple x d ≡ v → list_any (same_triple t) (filter (λ other. not (same_triple x other)) ds) ≡ list_any (same_triple t) ds →
        list_any (same_triple t) (filter (λ other. not (same_triple x other)) (d ∷ ds)) ≡ list_any (same_triple t) (d ∷ ds)
    by true e later =
        let apart : same_triple t d ≡ false = subst (λ (y : Triple). same_triple t y ≡ false) (same_triple_true x d e) h in
        rw (e, apart) later
    by false e later = rw e (ap (λ (v : Bool). same_triple t d || v) later)

abbrev without : Triple → List Triple → List Triple
without x ds = filter (λ other. not (same_triple x other)) ds

without-push : (x t : Triple) (ds : List Triple) → without x (ds ++ t ∷ []) ≡ without x ds ++ cond (same_triple x t) [] (t ∷ [])
without-push x t ds = filter-append (λ other. not (same_triple x other)) ds (t ∷ []) ∙ ap (λ end. without x ds ++ end) (by (same_triple x t))
  where
    by : (v : Bool) → cond (not v) (t ∷ []) [] ≡ cond v [] (t ∷ [])
    by true = refl
    by false = refl

pushed : (x t : Triple) (ds : List Triple) (v w : Bool) → same_triple t x ≡ v → list_any (same_triple t) ds ≡ w →
    x ∷ without x (cond (list_any (same_triple t) ds) ds (ds ++ t ∷ []))
    ≡ cond (list_any (same_triple t) (x ∷ without x ds)) (x ∷ without x ds) ((x ∷ without x ds) ++ t ∷ [])
pushed x t ds true true e f = rw (f, e) refl
pushed x t ds true false e f =
    let back : same_triple x t ≡ true = subst (λ (y : Triple). same_triple x y ≡ true) (sym (same_triple_true t x e)) (same_triple_refl x) in
    rw (f, e) (ap (λ rest. x ∷ rest) (without-push x t ds ∙ rw back (append-nil (without x ds))))
pushed x t ds false true e f = rw (f, e, list_any-without x t ds e, f) refl
pushed x t ds false false e f =
    let back : same_triple x t ≡ false = same_triple_flip t x e in
    rw (f, e, list_any-without x t ds e, f) (ap (λ rest. x ∷ rest) (without-push x t ds ∙ rw back refl))

-- a triple at the end adds itself where it isn't there yet
pub distinct-push : (ts : List Triple) (t : Triple) → distinct (ts ++ t ∷ []) ≡ cond (list_any (same_triple t) (distinct ts)) (distinct ts) (distinct ts ++ t ∷ [])
distinct-push [] t = refl
distinct-push (x ∷ xs) t =
    ap (λ (ds : List Triple). x ∷ without x ds) (distinct-push xs t)
    ∙ pushed x t (distinct xs) (same_triple t x) (list_any (same_triple t) (distinct xs)) refl refl
