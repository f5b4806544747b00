-- Bytes that a sink takes one after another, and a front of those that it is given.
use Rattle.std.proofs.Common.{ℕ, ◌+◌, List, [], ◌++◌, take, drop, Option, None, Some, refl, sym, ap, ◌∙◌, subst, append_assoc, append-nil, take-append-drop}
use Rattle.std.proofs.Math.Seq.{take-add}
use Rattle.pcj_io.specs.Sink.{Appends, AppendsPrefix, Keeps}

-- nothing was taken
pub Appends-nil : (a : Option (List ℕ)) → Appends a a []
Appends-nil None = tt
Appends-nil (Some x) = sym (append-nil x)

-- first these bytes, and then those
pub Appends-append : (a b c : Option (List ℕ)) (xs ys : List ℕ) → Appends a b xs → Appends b c ys → Appends a c (xs ++ ys)
Appends-append None b c xs ys p q = tt
Appends-append (Some x) None c xs ys p q = absurd p
Appends-append (Some x) (Some y) None xs ys p q = absurd q
Appends-append (Some x) (Some y) (Some z) xs ys p q = q ∙ ap (λ l. l ++ ys) p ∙ append_assoc x xs ys

pub Appends-kept : (a b c : Option (List ℕ)) (xs : List ℕ) → Appends a b xs → Keeps b c → Appends a c xs
Appends-kept None b c xs p q = tt
Appends-kept (Some x) None c xs p q = absurd p
Appends-kept (Some x) (Some y) None xs p q = absurd q
Appends-kept (Some x) (Some y) (Some z) xs p q = q ∙ p

pub Keeps-refl : (a : Option (List ℕ)) → Keeps a a
Keeps-refl None = tt
Keeps-refl (Some x) = refl

pub Keeps-trans : (a b c : Option (List ℕ)) → Keeps a b → Keeps b c → Keeps a c
Keeps-trans None b c p q = tt
Keeps-trans (Some x) None c p q = absurd p
Keeps-trans (Some x) (Some y) None p q = absurd q
Keeps-trans (Some x) (Some y) (Some z) p q = q ∙ p

-- to take nothing is to stay
pub Keeps-of_nil : (a b : Option (List ℕ)) → Appends a b [] → Keeps a b
Keeps-of_nil None b p = tt
Keeps-of_nil (Some x) None p = absurd p
Keeps-of_nil (Some x) (Some y) p = p ∙ append-nil x

-- the sink took the next n bytes
pub Appends-next : (a b c : Option (List ℕ)) (xs : List ℕ) (at n : ℕ) → Appends a b (take at xs) → Appends b c (take n (drop at xs)) → Appends a c (take (at + n) xs)
Appends-next a b c xs at n p q = subst (Appends a c) (sym (take-add at n xs)) (Appends-append a b c _ _ p q)

-- all of the bytes are a front of them
pub AppendsPrefix-all : (a b : Option (List ℕ)) (xs : List ℕ) → Appends a b xs → AppendsPrefix a b xs
AppendsPrefix-all a b xs p = (xs, [], sym (append-nil xs), p)

-- so is none
pub AppendsPrefix-none : (a b : Option (List ℕ)) (xs : List ℕ) → Keeps a b → AppendsPrefix a b xs
AppendsPrefix-none a b xs p = ([], xs, refl, Appends-kept a a b [] (Appends-nil a) p)

-- a front is one of more bytes too
pub AppendsPrefix-more : (a b : Option (List ℕ)) (xs ys : List ℕ) → AppendsPrefix a b xs → AppendsPrefix a b (xs ++ ys)
AppendsPrefix-more a b xs ys p = (p.0, p.1 ++ ys, ap (λ l. l ++ ys) p.2 ∙ append_assoc p.0 p.1 ys, p.3)

-- first all of these bytes, and then a front of those
pub AppendsPrefix-after : (a b c : Option (List ℕ)) (xs ys : List ℕ) → Appends a b xs → AppendsPrefix b c ys → AppendsPrefix a c (xs ++ ys)
AppendsPrefix-after a b c xs ys p q =
    (xs ++ q.0, q.1, ap (λ l. xs ++ l) q.2 ∙ sym (append_assoc xs q.0 q.1), Appends-append a b c xs q.0 p q.3)

pub AppendsPrefix-kept : (a b c : Option (List ℕ)) (xs : List ℕ) → AppendsPrefix a b xs → Keeps b c → AppendsPrefix a c xs
AppendsPrefix-kept a b c xs p q = (p.0, p.1, p.2, Appends-kept a b c p.0 p.3 q)

-- the sink took the first `at` bytes, and then none
pub AppendsPrefix-cut : (a b c : Option (List ℕ)) (xs : List ℕ) (at : ℕ) → Appends a b (take at xs) → Keeps b c → AppendsPrefix a c xs
AppendsPrefix-cut a b c xs at p q = (take at xs, drop at xs, sym (take-append-drop at xs), Appends-kept a b c (take at xs) p q)
