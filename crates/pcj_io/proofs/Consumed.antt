-- Bytes that are read one after another.
use Rattle.std.proofs.Common.{◌≡◌, ℕ, List, [], ◌++◌, Option, None, Some, IfSome, refl, sym, ap, ◌∙◌, append_assoc, append-nil}
use Rattle.pcj_io.specs.Source.{Consumes, IsAtEnd, Keeps}

-- nothing was read
pub Consumes-nil : (a : Option (List ℕ)) → Consumes a a []
Consumes-nil None = tt
Consumes-nil (Some x) = refl

-- first these bytes, and then those
pub Consumes-append : (a b c : Option (List ℕ)) (xs ys : List ℕ) → Consumes a b xs → Consumes b c ys → Consumes a c (xs ++ ys)
Consumes-append None b c xs ys p q = tt
Consumes-append (Some x) None c xs ys p q = absurd p
Consumes-append (Some x) (Some y) None xs ys p q = absurd q
Consumes-append (Some x) (Some y) (Some z) xs ys p q = p ∙ ap (λ l. xs ++ l) q ∙ sym (append_assoc xs ys z)

pub Consumes-kept : (a b c : Option (List ℕ)) (xs : List ℕ) → Consumes a b xs → Keeps b c → Consumes a c xs
Consumes-kept None b c xs p q = tt
Consumes-kept (Some x) None c xs p q = absurd p
Consumes-kept (Some x) (Some y) None xs p q = absurd q
Consumes-kept (Some x) (Some y) (Some z) xs p q = p ∙ ap (λ l. xs ++ l) (sym q)

-- a source that is at its end gave all that it had
pub Consumes-all : (a b : Option (List ℕ)) (xs : List ℕ) → Consumes a b xs → IsAtEnd b → IfSome a (λ all. all ≡ xs)
Consumes-all None b xs p q = tt
Consumes-all (Some x) None xs p q = absurd p
Consumes-all (Some x) (Some y) xs p q = p ∙ ap (λ l. xs ++ l) q ∙ append-nil xs
