-- The variables of a condition are those among its tokens.
use Rattle.std.proofs.Common.{◌≡◌, ℕ, ◌-◌, true, false, List, [], ◌∷◌, ◌++◌, length, take, filter, refl, ap, sym, subst, ◌∙◌, arith, append_assoc, append-nil}
use Rattle.std.proofs.Math.Seq.{take-append_seam}
use Rattle.std.proofs.lemmas.List.{length-append}
use Rattle.std.proofs.lemmas.List.Elements.{filter-append}
use Rattle.pcj_grammar.specs.declared.lexeme.Lexeme.{Lexeme}
use Rattle.pcj_grammar.specs.declared.terminal.Terminal.{Terminal}
use Rattle.pcj_grammar.specs.declared.terminal.Terminal.TheVariants as t
use Rattle.pcj_grammar.specs.Grammar.{Form, word, name, maybe, many, ◌▹◌, ◌or◌, Derives, is, by, one_after, left, right, without, with_it, end, again}
use Rattle.pcj_grammar.specs.Grammar as g
use Rattle.pcj_translate.specs.Testing.{ors_form, ands_form}
use Rattle.pcj_translate.specs.Uses.{value_uses, expr_uses, or_uses, all_uses, and_uses, one_uses}
use Rattle.pcj_groups.specs.Finding.{is_variable, is_use}

-- the tokens from the first list to the second have these variables
abbrev pub UsesIn : List Lexeme → List Lexeme → List Lexeme → Type 0
UsesIn x y uses = (ts : List Lexeme) × (x ≡ ts ++ y) × (filter is_use ts ≡ uses)

none_in : (x : List Lexeme) → UsesIn x x []
none_in x = ([], refl, refl)

joined_in : (x y z a b : List Lexeme) → UsesIn x y a → UsesIn y z b → UsesIn x z (a ++ b)
joined_in x y z a b first next =
    let (ts, whole, uses) = first in
    let (us, whole_next, uses_next) = next in
    (ts ++ us, whole ∙ ap (λ (v : List Lexeme). ts ++ v) whole_next ∙ sym (append_assoc ts us z), filter-append is_use ts us ∙ ap (λ (v : List Lexeme). v ++ filter is_use us) uses ∙ ap (λ (v : List Lexeme). a ++ v) uses_next)

other_token : (l : Lexeme) (x : List Lexeme) → is_use l ≡ false → UsesIn (l ∷ x) x []
other_token l x e = (l ∷ [], refl, rw e refl)

use_token : (l : Lexeme) (x : List Lexeme) → is_use l ≡ true → UsesIn (l ∷ x) x (l ∷ [])
use_token l x e = (l ∷ [], refl, rw e refl)

word_in : (k : Terminal) (x y : List Lexeme) → is_variable k ≡ false → Derives (word k) x y → UsesIn x y []
word_in k x y none (is {l = l} q) = other_token l y (ap is_variable q ∙ none)

iri_in : (x y : List Lexeme) → Derives (name g.IriName) x y → UsesIn x y []
iri_in x y (by (left d)) = word_in t.Iri x y refl d
iri_in x y (by (right (left d))) = word_in t.Namespace x y refl d
iri_in x y (by (right (right d))) = word_in t.Name x y refl d

literal_in : (x y : List Lexeme) → Derives (name g.Literal) x y → UsesIn x y []
literal_in x y (by (left d)) = word_in t.Integer x y refl d
literal_in x y (by (right (one_after {y = w} d without))) = word_in t.Text x y refl d
literal_in x y (by (right (one_after {y = w} d (with_it (left e))))) = joined_in x w y [] [] (word_in t.Text x w refl d) (word_in t.Tag w y refl e)
literal_in x y (by (right (one_after {y = w} d (with_it (right (one_after {y = v} e i)))))) = joined_in x w y [] [] (word_in t.Text x w refl d) (joined_in w v y [] [] (word_in t.Datatype w v refl e) (iri_in v y i))

value_in : (x y : List Lexeme) (d : Derives (name g.Value) x y) → UsesIn x y (value_uses d)
value_in x y (by (left (is {l = l} q))) = use_token l y (ap is_variable q)
value_in x y (by (right (left i))) = iri_in x y i
value_in x y (by (right (right l))) = literal_in x y l

op_in : (x y : List Lexeme) → Derives (name g.Op) x y → UsesIn x y []
op_in x y (by (left d)) = word_in t.Equal x y refl d
op_in x y (by (right (left d))) = word_in t.Unequal x y refl d
op_in x y (by (right (right (left d)))) = word_in t.Less x y refl d
op_in x y (by (right (right (right (left d))))) = word_in t.Greater x y refl d
op_in x y (by (right (right (right (right (left d)))))) = word_in t.AtMost x y refl d
op_in x y (by (right (right (right (right (right d)))))) = word_in t.AtLeast x y refl d

enclosed_in : (x u v y uses : List Lexeme) → Derives (word t.OpenParen) x u → UsesIn u v uses → Derives (word t.CloseParen) v y → UsesIn x y uses
enclosed_in x u v y uses p inner c =
    subst (λ (k : List Lexeme). UsesIn x y k) (append-nil uses) (joined_in x u y [] (uses ++ []) (word_in t.OpenParen x u refl p) (joined_in u v y uses [] inner (word_in t.CloseParen v y refl c)))

mutual
  expr_in : (x y : List Lexeme) (d : Derives (name g.Expr) x y) → UsesIn x y (expr_uses d)
  expr_in x y (by (one_after {y = w} a more)) = joined_in x w y (all_uses a) (or_uses more) (all_in x w a) (or_in w y more)

  or_in : (x y : List Lexeme) (d : Derives ors_form x y) → UsesIn x y (or_uses d)
  or_in x y end = none_in x
  or_in x y (again {y = w} (one_after {y = v} d a) more) = joined_in x w y (all_uses a) (or_uses more) (joined_in x v w [] (all_uses a) (word_in t.Or x v refl d) (all_in v w a)) (or_in w y more)

  all_in : (x y : List Lexeme) (d : Derives (name g.All) x y) → UsesIn x y (all_uses d)
  all_in x y (by (one_after {y = w} o more)) = joined_in x w y (one_uses o) (and_uses more) (one_in x w o) (and_in w y more)

  and_in : (x y : List Lexeme) (d : Derives ands_form x y) → UsesIn x y (and_uses d)
  and_in x y end = none_in x
  and_in x y (again {y = w} (one_after {y = v} d o) more) = joined_in x w y (one_uses o) (and_uses more) (joined_in x v w [] (one_uses o) (word_in t.And x v refl d) (one_in v w o)) (and_in w y more)

  one_in : (x y : List Lexeme) (d : Derives (name g.One) x y) → UsesIn x y (one_uses d)
  one_in x y (by (left (one_after {y = w} n (one_after {y = u} p (one_after {y = v} e c))))) = joined_in x w y [] (expr_uses e) (word_in t.Not x w refl n) (enclosed_in w u v y (expr_uses e) p (expr_in u v e) c)
  one_in x y (by (right (left (one_after {y = u} p (one_after {y = v} e c))))) = enclosed_in x u v y (expr_uses e) p (expr_in u v e) c
  one_in x y (by (right (right (one_after {y = u} a (one_after {y = v} o b))))) = joined_in x u y (value_uses a) (value_uses b) (value_in x u a) (joined_in u v y [] (value_uses b) (op_in u v o) (value_in v y b))

pub inner_in : {u v : List Lexeme} (x y : List Lexeme) → Derives (word t.OpenParen) x u → (e : Derives (name g.Expr) u v) → Derives (word t.CloseParen) v y → UsesIn x y (expr_uses e)
inner_in {u} {v} x y p e c = enclosed_in x u v y (expr_uses e) p (expr_in u v e) c

front_taken : (ts y : List Lexeme) → take (length (ts ++ y) - length y) (ts ++ y) ≡ ts
front_taken ts y =
    let whole = length-append ts y in
    let front : length (ts ++ y) - length y ≡ length ts = omega (arith, whole) in
    ap (λ (n : ℕ). take n (ts ++ y)) front ∙ take-append_seam ts y

pub taken_uses : (x y uses : List Lexeme) → UsesIn x y uses → filter is_use (take (length x - length y) x) ≡ uses
taken_uses x y uses (ts, whole, found) = ap (λ (v : List Lexeme). filter is_use (take (length v - length y) v)) whole ∙ ap (filter is_use) (front_taken ts y) ∙ found
