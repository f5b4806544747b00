-- The grammar is unambiguous: it is LL(1), and a list of tokens derives in one way.
use Rattle.std.proofs.Common.{◌≡◌, ℕ, zero, suc, Some, Bool, true, false, not, ◌&&◌, ◌||◌, nat_eq, List, [], ◌∷◌, refl, ap, sym, subst, ◌∙◌, inl, inr, ◌⊎◌}
use base.Stored.{Coded-set}
use Rattle.std.proofs.Math.Path.{subst_refl}
use Rattle.std.specs.Coded.{coded_list}
use Rattle.pcj_grammar.specs.contracts.lexeme.Lexeme as lexeme_row
use Rattle.pcj_grammar.specs.contracts.terminal.Terminal as row
use Rattle.std.specs.List.{list_all, list_any, slice_get}
use Rattle.std.proofs.lemmas.Option.{same_Some}
use Rattle.std.proofs.lemmas.Bool.{both_ways, and_parts, and_from, or_left, or_right, not-true, eq-eqb}
use Rattle.pcj_grammar.specs.declared.lexeme.Lexeme.{Lexeme}
use Rattle.pcj_grammar.specs.declared.terminal.Terminal.{Terminal}
use Rattle.pcj_grammar.specs.declared.terminal.Terminal.TheVariants as t
use Rattle.pcj_grammar.specs.Grammar.{Name, Form, word, name, both, either, maybe, many, production, Derives, is, by, one_after, left, right, without, with_it, end, again}
use Rattle.pcj_grammar.specs.Grammar as g
use Rattle.pcj_grammar.proofs.Runs.{nullable, no_production_empty}

-- ---- kinds of tokens

abbrev number : Terminal → ℕ
number t.Prefix = 0
number t.Select = 1
number t.Distinct = 2
number t.Where = 3
number t.Group = 4
number t.By = 5
number t.As = 6
number t.Count = 7
number t.Sum = 8
number t.Min = 9
number t.Max = 10
number t.Filter = 11
number t.Union = 12
number t.A = 13
number t.Word = 14
number t.Var = 15
number t.Iri = 16
number t.Namespace = 17
number t.Name = 18
number t.Integer = 19
number t.Text = 20
number t.Tag = 21
number t.OpenBrace = 22
number t.CloseBrace = 23
number t.OpenParen = 24
number t.CloseParen = 25
number t.Dot = 26
number t.Semicolon = 27
number t.Comma = 28
number t.Equal = 29
number t.Unequal = 30
number t.Less = 31
number t.Greater = 32
number t.AtMost = 33
number t.AtLeast = 34
number t.And = 35
number t.Or = 36
number t.Not = 37
number t.Datatype = 38
number t.Star = 39
number t.Outside = 40

abbrev same : Terminal → Terminal → Bool
same k j = nat_eq (number k) (number j)

same_itself : (k : Terminal) → same k k ≡ true
same_itself k = eq-eqb (number k) (number k) refl

abbrev all_terminals : List Terminal
all_terminals = t.Prefix ∷ t.Select ∷ t.Distinct ∷ t.Where ∷ t.Group ∷ t.By ∷ t.As ∷ t.Count ∷ t.Sum ∷ t.Min ∷ t.Max ∷ t.Filter ∷ t.Union ∷ t.A ∷ t.Word ∷ t.Var ∷ t.Iri ∷ t.Namespace ∷ t.Name ∷ t.Integer ∷ t.Text ∷ t.Tag ∷ t.OpenBrace ∷ t.CloseBrace ∷ t.OpenParen ∷ t.CloseParen ∷ t.Dot ∷ t.Semicolon ∷ t.Comma ∷ t.Equal ∷ t.Unequal ∷ t.Less ∷ t.Greater ∷ t.AtMost ∷ t.AtLeast ∷ t.And ∷ t.Or ∷ t.Not ∷ t.Datatype ∷ t.Star ∷ t.Outside ∷ []

abbrev among : List Terminal → Terminal → Bool
among ks k = list_any (λ j. same j k) ks

-- what is so of all of them is so of each
in_all : (k : Terminal) → slice_get all_terminals (number k) ≡ Some k
in_all t.Prefix = refl
in_all t.Select = refl
in_all t.Distinct = refl
in_all t.Where = refl
in_all t.Group = refl
in_all t.By = refl
in_all t.As = refl
in_all t.Count = refl
in_all t.Sum = refl
in_all t.Min = refl
in_all t.Max = refl
in_all t.Filter = refl
in_all t.Union = refl
in_all t.A = refl
in_all t.Word = refl
in_all t.Var = refl
in_all t.Iri = refl
in_all t.Namespace = refl
in_all t.Name = refl
in_all t.Integer = refl
in_all t.Text = refl
in_all t.Tag = refl
in_all t.OpenBrace = refl
in_all t.CloseBrace = refl
in_all t.OpenParen = refl
in_all t.CloseParen = refl
in_all t.Dot = refl
in_all t.Semicolon = refl
in_all t.Comma = refl
in_all t.Equal = refl
in_all t.Unequal = refl
in_all t.Less = refl
in_all t.Greater = refl
in_all t.AtMost = refl
in_all t.AtLeast = refl
in_all t.And = refl
in_all t.Or = refl
in_all t.Not = refl
in_all t.Datatype = refl
in_all t.Star = refl
in_all t.Outside = refl

at_place : (p : Terminal → Bool) (ks : List Terminal) (i : ℕ) (k : Terminal) → list_all p ks ≡ true → slice_get ks i ≡ Some k → p k ≡ true
at_place p [] i k h e = absurd cc
at_place p (j ∷ ks) zero k h e = subst (λ (x : Terminal). p x ≡ true) (same_Some j k e) (and_parts (p j) (list_all p ks) h).0
at_place p (j ∷ ks) (suc i) k h e = at_place p ks i k (and_parts (p j) (list_all p ks) h).1 e

at_each : (p : Terminal → Bool) → list_all p all_terminals ≡ true → (k : Terminal) → p k ≡ true
at_each p h k = at_place p all_terminals (number k) k h (in_all k)

abbrev apart : (Terminal → Bool) → (Terminal → Bool) → Bool
apart p q = list_all (λ k. not (p k && q k)) all_terminals

abbrev within : (Terminal → Bool) → (Terminal → Bool) → Bool
within p q = list_all (λ k. not (p k) || q k) all_terminals

not_both : (p q : Terminal → Bool) → apart p q ≡ true → (k : Terminal) → p k ≡ true → q k ≡ true → ⊥
not_both p q h k a b = both_ways (p k && q k) (not-true (p k && q k) (at_each (λ j. not (p j && q j)) h k)) (and_from (p k) (q k) a b)

so_too : (p q : Terminal → Bool) → within p q ≡ true → (k : Terminal) → p k ≡ true → q k ≡ true
so_too p q h k a = by_cases (p k) (q k) a (at_each (λ j. not (p j) || q j) h k)
  where
    by_cases : (v w : Bool) → v ≡ true → not v || w ≡ true → w ≡ true
    by_cases true w e f = f
    by_cases false w e f = absurd cc

-- ---- first tokens

abbrev first_of : Name → List Terminal
first_of g.Query = t.Prefix ∷ t.Select ∷ []
first_of g.Item = t.Var ∷ t.OpenParen ∷ []
first_of g.Func = t.Count ∷ t.Sum ∷ t.Min ∷ t.Max ∷ []
first_of g.Group = t.OpenBrace ∷ []
first_of g.Other = t.Filter ∷ t.OpenBrace ∷ []
first_of g.Block = t.Var ∷ t.Iri ∷ t.Namespace ∷ t.Name ∷ t.Integer ∷ t.Text ∷ []
first_of g.Same = t.Var ∷ t.Iri ∷ t.Namespace ∷ t.Name ∷ t.Integer ∷ t.Text ∷ []
first_of g.Verb = t.Var ∷ t.Iri ∷ t.Namespace ∷ t.Name ∷ t.A ∷ []
first_of g.Objects = t.Var ∷ t.Iri ∷ t.Namespace ∷ t.Name ∷ t.Integer ∷ t.Text ∷ []
first_of g.Value = t.Var ∷ t.Iri ∷ t.Namespace ∷ t.Name ∷ t.Integer ∷ t.Text ∷ []
first_of g.IriName = t.Iri ∷ t.Namespace ∷ t.Name ∷ []
first_of g.Literal = t.Integer ∷ t.Text ∷ []
first_of g.Expr = t.Not ∷ t.OpenParen ∷ t.Var ∷ t.Iri ∷ t.Namespace ∷ t.Name ∷ t.Integer ∷ t.Text ∷ []
first_of g.All = t.Not ∷ t.OpenParen ∷ t.Var ∷ t.Iri ∷ t.Namespace ∷ t.Name ∷ t.Integer ∷ t.Text ∷ []
first_of g.One = t.Not ∷ t.OpenParen ∷ t.Var ∷ t.Iri ∷ t.Namespace ∷ t.Name ∷ t.Integer ∷ t.Text ∷ []
first_of g.Op = t.Equal ∷ t.Unequal ∷ t.Less ∷ t.Greater ∷ t.AtMost ∷ t.AtLeast ∷ []

abbrev first : Form → Terminal → Bool
first (word j) k = same j k
first (name n) k = among (first_of n) k
first (both f h) k = first f k || (nullable f && first h k)
first (either f h) k = first f k || first h k
first (maybe f) k = first f k
first (many f) k = first f k

first_known : (n : Name) → within (first (production n)) (among (first_of n)) ≡ true
first_known g.Query = refl
first_known g.Item = refl
first_known g.Func = refl
first_known g.Group = refl
first_known g.Other = refl
first_known g.Block = refl
first_known g.Same = refl
first_known g.Verb = refl
first_known g.Objects = refl
first_known g.Value = refl
first_known g.IriName = refl
first_known g.Literal = refl
first_known g.Expr = refl
first_known g.All = refl
first_known g.One = refl
first_known g.Op = refl

-- the tokens begin with one that a form may begin with
abbrev StartsWith : (Terminal → Bool) → List Lexeme → Type 0
StartsWith p [] = ⊥
StartsWith p (l ∷ x) = p l.terminal ≡ true

starts_more : (p q : Terminal → Bool) (x : List Lexeme) → ((k : Terminal) → p k ≡ true → q k ≡ true) → StartsWith p x → StartsWith q x
starts_more p q [] more h = h
starts_more p q (l ∷ x) more h = more l.terminal h

-- a derivation takes nothing, or a first token
abbrev Takes : Form → List Lexeme → List Lexeme → Type 0
Takes f x y = ((x ≡ y) × (nullable f ≡ true)) ⊎ StartsWith (first f) x

takes_both : (f h : Form) (x z y : List Lexeme) → Takes f x z → Takes h z y → Takes (both f h) x y
takes_both f h x z y (inr s) r = inr (starts_more (first f) (first (both f h)) x (λ k e. or_left (first f k) (nullable f && first h k) e) s)
takes_both f h x z y (inl d) (inl r) = inl (d.0 ∙ r.0, and_from (nullable f) (nullable h) d.1 r.1)
takes_both f h x z y (inl d) (inr s) =
    inr (subst (StartsWith (first (both f h))) (sym d.0) (starts_more (first h) (first (both f h)) z (λ k e. or_right (first f k) (nullable f && first h k) (and_from (nullable f) (first h k) d.1 e)) s))

takes_many : (f : Form) (x z y : List Lexeme) → Takes f x z → Takes (many f) z y → Takes (many f) x y
takes_many f x z y (inr s) r = inr s
takes_many f x z y (inl d) (inl r) = inl (d.0 ∙ r.0, refl)
takes_many f x z y (inl d) (inr s) = inr (subst (StartsWith (first f)) (sym d.0) s)

takes_name : (n : Name) (x y : List Lexeme) → Takes (production n) x y → Takes (name n) x y
takes_name n x y (inl d) = absurd (both_ways (nullable (production n)) (no_production_empty n) d.1)
takes_name n x y (inr s) = inr (starts_more (first (production n)) (first (name n)) x (λ k e. so_too (first (production n)) (among (first_of n)) (first_known n) k e) s)

takes_left : (f h : Form) (x y : List Lexeme) → Takes f x y → Takes (either f h) x y
takes_left f h x y (inl d) = inl (d.0, or_left (nullable f) (nullable h) d.1)
takes_left f h x y (inr s) = inr (starts_more (first f) (first (either f h)) x (λ k e. or_left (first f k) (first h k) e) s)

takes_right : (f h : Form) (x y : List Lexeme) → Takes h x y → Takes (either f h) x y
takes_right f h x y (inl d) = inl (d.0, or_right (nullable f) (nullable h) d.1)
takes_right f h x y (inr s) = inr (starts_more (first h) (first (either f h)) x (λ k e. or_right (first f k) (first h k) e) s)

takes_maybe : (f : Form) (x y : List Lexeme) → Takes f x y → Takes (maybe f) x y
takes_maybe f x y (inl d) = inl (d.0, refl)
takes_maybe f x y (inr s) = inr s

takes : (f : Form) (x y : List Lexeme) → Derives f x y → Takes f x y
takes f x y (is {k = k} {l = l} e) = inr (subst (λ (j : Terminal). same k j ≡ true) (sym e) (same_itself k))
takes f x y (by {n = n} d) = takes_name n x y (takes (production n) x y d)
takes f x y (one_after {f = a} {g = b} {y = z} d r) = takes_both a b x z y (takes a x z d) (takes b z y r)
takes f x y (left {f = a} {g = b} d) = takes_left a b x y (takes a x y d)
takes f x y (right {f = a} {g = b} d) = takes_right a b x y (takes b x y d)
takes f x y without = inl (refl, refl)
takes f x y (with_it {f = a} d) = takes_maybe a x y (takes a x y d)
takes f x y end = inl (refl, refl)
takes f x y (again {f = a} {y = z} d r) = takes_many a x z y (takes a x z d) (takes (many a) z y r)

starts : (f : Form) (x y : List Lexeme) → Derives f x y → nullable f ≡ false → StartsWith (first f) x
starts f x y d some = by_takes (takes f x y d)
  where
    by_takes : Takes f x y → StartsWith (first f) x
    by_takes (inl none) = absurd (both_ways (nullable f) some none.1)
    by_takes (inr s) = s

-- ---- what follows

pub record Next : Type 0 where
  pub ended : Bool
  pub tests : Terminal → Bool

abbrev Allows : Next → List Lexeme → Type 0
Allows f [] = f.ended ≡ true
Allows f (l ∷ x) = f.tests l.terminal ≡ true

abbrev follow : Name → Next
follow g.Query = record { ended = true; tests = among ([]) }
follow g.Item = record { ended = false; tests = among (t.Var ∷ t.OpenParen ∷ t.Where ∷ t.OpenBrace ∷ []) }
follow g.Func = record { ended = false; tests = among (t.OpenParen ∷ []) }
follow g.Group = record { ended = true; tests = among (t.Group ∷ t.Union ∷ t.Dot ∷ t.Var ∷ t.Iri ∷ t.Namespace ∷ t.Name ∷ t.Integer ∷ t.Text ∷ t.Filter ∷ t.OpenBrace ∷ t.CloseBrace ∷ []) }
follow g.Other = record { ended = false; tests = among (t.Dot ∷ t.Var ∷ t.Iri ∷ t.Namespace ∷ t.Name ∷ t.Integer ∷ t.Text ∷ t.Filter ∷ t.OpenBrace ∷ t.CloseBrace ∷ []) }
follow g.Block = record { ended = false; tests = among (t.Filter ∷ t.OpenBrace ∷ t.CloseBrace ∷ []) }
follow g.Same = record { ended = false; tests = among (t.Dot ∷ t.Filter ∷ t.OpenBrace ∷ t.CloseBrace ∷ []) }
follow g.Verb = record { ended = false; tests = among (t.Var ∷ t.Iri ∷ t.Namespace ∷ t.Name ∷ t.Integer ∷ t.Text ∷ []) }
follow g.Objects = record { ended = false; tests = among (t.Semicolon ∷ t.Dot ∷ t.Filter ∷ t.OpenBrace ∷ t.CloseBrace ∷ []) }
follow g.Value = record { ended = false; tests = among (t.Var ∷ t.Iri ∷ t.Namespace ∷ t.Name ∷ t.A ∷ t.Comma ∷ t.Semicolon ∷ t.Dot ∷ t.Filter ∷ t.OpenBrace ∷ t.CloseBrace ∷ t.Equal ∷ t.Unequal ∷ t.Less ∷ t.Greater ∷ t.AtMost ∷ t.AtLeast ∷ t.And ∷ t.Or ∷ t.CloseParen ∷ []) }
follow g.IriName = record { ended = false; tests = among (t.Var ∷ t.Iri ∷ t.Namespace ∷ t.Name ∷ t.Integer ∷ t.Text ∷ t.A ∷ t.Comma ∷ t.Semicolon ∷ t.Dot ∷ t.Filter ∷ t.OpenBrace ∷ t.CloseBrace ∷ t.Equal ∷ t.Unequal ∷ t.Less ∷ t.Greater ∷ t.AtMost ∷ t.AtLeast ∷ t.And ∷ t.Or ∷ t.CloseParen ∷ []) }
follow g.Literal = record { ended = false; tests = among (t.Var ∷ t.Iri ∷ t.Namespace ∷ t.Name ∷ t.A ∷ t.Comma ∷ t.Semicolon ∷ t.Dot ∷ t.Filter ∷ t.OpenBrace ∷ t.CloseBrace ∷ t.Equal ∷ t.Unequal ∷ t.Less ∷ t.Greater ∷ t.AtMost ∷ t.AtLeast ∷ t.And ∷ t.Or ∷ t.CloseParen ∷ []) }
follow g.Expr = record { ended = false; tests = among (t.CloseParen ∷ []) }
follow g.All = record { ended = false; tests = among (t.Or ∷ t.CloseParen ∷ []) }
follow g.One = record { ended = false; tests = among (t.And ∷ t.Or ∷ t.CloseParen ∷ []) }
follow g.Op = record { ended = false; tests = among (t.Var ∷ t.Iri ∷ t.Namespace ∷ t.Name ∷ t.Integer ∷ t.Text ∷ []) }

-- what may follow what stands before a form
abbrev before_form : Form → Next → Next
before_form h n = record { ended = nullable h && n.ended; tests = λ k. first h k || (nullable h && n.tests k) }

abbrev decides : Form → Next → Bool
decides (word k) n = true
decides (name p) n = within n.tests ((follow p).tests) && (not n.ended || (follow p).ended)
decides (both f h) n = decides f (before_form h n) && decides h n
decides (either f h) n = not (nullable f) && (not (nullable h) && (apart (first f) (first h) && (decides f n && decides h n)))
decides (maybe f) n = not (nullable f) && (apart (first f) n.tests && decides f n)
decides (many f) n = not (nullable f) && (apart (first f) n.tests && decides f (before_form (many f) n))

decided : (n : Name) → decides (production n) (follow n) ≡ true
decided g.Query = refl
decided g.Item = refl
decided g.Func = refl
decided g.Group = refl
decided g.Other = refl
decided g.Block = refl
decided g.Same = refl
decided g.Verb = refl
decided g.Objects = refl
decided g.Value = refl
decided g.IriName = refl
decided g.Literal = refl
decided g.Expr = refl
decided g.All = refl
decided g.One = refl
decided g.Op = refl

-- ---- one derivation

abbrev pub Ending : Form → List Lexeme → Type 0
Ending f x = (y : List Lexeme) × Derives f x y

allows_by : (h : Form) (n : Next) (z y : List Lexeme) → Takes h z y → Allows n y → Allows (before_form h n) z
allows_by h n [] y (inr s) a = absurd s
allows_by h n (l ∷ z) y (inr s) a = or_left (first h l.terminal) (nullable h && n.tests l.terminal) s
allows_by h n [] y (inl none) a = let here : Allows n [] = subst (Allows n) (sym none.0) a in and_from (nullable h) n.ended none.1 here
allows_by h n (l ∷ z) y (inl none) a =
    let here : Allows n (l ∷ z) = subst (Allows n) (sym none.0) a in
    or_right (first h l.terminal) (nullable h && n.tests l.terminal) (and_from (nullable h) (n.tests l.terminal) none.1 here)

allows_before : (h : Form) (n : Next) (z y : List Lexeme) → Derives h z y → Allows n y → Allows (before_form h n) z
allows_before h n z y r a = allows_by h n z y (takes h z y r) a

ends_too : (v w : Bool) → not v || w ≡ true → v ≡ true → w ≡ true
ends_too true w e f = e
ends_too false w e f = absurd cc

allows_name : (p : Name) (n : Next) (y : List Lexeme) → decides (name p) n ≡ true → Allows n y → Allows (follow p) y
allows_name p n [] ok a = let parts = and_parts (within n.tests (follow p).tests) (not n.ended || (follow p).ended) ok in ends_too n.ended (follow p).ended parts.1 a
allows_name p n (l ∷ y) ok a = let parts = and_parts (within n.tests (follow p).tests) (not n.ended || (follow p).ended) ok in so_too n.tests (follow p).tests parts.0 l.terminal a

starts_apart : (p q : Terminal → Bool) (x : List Lexeme) → apart p q ≡ true → StartsWith p x → StartsWith q x → ⊥
starts_apart p q [] h a b = a
starts_apart p q (l ∷ x) h a b = not_both p q h l.terminal a b

starts_allowed : (p : Terminal → Bool) (n : Next) (x : List Lexeme) → apart p n.tests ≡ true → StartsWith p x → Allows n x → ⊥
starts_allowed p n [] h a b = a
starts_allowed p n (l ∷ x) h a b = not_both p n.tests h l.terminal a b

terminal_set : IsSet Terminal
terminal_set = Coded-set row.the_row.coded

-- what a decided choice, an optional form and a repeated one say
pub record Choice (f h : Form) (n : Next) : Type 0 where
  pub some_left : nullable f ≡ false
  pub some_right : nullable h ≡ false
  pub choice : apart (first f) (first h) ≡ true
  pub in_left : decides f n ≡ true
  pub in_right : decides h n ≡ true

choice_of : (f h : Form) (n : Next) → decides (either f h) n ≡ true → Choice f h n
choice_of f h n ok =
    let one = and_parts (not (nullable f)) (not (nullable h) && (apart (first f) (first h) && (decides f n && decides h n))) ok in
    let two = and_parts (not (nullable h)) (apart (first f) (first h) && (decides f n && decides h n)) one.1 in
    let three = and_parts (apart (first f) (first h)) (decides f n && decides h n) two.1 in
    let four = and_parts (decides f n) (decides h n) three.1 in
    record { some_left = not-true (nullable f) one.0; some_right = not-true (nullable h) two.0; choice = three.0; in_left = four.0; in_right = four.1 }

pub record Whether (f : Form) (n inner : Next) : Type 0 where
  pub some : nullable f ≡ false
  pub choice : apart (first f) n.tests ≡ true
  pub within_it : decides f inner ≡ true

whether_of : (f : Form) (n inner : Next) → not (nullable f) && (apart (first f) n.tests && decides f inner) ≡ true → Whether f n inner
whether_of f n inner ok =
    let one = and_parts (not (nullable f)) (apart (first f) n.tests && decides f inner) ok in
    let two = and_parts (apart (first f) n.tests) (decides f inner) one.1 in
    record { some = not-true (nullable f) one.0; choice = two.0; within_it = two.1 }

-- Two derivations from one list are one, where what follows each may follow.
pub unique : (f : Form) (n : Next) → decides f n ≡ true → (x y : List Lexeme) (d : Derives f x y) → Allows n y → (w : List Lexeme) (e : Derives f x w) → Allows n w → ◌≡◌ {A = Ending f x} (y, d) (w, e)
unique f n ok x y (is {k = k} {l = l} p) a w (is q) b = ap (λ (r : l.terminal ≡ k). (y, is r)) (terminal_set l.terminal k p q)
unique f n ok x y (by {n = m} d) a w (by e) b =
    ap (λ (r : Ending (production m) x). (r.0, by r.1)) (unique (production m) (follow m) (decided m) x y d (allows_name m n y ok a) w e (allows_name m n w ok b))
unique f n ok x y (one_after {f = h} {g = k} {y = z} d r) a w (one_after {y = v} e s) b =
    let parts = and_parts (decides h (before_form k n)) (decides k n) ok in
    let front = unique h (before_form k n) parts.0 x z d (allows_before k n z y r a) v e (allows_before k n v w s b) in
    subst (λ (q : Ending h x). (u : List Lexeme) (t : Derives k q.0 u) → Allows n u → ◌≡◌ {A = Ending (both h k) x} (y, one_after d r) (u, one_after q.1 t)) front
    (λ u t c. ap (λ (q : Ending k z). (q.0, one_after d q.1)) (unique k n parts.1 z y r a u t c)) w s b
unique f n ok x y (left {f = h} {g = k} d) a w (left e) b = let c = choice_of h k n ok in ap (λ (r : Ending h x). (r.0, left r.1)) (unique h n c.in_left x y d a w e b)
unique f n ok x y (left {f = h} {g = k} d) a w (right e) b = let c = choice_of h k n ok in absurd (starts_apart (first h) (first k) x c.choice (starts h x y d c.some_left) (starts k x w e c.some_right))
unique f n ok x y (right {f = h} {g = k} d) a w (left e) b = let c = choice_of h k n ok in absurd (starts_apart (first h) (first k) x c.choice (starts h x w e c.some_left) (starts k x y d c.some_right))
unique f n ok x y (right {f = h} {g = k} d) a w (right e) b = let c = choice_of h k n ok in ap (λ (r : Ending k x). (r.0, right r.1)) (unique k n c.in_right x y d a w e b)
unique f n ok x y without a w without b = refl
unique f n ok x y (without {f = h}) a w (with_it e) b = let c = whether_of h n n ok in absurd (starts_allowed (first h) n x c.choice (starts h x w e c.some) a)
unique f n ok x y (with_it {f = h} d) a w without b = let c = whether_of h n n ok in absurd (starts_allowed (first h) n x c.choice (starts h x y d c.some) b)
unique f n ok x y (with_it {f = h} d) a w (with_it e) b = let c = whether_of h n n ok in ap (λ (r : Ending h x). (r.0, with_it r.1)) (unique h n c.within_it x y d a w e b)
unique f n ok x y end a w end b = refl
unique f n ok x y (end {f = h}) a w (again {y = v} e s) b = let c = whether_of h n (before_form (many h) n) ok in absurd (starts_allowed (first h) n x c.choice (starts h x v e c.some) a)
unique f n ok x y (again {f = h} {y = z} d r) a w end b = let c = whether_of h n (before_form (many h) n) ok in absurd (starts_allowed (first h) n x c.choice (starts h x z d c.some) b)
unique f n ok x y (again {f = h} {y = z} d r) a w (again {y = v} e s) b =
    let c = whether_of h n (before_form (many h) n) ok in
    let front = unique h (before_form (many h) n) c.within_it x z d (allows_before (many h) n z y r a) v e (allows_before (many h) n v w s b) in
    subst (λ (q : Ending h x). (u : List Lexeme) (t : Derives (many h) q.0 u) → Allows n u → ◌≡◌ {A = Ending (many h) x} (y, again d r) (u, again q.1 t)) front
    (λ u t c. ap (λ (q : Ending (many h) z). (q.0, again d q.1)) (unique (many h) n ok z y r a u t c)) w s b

-- ---- a query's tokens derive in one way

lexemes_set : IsSet (List Lexeme)
lexemes_set = Coded-set (coded_list lexeme_row.the_row.coded)

-- what two equal pairs say of their second parts
second_parts : {A : Type 0} (B : A → Type 0) (p q : (a : A) × B a) → p ≡ q → (e : p.0 ≡ q.0) × (subst B e p.1 ≡ q.1)
second_parts B p q eq = subst (λ r. (e : p.0 ≡ r.0) × (subst B e p.1 ≡ r.1)) eq (refl, subst_refl B p.1)

second_same : {A : Type 0} (B : A → Type 0) → IsSet A → (a : A) (b c : B a) → ◌≡◌ {A = (x : A) × B x} (a, b) (a, c) → b ≡ c
second_same B set a b c eq =
    let parts = second_parts B (a, b) (a, c) eq in
    sym (subst_refl B b) ∙ ap (λ (e : a ≡ a). subst B e b) (set a a refl parts.0) ∙ parts.1

pub one_derivation : (ls : List Lexeme) (d e : Derives (name g.Query) ls []) → d ≡ e
one_derivation ls d e = second_same (Derives (name g.Query) ls) lexemes_set [] d e (unique (name g.Query) (record { ended = true; tests = λ k. false }) refl ls [] d refl [] e refl)
