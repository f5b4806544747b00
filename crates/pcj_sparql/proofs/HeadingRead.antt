-- What reading the head of a query gives is what its derivation says.
use Rattle.std.proofs.Common.{true, ◌≡◌, ◌≤◌, ◌<◌, false, Bool, List, [], ◌∷◌, ◌++◌, length, refl, ap, sym, subst, ◌∙◌, append_assoc, append-nil, arith}
use Rattle.pcj_grammar.specs.declared.lexeme.Lexeme.{Lexeme}
use Rattle.pcj_grammar.specs.declared.terminal.Terminal.{Terminal}
use Rattle.pcj_grammar.specs.declared.terminal.Terminal.TheVariants as t
use Rattle.pcj_grammar.specs.Grammar.{name, many, Derives, is, by, one_after, left, right, without, with_it, end, again}
use Rattle.pcj_grammar.specs.Grammar as g
use Rattle.pcj_translate.specs.Adding.{behind_one}
use Rattle.pcj_translate.specs.Triples.{token_of}
use Rattle.pcj_sparql.specs.declared.declared.Declared.{Declared}
use Rattle.pcj_sparql.specs.declared.said.Said.{Said}
use Rattle.pcj_sparql.specs.declared.said.Said.TheVariants.{Aggregate}
use Rattle.pcj_sparql.specs.Query.{is_var_token, keys_by, is_with, declarations_form, declared_by, item_by, items_by, function_by, argument_by}
use Rattle.pcj_sparql.specs.Heading.{front, is_distinct, begins_distinct, behind_distinct, behind_by, distinct_form, is_prefix, begins_prefix, declared_at, behind_declared, AddsDeclared, argument_form, aggregate_form, aggregate_by, argument_on, aggregate_at, behind_aggregate, is_item, begins_item, item_at, item_by_kind, behind_item, behind_item_by, AddsItems, begins_var, keys_form, AddsKeys, ReadsKeys}

-- ---- keys

abbrev pub KeysLeft : List Lexeme → List Lexeme → List Lexeme → List Lexeme → Type 0
KeysLeft x r old now = (y : List Lexeme) (d : Derives keys_form x y) → begins_var y ≡ false → (e : Derives keys_form r y) × (now ++ keys_by e ≡ old ++ keys_by d)

pub first_key : (x : List Lexeme) (old : List Lexeme) → KeysLeft x x old old
first_key x old y d past = (d, refl)

key_by : (c : Lexeme) (r y mid new all : List Lexeme) (e : Derives keys_form (c ∷ r) y) → c.terminal ≡ t.Var → begins_var y ≡ false → new ≡ mid ++ c ∷ [] → mid ++ keys_by e ≡ all → (f : Derives keys_form r y) × (new ++ keys_by f ≡ all)
key_by c r y mid new all end at past grown whole = let odd = ap is_var_token at in absurd cc
key_by c r y mid new all (again (is q) more) at past grown whole =
    (more, ap (λ (l : List Lexeme). l ++ keys_by more) grown ∙ append_assoc mid (c ∷ []) (keys_by more) ∙ whole)

pub next_key : (x r : List Lexeme) (c : Lexeme) (old mid new : List Lexeme) → c.terminal ≡ t.Var → KeysLeft x (c ∷ r) old mid → new ≡ mid ++ c ∷ [] → KeysLeft x r old new
next_key x r c old mid new at stands grown y d past =
    let so_far = stands y d past in
    key_by c r y mid new (old ++ keys_by d) so_far.0 at past grown so_far.1

last_by : (r y now all : List Lexeme) (e : Derives keys_form r y) → begins_var r ≡ false → now ++ keys_by e ≡ all → (r ≡ y) × (now ≡ all)
last_by r y now all end none whole = (refl, sym (append-nil now) ∙ whole)
last_by r y now all (again (is q) more) none whole = let odd = ap is_var_token q in absurd cc

pub last_key : (x r old now : List Lexeme) → KeysLeft x r old now → begins_var r ≡ false → AddsKeys x r old now
last_key x r old now stands none y d past =
    let so_far = stands y d past in
    last_by r y now (old ++ keys_by d) so_far.0 none so_far.1

pub keys_read : (x z keys : List Lexeme) → AddsKeys (behind_one (behind_one x)) z [] keys → ReadsKeys x keys
keys_read x z keys adds without = (adds [] end refl).1
keys_read x z keys adds (with_it (one_after (is p) (one_after (is q) (one_after v vs)))) = (adds [] (again v vs) refl).1

-- ---- sizes

pub one_fewer : (x : List Lexeme) → length (behind_one x) ≤ length x
one_fewer [] = omega arith
one_fewer (l ∷ x) = omega arith

by_fewer : (v : Bool) (l : Lexeme) (x : List Lexeme) → length (behind_by v l x) ≤ length (l ∷ x)
by_fewer true l x = omega arith
by_fewer false l x = omega arith

pub distinct_fewer : (x : List Lexeme) → length (behind_distinct x) ≤ length x
distinct_fewer [] = omega arith
distinct_fewer (l ∷ x) = by_fewer (is_distinct l.terminal) l x

five_fewer : (x : List Lexeme) → length (behind_one (behind_one (behind_one (behind_one (behind_one x))))) ≤ length x
five_fewer x =
    let a = one_fewer x in
    let b = one_fewer (behind_one x) in
    let c = one_fewer (behind_one (behind_one x)) in
    let d = one_fewer (behind_one (behind_one (behind_one x))) in
    let e = one_fewer (behind_one (behind_one (behind_one (behind_one x)))) in
    omega (arith, a, b, c, d, e)

aggregate_fewer : (x : List Lexeme) → length (behind_aggregate x) ≤ length x
aggregate_fewer x =
    let a = one_fewer x in
    let b = one_fewer (behind_one x) in
    let c = distinct_fewer (behind_one (behind_one x)) in
    let d = five_fewer (argument_on x) in
    omega (arith, a, b, c, d)

kind_fewer : (k : Terminal) (x : List Lexeme) → length (behind_item_by x k) ≤ length x
kind_fewer t.OpenParen x = aggregate_fewer x
kind_fewer _ x = omega arith

pub item_fewer : (x : List Lexeme) → begins_item x ≡ true → length (behind_item x) < length x
item_fewer [] e = absurd cc
item_fewer (l ∷ x) e = let fewer = kind_fewer l.terminal x in omega (arith, fewer)

pub declared_fewer : (x : List Lexeme) → begins_prefix x ≡ true → length (behind_declared x) < length x
declared_fewer [] e = absurd cc
declared_fewer (l ∷ x) e =
    let a = one_fewer x in
    let b = one_fewer (behind_one x) in
    omega (arith, a, b)

-- ---- declarations

declared_read : {x y z w : List Lexeme} {k m n : Terminal} → (p : Derives (g.word k) x y) (q : Derives (g.word m) y z) (r : Derives (g.word n) z w) → (behind_declared x ≡ w) × (declared_at x ≡ record { namespace = token_of q; iri = token_of r })
declared_read (is p) (is q) (is r) = (refl, refl)

abbrev pub DeclaredLeft : List Lexeme → List Lexeme → List Declared → List Declared → Type 0
DeclaredLeft x r old now = (y : List Lexeme) (d : Derives declarations_form x y) → begins_prefix y ≡ false → (e : Derives declarations_form r y) × (now ++ declared_by e ≡ old ++ declared_by d)

pub first_declared : (x : List Lexeme) (old : List Declared) → DeclaredLeft x x old old
first_declared x old y d past = (d, refl)

declared_step : (r s y : List Lexeme) (c : Declared) (mid new all : List Declared) (e : Derives declarations_form r y) → begins_prefix r ≡ true → begins_prefix y ≡ false → c ≡ declared_at r → s ≡ behind_declared r → new ≡ mid ++ c ∷ [] → mid ++ declared_by e ≡ all → (f : Derives declarations_form s y) × (new ++ declared_by f ≡ all)
declared_step r s y c mid new all end here past is_it is_rest grown whole = absurd cc
declared_step r s y c mid new all (again (one_after p (one_after n i)) more) here past is_it is_rest grown whole =
    let read = declared_read p n i in
    subst (λ (k : List Lexeme). (f : Derives declarations_form k y) × (new ++ declared_by f ≡ all)) (sym (is_rest ∙ read.0)) (
      more,
      ap (λ (l : List Declared). l ++ declared_by more) (grown ∙ ap (λ (q : Declared). mid ++ q ∷ []) (is_it ∙ read.1)) ∙ append_assoc mid (record { namespace = token_of n; iri = token_of i } ∷ []) (declared_by more) ∙ whole,
    )

pub next_declared : (x r s : List Lexeme) (c : Declared) (old mid new : List Declared) → begins_prefix r ≡ true → c ≡ declared_at r → s ≡ behind_declared r → DeclaredLeft x r old mid → new ≡ mid ++ c ∷ [] → DeclaredLeft x s old new
next_declared x r s c old mid new here is_it is_rest stands grown y d past =
    let so_far = stands y d past in
    declared_step r s y c mid new (old ++ declared_by d) so_far.0 here past is_it is_rest grown so_far.1

declared_end : (r y : List Lexeme) (now all : List Declared) (e : Derives declarations_form r y) → begins_prefix r ≡ false → now ++ declared_by e ≡ all → (r ≡ y) × (now ≡ all)
declared_end r y now all end none whole = (refl, sym (append-nil now) ∙ whole)
declared_end r y now all (again (one_after (is q) rest) more) none whole = let odd = ap is_prefix q in absurd cc

pub last_declared : (x r : List Lexeme) (old now : List Declared) → DeclaredLeft x r old now → begins_prefix r ≡ false → AddsDeclared x r old now
last_declared x r old now stands none y d past =
    let so_far = stands y d past in
    declared_end r y now (old ++ declared_by d) so_far.0 none so_far.1

-- ---- items

not_distinct : (x : List Lexeme) → begins_distinct x ≡ false → behind_distinct x ≡ x
not_distinct [] none = refl
not_distinct (l ∷ x) none = ap (λ (v : Bool). behind_by v l x) none

pub distinct_read : {x y : List Lexeme} → (d : Derives distinct_form x y) → begins_distinct y ≡ false → (behind_distinct x ≡ y) × (begins_distinct x ≡ is_with d)
distinct_read {x = x} without none = (not_distinct x none, none)
distinct_read (with_it (is {l = l} {x = x} q)) none =
    let here = ap is_distinct q in
    (ap (λ (v : Bool). behind_by v l x) here, here)

argument_apart : {x y : List Lexeme} → Derives argument_form x y → begins_distinct x ≡ false
argument_apart (left (is q)) = ap is_distinct q
argument_apart (right (is q)) = ap is_distinct q

function_read : {x y : List Lexeme} → (f : Derives (name g.Func) x y) → (behind_one x ≡ y) × ((front x).terminal ≡ function_by f)
function_read (by (left (is q))) = (refl, q)
function_read (by (right (left (is q)))) = (refl, q)
function_read (by (right (right (left (is q))))) = (refl, q)
function_read (by (right (right (right (is q))))) = (refl, q)

argument_read : {x y : List Lexeme} → (a : Derives argument_form x y) → (behind_one x ≡ y) × (front x ≡ argument_by a)
argument_read (left (is q)) = (refl, refl)
argument_read (right (is q)) = (refl, refl)

same_aggregate : (f k : Terminal) (d e : Bool) (a b n m : Lexeme) → f ≡ k → d ≡ e → a ≡ b → n ≡ m → Aggregate f d a n ≡ Aggregate k e b m
same_aggregate f k d e a b n m p q r s = λ i. Aggregate (p i) (q i) (r i) (s i)

aggregate_read : {x y : List Lexeme} → (d : Derives aggregate_form x y) → (behind_aggregate x ≡ y) × (aggregate_at x ≡ aggregate_by d)
aggregate_read {x = x} (one_after f (one_after (is p) (one_after d (one_after a (one_after (is c) (one_after (is s) (one_after (is v) (is e)))))))) =
    let function = function_read f in
    let distinct = distinct_read d (argument_apart a) in
    let argument = argument_read a in
    let inside = ap behind_one function.0 in
    let on = ap behind_distinct inside ∙ distinct.0 in (
      ap (λ (r : List Lexeme). behind_one (behind_one (behind_one (behind_one (behind_one r))))) on ∙ ap (λ (r : List Lexeme). behind_one (behind_one (behind_one (behind_one r)))) argument.0,
      same_aggregate _ _ _ _ _ _ _ _ function.1 (ap begins_distinct inside ∙ distinct.1) (ap front on ∙ argument.1)
          (ap (λ (r : List Lexeme). front (behind_one (behind_one (behind_one r)))) on ∙ ap (λ (r : List Lexeme). front (behind_one (behind_one r))) argument.0),
    )

by_parts : (l : Lexeme) (x y : List Lexeme) (q : l.terminal ≡ t.OpenParen) (d : Derives aggregate_form x y) → aggregate_by d ≡ item_by (by {n = g.Item} (right (one_after (is {l = l} {x = x} q) d)))
by_parts l x y q (one_after f (one_after p (one_after e (one_after a (one_after c (one_after s (one_after v z))))))) = refl

item_read : {x y : List Lexeme} → (d : Derives (name g.Item) x y) → (behind_item x ≡ y) × (item_at x ≡ item_by d)
item_read (by (left (is {l = l} {x = x} q))) = (ap (behind_item_by x) q, ap (item_by_kind l x) q)
item_read (by (right (one_after (is {l = l} {x = x} q) d))) =
    let read = aggregate_read d in
    (ap (behind_item_by x) q ∙ read.0, ap (item_by_kind l x) q ∙ read.1 ∙ by_parts l x _ q d)

abbrev pub ItemsLeft : List Lexeme → List Lexeme → List Said → List Said → Type 0
ItemsLeft x r old now = (y : List Lexeme) (d : Derives (many (name g.Item)) x y) → begins_item y ≡ false → (e : Derives (many (name g.Item)) r y) × (now ++ items_by e ≡ old ++ items_by d)

pub first_item : (x : List Lexeme) (old : List Said) → ItemsLeft x x old old
first_item x old y d past = (d, refl)

item_step : (r s y : List Lexeme) (c : Said) (mid new all : List Said) (e : Derives (many (name g.Item)) r y) → begins_item r ≡ true → begins_item y ≡ false → c ≡ item_at r → s ≡ behind_item r → new ≡ mid ++ c ∷ [] → mid ++ items_by e ≡ all → (f : Derives (many (name g.Item)) s y) × (new ++ items_by f ≡ all)
item_step r s y c mid new all end here past is_it is_rest grown whole = absurd cc
item_step r s y c mid new all (again i more) here past is_it is_rest grown whole =
    let read = item_read i in
    subst (λ (k : List Lexeme). (f : Derives (many (name g.Item)) k y) × (new ++ items_by f ≡ all)) (sym (is_rest ∙ read.0)) (
      more,
      ap (λ (l : List Said). l ++ items_by more) (grown ∙ ap (λ (q : Said). mid ++ q ∷ []) (is_it ∙ read.1)) ∙ append_assoc mid (item_by i ∷ []) (items_by more) ∙ whole,
    )

pub next_item : (x r s : List Lexeme) (c : Said) (old mid new : List Said) → begins_item r ≡ true → c ≡ item_at r → s ≡ behind_item r → ItemsLeft x r old mid → new ≡ mid ++ c ∷ [] → ItemsLeft x s old new
next_item x r s c old mid new here is_it is_rest stands grown y d past =
    let so_far = stands y d past in
    item_step r s y c mid new (old ++ items_by d) so_far.0 here past is_it is_rest grown so_far.1

item_begins : {x y : List Lexeme} → (d : Derives (name g.Item) x y) → begins_item x ≡ true
item_begins (by (left (is q))) = ap is_item q
item_begins (by (right (one_after (is q) d))) = ap is_item q

items_end : (r y : List Lexeme) (now all : List Said) (e : Derives (many (name g.Item)) r y) → begins_item r ≡ false → now ++ items_by e ≡ all → (r ≡ y) × (now ≡ all)
items_end r y now all end none whole = (refl, sym (append-nil now) ∙ whole)
items_end r y now all (again i more) none whole = let odd = item_begins i in absurd cc

pub last_item : (x r : List Lexeme) (old now : List Said) → ItemsLeft x r old now → begins_item r ≡ false → AddsItems x r old now
last_item x r old now stands none y d past =
    let so_far = stands y d past in
    items_end r y now (old ++ items_by d) so_far.0 none so_far.1
