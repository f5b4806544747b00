-- The nodes of a pattern are for its parts, and each for one alone.
use Rattle.std.proofs.Common.{◌≡◌, ◌<◌, ◌≤◌, ◌+◌, ◌-◌, ℕ, zero, suc, List, [], ◌∷◌, ◌++◌, length, Option, Some, Result, Ok, IfOk, IsSome, refl, ap, sym, subst, ◌∙◌, append_assoc, arith}
use Rattle.std.specs.List.{slice_get}
use Rattle.std.specs.Option.{option_map}
use Rattle.std.proofs.lemmas.List.{length-append}
use Rattle.std.proofs.lemmas.Option.{same_Some}
use Rattle.pcj_term.specs.declared.memory.Memory.{Memory}
use Rattle.pcj_expr.specs.declared.expr.Expr.{Expr}
use Rattle.pcj_algebra.specs.declared.pattern.Pattern.{Pattern}
use Rattle.pcj_algebra.specs.declared.pattern.Pattern.TheVariants as pattern
use Rattle.pcj_tree.specs.declared.node.Node.{Node}
use Rattle.pcj_tree.specs.declared.node.NodeKind.{NodeKind}
use Rattle.pcj_tree.specs.declared.node.NodeKind.TheVariants as kind
use Rattle.pcj_tree.specs.Meaning.{numbered}
use Rattle.pcj_tree.specs.Tree as nodes
use Rattle.pcj_tree.specs.Tree.{AreNodes, size_of, node_of}
use Rattle.pcj_tree.proofs.StoredLaws.{size_triple, size_join, size_filter, size_union}
use Rattle.pcj_tree.proofs.MeaningLemmas.{numbered_at}
use Rattle.pcj_rebuild.specs.Parts.{IsPart, triple, joined, filtered, united, kind_at}

-- ---- the node with a number

-- it stands at the place before
pub numbered_next : {X : Type 0} (xs : List X) (at : ℕ) → numbered xs (suc at) ≡ slice_get xs at
numbered_next [] at = refl
numbered_next (x ∷ xs) zero = refl
numbered_next (x ∷ xs) (suc at) = numbered_next xs at

pub counted_from_1 : (ns : List Node) (number : ℕ) → IsSome (kind_at ns number) → 1 ≤ number
counted_from_1 [] zero is = absurd cc
counted_from_1 (n ∷ ns) zero is = absurd cc
counted_from_1 ns (suc number) is = omega arith

pub no_more : (ns : List Node) (number : ℕ) → IsSome (kind_at ns number) → number ≤ length ns
no_more [] number is = absurd cc
no_more (n ∷ ns) zero is = omega arith
no_more (n ∷ ns) (suc zero) is = omega arith
no_more (n ∷ ns) (suc (suc number)) is = let less = no_more ns (suc number) is in omega (arith, less)

pub kind_found : (ns : List Node) (number place : ℕ) (node : Node) → 1 ≤ number → place ≡ number → slice_get ns (place - 1) ≡ Some node → kind_at ns number ≡ Some node.kind
kind_found ns zero place node some same is = absurd (omega (arith, some))
kind_found ns (suc number) place node some same is =
    ap (option_map (λ (n : Node). n.kind)) (numbered_next ns number ∙ ap (slice_get ns) (let e : number ≡ place - 1 = omega (arith, same) in e) ∙ is)

-- ---- one part for each number

-- what a node of a kind is for
abbrev Says : List Node → ℕ → NodeKind → Pattern → Type 0
Says ns number (kind.Pattern of) part = part ≡ pattern.Triple of
Says ns number (kind.Join first second) part = (left : Pattern) × (right : Pattern) × (first < number) × (second < number) × IsPart ns first left × IsPart ns second right × (part ≡ pattern.Join left right)
Says ns number (kind.Filter child condition) part = (inner : Pattern) × (child < number) × IsPart ns child inner × (part ≡ pattern.Filter condition inner)
Says ns number (kind.Union first second) part = (left : Pattern) × (right : Pattern) × (first < number) × (second < number) × IsPart ns first left × IsPart ns second right × (part ≡ pattern.Union left right)
Says ns number (kind.Project child) part = ⊥
Says ns number (kind.Group child aggregate var) part = ⊥

said : (ns : List Node) (number : ℕ) (own of : NodeKind) (part : Pattern) → kind_at ns number ≡ Some own → kind_at ns number ≡ Some of → Says ns number own part → Says ns number of part
said ns number own of part at is says = subst (λ (k : NodeKind). Says ns number k part) (same_Some own of (sym at ∙ is)) says

opened : {ns : List Node} {number : ℕ} {part : Pattern} (of : NodeKind) → IsPart ns number part → kind_at ns number ≡ Some of → Says ns number of part
opened of (triple {nodes = ns} {number = number} t at) is = said ns number (kind.Pattern t) of (pattern.Triple t) at is refl
opened of (joined {nodes = ns} {number = number} {first = first} {second = second} left right at below below' l r) is =
    said ns number (kind.Join first second) of (pattern.Join left right) at is (left, right, below, below', l, r, refl)
opened of (filtered {nodes = ns} {number = number} {child = child} condition inner at below i) is =
    said ns number (kind.Filter child condition) of (pattern.Filter condition inner) at is (inner, below, i, refl)
opened of (united {nodes = ns} {number = number} {first = first} {second = second} left right at below below' l r) is =
    said ns number (kind.Union first second) of (pattern.Union left right) at is (left, right, below, below', l, r, refl)

pub one_part : {ns : List Node} {number : ℕ} {part : Pattern} (other : Pattern) → IsPart ns number part → IsPart ns number other → part ≡ other
one_part other (triple of at) is = sym (opened (kind.Pattern of) is at)
one_part other (joined {first = first} {second = second} left right at below below' l r) is =
    let its = opened (kind.Join first second) is at in
    ap (λ (p : Pattern). pattern.Join p right) (one_part its.0 l its.4) ∙ ap (λ (p : Pattern). pattern.Join its.0 p) (one_part its.1 r its.5) ∙ sym its.6
one_part other (filtered {child = child} condition inner at below i) is =
    let its = opened (kind.Filter child condition) is at in
    ap (λ (p : Pattern). pattern.Filter condition p) (one_part its.0 i its.2) ∙ sym its.3
one_part other (united {first = first} {second = second} left right at below below' l r) is =
    let its = opened (kind.Union first second) is at in
    ap (λ (p : Pattern). pattern.Union p right) (one_part its.0 l its.4) ∙ ap (λ (p : Pattern). pattern.Union its.0 p) (one_part its.1 r its.5) ∙ sym its.6

-- ---- a part from those of its children

-- the part that was made
made : (P : Pattern → Type 0) (result : Result Pattern Memory) (part : Pattern) → result ≡ Ok part → IfOk result P → P part
made P (Ok found) part is holds = let same : found ≡ part = cc in subst P same holds
made P (Result.Err e) part is holds = absurd cc

pub join_part : (ns : List Node) (number first second : ℕ) (part left right : Pattern) (found : NodeKind) (one two : Result Pattern Memory) → IsPart ns number part → kind_at ns number ≡ Some found → found ≡ kind.Join first second →
    one ≡ Ok left → IfOk one (λ p. IsPart ns first p) → two ≡ Ok right → IfOk two (λ p. IsPart ns second p) → IsPart ns number (pattern.Join left right)
join_part ns number first second part left right found one two is at of e l f r =
    let here = at ∙ ap (λ (k : NodeKind). Some k) of in
    let its = opened (kind.Join first second) is here in
    joined left right here its.2 its.3 (made (IsPart ns first) one left e l) (made (IsPart ns second) two right f r)

pub union_part : (ns : List Node) (number first second : ℕ) (part left right : Pattern) (found : NodeKind) (one two : Result Pattern Memory) → IsPart ns number part → kind_at ns number ≡ Some found → found ≡ kind.Union first second →
    one ≡ Ok left → IfOk one (λ p. IsPart ns first p) → two ≡ Ok right → IfOk two (λ p. IsPart ns second p) → IsPart ns number (pattern.Union left right)
union_part ns number first second part left right found one two is at of e l f r =
    let here = at ∙ ap (λ (k : NodeKind). Some k) of in
    let its = opened (kind.Union first second) is here in
    united left right here its.2 its.3 (made (IsPart ns first) one left e l) (made (IsPart ns second) two right f r)

pub filter_part : (ns : List Node) (number child : ℕ) (condition copy : Expr) (part inner : Pattern) (found : NodeKind) (one : Result Pattern Memory) → IsPart ns number part → kind_at ns number ≡ Some found → found ≡ kind.Filter child condition →
    one ≡ Ok inner → IfOk one (λ p. IsPart ns child p) → copy ≡ condition → IsPart ns number (pattern.Filter copy inner)
filter_part ns number child condition copy part inner found one is at of e i same =
    let here = at ∙ ap (λ (k : NodeKind). Some k) of in
    let its = opened (kind.Filter child condition) is here in
    subst (λ (c : Expr). IsPart ns number (pattern.Filter c inner)) (sym same) (filtered condition inner here its.1 (made (IsPart ns child) one inner e i))

-- ---- the nodes of a pattern

pub as_many : {p : Pattern} {before parent : ℕ} {sibling : Option Pattern} {ns : List Node} → AreNodes p before parent sibling ns → length ns ≡ size_of p
as_many (nodes.triple of order) = sym (size_triple of)
as_many (nodes.joined {parent = parent} {left_last = left_last} {last = last} {order = order} {lefts = lefts} {rights = rights} left right first second l r has) =
    let own = node_of (kind.Join left_last last) parent order in
    let size = size_join left right in
    let on_left = as_many l in
    let on_right = as_many r in
    let whole = length-append lefts (rights ++ own ∷ []) in
    let later = length-append rights (own ∷ []) in
    omega (arith, size, on_left, on_right, whole, later)
as_many (nodes.filtered {parent = parent} {last = last} {order = order} {inners = inners} condition inner first i has) =
    let size = size_filter condition inner in
    let inside = as_many i in
    let whole = length-append inners (node_of (kind.Filter last condition) parent order ∷ []) in
    omega (arith, size, inside, whole)
as_many (nodes.united {parent = parent} {left_last = left_last} {last = last} {order = order} {lefts = lefts} {rights = rights} left right first second l r has) =
    let own = node_of (kind.Union left_last last) parent order in
    let size = size_union left right in
    let on_left = as_many l in
    let on_right = as_many r in
    let whole = length-append lefts (rights ++ own ∷ []) in
    let later = length-append rights (own ∷ []) in
    omega (arith, size, on_left, on_right, whole, later)

-- the nodes on the left with what follows them, those on the right with what is before them, and the last with what is before it
left_nodes : (all front back lefts rights last : List Node) → all ≡ front ++ ((lefts ++ (rights ++ last)) ++ back) → all ≡ front ++ (lefts ++ ((rights ++ last) ++ back))
left_nodes all front back lefts rights last is = is ∙ ap (λ (ns : List Node). front ++ ns) (append_assoc lefts (rights ++ last) back)

right_nodes : (all front back lefts rights last : List Node) → all ≡ front ++ ((lefts ++ (rights ++ last)) ++ back) → all ≡ (front ++ lefts) ++ (rights ++ (last ++ back))
right_nodes all front back lefts rights last is =
    left_nodes all front back lefts rights last is ∙ ap (λ (ns : List Node). front ++ (lefts ++ ns)) (append_assoc rights last back) ∙ sym (append_assoc front lefts (rights ++ (last ++ back)))

last_node : (all front back lefts rights last : List Node) → all ≡ front ++ ((lefts ++ (rights ++ last)) ++ back) → all ≡ ((front ++ lefts) ++ rights) ++ (last ++ back)
last_node all front back lefts rights last is = right_nodes all front back lefts rights last is ∙ sym (append_assoc (front ++ lefts) rights (last ++ back))

kind_here : (all front back : List Node) (node : Node) (number : ℕ) → all ≡ front ++ node ∷ back → number ≡ suc (length front) → kind_at all number ≡ Some node.kind
kind_here all front back node number is at = ap (option_map (λ (n : Node). n.kind)) (numbered_at all front back node number is at)

pub node_parts : {p : Pattern} {before parent : ℕ} {sibling : Option Pattern} {ns : List Node} (all front back : List Node) → AreNodes p before parent sibling ns → all ≡ front ++ (ns ++ back) → length front ≡ before → IsPart all (before + size_of p) p
node_parts all front back (nodes.triple {before = before} {parent = parent} {order = order} of has) is long =
    let size = size_triple of in
    triple of (kind_here all front back (node_of (kind.Pattern of) parent order) (before + size_of (pattern.Triple of)) is (omega (arith, size, long)))
node_parts all front back (nodes.joined {before = before} {parent = parent} {left_last = left_last} {last = last} {order = order} {lefts = lefts} {rights = rights} left right first second l r has) is long =
    let own = node_of (kind.Join left_last last) parent order in
    let number = before + size_of (pattern.Join left right) in
    let size = size_join left right in
    let on_left = as_many l in
    let on_right = as_many r in
    let to_left = length-append front lefts in
    let to_right = length-append (front ++ lefts) rights in
    let at = kind_here all ((front ++ lefts) ++ rights) back own number (last_node all front back lefts rights (own ∷ []) is) (omega (arith, size, on_left, on_right, to_left, to_right, long)) in
    let part_left = node_parts all front ((rights ++ own ∷ []) ++ back) l (left_nodes all front back lefts rights (own ∷ []) is) long in
    let part_right = node_parts all (front ++ lefts) (own ∷ back) r (right_nodes all front back lefts rights (own ∷ []) is) (omega (arith, on_left, to_left, long, first)) in
    joined left right at (omega (arith, size, first)) (omega (arith, size, first, second))
    (subst (λ (n : ℕ). IsPart all n left) (sym first) part_left) (subst (λ (n : ℕ). IsPart all n right) (sym second) part_right)
node_parts all front back (nodes.filtered {before = before} {parent = parent} {last = last} {order = order} {inners = inners} condition inner first i has) is long =
    let own = node_of (kind.Filter last condition) parent order in
    let number = before + size_of (pattern.Filter condition inner) in
    let size = size_filter condition inner in
    let inside = as_many i in
    let to_inner = length-append front inners in
    let shown : all ≡ front ++ (inners ++ own ∷ back) = is ∙ ap (λ (ns : List Node). front ++ ns) (append_assoc inners (own ∷ []) back) in
    let at = kind_here all (front ++ inners) back own number (shown ∙ sym (append_assoc front inners (own ∷ back))) (omega (arith, size, inside, to_inner, long)) in
    filtered condition inner at (omega (arith, size, first)) (subst (λ (n : ℕ). IsPart all n inner) (sym first) (node_parts all front (own ∷ back) i shown long))
node_parts all front back (nodes.united {before = before} {parent = parent} {left_last = left_last} {last = last} {order = order} {lefts = lefts} {rights = rights} left right first second l r has) is long =
    let own = node_of (kind.Union left_last last) parent order in
    let number = before + size_of (pattern.Union left right) in
    let size = size_union left right in
    let on_left = as_many l in
    let on_right = as_many r in
    let to_left = length-append front lefts in
    let to_right = length-append (front ++ lefts) rights in
    let at = kind_here all ((front ++ lefts) ++ rights) back own number (last_node all front back lefts rights (own ∷ []) is) (omega (arith, size, on_left, on_right, to_left, to_right, long)) in
    let part_left = node_parts all front ((rights ++ own ∷ []) ++ back) l (left_nodes all front back lefts rights (own ∷ []) is) long in
    let part_right = node_parts all (front ++ lefts) (own ∷ back) r (right_nodes all front back lefts rights (own ∷ []) is) (omega (arith, on_left, to_left, long, first)) in
    united left right at (omega (arith, size, first)) (omega (arith, size, first, second))
    (subst (λ (n : ℕ). IsPart all n left) (sym first) part_left) (subst (λ (n : ℕ). IsPart all n right) (sym second) part_right)
