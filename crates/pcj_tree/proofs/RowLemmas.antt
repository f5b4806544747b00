-- Each solution of a part has a row of its own, and the last node has those of the answer.
use Rattle.std.proofs.Common.{◌≡◌, inl, inr, ℕ, zero, suc, ◌+◌, Bool, true, false, cond, List, [], ◌∷◌, ◌++◌, length, map, Option, Some, None, refl, ap, sym, subst, ◌∙◌, arith, option_map}
use Rattle.std.specs.List.{AllZip, Contains, find}
use Rattle.std.proofs.lemmas.List.Elements.{Contains-append_left, Contains-append_right}
use Rattle.std.proofs.lemmas.Option.{same_Some}
use Rattle.pcj_term.specs.declared.term.Term.{Term}
use Rattle.pcj_term.specs.declared.triple.Triple.{Triple}
use Rattle.pcj_term.specs.Order.{same_bytes}
use Rattle.pcj_term.proofs.ByteLemmas.{same_bytes_are}
use Rattle.pcj_term.proofs.ListLemmas.{nothing_in, first_or_later, first_there, later_there}
use Rattle.pcj_expr.specs.declared.expr.Expr.{Expr}
use Rattle.pcj_expr.specs.declared.mapping.Binding.{Binding}
use Rattle.pcj_expr.specs.declared.mapping.Mapping.{Mapping}
use Rattle.pcj_expr.specs.Truth.{bound}
use Rattle.pcj_algebra.specs.declared.pattern.Pattern.{Pattern}
use Rattle.pcj_algebra.specs.declared.pattern.Pattern.TheOpen as open_pattern
use Rattle.pcj_algebra.specs.declared.pattern.Pattern.TheVariants as pattern
use Rattle.pcj_algebra.specs.declared.pattern.Pattern.TheVariants.{rolls-Triple, rolls-Join, rolls-Filter, rolls-Union}
use Rattle.pcj_algebra.specs.declared.pattern.Pattern.TheFolds.{fold-roll-Pattern}
use Rattle.pcj_algebra.specs.declared.query.Shape.{Shape}
use Rattle.pcj_algebra.specs.declared.query.Shape.TheVariants.{Distinct, Group}
use Rattle.pcj_algebra.specs.declared.triple_pattern.TriplePattern.{TriplePattern}
use Rattle.pcj_algebra.specs.Variables.{triple_names, names_step, pattern_names}
use Rattle.pcj_solutions.specs.Joining.{either_term}
use Rattle.pcj_solutions.specs.Sets.{IsMapping}
use Rattle.pcj_solutions.specs.Solutions as solution
use Rattle.pcj_solutions.specs.Solutions.{IsSolution}
use Rattle.pcj_solutions.proofs.MergeLemmas.{same_mappings}
use Rattle.pcj_answers.specs.Rows.{terms_of}
use Rattle.pcj_tree.specs.declared.node.Node.{Node}
use Rattle.pcj_tree.specs.declared.node.NodeKind.TheVariants as kind
use Rattle.pcj_tree.specs.Order.{IsOrder, has_name}
use Rattle.pcj_tree.specs.Tree.{AreNodes, triple, joined, filtered, united, HasOrder, other_names, size_of, node_of, top_node}
use Rattle.pcj_tree.specs.Meaning.{numbered, parts_of, patterns_of}
use Rattle.pcj_tree.specs.Rows.{HaveOneRowEach, selected, LastRowsAreProjected}
use Rattle.pcj_tree.proofs.OrderLemmas.{found_there, there_found}
use Rattle.pcj_tree.proofs.MeaningLemmas.{Parted, shaped, parts_long, parts_triple, parts_join, parts_filter, parts_union, numbered_at, zip_append}

-- ---- a solution binds variables of its pattern alone

named : (bs : List Binding) (name : List ℕ) (t : Term) → option_map (λ b. b.term) (find (λ b. same_bytes b.name name) bs) ≡ Some t → Contains (map (λ b. b.name) bs) name
named [] name t e = absurd cc
named (b ∷ bs) name t e = by (same_bytes b.name name) refl e (named bs name t)
  where
    by : (same : Bool) → same_bytes b.name name ≡ same → option_map (λ (c : Binding). c.term) (cond same (Some b) (find (λ c. same_bytes c.name name) bs)) ≡ Some t →
        (option_map (λ (c : Binding). c.term) (find (λ c. same_bytes c.name name) bs) ≡ Some t → Contains (map (λ (c : Binding). c.name) bs) name) → Contains (map (λ (c : Binding). c.name) (b ∷ bs)) name
    by true is e rest = subst (Contains (b.name ∷ map (λ (c : Binding). c.name) bs)) (same_bytes_are b.name name is) (first_there b.name (map (λ (c : Binding). c.name) bs))
    by false is e rest = later_there b.name (map (λ (c : Binding). c.name) bs) name (rest e)

names_triple : (of : TriplePattern) → pattern_names (pattern.Triple of) ≡ triple_names of
names_triple of = ap pattern_names (sym (rolls-Triple of)) ∙ fold-roll-Pattern (List (List ℕ)) names_step (open_pattern.Triple of)

names_join : (left right : Pattern) → pattern_names (pattern.Join left right) ≡ pattern_names left ++ pattern_names right
names_join left right = ap pattern_names (sym (rolls-Join left right)) ∙ fold-roll-Pattern (List (List ℕ)) names_step (open_pattern.Join left right)

names_filter : (condition : Expr) (inner : Pattern) → pattern_names (pattern.Filter condition inner) ≡ pattern_names inner
names_filter condition inner = ap pattern_names (sym (rolls-Filter condition inner)) ∙ fold-roll-Pattern (List (List ℕ)) names_step (open_pattern.Filter condition inner)

names_union : (left right : Pattern) → pattern_names (pattern.Union left right) ≡ pattern_names left ++ pattern_names right
names_union left right = ap pattern_names (sym (rolls-Union left right)) ∙ fold-roll-Pattern (List (List ℕ)) names_step (open_pattern.Union left right)

abbrev Has : List (List ℕ) → List ℕ → Type 0
Has names name = Contains names name

bound_in : {triples : List Triple} {p : Pattern} {m : Mapping} (name : List ℕ) (t : Term) → IsSolution triples p m → bound m name ≡ Some t → Contains (pattern_names p) name
bound_in {m = m} name t (solution.matched of there match) e =
    subst (λ (ns : List (List ℕ)). Has ns name) (sym (names_triple of)) ((match.variables.each name).0 (named m.bindings name t e))
bound_in name t (solution.joined {first = first} {second = second} left right l r c u) e =
    by (bound first name) refl (sym (u.binds name) ∙ e) (λ other is. bound_in name other l is) (λ is. bound_in name t r is)
  where
    by : (value : Option Term) → bound first name ≡ value → either_term value (bound second name) ≡ Some t → ((other : Term) → bound first name ≡ Some other → Contains (pattern_names left) name) →
        (bound second name ≡ Some t → Contains (pattern_names right) name) → Contains (pattern_names (pattern.Join left right)) name
    by (Some other) is e in_left in_right = subst (λ (ns : List (List ℕ)). Has ns name) (sym (names_join left right)) (Contains-append_left (pattern_names left) (pattern_names right) name (in_left other is))
    by None is e in_left in_right = subst (λ (ns : List (List ℕ)). Has ns name) (sym (names_join left right)) (Contains-append_right (pattern_names left) (pattern_names right) name (in_right e))
bound_in name t (solution.filtered condition inner s h) e = subst (λ (ns : List (List ℕ)). Has ns name) (sym (names_filter condition inner)) (bound_in name t s e)
bound_in name t (solution.of_left left right s) e =
    subst (λ (ns : List (List ℕ)). Has ns name) (sym (names_union left right)) (Contains-append_left (pattern_names left) (pattern_names right) name (bound_in name t s e))
bound_in name t (solution.of_right left right s) e =
    subst (λ (ns : List (List ℕ)). Has ns name) (sym (names_union left right)) (Contains-append_right (pattern_names left) (pattern_names right) name (bound_in name t s e))

is_mapping : {triples : List Triple} {p : Pattern} {m : Mapping} → IsSolution triples p m → IsMapping m
is_mapping (solution.matched of there match) = match.variables.ascend
is_mapping (solution.joined left right l r c u) = u.is_mapping
is_mapping (solution.filtered condition inner s h) = is_mapping s
is_mapping (solution.of_left left right s) = is_mapping s
is_mapping (solution.of_right left right s) = is_mapping s

-- ---- the order of a node has all variables of its part

ordered_has : (all among order : List (List ℕ)) (name : List ℕ) → IsOrder all among order → Contains all name → Contains order name
ordered_has all among order name is there = by (has_name among name) refl
  where
    by : (has : Bool) → has_name among name ≡ has → Contains order name
    by true e = subst (λ (ns : List (List ℕ)). Has ns name) (sym is.is_order) (Contains-append_left is.shared is.others name ((is.are_shared.each name).1 (there, found_there among name e)))
    by false e = subst (λ (ns : List (List ℕ)). Has ns name) (sym is.is_order) (Contains-append_right is.shared is.others name
        ((is.are_others.each name).1 (there, λ within. absurd (let had = there_found among name within in cc))))

same_at : {X Y : Type 0} (f g : X → Y) (xs : List X) (x : X) → map f xs ≡ map g xs → Contains xs x → f x ≡ g x
same_at f g [] x e there = absurd (nothing_in x there)
same_at f g (y ∷ ys) x e there = elim (first_or_later y ys x there) [
  | inl here ↦ subst (λ z. f z ≡ g z) here (let same : f y ≡ g y = cc in same)
  | inr later ↦ same_at f g ys x (let same : map f ys ≡ map g ys = cc in same) later
]

one_row : (triples : List Triple) (part : Pattern) (sibling : Option Pattern) (order : List (List ℕ)) (m n : Mapping) → HasOrder part sibling order → IsSolution triples part m → IsSolution triples part n → terms_of order m ≡ terms_of order n → m ≡ n
one_row triples part sibling order m n has first second same = same_mappings m n (is_mapping first) (is_mapping second) agree
  where
    within : (name : List ℕ) → Contains (pattern_names part) name → bound m name ≡ bound n name
    within name there = same_at (bound m) (bound n) order name same (ordered_has (pattern_names part) (other_names sibling) order name has there)

    by : (name : List ℕ) (one other : Option Term) → bound m name ≡ one → bound n name ≡ other → bound m name ≡ bound n name
    by name (Some t) other e f = within name (bound_in name t first e)
    by name None (Some t) e f = within name (bound_in name t second f)
    by name None None e f = e ∙ sym f

    agree : (name : List ℕ) → bound m name ≡ bound n name
    agree name = by name (bound m name) (bound n name) refl refl

abbrev Ordered : Pattern → Node → Type 0
Ordered part node = (sibling : Option Pattern) × HasOrder part sibling node.order

abbrev AreOrdered : List Pattern → List Node → Type 0
AreOrdered parts nodes = AllZip Ordered parts nodes

ordered : {p : Pattern} {before parent : ℕ} {sibling : Option Pattern} {nodes : List Node} → AreNodes p before parent sibling nodes → AllZip Ordered (parts_of p) nodes
ordered {sibling = sibling} (triple {parent = parent} {order = order} of has) =
    subst (λ (ps : List Pattern). AreOrdered ps (node_of (kind.Pattern of) parent order ∷ [])) (sym (ap (λ (f : Parted). f.1) (parts_triple of))) ((sibling, has), tt)
ordered {sibling = sibling} (joined {parent = parent} {left_last = left_last} {last = last} {order = order} {lefts = lefts} {rights = rights} left right first second l r has) =
    let ls = shaped l in
    let rs = shaped r in
    let own = node_of (kind.Join left_last last) parent order in
    let whole = pattern.Join left right in
    subst (λ (ps : List Pattern). AreOrdered ps (lefts ++ (rights ++ own ∷ []))) (sym (ap (λ (f : Parted). f.1) (parts_join left right ls.whole rs.whole)))
    (zip_append Ordered (parts_of left) (parts_of right ++ whole ∷ []) lefts (rights ++ own ∷ []) (ordered l)
    (zip_append Ordered (parts_of right) (whole ∷ []) rights (own ∷ []) (ordered r) ((sibling, has), tt)))
ordered {sibling = sibling} (filtered {parent = parent} {last = last} {order = order} {inners = inners} condition inner first i has) =
    let inside = shaped i in
    let own = node_of (kind.Filter last condition) parent order in
    let whole = pattern.Filter condition inner in
    subst (λ (ps : List Pattern). AreOrdered ps (inners ++ own ∷ [])) (sym (ap (λ (f : Parted). f.1) (parts_filter condition inner inside.whole)))
    (zip_append Ordered (parts_of inner) (whole ∷ []) inners (own ∷ []) (ordered i) ((sibling, has), tt))
ordered {sibling = sibling} (united {parent = parent} {left_last = left_last} {last = last} {order = order} {lefts = lefts} {rights = rights} left right first second l r has) =
    let ls = shaped l in
    let rs = shaped r in
    let own = node_of (kind.Union left_last last) parent order in
    let whole = pattern.Union left right in
    subst (λ (ps : List Pattern). AreOrdered ps (lefts ++ (rights ++ own ∷ []))) (sym (ap (λ (f : Parted). f.1) (parts_union left right ls.whole rs.whole)))
    (zip_append Ordered (parts_of left) (parts_of right ++ whole ∷ []) lefts (rights ++ own ∷ []) (ordered l)
    (zip_append Ordered (parts_of right) (whole ∷ []) rights (own ∷ []) (ordered r) ((sibling, has), tt)))

-- what stands in a list's place beside what has this number in another, whatever is behind
zip_from : {X Y : Type 0} (R : X → Y → Type 0) (xs : List X) (ys more : List Y) (number : ℕ) (x : X) → AllZip R xs ys → numbered xs number ≡ Some x → (y : Y) × (numbered (ys ++ more) number ≡ Some y) × R x y
zip_from R [] ys more number x zip e = absurd cc
zip_from R (z ∷ xs) [] more number x zip e = absurd zip
zip_from R (z ∷ xs) (y ∷ ys) more zero x zip e = absurd cc
zip_from R (z ∷ xs) (y ∷ ys) more (suc zero) x zip e = (y, refl, subst (λ w. R w y) (same_Some z x e) zip.0)
zip_from R (z ∷ xs) (y ∷ ys) more (suc (suc number)) x zip e = zip_from R xs ys more (suc number) x zip.1 e

pub have_one_row_each : HaveOneRowEach
have_one_row_each query tree triples number part node m n is at here first second same =
    let found = zip_from Ordered (parts_of query.pattern) is.parts (top_node query.shape (size_of query.pattern) ∷ []) number part (ordered is.are_parts) at in
    let there : numbered tree.nodes number ≡ Some found.0 = ap (λ (ns : List Node). numbered ns number) is.nodes ∙ found.1 in
    let one : found.0 ≡ node = same_Some found.0 node (sym there ∙ here) in
    one_row triples part (found.2).0 node.order m n (subst (λ (x : Node). HasOrder part (found.2).0 x.order) one (found.2).1) first second same

-- ---- the last node

zip_long : {X Y : Type 0} (R : X → Y → Type 0) (xs : List X) (ys : List Y) → AllZip R xs ys → length xs ≡ length ys
zip_long R [] [] zip = refl
zip_long R [] (y ∷ ys) zip = absurd zip
zip_long R (x ∷ xs) [] zip = absurd zip
zip_long R (x ∷ xs) (y ∷ ys) zip = ap suc (zip_long R xs ys zip.1)

top_order : (shape : Shape) (child : ℕ) → (top_node shape child).order ≡ selected shape
top_order (Distinct names) child = refl
top_order (Group keys aggregate var as_name) child = refl

pub last_rows_are_projected : LastRowsAreProjected
last_rows_are_projected query tree triples node row is here =
    let whole = query.pattern in
    let top = top_node query.shape (size_of whole) in
    let long = parts_long whole (shaped is.are_parts) in
    let zipped = zip_long Ordered (parts_of whole) is.parts (ordered is.are_parts) in
    let part_at : numbered (patterns_of query) (size_of whole + 1) ≡ Some whole = numbered_at (patterns_of query) (parts_of whole) [] whole (size_of whole + 1) refl (omega (arith, long)) in
    let node_at : numbered tree.nodes (size_of whole + 1) ≡ Some top = numbered_at tree.nodes is.parts [] top (size_of whole + 1) is.nodes (omega (arith, long, zipped)) in
    let one : node.order ≡ selected query.shape = ap (λ (n : Node). n.order) (same_Some node top (sym here ∙ node_at)) ∙ top_order query.shape (size_of whole) in (
      λ found. (
        found.0,
        subst (λ (p : Pattern). IsSolution triples p found.0) (same_Some (found.1).0 whole (sym (found.1).1 ∙ part_at)) (found.1).2,
        found.2 ∙ ap (λ (names : List (List ℕ)). terms_of names found.0) one,
      ),
      λ found. (found.0, (whole, part_at, found.1), found.2 ∙ ap (λ (names : List (List ℕ)). terms_of names found.0) (sym one)),
    )
