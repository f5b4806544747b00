-- The nodes of a query's tree are for the parts that have their numbers.
use Rattle.std.proofs.Common.{◌≡◌, ◌⊎◌, inl, inr, ℕ, zero, suc, ◌+◌, List, [], ◌∷◌, ◌++◌, length, Option, Some, refl, ap, sym, subst, ◌∙◌, append_assoc, arith}
use Rattle.std.specs.List.{AllZip}
use Rattle.std.proofs.lemmas.List.{length-append}
use Rattle.std.proofs.lemmas.Option.{same_Some}
use Rattle.pcj_term.specs.declared.triple.Triple.{Triple}
use Rattle.pcj_expr.specs.declared.expr.Expr.{Expr}
use Rattle.pcj_expr.specs.declared.mapping.Mapping.{Mapping}
use Rattle.pcj_expr.specs.declared.truth_value.Truth.TheVariants.{True}
use Rattle.pcj_expr.specs.Truth.{truth_of}
use Rattle.pcj_algebra.specs.declared.pattern.Pattern.{Pattern, Pattern-F}
use Rattle.pcj_algebra.specs.declared.pattern.Pattern.TheOpen as open_pattern
use Rattle.pcj_algebra.specs.declared.pattern.Pattern.TheVariants as pattern
use Rattle.pcj_algebra.specs.declared.pattern.Pattern.TheVariants.{rolls-Triple, rolls-Join, rolls-Filter, rolls-Union}
use Rattle.pcj_algebra.specs.declared.pattern.Pattern.TheFolds.{fold-roll-Pattern}
use Rattle.pcj_algebra.specs.declared.pattern.Pattern.TheViews.{out-Pattern, out-roll-Pattern}
use Rattle.pcj_algebra.specs.declared.query.Query.{Query}
use Rattle.pcj_algebra.specs.declared.query.Shape.{Shape}
use Rattle.pcj_algebra.specs.declared.query.Shape.TheVariants.{Distinct, Group}
use Rattle.pcj_algebra.specs.declared.triple_pattern.TriplePattern.{TriplePattern}
use Rattle.pcj_solutions.specs.Joining.{AreCompatible, IsUnion}
use Rattle.pcj_solutions.specs.Solutions as solution
use Rattle.pcj_solutions.specs.Solutions.{IsSolution, IsMatchIn}
use Rattle.pcj_tree.specs.declared.node.Node.{Node}
use Rattle.pcj_tree.specs.declared.node.NodeKind.{NodeKind}
use Rattle.pcj_tree.specs.declared.node.NodeKind.TheVariants as kind
use Rattle.pcj_tree.specs.declared.tree.Tree.{Tree}
use Rattle.pcj_tree.specs.Tree.{AreNodes, triple, joined, filtered, united, IsTree, size_of, node_of, top_node}
use Rattle.pcj_tree.specs.Meaning.{numbered, parts_step, with_parts, parts_of, patterns_of, IsSolutionAt, Means, NodesMeanParts}
use Rattle.pcj_tree.proofs.StoredLaws.{size_triple, size_join, size_filter, size_union}

-- ---- what has a number

numbered_middle : {X : Type 0} (front back : List X) (x : X) → numbered (front ++ x ∷ back) (suc (length front)) ≡ Some x
numbered_middle [] back x = refl
numbered_middle (y ∷ front) back x = numbered_middle front back x

-- the same, where the number is known by an equation
pub numbered_at : {X : Type 0} (all front back : List X) (x : X) (number : ℕ) → all ≡ front ++ x ∷ back → number ≡ suc (length front) → numbered all number ≡ Some x
numbered_at {X} all front back x number is at = ap (λ (xs : List X). numbered xs number) is ∙ ap (numbered (front ++ x ∷ back)) at ∙ numbered_middle front back x

pub zip_append : {X Y : Type 0} (R : X → Y → Type 0) (xs others : List X) (ys more : List Y) → AllZip R xs ys → AllZip R others more → AllZip R (xs ++ others) (ys ++ more)
zip_append R [] others [] more zip rest = rest
zip_append R [] others (y ∷ ys) more zip rest = absurd zip
zip_append R (x ∷ xs) others [] more zip rest = absurd zip
zip_append R (x ∷ xs) others (y ∷ ys) more zip rest = (zip.0, zip_append R xs others ys more zip.1 rest)

zip_at : {X Y : Type 0} (R : X → Y → Type 0) (xs : List X) (ys : List Y) (number : ℕ) (y : Y) → AllZip R xs ys → numbered ys number ≡ Some y → (x : X) × (numbered xs number ≡ Some x) × R x y
zip_at R [] [] number y zip e = absurd cc
zip_at R [] (z ∷ ys) number y zip e = absurd zip
zip_at R (x ∷ xs) [] number y zip e = absurd zip
zip_at R (x ∷ xs) (z ∷ ys) zero y zip e = absurd cc
zip_at R (x ∷ xs) (z ∷ ys) (suc zero) y zip e = (x, refl, subst (R x) (same_Some z y e) zip.0)
zip_at R (x ∷ xs) (z ∷ ys) (suc (suc number)) y zip e = zip_at R xs ys (suc number) y zip.1 e

-- ---- the parts of a pattern that has nodes

pub record Shaped (p : Pattern) : Type 0 where
  pub whole : (with_parts p).0 ≡ p
  pub front : List Pattern
  pub ends : parts_of p ≡ front ++ p ∷ []
  pub long : suc (length front) ≡ size_of p

pub parts_long : (p : Pattern) → Shaped p → length (parts_of p) ≡ size_of p
parts_long p shaped = let e = ap length shaped.ends ∙ length-append shaped.front (p ∷ []) in let long = shaped.long in omega (arith, e, long)

abbrev pub Parted : Type 0
Parted = Pattern × List Pattern

pub parts_triple : (of : TriplePattern) → with_parts (pattern.Triple of) ≡ (pattern.Triple of, pattern.Triple of ∷ [])
parts_triple of = ap with_parts (sym (rolls-Triple of)) ∙ fold-roll-Pattern Parted parts_step (open_pattern.Triple of)

pub parts_join : (left right : Pattern) → (with_parts left).0 ≡ left → (with_parts right).0 ≡ right → with_parts (pattern.Join left right) ≡ (pattern.Join left right, parts_of left ++ (parts_of right ++ pattern.Join left right ∷ []))
parts_join left right l r =
    ap with_parts (sym (rolls-Join left right)) ∙ fold-roll-Pattern Parted parts_step (open_pattern.Join left right)
    ∙ ap (λ (p : Pattern). (pattern.Join p (with_parts right).0, parts_of left ++ (parts_of right ++ pattern.Join p (with_parts right).0 ∷ []))) l
    ∙ ap (λ (p : Pattern). (pattern.Join left p, parts_of left ++ (parts_of right ++ pattern.Join left p ∷ []))) r

pub parts_filter : (condition : Expr) (inner : Pattern) → (with_parts inner).0 ≡ inner → with_parts (pattern.Filter condition inner) ≡ (pattern.Filter condition inner, parts_of inner ++ pattern.Filter condition inner ∷ [])
parts_filter condition inner i =
    ap with_parts (sym (rolls-Filter condition inner)) ∙ fold-roll-Pattern Parted parts_step (open_pattern.Filter condition inner)
    ∙ ap (λ (p : Pattern). (pattern.Filter condition p, parts_of inner ++ pattern.Filter condition p ∷ [])) i

pub parts_union : (left right : Pattern) → (with_parts left).0 ≡ left → (with_parts right).0 ≡ right → with_parts (pattern.Union left right) ≡ (pattern.Union left right, parts_of left ++ (parts_of right ++ pattern.Union left right ∷ []))
parts_union left right l r =
    ap with_parts (sym (rolls-Union left right)) ∙ fold-roll-Pattern Parted parts_step (open_pattern.Union left right)
    ∙ ap (λ (p : Pattern). (pattern.Union p (with_parts right).0, parts_of left ++ (parts_of right ++ pattern.Union p (with_parts right).0 ∷ []))) l
    ∙ ap (λ (p : Pattern). (pattern.Union left p, parts_of left ++ (parts_of right ++ pattern.Union left p ∷ []))) r

shaped_pair : (left right whole : Pattern) → Shaped left → Shaped right → size_of whole ≡ size_of left + size_of right + 1 → with_parts whole ≡ (whole, parts_of left ++ (parts_of right ++ whole ∷ [])) → Shaped whole
shaped_pair left right whole l r size is = record {
  whole = ap (λ (f : Parted). f.0) is;
  front = parts_of left ++ parts_of right;
  ends = ap (λ (f : Parted). f.1) is ∙ sym (append_assoc (parts_of left) (parts_of right) (whole ∷ []));
  long =
      let both = length-append (parts_of left) (parts_of right) in
      let first = parts_long left l in
      let second = parts_long right r in
      omega (arith, both, first, second, size);
}

pub shaped : {p : Pattern} {before parent : ℕ} {sibling : Option Pattern} {nodes : List Node} → AreNodes p before parent sibling nodes → Shaped p
shaped (triple of order) = record {
  whole = ap (λ (f : Parted). f.0) (parts_triple of);
  front = [];
  ends = ap (λ (f : Parted). f.1) (parts_triple of);
  long = sym (size_triple of);
}
shaped (joined left right first second l r order) =
    let ls = shaped l in
    let rs = shaped r in
    shaped_pair left right (pattern.Join left right) ls rs (size_join left right) (parts_join left right ls.whole rs.whole)
shaped (filtered condition inner first i order) =
    let is = shaped i in
    let parts = parts_filter condition inner is.whole in
    record {
      whole = ap (λ (f : Parted). f.0) parts;
      front = parts_of inner;
      ends = ap (λ (f : Parted). f.1) parts;
      long = let size = size_filter condition inner in let long = parts_long inner is in omega (arith, size, long);
    }
shaped (united left right first second l r order) =
    let ls = shaped l in
    let rs = shaped r in
    shaped_pair left right (pattern.Union left right) ls rs (size_union left right) (parts_union left right ls.whole rs.whole)

-- ---- what a node of a kind is for, by the parts of its children

abbrev IsAt : List Pattern → ℕ → Pattern → Type 0
IsAt all number part = numbered all number ≡ Some part

abbrev IsForKind : List Pattern → Pattern → NodeKind → Type 0
IsForKind all part (kind.Pattern of) = part ≡ pattern.Triple of
IsForKind all part (kind.Join left right) = (first : Pattern) × (second : Pattern) × IsAt all left first × IsAt all right second × (part ≡ pattern.Join first second)
IsForKind all part (kind.Filter child condition) = (inner : Pattern) × IsAt all child inner × (part ≡ pattern.Filter condition inner)
IsForKind all part (kind.Union left right) = (first : Pattern) × (second : Pattern) × IsAt all left first × IsAt all right second × (part ≡ pattern.Union first second)
IsForKind all part (kind.Project child) = IsAt all child part
IsForKind all part (kind.Group child aggregate var) = IsAt all child part

abbrev IsFor : List Pattern → Pattern → Node → Type 0
IsFor all part node = IsForKind all part node.kind

-- the last of a pattern's parts has the number that follows those before
at_last : (all front back : List Pattern) (before number : ℕ) (p : Pattern) → Shaped p → all ≡ front ++ (parts_of p ++ back) → length front ≡ before → number ≡ before + size_of p → IsAt all number p
at_last all front back before number p shaped is long at =
    let count = length-append front shaped.front in
    let own = shaped.long in
    numbered_at all (front ++ shaped.front) back p number
    (is ∙ ap (λ (ps : List Pattern). front ++ (ps ++ back)) shaped.ends ∙ ap (λ (ps : List Pattern). front ++ ps) (append_assoc shaped.front (p ∷ []) back) ∙ sym (append_assoc front shaped.front (p ∷ back)))
    (omega (arith, count, own, long, at))

-- the parts on the left with what follows them, and those on the right with what is before them
left_parts : (all front back own rights last : List Pattern) → all ≡ front ++ ((own ++ (rights ++ last)) ++ back) → all ≡ front ++ (own ++ ((rights ++ last) ++ back))
left_parts all front back own rights last is = is ∙ ap (λ (ps : List Pattern). front ++ ps) (append_assoc own (rights ++ last) back)

right_parts : (all front back lefts own last : List Pattern) → all ≡ front ++ ((lefts ++ (own ++ last)) ++ back) → all ≡ (front ++ lefts) ++ (own ++ (last ++ back))
right_parts all front back lefts own last is =
    left_parts all front back lefts own last is ∙ ap (λ (ps : List Pattern). front ++ (lefts ++ ps)) (append_assoc own last back) ∙ sym (append_assoc front lefts (own ++ (last ++ back)))

abbrev AreFor : List Pattern → Pattern → List Node → Type 0
AreFor all p nodes = AllZip (IsFor all) (parts_of p) nodes

for_parts : {p : Pattern} {before parent : ℕ} {sibling : Option Pattern} {nodes : List Node} (all front back : List Pattern) → AreNodes p before parent sibling nodes → all ≡ front ++ (parts_of p ++ back) → length front ≡ before → AreFor all p nodes
for_parts all front back (triple {parent = parent} {order = order} of has) is long =
    subst (λ (ps : List Pattern). AllZip (IsFor all) ps (node_of (kind.Pattern of) parent order ∷ [])) (sym (ap (λ (f : Parted). f.1) (parts_triple of))) (refl, tt)
for_parts all front back (joined {before = before} {parent = parent} {left_last = left_last} {last = last} {order = order} {lefts = lefts} {rights = rights} left right first second l r has) is long =
    let ls = shaped l in
    let rs = shaped r in
    let own = node_of (kind.Join left_last last) parent order in
    let whole = pattern.Join left right in
    let parts = ap (λ (f : Parted). f.1) (parts_join left right ls.whole rs.whole) in
    let shown : all ≡ front ++ ((parts_of left ++ (parts_of right ++ whole ∷ [])) ++ back) = is ∙ ap (λ (ps : List Pattern). front ++ (ps ++ back)) parts in
    let on_left = left_parts all front back (parts_of left) (parts_of right) (whole ∷ []) shown in
    let on_right = right_parts all front back (parts_of left) (parts_of right) (whole ∷ []) shown in
    let before_right : length (front ++ parts_of left) ≡ left_last = (let count = length-append front (parts_of left) in let size = parts_long left ls in omega (arith, count, size, long, first)) in
    let at_left = at_last all front ((parts_of right ++ whole ∷ []) ++ back) before left_last left ls on_left long first in
    let at_right = at_last all (front ++ parts_of left) (whole ∷ back) left_last last right rs on_right before_right second in
    subst (λ (ps : List Pattern). AllZip (IsFor all) ps (lefts ++ (rights ++ own ∷ []))) (sym parts)
    (zip_append (IsFor all) (parts_of left) (parts_of right ++ whole ∷ []) lefts (rights ++ own ∷ []) (for_parts all front ((parts_of right ++ whole ∷ []) ++ back) l on_left long)
    (zip_append (IsFor all) (parts_of right) (whole ∷ []) rights (own ∷ []) (for_parts all (front ++ parts_of left) (whole ∷ back) r on_right before_right)
    ((left, right, at_left, at_right, refl), tt)))
for_parts all front back (filtered {before = before} {parent = parent} {last = last} {order = order} {inners = inners} condition inner first i has) is long =
    let inside = shaped i in
    let own = node_of (kind.Filter last condition) parent order in
    let whole = pattern.Filter condition inner in
    let parts = ap (λ (f : Parted). f.1) (parts_filter condition inner inside.whole) in
    let shown : all ≡ front ++ (parts_of inner ++ (whole ∷ [] ++ back)) = is ∙ ap (λ (ps : List Pattern). front ++ (ps ++ back)) parts ∙ ap (λ (ps : List Pattern). front ++ ps) (append_assoc (parts_of inner) (whole ∷ []) back) in
    let at_inner = at_last all front (whole ∷ back) before last inner inside shown long first in
    subst (λ (ps : List Pattern). AllZip (IsFor all) ps (inners ++ own ∷ [])) (sym parts)
    (zip_append (IsFor all) (parts_of inner) (whole ∷ []) inners (own ∷ []) (for_parts all front (whole ∷ back) i shown long) ((inner, at_inner, refl), tt))
for_parts all front back (united {before = before} {parent = parent} {left_last = left_last} {last = last} {order = order} {lefts = lefts} {rights = rights} left right first second l r has) is long =
    let ls = shaped l in
    let rs = shaped r in
    let own = node_of (kind.Union left_last last) parent order in
    let whole = pattern.Union left right in
    let parts = ap (λ (f : Parted). f.1) (parts_union left right ls.whole rs.whole) in
    let shown : all ≡ front ++ ((parts_of left ++ (parts_of right ++ whole ∷ [])) ++ back) = is ∙ ap (λ (ps : List Pattern). front ++ (ps ++ back)) parts in
    let on_left = left_parts all front back (parts_of left) (parts_of right) (whole ∷ []) shown in
    let on_right = right_parts all front back (parts_of left) (parts_of right) (whole ∷ []) shown in
    let before_right : length (front ++ parts_of left) ≡ left_last = (let count = length-append front (parts_of left) in let size = parts_long left ls in omega (arith, count, size, long, first)) in
    let at_left = at_last all front ((parts_of right ++ whole ∷ []) ++ back) before left_last left ls on_left long first in
    let at_right = at_last all (front ++ parts_of left) (whole ∷ back) left_last last right rs on_right before_right second in
    subst (λ (ps : List Pattern). AllZip (IsFor all) ps (lefts ++ (rights ++ own ∷ []))) (sym parts)
    (zip_append (IsFor all) (parts_of left) (parts_of right ++ whole ∷ []) lefts (rights ++ own ∷ []) (for_parts all front ((parts_of right ++ whole ∷ []) ++ back) l on_left long)
    (zip_append (IsFor all) (parts_of right) (whole ∷ []) rights (own ∷ []) (for_parts all (front ++ parts_of left) (whole ∷ back) r on_right before_right)
    ((left, right, at_left, at_right, refl), tt)))

top_for : (all : List Pattern) (part : Pattern) (shape : Shape) (child : ℕ) → IsAt all child part → IsFor all part (top_node shape child)
top_for all part (Distinct names) child at = at
top_for all part (Group keys aggregate var as_name) child at = at

tree_for : (query : Query) (tree : Tree) → IsTree query tree → AllZip (IsFor (patterns_of query)) (patterns_of query) tree.nodes
tree_for query tree is =
    let all = patterns_of query in
    let whole = query.pattern in
    let at = at_last all [] (whole ∷ []) 0 (size_of whole) whole (shaped is.are_parts) refl refl (omega arith) in
    subst (AllZip (IsFor all) all) (sym is.nodes)
    (zip_append (IsFor all) (parts_of whole) (whole ∷ []) is.parts (top_node query.shape (size_of whole) ∷ []) (for_parts all [] (whole ∷ []) is.are_parts refl refl)
    (top_for all whole query.shape (size_of whole) at, tt))

-- ---- what a solution is, by the outermost form of its pattern

abbrev JoinOf : List Triple → Pattern → Pattern → Mapping → Type 0
JoinOf triples left right mapping = (first : Mapping) × (second : Mapping) × IsSolution triples left first × IsSolution triples right second × AreCompatible first second × IsUnion first second mapping

abbrev Layer : List Triple → Pattern-F Pattern → Mapping → Type 0
Layer triples (open_pattern.Triple of) mapping = IsMatchIn triples of mapping
Layer triples (open_pattern.Join left right) mapping = JoinOf triples left right mapping
Layer triples (open_pattern.Filter condition inner) mapping = IsSolution triples inner mapping × (truth_of condition mapping ≡ True)
Layer triples (open_pattern.Union left right) mapping = IsSolution triples left mapping ⊎ IsSolution triples right mapping

out_triple : (of : TriplePattern) → out-Pattern (pattern.Triple of) ≡ open_pattern.Triple of
out_triple of = ap out-Pattern (sym (rolls-Triple of)) ∙ out-roll-Pattern (open_pattern.Triple of)

out_join : (left right : Pattern) → out-Pattern (pattern.Join left right) ≡ open_pattern.Join left right
out_join left right = ap out-Pattern (sym (rolls-Join left right)) ∙ out-roll-Pattern (open_pattern.Join left right)

out_filter : (condition : Expr) (inner : Pattern) → out-Pattern (pattern.Filter condition inner) ≡ open_pattern.Filter condition inner
out_filter condition inner = ap out-Pattern (sym (rolls-Filter condition inner)) ∙ out-roll-Pattern (open_pattern.Filter condition inner)

out_union : (left right : Pattern) → out-Pattern (pattern.Union left right) ≡ open_pattern.Union left right
out_union left right = ap out-Pattern (sym (rolls-Union left right)) ∙ out-roll-Pattern (open_pattern.Union left right)

layered : (triples : List Triple) (p : Pattern) (layer : Pattern-F Pattern) (m : Mapping) → out-Pattern p ≡ layer → Layer triples layer m → Layer triples (out-Pattern p) m
layered triples p layer m is h = subst (λ (l : Pattern-F Pattern). Layer triples l m) (sym is) h

inverted : {triples : List Triple} {p : Pattern} {m : Mapping} → IsSolution triples p m → Layer triples (out-Pattern p) m
inverted {triples} {m = m} (solution.matched {triple = t} of there match) = layered triples (pattern.Triple of) (open_pattern.Triple of) m (out_triple of) (t, there, match)
inverted {triples} {m = m} (solution.joined {first = first} {second = second} left right l r c u) =
    layered triples (pattern.Join left right) (open_pattern.Join left right) m (out_join left right) (first, second, l, r, c, u)
inverted {triples} {m = m} (solution.filtered condition inner s e) = layered triples (pattern.Filter condition inner) (open_pattern.Filter condition inner) m (out_filter condition inner) (s, e)
inverted {triples} {m = m} (solution.of_left left right s) = layered triples (pattern.Union left right) (open_pattern.Union left right) m (out_union left right) (inl s)
inverted {triples} {m = m} (solution.of_right left right s) = layered triples (pattern.Union left right) (open_pattern.Union left right) m (out_union left right) (inr s)

opened : (triples : List Triple) (p : Pattern) (layer : Pattern-F Pattern) (m : Mapping) → out-Pattern p ≡ layer → IsSolution triples p m → Layer triples layer m
opened triples p layer m is s = subst (λ (l : Pattern-F Pattern). Layer triples l m) is (inverted s)

-- ---- what the nodes say

-- one number has one pattern
one_at : (all : List Pattern) (number : ℕ) (part other : Pattern) → IsAt all number part → IsAt all number other → part ≡ other
one_at all number part other e f = same_Some part other (sym e ∙ f)

-- the solution of the pattern at a number, where that is known
solved_at : (triples : List Triple) (query : Query) (number : ℕ) (part : Pattern) (m : Mapping) → IsAt (patterns_of query) number part → IsSolutionAt triples query number m → IsSolution triples part m
solved_at triples query number part m at found = subst (λ (p : Pattern). IsSolution triples p m) (one_at (patterns_of query) number found.0 part found.1 at) found.2

says : (triples : List Triple) (query : Query) (part : Pattern) (k : NodeKind) (m : Mapping) → IsForKind (patterns_of query) part k → IsSolution triples part m → Means triples query k m
says triples query part (kind.Pattern of) m is s = opened triples part (open_pattern.Triple of) m (ap out-Pattern is ∙ out_triple of) s
says triples query part (kind.Join left right) m is s =
    let j = opened triples part (open_pattern.Join is.0 is.1) m (ap out-Pattern is.4 ∙ out_join is.0 is.1) s in
    (j.0, j.1, (is.0, is.2, j.2), (is.1, is.3, j.3), j.4, j.5)
says triples query part (kind.Filter child condition) m is s =
    let f = opened triples part (open_pattern.Filter condition is.0) m (ap out-Pattern is.2 ∙ out_filter condition is.0) s in
    ((is.0, is.1, f.0), f.1)
says triples query part (kind.Union left right) m is s =
    elim (opened triples part (open_pattern.Union is.0 is.1) m (ap out-Pattern is.4 ∙ out_union is.0 is.1) s) [ inl one ↦ inl (is.0, is.2, one) | inr other ↦ inr (is.1, is.3, other) ]
says triples query part (kind.Project child) m is s = (part, is, s)
says triples query part (kind.Group child aggregate var) m is s = (part, is, s)

said : (triples : List Triple) (query : Query) (part : Pattern) (k : NodeKind) (m : Mapping) → IsForKind (patterns_of query) part k → Means triples query k m → IsSolution triples part m
said triples query part (kind.Pattern of) m is s = subst (λ (p : Pattern). IsSolution triples p m) (sym is) (solution.matched {triple = s.0} of s.1 s.2)
said triples query part (kind.Join left right) m is s =
    subst (λ (p : Pattern). IsSolution triples p m) (sym is.4)
    (solution.joined is.0 is.1 (solved_at triples query left is.0 s.0 is.2 s.2) (solved_at triples query right is.1 s.1 is.3 s.3) s.4 s.5)
said triples query part (kind.Filter child condition) m is s =
    subst (λ (p : Pattern). IsSolution triples p m) (sym is.2) (solution.filtered condition is.0 (solved_at triples query child is.0 m is.1 s.0) s.1)
said triples query part (kind.Union left right) m is s =
    subst (λ (p : Pattern). IsSolution triples p m) (sym is.4)
    (elim s [ inl one ↦ solution.of_left is.0 is.1 (solved_at triples query left is.0 m is.2 one) | inr other ↦ solution.of_right is.0 is.1 (solved_at triples query right is.1 m is.3 other) ])
said triples query part (kind.Project child) m is s = solved_at triples query child part m is s
said triples query part (kind.Group child aggregate var) m is s = solved_at triples query child part m is s

pub nodes_mean_parts : NodesMeanParts
nodes_mean_parts query tree triples number node mapping is at =
    let all = patterns_of query in
    let found = zip_at (IsFor all) all tree.nodes number node (tree_for query tree is) at in (
      λ solves. says triples query found.0 node.kind mapping found.2 (solved_at triples query number found.0 mapping found.1 solves),
      λ means. (found.0, found.1, said triples query found.0 node.kind mapping found.2 means),
    )
