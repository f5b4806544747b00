-- The head of a query.
use Rattle.std.proofs.Common.{◌≡◌, false, Bool, List, [], ap, subst, ◌∙◌}
use Rattle.pcj_grammar.specs.declared.lexeme.Lexeme.{Lexeme}
use Rattle.pcj_grammar.specs.Grammar.{name, many, Derives, is, by, one_after, left, right, without, with_it, again}
use Rattle.pcj_grammar.specs.Grammar as g
use Rattle.pcj_translate.specs.Adding.{behind_one}
use Rattle.pcj_sparql.specs.declared.head.Head.{Head}
use Rattle.pcj_sparql.specs.Clauses.{IsHeadOf}
use Rattle.pcj_sparql.specs.Heading.{front, is_distinct, begins_distinct, behind_distinct, behind_by, is_prefix, AddsDeclared, is_where, behind_where, where_form, is_item, begins_item, AddsItems}
use Rattle.pcj_sparql.proofs.HeadingRead.{distinct_read}

item_apart : {x y : List Lexeme} → Derives (name g.Item) x y → begins_distinct x ≡ false
item_apart (by (left (is q))) = ap is_distinct q
item_apart (by (right (one_after (is q) d))) = ap is_distinct q

where_read : {x y z : List Lexeme} → Derives where_form x y → Derives (name g.Group) y z → (behind_where x ≡ y) × (begins_item x ≡ false)
where_read without (by (one_after (is {l = l} {x = x} q) d)) = (ap (λ (v : Bool). behind_by v l x) (ap is_where q), ap is_item q)
where_read (with_it (is {l = l} {x = x} q)) group = (ap (λ (v : Bool). behind_by v l x) (ap is_where q), ap is_item q)

pub head_read : (x : List Lexeme) (rest : List Lexeme) (d : Derives (name g.Query) x []) (head : Head)
    → AddsDeclared x head.body.now [] head.declared
    → head.select ≡ front head.body.now
    → head.distinct ≡ begins_distinct (behind_one head.body.now)
    → AddsItems (behind_distinct (behind_one head.body.now)) rest [] head.items
    → head.group.now ≡ behind_where rest
    → IsHeadOf d head
head_read x rest (by (one_after {y = body} decls (one_after (is {l = l} {x = inside} p) (one_after dis (one_after (one_after i more) (one_after wh (one_after gr tail))))))) head declares selects distincts adds groups =
    let declared = declares body decls (ap is_prefix p) in
    let inside_is : behind_one head.body.now ≡ inside = ap behind_one declared.0 in
    let distinct = distinct_read dis (item_apart i) in
    let on = ap behind_distinct inside_is ∙ distinct.0 in
    let whole = where_read wh gr in
    let items = subst (λ (k : List Lexeme). AddsItems k rest [] head.items) on adds _ (again i more) whole.1 in
    (declared.1, declared.0, selects ∙ ap front declared.0, distincts ∙ ap begins_distinct inside_is ∙ distinct.1, items.1, groups ∙ ap behind_where items.0 ∙ whole.0)
