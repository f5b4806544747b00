-- One token outside of groups and items, as in Steps.
use Rattle.std.proofs.Common.{◌≡◌, List, [], ◌∷◌, Option, refl, sym, subst}
use Rattle.pcj_grammar.specs.declared.lexeme.Lexeme.{Lexeme}
use Rattle.pcj_grammar.specs.declared.terminal.Terminal.{Terminal}
use Rattle.pcj_grammar.specs.declared.terminal.Terminal.TheVariants as t
use Rattle.pcj_grammar.specs.declared.clause.Clause.{Clause}
use Rattle.pcj_grammar.specs.declared.clause.Clause.TheVariants as c
use Rattle.pcj_grammar.specs.declared.clause.ClauseMove.{ClauseMove}
use Rattle.pcj_grammar.specs.Grammar.{Derives, is, by, one_after, left, right, without, with_it, end, again}
use Rattle.pcj_grammar.specs.Reading.{items, after_where, keys, clause_form, from_prologue, from_select, from_first_item, from_items, from_after_where, from_keys, clause_next, ClauseFollows}

at_clause : (from : Terminal → Option ClauseMove) (l : Lexeme) (k : Terminal) (x y : List Lexeme) → l.terminal ≡ k → ClauseFollows (from k) x y → ClauseFollows (from l.terminal) x y
at_clause from l k x y e f = subst (λ (j : Terminal). ClauseFollows (from j) x y) (sym e) f

prologue_sound : (k : Terminal) (l : Lexeme) (x y : List Lexeme) → l.terminal ≡ k → ClauseFollows (from_prologue k) x y → Derives (clause_form c.Prologue) (l ∷ x) y
prologue_sound t.Prefix l x y e (z, d, one_after ps r) = one_after (again (one_after (is e) d) ps) r
prologue_sound t.Select l x y e (one_after dis (one_after i (one_after is_more r))) = one_after end (one_after (is e) (one_after dis (one_after (one_after i is_more) r)))
prologue_sound _ l x y e f = absurd f

prologue_complete : (l : Lexeme) (x y : List Lexeme) → Derives (clause_form c.Prologue) (l ∷ x) y → ClauseFollows (from_prologue l.terminal) x y
prologue_complete l x y (one_after (again (one_after (is e) d) ps) r) = at_clause from_prologue l t.Prefix x y e (_, d, one_after ps r)
prologue_complete l x y (one_after end (one_after (is e) (one_after dis (one_after (one_after i more) r)))) = at_clause from_prologue l t.Select x y e (one_after dis (one_after i (one_after more r)))

item_sound : (k : Terminal) (l : Lexeme) (x y : List Lexeme) → l.terminal ≡ k → ClauseFollows (from_first_item k) x y → Derives (clause_form c.FirstItem) (l ∷ x) y
item_sound t.Var l x y e f = one_after (by (left (is e))) f
item_sound t.OpenParen l x y e (z, d, r) = one_after (by (right (one_after (is e) d))) r
item_sound _ l x y e f = absurd f

item_complete : (l : Lexeme) (x y : List Lexeme) → Derives (clause_form c.FirstItem) (l ∷ x) y → ClauseFollows (from_first_item l.terminal) x y
item_complete l x y (one_after (by (left (is e))) r) = at_clause from_first_item l t.Var x y e r
item_complete l x y (one_after (by (right (one_after (is e) d))) r) = at_clause from_first_item l t.OpenParen x y e (_, d, r)

select_sound : (k : Terminal) (l : Lexeme) (x y : List Lexeme) → l.terminal ≡ k → ClauseFollows (from_select k) x y → Derives (clause_form c.AfterSelect) (l ∷ x) y
select_sound t.Distinct l x y e f = one_after (with_it (is e)) f
select_sound t.Var l x y e f = one_after without (item_sound t.Var l x y e f)
select_sound t.OpenParen l x y e f = one_after without (item_sound t.OpenParen l x y e f)
select_sound _ l x y e f = absurd f

item_in_select : (k : Terminal) (x y : List Lexeme) → ClauseFollows (from_first_item k) x y → ClauseFollows (from_select k) x y
item_in_select t.Var x y f = f
item_in_select t.OpenParen x y f = f
item_in_select _ x y f = absurd f

select_complete : (l : Lexeme) (x y : List Lexeme) → Derives (clause_form c.AfterSelect) (l ∷ x) y → ClauseFollows (from_select l.terminal) x y
select_complete l x y (one_after (with_it (is e)) r) = at_clause from_select l t.Distinct x y e r
select_complete l x y (one_after without r) = item_in_select l.terminal x y (item_complete l x y r)

more_items : (l : Lexeme) (x y : List Lexeme) → Derives (clause_form c.FirstItem) (l ∷ x) y → Derives items (l ∷ x) y
more_items l x y (one_after i (one_after more r)) = one_after (again i more) r

items_sound : (k : Terminal) (l : Lexeme) (x y : List Lexeme) → l.terminal ≡ k → ClauseFollows (from_items k) x y → Derives items (l ∷ x) y
items_sound t.Var l x y e f = more_items l x y (item_sound t.Var l x y e f)
items_sound t.OpenParen l x y e f = more_items l x y (item_sound t.OpenParen l x y e f)
items_sound t.Where l x y e (z, d, r) = one_after end (one_after (with_it (is e)) (one_after d r))
items_sound t.OpenBrace l x y e (z, one_after blk (one_after oth close), r) = one_after end (one_after without (one_after (by (one_after (is e) (one_after blk (one_after oth close)))) r))
items_sound _ l x y e f = absurd f

item_in_items : (k : Terminal) (x y : List Lexeme) → ClauseFollows (from_first_item k) x y → ClauseFollows (from_items k) x y
item_in_items t.Var x y f = f
item_in_items t.OpenParen x y f = f
item_in_items _ x y f = absurd f

items_complete : (l : Lexeme) (x y : List Lexeme) → Derives items (l ∷ x) y → ClauseFollows (from_items l.terminal) x y
items_complete l x y (one_after (again i more) r) = item_in_items l.terminal x y (item_complete l x y (one_after i (one_after more r)))
items_complete l x y (one_after end (one_after (with_it (is e)) (one_after d r))) = at_clause from_items l t.Where x y e (_, d, r)
items_complete l x y (one_after end (one_after without (one_after (by (one_after (is e) d)) r))) = at_clause from_items l t.OpenBrace x y e (_, d, r)

after_where_sound : (k : Terminal) (l : Lexeme) (x y : List Lexeme) → l.terminal ≡ k → ClauseFollows (from_after_where k) x y → Derives after_where (l ∷ x) y
after_where_sound t.Group l x y e (z, one_after b v, r) = with_it (one_after (is e) (one_after b (one_after v r)))
after_where_sound _ l x y e f = absurd f

after_where_complete : (l : Lexeme) (x y : List Lexeme) → y ≡ [] → Derives after_where (l ∷ x) y → ClauseFollows (from_after_where l.terminal) x y
after_where_complete l x y ended (with_it (one_after (is e) (one_after b (one_after v r)))) = at_clause from_after_where l t.Group x y e (_, one_after b v, r)
after_where_complete l x y ended without = absurd cc

keys_sound : (k : Terminal) (l : Lexeme) (x y : List Lexeme) → l.terminal ≡ k → ClauseFollows (from_keys k) x y → Derives keys (l ∷ x) y
keys_sound t.Var l x y e f = again (is e) f
keys_sound _ l x y e f = absurd f

keys_complete : (l : Lexeme) (x y : List Lexeme) → y ≡ [] → Derives keys (l ∷ x) y → ClauseFollows (from_keys l.terminal) x y
keys_complete l x y ended (again (is e) r) = at_clause from_keys l t.Var x y e r
keys_complete l x y ended end = absurd cc

pub clause_sound : (a : Clause) (l : Lexeme) (x y : List Lexeme) → ClauseFollows (clause_next a l.terminal) x y → Derives (clause_form a) (l ∷ x) y
clause_sound c.Prologue l x y f = prologue_sound l.terminal l x y refl f
clause_sound c.AfterSelect l x y f = select_sound l.terminal l x y refl f
clause_sound c.FirstItem l x y f = item_sound l.terminal l x y refl f
clause_sound c.Items l x y f = items_sound l.terminal l x y refl f
clause_sound c.AfterGroup l x y f = after_where_sound l.terminal l x y refl f
clause_sound c.Keys l x y f = keys_sound l.terminal l x y refl f

pub clause_complete : (a : Clause) (l : Lexeme) (x y : List Lexeme) → y ≡ [] → Derives (clause_form a) (l ∷ x) y → ClauseFollows (clause_next a l.terminal) x y
clause_complete c.Prologue l x y ended d = prologue_complete l x y d
clause_complete c.AfterSelect l x y ended d = select_complete l x y d
clause_complete c.FirstItem l x y ended d = item_complete l x y d
clause_complete c.Items l x y ended d = items_complete l x y d
clause_complete c.AfterGroup l x y ended d = after_where_complete l x y ended d
clause_complete c.Keys l x y ended d = keys_complete l x y ended d
