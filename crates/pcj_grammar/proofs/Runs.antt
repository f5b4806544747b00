-- Runs over tokens: what is read is a derivation, every derivation is read, and what is still to come can be brought to an end.
use Rattle.std.proofs.Common.{◌≡◌, ◌&&◌, ◌||◌, Bool, true, false, List, [], ◌∷◌, ◌++◌, Option, Some, None, refl, ap, sym, subst, ◌∙◌}
use Rattle.std.specs.Option.{option_map, option_and_then}
use Rattle.std.proofs.lemmas.Bool.{both_ways, and_from, or_left, or_right, false≢true}
use Rattle.std.proofs.lemmas.Option.{same_Some}
use Rattle.pcj_grammar.specs.declared.lexeme.Lexeme.{Lexeme}
use Rattle.pcj_grammar.specs.declared.terminal.Terminal.{Terminal}
use Rattle.pcj_grammar.specs.declared.terminal.Terminal.TheVariants as t
use Rattle.pcj_grammar.specs.declared.symbol.Symbol.{Symbol}
use Rattle.pcj_grammar.specs.declared.symbol.Symbol.TheVariants as s
use Rattle.pcj_grammar.specs.declared.symbol.Move.{Move}
use Rattle.pcj_grammar.specs.declared.symbol.Move.TheVariants as m
use Rattle.pcj_grammar.specs.declared.clause.Clause.{Clause}
use Rattle.pcj_grammar.specs.declared.clause.Clause.TheVariants as c
use Rattle.pcj_grammar.specs.declared.clause.ClauseMove.{ClauseMove}
use Rattle.pcj_grammar.specs.Grammar.{Name, Form, word, name, both, either, maybe, many, production, Derives, is, by, one_after, left, right, without, with_it, end, again}
use Rattle.pcj_grammar.specs.Grammar as g
use Rattle.pcj_grammar.specs.Reading.{form_of, clause_form, next_of, clause_next, may_end, Follows, InnerFollows, ClauseFollows, Expected, symbols_of, inner_of, advanced, advance, run, is_empty, is_whole}
use Rattle.pcj_grammar.proofs.Steps.{step_sound, step_complete}
use Rattle.pcj_grammar.proofs.Clauses.{clause_sound, clause_complete}

-- these tokens, all of them, are what is still to come
abbrev pub Completes : List Symbol → Clause → List Lexeme → Type 0
Completes [] clause x = Derives (clause_form clause) x []
Completes (a ∷ parts) clause x = (y : List Lexeme) × Derives (form_of a) x y × Completes parts clause y

abbrev pub IsCompletedBy : Expected → List Lexeme → Type 0
IsCompletedBy e x = Completes e.parts e.clause x

-- ---- one token

abbrev after_move : List Symbol → Clause → Move → Expected
after_move parts clause move = record { parts = symbols_of move ++ parts; clause = clause }

abbrev after_clause : ClauseMove → Expected
after_clause move = record { parts = inner_of move.inner; clause = move.clause }

move_sound : (a : Symbol) (parts : List Symbol) (clause : Clause) (l : Lexeme) (x : List Lexeme) (move : Move) → next_of a l.terminal ≡ Some move → IsCompletedBy (after_move parts clause move) x → Completes (a ∷ parts) clause (l ∷ x)
move_sound a parts clause l x m.Done e done = (x, step_sound a l x x (subst (λ (o : Option Move). Follows o x x) (sym e) refl), done)
move_sound a parts clause l x (m.To b) e (y, d, rest) = (y, step_sound a l x y (subst (λ (o : Option Move). Follows o x y) (sym e) d), rest)
move_sound a parts clause l x (m.Into b d) e (y, p, (z, q, rest)) = (z, step_sound a l x z (subst (λ (o : Option Move). Follows o x z) (sym e) (y, p, q)), rest)

inner_sound : (clause : Clause) (l : Lexeme) (x : List Lexeme) (move : ClauseMove) (inner : Option Symbol) → move.inner ≡ inner → clause_next clause l.terminal ≡ Some move → Completes (inner_of inner) move.clause x → Derives (clause_form clause) (l ∷ x) []
inner_sound clause l x move None i e d =
    clause_sound clause l x [] (subst (λ (o : Option ClauseMove). ClauseFollows o x []) (sym e) (subst (λ (o : Option Symbol). InnerFollows o move.clause x []) (sym i) d))
inner_sound clause l x move (Some a) i e (y, p, d) =
    clause_sound clause l x [] (subst (λ (o : Option ClauseMove). ClauseFollows o x []) (sym e) (subst (λ (o : Option Symbol). InnerFollows o move.clause x []) (sym i) (y, p, d)))

by_move : (a : Symbol) (parts : List Symbol) (clause : Clause) (l : Lexeme) (x : List Lexeme) (o : Option Move) (f : Expected) → next_of a l.terminal ≡ o → option_map (after_move parts clause) o ≡ Some f → IsCompletedBy f x → Completes (a ∷ parts) clause (l ∷ x)
by_move a parts clause l x None f e same done = absurd cc
by_move a parts clause l x (Some move) f e same done =
    move_sound a parts clause l x move e (subst (λ (h : Expected). IsCompletedBy h x) (sym (same_Some (after_move parts clause move) f same)) done)

by_clause : (clause : Clause) (l : Lexeme) (x : List Lexeme) (o : Option ClauseMove) (f : Expected) → clause_next clause l.terminal ≡ o → option_map after_clause o ≡ Some f → IsCompletedBy f x → Completes [] clause (l ∷ x)
by_clause clause l x None f e same done = absurd cc
by_clause clause l x (Some move) f e same done =
    inner_sound clause l x move move.inner refl e (subst (λ (h : Expected). IsCompletedBy h x) (sym (same_Some (after_clause move) f same)) done)

advance_sound : (parts : List Symbol) (clause : Clause) (l : Lexeme) (x : List Lexeme) (f : Expected) → advanced parts clause l.terminal ≡ Some f → IsCompletedBy f x → Completes parts clause (l ∷ x)
advance_sound [] clause l x f e done = by_clause clause l x (clause_next clause l.terminal) f refl e done
advance_sound (a ∷ parts) clause l x f e done = by_move a parts clause l x (next_of a l.terminal) f refl e done

-- a step that is made
abbrev Advances : List Symbol → Clause → Lexeme → List Lexeme → Type 0
Advances parts clause l x = (f : Expected) × (advanced parts clause l.terminal ≡ Some f) × IsCompletedBy f x

follow_move : (a : Symbol) (parts : List Symbol) (clause : Clause) (l : Lexeme) (x y : List Lexeme) (o : Option Move) → next_of a l.terminal ≡ o → Follows o x y → Completes parts clause y → Advances (a ∷ parts) clause l x
follow_move a parts clause l x y None e f rest = absurd f
follow_move a parts clause l x y (Some m.Done) e f rest = (after_move parts clause m.Done, ap (option_map (after_move parts clause)) e, subst (λ (z : List Lexeme). Completes parts clause z) (sym f) rest)
follow_move a parts clause l x y (Some (m.To b)) e f rest = (after_move parts clause (m.To b), ap (option_map (after_move parts clause)) e, (y, f, rest))
follow_move a parts clause l x y (Some (m.Into b d)) e (z, p, q) rest = (after_move parts clause (m.Into b d), ap (option_map (after_move parts clause)) e, (z, p, (y, q, rest)))

follow_inner : (move : ClauseMove) (x : List Lexeme) (inner : Option Symbol) → InnerFollows inner move.clause x [] → Completes (inner_of inner) move.clause x
follow_inner move x None f = f
follow_inner move x (Some a) f = f

follow_clause : (clause : Clause) (l : Lexeme) (x : List Lexeme) (o : Option ClauseMove) → clause_next clause l.terminal ≡ o → ClauseFollows o x [] → Advances [] clause l x
follow_clause clause l x None e f = absurd f
follow_clause clause l x (Some move) e f = (after_clause move, ap (option_map after_clause) e, follow_inner move x move.inner f)

advance_complete : (parts : List Symbol) (clause : Clause) (l : Lexeme) (x : List Lexeme) → Completes parts clause (l ∷ x) → Advances parts clause l x
advance_complete [] clause l x d = follow_clause clause l x (clause_next clause l.terminal) refl (clause_complete clause l x [] refl d)
advance_complete (a ∷ parts) clause l x (y, d, rest) = follow_move a parts clause l x y (next_of a l.terminal) refl (step_complete a l x y d) rest

-- ---- many tokens

run_by : (o : Option Expected) (e f : Expected) (l : Lexeme) (ls more : List Lexeme) → advance e l.terminal ≡ o → option_and_then (λ next. run next ls) o ≡ Some f → ((next : Expected) → run next ls ≡ Some f → IsCompletedBy next (ls ++ more)) → IsCompletedBy e (l ∷ ls ++ more)
run_by None e f l ls more step same later = absurd cc
run_by (Some next) e f l ls more step same later = advance_sound e.parts e.clause l (ls ++ more) next step (later next same)

pub run_sound : (ls : List Lexeme) (e f : Expected) (more : List Lexeme) → run e ls ≡ Some f → IsCompletedBy f more → IsCompletedBy e (ls ++ more)
unfolding run
run_sound [] e f more same done = subst (λ (h : Expected). IsCompletedBy h more) (sym (same_Some e f same)) done
run_sound (l ∷ ls) e f more same done = run_by (advance e l.terminal) e f l ls more refl same (λ next step. run_sound ls next f more step done)

abbrev pub Reaches : Expected → List Lexeme → List Lexeme → Type 0
Reaches e ls more = (f : Expected) × (run e ls ≡ Some f) × IsCompletedBy f more

run_on : (e : Expected) (l : Lexeme) (ls more : List Lexeme) (step : Advances e.parts e.clause l (ls ++ more)) → Reaches step.0 ls more → Reaches e (l ∷ ls) more
unfolding run
run_on e l ls more step later = (later.0, ap (option_and_then (λ next. run next ls)) step.1 ∙ later.1, later.2)

pub run_complete : (ls : List Lexeme) (e : Expected) (more : List Lexeme) → IsCompletedBy e (ls ++ more) → Reaches e ls more
unfolding run
run_complete [] e more done = (e, refl, done)
run_complete (l ∷ ls) e more done =
    let step = advance_complete e.parts e.clause l (ls ++ more) done in
    run_on e l ls more step (run_complete ls step.0 more step.2)

-- ---- the end

-- whether a form may have no token
abbrev pub nullable : Form → Bool
nullable (word k) = false
nullable (name n) = false
nullable (both f h) = nullable f && nullable h
nullable (either f h) = nullable f || nullable h
nullable (maybe f) = true
nullable (many f) = true

pub no_production_empty : (n : Name) → nullable (production n) ≡ false
no_production_empty g.Query = refl
no_production_empty g.Item = refl
no_production_empty g.Func = refl
no_production_empty g.Group = refl
no_production_empty g.Other = refl
no_production_empty g.Block = refl
no_production_empty g.Same = refl
no_production_empty g.Verb = refl
no_production_empty g.Objects = refl
no_production_empty g.Value = refl
no_production_empty g.IriName = refl
no_production_empty g.Literal = refl
no_production_empty g.Expr = refl
no_production_empty g.All = refl
no_production_empty g.One = refl
no_production_empty g.Op = refl

abbrev IsNothing : Form → List Lexeme → Type 0
IsNothing f y = (nullable f ≡ true) × (y ≡ [])

from_nothing : (f : Form) (x y : List Lexeme) → Derives f x y → x ≡ [] → IsNothing f y
from_nothing f x y (is e) none = absurd cc
from_nothing f x y (by {n = n} d) none = let more = from_nothing (production n) x y d none in let no = no_production_empty n in absurd (both_ways _ no more.0)
from_nothing f x y (one_after {f = h} {g = k} {y = v} d r) none =
    let first = from_nothing h x v d none in
    let next = from_nothing k v y r first.1 in
    (and_from _ _ first.0 next.0, next.1)
from_nothing f x y (left {f = h} d) none = let more = from_nothing h x y d none in (or_left _ _ more.0, more.1)
from_nothing f x y (right {g = k} d) none = let more = from_nothing k x y d none in (or_right _ _ more.0, more.1)
from_nothing f x y without none = (refl, none)
from_nothing f x y (with_it {f = h} d) none = (refl, (from_nothing h x y d none).1)
from_nothing f x y end none = (refl, none)
from_nothing f x y (again {f = h} {y = v} d r) none = (refl, (from_nothing (many h) v y r (from_nothing h x v d none).1).1)

no_part_empty : (a : Symbol) → nullable (form_of a) ≡ false
no_part_empty s.Namespace = refl
no_part_empty s.Iri = refl
no_part_empty s.By = refl
no_part_empty s.Variable = refl
no_part_empty s.Function = refl
no_part_empty s.OpenArgument = refl
no_part_empty s.Argument = refl
no_part_empty s.Aggregated = refl
no_part_empty s.CloseArgument = refl
no_part_empty s.As = refl
no_part_empty s.Alias = refl
no_part_empty s.CloseItem = refl
no_part_empty s.Group = refl
no_part_empty s.UnionGroup = refl
no_part_empty s.Body = refl
no_part_empty s.FilterOpen = refl
no_part_empty s.AfterOther = refl
no_part_empty s.AfterGroup = refl
no_part_empty s.Verb = refl
no_part_empty s.Object = refl
no_part_empty s.AfterObject = refl
no_part_empty s.AfterSemicolon = refl
no_part_empty s.TextVerb = refl
no_part_empty s.TextObject = refl
no_part_empty s.IriName = refl
no_part_empty s.Condition = refl
no_part_empty s.NotOpen = refl
no_part_empty s.AfterTest = refl
no_part_empty s.Operator = refl
no_part_empty s.Operand = refl
no_part_empty s.TextOperator = refl
no_part_empty s.TextOperand = refl

clause_ends : (clause : Clause) → Derives (clause_form clause) [] [] → may_end clause ≡ true
clause_ends c.Prologue d = absurd (false≢true (from_nothing (clause_form c.Prologue) [] [] d refl).0)
clause_ends c.AfterSelect d = absurd (false≢true (from_nothing (clause_form c.AfterSelect) [] [] d refl).0)
clause_ends c.FirstItem d = absurd (false≢true (from_nothing (clause_form c.FirstItem) [] [] d refl).0)
clause_ends c.Items d = absurd (false≢true (from_nothing (clause_form c.Items) [] [] d refl).0)
clause_ends c.AfterGroup d = refl
clause_ends c.Keys d = refl

ends_clause : (clause : Clause) → may_end clause ≡ true → Derives (clause_form clause) [] []
ends_clause c.Prologue e = absurd cc
ends_clause c.AfterSelect e = absurd cc
ends_clause c.FirstItem e = absurd cc
ends_clause c.Items e = absurd cc
ends_clause c.AfterGroup e = without
ends_clause c.Keys e = end

whole_by : (parts : List Symbol) (clause : Clause) → Completes parts clause [] → is_empty parts && may_end clause ≡ true
whole_by [] clause d = clause_ends clause d
whole_by (a ∷ parts) clause (y, d, rest) = absurd (both_ways _ (no_part_empty a) (from_nothing (form_of a) [] y d refl).0)

pub is_ended : (e : Expected) → IsCompletedBy e [] → is_whole e ≡ true
is_ended e d = whole_by e.parts e.clause d

by_whole : (parts : List Symbol) (clause : Clause) → is_empty parts && may_end clause ≡ true → Completes parts clause []
by_whole [] clause e = ends_clause clause e
by_whole (a ∷ parts) clause e = absurd cc

pub ended : (e : Expected) → is_whole e ≡ true → IsCompletedBy e []
ended e w = by_whole e.parts e.clause w

-- ---- everything that has begun can be brought to an end

abbrev tokens : List Terminal → List Lexeme
tokens [] = []
tokens (k ∷ ks) = record { terminal = k; at = 0; end = 0 } ∷ tokens ks

abbrev finish : Symbol → List Terminal
finish s.Namespace = t.Namespace ∷ t.Iri ∷ []
finish s.Iri = t.Iri ∷ []
finish s.By = t.By ∷ t.Var ∷ []
finish s.Variable = t.Var ∷ []
finish s.Function = t.Count ∷ t.OpenParen ∷ t.Var ∷ t.CloseParen ∷ t.As ∷ t.Var ∷ t.CloseParen ∷ []
finish s.OpenArgument = t.OpenParen ∷ t.Var ∷ t.CloseParen ∷ t.As ∷ t.Var ∷ t.CloseParen ∷ []
finish s.Argument = t.Var ∷ t.CloseParen ∷ t.As ∷ t.Var ∷ t.CloseParen ∷ []
finish s.Aggregated = t.Var ∷ t.CloseParen ∷ t.As ∷ t.Var ∷ t.CloseParen ∷ []
finish s.CloseArgument = t.CloseParen ∷ t.As ∷ t.Var ∷ t.CloseParen ∷ []
finish s.As = t.As ∷ t.Var ∷ t.CloseParen ∷ []
finish s.Alias = t.Var ∷ t.CloseParen ∷ []
finish s.CloseItem = t.CloseParen ∷ []
finish s.Group = t.OpenBrace ∷ t.CloseBrace ∷ []
finish s.UnionGroup = t.OpenBrace ∷ t.CloseBrace ∷ t.CloseBrace ∷ []
finish s.Body = t.CloseBrace ∷ []
finish s.FilterOpen = t.OpenParen ∷ t.Var ∷ t.Equal ∷ t.Var ∷ t.CloseParen ∷ t.CloseBrace ∷ []
finish s.AfterOther = t.CloseBrace ∷ []
finish s.AfterGroup = t.CloseBrace ∷ []
finish s.Verb = t.Var ∷ t.Var ∷ t.CloseBrace ∷ []
finish s.Object = t.Var ∷ t.CloseBrace ∷ []
finish s.AfterObject = t.CloseBrace ∷ []
finish s.AfterSemicolon = t.CloseBrace ∷ []
finish s.TextVerb = t.Var ∷ t.Var ∷ t.CloseBrace ∷ []
finish s.TextObject = t.CloseBrace ∷ []
finish s.IriName = t.Iri ∷ []
finish s.Condition = t.Var ∷ t.Equal ∷ t.Var ∷ t.CloseParen ∷ []
finish s.NotOpen = t.OpenParen ∷ t.Var ∷ t.Equal ∷ t.Var ∷ t.CloseParen ∷ t.CloseParen ∷ []
finish s.AfterTest = t.CloseParen ∷ []
finish s.Operator = t.Equal ∷ t.Var ∷ t.CloseParen ∷ []
finish s.Operand = t.Var ∷ t.CloseParen ∷ []
finish s.TextOperator = t.Equal ∷ t.Var ∷ t.CloseParen ∷ []
finish s.TextOperand = t.CloseParen ∷ []

abbrev finish_clause : Clause → List Terminal
finish_clause c.Prologue = t.Select ∷ t.Var ∷ t.OpenBrace ∷ t.CloseBrace ∷ []
finish_clause c.AfterSelect = t.Var ∷ t.OpenBrace ∷ t.CloseBrace ∷ []
finish_clause c.FirstItem = t.Var ∷ t.OpenBrace ∷ t.CloseBrace ∷ []
finish_clause c.Items = t.OpenBrace ∷ t.CloseBrace ∷ []
finish_clause c.AfterGroup = []
finish_clause c.Keys = []

finishes : (a : Symbol) (parts : List Symbol) (clause : Clause) → run (record { parts = a ∷ parts; clause = clause }) (tokens (finish a)) ≡ Some (record { parts = parts; clause = clause })
unfolding run
finishes s.Namespace parts clause = refl
finishes s.Iri parts clause = refl
finishes s.By parts clause = refl
finishes s.Variable parts clause = refl
finishes s.Function parts clause = refl
finishes s.OpenArgument parts clause = refl
finishes s.Argument parts clause = refl
finishes s.Aggregated parts clause = refl
finishes s.CloseArgument parts clause = refl
finishes s.As parts clause = refl
finishes s.Alias parts clause = refl
finishes s.CloseItem parts clause = refl
finishes s.Group parts clause = refl
finishes s.UnionGroup parts clause = refl
finishes s.Body parts clause = refl
finishes s.FilterOpen parts clause = refl
finishes s.AfterOther parts clause = refl
finishes s.AfterGroup parts clause = refl
finishes s.Verb parts clause = refl
finishes s.Object parts clause = refl
finishes s.AfterObject parts clause = refl
finishes s.AfterSemicolon parts clause = refl
finishes s.TextVerb parts clause = refl
finishes s.TextObject parts clause = refl
finishes s.IriName parts clause = refl
finishes s.Condition parts clause = refl
finishes s.NotOpen parts clause = refl
finishes s.AfterTest parts clause = refl
finishes s.Operator parts clause = refl
finishes s.Operand parts clause = refl
finishes s.TextOperator parts clause = refl
finishes s.TextOperand parts clause = refl

finishes_clause : (clause : Clause) → (e : Expected) × (run (record { parts = []; clause = clause }) (tokens (finish_clause clause)) ≡ Some e) × IsCompletedBy e []
unfolding run
finishes_clause c.Prologue = (record { parts = []; clause = c.AfterGroup }, refl, without)
finishes_clause c.AfterSelect = (record { parts = []; clause = c.AfterGroup }, refl, without)
finishes_clause c.FirstItem = (record { parts = []; clause = c.AfterGroup }, refl, without)
finishes_clause c.Items = (record { parts = []; clause = c.AfterGroup }, refl, without)
finishes_clause c.AfterGroup = (record { parts = []; clause = c.AfterGroup }, refl, without)
finishes_clause c.Keys = (record { parts = []; clause = c.Keys }, refl, end)

completed : (parts : List Symbol) (clause : Clause) → (more : List Lexeme) × Completes parts clause more
completed [] clause =
    let last = finishes_clause clause in
    (tokens (finish_clause clause) ++ [], run_sound (tokens (finish_clause clause)) (record { parts = []; clause = clause }) last.0 [] last.1 last.2)
completed (a ∷ parts) clause =
    let rest = completed parts clause in
    (tokens (finish a) ++ rest.0, run_sound (tokens (finish a)) (record { parts = a ∷ parts; clause = clause }) (record { parts = parts; clause = clause }) rest.0 (finishes a parts clause) rest.1)

pub completion : (e : Expected) → (more : List Lexeme) × IsCompletedBy e more
completion e = completed e.parts e.clause
