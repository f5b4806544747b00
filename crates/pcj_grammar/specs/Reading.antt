-- Reading token by token: what is still to come of the parts that have begun.
use Rattle.std.specs.Prelude.{◌≡◌, List, [], ◌∷◌, ◌++◌, Bool, true, false, ◌&&◌, Option, Some, None}
use Rattle.std.specs.Option.{option_map, option_and_then}
use Rattle.pcj_grammar.specs.declared.lexeme.Lexeme.{Lexeme}
use Rattle.pcj_grammar.specs.declared.terminal.Terminal.{Terminal}
use Rattle.pcj_grammar.specs.declared.terminal.Terminal.TheVariants as t
use Rattle.pcj_grammar.specs.declared.symbol.Symbol.{Symbol}
use Rattle.pcj_grammar.specs.declared.symbol.Symbol.TheVariants as s
use Rattle.pcj_grammar.specs.declared.symbol.Move.{Move}
use Rattle.pcj_grammar.specs.declared.symbol.Move.TheVariants as m
use Rattle.pcj_grammar.specs.declared.clause.Clause.{Clause}
use Rattle.pcj_grammar.specs.declared.clause.Clause.TheVariants as c
use Rattle.pcj_grammar.specs.declared.clause.ClauseMove.{ClauseMove}
use Rattle.pcj_grammar.specs.Grammar.{Name, Form, word, name, maybe, many, ◌▹◌, ◌or◌, Derives}
use Rattle.pcj_grammar.specs.Grammar as g

-- ---- forms

abbrev pub close_item : Form
close_item = word t.CloseParen

abbrev pub alias : Form
alias = word t.Var ▹ close_item

abbrev pub as_alias : Form
as_alias = word t.As ▹ alias

abbrev pub close_argument : Form
close_argument = word t.CloseParen ▹ as_alias

abbrev pub aggregated : Form
aggregated = (word t.Var or word t.Star) ▹ close_argument

abbrev pub argument : Form
argument = maybe (word t.Distinct) ▹ aggregated

abbrev pub open_argument : Form
open_argument = word t.OpenParen ▹ argument

abbrev pub others : Form
others = many (name g.Other ▹ maybe (word t.Dot) ▹ maybe (name g.Block)) ▹ word t.CloseBrace

abbrev pub body : Form
body = maybe (name g.Block) ▹ others

abbrev pub after_other : Form
after_other = maybe (word t.Dot) ▹ body

abbrev pub after_group : Form
after_group = many (word t.Union ▹ name g.Group) ▹ after_other

abbrev pub after_same : Form
after_same = maybe (word t.Dot ▹ maybe (name g.Block)) ▹ others

abbrev pub after_objects : Form
after_objects = many (word t.Semicolon ▹ maybe (name g.Verb ▹ name g.Objects)) ▹ after_same

abbrev pub after_object : Form
after_object = many (word t.Comma ▹ name g.Value) ▹ after_objects

abbrev pub object : Form
object = name g.Value ▹ after_object

abbrev pub verb : Form
verb = name g.Verb ▹ object

abbrev pub suffix : Form
suffix = word t.Tag or word t.Datatype ▹ name g.IriName

abbrev pub condition : Form
condition = name g.Expr ▹ word t.CloseParen

abbrev pub after_all : Form
after_all = many (word t.Or ▹ name g.All) ▹ word t.CloseParen

abbrev pub after_test : Form
after_test = many (word t.And ▹ name g.One) ▹ after_all

abbrev pub operand : Form
operand = name g.Value ▹ after_test

abbrev pub operator : Form
operator = name g.Op ▹ operand

abbrev pub form_of : Symbol → Form
form_of s.Namespace = word t.Namespace ▹ word t.Iri
form_of s.Iri = word t.Iri
form_of s.By = word t.By ▹ word t.Var
form_of s.Variable = word t.Var
form_of s.Function = name g.Func ▹ open_argument
form_of s.OpenArgument = open_argument
form_of s.Argument = argument
form_of s.Aggregated = aggregated
form_of s.CloseArgument = close_argument
form_of s.As = as_alias
form_of s.Alias = alias
form_of s.CloseItem = close_item
form_of s.Group = name g.Group
form_of s.UnionGroup = name g.Group ▹ after_group
form_of s.Body = body
form_of s.FilterOpen = word t.OpenParen ▹ condition ▹ after_other
form_of s.AfterOther = after_other
form_of s.AfterGroup = after_group
form_of s.Verb = verb
form_of s.Object = object
form_of s.AfterObject = after_object
form_of s.AfterSemicolon = maybe (name g.Verb ▹ name g.Objects) ▹ after_objects
form_of s.TextVerb = maybe suffix ▹ verb
form_of s.TextObject = maybe suffix ▹ after_object
form_of s.IriName = name g.IriName
form_of s.Condition = condition
form_of s.NotOpen = word t.OpenParen ▹ condition ▹ after_test
form_of s.AfterTest = after_test
form_of s.Operator = operator
form_of s.Operand = operand
form_of s.TextOperator = maybe suffix ▹ operator
form_of s.TextOperand = maybe suffix ▹ after_test

-- ---- moves

abbrev pub is_value : Terminal → Bool
is_value t.Var = true
is_value t.Iri = true
is_value t.Namespace = true
is_value t.Name = true
is_value t.Integer = true
is_value _ = false

abbrev pub from_others : Terminal → Option Move
from_others t.CloseBrace = Some m.Done
from_others t.Filter = Some (m.To s.FilterOpen)
from_others t.OpenBrace = Some (m.Into s.Body s.AfterGroup)
from_others _ = None

abbrev pub from_body : Terminal → Option Move
from_body t.Var = Some (m.To s.Verb)
from_body t.Iri = Some (m.To s.Verb)
from_body t.Namespace = Some (m.To s.Verb)
from_body t.Name = Some (m.To s.Verb)
from_body t.Integer = Some (m.To s.Verb)
from_body t.Text = Some (m.To s.TextVerb)
from_body t.CloseBrace = Some m.Done
from_body t.Filter = Some (m.To s.FilterOpen)
from_body t.OpenBrace = Some (m.Into s.Body s.AfterGroup)
from_body _ = None

abbrev pub from_after_other : Terminal → Option Move
from_after_other t.Dot = Some (m.To s.Body)
from_after_other t.Var = Some (m.To s.Verb)
from_after_other t.Iri = Some (m.To s.Verb)
from_after_other t.Namespace = Some (m.To s.Verb)
from_after_other t.Name = Some (m.To s.Verb)
from_after_other t.Integer = Some (m.To s.Verb)
from_after_other t.Text = Some (m.To s.TextVerb)
from_after_other t.CloseBrace = Some m.Done
from_after_other t.Filter = Some (m.To s.FilterOpen)
from_after_other t.OpenBrace = Some (m.Into s.Body s.AfterGroup)
from_after_other _ = None

abbrev pub from_after_group : Terminal → Option Move
from_after_group t.Union = Some (m.To s.UnionGroup)
from_after_group t.Dot = Some (m.To s.Body)
from_after_group t.Var = Some (m.To s.Verb)
from_after_group t.Iri = Some (m.To s.Verb)
from_after_group t.Namespace = Some (m.To s.Verb)
from_after_group t.Name = Some (m.To s.Verb)
from_after_group t.Integer = Some (m.To s.Verb)
from_after_group t.Text = Some (m.To s.TextVerb)
from_after_group t.CloseBrace = Some m.Done
from_after_group t.Filter = Some (m.To s.FilterOpen)
from_after_group t.OpenBrace = Some (m.Into s.Body s.AfterGroup)
from_after_group _ = None

abbrev pub from_verb : Terminal → Option Move
from_verb t.Var = Some (m.To s.Object)
from_verb t.Iri = Some (m.To s.Object)
from_verb t.Namespace = Some (m.To s.Object)
from_verb t.Name = Some (m.To s.Object)
from_verb t.A = Some (m.To s.Object)
from_verb _ = None

abbrev pub from_object : Terminal → Option Move
from_object t.Var = Some (m.To s.AfterObject)
from_object t.Iri = Some (m.To s.AfterObject)
from_object t.Namespace = Some (m.To s.AfterObject)
from_object t.Name = Some (m.To s.AfterObject)
from_object t.Integer = Some (m.To s.AfterObject)
from_object t.Text = Some (m.To s.TextObject)
from_object _ = None

abbrev pub from_after_object : Terminal → Option Move
from_after_object t.Comma = Some (m.To s.Object)
from_after_object t.Semicolon = Some (m.To s.AfterSemicolon)
from_after_object t.Dot = Some (m.To s.Body)
from_after_object t.CloseBrace = Some m.Done
from_after_object t.Filter = Some (m.To s.FilterOpen)
from_after_object t.OpenBrace = Some (m.Into s.Body s.AfterGroup)
from_after_object _ = None

abbrev pub from_after_semicolon : Terminal → Option Move
from_after_semicolon t.Var = Some (m.To s.Object)
from_after_semicolon t.Iri = Some (m.To s.Object)
from_after_semicolon t.Namespace = Some (m.To s.Object)
from_after_semicolon t.Name = Some (m.To s.Object)
from_after_semicolon t.A = Some (m.To s.Object)
from_after_semicolon t.Semicolon = Some (m.To s.AfterSemicolon)
from_after_semicolon t.Dot = Some (m.To s.Body)
from_after_semicolon t.CloseBrace = Some m.Done
from_after_semicolon t.Filter = Some (m.To s.FilterOpen)
from_after_semicolon t.OpenBrace = Some (m.Into s.Body s.AfterGroup)
from_after_semicolon _ = None

abbrev pub from_condition : Terminal → Option Move
from_condition t.Not = Some (m.To s.NotOpen)
from_condition t.OpenParen = Some (m.Into s.Condition s.AfterTest)
from_condition t.Var = Some (m.To s.Operator)
from_condition t.Iri = Some (m.To s.Operator)
from_condition t.Namespace = Some (m.To s.Operator)
from_condition t.Name = Some (m.To s.Operator)
from_condition t.Integer = Some (m.To s.Operator)
from_condition t.Text = Some (m.To s.TextOperator)
from_condition _ = None

abbrev pub from_after_test : Terminal → Option Move
from_after_test t.CloseParen = Some m.Done
from_after_test t.And = Some (m.To s.Condition)
from_after_test t.Or = Some (m.To s.Condition)
from_after_test _ = None

abbrev pub from_operator : Terminal → Option Move
from_operator t.Equal = Some (m.To s.Operand)
from_operator t.Unequal = Some (m.To s.Operand)
from_operator t.Less = Some (m.To s.Operand)
from_operator t.Greater = Some (m.To s.Operand)
from_operator t.AtMost = Some (m.To s.Operand)
from_operator t.AtLeast = Some (m.To s.Operand)
from_operator _ = None

abbrev pub from_operand : Terminal → Option Move
from_operand t.Var = Some (m.To s.AfterTest)
from_operand t.Iri = Some (m.To s.AfterTest)
from_operand t.Namespace = Some (m.To s.AfterTest)
from_operand t.Name = Some (m.To s.AfterTest)
from_operand t.Integer = Some (m.To s.AfterTest)
from_operand t.Text = Some (m.To s.TextOperand)
from_operand _ = None

-- after a string: its suffix, or what follows a value there
abbrev pub from_text : Symbol → Option Move → Terminal → Option Move
from_text symbol plain t.Tag = Some (m.To symbol)
from_text symbol plain t.Datatype = Some (m.Into s.IriName symbol)
from_text symbol plain _ = plain

abbrev pub from_iri_name : Terminal → Option Move
from_iri_name t.Iri = Some m.Done
from_iri_name t.Namespace = Some m.Done
from_iri_name t.Name = Some m.Done
from_iri_name _ = None

abbrev pub from_function : Terminal → Option Move
from_function t.Count = Some (m.To s.OpenArgument)
from_function t.Sum = Some (m.To s.OpenArgument)
from_function t.Min = Some (m.To s.OpenArgument)
from_function t.Max = Some (m.To s.OpenArgument)
from_function _ = None

abbrev pub from_argument : Terminal → Option Move
from_argument t.Distinct = Some (m.To s.Aggregated)
from_argument t.Var = Some (m.To s.CloseArgument)
from_argument t.Star = Some (m.To s.CloseArgument)
from_argument _ = None

abbrev pub from_aggregated : Terminal → Option Move
from_aggregated t.Var = Some (m.To s.CloseArgument)
from_aggregated t.Star = Some (m.To s.CloseArgument)
from_aggregated _ = None

-- where one kind of token alone may stand
abbrev pub from_namespace : Terminal → Option Move
from_namespace t.Namespace = Some (m.To s.Iri)
from_namespace _ = None

abbrev pub from_iri : Terminal → Option Move
from_iri t.Iri = Some m.Done
from_iri _ = None

abbrev pub from_by : Terminal → Option Move
from_by t.By = Some (m.To s.Variable)
from_by _ = None

abbrev pub from_as : Terminal → Option Move
from_as t.As = Some (m.To s.Alias)
from_as _ = None

abbrev pub from_var : Move → Terminal → Option Move
from_var move t.Var = Some move
from_var move _ = None

abbrev pub from_open : Move → Terminal → Option Move
from_open move t.OpenParen = Some move
from_open move _ = None

abbrev pub from_close : Move → Terminal → Option Move
from_close move t.CloseParen = Some move
from_close move _ = None

abbrev pub from_brace : Move → Terminal → Option Move
from_brace move t.OpenBrace = Some move
from_brace move _ = None

-- what is still to come after one more token, or none where it may not stand there
abbrev pub next_of : Symbol → Terminal → Option Move
next_of s.Namespace k = from_namespace k
next_of s.Iri k = from_iri k
next_of s.By k = from_by k
next_of s.Variable k = from_var m.Done k
next_of s.Function k = from_function k
next_of s.OpenArgument k = from_open (m.To s.Argument) k
next_of s.Argument k = from_argument k
next_of s.Aggregated k = from_aggregated k
next_of s.CloseArgument k = from_close (m.To s.As) k
next_of s.As k = from_as k
next_of s.Alias k = from_var (m.To s.CloseItem) k
next_of s.CloseItem k = from_close m.Done k
next_of s.Group k = from_brace (m.To s.Body) k
next_of s.UnionGroup k = from_brace (m.Into s.Body s.AfterGroup) k
next_of s.Body k = from_body k
next_of s.FilterOpen k = from_open (m.Into s.Condition s.AfterOther) k
next_of s.AfterOther k = from_after_other k
next_of s.AfterGroup k = from_after_group k
next_of s.Verb k = from_verb k
next_of s.Object k = from_object k
next_of s.AfterObject k = from_after_object k
next_of s.AfterSemicolon k = from_after_semicolon k
next_of s.TextVerb k = from_text s.Verb (from_verb k) k
next_of s.TextObject k = from_text s.AfterObject (from_after_object k) k
next_of s.IriName k = from_iri_name k
next_of s.Condition k = from_condition k
next_of s.NotOpen k = from_open (m.Into s.Condition s.AfterTest) k
next_of s.AfterTest k = from_after_test k
next_of s.Operator k = from_operator k
next_of s.Operand k = from_operand k
next_of s.TextOperator k = from_text s.Operator (from_operator k) k
next_of s.TextOperand k = from_text s.AfterTest (from_after_test k) k

-- what a move leaves, read whole
abbrev pub Follows : Option Move → List Lexeme → List Lexeme → Type 0
Follows None x y = ⊥
Follows (Some m.Done) x y = x ≡ y
Follows (Some (m.To a)) x y = Derives (form_of a) x y
Follows (Some (m.Into a b)) x y = (z : List Lexeme) × Derives (form_of a) x z × Derives (form_of b) z y

-- ---- clauses

abbrev pub keys : Form
keys = many (word t.Var)

abbrev pub after_where : Form
after_where = maybe (word t.Group ▹ word t.By ▹ word t.Var ▹ keys)

abbrev pub pattern : Form
pattern = maybe (word t.Where) ▹ name g.Group ▹ after_where

abbrev pub items : Form
items = many (name g.Item) ▹ pattern

abbrev pub clause_form : Clause → Form
clause_form c.Prologue = g.production g.Query
clause_form c.AfterSelect = maybe (word t.Distinct) ▹ name g.Item ▹ items
clause_form c.FirstItem = name g.Item ▹ items
clause_form c.Items = items
clause_form c.AfterGroup = after_where
clause_form c.Keys = keys

abbrev pub from_prologue : Terminal → Option ClauseMove
from_prologue t.Prefix = Some (record { inner = Some s.Namespace; clause = c.Prologue })
from_prologue t.Select = Some (record { inner = None; clause = c.AfterSelect })
from_prologue _ = None

abbrev pub from_select : Terminal → Option ClauseMove
from_select t.Distinct = Some (record { inner = None; clause = c.FirstItem })
from_select t.Var = Some (record { inner = None; clause = c.Items })
from_select t.OpenParen = Some (record { inner = Some s.Function; clause = c.Items })
from_select _ = None

abbrev pub from_first_item : Terminal → Option ClauseMove
from_first_item t.Var = Some (record { inner = None; clause = c.Items })
from_first_item t.OpenParen = Some (record { inner = Some s.Function; clause = c.Items })
from_first_item _ = None

abbrev pub from_items : Terminal → Option ClauseMove
from_items t.Var = Some (record { inner = None; clause = c.Items })
from_items t.OpenParen = Some (record { inner = Some s.Function; clause = c.Items })
from_items t.Where = Some (record { inner = Some s.Group; clause = c.AfterGroup })
from_items t.OpenBrace = Some (record { inner = Some s.Body; clause = c.AfterGroup })
from_items _ = None

abbrev pub from_after_where : Terminal → Option ClauseMove
from_after_where t.Group = Some (record { inner = Some s.By; clause = c.Keys })
from_after_where _ = None

abbrev pub from_keys : Terminal → Option ClauseMove
from_keys t.Var = Some (record { inner = None; clause = c.Keys })
from_keys _ = None

abbrev pub clause_next : Clause → Terminal → Option ClauseMove
clause_next c.Prologue k = from_prologue k
clause_next c.AfterSelect k = from_select k
clause_next c.FirstItem k = from_first_item k
clause_next c.Items k = from_items k
clause_next c.AfterGroup k = from_after_where k
clause_next c.Keys k = from_keys k

-- whether nothing need follow
abbrev pub may_end : Clause → Bool
may_end c.Prologue = false
may_end c.AfterSelect = false
may_end c.FirstItem = false
may_end c.Items = false
may_end c.AfterGroup = true
may_end c.Keys = true

abbrev pub InnerFollows : Option Symbol → Clause → List Lexeme → List Lexeme → Type 0
InnerFollows None clause x y = Derives (clause_form clause) x y
InnerFollows (Some a) clause x y = (z : List Lexeme) × Derives (form_of a) x z × Derives (clause_form clause) z y

abbrev pub ClauseFollows : Option ClauseMove → List Lexeme → List Lexeme → Type 0
ClauseFollows None x y = ⊥
ClauseFollows (Some move) x y = InnerFollows move.inner move.clause x y

-- ---- all that is still to come

-- the parts that have begun, the inmost first, and what is to come outside them
pub record Expected : Type 0 where
  pub parts : List Symbol
  pub clause : Clause

abbrev pub symbols_of : Move → List Symbol
symbols_of m.Done = []
symbols_of (m.To a) = a ∷ []
symbols_of (m.Into a b) = a ∷ b ∷ []

abbrev pub inner_of : Option Symbol → List Symbol
inner_of None = []
inner_of (Some a) = a ∷ []

abbrev pub advanced : List Symbol → Clause → Terminal → Option Expected
advanced [] clause k = option_map (λ move. record { parts = inner_of move.inner; clause = move.clause }) (clause_next clause k)
advanced (a ∷ parts) clause k = option_map (λ move. record { parts = symbols_of move ++ parts; clause = clause }) (next_of a k)

abbrev pub advance : Expected → Terminal → Option Expected
advance e k = advanced e.parts e.clause k

-- what is to come after these tokens, or none where one of them may not stand there
unfoldable pub run : Expected → List Lexeme → Option Expected
run e [] = Some e
run e (l ∷ ls) = option_and_then (λ next. run next ls) (advance e l.terminal)

abbrev pub start : Expected
start = record { parts = []; clause = c.Prologue }

abbrev pub is_empty : List Symbol → Bool
is_empty [] = true
is_empty (a ∷ parts) = false

abbrev pub is_whole : Expected → Bool
is_whole e = is_empty e.parts && may_end e.clause
