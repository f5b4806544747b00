-- The grammar of the profile (SPARQL 1.1 Query, section 19.8, in part): a row for each production, and what a derivation is.
use Rattle.std.specs.Prelude.{◌≡◌, List, [], ◌∷◌}
use Rattle.pcj_grammar.specs.declared.lexeme.Lexeme.{Lexeme}
use Rattle.pcj_grammar.specs.declared.terminal.Terminal.{Terminal}
use Rattle.pcj_grammar.specs.declared.terminal.Terminal.TheVariants as t

-- the names of the productions
pub data Name : Type 0 where
  Query : Name
  Item : Name
  Func : Name
  Group : Name
  Other : Name
  Block : Name
  Same : Name
  Verb : Name
  Objects : Name
  Value : Name
  IriName : Name
  Literal : Name
  Expr : Name
  All : Name
  One : Name
  Op : Name

-- the right side of a production
pub data Form : Type 0 where
  word : Terminal → Form
  name : Name → Form
  both : Form → Form → Form
  either : Form → Form → Form
  maybe : Form → Form
  many : Form → Form

-- one after the other; one of the two; once or more often
infixr 8 ◌▹◌
abbrev pub ◌▹◌ : Form → Form → Form
f ▹ g = both f g

infixr 6 ◌or◌
abbrev pub ◌or◌ : Form → Form → Form
f or g = either f g

abbrev pub some : Form → Form
some f = f ▹ many f

abbrev pub production : Name → Form
production Query =
    many (word t.Prefix ▹ word t.Namespace ▹ word t.Iri) ▹ word t.Select ▹ maybe (word t.Distinct) ▹ some (name Item) ▹ maybe (word t.Where) ▹ name Group
    ▹ maybe (word t.Group ▹ word t.By ▹ some (word t.Var))
production Item =
    word t.Var
    or word t.OpenParen ▹ name Func ▹ word t.OpenParen ▹ maybe (word t.Distinct) ▹ (word t.Var or word t.Star) ▹ word t.CloseParen ▹ word t.As ▹ word t.Var ▹ word t.CloseParen
production Func = word t.Count or word t.Sum or word t.Min or word t.Max
production Group = word t.OpenBrace ▹ maybe (name Block) ▹ many (name Other ▹ maybe (word t.Dot) ▹ maybe (name Block)) ▹ word t.CloseBrace
production Other = word t.Filter ▹ word t.OpenParen ▹ name Expr ▹ word t.CloseParen or name Group ▹ many (word t.Union ▹ name Group)
production Block = name Same ▹ maybe (word t.Dot ▹ maybe (name Block))
production Same = name Value ▹ name Verb ▹ name Objects ▹ many (word t.Semicolon ▹ maybe (name Verb ▹ name Objects))
production Verb = word t.Var or name IriName or word t.A
production Objects = name Value ▹ many (word t.Comma ▹ name Value)
production Value = word t.Var or name IriName or name Literal
production IriName = word t.Iri or word t.Namespace or word t.Name
production Literal = word t.Integer or word t.Text ▹ maybe (word t.Tag or word t.Datatype ▹ name IriName)
production Expr = name All ▹ many (word t.Or ▹ name All)
production All = name One ▹ many (word t.And ▹ name One)
production One = word t.Not ▹ word t.OpenParen ▹ name Expr ▹ word t.CloseParen or word t.OpenParen ▹ name Expr ▹ word t.CloseParen or name Value ▹ name Op ▹ name Value
production Op = word t.Equal or word t.Unequal or word t.Less or word t.Greater or word t.AtMost or word t.AtLeast

-- A derivation: the tokens begin with the form, and the others follow.
pub data Derives : Form → List Lexeme → List Lexeme → Type 0 where
  is : {k : Terminal} {l : Lexeme} {x : List Lexeme} → l.terminal ≡ k → Derives (word k) (l ∷ x) x
  by : {n : Name} {x y : List Lexeme} → Derives (production n) x y → Derives (name n) x y
  one_after : {f g : Form} {x y z : List Lexeme} → Derives f x y → Derives g y z → Derives (both f g) x z
  left : {f g : Form} {x y : List Lexeme} → Derives f x y → Derives (either f g) x y
  right : {f g : Form} {x y : List Lexeme} → Derives g x y → Derives (either f g) x y
  without : {f : Form} {x : List Lexeme} → Derives (maybe f) x x
  with_it : {f : Form} {x y : List Lexeme} → Derives f x y → Derives (maybe f) x y
  end : {f : Form} {x : List Lexeme} → Derives (many f) x x
  again : {f : Form} {x y z : List Lexeme} → Derives f x y → Derives (many f) y z → Derives (many f) x z

-- a list of tokens is a query in one way at most
abbrev pub IsUnambiguous : Type 0
IsUnambiguous = (ls : List Lexeme) (d e : Derives (name Query) ls []) → d ≡ e
