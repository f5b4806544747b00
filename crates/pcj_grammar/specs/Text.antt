-- Which texts are of the grammar, and where any other text departs from it.
use Rattle.std.specs.Prelude.{◌≡◌, ℕ, ◌+◌, ◌-◌, nat_le, Bool, true, false, not, ◌&&◌, List, [], ◌∷◌, ◌++◌, length, Option, Some, None, ◌⊎◌, if◌then◌else◌}
use Rattle.std.specs.Str.{IsUtf8}
use Rattle.pcj_lex.specs.declared.token.TokenKind.{TokenKind}
use Rattle.pcj_lex.specs.Token.{IsNext, IsLast, IsNoToken}
use Rattle.pcj_grammar.specs.declared.fault.Fault.{Fault}
use Rattle.pcj_grammar.specs.declared.fault.FaultKind.TheVariants as faults
use Rattle.pcj_grammar.specs.declared.fault.Refusal.{Refusal}
use Rattle.pcj_grammar.specs.declared.fault.Refusal.TheVariants.{Refused, Memory}
use Rattle.pcj_grammar.specs.declared.lexeme.Lexeme.{Lexeme}
use Rattle.pcj_grammar.specs.declared.terminal.Terminal.{Terminal}
use Rattle.pcj_grammar.specs.declared.terminal.Terminal.TheVariants as t
use Rattle.pcj_grammar.specs.Grammar.{name, Derives}
use Rattle.pcj_grammar.specs.Grammar as g
use Rattle.pcj_grammar.specs.Terminal.{terminal_of, fault_of}

-- ---- tokens

-- the next token from this byte on
pub record IsLexeme (text : List ℕ) (from : ℕ) (l : Lexeme) : Type 0 where
  pub kind : TokenKind
  pub source : List ℕ
  pub next : IsNext text from kind l.at source
  pub terminal : l.terminal ≡ terminal_of kind source
  pub behind : l.end ≡ l.at + length source

-- the next tokens from this byte on, up to that one
abbrev pub Tokens : List ℕ → ℕ → List Lexeme → ℕ → Type 0
Tokens text from [] to = from ≡ to
Tokens text from (l ∷ ls) to = IsLexeme text from l × Tokens text l.end ls to

-- ---- braces and brackets

abbrev pub opens : Terminal → Bool
opens t.OpenBrace = true
opens t.OpenParen = true
opens _ = false

abbrev pub closes : Terminal → Bool
closes t.CloseBrace = true
closes t.CloseParen = true
closes _ = false

-- how many are open after a token, and after all of these
abbrev pub deeper : ℕ → Terminal → ℕ
deeper depth terminal = if opens terminal then depth + 1 else if closes terminal then depth - 1 else depth

abbrev pub depth_after : ℕ → List Lexeme → ℕ
depth_after depth [] = depth
depth_after depth (l ∷ ls) = depth_after (deeper depth l.terminal) ls

-- a token opens level 65
abbrev pub is_too_deep : ℕ → Terminal → Bool
is_too_deep depth terminal = opens terminal && nat_le 64 depth

-- none of these does
abbrev pub stays_within : ℕ → List Lexeme → Bool
stays_within depth [] = true
stays_within depth (l ∷ ls) = not (is_too_deep depth l.terminal) && stays_within (deeper depth l.terminal) ls

-- ---- texts

-- Some query begins with these tokens.
abbrev pub BeginsQuery : List Lexeme → Type 0
BeginsQuery ls = (more : List Lexeme) × Derives (name g.Query) (ls ++ more) []

-- the next token opens level 65, where a query may have it
pub record IsTooDeep (text : List ℕ) (ls : List Lexeme) (to : ℕ) (fault : Fault) : Type 0 where
  pub found : Lexeme
  pub next : IsLexeme text to found
  pub begins : BeginsQuery (ls ++ found ∷ [])
  pub deep : is_too_deep (depth_after 0 ls) found.terminal ≡ true
  pub is_fault : fault ≡ record { at = found.at; kind = faults.TooDeep }

-- the next token is one that no query has there
pub record IsUnexpected (text : List ℕ) (ls : List Lexeme) (to : ℕ) (fault : Fault) : Type 0 where
  pub found : Lexeme
  pub next : IsLexeme text to found
  pub apart : BeginsQuery (ls ++ found ∷ []) → ⊥
  pub is_fault : fault ≡ record { at = found.at; kind = fault_of found.terminal }

-- no token starts there
pub record IsUnread (text : List ℕ) (to : ℕ) (fault : Fault) : Type 0 where
  pub at : ℕ
  pub none : IsNoToken text to at
  pub is_fault : fault ≡ record { at = at; kind = faults.Syntax }

-- the text ends there, too early
pub record IsTooShort (text : List ℕ) (ls : List Lexeme) (to : ℕ) (fault : Fault) : Type 0 where
  pub last : IsLast text to
  pub short : Derives (name g.Query) ls [] → ⊥
  pub is_fault : fault ≡ record { at = length text; kind = faults.Syntax }

-- what is behind these tokens of a text: its end, where they are a query, or a fault
abbrev pub Ends : List ℕ → List Lexeme → ℕ → Option Fault → Type 0
Ends text ls to None = IsLast text to × Derives (name g.Query) ls []
Ends text ls to (Some fault) = IsTooDeep text ls to fault ⊎ (IsUnexpected text ls to fault ⊎ (IsUnread text to fault ⊎ IsTooShort text ls to fault))

-- The longest list of a text's tokens with which a query begins, up to level 64, and what is behind it.
pub record Reads (text : List ℕ) (ls : List Lexeme) (outcome : Option Fault) : Type 0 where
  pub to : ℕ
  pub tokens : Tokens text 0 ls to
  pub begins : BeginsQuery ls
  pub within : stays_within 0 ls ≡ true
  pub ends : Ends text ls to outcome

-- the tokens of a text of the grammar
abbrev pub IsOfGrammar : List ℕ → List Lexeme → Type 0
IsOfGrammar text ls = Reads text ls None

-- where a text departs from the grammar, and how
abbrev pub HasFault : List ℕ → Fault → Type 0
HasFault text fault = (ls : List Lexeme) × Reads text ls (Some fault)

abbrev pub Refuses : List ℕ → Refusal → Type 0
Refuses text (Refused fault) = HasFault text fault
Refuses text Memory = Unit {0}

-- ---- what holds of each text

abbrev pub HasOneReading : Type 0
HasOneReading = (text : List ℕ) (ls ms : List Lexeme) (o p : Option Fault) → Reads text ls o → Reads text ms p → (ls ≡ ms) × (o ≡ p)

abbrev pub IsRead : Type 0
IsRead = (text : List ℕ) → IsUtf8 text → (ls : List Lexeme) × (outcome : Option Fault) × Reads text ls outcome
