-- What a parser expects, and how it takes a token.
use Rattle.std.specs.Prelude.{◌≡◌, ℕ, List, true, false, reverse, Option, Some, None}
use Rattle.pcj_grammar.specs.declared.fault.Fault.{Fault}
use Rattle.pcj_grammar.specs.declared.fault.FaultKind.TheVariants as faults
use Rattle.pcj_grammar.specs.declared.fault.Refusal.{Refusal}
use Rattle.pcj_grammar.specs.declared.fault.Refusal.TheVariants.{Refused, Memory}
use Rattle.pcj_grammar.specs.declared.lexeme.Lexeme.{Lexeme}
use Rattle.pcj_grammar.specs.declared.parser.Parser.{Parser}
use Rattle.pcj_grammar.specs.Terminal.{fault_of}
use Rattle.pcj_grammar.specs.Reading.{Expected, advance}
use Rattle.pcj_lex.specs.Token.{IsNoToken}
use Rattle.pcj_grammar.specs.Text.{deeper, is_too_deep}

-- the inmost part stands last
abbrev pub expected_of : Parser → Expected
expected_of p = record { parts = reverse p.parts.items; clause = p.clause }

-- the token may stand there, and opens no level that is too deep
pub record TakesOn (before : Parser) (l : Lexeme) (after : Parser) : Type 0 where
  pub advanced : advance (expected_of before) l.terminal ≡ Some (expected_of after)
  pub within : is_too_deep before.depth l.terminal ≡ false
  pub depth : after.depth ≡ deeper before.depth l.terminal

-- it may not, or it opens one
abbrev pub StopsAt : Parser → Lexeme → Fault → Option Expected → Type 0
StopsAt before l fault None = fault ≡ record { at = l.at; kind = fault_of l.terminal }
StopsAt before l fault (Some next) = (is_too_deep before.depth l.terminal ≡ true) × (fault ≡ record { at = l.at; kind = faults.TooDeep })

abbrev pub Stops : Parser → Lexeme → Refusal → Type 0
Stops before l (Refused fault) = StopsAt before l fault (advance (expected_of before) l.terminal)
Stops before l Memory = Unit {0}

-- it may not stand there
abbrev pub unexpected_at : Lexeme → Refusal
unexpected_at l = Refused (record { at = l.at; kind = fault_of l.terminal })

abbrev pub StopsUnread : Parser → Lexeme → Refusal → Type 0
StopsUnread before l (Refused fault) = (advance (expected_of before) l.terminal ≡ None) × (fault ≡ record { at = l.at; kind = fault_of l.terminal })
StopsUnread before l Memory = Unit {0}

-- no token starts there
abbrev pub IsNoLexeme : List ℕ → ℕ → Refusal → Type 0
IsNoLexeme text from (Refused fault) = IsNoToken text from fault.at × (fault.kind ≡ faults.Syntax)
IsNoLexeme text from Memory = ⊥
