-- What reading keeps from token to token, and where it stops.
use Rattle.std.proofs.Common.{◌≡◌, ℕ, true, false, List, [], ◌∷◌, ◌++◌, length, Option, Some, None, refl, ap, sym, subst, ◌∙◌}
use Rattle.std.specs.Str.{IsUtf8}
use Rattle.pcj_lex.specs.Token.{IsLast, ReadsOn}
use Rattle.pcj_grammar.specs.declared.fault.Fault.{Fault}
use Rattle.pcj_grammar.specs.declared.fault.FaultKind.{FaultKind}
use Rattle.pcj_grammar.specs.declared.fault.FaultKind.TheVariants as faults
use Rattle.pcj_grammar.specs.declared.fault.Refusal.{Refusal}
use Rattle.pcj_grammar.specs.declared.fault.Refusal.TheVariants.{Refused, Memory}
use Rattle.pcj_grammar.specs.declared.lexeme.Lexeme.{Lexeme}
use Rattle.pcj_grammar.specs.declared.parser.Parser.{Parser}
use Rattle.pcj_grammar.specs.Terminal.{fault_of}
use Rattle.pcj_grammar.specs.Reading.{Expected, advance, start, is_whole}
use Rattle.pcj_grammar.specs.Text.{IsLexeme, deeper, depth_after, is_too_deep, Reads, HasFault, Refuses}
use Rattle.pcj_grammar.specs.Parsing.{expected_of, TakesOn, StopsAt, Stops, IsNoLexeme}
use Rattle.pcj_grammar.proofs.Readings.{SoFar, before_all, one_more, odd_token, deep_token, unread_there, ended_there, too_short, depth_more}

-- the tokens so far, and how deep they are
abbrev pub Keeps : List ℕ → ℕ → List Lexeme → Parser → Type 0
Keeps text from ls p = SoFar text from ls (expected_of p) × (p.depth ≡ depth_after 0 ls)

pub starts : (text : List ℕ) (ls : List Lexeme) (p : Parser) → IsUtf8 text → ls ≡ [] → expected_of p ≡ start → p.depth ≡ 0 → Keeps text 0 ls p
starts text ls p is none first shallow = (
  subst (λ (e : Expected). SoFar text 0 ls e) (sym first) (subst (λ (x : List Lexeme). SoFar text 0 x start) (sym none) (before_all text is)),
  shallow ∙ ap (depth_after 0) (sym none),
)

with_fault : (text : List ℕ) (f h : Fault) → f ≡ h → (ls : List Lexeme) → Reads text ls (Some h) → HasFault text f
with_fault text f h e ls r = (ls, subst (λ (x : Fault). Reads text ls (Some x)) (sym e) r)

pub no_lexeme : (text : List ℕ) (from : ℕ) (ls : List Lexeme) (p : Parser) (r : Refusal) → Keeps text from ls p → IsNoLexeme text from r → Refuses text r
no_lexeme text from ls p (Refused fault) k none =
    with_fault text fault (record { at = fault.at; kind = faults.Syntax }) (ap (λ (x : FaultKind). record { at = fault.at; kind = x }) none.1) ls (unread_there text from ls (expected_of p) fault.at k.0 none.0)
no_lexeme text from ls p Memory k none = absurd none

pub no_taking : (text : List ℕ) (from : ℕ) (ls : List Lexeme) (p : Parser) (l : Lexeme) (r : Refusal) → Keeps text from ls p → IsLexeme text from l → Stops p l r → Refuses text r
no_taking text from ls p l Memory k next stops = tt
no_taking text from ls p l (Refused fault) k next stops = by (advance (expected_of p) l.terminal) refl stops
  where
    by : (o : Option Expected) → advance (expected_of p) l.terminal ≡ o → StopsAt p l fault o → HasFault text fault
    by None e is_fault = with_fault text fault (record { at = l.at; kind = fault_of l.terminal }) is_fault ls (odd_token text from ls (expected_of p) l k.0 next e)
    by (Some after) e (deep, is_fault) =
        with_fault text fault (record { at = l.at; kind = faults.TooDeep }) is_fault ls
        (deep_token text from ls (expected_of p) after l k.0 next e (ap (λ (n : ℕ). is_too_deep n l.terminal) (sym k.1) ∙ deep))

pub takes : (text : List ℕ) (from : ℕ) (ls more : List Lexeme) (p after : Parser) (l : Lexeme) → Keeps text from ls p → IsLexeme text from l → ReadsOn text from l.end → TakesOn p l after → more ≡ ls ++ l ∷ [] → Keeps text l.end more after
takes text from ls more p after l k next behind t grown = (
  subst (λ (x : List Lexeme). SoFar text l.end x (expected_of after)) (sym grown)
      (one_more text from ls (expected_of p) (expected_of after) l k.0 next behind t.advanced (ap (λ (n : ℕ). is_too_deep n l.terminal) (sym k.1) ∙ t.within)),
  t.depth ∙ ap (λ (n : ℕ). deeper n l.terminal) k.1 ∙ sym (depth_more 0 ls l) ∙ ap (depth_after 0) (sym grown),
)

pub ends_well : (text : List ℕ) (from : ℕ) (ls : List Lexeme) (p : Parser) → Keeps text from ls p → IsLast text from → is_whole (expected_of p) ≡ true → Reads text ls None
ends_well text from ls p k last whole = ended_there text from ls (expected_of p) k.0 last whole

pub ends_early : (text : List ℕ) (from : ℕ) (ls : List Lexeme) (p : Parser) → Keeps text from ls p → IsLast text from → is_whole (expected_of p) ≡ false → HasFault text (record { at = length text; kind = faults.Syntax })
ends_early text from ls p k last short = (ls, too_short text from ls (expected_of p) k.0 last short)
