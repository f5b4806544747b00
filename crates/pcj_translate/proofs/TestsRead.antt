-- What reading a comparison gives is what its derivation says.
use Rattle.std.proofs.Common.{◌≡◌, true, List, [], ◌∷◌, refl, ap, sym, ◌∙◌}
use Rattle.pcj_algebra.specs.declared.triple_pattern.Slot.{Slot}
use Rattle.pcj_expr.specs.declared.expr.Expr.TheVariants.{Test}
use Rattle.pcj_expr.specs.declared.compare.Compare.{Compare}
use Rattle.pcj_grammar.specs.declared.lexeme.Lexeme.{Lexeme}
use Rattle.pcj_grammar.specs.declared.terminal.Terminal.{Terminal}
use Rattle.pcj_grammar.specs.declared.terminal.Terminal.TheVariants as t
use Rattle.pcj_grammar.specs.Grammar.{Form, word, name, maybe, many, ◌▹◌, ◌or◌, Derives, is, by, one_after, left, right, without, with_it, end, again}
use Rattle.pcj_grammar.specs.Grammar as g
use Rattle.pcj_translate.specs.Term.{Scope}
use Rattle.pcj_translate.specs.Triples.{value_by}
use Rattle.pcj_translate.specs.Filter.{operand_of, compare_by}
use Rattle.pcj_translate.specs.Adding.{behind_one}
use Rattle.pcj_translate.specs.Testing.{compare_of, compare_at, ends_test, IsPastTest, ReadsTest}
use Rattle.pcj_translate.specs.ValueReading.{value_at}
use Rattle.pcj_translate.proofs.ValuesRead.{ends_text, IsPastText, value_read}

ends_text_too : (k : Terminal) → ends_test k ≡ true → ends_text k ≡ true
ends_text_too t.And e = refl
ends_text_too t.Or e = refl
ends_text_too t.CloseParen e = refl
ends_text_too _ e = absurd cc

past_test_text : (y : List Lexeme) → IsPastTest y → IsPastText y
past_test_text [] past = tt
past_test_text (l ∷ y) past = ends_text_too l.terminal past

op_past_text : (x y : List Lexeme) → Derives (name g.Op) x y → IsPastText x
op_past_text x y (by (left (is e))) = ap ends_text e
op_past_text x y (by (right (left (is e)))) = ap ends_text e
op_past_text x y (by (right (right (left (is e))))) = ap ends_text e
op_past_text x y (by (right (right (right (left (is e)))))) = ap ends_text e
op_past_text x y (by (right (right (right (right (left (is e))))))) = ap ends_text e
op_past_text x y (by (right (right (right (right (right (is e))))))) = ap ends_text e

compare_read : (x y : List Lexeme) (d : Derives (name g.Op) x y) → ◌≡◌ {A = Compare × List Lexeme} (compare_at x, behind_one x) (compare_by d, y)
compare_read x y (by (left (is e))) = ap (λ (k : Terminal). (compare_of k, y)) e
compare_read x y (by (right (left (is e)))) = ap (λ (k : Terminal). (compare_of k, y)) e
compare_read x y (by (right (right (left (is e))))) = ap (λ (k : Terminal). (compare_of k, y)) e
compare_read x y (by (right (right (right (left (is e)))))) = ap (λ (k : Terminal). (compare_of k, y)) e
compare_read x y (by (right (right (right (right (left (is e))))))) = ap (λ (k : Terminal). (compare_of k, y)) e
compare_read x y (by (right (right (right (right (right (is e))))))) = ap (λ (k : Terminal). (compare_of k, y)) e

pub test_read : (scope : Scope) (x r z : List Lexeme) (first second : Slot) → value_at scope x ≡ (first, r) → value_at scope (behind_one r) ≡ (second, z) → ReadsTest scope x z (Test (compare_at r) (operand_of first) (operand_of second))
test_read scope x r z first second one two y (one_after {y = u} v (one_after {y = w} o s)) past =
    let at_first : ◌≡◌ {A = Slot × List Lexeme} (value_by scope v, u) (first, r) = sym (value_read x u scope v (op_past_text u w o)) ∙ one in
    let at_op : ◌≡◌ {A = Compare × List Lexeme} (compare_at r, behind_one r) (compare_by o, w) = ap (λ (q : Slot × List Lexeme). (compare_at q.1, behind_one q.1)) (sym at_first) ∙ compare_read u w o in
    let at_second : ◌≡◌ {A = Slot × List Lexeme} (value_by scope s, y) (second, z) = sym (value_read w y scope s (past_test_text y past)) ∙ ap (λ (q : Compare × List Lexeme). value_at scope q.1) (sym at_op) ∙ two in (
      ap (λ (q : Slot × List Lexeme). q.1) (sym at_second),
      ap (λ (q : Compare × List Lexeme). Test q.0 (operand_of first) (operand_of second)) at_op
          ∙ ap (λ (q : Slot × List Lexeme). Test (compare_by o) (operand_of q.0) (operand_of second)) (sym at_first)
          ∙ ap (λ (q : Slot × List Lexeme). Test (compare_by o) (operand_of (value_by scope v)) (operand_of q.0)) (sym at_second),
    )
