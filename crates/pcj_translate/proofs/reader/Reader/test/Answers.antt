use Rattle.std.proofs.Common.{◌≡◌, ◌∙◌, sym, subst, ap, List, length, arith}
use Rattle.pcj_algebra.specs.declared.triple_pattern.Slot.{Slot}
use Rattle.pcj_expr.specs.declared.expr.Expr.{Expr}
use Rattle.pcj_expr.specs.declared.expr.Expr.TheVariants.{Test}
use Rattle.pcj_expr.specs.declared.compare.Compare.{Compare}
use Rattle.pcj_expr.specs.declared.operand.Operand.{Operand}
use Rattle.pcj_grammar.specs.declared.lexeme.Lexeme.{Lexeme}
use Rattle.pcj_translate.specs.Term.{Scope}
use Rattle.pcj_translate.specs.Filter.{operand_of}
use Rattle.pcj_translate.specs.Testing.{compare_at, ReadsTest}
use Rattle.pcj_translate.specs.ValueReading.{value_at}
use Rattle.pcj_translate.specs.Reading.{scope_of_reader}
use Rattle.pcj_translate.proofs.ObjectsRead.{value_fewer}
use Rattle.pcj_translate.proofs.ConditionsRead.{behind_one_fewer}
use Rattle.pcj_translate.proofs.TestsRead.{test_read}
use Rattle.pcj_translate.proofs.reader.Reader.test.Goals as goal

pub returns-clause-ok : goal.returns-clause-ok
returns-clause-ok c =
    let scope = c.compare-compare.ensures.scope ∙ c.value.ensures.scope in
    let second = subst (λ (s : Scope). ◌≡◌ {A = Slot × List Lexeme} (value_at s c.compare-compare.new.self.rest.now) (c.in_ok-right.right, c.value-2.new.self.rest.now)) scope c.in_ok-right.ensures.value in
    let behind = subst (λ (x : List Lexeme). ◌≡◌ {A = Slot × List Lexeme} (value_at (scope_of_reader c.args.self.now) x) (c.in_ok-right.right, c.value-2.new.self.rest.now)) c.compare-compare.ensures.rest second in
    let read = test_read (scope_of_reader c.args.self.now) c.args.self.now.rest.now c.value.new.self.rest.now c.value-2.new.self.rest.now c.in_ok-left.left c.in_ok-right.right c.in_ok-left.ensures.value behind in
    let same : Test (compare_at c.value.new.self.rest.now) (operand_of c.in_ok-left.left) (operand_of c.in_ok-right.right) ≡ Test c.compare-compare.result c.operand_of.result c.operand_of-2.result =
    ap (λ (s : Compare). Test s (operand_of c.in_ok-left.left) (operand_of c.in_ok-right.right)) (sym c.compare-compare.ensures.sign)
    ∙ ap (λ (o : Operand). Test c.compare-compare.result o (operand_of c.in_ok-right.right)) (sym c.operand_of.ensures)
    ∙ ap (λ (o : Operand). Test c.compare-compare.result c.operand_of.result o) (sym c.operand_of-2.ensures) in
    subst (λ (e : Expr). ReadsTest (scope_of_reader c.args.self.now) c.args.self.now.rest.now c.value-2.new.self.rest.now e) same read

pub returns-clause-fewer : goal.returns-clause-fewer
returns-clause-fewer c =
    let size = ap (λ (x : List Lexeme). length x) c.compare-compare.ensures.rest in
    omega (
      arith,
      size,
      value_fewer (scope_of_reader c.args.self.now) c.args.self.now.rest.now c.value.new.self.rest.now c.in_ok-left.left c.in_ok-left.ensures.value,
      value_fewer (scope_of_reader c.compare-compare.new.self) c.compare-compare.new.self.rest.now c.value-2.new.self.rest.now c.in_ok-right.right c.in_ok-right.ensures.value,
      behind_one_fewer c.value.new.self.rest.now,
    )
