use Rattle.std.proofs.Common.{sym, ◌∙◌}
use Rattle.pcj_lex.proofs.FirstRule.{rule_found, rule_over, rule_barred, rules_over}
use Rattle.pcj_lex.proofs.reader.Reader.first_rule.Goals.{in-Some+else-stands_before, in_default}
use Rattle.pcj_lex.proofs.reader.Reader.first_rule.Goals as goal

pub returns-then-stands_before : goal.returns-then-stands_before
returns-then-stands_before c =
    rule_found c.loop-rule.rule-index c.args.self.now c.in-Some.rest c.loop-rule-test.true (sym c.after_longest.ensures ∙ c.in-Some.is)
    (sym c.stands_before.ensures ∙ c.if-stands_before.true) c.loop-rule.invariant

pub loop-rule-preserved : goal.loop-rule-preserved
loop-rule-preserved c = elim c.match-after_longest.branch [
  | in-Some+else-stands_before w ↦ rule_barred c.loop-rule.rule-index c.args.self.now w.in-Some.rest c.loop-rule-test.true (sym c.after_longest.ensures ∙ w.in-Some.is)
      (sym w.stands_before.ensures ∙ w.if-stands_before.false) c.loop-rule.invariant
  | in_default w ↦ rule_over c.loop-rule.rule-index c.args.self.now c.loop-rule-test.true (sym c.after_longest.ensures ∙ w.in_default.is) c.loop-rule.invariant
]

pub returns : goal.returns
returns c = rules_over c.loop-rule.rule-index c.args.self.now c.loop-rule-test.false c.loop-rule.invariant
