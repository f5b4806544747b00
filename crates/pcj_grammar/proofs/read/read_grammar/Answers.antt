use Rattle.std.proofs.Common.{sym, ◌∙◌}
use Rattle.std.proofs.lemmas.Result.{err_from_is_err_and}
use Rattle.pcj_grammar.proofs.ReadSteps.{starts, no_lexeme, no_taking, takes, ends_well, ends_early}
use Rattle.pcj_grammar.proofs.read.read_grammar.Goals as goal

pub loop-lexemes-init : goal.loop-lexemes-init
loop-lexemes-init c = starts c.args.text.now c.new-lexemes.result c.new-parser.result c.requires c.new-lexemes.ensures c.new-parser.ensures.expected c.new-parser.ensures.depth

pub returns-in_err-lexeme-clause-refused : goal.returns-in_err-lexeme-clause-refused
returns-in_err-lexeme-clause-refused c =
    let p = err_from_is_err_and c.from_residual.result c.from_residual.ensures.1 in
    rw (p.1, p.2) (no_lexeme c.args.text.now c.loop-lexemes.from c.loop-lexemes.lexemes c.loop-lexemes.parser c.in_err-lexeme.field-0.0 c.loop-lexemes.invariant c.in_err-lexeme.ensures.refused)

pub returns-in_err-take-clause-refused : goal.returns-in_err-take-clause-refused
returns-in_err-take-clause-refused c =
    let p = err_from_is_err_and c.from_residual-in_err-take.result c.from_residual-in_err-take.ensures.1 in
    let next = rw c.in-Some.is at c.in_ok-lexeme.ensures.lexeme in
    rw (p.1, p.2) (no_taking c.args.text.now c.loop-lexemes.from c.loop-lexemes.lexemes c.loop-lexemes.parser c.in-Some.lexeme c.in_err-take.field-0.0 c.loop-lexemes.invariant next c.in_err-take.ensures.refused)

pub loop-lexemes-preserved : goal.loop-lexemes-preserved
loop-lexemes-preserved c =
    let next = rw c.in-Some.is at c.in_ok-lexeme.ensures.lexeme in
    let behind = rw c.in-Some.is at c.in_ok-lexeme.ensures.behind in
    takes c.args.text.now c.loop-lexemes.from c.loop-lexemes.lexemes c.push.new.self c.loop-lexemes.parser c.take.new.self c.in-Some.lexeme c.loop-lexemes.invariant next behind
    (c.in_ok-take.ensures {u = tt}).ok (c.in_ok-push.ensures {u = tt}).ok

pub returns-then-is_whole-clause-lexemes : goal.returns-then-is_whole-clause-lexemes
returns-then-is_whole-clause-lexemes c =
    let last = rw c.in_default.is at c.in_ok-lexeme.ensures.end in
    ends_well c.args.text.now c.loop-lexemes.from c.loop-lexemes.lexemes c.loop-lexemes.parser c.loop-lexemes.invariant last (sym c.is_whole.ensures ∙ c.if-is_whole.true)

pub returns-clause-refused : goal.returns-clause-refused
returns-clause-refused c =
    let last = rw c.in_default.is at c.in_ok-lexeme.ensures.end in
    ends_early c.args.text.now c.loop-lexemes.from c.loop-lexemes.lexemes c.loop-lexemes.parser c.loop-lexemes.invariant last (sym c.is_whole.ensures ∙ c.if-is_whole.false)
