use Rattle.std.proofs.Common.{◌∙◌, sym, subst}
use Rattle.std.specs.Str.Parse.{ParsesUnsigned}
use Rattle.pcj_term.proofs.Parts.{number_parsed, number_not_canonical, number_not_text}
use Rattle.pcj_term.proofs.pieces.number_of_digits.Goals as goal

pub returns-then-not-is_canonical : goal.returns-then-not-is_canonical
returns-then-not-is_canonical c = number_not_canonical c.args.digits.now (sym c.is_canonical.ensures ∙ c.if-not-is_canonical.true)

pub returns-in-Ok : goal.returns-in-Ok
returns-in-Ok c =
    let parses = c.in-Ok.ensures.cases.0 in
    let parsed = subst (λ text. ParsesUnsigned 64 10 text c.parse.result) parses c.parse.ensures.value.0 in
    c.ok.ensures.value ∙ number_parsed c.args.digits.now c.parse.result (sym c.is_canonical.ensures ∙ c.if-not-is_canonical.false) parsed

pub returns-in-Err : goal.returns-in-Err
returns-in-Err c = number_not_text c.args.digits.now c.in-Err.ensures.cases.0
