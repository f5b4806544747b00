use Rattle.std.proofs.Common.{arith, ◌≡◌, false, Ok, ap, sym, subst, ◌∙◌, List}
use Rattle.pcj_script.specs.Lines.{Line, said}
use Rattle.pcj_script.specs.Front.{is_skipped}
use Rattle.pcj_script.specs.Told.{IsTold}
use Rattle.pcj_script.specs.Reading.{line_of, opened, IsTextless, line_opening}
use Rattle.pcj_script.specs.declared.opening.Opening.{Opening}
use Rattle.pcj_script.proofs.FrontLemmas.{sizes_of, command_begins, whole_without_text, refused_at_first}
use Rattle.pcj_script.proofs.front.next_command.Goals as goal

pub returns-in-Err-clause-told : goal.returns-in-Err-clause-told
returns-in-Err-clause-told c =
    let first = (c.in-Some.ensures {u = tt}).some in
    let looked_at : is_skipped (said (line_of c.in-Some.first)) ≡ false = rw c.said.ensures at (sym c.is_skipped.ensures ∙ c.if-is_skipped.false) in
    refused_at_first c.args.ended c.args.line _ _ (line_of c.in-Some.first) c.in-Err.kind first.given looked_at (rw c.said-2.ensures at (c.in-Err.ensures {u = tt}).err)

pub returns-in-Ok-Whole-clause-told : goal.returns-in-Ok-Whole-clause-told
returns-in-Ok-Whole-clause-told c =
    let first = (c.in-Some.ensures {u = tt}).some in
    let looked_at : is_skipped (said (line_of c.in-Some.first)) ≡ false = rw c.said.ensures at (sym c.is_skipped.ensures ∙ c.if-is_skipped.false) in
    let opens = sym (ap line_opening c.said-2.ensures) ∙ (c.in-Ok-Whole.ensures {u = tt}).ok ∙ ap (λ (opening : Opening). Ok (opened opening)) c.in-Ok-Whole.field-0-is in
    whole_without_text _ _ (line_of c.in-Some.first) c.in-Ok-Whole.command _ first.given looked_at opens (subst IsTextless c.in-Ok-Whole.field-0-is (c.in-Ok-Whole.ensures {u = tt}).whole) c.len-in-Ok-Whole.ensures

pub returns-in-Ok-Begun-clause-told : goal.returns-in-Ok-Begun-clause-told
returns-in-Ok-Begun-clause-told c =
    let first = (c.in-Some.ensures {u = tt}).some in
    let looked_at : is_skipped (said (line_of c.in-Some.first)) ≡ false = rw c.said.ensures at (sym c.is_skipped.ensures ∙ c.if-is_skipped.false) in
    let opens = sym (ap line_opening c.said-2.ensures) ∙ (c.in-Ok-Begun.ensures {u = tt}).ok ∙ ap (λ (opening : Opening). Ok (opened opening)) c.in-Ok-Begun.field-0-is in
    subst (λ (lines : List Line). IsTold c.args.ended c.args.line lines c.front.result) (sym first.given)
    (c.front.ensures.told (line_of c.in-Some.first) c.len-in-Ok-Begun.ensures (command_begins _ _ looked_at opens))

pub returns-in-Ok-Whole-clause-within : goal.returns-in-Ok-Whole-clause-within
returns-in-Ok-Whole-clause-within c =
    let first = (c.in-Some.ensures {u = tt}).some in
    let sizes = sizes_of _ _ _ _ first in
    rw c.len-in-Ok-Whole.ensures (omega arith, first.some, omega (arith, sizes))

pub returns-in-Ok-Begun-clause-within : goal.returns-in-Ok-Begun-clause-within
returns-in-Ok-Begun-clause-within c =
    let first = (c.in-Some.ensures {u = tt}).some in
    let some = rw c.len-in-Ok-Begun.ensures at c.front.ensures.within in
    rw (sizes_of _ _ _ _ first) (some first.some)
