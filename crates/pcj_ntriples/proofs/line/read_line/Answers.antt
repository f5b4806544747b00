use Rattle.std.proofs.Common.{◌≡◌, sym, ap, ◌∙◌, subst, Ok, IfOk, IfErr, chars}
use Rattle.std.proofs.lemmas.Str.{is_utf8-from_IsUtf8, IsUtf8-from_is_utf8}
use Rattle.std.proofs.lemmas.Bool.{false_from_ne_true}
use Rattle.pcj_ntriples.specs.Fault.{IsFault}
use Rattle.pcj_ntriples.specs.LineReading.{said_by}
use Rattle.pcj_ntriples.proofs.Says.{said_utf8, said_not_utf8}
use Rattle.pcj_ntriples.proofs.line.read_line.Goals as goal

pub returns-in-Ok-clause-said : goal.returns-in-Ok-clause-said
returns-in-Ok-clause-said c =
    let text = c.in-Ok.ensures.cases in
    let same = ap (said_by c.args.load) (c.new.ensures ∙ ap chars text.0) ∙ sym (said_utf8 c.args.load c.args.line.now (is_utf8-from_IsUtf8 c.args.line.now text.1)) in
    subst (λ r. IfOk c.line.result (λ said. r ≡ Ok said)) same c.line.ensures.said

pub returns-in-Ok-clause-fault : goal.returns-in-Ok-clause-fault
returns-in-Ok-clause-fault c =
    let text = c.in-Ok.ensures.cases in
    let same = ap (said_by c.args.load) (c.new.ensures ∙ ap chars text.0) ∙ sym (said_utf8 c.args.load c.args.line.now (is_utf8-from_IsUtf8 c.args.line.now text.1)) in
    subst (λ r. IfErr c.line.result (λ fault. IsFault fault r)) same c.line.ensures.fault

pub returns-in-Err-clause-fault : goal.returns-in-Err-clause-fault
returns-in-Err-clause-fault c =
    said_not_utf8 c.args.load c.args.line.now (false_from_ne_true _ (λ e. c.in-Err.ensures.cases.0 (IsUtf8-from_is_utf8 c.args.line.now e)))
