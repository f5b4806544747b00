use Rattle.std.proofs.Common.{ap, ◌∙◌, refl}
use Rattle.std.proofs.lemmas.Str.{is_utf8-from_IsUtf8, IsUtf8-from_is_utf8}
use Rattle.std.proofs.lemmas.Bool.{false_from_ne_true}
use Rattle.pcj_term.specs.Label.{is_label_text}
use Rattle.pcj_term.proofs.label.is_label.Goals as goal

pub returns-in-Ok : goal.returns-in-Ok
returns-in-Ok c = let text = c.in-Ok.ensures.cases in rw (is_utf8-from_IsUtf8 c.args.bytes.now text.1) (c.is_label_text.ensures ∙ ap is_label_text text.0)

pub returns-in-Err : goal.returns-in-Err
returns-in-Err c = let no = false_from_ne_true _ (λ e. c.in-Err.ensures.cases.0 (IsUtf8-from_is_utf8 c.args.bytes.now e)) in rw no refl
