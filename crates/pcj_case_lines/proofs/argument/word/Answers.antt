use Rattle.std.proofs.Common.{sym, ◌∙◌, ap}
use Rattle.pcj_case_lines.specs.Line.{word_of}
use Rattle.pcj_case_lines.proofs.WordLemmas.{text_is_word, other_is_none}
use Rattle.pcj_case_lines.proofs.argument.word.Goals as goal

pub returns-in-Ok : goal.returns-in-Ok
returns-in-Ok c =
    let text = (c.in-Ok.ensures {u = tt}).cases in
    text.0 ∙ (sym (text_is_word c.as_slice.result.now text.1) ∙ ap word_of c.as_slice.ensures)

pub returns-in-Err : goal.returns-in-Err
returns-in-Err c = sym (ap word_of (sym c.as_slice.ensures) ∙ other_is_none c.as_slice.result.now (c.in-Err.ensures {u = tt}).cases.0)
