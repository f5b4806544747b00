use Rattle.pcj_case_lines.proofs.FieldLemmas.{takes_escape}
use Rattle.pcj_case_lines.proofs.field.take_escape.Goals as goal

pub returns : goal.returns
returns c = takes_escape c.args.line.now c.in-Some.behind.now c.in_ok-escaped_by.field-0.now c.args.field.now c.extend_from_slice.new.self c.in-Some.letter.now (c.in-Some.ensures {u = tt}).cases.0 c.in_ok-escaped_by.ensures c.in_ok-extend_from_slice.ensures.ok
