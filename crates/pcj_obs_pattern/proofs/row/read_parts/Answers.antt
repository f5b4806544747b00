use Rattle.std.proofs.Common.{◌∙◌, ap, drop, is_some}
use Rattle.std.proofs.lemmas.List.{take_rest}
use Rattle.pcj_obs_pattern.proofs.RowLemmas.{subject_at, predicate_at, object_at, same_row}
use Rattle.pcj_obs_pattern.proofs.row.read_parts.Goals as goal

pub pattern_of-requires-clause-subject : goal.pattern_of-requires-clause-subject
pattern_of-requires-clause-subject c =
    ap is_some (subject_at c.requires.0 c.requires.1 c.args.parts.now c.subject-item.result c.as_slice.result.now c.requires.2 c.subject-item.is c.as_slice.ensures)

pub pattern_of-requires-clause-predicate : goal.pattern_of-requires-clause-predicate
pattern_of-requires-clause-predicate c =
    ap is_some (predicate_at c.requires.0 c.requires.1 c.args.parts.now c.predicate-item.result c.as_slice-2.result.now c.requires.2 c.predicate-item.is c.as_slice-2.ensures)

pub pattern_of-requires-clause-object : goal.pattern_of-requires-clause-object
pattern_of-requires-clause-object c =
    ap is_some (object_at c.requires.0 c.requires.1 c.args.parts.now c.object-item.result c.as_slice-3.result.now c.requires.2 c.object-item.is c.as_slice-3.ensures)

pub returns : goal.returns
returns c of order are =
    let made = c.in_ok-pattern_of.ensures {u = tt} in
    same_row c.args.registration c.args.node c.in_ok-pattern_of.field-0 of c.in_ok-copy_of.field-0 order _ _ _ made.subject made.predicate made.object
    (subject_at of order c.args.parts.now c.subject-item.result c.as_slice.result.now are c.subject-item.is c.as_slice.ensures)
    (predicate_at of order c.args.parts.now c.predicate-item.result c.as_slice-2.result.now are c.predicate-item.is c.as_slice-2.ensures)
    (object_at of order c.args.parts.now c.object-item.result c.as_slice-3.result.now are c.object-item.is c.as_slice-3.ensures)
    (c.in_ok-copy_of.ensures {u = tt} ∙ take_rest c.args.parts.now 3 ∙ ap (drop 3) are.parts_are)
