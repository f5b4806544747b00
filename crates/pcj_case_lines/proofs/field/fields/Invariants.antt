use Rattle.std.proofs.Common.{ℕ, List, ◌++◌, length}
use Rattle.pcj_case_lines.specs.Field.{HasFields}
use Rattle.pcj_case_lines.proofs.field.fields.Given as goal

abbrev pub invariant-loop-fields : goal.invariant-loop-fields
invariant-loop-fields l = (fields : List (List ℕ)) → HasFields l.rest fields → HasFields l.line (l.fields.items ++ fields)

abbrev pub decreases-loop-fields : goal.decreases-loop-fields
decreases-loop-fields l = length l.rest
