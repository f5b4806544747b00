use Rattle.pcj_expr.proofs.CodePoints.{texts_compare_by_code_points}
use Rattle.pcj_expr.proofs.laws.texts_compare_by_code_points.Goals as goal

pub returns : goal.returns
returns c = texts_compare_by_code_points
