use Rattle.std.proofs.Common.{◌∙◌, sym, ap}
use Rattle.std.proofs.lemmas.Result.{IfOk-weaker}
use Rattle.pcj_table.specs.Table.{shown}
use Rattle.pcj_sorted.proofs.Edits.{row_in_is}
use Rattle.pcj_sorted.proofs.Tables.{row_found, row_missing}
use Rattle.pcj_sorted.proofs.read.row_of.Goals as goal

pub returns-in-Ok : goal.returns-in-Ok
returns-in-Ok c =
    let found = row_found c.args.key.now c.args.rows.now c.in-Ok.at c.requires c.in-Ok.ensures.place
    ∙ row_in_is c.args.rows.now c.in-Ok.at c.index-rows-at.result c.in-Ok.ensures.bound in
    IfOk-weaker c.shown.result _ _ (λ copy same. same ∙ ap shown (sym found)) c.shown.ensures

pub returns-in-Err : goal.returns-in-Err
returns-in-Err c = ap shown (sym (row_missing c.args.key.now c.args.rows.now c.in-Err.field-0 c.requires c.in-Err.ensures.place))
