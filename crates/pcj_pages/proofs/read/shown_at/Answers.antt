use Rattle.std.proofs.Common.{◌∙◌, ap, sym}
use Rattle.std.proofs.lemmas.Result.{IfOk-weaker}
use Rattle.pcj_table.specs.Table.{shown}
use Rattle.pcj_sorted.proofs.Edits.{row_in_is}
use Rattle.pcj_pages.proofs.read.shown_at.Goals as goal

pub returns : goal.returns
returns c = IfOk-weaker c.shown.result _ _ (λ copy same. same ∙ ap shown (sym (row_in_is c.args.rows.now c.args.at c.index-rows-at.result c.requires))) c.shown.ensures
