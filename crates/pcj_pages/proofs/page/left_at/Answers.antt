use Rattle.std.proofs.Common.{◌<◌, ◌∙◌, length, ap, sym, subst}
use Rattle.pcj_sorted.proofs.Edits.{row_in_is}
use Rattle.pcj_pages.specs.Adding.{row_summary}
use Rattle.pcj_pages.proofs.Replacing.{left_where_as_many}
use Rattle.pcj_pages.proofs.page.left_at.Goals as goal

pub returns-then-rows-count : goal.returns-then-rows-count
returns-then-rows-count c =
    let within : c.args.at < length c.args.rows.now = subst (λ n. c.args.at < n) (sym c.if-rows-count.true) c.requires in
    c.of_row.ensures ∙ ap row_summary (sym (row_in_is c.args.rows.now c.args.at c.index-rows-at.result within))
    ∙ sym (left_where_as_many c.args.rows.now c.args.at c.args.count c.if-rows-count.true)
