use Rattle.std.proofs.Common.{◌∙◌, not, ap}
use Rattle.pcj_table.specs.declared.found.Found.{Found}
use Rattle.pcj_table.specs.Table.{is_before}
use Rattle.pcj_pages.specs.Search.{starts_up_to}
use Rattle.pcj_pages.proofs.Searches.{starts_at}
use Rattle.pcj_pages.proofs.page.Page.starts_up_to.Goals as goal

pub returns-in-len1-up : goal.returns-in-len1-up
returns-in-len1-up c =
    let first = ap (λ (found : Found). found.key) c.first-item.is in
    ap not (c.is_before.ensures ∙ ap (is_before c.args.key.now) (c.as_slice.ensures ∙ first))
    ∙ starts_at c.args.key.now c.rows.result.now c.first-item.result c.in-len1-up.len_at_least ∙ ap (starts_up_to c.args.key.now) c.rows.ensures
