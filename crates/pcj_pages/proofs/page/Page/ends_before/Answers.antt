use Rattle.std.proofs.Common.{◌≡◌, ◌∙◌, ◌-◌, suc, length, ap, arith}
use Rattle.pcj_table.specs.declared.found.Found.{Found}
use Rattle.pcj_table.specs.Table.{is_before}
use Rattle.pcj_pages.specs.Search.{ends_before}
use Rattle.pcj_pages.proofs.Searches.{ends_last}
use Rattle.pcj_pages.proofs.page.Page.ends_before.Goals as goal

pub returns-in-len1-up : goal.returns-in-len1-up
returns-in-len1-up c =
    let last = ap (λ (found : Found). found.key) c.last-item.is in
    let place : suc (length c.rows.result.now - 1) ≡ length c.rows.result.now = omega (arith, c.in-len1-up.len_at_least) in
    c.is_before.ensures ∙ ap (λ key. is_before key c.args.key.now) (c.as_slice.ensures ∙ last)
    ∙ ends_last c.args.key.now c.rows.result.now c.last-item.result (length c.rows.result.now - 1) place ∙ ap (ends_before c.args.key.now) c.rows.ensures
