use Rattle.std.proofs.Common.{◌≤◌, ◌∙◌, length, sym, subst}
use Rattle.pcj_pages.proofs.Places.{page_rows_is, removes, stays, none_left, some_left}
use Rattle.pcj_pages.proofs.mutation.drop_empty.Goals as goal

pub returns-then-is_empty : goal.returns-then-is_empty
returns-then-is_empty c =
    let page = page_rows_is c.args.pages.now.items c.args.at c.index.result.now c.requires ∙ sym c.index.ensures ∙ sym c.rows.ensures in
    let none = page ∙ none_left c.rows.result.now (sym c.is_empty.ensures ∙ c.if-is_empty.true) in
    c.remove.ensures.items ∙ removes c.args.pages.now.items c.args.at c.requires none

pub returns-else-is_empty : goal.returns-else-is_empty
returns-else-is_empty c =
    let page = page_rows_is c.args.pages.now.items c.args.at c.index.result.now c.requires ∙ sym c.index.ensures ∙ sym c.rows.ensures in
    let some = some_left c.rows.result.now (sym c.is_empty.ensures ∙ c.if-is_empty.false) in
    stays c.args.pages.now.items c.args.at (subst (λ rows. 1 ≤ length rows) (sym page) some)
