use Rattle.std.proofs.Common.{◌≡◌, ◌∙◌, true, ap, sym, subst}
use Rattle.pcj_table.specs.Table.{is_next_lock}
use Rattle.pcj_sorted.specs.Entries.{keys_rise}
use Rattle.pcj_pages.specs.declared.summary.Summary.{Summary}
use Rattle.pcj_pages.specs.Walk.{first_in}
use Rattle.pcj_pages.proofs.Walks.{first_row_is, none_first}
use Rattle.pcj_pages.proofs.Passed.{unlocked_page}
use Rattle.pcj_pages.proofs.read.locked_of.Goals as goal

pub returns-then-summary-eq0 : goal.returns-then-summary-eq0
returns-then-summary-eq0 c =
    let none = ap (λ (s : Summary). s.locks) (sym c.summary.ensures) ∙ c.if-summary-eq0.true in
    sym (none_first (is_next_lock c.args.after.now) c.args.page.now (unlocked_page c.args.after.now c.args.page.now none))

pub returns : goal.returns
returns c =
    let rise = subst (λ rows. keys_rise rows ≡ true) (sym c.rows.ensures) c.requires in
    c.next_locked.ensures ∙ first_row_is (is_next_lock c.args.after.now) c.rows.result.now rise ∙ ap (first_in (is_next_lock c.args.after.now)) c.rows.ensures
