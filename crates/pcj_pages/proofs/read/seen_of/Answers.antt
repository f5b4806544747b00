use Rattle.std.proofs.Common.{◌≡◌, ◌∙◌, true, ap, sym, subst}
use Rattle.pcj_table.specs.Table.{is_next_at}
use Rattle.pcj_sorted.specs.Entries.{keys_rise}
use Rattle.pcj_pages.specs.Summary.{is_dead_at}
use Rattle.pcj_pages.specs.Walk.{first_in}
use Rattle.pcj_pages.proofs.Walks.{first_row_is, none_first}
use Rattle.pcj_pages.proofs.Passed.{dead_page}
use Rattle.pcj_pages.proofs.read.seen_of.Goals as goal

pub returns-then-is_dead_at : goal.returns-then-is_dead_at
returns-then-is_dead_at c =
    let dead = ap (is_dead_at c.args.at) (sym c.summary.ensures) ∙ sym c.is_dead_at.ensures ∙ c.if-is_dead_at.true in
    sym (none_first (is_next_at c.args.after.now c.args.end.now c.args.at) c.args.page.now (dead_page c.args.after.now c.args.end.now c.args.at c.args.page.now dead))

pub returns : goal.returns
returns c =
    let rise = subst (λ rows. keys_rise rows ≡ true) (sym c.rows.ensures) c.requires in
    c.next_seen.ensures ∙ first_row_is (is_next_at c.args.after.now c.args.end.now c.args.at) c.rows.result.now rise ∙ ap (first_in (is_next_at c.args.after.now c.args.end.now c.args.at)) c.rows.ensures
