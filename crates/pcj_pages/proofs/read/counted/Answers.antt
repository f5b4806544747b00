use Rattle.std.proofs.Common.{◌≡◌, ◌∙◌, true, ap, sym, subst}
use Rattle.pcj_table.specs.Table.{is_counted_between}
use Rattle.pcj_sorted.specs.Entries.{keys_rise}
use Rattle.pcj_pages.specs.declared.summary.Summary.{Summary}
use Rattle.pcj_pages.specs.Walk.{count_in}
use Rattle.pcj_pages.proofs.Walks.{rows_that_are}
use Rattle.pcj_pages.proofs.Passed.{counted_page}
use Rattle.pcj_pages.proofs.read.counted.Goals as goal

pub returns-then-not-starts_before : goal.returns-then-not-starts_before
returns-then-not-starts_before c =
    ap (λ (s : Summary). s.live) c.summary.ensures
    ∙ counted_page c.args.from.now c.args.end.now c.args.page.now c.requires (sym c.starts_before.ensures ∙ c.if-not-starts_before.true) (sym c.ends_before.ensures ∙ c.if-ends_before.true)

pub returns-else-ends_before : goal.returns-else-ends_before
returns-else-ends_before c =
    let rise = subst (λ rows. keys_rise rows ≡ true) (sym c.rows.ensures) c.requires in
    c.count_between.ensures ∙ rows_that_are (is_counted_between c.args.from.now c.args.end.now) c.rows.result.now rise ∙ ap (count_in (is_counted_between c.args.from.now c.args.end.now)) c.rows.ensures
