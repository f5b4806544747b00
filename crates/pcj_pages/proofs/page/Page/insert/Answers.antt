use Rattle.std.proofs.Common.{◌≡◌, ◌≤◌, ◌∙◌, length, ap, sym, subst, arith, is_some}
use Rattle.pcj_table.specs.Row.{is_counted}
use Rattle.pcj_pages.specs.declared.page.Rows.{Rows}
use Rattle.pcj_pages.specs.declared.summary.Summary.{Summary}
use Rattle.pcj_pages.specs.Adding.{summed}
use Rattle.pcj_pages.specs.Summary.{summary_of}
use Rattle.pcj_pages.proofs.Summaries.{one_at_most, live_few, locks_few, summary_inserted}
use Rattle.pcj_pages.proofs.page.Page.insert.Goals as goal

pub and-requires-clause-live : goal.and-requires-clause-live
and-requires-clause-live c =
    let known : c.deref_mut.result.now.summary ≡ summary_of c.deref_mut.result.now.rows.items =
    subst (λ (r : Rows). r.summary ≡ summary_of r.rows.items) (sym c.deref_mut.ensures.value) c.self.invariant in
    let live = ap (λ (s : Summary). s.live) (ap (λ (r : Rows). r.summary) c.deref.ensures ∙ known) in
    let few = live_few c.deref_mut.result.now.rows.items in
    let is = ap (λ (s : Summary). s.live) c.of_row-new.ensures in
    let one = one_at_most (is_counted c.args.found.row) in
    omega (arith, live, few, is, one, c.deref_mut.result.now.rows.ok.0, c.deref_mut.result.now.rows.ok.1, c.deref_mut.result.now.rows.small)

pub and-requires-clause-locks : goal.and-requires-clause-locks
and-requires-clause-locks c =
    let known : c.deref_mut.result.now.summary ≡ summary_of c.deref_mut.result.now.rows.items =
    subst (λ (r : Rows). r.summary ≡ summary_of r.rows.items) (sym c.deref_mut.ensures.value) c.self.invariant in
    let locks = ap (λ (s : Summary). s.locks) (ap (λ (r : Rows). r.summary) c.deref.ensures ∙ known) in
    let few = locks_few c.deref_mut.result.now.rows.items in
    let is = ap (λ (s : Summary). s.locks) c.of_row-new.ensures in
    let one = one_at_most (is_some c.args.found.row.lock) in
    omega (arith, locks, few, is, one, c.deref_mut.result.now.rows.ok.0, c.deref_mut.result.now.rows.ok.1, c.deref_mut.result.now.rows.small)

pub invariant_of-self-2 : goal.invariant_of-self-2
invariant_of-self-2 c =
    let known : c.deref_mut.result.now.summary ≡ summary_of c.deref_mut.result.now.rows.items =
    subst (λ (r : Rows). r.summary ≡ summary_of r.rows.items) (sym c.deref_mut.ensures.value) c.self.invariant in
    let summary : c.deref.result.now.summary ≡ summary_of c.deref_mut.result.now.rows.items = ap (λ (r : Rows). r.summary) c.deref.ensures ∙ known in
    let place = subst (λ (r : Rows). c.args.at ≤ length r.rows.items) (sym c.deref_mut.ensures.value) (subst (λ rows. c.args.at ≤ length rows) (sym c.self.view_is) c.requires.place) in
    let items = ap (λ (r : Rows). r.rows.items) c.deref_mut-2.ensures.value ∙ c.in_ok-insert.ensures.items in
    c.and.ensures ∙ ap (λ s. summed s c.of_row-new.result) summary ∙ ap (summed (summary_of c.deref_mut.result.now.rows.items)) c.of_row-new.ensures
    ∙ summary_inserted c.deref_mut.result.now.rows.items c.args.at c.args.found place ∙ ap summary_of (sym items)
