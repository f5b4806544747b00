use Rattle.std.proofs.Common.{◌≡◌, ◌<◌, ◌∙◌, length, ap, sym, subst, arith}
use Rattle.pcj_table.specs.declared.found.Found.{Found}
use Rattle.pcj_sorted.proofs.Edits.{row_in_is}
use Rattle.pcj_pages.specs.declared.page.Rows.{Rows}
use Rattle.pcj_pages.specs.declared.summary.Summary.{Summary}
use Rattle.pcj_pages.specs.Adding.{row_summary, left_at}
use Rattle.pcj_pages.specs.Summary.{summary_of}
use Rattle.pcj_pages.proofs.Summaries.{same_summary, live_few, locks_few}
use Rattle.pcj_pages.proofs.Replacing.{Replaces, replaces, live_has, locks_has}
use Rattle.pcj_pages.proofs.page.Page.change.Goals as goal

pub replaced-requires-clause-live : goal.replaced-requires-clause-live
replaced-requires-clause-live c =
    let known : c.deref_mut.result.now.summary ≡ summary_of c.deref_mut.result.now.rows.items =
    subst (λ (r : Rows). r.summary ≡ summary_of r.rows.items) (sym c.deref_mut.ensures.value) c.self.invariant in
    let within : c.args.at < length c.deref_mut.result.now.rows.items =
    subst (λ (r : Rows). c.args.at < length r.rows.items) (sym c.deref_mut.ensures.value) (subst (λ rows. c.args.at < length rows) (sym c.self.view_is) c.requires) in
    let summary = ap (λ (r : Rows). r.summary) c.deref-2.ensures ∙ known in
    let old = c.of_row-old.ensures ∙ ap (λ (f : Found). row_summary f.row) c.index.ensures ∙ ap row_summary (sym (row_in_is c.deref_mut.result.now.rows.items c.args.at c.index.result.now within)) in
    let has = live_has c.deref_mut.result.now.rows.items c.args.at within in
    omega (arith, has, ap (λ (s : Summary). s.live) summary, ap (λ (s : Summary). s.live) old)

pub replaced-requires-clause-live_fit : goal.replaced-requires-clause-live_fit
replaced-requires-clause-live_fit c =
    let known : c.deref_mut.result.now.summary ≡ summary_of c.deref_mut.result.now.rows.items =
    subst (λ (r : Rows). r.summary ≡ summary_of r.rows.items) (sym c.deref_mut.ensures.value) c.self.invariant in
    let within : c.args.at < length c.deref_mut.result.now.rows.items =
    subst (λ (r : Rows). c.args.at < length r.rows.items) (sym c.deref_mut.ensures.value) (subst (λ rows. c.args.at < length rows) (sym c.self.view_is) c.requires) in
    let summary = ap (λ (r : Rows). r.summary) c.deref-2.ensures ∙ known in
    let old = c.of_row-old.ensures ∙ ap (λ (f : Found). row_summary f.row) c.index.ensures ∙ ap row_summary (sym (row_in_is c.deref_mut.result.now.rows.items c.args.at c.index.result.now within)) in
    let new = c.left_at-new.ensures ∙ ap (λ rows. left_at rows c.args.at c.len-count.result) c.deref.ensures.value ∙ ap (left_at c.change.new.rows.items c.args.at) (c.len-count.ensures ∙ c.deref_mut.result.now.rows.ok.0) in
    let replaced = subst (Replaces c.deref_mut.result.now.rows.items c.change.new.rows.items c.args.at) (sym new)
    (replaces c.deref_mut.result.now.rows.items c.change.new.rows.items c.args.at c.args.conds.now c.args.updates.now within c.in_ok-done.done c.in_ok-done.ensures.done) in
    let few = live_few c.change.new.rows.items in
    omega (arith, few, replaced.live, ap (λ (s : Summary). s.live) summary, ap (λ (s : Summary). s.live) old, c.change.new.rows.ok.0, c.change.new.rows.ok.1, c.change.new.rows.small)

pub replaced-requires-clause-locks : goal.replaced-requires-clause-locks
replaced-requires-clause-locks c =
    let known : c.deref_mut.result.now.summary ≡ summary_of c.deref_mut.result.now.rows.items =
    subst (λ (r : Rows). r.summary ≡ summary_of r.rows.items) (sym c.deref_mut.ensures.value) c.self.invariant in
    let within : c.args.at < length c.deref_mut.result.now.rows.items =
    subst (λ (r : Rows). c.args.at < length r.rows.items) (sym c.deref_mut.ensures.value) (subst (λ rows. c.args.at < length rows) (sym c.self.view_is) c.requires) in
    let summary = ap (λ (r : Rows). r.summary) c.deref-2.ensures ∙ known in
    let old = c.of_row-old.ensures ∙ ap (λ (f : Found). row_summary f.row) c.index.ensures ∙ ap row_summary (sym (row_in_is c.deref_mut.result.now.rows.items c.args.at c.index.result.now within)) in
    let has = locks_has c.deref_mut.result.now.rows.items c.args.at within in
    omega (arith, has, ap (λ (s : Summary). s.locks) summary, ap (λ (s : Summary). s.locks) old)

pub replaced-requires-clause-locks_fit : goal.replaced-requires-clause-locks_fit
replaced-requires-clause-locks_fit c =
    let known : c.deref_mut.result.now.summary ≡ summary_of c.deref_mut.result.now.rows.items =
    subst (λ (r : Rows). r.summary ≡ summary_of r.rows.items) (sym c.deref_mut.ensures.value) c.self.invariant in
    let within : c.args.at < length c.deref_mut.result.now.rows.items =
    subst (λ (r : Rows). c.args.at < length r.rows.items) (sym c.deref_mut.ensures.value) (subst (λ rows. c.args.at < length rows) (sym c.self.view_is) c.requires) in
    let summary = ap (λ (r : Rows). r.summary) c.deref-2.ensures ∙ known in
    let old = c.of_row-old.ensures ∙ ap (λ (f : Found). row_summary f.row) c.index.ensures ∙ ap row_summary (sym (row_in_is c.deref_mut.result.now.rows.items c.args.at c.index.result.now within)) in
    let new = c.left_at-new.ensures ∙ ap (λ rows. left_at rows c.args.at c.len-count.result) c.deref.ensures.value ∙ ap (left_at c.change.new.rows.items c.args.at) (c.len-count.ensures ∙ c.deref_mut.result.now.rows.ok.0) in
    let replaced = subst (Replaces c.deref_mut.result.now.rows.items c.change.new.rows.items c.args.at) (sym new)
    (replaces c.deref_mut.result.now.rows.items c.change.new.rows.items c.args.at c.args.conds.now c.args.updates.now within c.in_ok-done.done c.in_ok-done.ensures.done) in
    let few = locks_few c.change.new.rows.items in
    omega (arith, few, replaced.locks, ap (λ (s : Summary). s.locks) summary, ap (λ (s : Summary). s.locks) old, c.change.new.rows.ok.0, c.change.new.rows.ok.1, c.change.new.rows.small)

pub invariant_of-self-2 : goal.invariant_of-self-2
invariant_of-self-2 c =
    let known : c.deref_mut.result.now.summary ≡ summary_of c.deref_mut.result.now.rows.items =
    subst (λ (r : Rows). r.summary ≡ summary_of r.rows.items) (sym c.deref_mut.ensures.value) c.self.invariant in
    let within : c.args.at < length c.deref_mut.result.now.rows.items =
    subst (λ (r : Rows). c.args.at < length r.rows.items) (sym c.deref_mut.ensures.value) (subst (λ rows. c.args.at < length rows) (sym c.self.view_is) c.requires) in
    let summary = ap (λ (r : Rows). r.summary) c.deref-2.ensures ∙ known in
    let old = c.of_row-old.ensures ∙ ap (λ (f : Found). row_summary f.row) c.index.ensures ∙ ap row_summary (sym (row_in_is c.deref_mut.result.now.rows.items c.args.at c.index.result.now within)) in
    let new = c.left_at-new.ensures ∙ ap (λ rows. left_at rows c.args.at c.len-count.result) c.deref.ensures.value ∙ ap (left_at c.change.new.rows.items c.args.at) (c.len-count.ensures ∙ c.deref_mut.result.now.rows.ok.0) in
    let replaced = subst (Replaces c.deref_mut.result.now.rows.items c.change.new.rows.items c.args.at) (sym new)
    (replaces c.deref_mut.result.now.rows.items c.change.new.rows.items c.args.at c.args.conds.now c.args.updates.now within c.in_ok-done.done c.in_ok-done.ensures.done) in
    let live = ap (λ (s : Summary). s.live) summary in
    let locks = ap (λ (s : Summary). s.locks) summary in
    let newest = ap (λ (s : Summary). s.newest) summary in
    let old_live = ap (λ (s : Summary). s.live) old in
    let old_locks = ap (λ (s : Summary). s.locks) old in
    let has_live = live_has c.deref_mut.result.now.rows.items c.args.at within in
    let has_locks = locks_has c.deref_mut.result.now.rows.items c.args.at within in
    same_summary _ _ (omega (arith, c.replaced.ensures.live, replaced.live, live, old_live, has_live)) (omega (arith, c.replaced.ensures.locks, replaced.locks, locks, old_locks, has_locks)) (omega (arith, c.replaced.ensures.newest, replaced.newest, newest))
    ∙ ap (λ (r : Rows). summary_of r.rows.items) (sym c.deref_mut-2.ensures.value)
