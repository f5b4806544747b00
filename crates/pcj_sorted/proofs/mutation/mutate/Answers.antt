use Rattle.std.proofs.Common.{◌∙◌, ap, sym, subst}
use Rattle.std.proofs.lemmas.Result.{IfOk-weaker}
use Rattle.pcj_table.specs.Row.{conds_hold}
use Rattle.pcj_sorted.specs.Place.{IsRowAt, IsGapAt}
use Rattle.pcj_sorted.proofs.Tables.{row_found, row_missing, changes_mutate, changes_rise, creates_mutate, creates_rise, rise_after}
use Rattle.pcj_sorted.proofs.mutation.mutate.Goals as goal

pub returns-in-Ok-clause-done : goal.returns-in-Ok-clause-done
returns-in-Ok-clause-done c =
    let place = subst (λ rows. IsRowAt c.args.key.now rows c.in-Ok.at) c.deref.ensures.value c.in-Ok.ensures.place in
    IfOk-weaker c.change.result _ _ (changes_mutate c.args.key.now c.args.rows.now.items c.change.new.rows.items c.in-Ok.at c.args.conds.now c.args.updates.now c.requires place) c.change.ensures.done

pub returns-in-Err-clause-done : goal.returns-in-Err-clause-done
returns-in-Err-clause-done c =
    let place = subst (λ rows. IsGapAt c.args.key.now rows c.in-Err.at) c.deref.ensures.value c.in-Err.ensures.place in
    IfOk-weaker c.create.result _ _ (creates_mutate c.args.key.now c.args.rows.now.items c.create.new.rows.items c.in-Err.at c.args.conds.now c.args.updates.now c.requires place) c.create.ensures.done

pub returns-in-Ok-clause-sorted : goal.returns-in-Ok-clause-sorted
returns-in-Ok-clause-sorted c =
    let place = subst (λ rows. IsRowAt c.args.key.now rows c.in-Ok.at) c.deref.ensures.value c.in-Ok.ensures.place in
    rise_after c.change.result c.args.rows.now.items c.change.new.rows.items c.requires (changes_rise c.args.key.now c.args.rows.now.items c.change.new.rows.items c.in-Ok.at c.args.conds.now c.args.updates.now c.requires place) c.change.ensures.done c.change.ensures.err

pub returns-in-Err-clause-sorted : goal.returns-in-Err-clause-sorted
returns-in-Err-clause-sorted c =
    let place = subst (λ rows. IsGapAt c.args.key.now rows c.in-Err.at) c.deref.ensures.value c.in-Err.ensures.place in
    rise_after c.create.result c.args.rows.now.items c.create.new.rows.items c.requires (creates_rise c.args.key.now c.args.rows.now.items c.create.new.rows.items c.in-Err.at c.args.conds.now c.args.updates.now c.requires place) c.create.ensures.done c.create.ensures.err

pub returns-in-Ok-clause-drops : goal.returns-in-Ok-clause-drops
returns-in-Ok-clause-drops c updates holds =
    let place = subst (λ rows. IsRowAt c.args.key.now rows c.in-Ok.at) c.deref.ensures.value c.in-Ok.ensures.place in
    c.change.ensures.drops updates (ap (λ r. conds_hold r c.args.conds.now) (sym (row_found c.args.key.now c.args.rows.now.items c.in-Ok.at c.requires place)) ∙ holds)

pub returns-in-Err-clause-drops : goal.returns-in-Err-clause-drops
returns-in-Err-clause-drops c updates holds =
    let place = subst (λ rows. IsGapAt c.args.key.now rows c.in-Err.at) c.deref.ensures.value c.in-Err.ensures.place in
    c.create.ensures.drops updates (ap (λ r. conds_hold r c.args.conds.now) (sym (row_missing c.args.key.now c.args.rows.now.items c.in-Err.at c.requires place)) ∙ holds)
