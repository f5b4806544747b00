use Rattle.std.proofs.Common.{◌≡◌, rules, true, false, refl, ap, subst, sym, ◌∙◌, arith}
use Rattle.pcj_clients.specs.Steps.{goes_on}
use Rattle.pcj_clients.proofs.StepsLemmas.{SoFar, are_steps_of, fault_rose, is_step_of, on_error, one_more, so_far_none, up_to, wants_memory}
use Rattle.pcj_clients.proofs.clients.Clients.steps.Goals as goal

pub returns-in_err-goes_on-clause-memory : goal.returns-in_err-goes_on-clause-memory
returns-in_err-goes_on-clause-memory g c =
    let far = subst (λ b. SoFar c.args.client c.args.most c.args.self.now c.args.oracle.now (g.T.RowTable.rows c.args.table.now) (g.T.RowTable.made c.args.table.now) b true c.loop-goes_on.stepped c.loop-goes_on.self c.loop-goes_on.oracle (g.T.RowTable.rows c.loop-goes_on.table) (g.T.RowTable.made c.loop-goes_on.table)) c.loop-goes_on-test.true c.loop-goes_on.invariant.0 in
    let step = is_step_of c.step-told.result c.args.client c.loop-goes_on.self c.step-told.new.self c.loop-goes_on.oracle c.step-told.new.oracle (g.T.RowTable.rows c.loop-goes_on.table) (g.T.RowTable.rows c.step-told.new.table) c.step-told.ensures.told c.step-told.ensures.same c.step-told.ensures.kept c.step-told.ensures.spent c.step-told.ensures.spent_draw in
    on_error c.from_residual.result (wants_memory c.step-told.result c.args.client c.args.most c.args.self.now c.loop-goes_on.self c.step-told.new.self c.args.oracle.now c.loop-goes_on.oracle c.step-told.new.oracle (g.T.RowTable.rows c.args.table.now) (g.T.RowTable.rows c.loop-goes_on.table) (g.T.RowTable.rows c.step-told.new.table) (g.T.RowTable.made c.args.table.now) (g.T.RowTable.made c.loop-goes_on.table) c.loop-goes_on.stepped far c.if-stepped-most.true step c.step-told.ensures.triples c.step-told.ensures.queries (c.in_err-goes_on.ensures {u = tt}).memory)

pub returns-in_err-goes_on-clause-sound : goal.returns-in_err-goes_on-clause-sound
returns-in_err-goes_on-clause-sound g c others sound = c.step-told.ensures.sound others (c.loop-goes_on.invariant.0.sound others sound)

pub loop-goes_on-preserved : goal.loop-goes_on-preserved
loop-goes_on-preserved g c =
    let far = subst (λ b. SoFar c.args.client c.args.most c.args.self.now c.args.oracle.now (g.T.RowTable.rows c.args.table.now) (g.T.RowTable.made c.args.table.now) b true c.loop-goes_on.stepped c.loop-goes_on.self c.loop-goes_on.oracle (g.T.RowTable.rows c.loop-goes_on.table) (g.T.RowTable.made c.loop-goes_on.table)) c.loop-goes_on-test.true c.loop-goes_on.invariant.0 in
    let step = is_step_of c.step-told.result c.args.client c.loop-goes_on.self c.step-told.new.self c.loop-goes_on.oracle c.step-told.new.oracle (g.T.RowTable.rows c.loop-goes_on.table) (g.T.RowTable.rows c.step-told.new.table) c.step-told.ensures.told c.step-told.ensures.same c.step-told.ensures.kept c.step-told.ensures.spent c.step-told.ensures.spent_draw in
    let more = one_more c.step-told.result c.args.client c.args.most c.args.self.now c.loop-goes_on.self c.step-told.new.self c.args.oracle.now c.loop-goes_on.oracle c.step-told.new.oracle (g.T.RowTable.rows c.args.table.now) (g.T.RowTable.rows c.loop-goes_on.table) (g.T.RowTable.rows c.step-told.new.table) (g.T.RowTable.made c.args.table.now) (g.T.RowTable.made c.loop-goes_on.table) (g.T.RowTable.made c.step-told.new.table) c.loop-goes_on.stepped c.take_in.new.self far c.if-stepped-most.true step c.step-told.ensures.sound c.step-told.ensures.triples c.step-told.ensures.queries c.take_in.ensures.taken c.step-told.ensures.calls c.step-told.ensures.one in (
      subst (λ b. SoFar c.args.client c.args.most c.args.self.now c.args.oracle.now (g.T.RowTable.rows c.args.table.now) (g.T.RowTable.made c.args.table.now) b true c.take_in.new.self c.step-told.new.self c.step-told.new.oracle (g.T.RowTable.rows c.step-told.new.table) (g.T.RowTable.made c.step-told.new.table)) (sym c.in_ok-goes_on.ensures.goes)
          (subst (λ h. SoFar c.args.client c.args.most c.args.self.now c.args.oracle.now (g.T.RowTable.rows c.args.table.now) (g.T.RowTable.made c.args.table.now) (goes_on c.step-told.result) h c.take_in.new.self c.step-told.new.self c.step-told.new.oracle (g.T.RowTable.rows c.step-told.new.table) (g.T.RowTable.made c.step-told.new.table)) c.in_ok-goes_on.ensures.had more),
      c.step-told.ensures.clock,
      (let before = c.loop-goes_on.invariant.2 in let after = c.step-told.ensures.cause.later in omega arith),
      λ is. fault_rose c.loop-goes_on.stepped c.step-told.result _ _ _ (far.end refl) c.loop-goes_on.invariant.2 c.step-told.ensures.cause.failed (ap (λ s. s.end) (sym c.take_in.ensures.taken) ∙ is),
    )

pub returns-in_err-goes_on-clause-most_calls : goal.returns-in_err-goes_on-clause-most_calls
returns-in_err-goes_on-clause-most_calls g c =
    let far = subst (λ b. SoFar c.args.client c.args.most c.args.self.now c.args.oracle.now (g.T.RowTable.rows c.args.table.now) (g.T.RowTable.made c.args.table.now) b true c.loop-goes_on.stepped c.loop-goes_on.self c.loop-goes_on.oracle (g.T.RowTable.rows c.loop-goes_on.table) (g.T.RowTable.made c.loop-goes_on.table)) c.loop-goes_on-test.true c.loop-goes_on.invariant.0 in
    let step = is_step_of c.step-told.result c.args.client c.loop-goes_on.self c.step-told.new.self c.loop-goes_on.oracle c.step-told.new.oracle (g.T.RowTable.rows c.loop-goes_on.table) (g.T.RowTable.rows c.step-told.new.table) c.step-told.ensures.told c.step-told.ensures.same c.step-told.ensures.kept c.step-told.ensures.spent c.step-told.ensures.spent_draw in
    let more = one_more c.step-told.result c.args.client c.args.most c.args.self.now c.loop-goes_on.self c.step-told.new.self c.args.oracle.now c.loop-goes_on.oracle c.step-told.new.oracle (g.T.RowTable.rows c.args.table.now) (g.T.RowTable.rows c.loop-goes_on.table) (g.T.RowTable.rows c.step-told.new.table) (g.T.RowTable.made c.args.table.now) (g.T.RowTable.made c.loop-goes_on.table) (g.T.RowTable.made c.step-told.new.table) c.loop-goes_on.stepped c.take_in.new.self far c.if-stepped-most.true step c.step-told.ensures.sound c.step-told.ensures.triples c.step-told.ensures.queries c.take_in.ensures.taken c.step-told.ensures.calls c.step-told.ensures.one in
    up_to _ c.args.most _ _ _ _ more.within more.calls

pub returns-else-stepped-most-clause-steps : goal.returns-else-stepped-most-clause-steps
returns-else-stepped-most-clause-steps g c = are_steps_of c.args.client c.args.most c.args.self.now c.args.oracle.now (g.T.RowTable.rows c.args.table.now) (g.T.RowTable.made c.args.table.now) c.loop-goes_on.goes_on c.loop-goes_on.stepped c.loop-goes_on.self c.loop-goes_on.oracle (g.T.RowTable.rows c.loop-goes_on.table) (g.T.RowTable.made c.loop-goes_on.table)
    c.loop-goes_on.invariant.0 (λ t less. let more = c.if-stepped-most.false in omega (arith, less, more))

pub returns-after-loop-goes_on-clause-steps : goal.returns-after-loop-goes_on-clause-steps
returns-after-loop-goes_on-clause-steps g c = are_steps_of c.args.client c.args.most c.args.self.now c.args.oracle.now (g.T.RowTable.rows c.args.table.now) (g.T.RowTable.made c.args.table.now) c.loop-goes_on.goes_on c.loop-goes_on.stepped c.loop-goes_on.self c.loop-goes_on.oracle (g.T.RowTable.rows c.loop-goes_on.table) (g.T.RowTable.made c.loop-goes_on.table)
    c.loop-goes_on.invariant.0 (λ t less. absurd (let clash : false ≡ true = sym c.loop-goes_on-test.false ∙ t in cc))

pub returns-else-stepped-most-clause-calls : goal.returns-else-stepped-most-clause-calls
returns-else-stepped-most-clause-calls g c = c.loop-goes_on.invariant.0.count_calls refl

pub returns-after-loop-goes_on-clause-calls : goal.returns-after-loop-goes_on-clause-calls
returns-after-loop-goes_on-clause-calls g c = c.loop-goes_on.invariant.0.count_calls refl

pub returns-else-stepped-most-clause-most_calls : goal.returns-else-stepped-most-clause-most_calls
returns-else-stepped-most-clause-most_calls g c = up_to _ c.args.most _ _ _ _ c.loop-goes_on.invariant.0.within c.loop-goes_on.invariant.0.calls

pub returns-after-loop-goes_on-clause-most_calls : goal.returns-after-loop-goes_on-clause-most_calls
returns-after-loop-goes_on-clause-most_calls g c = up_to _ c.args.most _ _ _ _ c.loop-goes_on.invariant.0.within c.loop-goes_on.invariant.0.calls

pub loop-goes_on-init : goal.loop-goes_on-init
loop-goes_on-init g c = (
  subst (λ s. SoFar c.args.client c.args.most c.args.self.now c.args.oracle.now (g.T.RowTable.rows c.args.table.now) (g.T.RowTable.made c.args.table.now) true true s c.args.self.now c.args.oracle.now (g.T.RowTable.rows c.args.table.now) (g.T.RowTable.made c.args.table.now))
      (sym c.none-stepped.ensures) (so_far_none c.args.client c.args.most c.args.self.now c.args.oracle.now (g.T.RowTable.rows c.args.table.now) (g.T.RowTable.made c.args.table.now)),
  search rules,
  search rules,
  search rules,
)
