use Rattle.std.proofs.Common.{inr, [], rules, refl, sym, subst, ap, ◌∙◌}
use Rattle.pcj_table.specs.Table.{row_at}
use Rattle.pcj_actor.specs.declared.task.Task.TheVariants.{Get, Next}
use Rattle.pcj_actor.specs.Progress.{Progress, ReadsNoPlain}
use Rattle.pcj_actor.proofs.ActorLemmas.{one_at_most, progress_as, put_moves, put_keeps_clock, read_calls, txn_calls, held_tells, written_tells, read_is_held, txn_goes_on, txn_meets}
use Rattle.pcj_actor.proofs.actor.Actor.carry_out.Goals as goal

pub returns-in_ok-hold-in-Get-clause-tells : goal.returns-in_ok-hold-in-Get-clause-tells
returns-in_ok-hold-in-Get-clause-tells g c =
    held_tells c.args.oracle.now _ _ c.args.self.now c.hold.new.self c.self.inside.start c.self.inside.answers (Get c.in-Get.key) c.self.inside.recovery c.in_ok-told-in-Get.told c.in_ok-hold-in-Get.field-0
    (ap (λ t. progress_as c.self.inside.start c.self.inside.answers t c.self.inside.recovery) (sym c.in-Get.is) ∙ c.self.view_is)
    (c.in_ok-told-in-Get.ensures {u = tt}).rows (λ order plain. (c.in_ok-told-in-Get.ensures {u = tt}).told order) (c.in_ok-told-in-Get.ensures {u = tt}).of
    (c.in_ok-hold-in-Get.ensures {u = tt}).answer (c.in_ok-hold-in-Get.ensures {u = tt}).met (c.in_ok-hold-in-Get.ensures {u = tt}).event

pub returns-in_ok-hold-in-Get-clause-moves : goal.returns-in_ok-hold-in-Get-clause-moves
returns-in_ok-hold-in-Get-clause-moves g c others plain is =
    read_is_held c.args.oracle.now _ _ others c.args.self.now c.hold.new.self c.self.inside.start c.self.inside.answers (Get c.in-Get.key) c.self.inside.recovery c.in_ok-told-in-Get.told
    (ap (λ t. progress_as c.self.inside.start c.self.inside.answers t c.self.inside.recovery) (sym c.in-Get.is) ∙ c.self.view_is)
    tt (c.in_ok-told-in-Get.ensures {u = tt}).rows ((c.in_ok-told-in-Get.ensures {u = tt}).told is.times)
    (c.in_ok-hold-in-Get.ensures {u = tt}).answer (c.in_ok-hold-in-Get.ensures {u = tt}).met is

pub returns-in_ok-hold-in-Next-clause-tells : goal.returns-in_ok-hold-in-Next-clause-tells
returns-in_ok-hold-in-Next-clause-tells g c =
    held_tells c.args.oracle.now _ _ c.args.self.now c.hold-in-Next.new.self c.self.inside.start c.self.inside.answers (Next c.in-Next.range) c.self.inside.recovery c.in_ok-told-in-Next.told c.in_ok-hold-in-Next.field-0
    (ap (λ t. progress_as c.self.inside.start c.self.inside.answers t c.self.inside.recovery) (sym c.in-Next.is) ∙ c.self.view_is)
    (c.in_ok-told-in-Next.ensures {u = tt}).rows (c.in_ok-told-in-Next.ensures {u = tt}).told (c.in_ok-told-in-Next.ensures {u = tt}).of
    (c.in_ok-hold-in-Next.ensures {u = tt}).answer (c.in_ok-hold-in-Next.ensures {u = tt}).met (c.in_ok-hold-in-Next.ensures {u = tt}).event

pub returns-in_ok-hold-in-Next-clause-moves : goal.returns-in_ok-hold-in-Next-clause-moves
returns-in_ok-hold-in-Next-clause-moves g c others plain is =
    let view = ap (λ t. progress_as c.self.inside.start c.self.inside.answers t c.self.inside.recovery) (sym c.in-Next.is) ∙ c.self.view_is in
    read_is_held c.args.oracle.now _ _ others c.args.self.now c.hold-in-Next.new.self c.self.inside.start c.self.inside.answers (Next c.in-Next.range) c.self.inside.recovery c.in_ok-told-in-Next.told
    view tt (c.in_ok-told-in-Next.ensures {u = tt}).rows
    ((c.in_ok-told-in-Next.ensures {u = tt}).told is.times (subst (λ (p : Progress). ReadsNoPlain p.task (row_at (g.T.RowTable.rows c.args.table.now))) (sym view) plain))
    (c.in_ok-hold-in-Next.ensures {u = tt}).answer (c.in_ok-hold-in-Next.ensures {u = tt}).met is

pub returns-in-MetLock-clause-moves : goal.returns-in-MetLock-clause-moves
returns-in-MetLock-clause-moves g c others plain is =
    txn_meets c.args.oracle.now c.step.new.oracle _ _ others c.args.self.now c.self.inside.start c.self.inside.answers c.self.inside.task c.self.inside.recovery c.in-Write.txn c.step.new.self c.in_ok-event-in-Write.event
    c.in-MetLock.key c.in-MetLock.lock c.new.result c.self.view_is c.in-Write.is c.self.invariant (c.in_ok-event-in-Write.ensures {u = tt}).step c.in-MetLock.is c.new.ensures is

pub returns-in_default : goal.returns-in_default
returns-in_default g c = record {
  tells = written_tells c.args.oracle.now c.step.new.oracle _ _ c.args.self.now c.self.inside.start c.self.inside.answers c.self.inside.task c.self.inside.recovery c.in-Write.txn c.step.new.self c.in_ok-event-in-Write.event
      c.self.view_is c.in-Write.is (c.in_ok-event-in-Write.ensures {u = tt}).step;
  other = refl;
  moves = λ others plain is. txn_goes_on c.args.oracle.now c.step.new.oracle _ _ others c.args.self.now c.self.inside.start c.self.inside.answers c.self.inside.task c.self.inside.recovery c.in-Write.txn c.step.new.self c.in_ok-event-in-Write.event
      c.self.view_is c.in-Write.is c.self.invariant (c.in_ok-event-in-Write.ensures {u = tt}).step is;
  same = tt;
  kept = tt;
  clock = (c.in_ok-event-in-Write.ensures {u = tt}).clock;
  spent = λ is. absurd cc;
  cause = record { later = (c.in_ok-event-in-Write.ensures {u = tt}).cause.later; failed = λ is. absurd cc };
  spent_draw = λ is. absurd cc;
  one = (c.in_ok-event-in-Write.ensures {u = tt}).one;
  calls = txn_calls c.args.self.now c.in-Write.txn c.args.oracle.now _ _ _ _ (ap (λ (p : Progress). p.task) (sym c.self.view_is) ∙ c.in-Write.is) (c.in_ok-event-in-Write.ensures {u = tt}).calls;
}

pub returns-in_err-hold-in-Get-clause-calls : goal.returns-in_err-hold-in-Get-clause-calls
returns-in_err-hold-in-Get-clause-calls g c = read_calls c.args.self.now (Get c.in-Get.key) c.args.oracle.now _ _ _ (ap (λ (p : Progress). p.task) (sym c.self.view_is) ∙ c.in-Get.is) tt (c.in_ok-told-in-Get.ensures {u = tt}).most

pub returns-in_ok-hold-in-Get-clause-calls : goal.returns-in_ok-hold-in-Get-clause-calls
returns-in_ok-hold-in-Get-clause-calls g c = read_calls c.args.self.now (Get c.in-Get.key) c.args.oracle.now _ _ _ (ap (λ (p : Progress). p.task) (sym c.self.view_is) ∙ c.in-Get.is) tt (c.in_ok-told-in-Get.ensures {u = tt}).most

pub returns-in_err-hold-in-Next-clause-calls : goal.returns-in_err-hold-in-Next-clause-calls
returns-in_err-hold-in-Next-clause-calls g c = read_calls c.args.self.now (Next c.in-Next.range) c.args.oracle.now _ _ _ (ap (λ (p : Progress). p.task) (sym c.self.view_is) ∙ c.in-Next.is) tt (c.in_ok-told-in-Next.ensures {u = tt}).most

pub returns-in_ok-hold-in-Next-clause-calls : goal.returns-in_ok-hold-in-Next-clause-calls
returns-in_ok-hold-in-Next-clause-calls g c = read_calls c.args.self.now (Next c.in-Next.range) c.args.oracle.now _ _ _ (ap (λ (p : Progress). p.task) (sym c.self.view_is) ∙ c.in-Next.is) tt (c.in_ok-told-in-Next.ensures {u = tt}).most

pub returns-in_ok-applied-in-Put-clause-moves : goal.returns-in_ok-applied-in-Put-clause-moves
returns-in_ok-applied-in-Put-clause-moves g c others plain is =
    put_moves c.args.oracle.now _ _ c.args.self.now c.self.inside.start c.self.inside.answers c.self.inside.task c.self.inside.recovery c.in-Put.key c.in-Put.plain c.in_ok-applied-in-Put.applied
    c.self.view_is c.in-Put.is c.self.invariant (c.in_ok-applied-in-Put.ensures {u = tt}).done

pub returns-in_ok-applied-in-Put-clause-clock : goal.returns-in_ok-applied-in-Put-clause-clock
returns-in_ok-applied-in-Put-clause-clock g c =
    put_keeps_clock c.args.oracle.now (g.T.RowTable.rows c.args.table.now) _ c.self.inside.start c.self.inside.task c.in-Put.key c.in-Put.plain c.in_ok-applied-in-Put.applied c.in-Put.is c.self.invariant (c.in_ok-applied-in-Put.ensures {u = tt}).done c.requires

pub returns-in_err-hold-in-Get-clause-moves : goal.returns-in_err-hold-in-Get-clause-moves
returns-in_err-hold-in-Get-clause-moves g c others plain is = ([], inr tt, search rules)

pub returns-in_err-hold-in-Next-clause-moves : goal.returns-in_err-hold-in-Next-clause-moves
returns-in_err-hold-in-Next-clause-moves g c others plain is = ([], inr tt, search rules)

pub returns-in_err-event-in-Write-clause-moves : goal.returns-in_err-event-in-Write-clause-moves
returns-in_err-event-in-Write-clause-moves g c others plain is = ([], inr tt, search rules)

pub returns-in_err-hold-in-Get-clause-one : goal.returns-in_err-hold-in-Get-clause-one
returns-in_err-hold-in-Get-clause-one g c = one_at_most c.args.oracle.now _ _ (c.in_ok-told-in-Get.ensures {u = tt}).most

pub returns-in_err-hold-in-Next-clause-one : goal.returns-in_err-hold-in-Next-clause-one
returns-in_err-hold-in-Next-clause-one g c = one_at_most c.args.oracle.now _ _ (c.in_ok-told-in-Next.ensures {u = tt}).most

pub returns-in_ok-hold-in-Get-clause-one : goal.returns-in_ok-hold-in-Get-clause-one
returns-in_ok-hold-in-Get-clause-one g c = one_at_most c.args.oracle.now _ _ (c.in_ok-told-in-Get.ensures {u = tt}).most

pub returns-in_ok-hold-in-Next-clause-one : goal.returns-in_ok-hold-in-Next-clause-one
returns-in_ok-hold-in-Next-clause-one g c = one_at_most c.args.oracle.now _ _ (c.in_ok-told-in-Next.ensures {u = tt}).most
