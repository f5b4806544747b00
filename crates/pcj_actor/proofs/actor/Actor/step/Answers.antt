use Rattle.std.proofs.Common.{Ok, is_some, sym, ap}
use Rattle.pcj_actor.proofs.ActorLemmas.{one_at_most, recovery_keeps_number, recovery_calls}
use Rattle.pcj_actor.proofs.actor.Actor.step.Goals as goal

pub returns-in-Some-clause-first : goal.returns-in-Some-clause-first
returns-in-Some-clause-first g c = sym (ap is_some ((c.in_ok-event.ensures {u = tt}).some c.in-Some.event (ap Ok c.in-Some.is)).is)

pub returns-in-Some-clause-moves : goal.returns-in-Some-clause-moves
returns-in-Some-clause-moves g c others plain is =
    recovery_keeps_number c.args.oracle.now _ _ c.args.self.now c.recover.new.self (c.in_ok-event.ensures {u = tt}).plain is.times (c.in_ok-event.ensures {u = tt}).moves

pub returns-in_err-event-clause-calls : goal.returns-in_err-event-clause-calls
returns-in_err-event-clause-calls g c = recovery_calls c.args.self.now c.args.oracle.now _ _ _ (c.in_err-event.ensures {u = tt}).there (c.in_err-event.ensures {u = tt}).most

pub returns-in-Some-clause-calls : goal.returns-in-Some-clause-calls
returns-in-Some-clause-calls g c =
    recovery_calls c.args.self.now c.args.oracle.now _ _ _ (ap is_some ((c.in_ok-event.ensures {u = tt}).some c.in-Some.event (ap Ok c.in-Some.is)).is) (c.in_ok-event.ensures {u = tt}).most

pub returns-in_err-event-clause-one : goal.returns-in_err-event-clause-one
returns-in_err-event-clause-one g c = one_at_most c.args.oracle.now _ _ (c.in_err-event.ensures {u = tt}).most

pub returns-in-Some-clause-one : goal.returns-in-Some-clause-one
returns-in-Some-clause-one g c = one_at_most c.args.oracle.now _ _ (c.in_ok-event.ensures {u = tt}).most
