use Rattle.pcj_actor.proofs.ActorLemmas.{as_step, recovery_goes_on, recovery_ends, recovered_last}
use Rattle.pcj_actor.proofs.actor.Actor.recover.Goals as goal

pub returns-in-Working-clause-moves : goal.returns-in-Working-clause-moves
returns-in-Working-clause-moves g c number order =
    as_step c.args.self.now _ _ _ _ _ (recovery_goes_on number _ c.self.inside.start c.self.inside.answers c.self.inside.task c.self.inside.recovery c.in-Some.recovery c.step.new.self _ _ c.in_ok-ended.ended c.self.view_is c.in-Some.is order (c.in_ok-ended.ensures {u = tt}).step)

pub returns-in_default-2 : goal.returns-in_default-2
returns-in_default-2 g c = record {
  moves = λ number order. as_step c.args.self.now _ _ _ _ _ (recovery_ends number _ c.self.inside.start c.self.inside.answers c.self.inside.task c.self.inside.recovery c.in-Some.recovery c.step.new.self _ _ c.in_ok-ended.ended c.self.view_is c.in-Some.is order (c.in_ok-ended.ensures {u = tt}).step);
  same = tt;
  err = tt;
  there = tt;
  cause = record { later = (c.in_ok-ended.ensures {u = tt}).cause.later; failed = λ is. absurd cc };
  plain = (c.in_ok-ended.ensures {u = tt}).plain;
  some = λ event told. recovered_last _ c.self.inside.start c.self.inside.answers c.self.inside.task c.self.inside.recovery c.in-Some.recovery c.step.new.self _ _ c.in_ok-ended.ended event c.self.view_is c.in-Some.is (c.in_ok-ended.ensures {u = tt}).step c.in_default-2.not-Working cc;
  most = (c.in_ok-ended.ensures {u = tt}).most;
  none = λ told. absurd cc;
}
