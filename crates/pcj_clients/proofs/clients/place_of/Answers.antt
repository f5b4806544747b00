use Rattle.std.proofs.Common.{rules, ◌≡◌, refl, subst, suc, take, None}
use Rattle.std.proofs.lemmas.Option.{slice_get_read}
use Rattle.pcj_clients.proofs.PlaceLemmas.{all_before, passed}
use Rattle.pcj_moves.proofs.TraceLemmas.{unequal_false}
use Rattle.pcj_clients.proofs.clients.place_of.Goals as goal

pub returns-then-busy-client-clause-some : goal.returns-then-busy-client-clause-some
returns-then-busy-client-clause-some c = record {
  busy = c.index-busy-place.result;
  at = slice_get_read _ _ _ _ refl c.loop-place-test.true c.index-busy-place.is;
  is = c.if-busy-client.true;
  before = c.loop-place.invariant;
}

pub loop-place-preserved : goal.loop-place-preserved
loop-place-preserved c = subst (λ n. Rattle.pcj_clients.specs.Clients.job_of (take n c.args.busy.now) c.args.client ≡ None) {x = suc c.loop-place.place} (search rules)
    (passed c.args.busy.now c.args.client c.loop-place.place c.index-busy-place.result (slice_get_read _ _ _ _ refl c.loop-place-test.true c.index-busy-place.is) c.loop-place.invariant (unequal_false _ _ c.if-busy-client.false))

pub returns-clause-none : goal.returns-clause-none
returns-clause-none c = all_before c.args.busy.now c.args.client c.loop-place.place (search rules) c.loop-place.invariant
