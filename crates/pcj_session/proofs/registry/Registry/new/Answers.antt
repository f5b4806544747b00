use Rattle.std.proofs.Common.{◌≡◌, ◌++◌, ◌∷◌, [], ◌+◌, suc, take, ap, sym, subst, ◌∙◌, arith}
use Rattle.pcj_session.specs.Registry.{AreRebuilt}
use Rattle.pcj_session.proofs.RegistryLemmas.{not_yet, rebuilt_more, tree_at}
use Rattle.pcj_session.proofs.registry.Registry.new.Goals as goal

pub boxed_query-requires : goal.boxed_query-requires
boxed_query-requires c = tree_at c.args.registrations.now c.loop-registration.registration-index c.registration-item.result c.requires c.loop-registration-test.true c.registration-item.is

pub insert_query-requires : goal.insert_query-requires
insert_query-requires c =
    ap (λ name. Rattle.std.specs.Map.lookup (Rattle.pcj_term.specs.Order.same_bytes name) c.loop-registration.queries.entries) (c.in_ok-name.ensures {u = tt})
    ∙ not_yet c.args.registrations.now c.loop-registration.registration-index c.registration-item.result c.loop-registration.queries.entries c.requires c.loop-registration-test.true c.registration-item.is c.loop-registration.invariant

pub loop-registration-preserved : goal.loop-registration-preserved
loop-registration-preserved c =
    let next : suc c.loop-registration.registration-index ≡ c.loop-registration.registration-index + 1 = omega arith in
    subst (λ n. AreRebuilt (take n c.args.registrations.now) c.insert_query.new.queries.entries) next
    (subst (AreRebuilt (take (suc c.loop-registration.registration-index) c.args.registrations.now)) (sym ((c.in_ok-insert_query.ensures {u = tt}) ∙ ap (λ name. c.loop-registration.queries.entries ++ (name, c.in_ok-query.query) ∷ []) (c.in_ok-name.ensures {u = tt})))
    (rebuilt_more c.args.registrations.now c.loop-registration.registration-index c.registration-item.result c.loop-registration.queries.entries c.in_ok-query.query c.loop-registration-test.true c.registration-item.is c.loop-registration.invariant (c.in_ok-query.ensures {u = tt})))
