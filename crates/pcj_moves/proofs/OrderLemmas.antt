-- The actors in another order.
use Rattle.std.proofs.Common.{List, [], ◌∷◌, ◌++◌}
use Rattle.pcj_moves.specs.Actors.{Actor, ArePair, Each}
use Rattle.pcj_moves.specs.MoveLaws.{ActorComesFirst, ActorGoesBack}

pub each_apart : (P : Actor → Type 0) (front : List Actor) (actor : Actor) (back : List Actor) → Each P (front ++ (actor ∷ back)) → P actor × Each P (front ++ back)
each_apart P [] actor back each = each
each_apart P (first ∷ front) actor back each = let rest = each_apart P front actor back each.1 in (rest.0, (each.0, rest.1))

pub each_together : (P : Actor → Type 0) (front : List Actor) (actor : Actor) (back : List Actor) → P actor → Each P (front ++ back) → Each P (front ++ (actor ∷ back))
each_together P [] actor back here each = (here, each)
each_together P (first ∷ front) actor back here each = (each.0, each_together P front actor back here each.1)

pub actor_comes_first : ActorComesFirst
actor_comes_first rows [] actor back sound = sound
actor_comes_first rows (first ∷ front) actor back sound =
    let rest = actor_comes_first rows front actor back sound.2 in
    let pairs = each_apart (λ other. ArePair rows first other × ArePair rows other first) front actor back sound.1 in
    (rest.0, ((pairs.0.1, pairs.0.0), rest.1), (sound.0, pairs.1, rest.2))

pub actor_goes_back : ActorGoesBack
actor_goes_back rows [] actor back sound = sound
actor_goes_back rows (first ∷ front) actor back sound = (
  sound.2.0,
  each_together (λ other. ArePair rows first other × ArePair rows other first) front actor back (sound.1.0.1, sound.1.0.0) sound.2.1,
  actor_goes_back rows front actor back (sound.0, sound.1.1, sound.2.2),
)
