use Rattle.std.proofs.Common.{◌≡◌, ap, sym, ◌∙◌, Some, None, false, nat_eq, length}
use Rattle.std.specs.Option.{option_map}
use Rattle.pcj_key.specs.Reading.{first_part}
use Rattle.pcj_key.proofs.Keys.{split_more, split_shorter, split_none}
use Rattle.pcj_key.proofs.split.split_parts.Goals as goal

pub returns-in_default : goal.returns-in_default
returns-in_default c =
    let none : first_part false c.loop-rest.rest.now ≡ None = sym c.in_ok-part.ensures ∙ ap (option_map (λ split. (split.0, split.1.now))) c.in_default.is in
    let tested : nat_eq (length c.loop-rest.rest.now) 0 ≡ false = sym c.is_empty.ensures ∙ c.loop-rest-test.true in
    split_none c.args.key.now c.loop-rest.parts.items c.loop-rest.rest.now c.loop-rest.invariant (λ empty. let zero = ap (λ r. nat_eq (length r) 0) empty in absurd cc) none

pub loop-rest-smaller : goal.loop-rest-smaller
loop-rest-smaller c =
    let found : first_part false c.loop-rest.rest.now ≡ Some (c.in-Some.part, c.in-Some.following.now) = sym c.in_ok-part.ensures ∙ ap (option_map (λ split. (split.0, split.1.now))) c.in-Some.is in
    split_shorter c.loop-rest.rest.now c.in-Some.part c.in-Some.following.now found

pub loop-rest-preserved : goal.loop-rest-preserved
loop-rest-preserved c =
    let found : first_part false c.loop-rest.rest.now ≡ Some (c.in-Some.part, c.in-Some.following.now) = sym c.in_ok-part.ensures ∙ ap (option_map (λ split. (split.0, split.1.now))) c.in-Some.is in
    let more = split_more c.args.key.now c.loop-rest.parts.items c.loop-rest.rest.now c.in-Some.part c.in-Some.following.now c.loop-rest.invariant found in
    rw c.in_ok-push.ensures.items more
