use Rattle.std.proofs.Common.{ℕ, List, [], ◌++◌, ◌∷◌, ◌-◌, length, take, drop, get_or, ap, ◌∙◌}
use Rattle.std.specs.List.{flat_map, prefix_len}
use Rattle.pcj_term.proofs.Escapes.{first_and_rest, step_shorter}
use Rattle.pcj_key.specs.Key.{byte_key}
use Rattle.pcj_key.specs.Reading.{is_plain_in_key}
use Rattle.pcj_key.proofs.Runs.{key_step, key_last}
use Rattle.pcj_key.proofs.join.push_part.Goals as goal

pub loop-key-smaller : goal.loop-key-smaller
loop-key-smaller c = step_shorter c.loop-key.rest.now c.cut_plain.result.1.now (prefix_len is_plain_in_key c.loop-key.rest.now) c.cut_plain.ensures.end c.in-len1-up.len_at_least

pub loop-key-preserved : goal.loop-key-preserved
loop-key-preserved c =
    let end : List ℕ = c.cut_plain.result.1.now in
    let byte : ℕ = get_or end 0 0 in
    let following : List ℕ = take (length end - 1) (drop 1 end) in
    ap (λ (key : List ℕ). key ++ flat_map byte_key following) (c.in_ok-push_byte.ensures ∙ ap (λ (key : List ℕ). key ++ byte_key byte) c.in_ok-extend_from_slice.ensures.items)
    ∙ key_step c.loop-key.key.items c.loop-key.rest.now c.cut_plain.result.0.now end following byte c.cut_plain.ensures.front c.cut_plain.ensures.end (first_and_rest end c.in-len1-up.len_at_least)
    ∙ c.loop-key.invariant

pub returns-in_default : goal.returns-in_default
returns-in_default c =
    c.in_ok-push.ensures.items
    ∙ ap (λ (key : List ℕ). key ++ 0 ∷ [])
    (c.in_ok-extend_from_slice.ensures.items
    ∙ key_last c.loop-key.key.items c.loop-key.rest.now c.cut_plain.result.0.now c.cut_plain.result.1.now c.cut_plain.ensures.front c.cut_plain.ensures.end c.in_default.len_below
    ∙ c.loop-key.invariant)
