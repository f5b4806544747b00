use Rattle.std.proofs.Common.{sym, ap, ◌∙◌, option_map, append-nil, List, [], ◌∷◌, ◌++◌, ℕ, Some, false}
use Rattle.pcj_term.specs.Reading.{with_front}
use Rattle.pcj_term.proofs.Escapes.{with_front-append}
use Rattle.pcj_key.specs.Reading.{first_part}
use Rattle.pcj_key.proofs.Runs.{part_cut, key_byte_step, key_byte_end}
use Rattle.pcj_key.proofs.split.first_part.Goals as goal

pub loop-byte-init : goal.loop-byte-init
loop-byte-init c =
    ap (λ (part : List ℕ). with_front part (first_part false c.cut_plain.result.1.now)) (c.in_ok-extend_from_slice.ensures.items ∙ ap (λ (part : List ℕ). part ++ c.cut_plain.result.0.now) c.in_ok-part.ensures.items)
    ∙ part_cut c.args.key.now c.cut_plain.result.0.now c.cut_plain.result.1.now c.cut_plain.ensures.front c.cut_plain.ensures.end

pub loop-byte-preserved : goal.loop-byte-preserved
loop-byte-preserved c =
    let step = key_byte_step c.loop-byte.rest.now (c.in-Some.byte, c.in-Some.following.now) (sym c.in-Some.ensures) in
    let part : List ℕ = c.loop-byte.part.items in
    let byte : List ℕ = c.in-Some.byte ∷ [] in
    let plain : List ℕ = c.cut_plain-in-Some.result.0.now in
    let end : List ℕ = c.cut_plain-in-Some.result.1.now in
    ap (λ (front : List ℕ). with_front front (first_part false end)) (c.in_ok-extend_from_slice-2.ensures.items ∙ ap (λ (front : List ℕ). front ++ plain) c.in_ok-push.ensures.items)
    ∙ with_front-append (part ++ byte) plain (first_part false end)
    ∙ ap (with_front (part ++ byte)) (part_cut c.in-Some.following.now plain end c.cut_plain-in-Some.ensures.front c.cut_plain-in-Some.ensures.end)
    ∙ with_front-append part byte (first_part false c.in-Some.following.now)
    ∙ sym (ap (with_front part) step.0)
    ∙ c.loop-byte.invariant

pub returns-in-Some-after_end : goal.returns-in-Some-after_end
returns-in-Some-after_end c =
    let part : List ℕ = c.loop-byte.part.items in
    let end = key_byte_end c.loop-byte.rest.now (sym c.in_default.ensures) ∙ ap (option_map (λ (rest : List ℕ). ([], rest))) (sym c.in-Some-after_end.ensures) in
    ap (λ (front : List ℕ). Some (front, c.in-Some-after_end.following.now)) (c.from_vec.ensures ∙ sym (append-nil part))
    ∙ sym (ap (with_front part) end)
    ∙ c.loop-byte.invariant

pub returns : goal.returns
returns c =
    let end = key_byte_end c.loop-byte.rest.now (sym c.in_default.ensures) ∙ ap (option_map (λ (rest : List ℕ). ([], rest))) (sym c.in-None.ensures) in
    sym (ap (with_front c.loop-byte.part.items) end) ∙ c.loop-byte.invariant
