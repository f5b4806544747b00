use Rattle.std.proofs.Common.{sym, ap, ◌∙◌, option_map, append-nil, List, [], ◌∷◌, ◌++◌, ℕ, Some}
use Rattle.pcj_term.specs.Reading.{with_front, text_at}
use Rattle.pcj_term.proofs.Escapes.{with_front-append, text_cut, printed_step, printed_end}
use Rattle.pcj_term.proofs.read_text.text_at.Goals as goal

pub loop-byte-init : goal.loop-byte-init
loop-byte-init c =
    ap (λ (text : List ℕ). with_front text (text_at c.cut_plain.result.1.now)) (c.in_ok-extend_from_slice.ensures.items ∙ ap (λ (text : List ℕ). text ++ c.cut_plain.result.0.now) c.in_ok-text.ensures.items)
    ∙ text_cut c.args.bytes.now c.cut_plain.result.0.now c.cut_plain.result.1.now c.cut_plain.ensures.front c.cut_plain.ensures.end

pub loop-byte-preserved : goal.loop-byte-preserved
loop-byte-preserved c =
    let step = printed_step c.loop-byte.rest.now (c.in-Some.byte, c.in-Some.following.now) (sym c.in-Some.ensures) in
    let text : List ℕ = c.loop-byte.text.items in
    let byte : List ℕ = c.in-Some.byte ∷ [] in
    let plain : List ℕ = c.cut_plain-in-Some.result.0.now in
    let end : List ℕ = c.cut_plain-in-Some.result.1.now in
    ap (λ (front : List ℕ). with_front front (text_at end)) (c.in_ok-extend_from_slice-2.ensures.items ∙ ap (λ (front : List ℕ). front ++ plain) c.in_ok-push.ensures.items)
    ∙ with_front-append (text ++ byte) plain (text_at end)
    ∙ ap (with_front (text ++ byte)) (text_cut c.in-Some.following.now plain end c.cut_plain-in-Some.ensures.front c.cut_plain-in-Some.ensures.end)
    ∙ with_front-append text byte (text_at c.in-Some.following.now)
    ∙ sym (ap (with_front text) step.0)
    ∙ c.loop-byte.invariant

pub returns-in-Some-after : goal.returns-in-Some-after
returns-in-Some-after c =
    let text : List ℕ = c.loop-byte.text.items in
    let end = printed_end c.loop-byte.rest.now (sym c.in_default.ensures) ∙ ap (option_map (λ (rest : List ℕ). ([], rest))) (sym c.in-Some-after.ensures) in
    ap (λ (front : List ℕ). Some (front, c.in-Some-after.following.now)) (c.from_vec.ensures ∙ sym (append-nil text))
    ∙ sym (ap (with_front text) end)
    ∙ c.loop-byte.invariant

pub returns : goal.returns
returns c =
    let end = printed_end c.loop-byte.rest.now (sym c.in_default.ensures) ∙ ap (option_map (λ (rest : List ℕ). ([], rest))) (sym c.in-None.ensures) in
    sym (ap (with_front c.loop-byte.text.items) end) ∙ c.loop-byte.invariant
