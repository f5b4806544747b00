use Rattle.std.proofs.Common.{◌≡◌, ap, sym, ◌∙◌, ◌∷◌, [], List, ℕ, arith, length}
use Rattle.std.specs.Prelude.{string_bytes}
use Rattle.pcj_replay.proofs.WordLemmas.{one_word, is_the_word}
use Rattle.pcj_replay.proofs.top.is_replay.Goals as goal

pub returns-in-len1 : goal.returns-in-len1
returns-in-len1 c =
    let one : length c.args.words.now ≡ 1 = omega arith in
    is_the_word _ _ _ c.eq.result (one_word _ c.args.words.now c.word-item.result one ∙ ap (λ (w : List ℕ). w ∷ []) (ap string_bytes (sym c.word-item.is) ∙ sym c.as_str.ensures.value)) c.eq.ensures
