use Rattle.std.proofs.Common.{sym, ap, ◌∙◌, ◌∷◌, List, ℕ, chars}
use Rattle.std.proofs.lemmas.Str.{chars_past_char}
use Rattle.pcj_lex.proofs.reader.Reader.next.Goals as goal

pub returns-clause-some : goal.returns-clause-some
returns-clause-some c =
    let step = chars_past_char c.self.inside.rest.now c.next.new.self.rest.now c.in_ok-character.character c.self.invariant (sym c.chars-chars.ensures.rest ∙ c.in_ok-character.ensures.steps.0) in
    sym c.self.view_is ∙ step ∙ ap (λ (text : List ℕ). c.in_ok-character.character ∷ chars text) (sym c.as_str-self-inside.ensures)
