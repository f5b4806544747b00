use Rattle.std.proofs.Common.{ap, ◌∙◌, sym, drop}
use Rattle.std.specs.Str.{IsUtf8, is_utf8}
use Rattle.std.proofs.lemmas.Bool.{OnTrue_from}
use Rattle.std.proofs.lemmas.Str.{IsUtf8-from_is_utf8}
use Rattle.pcj_text_cases.proofs.token.is_text_from.Goals as goal

pub returns-clause-text : goal.returns-clause-text
returns-clause-text c =
    OnTrue_from c.is_utf8.result (IsUtf8 (drop c.args.from c.args.text.now))
    (λ is. IsUtf8-from_is_utf8 (drop c.args.from c.args.text.now) (ap is_utf8 (sym c.split_at.ensures.back) ∙ sym c.is_utf8.ensures ∙ is))
