use Rattle.std.proofs.Common.{sym, ◌∙◌}
use Rattle.std.specs.Str.{IsUtf8}
use Rattle.std.proofs.lemmas.Bool.{OnTrue_from}
use Rattle.std.proofs.lemmas.Str.{IsUtf8-from_is_utf8}
use Rattle.pcj_text_cases.proofs.grammar.is_text.Goals as goal

pub returns : goal.returns
returns c = OnTrue_from c.is_utf8.result (IsUtf8 c.args.text.now) (λ is. IsUtf8-from_is_utf8 c.args.text.now (sym c.is_utf8.ensures ∙ is))
