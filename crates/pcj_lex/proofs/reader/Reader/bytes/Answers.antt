use Rattle.std.proofs.Common.{sym, ap, ◌∙◌, encode_utf8_all}
use Rattle.std.proofs.lemmas.Str.{encodes-chars}
use Rattle.pcj_lex.proofs.reader.Reader.bytes.Goals as goal

pub returns : goal.returns
returns c = c.as_bytes.ensures.value ∙ sym (encodes-chars c.self.inside.rest.now c.self.invariant) ∙ ap encode_utf8_all c.self.view_is
