use Rattle.std.proofs.Common.{sym, ap, ◌∙◌, length, encode_utf8_all}
use Rattle.std.proofs.lemmas.Str.{encodes-chars}
use Rattle.pcj_ntriples.proofs.reader.LineReader.len.Goals as goal

pub returns : goal.returns
returns c = ap length (sym (encodes-chars c.self.inside.rest.now c.self.invariant) ∙ ap encode_utf8_all c.self.view_is)
