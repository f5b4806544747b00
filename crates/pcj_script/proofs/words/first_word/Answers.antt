use Rattle.std.proofs.Common.{sym, ◌∙◌}
use Rattle.pcj_script.proofs.LineLemmas.{not_empty}
use Rattle.pcj_script.proofs.WordLemmas.{word_begins}
use Rattle.pcj_script.proofs.words.first_word.Goals as goal

pub returns-clause-some : goal.returns-clause-some
returns-clause-some c =
    let from = c.skip_spaces-from.result.now in
    let some = not_empty from c.is_empty.result c.is_empty.ensures c.if-is_empty.false in
    rw (c.split_at.ensures.front, c.split_at.ensures.back, c.unwrap_or-end.ensures)
    (sym c.skip_spaces-from.ensures.words ∙ word_begins from some c.skip_spaces-from.ensures.past c.memchr.result c.memchr.ensures)
