use Rattle.pcj_ntriples.proofs.FirstLine.{first_line_is}
use Rattle.pcj_ntriples.proofs.lines.first_line.Goals as goal

pub returns-clause-lines : goal.returns-clause-lines
returns-clause-lines c =
    rw (c.split_at.ensures.front, c.after_end.ensures, c.split_at.ensures.back, c.unwrap_or-at.ensures)
    (first_line_is c.args.text.now c.requires c.memchr2.result c.memchr2.ensures)
