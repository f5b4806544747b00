use Rattle.pcj_scan.proofs.answer.scan.Goals as goal

pub returns-clause-lines : goal.returns-clause-lines
returns-clause-lines g c = λ others known sound has. (c.in_ok-lines.ensures {u = tt}) known ((c.in_ok-matches.ensures {u = tt}).matches others known sound has)
