use Rattle.pcj_ntriples.proofs.Valid.{has_valid_triples}
use Rattle.pcj_ntriples.proofs.document.valid_triples.Goals as goal

pub returns : goal.returns
returns c = has_valid_triples
