use Rattle.pcj_ntriples.specs.Document.{DocumentFault}
use Rattle.pcj_session.proofs.LoadLemmas.{not_refused}
use Rattle.pcj_session.proofs.session.read_under.Goals as goal

pub unreachable-requires : goal.unreachable-requires
unreachable-requires c =
    let error = c.in-Err-Refused._error in
    let fault : DocumentFault c.args.document.now error.line error.kind = rw c.in-Err-Refused.field-0-is at (c.in-Err-Refused.ensures {u = tt}).refused in
    not_refused c.args.document.now c.args.read error.line error.kind c.args.triples c.requires fault
