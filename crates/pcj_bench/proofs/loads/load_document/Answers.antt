use Rattle.pcj_bench.proofs.Documents.{document_is_load}
use Rattle.pcj_bench.proofs.loads.load_document.Goals as goal

pub new-requires : goal.new-requires
new-requires g c =
    let drawn = c.in_ok-load.ensures {u = tt} in
    let read = c.in_ok-triples.ensures {u = tt} in
    document_is_load c.in_ok-load.load c.args.text.now c.in_ok-triples.triples c.args.oracle.now c.draw.new.self (g.T.RowTable.rows c.args.table.now) (g.T.RowTable.rows c.draw.new.table)
    c.requires drawn.granted read.document
