use Rattle.pcj_rows.proofs.RowLemmas.{row_of_name}
use Rattle.pcj_rows.proofs.TableTriples.{table_triples}
use Rattle.pcj_rows.proofs.rows.rows_decode.Goals as goal

pub returns-clause-names : goal.returns-clause-names
returns-clause-names c = row_of_name

pub returns-clause-triples : goal.returns-clause-triples
returns-clause-triples c = table_triples
