use Rattle.std.proofs.Common.{◌≡◌, drop}
use Rattle.pcj_translate.specs.Names.{with_names}
use Rattle.pcj_groups.specs.Finding.{triples_variables}
use Rattle.pcj_groups.proofs.findings.add_triples.Given as goal

abbrev pub invariant-loop-triple : goal.invariant-loop-triple
invariant-loop-triple l = with_names l.names (triples_variables (drop l.triple-index l.triples)) ≡ with_names l.fn.names (triples_variables l.triples)
