use Rattle.pcj_translate.specs.Reading.{scope_by}
use Rattle.pcj_translate.proofs.Names.{named_iri}
use Rattle.pcj_translate.proofs.scope.Prefixes.iri_of.Goals as goal

pub returns-in-Namespace : goal.returns-in-Namespace
returns-in-Namespace c =
    named_iri (scope_by c.args.text.now c.args.self.now) c.args.lexeme c.source_of-source.result.now c.expanded.result c.in-Namespace.is c.source_of-source.ensures (c.expanded.ensures c.args.text.now)
