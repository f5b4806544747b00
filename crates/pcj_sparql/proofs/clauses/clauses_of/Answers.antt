use Rattle.std.proofs.Common.{◌∙◌, subst, List}
use Rattle.pcj_grammar.specs.declared.lexeme.Lexeme.{Lexeme}
use Rattle.pcj_sparql.specs.Heading.{ReadsKeys}
use Rattle.pcj_sparql.proofs.clauses.clauses_of.Goals as goal

pub returns-clause-rest : goal.returns-clause-rest
returns-clause-rest c y d tail within =
    let read = (c.in_ok-group.ensures {u = tt}).ok y d within in
    (c.in_ok-pattern.ensures {u = tt} ∙ read.1, subst (λ (x : List Lexeme). ReadsKeys x c.in_ok-keys.keys) read.0 (c.in_ok-keys.ensures {u = tt}) tail)
