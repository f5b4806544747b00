use Rattle.std.proofs.Common.{◌∙◌, ap}
use Rattle.pcj_sparql.specs.Query.{parts_of, scope_of}
use Rattle.pcj_sparql.proofs.Meaning.{clauses_met, fails_met, query_met, pattern_met}
use Rattle.pcj_sparql.proofs.OneQuery.{derived}
use Rattle.pcj_sparql.proofs.query.query_of.Goals as goal

pub of_shape-requires : goal.of_shape-requires
of_shape-requires c =
    let text = c.args.text.now in
    let lexemes = c.args.lexemes.now in
    let clauses = c.in_ok-clauses.clauses in
    let read = c.in_ok-clauses.ensures {u = tt} in
    let scope = c.in_ok-prefixes.ensures {u = tt} ∙ ap (scope_of text) c.as_slice.ensures in
    let d = derived text lexemes c.requires in
    pattern_met text lexemes d clauses (clauses_met text lexemes clauses c.in_ok-head.head c.in_ok-prefixes.prefixes c.requires.within (c.in_ok-head.ensures {u = tt}) read.text read.prefixes read.head scope read.rest d)
    (c.in-Ok.ensures {u = tt}).good

pub returns-in-Ok-clause-query : goal.returns-in-Ok-clause-query
returns-in-Ok-clause-query c d =
    let text = c.args.text.now in
    let lexemes = c.args.lexemes.now in
    let clauses = c.in_ok-clauses.clauses in
    let read = c.in_ok-clauses.ensures {u = tt} in
    let scope = c.in_ok-prefixes.ensures {u = tt} ∙ ap (scope_of text) c.as_slice.ensures in
    let good = c.in-Ok.ensures {u = tt} in
    query_met text (parts_of text d) clauses c.of_shape.result (clauses_met text lexemes clauses c.in_ok-head.head c.in_ok-prefixes.prefixes c.requires.within (c.in_ok-head.ensures {u = tt}) read.text read.prefixes read.head scope read.rest d)
    good.good (c.of_shape.ensures.shape ∙ good.shape) c.of_shape.ensures.pattern

pub returns-clause-refused : goal.returns-clause-refused
returns-clause-refused c =
    let text = c.args.text.now in
    let lexemes = c.args.lexemes.now in
    let clauses = c.in_ok-clauses.clauses in
    let read = c.in_ok-clauses.ensures {u = tt} in
    let scope = c.in_ok-prefixes.ensures {u = tt} ∙ ap (scope_of text) c.as_slice.ensures in
    fails_met text lexemes clauses c.in-Err.refusal (clauses_met text lexemes clauses c.in_ok-head.head c.in_ok-prefixes.prefixes c.requires.within (c.in_ok-head.ensures {u = tt}) read.text read.prefixes read.head scope read.rest)
    (c.in-Err.ensures {u = tt}).refused
