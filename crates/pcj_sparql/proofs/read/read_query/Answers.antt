use Rattle.std.proofs.Common.{◌∙◌, subst, List, IfOk, IfErr}
use Rattle.std.proofs.lemmas.Result.{IfOk-weaker, IfErr-weaker}
use Rattle.pcj_grammar.specs.declared.lexeme.Lexeme.{Lexeme}
use Rattle.pcj_sparql.specs.Clauses.{Means, Fails}
use Rattle.pcj_sparql.specs.Query.{QueryText, Refuses}
use Rattle.pcj_sparql.proofs.Outcomes.{ill_formed, ungrammatical, query_text, failed_text}
use Rattle.pcj_sparql.proofs.read.read_query.Goals as goal

pub returns-in-Err-clause-refused : goal.returns-in-Err-clause-refused
returns-in-Err-clause-refused c =
    let odd = c.in-Err.ensures {u = tt} in
    ill_formed c.args.text.now c.valid_up_to.result c.refused-in-Err.result c.if-text-gt-TEXT_LIMIT.false odd.cases.0 (c.valid_up_to.ensures ∙ odd.valid_len) c.refused-in-Err.ensures

pub returns-in-Ok-clause-query : goal.returns-in-Ok-clause-query
returns-in-Ok-clause-query c =
    let means = subst (λ (ls : List Lexeme). IfOk c.query_of.result (Means c.args.text.now ls)) c.as_slice.ensures c.query_of.ensures.query in
    IfOk-weaker c.query_of.result (Means c.args.text.now c.in-Ok.lexemes) (QueryText c.args.text.now) (λ query. query_text c.args.text.now c.in-Ok.lexemes query c.if-text-gt-TEXT_LIMIT.false (c.in_default.ensures {u = tt}).cases.1 (c.in-Ok.ensures {u = tt}).lexemes) means

pub returns-in-Ok-clause-refused : goal.returns-in-Ok-clause-refused
returns-in-Ok-clause-refused c =
    let fails = subst (λ (ls : List Lexeme). IfErr c.query_of.result (Fails c.args.text.now ls)) c.as_slice.ensures c.query_of.ensures.refused in
    IfErr-weaker c.query_of.result (Fails c.args.text.now c.in-Ok.lexemes) (Refuses c.args.text.now) (λ refusal. failed_text c.args.text.now c.in-Ok.lexemes refusal c.if-text-gt-TEXT_LIMIT.false (c.in_default.ensures {u = tt}).cases.1 (c.in-Ok.ensures {u = tt}).lexemes) fails

pub returns-in-Err-read_grammar-clause-refused : goal.returns-in-Err-read_grammar-clause-refused
returns-in-Err-read_grammar-clause-refused c =
    ungrammatical c.args.text.now c.in-Err-read_grammar.refusal c.by_grammar.result c.if-text-gt-TEXT_LIMIT.false (c.in_default.ensures {u = tt}).cases.1 (c.in-Err-read_grammar.ensures {u = tt}).refused c.by_grammar.ensures
