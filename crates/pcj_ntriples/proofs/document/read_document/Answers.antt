use Rattle.std.proofs.Common.{ap, sym, ◌∙◌, refl, subst, ◌≤◌, ◌<◌, Some, None, Ok}
use Rattle.std.proofs.lemmas.Bool.{eqb-true}
use Rattle.std.proofs.lemmas.Result.{err_from_is_err_and, IfOk-weaker}
use Rattle.pcj_term.proofs.Derived.{inserted}
use Rattle.pcj_ntriples.specs.Document.{triple_limit}
use Rattle.pcj_ntriples.proofs.Laws.{read_start, read_more, read_all, read_refused, read_too_many}
use Rattle.pcj_ntriples.proofs.document.read_document.Goals as goal

pub loop-rest-init : goal.loop-rest-init
loop-rest-init c = read_start c.args.text.now c.args.load c.new-triples.result.keys c.new-triples.ensures.empty

pub returns-in_err-triple-clause-refused : goal.returns-in_err-triple-clause-refused
returns-in_err-triple-clause-refused c =
    let refused = read_refused c.args.text.now c.loop-rest.rest.now c.args.load c.loop-rest.number c.loop-rest.triples.keys c.first_line.result.0.now c.first_line.result.1.now c.loop-rest.invariant c.first_line.ensures.lines c.in_err-triple.field-0.0 c.in_err-triple.ensures.refused in
    let p = err_from_is_err_and c.from_residual.result c.from_residual.ensures.1 in
    rw (p.1, p.2) refused

pub returns-then-len-gt-TRIPLE_LIMIT-clause-refused : goal.returns-then-len-gt-TRIPLE_LIMIT-clause-refused
returns-then-len-gt-TRIPLE_LIMIT-clause-refused c =
    read_too_many c.args.text.now c.loop-rest.rest.now c.args.load c.loop-rest.number c.loop-rest.triples.keys c.first_line.result.0.now c.first_line.result.1.now c.in-Some.triple c.insert.new.self.keys
    c.loop-rest.invariant c.first_line.ensures.lines (c.in_ok-triple.ensures.said ∙ ap Ok c.in-Some.is) (c.in_ok-insert.ensures.keys ∙ inserted c.loop-rest.triples.keys c.in-Some.triple)
    (subst (λ n. triple_limit < n) c.len.ensures.len c.if-len-gt-TRIPLE_LIMIT.true)

pub loop-rest-preserved-else-len-gt-TRIPLE_LIMIT : goal.loop-rest-preserved-else-len-gt-TRIPLE_LIMIT
loop-rest-preserved-else-len-gt-TRIPLE_LIMIT c =
    read_more c.args.text.now c.loop-rest.rest.now c.args.load c.loop-rest.number c.loop-rest.triples.keys c.first_line.result.0.now c.first_line.result.1.now (Some c.in-Some.triple) c.insert.new.self.keys
    c.loop-rest.invariant c.first_line.ensures.lines c.first_line.ensures.shorter (c.in_ok-triple.ensures.said ∙ ap Ok c.in-Some.is) (c.in_ok-insert.ensures.keys ∙ inserted c.loop-rest.triples.keys c.in-Some.triple)
    (subst (λ n. n ≤ triple_limit) c.len.ensures.len c.if-len-gt-TRIPLE_LIMIT.false)

pub loop-rest-preserved : goal.loop-rest-preserved
loop-rest-preserved c =
    read_more c.args.text.now c.loop-rest.rest.now c.args.load c.loop-rest.number c.loop-rest.triples.keys c.first_line.result.0.now c.first_line.result.1.now None c.loop-rest.triples.keys
    c.loop-rest.invariant c.first_line.ensures.lines c.first_line.ensures.shorter (c.in_ok-triple.ensures.said ∙ ap Ok c.in_default.is) refl c.loop-rest.invariant.few

pub returns-clause-document : goal.returns-clause-document
returns-clause-document c =
    let none = eqb-true _ _ (sym c.is_empty.ensures ∙ c.loop-rest-test.false) in
    IfOk-weaker c.items_of.result _ _
    (λ items same. read_all c.args.text.now c.loop-rest.rest.now c.args.load c.loop-rest.number c.loop-rest.triples.keys items c.loop-rest.invariant none same)
    c.items_of.ensures.kept
