use Rattle.std.proofs.Common.{◌≡◌, ◌∙◌, sym, subst, IfOk}
use Rattle.pcj_algebra.specs.declared.query.Shape.{Shape}
use Rattle.pcj_sparql.specs.Clauses.{parts_in}
use Rattle.pcj_sparql.proofs.Shapes.{shape_by_last}
use Rattle.pcj_sparql.proofs.clauses.Clauses.shape.Goals as goal

pub returns-in-Some : goal.returns-in-Some
returns-in-Some c =
    let last = shape_by_last (parts_in c.args.self.now) c.in-Some.items.now c.in-Some.last.now (sym c.as_slice.ensures ∙ c.in-Some.ensures.cases.0) in
    subst (λ (v : Shape). IfOk c.shape_by.result (λ shape. shape ≡ v)) last c.shape_by.ensures
