use Rattle.std.proofs.Common.{◌≡◌, ◌∙◌, sym, subst, Bool, IfOk}
use Rattle.pcj_sparql.specs.Clauses.{parts_in}
use Rattle.pcj_sparql.proofs.Shapes.{grouping_by_last}
use Rattle.pcj_sparql.proofs.clauses.Clauses.is_grouping.Goals as goal

pub returns-in-Some : goal.returns-in-Some
returns-in-Some c =
    let last = grouping_by_last (parts_in c.args.self.now) c.in-Some.items.now c.in-Some.last.now (sym c.as_slice.ensures ∙ c.in-Some.ensures.cases.0) in
    subst (λ (v : Bool). IfOk c.groups_by.result (λ is. is ≡ v)) last c.groups_by.ensures
