use Rattle.std.proofs.Common.{◌∙◌, None, refl}
use Rattle.pcj_translate.specs.Reading.{scope_by}
use Rattle.pcj_translate.specs.Uses.{bare_groups, unknown_in_group, uneven_in_group}
use Rattle.pcj_sparql.specs.declared.kind.QueryKind.TheVariants as kinds
use Rattle.pcj_sparql.specs.Clauses.{parts_in, unknown_in}
use Rattle.pcj_sparql.specs.Query.{undeclared, relative, misshapen, too_large}
use Rattle.pcj_sparql.proofs.Failing.{failing_step, both_places}
use Rattle.pcj_sparql.proofs.clauses.Clauses.fault.Goals as goal

pub returns : goal.returns
returns c y d within =
    let self = c.args.self.now in
    let scope = scope_by self.text.now self.prefixes.now in
    let found = c.in_ok-found.ensures {u = tt} in
    let size = c.failed_at-fault.ensures ∙ failing_step kinds.TooLarge _ (too_large (parts_in self)) None None (c.in_ok-too_large.ensures {u = tt}) refl in
    let union = c.failed_at-fault-2.ensures ∙ failing_step kinds.UnionVariables _ (uneven_in_group scope d) _ _ (found.uneven y d within) size in
    let places = c.lower_of-unknown.ensures ∙ both_places _ _ (unknown_in self) (unknown_in_group scope d) (c.in_ok-unknown.ensures {u = tt}) (found.unknown y d within) in
    let unknown = c.failed_at-fault-3.ensures ∙ failing_step kinds.UnknownVariable _ _ _ _ places union in
    let bare = c.failed_at-fault-4.ensures ∙ failing_step kinds.OutOfProfile _ (bare_groups d) _ _ (found.bare y d within) unknown in
    let shape = c.failed_at-fault-5.ensures ∙ failing_step kinds.OutOfProfile _ (misshapen (parts_in self)) _ _ (c.in_ok-misshapen.ensures {u = tt}) bare in
    let iris = c.failed_at-fault-6.ensures ∙ failing_step kinds.OutOfProfile _ (relative (parts_in self)) _ _ (c.in_ok-relative.ensures {u = tt}) shape in
    c.failed_at.ensures ∙ failing_step kinds.UnknownPrefix _ (undeclared (parts_in self)) _ _ (c.in_ok-undeclared.ensures {u = tt}) iris
