use Rattle.std.proofs.Common.{◌∙◌, ap}
use Rattle.pcj_translate.specs.Reading.{scope_by}
use Rattle.pcj_groups.specs.declared.faults.GroupFaults.{GroupFaults}
use Rattle.pcj_groups.specs.declared.findings.Findings.{Findings}
use Rattle.pcj_groups.proofs.FaultsFound.{group_bare, group_unknown, group_uneven}
use Rattle.pcj_groups.proofs.walk.group_faults.Goals as goal

pub returns-clause-bare : goal.returns-clause-bare
returns-clause-bare c y d within =
    let done = c.in_ok-found.ensures.ok y d within in
    ap (λ (f : GroupFaults). f.bare) (c.faults.ensures ∙ ap (λ (f : Findings). f.faults) done.1) ∙ group_bare (scope_by c.args.text.now c.args.prefixes.now) d

pub returns-clause-unknown : goal.returns-clause-unknown
returns-clause-unknown c y d within =
    let done = c.in_ok-found.ensures.ok y d within in
    ap (λ (f : GroupFaults). f.unknown) (c.faults.ensures ∙ ap (λ (f : Findings). f.faults) done.1) ∙ group_unknown (scope_by c.args.text.now c.args.prefixes.now) d

pub returns-clause-uneven : goal.returns-clause-uneven
returns-clause-uneven c y d within =
    let done = c.in_ok-found.ensures.ok y d within in
    ap (λ (f : GroupFaults). f.uneven) (c.faults.ensures ∙ ap (λ (f : Findings). f.faults) done.1) ∙ group_uneven (scope_by c.args.text.now c.args.prefixes.now) d
