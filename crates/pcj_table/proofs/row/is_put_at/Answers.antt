use Rattle.std.proofs.Common.{◌≡◌, ◌∙◌, sym, ap, [], drop, arith}
use Rattle.std.proofs.lemmas.List.{drop_all}
use Rattle.pcj_table.specs.Row.{versions_up_to}
use Rattle.pcj_table.proofs.Versions.{put_after, put_newest}
use Rattle.pcj_table.proofs.row.is_put_at.Goals as goal

pub returns : goal.returns
returns c =
    let over : drop c.loop-version.version-index c.args.versions.now ≡ [] = drop_all c.loop-version.version-index c.args.versions.now (omega (arith, c.loop-version-test.false)) in
    let left = ap (λ vs. put_after c.loop-version.is_put (versions_up_to c.args.at vs)) over in
    sym left ∙ c.loop-version.invariant ∙ put_newest (versions_up_to c.args.at c.args.versions.now)
