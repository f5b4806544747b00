use Rattle.std.proofs.Common.{◌≡◌, ◌∙◌, sym, ap, [], drop, arith}
use Rattle.std.proofs.lemmas.List.{drop_all}
use Rattle.pcj_table.proofs.Versions.{put_after, put_newest}
use Rattle.pcj_table.proofs.row.is_put_last.Goals as goal

pub returns : goal.returns
returns c =
    let over : drop c.loop-version.version-index c.args.versions.now ≡ [] = drop_all c.loop-version.version-index c.args.versions.now (omega (arith, c.loop-version-test.false)) in
    let left = ap (put_after c.loop-version.is_put) over in
    sym left ∙ c.loop-version.invariant ∙ put_newest c.args.versions.now
