use Rattle.std.proofs.Common.{◌≡◌, ◌∙◌, ap, insert}
use Rattle.std.proofs.lemmas.Result.{on_ok_weaker}
use Rattle.pcj_table.specs.Row.{place_of}
use Rattle.pcj_table.proofs.Versions.{place_within, placed}
use Rattle.pcj_table.proofs.row.add_version.Goals as goal

pub insert-requires : goal.insert-requires
insert-requires c =
    let at : c.place_of-at.result ≡ place_of c.args.version.commit c.args.versions.now = c.place_of-at.ensures ∙ ap (place_of c.args.version.commit) c.as_slice.ensures in
    rw at (place_within c.args.version.commit c.args.versions.now)

pub returns-clause-ok : goal.returns-clause-ok
returns-clause-ok c =
    let at : c.place_of-at.result ≡ place_of c.args.version.commit c.args.versions.now = c.place_of-at.ensures ∙ ap (place_of c.args.version.commit) c.as_slice.ensures in
    let put = ap (λ k. insert c.args.versions.now k c.args.version) at ∙ placed c.args.version c.args.versions.now in
    on_ok_weaker c.insert.result (λ e. e ∙ put) c.insert.ensures.ok
