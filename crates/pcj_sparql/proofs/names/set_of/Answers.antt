use Rattle.std.proofs.Common.{◌∙◌, ap}
use Rattle.pcj_translate.specs.Names.{with_name}
use Rattle.pcj_sparql.proofs.NameLists.{set_more}
use Rattle.pcj_sparql.proofs.names.set_of.Goals as goal

pub loop-name-preserved : goal.loop-name-preserved
loop-name-preserved c =
    set_more c.args.names.now c.loop-name.name-index c.name-item.result c.loop-name.set c.add.new.self c.loop-name-test.true c.name-item.is (c.in_ok-add.ensures {u = tt} ∙ ap (with_name c.loop-name.set) c.as_slice.ensures)
    c.loop-name.invariant
