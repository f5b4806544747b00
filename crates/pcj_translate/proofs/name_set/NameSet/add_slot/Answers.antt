use Rattle.std.proofs.Common.{◌∙◌, ap}
use Rattle.std.proofs.lemmas.Result.{on_ok_weaker}
use Rattle.pcj_translate.specs.Names.{with_name}
use Rattle.pcj_translate.proofs.SetsOfNames.{slot_added}
use Rattle.pcj_translate.proofs.name_set.NameSet.add_slot.Goals as goal

pub returns-in-Var : goal.returns-in-Var
returns-in-Var c =
    on_ok_weaker c.add.result
    (λ added names h. slot_added c.args.slot.now c.in-Var.name names c.args.self.now c.add.new.self c.in-Var.is (added ∙ ap (with_name c.args.self.now) c.as_slice.ensures) h)
    c.add.ensures
