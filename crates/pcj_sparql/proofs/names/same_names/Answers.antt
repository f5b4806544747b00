use Rattle.std.proofs.Common.{◌∙◌, ap, Bool, ◌&&◌}
use Rattle.std.specs.List.{list_all}
use Rattle.pcj_translate.specs.Variables.{has_variable}
use Rattle.pcj_sparql.proofs.NameLists.{same_read}
use Rattle.pcj_sparql.proofs.names.same_names.Goals as goal

pub returns : goal.returns
returns c =
    ap (λ (v : Bool). v && c.all_among-2.result) c.all_among.ensures ∙ ap (λ (v : Bool). list_all (has_variable c.in_ok-other_set.other_set) c.args.names.now && v) c.all_among-2.ensures
    ∙ same_read c.args.names.now c.args.others.now c.in_ok-set.set c.in_ok-other_set.other_set (c.in_ok-set.ensures {u = tt}) (c.in_ok-other_set.ensures {u = tt})
