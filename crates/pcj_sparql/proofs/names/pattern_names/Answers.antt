use Rattle.std.proofs.Common.{sym, subst, ℕ, List, [], Option}
use Rattle.pcj_algebra.specs.declared.pattern.Pattern.{Pattern}
use Rattle.pcj_translate.specs.Names.{IsSetOf}
use Rattle.pcj_translate.specs.Variables.{variables_in, variables_of}
use Rattle.pcj_translate.proofs.SetsOfNames.{no_names}
use Rattle.pcj_sparql.proofs.NameLists.{set_whole}
use Rattle.pcj_sparql.proofs.names.pattern_names.Goals as goal

pub returns-in_ok-add_pattern-in-Some : goal.returns-in_ok-add_pattern-in-Some
returns-in_ok-add_pattern-in-Some c =
    let empty = subst (λ (k : List (List ℕ)). IsSetOf [] k) (sym c.new-set.ensures) no_names in
    let set = set_whole (variables_of c.get.result.now) c.add_pattern.new.self ((c.in_ok-add_pattern-in-Some.ensures {u = tt}) [] empty) in
    let same = subst (λ (k : Pattern). IsSetOf (variables_of k) c.add_pattern.new.self) c.get.ensures set in
    subst (λ (k : Option Pattern). IsSetOf (variables_in k) c.add_pattern.new.self) (sym c.in-Some.is) same
