use Rattle.std.proofs.Common.{sym, subst, ℕ, List, ◌++◌, append_assoc}
use Rattle.std.proofs.lemmas.Result.{on_ok_weaker}
use Rattle.pcj_translate.specs.Names.{IsSetOf}
use Rattle.pcj_translate.specs.Variables.{slot_variables}
use Rattle.pcj_translate.proofs.SetsOfNames.{joined_set}
use Rattle.pcj_translate.proofs.name_set.NameSet.add_triple.Goals as goal

pub returns : goal.returns
returns c =
    on_ok_weaker c.add_slot-3.result
    (λ last names h.
    let object = slot_variables c.args.triple.now.object in
    let predicate = slot_variables c.args.triple.now.predicate in
    let subject = slot_variables c.args.triple.now.subject in
    joined_set subject _ names _ (joined_inner predicate object names subject _ (last _ ((c.in_ok-add_slot-2.ensures {u = tt}) _ ((c.in_ok-add_slot.ensures {u = tt}) names h)))))
    c.add_slot-3.ensures
  where
    joined_inner : (ys zs names xs set : List (List ℕ)) → IsSetOf (xs ++ (ys ++ (zs ++ names))) set → IsSetOf (xs ++ ((ys ++ zs) ++ names)) set
    joined_inner ys zs names xs set h = subst (λ (k : List (List ℕ)). IsSetOf (xs ++ k) set) (sym (append_assoc ys zs names)) h
