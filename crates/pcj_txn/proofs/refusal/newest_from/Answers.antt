use Rattle.std.proofs.Common.{rules, tests, ◌∙◌, nat_le}
use Rattle.std.proofs.lemmas.Iterator.Adapters.{YieldsList-from_rev_slice}
use Rattle.std.proofs.lemmas.Iterator.Search.{find_from_yields_List}
use Rattle.pcj_mvcc.proofs.Versions.{last_found}
use Rattle.pcj_txn.proofs.refusal.newest_from.Goals as goal

pub returns : goal.returns
returns c =
    find_from_yields_List (λ version. nat_le c.args.at version.commit) _ _ c.find.result c.find.ensures.ran (YieldsList-from_rev_slice c.args.versions.now cc) (λ x b q k. search (rules, tests))
    ∙ last_found (λ version. nat_le c.args.at version.commit) c.args.versions.now
