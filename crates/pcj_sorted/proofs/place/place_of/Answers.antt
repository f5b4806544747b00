use Rattle.std.proofs.Common.{rules}
use Rattle.std.proofs.lemmas.Fn.{always_returns_same}
use Rattle.pcj_term.specs.Order.{bytes_cmp}
use Rattle.pcj_sorted.proofs.Places.{searched}
use Rattle.pcj_sorted.proofs.place.place_of.Goals as goal

pub returns-clause-place : goal.returns-clause-place
returns-clause-place c =
    let facts = c.binary_search_by.ensures in
    let by_key = facts.position (λ row. bytes_cmp row.key c.args.key.now) (always_returns_same _ _ _ (λ a r g called. (search rules, search rules))) in
    searched c.args.key.now c.args.rows.now c.requires c.binary_search_by.result facts.bound by_key
