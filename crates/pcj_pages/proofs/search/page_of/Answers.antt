use Rattle.std.proofs.Common.{rules, sym, subst}
use Rattle.std.proofs.lemmas.Fn.{always_returns_same}
use Rattle.pcj_pages.specs.Search.{starts_up_to, IsPageOf}
use Rattle.pcj_pages.proofs.Searches.{parted, started_at, page_is}
use Rattle.pcj_pages.proofs.search.page_of.Goals as goal

pub returns-clause-page : goal.returns-clause-page
returns-clause-page c =
    let facts = c.partition_point.ensures in
    let point = facts.partitioned (starts_up_to c.args.key.now) (always_returns_same _ _ _ (λ a r g called. (search rules, search rules))) (parted c.args.key.now c.args.pages.now c.requires.rise c.requires.sized) in
    let started = started_at c.args.key.now c.args.pages.now c.partition_point.result facts.bound point.0 point.1 in
    subst (IsPageOf c.args.key.now c.args.pages.now) (sym c.saturating_sub.ensures) (page_is c.args.key.now c.args.pages.now c.partition_point.result c.requires.rise c.requires.sized started)
