use Rattle.std.proofs.Common.{◌≡◌, ◌≤◌, ◌<◌, ◌+◌, ◌∙◌, suc, take, drop, set, length, ap, sym, subst, arith}
use Rattle.std.specs.List.{insert}
use Rattle.pcj_pages.specs.Search.{page_rows, split_at}
use Rattle.pcj_pages.proofs.Places.{page_rows_is, split_is}
use Rattle.pcj_pages.proofs.mutation.split.Goals as goal

pub split_off-requires : goal.split_off-requires
split_off-requires c =
    let within = subst (λ pages. c.args.at < length pages) (sym c.in_ok-reserve.ensures.items) c.requires.page in
    let page = ap (λ pages. page_rows pages c.args.at) (sym c.in_ok-reserve.ensures.items) ∙ page_rows_is c.reserve.new.self.items c.args.at c.index_mut.result.now within ∙ sym c.index_mut.ensures.value in
    subst (λ rows. 32 ≤ length rows) page c.requires.full

pub returns-clause-ok : goal.returns-clause-ok
returns-clause-ok c =
    let within = subst (λ pages. c.args.at < length pages) (sym c.in_ok-reserve.ensures.items) c.requires.page in
    let page = page_rows_is c.reserve.new.self.items c.args.at c.index_mut.result.now within ∙ sym c.index_mut.ensures.value in
    let next : c.args.at + 1 ≡ suc c.args.at = omega arith in
    let low = c.in_ok-upper.ensures.ok ∙ ap (take 32) (sym page) in
    let high = c.in_ok-upper.ensures.rest ∙ ap (drop 32) (sym page) in
    c.in_ok-insert.ensures.items ∙ ap (λ k. insert (set c.reserve.new.self.items c.args.at c.split_off.new.self) k c.in_ok-upper.upper) next
    ∙ split_is c.reserve.new.self.items c.args.at 32 c.split_off.new.self c.in_ok-upper.upper within low high ∙ ap (λ pages. split_at pages c.args.at 32) c.in_ok-reserve.ensures.items
