use Rattle.std.proofs.Common.{◌≡◌, ◌≤◌, ◌<◌, ◌+◌, ◌-◌, ◌∙◌, suc, length, ap, sym, subst, arith}
use Rattle.std.specs.List.{insert}
use Rattle.std.proofs.lemmas.List.{length-take, length-drop}
use Rattle.std.proofs.lemmas.Result.{on_ok_weaker, on_err_weaker}
use Rattle.pcj_pages.specs.Pages.{rows_of, AreSized}
use Rattle.pcj_pages.specs.Search.{page_rows, rows_before, split_at}
use Rattle.pcj_pages.proofs.Places.{page_rows_is, some_are, sized_at, sized_split, one_more, low_page, low_insert, high_page, high_insert, rows_split}
use Rattle.pcj_pages.proofs.mutation.put_in.Goals as goal

pub insert_at-requires-clause-room : goal.insert_at-requires-clause-room
insert_at-requires-clause-room c =
    let within = c.requires.page (subst (λ n. 0 < n) c.args.pages.now.ok.0 (some_are _ (sym c.is_empty.ensures ∙ c.if-is_empty.false))) in
    let page = page_rows_is c.args.pages.now.items c.args.at c.index.result.now within ∙ sym c.index.ensures ∙ sym c.rows.ensures in
    subst (λ rows. length rows < 64) (sym page) c.if-rows-lt-MOST_ROWS.true

pub split-requires-clause-full : goal.split-requires-clause-full
split-requires-clause-full c =
    let within = c.requires.page (subst (λ n. 0 < n) c.args.pages.now.ok.0 (some_are _ (sym c.is_empty.ensures ∙ c.if-is_empty.false))) in
    let page = page_rows_is c.args.pages.now.items c.args.at c.index.result.now within ∙ sym c.index.ensures ∙ sym c.rows.ensures in
    let full : 64 ≤ length (page_rows c.args.pages.now.items c.args.at) = subst (λ rows. 64 ≤ length rows) (sym page) c.if-rows-lt-MOST_ROWS.false in
    let size = sized_at c.args.pages.now.items c.args.at c.requires.sized within in
    omega (arith, full)

pub insert_at-requires-then-place-le-HALF-clause-page : goal.insert_at-requires-then-place-le-HALF-clause-page
insert_at-requires-then-place-le-HALF-clause-page c =
    let within = c.requires.page (subst (λ n. 0 < n) c.args.pages.now.ok.0 (some_are _ (sym c.is_empty.ensures ∙ c.if-is_empty.false))) in
    let split = c.in_ok-split.ensures.ok in
    let more = ap length split ∙ one_more c.args.pages.now.items c.args.at 32 within in
    omega (arith, more, within)

pub insert_at-requires-then-place-le-HALF-clause-place : goal.insert_at-requires-then-place-le-HALF-clause-place
insert_at-requires-then-place-le-HALF-clause-place c =
    let within = c.requires.page (subst (λ n. 0 < n) c.args.pages.now.ok.0 (some_are _ (sym c.is_empty.ensures ∙ c.if-is_empty.false))) in
    let page = page_rows_is c.args.pages.now.items c.args.at c.index.result.now within ∙ sym c.index.ensures ∙ sym c.rows.ensures in
    let full : 64 ≤ length (page_rows c.args.pages.now.items c.args.at) = subst (λ rows. 64 ≤ length rows) (sym page) c.if-rows-lt-MOST_ROWS.false in
    let size = sized_at c.args.pages.now.items c.args.at c.requires.sized within in
    let split = c.in_ok-split.ensures.ok in
    let low = ap (λ pages. page_rows pages c.args.at) split ∙ low_page c.args.pages.now.items c.args.at 32 within in
    let front = length-take 32 (page_rows c.args.pages.now.items c.args.at) in
    subst (λ rows. c.args.place ≤ length rows) (sym low) (omega (arith, front, full, c.if-place-le-HALF.true))

pub insert_at-requires-then-place-le-HALF-clause-room : goal.insert_at-requires-then-place-le-HALF-clause-room
insert_at-requires-then-place-le-HALF-clause-room c =
    let within = c.requires.page (subst (λ n. 0 < n) c.args.pages.now.ok.0 (some_are _ (sym c.is_empty.ensures ∙ c.if-is_empty.false))) in
    let split = c.in_ok-split.ensures.ok in
    let low = ap (λ pages. page_rows pages c.args.at) split ∙ low_page c.args.pages.now.items c.args.at 32 within in
    let front = length-take 32 (page_rows c.args.pages.now.items c.args.at) in
    subst (λ rows. length rows < 64) (sym low) (omega (arith, front))

pub insert_at-requires-then-place-le-HALF-clause-sized : goal.insert_at-requires-then-place-le-HALF-clause-sized
insert_at-requires-then-place-le-HALF-clause-sized c =
    let within = c.requires.page (subst (λ n. 0 < n) c.args.pages.now.ok.0 (some_are _ (sym c.is_empty.ensures ∙ c.if-is_empty.false))) in
    let page = page_rows_is c.args.pages.now.items c.args.at c.index.result.now within ∙ sym c.index.ensures ∙ sym c.rows.ensures in
    let full : 64 ≤ length (page_rows c.args.pages.now.items c.args.at) = subst (λ rows. 64 ≤ length rows) (sym page) c.if-rows-lt-MOST_ROWS.false in
    let size = sized_at c.args.pages.now.items c.args.at c.requires.sized within in
    let split = c.in_ok-split.ensures.ok in
    subst AreSized (sym split) (sized_split c.args.pages.now.items c.args.at c.requires.sized (omega (arith, full)))

pub insert_at-requires-else-place-le-HALF-clause-page : goal.insert_at-requires-else-place-le-HALF-clause-page
insert_at-requires-else-place-le-HALF-clause-page c =
    let within = c.requires.page (subst (λ n. 0 < n) c.args.pages.now.ok.0 (some_are _ (sym c.is_empty.ensures ∙ c.if-is_empty.false))) in
    let split = c.in_ok-split.ensures.ok in
    let more = ap length split ∙ one_more c.args.pages.now.items c.args.at 32 within in
    omega (arith, more, within)

pub insert_at-requires-else-place-le-HALF-clause-place : goal.insert_at-requires-else-place-le-HALF-clause-place
insert_at-requires-else-place-le-HALF-clause-place c =
    let within = c.requires.page (subst (λ n. 0 < n) c.args.pages.now.ok.0 (some_are _ (sym c.is_empty.ensures ∙ c.if-is_empty.false))) in
    let page = page_rows_is c.args.pages.now.items c.args.at c.index.result.now within ∙ sym c.index.ensures ∙ sym c.rows.ensures in
    let full : 64 ≤ length (page_rows c.args.pages.now.items c.args.at) = subst (λ rows. 64 ≤ length rows) (sym page) c.if-rows-lt-MOST_ROWS.false in
    let size = sized_at c.args.pages.now.items c.args.at c.requires.sized within in
    let split = c.in_ok-split.ensures.ok in
    let next : c.args.at + 1 ≡ suc c.args.at = omega arith in
    let high = ap (page_rows c.split.new.pages.items) next ∙ ap (λ pages. page_rows pages (suc c.args.at)) split ∙ high_page c.args.pages.now.items c.args.at 32 within in
    let back = length-drop 32 (page_rows c.args.pages.now.items c.args.at) in
    subst (λ rows. c.args.place - 32 ≤ length rows) (sym high) (omega (arith, back, size.1, c.requires.place))

pub insert_at-requires-else-place-le-HALF-clause-room : goal.insert_at-requires-else-place-le-HALF-clause-room
insert_at-requires-else-place-le-HALF-clause-room c =
    let within = c.requires.page (subst (λ n. 0 < n) c.args.pages.now.ok.0 (some_are _ (sym c.is_empty.ensures ∙ c.if-is_empty.false))) in
    let page = page_rows_is c.args.pages.now.items c.args.at c.index.result.now within ∙ sym c.index.ensures ∙ sym c.rows.ensures in
    let full : 64 ≤ length (page_rows c.args.pages.now.items c.args.at) = subst (λ rows. 64 ≤ length rows) (sym page) c.if-rows-lt-MOST_ROWS.false in
    let size = sized_at c.args.pages.now.items c.args.at c.requires.sized within in
    let split = c.in_ok-split.ensures.ok in
    let next : c.args.at + 1 ≡ suc c.args.at = omega arith in
    let high = ap (page_rows c.split.new.pages.items) next ∙ ap (λ pages. page_rows pages (suc c.args.at)) split ∙ high_page c.args.pages.now.items c.args.at 32 within in
    let back = length-drop 32 (page_rows c.args.pages.now.items c.args.at) in
    subst (λ rows. length rows < 64) (sym high) (omega (arith, back, size.1))

pub insert_at-requires-else-place-le-HALF-clause-sized : goal.insert_at-requires-else-place-le-HALF-clause-sized
insert_at-requires-else-place-le-HALF-clause-sized c =
    let within = c.requires.page (subst (λ n. 0 < n) c.args.pages.now.ok.0 (some_are _ (sym c.is_empty.ensures ∙ c.if-is_empty.false))) in
    let page = page_rows_is c.args.pages.now.items c.args.at c.index.result.now within ∙ sym c.index.ensures ∙ sym c.rows.ensures in
    let full : 64 ≤ length (page_rows c.args.pages.now.items c.args.at) = subst (λ rows. 64 ≤ length rows) (sym page) c.if-rows-lt-MOST_ROWS.false in
    let size = sized_at c.args.pages.now.items c.args.at c.requires.sized within in
    let split = c.in_ok-split.ensures.ok in
    subst AreSized (sym split) (sized_split c.args.pages.now.items c.args.at c.requires.sized (omega (arith, full)))

pub returns-then-place-le-HALF-clause-ok : goal.returns-then-place-le-HALF-clause-ok
returns-then-place-le-HALF-clause-ok c =
    let split = c.in_ok-split.ensures.ok in
    on_ok_weaker c.insert_at-then-place-le-HALF.result (λ made. made ∙ ap (λ pages. insert (rows_of pages) (rows_before pages c.args.at + c.args.place) c.args.found) split
    ∙ low_insert c.args.pages.now.items c.args.at 32 c.args.place c.args.found (rows_split c.args.pages.now.items c.args.at 32)) c.insert_at-then-place-le-HALF.ensures.ok

pub returns-then-place-le-HALF-clause-err : goal.returns-then-place-le-HALF-clause-err
returns-then-place-le-HALF-clause-err c =
    let split = c.in_ok-split.ensures.ok in
    on_err_weaker c.insert_at-then-place-le-HALF.result (λ same. ap rows_of (same ∙ split) ∙ rows_split c.args.pages.now.items c.args.at 32) c.insert_at-then-place-le-HALF.ensures.err

pub returns-else-place-le-HALF-clause-ok : goal.returns-else-place-le-HALF-clause-ok
returns-else-place-le-HALF-clause-ok c =
    let within = c.requires.page (subst (λ n. 0 < n) c.args.pages.now.ok.0 (some_are _ (sym c.is_empty.ensures ∙ c.if-is_empty.false))) in
    let page = page_rows_is c.args.pages.now.items c.args.at c.index.result.now within ∙ sym c.index.ensures ∙ sym c.rows.ensures in
    let full : 64 ≤ length (page_rows c.args.pages.now.items c.args.at) = subst (λ rows. 64 ≤ length rows) (sym page) c.if-rows-lt-MOST_ROWS.false in
    let size = sized_at c.args.pages.now.items c.args.at c.requires.sized within in
    let split = c.in_ok-split.ensures.ok in
    let next : c.args.at + 1 ≡ suc c.args.at = omega arith in
    on_ok_weaker c.insert_at-else-place-le-HALF.result (λ made. made ∙ ap (λ pages. insert (rows_of pages) (rows_before pages (c.args.at + 1) + (c.args.place - 32)) c.args.found) split
    ∙ ap (λ k. insert (rows_of (split_at c.args.pages.now.items c.args.at 32)) (rows_before (split_at c.args.pages.now.items c.args.at 32) k + (c.args.place - 32)) c.args.found) next
    ∙ high_insert c.args.pages.now.items c.args.at 32 c.args.place c.args.found within (omega (arith, full)) (omega (arith, c.if-place-le-HALF.false))) c.insert_at-else-place-le-HALF.ensures.ok

pub returns-else-place-le-HALF-clause-err : goal.returns-else-place-le-HALF-clause-err
returns-else-place-le-HALF-clause-err c =
    let split = c.in_ok-split.ensures.ok in
    on_err_weaker c.insert_at-else-place-le-HALF.result (λ same. ap rows_of (same ∙ split) ∙ rows_split c.args.pages.now.items c.args.at 32) c.insert_at-else-place-le-HALF.ensures.err
