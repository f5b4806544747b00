-- The summary of rows one of which is changed.
use Rattle.std.proofs.Common.{◌≡◌, ◌≤◌, ◌<◌, ◌+◌, ℕ, zero, suc, max, Bool, true, false, cond, if◌then◌else◌, List, [], ◌∷◌, length, Option, Some, None, is_some, refl, sym, ap, subst, ◌∙◌, arith}
use Rattle.std.specs.Prelude.{nat_le}
use Rattle.std.proofs.lemmas.Bool.{eq-eqb, false_from_ne_true}
use Rattle.std.proofs.lemmas.Bool.Decides.{Decides-eqb}
use Rattle.pcj_table.specs.declared.found.Found.{Found}
use Rattle.pcj_table.specs.declared.row.Row.{Row}
use Rattle.pcj_table.specs.declared.lock.Lock.{Lock}
use Rattle.pcj_table.specs.declared.plain.Plain.{Plain}
use Rattle.pcj_table.specs.declared.version.Version.{Version}
use Rattle.pcj_table.specs.declared.cond.Cond.{Cond}
use Rattle.pcj_table.specs.declared.update.Update.{Update}
use Rattle.pcj_table.specs.declared.update.Update.TheVariants.{SetLock, DropLock, AddVersion, SetPlain}
use Rattle.pcj_table.specs.declared.mutated.Mutated.{Mutated}
use Rattle.pcj_table.specs.declared.mutated.Mutated.TheVariants.{Applied, Rejected}
use Rattle.pcj_table.specs.Row.{has_nothing, is_counted, updated, updated_all, add_version}
use Rattle.pcj_sorted.specs.Edits.{row_in, with_row_at, Changes}
use Rattle.pcj_pages.specs.declared.summary.Summary.{Summary}
use Rattle.pcj_pages.specs.Summary.{last_commit, last_commit_in, live_in, locks_in, summary_of}
use Rattle.pcj_pages.specs.Adding.{one_if, row_summary, left_at}
use Rattle.pcj_pages.proofs.Summaries.{live_first, locks_first}

-- ---- updates keep the versions

commit_added : (version : Version) (versions : List Version) → last_commit (add_version version versions) ≡ max version.commit (last_commit versions)
commit_added version [] = refl
commit_added version (other ∷ versions) = by (nat_le other.commit version.commit) (commit_added version versions)
  where
    by : (b : Bool) → last_commit (add_version version versions) ≡ max version.commit (last_commit versions) →
        last_commit (if b then other ∷ add_version version versions else version ∷ other ∷ versions) ≡ max version.commit (max other.commit (last_commit versions))
    by true h = omega (arith, h)
    by false h = refl

update_keeps : (row : Row) (update : Update) → last_commit row.versions ≤ last_commit (updated row update).versions
update_keeps row (SetLock lock) = omega arith
update_keeps row DropLock = omega arith
update_keeps row (AddVersion version) = let added = commit_added version row.versions in omega (arith, added)
update_keeps row (SetPlain plain) = omega arith

pub updates_keep : (row : Row) (updates : List Update) → last_commit row.versions ≤ last_commit (updated_all row updates).versions
updates_keep row [] = omega arith
updates_keep row (update ∷ updates) =
    let first = update_keeps row update in
    let rest = updates_keep (updated row update) updates in
    omega (arith, first, rest)

-- ---- a row that has nothing adds nothing

nothing_adds : (row : Row) → has_nothing row ≡ true → row_summary row ≡ summary_of []
nothing_adds row none = by row.lock row.versions row.plain none
  where
    by : (lock : Option Lock) (versions : List Version) (plain : Option Plain) → has_nothing (record { lock = lock; versions = versions; plain = plain }) ≡ true →
        row_summary (record { lock = lock; versions = versions; plain = plain }) ≡ summary_of []
    by None [] None none = refl
    by None [] (Some plain) none = absurd cc
    by None (version ∷ versions) plain none = absurd cc
    by (Some lock) versions plain none = absurd cc

-- ---- a row is changed

pub live_has : (rows : List Found) (at : ℕ) → at < length rows → one_if (is_counted (row_in rows at)) ≤ live_in rows
live_has [] at lt = absurd (omega arith)
live_has (found ∷ rows) zero lt = let first = live_first found rows in omega (arith, first)
live_has (found ∷ rows) (suc at) lt =
    let first = live_first found rows in
    let rest = live_has rows at (omega arith) in
    omega (arith, first, rest)

pub locks_has : (rows : List Found) (at : ℕ) → at < length rows → one_if (is_some (row_in rows at).lock) ≤ locks_in rows
locks_has [] at lt = absurd (omega arith)
locks_has (found ∷ rows) zero lt = let first = locks_first found rows in omega (arith, first)
locks_has (found ∷ rows) (suc at) lt =
    let first = locks_first found rows in
    let rest = locks_has rows at (omega arith) in
    omega (arith, first, rest)

last_has : (rows : List Found) (at : ℕ) → at < length rows → last_commit (row_in rows at).versions ≤ last_commit_in rows
last_has [] at lt = absurd (omega arith)
last_has (found ∷ rows) zero lt = omega arith
last_has (found ∷ rows) (suc at) lt = let rest = last_has rows at (omega arith) in omega (arith, rest)

live_changed : (rows : List Found) (at : ℕ) (row : Row) → at < length rows → live_in (with_row_at rows at row) + one_if (is_counted (row_in rows at)) ≡ live_in rows + one_if (is_counted row)
live_changed [] at row lt = absurd (omega arith)
live_changed (found ∷ rows) zero row lt = by (has_nothing row) refl
  where
    by : (b : Bool) → has_nothing row ≡ b → live_in (cond b rows (record { key = found.key; row = row } ∷ rows)) + one_if (is_counted found.row) ≡ live_in (found ∷ rows) + one_if (is_counted row)
    by true none =
        let first = live_first found rows in
        let zero = ap (λ (s : Summary). s.live) (nothing_adds row none) in
        omega (arith, first, zero)
    by false some =
        let first = live_first found rows in
        let new = live_first (record { key = found.key; row = row }) rows in
        omega (arith, first, new)
live_changed (found ∷ rows) (suc at) row lt =
    let rest = live_changed rows at row (omega arith) in
    let first = live_first found rows in
    let new = live_first found (with_row_at rows at row) in
    omega (arith, rest, first, new)

locks_changed : (rows : List Found) (at : ℕ) (row : Row) → at < length rows → locks_in (with_row_at rows at row) + one_if (is_some (row_in rows at).lock) ≡ locks_in rows + one_if (is_some row.lock)
locks_changed [] at row lt = absurd (omega arith)
locks_changed (found ∷ rows) zero row lt = by (has_nothing row) refl
  where
    by : (b : Bool) → has_nothing row ≡ b → locks_in (cond b rows (record { key = found.key; row = row } ∷ rows)) + one_if (is_some found.row.lock) ≡ locks_in (found ∷ rows) + one_if (is_some row.lock)
    by true none =
        let first = locks_first found rows in
        let zero = ap (λ (s : Summary). s.locks) (nothing_adds row none) in
        omega (arith, first, zero)
    by false some =
        let first = locks_first found rows in
        let new = locks_first (record { key = found.key; row = row }) rows in
        omega (arith, first, new)
locks_changed (found ∷ rows) (suc at) row lt =
    let rest = locks_changed rows at row (omega arith) in
    let first = locks_first found rows in
    let new = locks_first found (with_row_at rows at row) in
    omega (arith, rest, first, new)

last_changed : (rows : List Found) (at : ℕ) (row : Row) → at < length rows → last_commit (row_in rows at).versions ≤ last_commit row.versions → last_commit_in (with_row_at rows at row) ≡ max (last_commit_in rows) (last_commit row.versions)
last_changed [] at row lt le = absurd (omega arith)
last_changed (found ∷ rows) zero row lt le = by (has_nothing row) refl
  where
    by : (b : Bool) → has_nothing row ≡ b → last_commit_in (cond b rows (record { key = found.key; row = row } ∷ rows)) ≡ max (max (last_commit found.row.versions) (last_commit_in rows)) (last_commit row.versions)
    by true none =
        let zero = ap (λ (s : Summary). s.newest) (nothing_adds row none) in
        omega (arith, zero, le)
    by false some = omega (arith, le)
last_changed (found ∷ rows) (suc at) row lt le =
    let rest = last_changed rows at row (omega arith) le in
    omega (arith, rest)

-- ---- what is left at the place

pub as_many : (rows : List Found) (at : ℕ) (row : Row) → has_nothing row ≡ false → length (with_row_at rows at row) ≡ length rows
as_many [] at row some = refl
as_many (found ∷ rows) zero row some = rw some refl
as_many (found ∷ rows) (suc at) row some = ap suc (as_many rows at row some)

pub one_less : (rows : List Found) (at : ℕ) (row : Row) → has_nothing row ≡ true → at < length rows → suc (length (with_row_at rows at row)) ≡ length rows
one_less [] at row none lt = absurd (omega arith)
one_less (found ∷ rows) zero row none lt = rw none refl
one_less (found ∷ rows) (suc at) row none lt = ap suc (one_less rows at row none (omega arith))

row_put : (rows : List Found) (at : ℕ) (row : Row) → has_nothing row ≡ false → at < length rows → row_in (with_row_at rows at row) at ≡ row
row_put [] at row some lt = absurd (omega arith)
row_put (found ∷ rows) zero row some lt = rw some refl
row_put (found ∷ rows) (suc at) row some lt = row_put rows at row some (omega arith)

pub left_where_as_many : (rows : List Found) (at count : ℕ) → length rows ≡ count → left_at rows at count ≡ row_summary (row_in rows at)
left_where_as_many rows at count same = rw (eq-eqb (length rows) count same) refl

left_where_fewer : (rows : List Found) (at count : ℕ) → suc (length rows) ≡ count → left_at rows at count ≡ summary_of []
left_where_fewer rows at count fewer = rw (false_from_ne_true _ (λ same. one_more (length rows) count fewer ((Decides-eqb (length rows) count).0 same))) refl
  where
    one_more : (n count : ℕ) → suc n ≡ count → n ≡ count → ⊥
    one_more n count e f = omega (arith, e, f)

left_is : (rows : List Found) (at : ℕ) (row : Row) → at < length rows → left_at (with_row_at rows at row) at (length rows) ≡ row_summary row
left_is rows at row lt = by (has_nothing row) refl
  where
    by : (b : Bool) → has_nothing row ≡ b → left_at (with_row_at rows at row) at (length rows) ≡ row_summary row
    by true none = left_where_fewer (with_row_at rows at row) at (length rows) (one_less rows at row none lt) ∙ sym (nothing_adds row none)
    by false some = left_where_as_many (with_row_at rows at row) at (length rows) (as_many rows at row some) ∙ ap row_summary (row_put rows at row some lt)

-- the summary of the rows after a change is that before, with that of the row replaced
pub record Replaces (rows new : List Found) (at : ℕ) (summary : Summary) : Type 0 where
  pub live : live_in new + one_if (is_counted (row_in rows at)) ≡ live_in rows + summary.live
  pub locks : locks_in new + one_if (is_some (row_in rows at).lock) ≡ locks_in rows + summary.locks
  pub newest : last_commit_in new ≡ max (last_commit_in rows) summary.newest

pub replaces : (rows new : List Found) (at : ℕ) (conds : List Cond) (updates : List Update) → at < length rows → (done : Mutated) → Changes rows at conds updates done new → Replaces rows new at (left_at new at (length rows))
replaces rows new at conds updates lt Applied made = subst (λ rs. Replaces rows rs at (left_at rs at (length rows))) (sym made.1) (subst (Replaces rows (with_row_at rows at row) at) (sym (left_is rows at row lt)) (record {
  live = live_changed rows at row lt;
  locks = locks_changed rows at row lt;
  newest = last_changed rows at row lt (updates_keep (row_in rows at) updates);
}))
  where
    row : Row
    row = updated_all (row_in rows at) updates
replaces rows new at conds updates lt (Rejected shown) made = subst (λ rs. Replaces rows rs at (left_at rs at (length rows))) (sym made.2) (subst (Replaces rows rows at) (sym (left_where_as_many rows at (length rows) refl)) (record {
  live = refl;
  locks = refl;
  newest = let last = last_has rows at lt in omega (arith, last);
}))
