-- What the summary of a page tells of its rows.
use Rattle.std.proofs.Common.{◌≡◌, ◌≤◌, ℕ, suc, Bool, true, false, not, ◌&&◌, ◌||◌, List, [], ◌∷◌, Option, Some, None, is_some, refl, ap, ◌∙◌, arith}
use Rattle.std.specs.List.{list_all}
use Rattle.std.specs.Cmp.Derive.{both_true}
use Rattle.std.proofs.lemmas.Bool.{and_parts, leb-true, le-leb}
use Rattle.std.proofs.lemmas.Bool.Decides.{Decides-eqb}
use Rattle.pcj_term.proofs.ByteLemmas.{less_is}
use Rattle.pcj_table.specs.declared.found.Found.{Found}
use Rattle.pcj_table.specs.declared.lock.Lock.{Lock}
use Rattle.pcj_table.specs.declared.row.Row.{Row}
use Rattle.pcj_table.specs.declared.version.Version.{Version}
use Rattle.pcj_table.specs.Row.{is_seen_at, is_counted, is_locked_up_to, is_put, newest, versions_up_to, has_plain_value}
use Rattle.pcj_table.specs.Table.{Key, is_before, is_between, is_next_at, is_next_lock, is_counted_between}
use Rattle.pcj_sorted.specs.Entries.{keys_rise}
use Rattle.pcj_pages.specs.Summary.{last_commit, last_commit_in, live_in, locks_in, summary_of, is_dead_at}
use Rattle.pcj_pages.specs.Adding.{one_if}
use Rattle.pcj_pages.specs.Search.{starts_before, ends_before, all_below}
use Rattle.pcj_pages.specs.Walk.{count_in}
use Rattle.pcj_pages.proofs.Orders.{not_before, before_after}
use Rattle.pcj_pages.proofs.Summaries.{live_first, locks_first}
use Rattle.pcj_pages.proofs.Walks.{none_passes, nor}

-- ---- a dead page

zero_is : (b : Bool) → one_if b ≡ 0 → b ≡ false
zero_is true e = absurd (omega (arith, e))
zero_is false e = refl

all_kept : (at : ℕ) (versions : List Version) → last_commit versions ≤ at → versions_up_to at versions ≡ versions
all_kept at [] le = refl
all_kept at (version ∷ versions) le = rw (le-leb version.commit at (omega (arith, le))) (ap (λ vs. version ∷ vs) (all_kept at versions (omega (arith, le))))

unseen : (at : ℕ) (row : Row) → is_counted row ≡ false → is_some row.lock ≡ false → last_commit row.versions ≤ at → is_seen_at at row ≡ false
unseen at row uncounted unlocked le = by row.lock unlocked
  where
    by : (lock : Option Lock) → is_some lock ≡ false → (is_locked_up_to at lock || is_put (newest (versions_up_to at row.versions)) || has_plain_value row.plain) ≡ false
    by None none = rw (all_kept at row.versions le) uncounted
    by (Some lock) none = absurd cc

none_seen : (after end : Key) (at : ℕ) (rows : List Found) → live_in rows ≡ 0 → locks_in rows ≡ 0 → last_commit_in rows ≤ at → none_passes (is_next_at after end at) rows ≡ true
none_seen after end at [] live locks le = refl
none_seen after end at (found ∷ rows) live locks le =
    let live_parts = live_first found rows in
    let locks_parts = locks_first found rows in
    let uncounted = zero_is (is_counted found.row) (omega (arith, live, live_parts)) in
    let unlocked = zero_is (is_some found.row.lock) (omega (arith, locks, locks_parts)) in
    let here = unseen at found.row uncounted unlocked (omega (arith, le)) in
    both_true (ap not (ap (λ b. is_between after end found.key && b) here ∙ nor (is_between after end found.key)))
    (none_seen after end at rows (omega (arith, live, live_parts)) (omega (arith, locks, locks_parts)) (omega (arith, le)))

pub dead_page : (after end : Key) (at : ℕ) (rows : List Found) → is_dead_at at (summary_of rows) ≡ true → none_passes (is_next_at after end at) rows ≡ true
dead_page after end at rows dead =
    let counts = and_parts _ _ (and_parts _ _ dead).0 in
    none_seen after end at rows ((Decides-eqb (live_in rows) 0).0 counts.0) ((Decides-eqb (locks_in rows) 0).0 counts.1) (leb-true (last_commit_in rows) at (and_parts _ _ dead).1)

-- ---- a page without locks

pub unlocked_page : (after : Key) (rows : List Found) → locks_in rows ≡ 0 → none_passes (is_next_lock after) rows ≡ true
unlocked_page after [] locks = refl
unlocked_page after (found ∷ rows) locks =
    let parts = locks_first found rows in
    let unlocked = zero_is (is_some found.row.lock) (omega (arith, locks, parts)) in
    both_true (ap not (ap (λ b. is_before after found.key && b) unlocked ∙ nor (is_before after found.key))) (unlocked_page after rows (omega (arith, locks, parts)))

-- ---- a page between two keys

ends_all : (end : Key) (rows : List Found) → keys_rise rows ≡ true → ends_before end rows ≡ true → all_below end rows ≡ true
ends_all end [] rise ends = refl
ends_all end (found ∷ []) rise ends = both_true ends refl
ends_all end (found ∷ next ∷ rows) rise ends = both_true (before_after found.key next.key end (less_is _ (and_parts _ _ (and_parts _ _ rise).0).0) (and_parts _ _ (ends_all end (next ∷ rows) (and_parts _ _ rise).1 ends)).0) (ends_all end (next ∷ rows) (and_parts _ _ rise).1 ends)

abbrev all_from : Key → List Found → Bool
all_from from rows = list_all (λ found. not (is_before found.key from)) rows

starts_all : (from : Key) (rows : List Found) → keys_rise rows ≡ true → starts_before from rows ≡ false → all_from from rows ≡ true
starts_all from [] rise out = refl
starts_all from (found ∷ []) rise out = both_true (ap not out) refl
starts_all from (found ∷ next ∷ rows) rise out = both_true (ap not out) (starts_all from (next ∷ rows) (and_parts _ _ rise).1 (not_before found.key next.key from (less_is _ (and_parts _ _ (and_parts _ _ rise).0).0) out))

all_counted : (from end : Key) (rows : List Found) → all_from from rows ≡ true → all_below end rows ≡ true → live_in rows ≡ count_in (is_counted_between from end) rows
all_counted from end [] starts ends = refl
all_counted from end (found ∷ rows) starts ends = by (is_counted found.row) (and_parts _ _ starts).0 (and_parts _ _ ends).0 refl (all_counted from end rows (and_parts _ _ starts).1 (and_parts _ _ ends).1)
  where
    by : (b : Bool) → not (is_before found.key from) ≡ true → is_before found.key end ≡ true → is_counted found.row ≡ b → live_in rows ≡ count_in (is_counted_between from end) rows → live_in (found ∷ rows) ≡ count_in (is_counted_between from end) (found ∷ rows)
    by true start end' e rest = rw (start, end', e) (ap suc rest)
    by false start end' e rest = rw (start, end', e) rest

pub counted_page : (from end : Key) (rows : List Found) → keys_rise rows ≡ true → starts_before from rows ≡ false → ends_before end rows ≡ true → live_in rows ≡ count_in (is_counted_between from end) rows
counted_page from end rows rise starts ends = all_counted from end rows (starts_all from rows rise starts) (ends_all end rows rise ends)
