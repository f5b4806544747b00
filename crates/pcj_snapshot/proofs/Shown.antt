-- What a read shows of a table.
use Rattle.std.proofs.Common.{◌≡◌, ℕ, Bool, true, false, cond, nat_le, is_some, List, Option, Some, None, refl, ap, sym, subst, ◌∙◌}
use Rattle.std.specs.Option.{option_map}
use Rattle.std.proofs.lemmas.Bool.{and_parts}
use Rattle.pcj_table.specs.declared.lock.Lock.{Lock}
use Rattle.pcj_table.specs.declared.row.Row.{Row}
use Rattle.pcj_table.specs.declared.found.Found.{Found}
use Rattle.pcj_table.specs.declared.version.Version.{Version}
use Rattle.pcj_table.specs.Row.{has_nothing, newest, versions_up_to, is_locked_up_to, is_put, is_seen_at}
use Rattle.pcj_table.specs.Table.{Key, Table, row_at, shown, first_row, is_between, is_next_at}
use Rattle.pcj_table.proofs.EntryLemmas.{IsFirstRow, first_row_is}
use Rattle.pcj_encode.specs.declared.key_range.KeyRange.{KeyRange}
use Rattle.pcj_mvcc.specs.Reading.{Rows, Put, lock_up_to, put_of}
use Rattle.pcj_mvcc.specs.Times.{AllVersions, starts_first, TimesInOrder}
use Rattle.pcj_moves.specs.declared.answer.Answer.TheVariants.{OfRow}
use Rattle.pcj_moves.specs.Reads.{IsRead}
use Rattle.pcj_moves.proofs.ReadLemmas.{row_is_read, empty_range_is_read, next_row_is_read}
use Rattle.pcj_snapshot.specs.declared.ask.Ask.{Ask}
use Rattle.pcj_snapshot.specs.declared.ask.Ask.TheVariants.{Get, Next}
use Rattle.pcj_snapshot.specs.Reads.{put_at, row_event, lock_event, found_event, ask_event}
use Rattle.pcj_snapshot.specs.Shown.{HasNoPlain, ShowsAt}

-- a row that a look-up gives
pub shown_row : (row found : Row) → shown row ≡ Some found → row ≡ found
shown_row row found is = by (has_nothing row) is
  where
    by : (b : Bool) → cond b None (Some row) ≡ Some found → row ≡ found
    by true e = absurd cc
    by false e = cc

-- ---- the row of a key

get_shows : (key : Key) (at : ℕ) (rows : Rows) → AllVersions starts_first rows → ShowsAt (Get key) at rows (row_event at key (rows key))
get_shows key at rows first = by (lock_up_to at (rows key).lock) refl (put_at at (rows key)) refl
  where
    by : (lock : Option Lock) → lock_up_to at (rows key).lock ≡ lock → (put : Option Put) → put_at at (rows key) ≡ put → ShowsAt (Get key) at rows (lock_event key lock put)
    by None free None none = subst (λ (put : Option Put). IsRead rows at (OfRow key (option_map (λ p. p.0) put))) none (row_is_read rows key at first free)
    by None free (Some put) some = (refl, subst (λ (found : Option Put). IsRead rows at (OfRow key (option_map (λ p. p.0) found))) some (row_is_read rows key at first free))
    by (Some lock) locked put is = (refl, locked)

-- ---- the first row of a range

no_lock : (at : ℕ) (lock : Option Lock) → lock_up_to at lock ≡ None → is_locked_up_to at lock ≡ false
no_lock at None free = refl
no_lock at (Some lock) free = by (nat_le lock.start at) free
  where
    by : (b : Bool) → cond b (Some lock) None ≡ None → b ≡ false
    by true e = absurd cc
    by false e = refl

no_put : (version : Option Version) → put_of version ≡ None → is_put version ≡ false
no_put None none = refl
no_put (Some version) none = by version.value none
  where
    by : (value : Option (List ℕ)) → option_map {U = Put} (λ bytes. (bytes, version.commit)) value ≡ None → is_some value ≡ false
    by None e = refl
    by (Some bytes) e = absurd cc

-- a row without lock and without plain value is met for its put
has_put : (at : ℕ) (row : Row) → is_seen_at at row ≡ true → lock_up_to at row.lock ≡ None → put_at at row ≡ None → row.plain ≡ None → ⊥
has_put at row met free none plain =
    let passed : is_seen_at at row ≡ false = rw (no_lock at row.lock free, no_put (newest (versions_up_to at row.versions)) none, plain) refl in
    absurd (let both : true ≡ false = sym met ∙ passed in cc)

next_shows : (range : KeyRange) (at : ℕ) (table : Table) → AllVersions starts_first (row_at table) → HasNoPlain (Next range) (row_at table) →
    ShowsAt (Next range) at (row_at table) (found_event at (first_row (is_next_at range.after range.end at) table))
next_shows range at table first plain = by (first_row (is_next_at range.after range.end at) table) refl
  where
    met : (found : Found) → first_row (is_next_at range.after range.end at) table ≡ Some found → IsFirstRow (is_next_at range.after range.end at) table found →
        (lock : Option Lock) → lock_up_to at found.row.lock ≡ lock → (put : Option Put) → put_at at found.row ≡ put → ShowsAt (Next range) at (row_at table) (lock_event found.key lock put)
    met found is there None free None none =
        let parts = and_parts (is_between range.after range.end found.key) (is_seen_at at found.row) there.passes in
        absurd (has_put at found.row parts.1 free none (subst (λ (r : Row). r.plain ≡ None) there.there (plain found.key parts.0)))
    met found is there None free (Some put) some = (
      (and_parts (is_between range.after range.end found.key) (is_seen_at at found.row) there.passes).0,
      next_row_is_read table range.after range.end at found put first is free some,
    )
    met found is there (Some lock) locked put some = (
      (and_parts (is_between range.after range.end found.key) (is_seen_at at found.row) there.passes).0,
      ap (λ (r : Row). lock_up_to at r.lock) there.there ∙ locked,
    )

    by : (o : Option Found) → first_row (is_next_at range.after range.end at) table ≡ o → ShowsAt (Next range) at (row_at table) (found_event at o)
    by None none = empty_range_is_read table range.after range.end at first none
    by (Some found) is = met found is (first_row_is (is_next_at range.after range.end at) table found is) (lock_up_to at found.row.lock) refl (put_at at found.row) refl

-- ---- both

pub shows : (ask : Ask) (at : ℕ) (table : Table) → TimesInOrder (row_at table) → HasNoPlain ask (row_at table) → ShowsAt ask at (row_at table) (ask_event ask at table)
shows (Get key) at table times plain = get_shows key at (row_at table) times.first
shows (Next range) at table times plain = next_shows range at table times.first plain
