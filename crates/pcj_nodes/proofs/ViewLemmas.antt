-- What an actor has read, seen from what stands when it commits.
use Rattle.std.proofs.Common.{◌≡◌, ◌≤◌, ℕ, is_some, List, Option, Some, None, IsSome, refl, ap, sym, ◌∙◌}
use Rattle.std.specs.Option.{option_map}
use Rattle.pcj_table.specs.Table.{Key}
use Rattle.pcj_encode.specs.declared.key_name.KeyName.{KeyName}
use Rattle.pcj_encode.specs.Name.{key_of}
use Rattle.pcj_mvcc.proofs.Laws.{standing_is_seen}
use Rattle.pcj_mvcc.specs.Reading.{Put, Rows, seen, standing}
use Rattle.pcj_mvcc.specs.Times.{TimesInOrder}
use Rattle.pcj_moves.specs.declared.answer.Answer.{Answer}
use Rattle.pcj_moves.specs.Reads.{Reads, finds, value_seen}
use Rattle.pcj_rows.specs.Reads.{HasRead, IsFoundIn, IsMissedIn}
use Rattle.pcj_rows.proofs.TimeLemmas.{seen_at_most}
use Rattle.pcj_rows.proofs.WorkerLemmas.{value_read}
use Rattle.pcj_nodes.specs.Puts.{StaysPut}

-- ---- what was read

some_value : (found : Option Put) (value : List ℕ) → option_map (λ (put : Put). put.0) found ≡ Some value → (put : Put) × (found ≡ Some put) × (put.0 ≡ value)
some_value None value e = absurd cc
some_value (Some put) value e = (put, refl, cc)

-- a row that is put once stands as it was read, since the start at the latest
pub record StandsRead (rows : Rows) (start : ℕ) (key : Key) (value : List ℕ) : Type 0 where
  pub put : Put
  pub stands : standing rows key ≡ Some put
  pub value_is : put.0 ≡ value
  pub since : put.1 ≤ start

pub seen_stays : (rows : Rows) (start : ℕ) (key : Key) (value : List ℕ) → StaysPut rows key → value_seen rows key start ≡ Some value → StandsRead rows start key value
seen_stays rows start key value stays is =
    let found = some_value (seen rows key start) value is in
    record { put = found.0; stands = stays start found.0 found.1; value_is = found.2; since = seen_at_most rows key start found.0 found.1 }

pub read_stands : (rows : Rows) (start : ℕ) (answers : List Answer) (name : KeyName) (value : List ℕ) → Reads rows start answers → StaysPut rows (key_of name) → HasRead answers name value → StandsRead rows start (key_of name) value
read_stands rows start answers name value reads stays read = seen_stays rows start (key_of name) value stays (value_read start rows answers name value reads read)

-- so does one that was found
pub found_stands : (rows : Rows) (start : ℕ) (answers : List Answer) (key : Key) → Reads rows start answers → StaysPut rows key → IsFoundIn answers key → IsSome (standing rows key)
found_stands rows start answers key reads stays found = by (finds found.0 key) refl
  where
    by : (value : Option (List ℕ)) → finds found.0 key ≡ value → IsSome (standing rows key)
    by None e = absurd (let clash = sym found.3 ∙ ap is_some e in cc)
    by (Some value) e = ap is_some (seen_stays rows start key value stays (reads found.0 found.1 key found.2 ∙ e)).stands

-- nothing stood at the start in a row that was missed
pub missed_is_later : (rows : Rows) (start : ℕ) (answers : List Answer) (key : Key) (put : Put) → TimesInOrder rows → Reads rows start answers → IsMissedIn answers key → standing rows key ≡ Some put → put.1 ≤ start → ⊥
missed_is_later rows start answers key put times reads missed stands le =
    let clash : Some put.0 ≡ None = ap (option_map (λ (p : Put). p.0)) (sym (standing_is_seen rows key start put times stands le)) ∙ reads missed.0 missed.1 key missed.2 ∙ missed.3 in cc

none_seen : (found : Option Put) → option_map (λ (put : Put). put.0) found ≡ None → found ≡ None
none_seen None e = refl
none_seen (Some put) e = absurd cc

-- nor does anything stand now where the row is written
pub missed_is_free : (rows : Rows) (start : ℕ) (answers : List Answer) (key : Key) → Reads rows start answers → IsMissedIn answers key → seen rows key start ≡ standing rows key → standing rows key ≡ None
missed_is_free rows start answers key reads missed old = sym old ∙ none_seen (seen rows key start) (reads missed.0 missed.1 key missed.2 ∙ missed.3)

-- what was read of a row that is written stands
pub own_stands : (rows : Rows) (start : ℕ) (answers : List Answer) (name : KeyName) (value : List ℕ) → Reads rows start answers → seen rows (key_of name) start ≡ standing rows (key_of name) → HasRead answers name value → StandsRead rows start (key_of name) value
own_stands rows start answers name value reads old read =
    let found = some_value (seen rows (key_of name) start) value (value_read start rows answers name value reads read) in
    record { put = found.0; stands = sym old ∙ found.1; value_is = found.2; since = seen_at_most rows (key_of name) start found.0 found.1 }

-- ---- what stays

some_put : (found : Option Put) → IsSome found → (put : Put) × (found ≡ Some put)
some_put None e = absurd cc
some_put (Some put) e = (put, refl)

pub what_stands : (rows : Rows) (key : Key) → IsSome (standing rows key) → (put : Put) × (standing rows key ≡ Some put)
what_stands rows key is = some_put (standing rows key) is
