-- What was read is what is seen at the start.
use Rattle.std.proofs.Common.{◌≡◌, ℕ, not, true, cond, is_some, List, ◌∷◌, Option, Some, None, IsSome, refl, ap, sym, subst, ◌∙◌}
use Rattle.std.specs.List.{Contains}
use Rattle.std.specs.Option.{option_map}
use Rattle.std.specs.Ordering.{is_lt}
use Rattle.std.proofs.lemmas.Bool.{and_from}
use Rattle.pcj_term.proofs.ByteLemmas.{bytes_cmp_itself, same_bytes_itself}
use Rattle.pcj_term.proofs.ListLemmas.{first_there, later_there}
use Rattle.pcj_table.specs.Table.{Key, is_before, is_between}
use Rattle.pcj_table.specs.declared.pair.Pair.{Pair}
use Rattle.pcj_mvcc.specs.Reading.{Put, Rows, seen}
use Rattle.pcj_moves.specs.declared.answer.Answer.{Answer}
use Rattle.pcj_moves.specs.declared.answer.Answer.TheVariants.{OfRange, OfRow}
use Rattle.pcj_moves.specs.Reads.{Reads, value_seen}

-- the value of a row
pub row_seen : (rows : Rows) (start : ℕ) (answers : List Answer) (key : Key) (found : Option (List ℕ)) → Reads rows start answers → Contains answers (OfRow key found) → value_seen rows key start ≡ found
row_seen rows start answers key found reads there = reads (OfRow key found) there key (same_bytes_itself key)

-- the first row of a range
pub range_seen : (rows : Rows) (start : ℕ) (answers : List Answer) (after end : Key) (pair : Pair) → Reads rows start answers → Contains answers (OfRange after end (Some pair)) → is_between after end pair.key ≡ true →
    value_seen rows pair.key start ≡ Some pair.value
range_seen rows start answers after end pair reads there within =
    reads (OfRange after end (Some pair)) there pair.key (and_from (is_between after end pair.key) (not (is_before pair.key pair.key)) within (ap (λ o. not (is_lt o)) (bytes_cmp_itself pair.key)))
    ∙ ap (λ b. cond b (Some pair.value) None) (same_bytes_itself pair.key)

-- a value that is seen is that of a put
pub put_seen : (rows : Rows) (key : Key) (at : ℕ) (value : List ℕ) → value_seen rows key at ≡ Some value → (put : Put) × (seen rows key at ≡ Some put) × (put.0 ≡ value)
put_seen rows key at value is = by (seen rows key at) refl is
  where
    by : (found : Option Put) → seen rows key at ≡ found → option_map (λ (put : Put). put.0) found ≡ Some value → (put : Put) × (seen rows key at ≡ Some put) × (put.0 ≡ value)
    by None e none = absurd cc
    by (Some put) e some = (put, e, cc)

-- so something is
pub some_seen : (rows : Rows) (key : Key) (at : ℕ) (value : List ℕ) → value_seen rows key at ≡ Some value → IsSome (seen rows key at)
some_seen rows key at value is = ap is_some (put_seen rows key at value is).1

-- ---- the first two answers

pub first_seen : (rows : Rows) (start : ℕ) (answers more : List Answer) (key : Key) (found : Option (List ℕ)) → Reads rows start answers → answers ≡ OfRow key found ∷ more → value_seen rows key start ≡ found
first_seen rows start answers more key found reads are = row_seen rows start answers key found reads (subst (λ all. Contains all (OfRow key found)) (sym are) (first_there (OfRow key found) more))

pub second_seen : (rows : Rows) (start : ℕ) (answers more : List Answer) (first : Answer) (key : Key) (found : Option (List ℕ)) → Reads rows start answers → answers ≡ first ∷ OfRow key found ∷ more → value_seen rows key start ≡ found
second_seen rows start answers more first key found reads are =
    row_seen rows start answers key found reads (subst (λ all. Contains all (OfRow key found)) (sym are) (later_there first (OfRow key found ∷ more) (OfRow key found) (first_there (OfRow key found) more)))
