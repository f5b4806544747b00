-- What each reading shows: which row was found, which has nothing, and how far a range was passed.
use Rattle.std.proofs.Common.{◌≡◌, ℕ, true, false, not, List, Some, None, refl, ap, sym, subst, if◌then◌else◌}
use Rattle.std.specs.List.{Contains}
use Rattle.std.specs.Ordering.{is_lt}
use Rattle.std.proofs.lemmas.Bool.{and_from}
use Rattle.pcj_term.proofs.ByteLemmas.{above_is, bytes_cmp_itself, less_is, other_bytes, same_bytes_itself}
use Rattle.pcj_term.specs.Order.{bytes_cmp, same_bytes}
use Rattle.pcj_table.specs.Table.{Key, is_before, is_between}
use Rattle.pcj_table.specs.declared.pair.Pair.{Pair}
use Rattle.pcj_encode.specs.declared.key_name.KeyName.{KeyName}
use Rattle.pcj_encode.specs.declared.key_range.KeyRange.{KeyRange}
use Rattle.pcj_encode.specs.Name.{IsName, key_of}
use Rattle.pcj_moves.specs.Reads.{covers, finds}
use Rattle.pcj_moves.specs.declared.answer.Answer.{Answer}
use Rattle.pcj_moves.specs.declared.answer.Answer.TheVariants.{OfRange, OfRow}
use Rattle.pcj_rows.specs.Reads.{HasRead, IsFoundIn, IsMissedIn}
use Rattle.pcj_duties.specs.Observers.{HasPassed}

-- ---- rows

-- a row that was asked for and had a value
pub row_is_read : (answers : List Answer) (name : KeyName) (value : List ℕ) → IsName name → Contains answers (OfRow (key_of name) (Some value)) → HasRead answers name value
row_is_read answers name value valid there = record {
  valid = valid;
  answer = OfRow (key_of name) (Some value);
  held = there;
  covered = same_bytes_itself (key_of name);
  found = refl;
}

pub row_is_found : (answers : List Answer) (key : Key) (value : List ℕ) → Contains answers (OfRow key (Some value)) → IsFoundIn answers key
row_is_found answers key value there = (OfRow key (Some value), there, same_bytes_itself key, refl)

pub row_is_missed : (answers : List Answer) (key : Key) → Contains answers (OfRow key None) → IsMissedIn answers key
row_is_missed answers key there = (OfRow key None, there, same_bytes_itself key, refl)

-- ---- ranges

-- no key is before itself
not_before_itself : (key : Key) → is_before key key ≡ false
not_before_itself key = ap is_lt (bytes_cmp_itself key)

-- of two keys at most one is before the other
not_before : (key place : Key) → is_before key place ≡ true → is_before place key ≡ false
not_before key place short = ap is_lt (above_is key place (less_is (bytes_cmp key place) short))

-- and they differ
before_differs : (key place : Key) → is_before key place ≡ true → same_bytes key place ≡ false
before_differs key place short = other_bytes key place (λ same. let clash : is_before key key ≡ true = subst (λ k. is_before key k ≡ true) (sym same) short in let no = not_before_itself key in cc)

-- where none was found every row of the range was passed
pub none_of_range : (answers : List Answer) (range : KeyRange) → Contains answers (OfRange range.after range.end None) → HasPassed answers range None
none_of_range answers range there key within short = (OfRange range.after range.end None, there, within, refl)

-- where one was found those before it were passed
pub first_of_range : (answers : List Answer) (range : KeyRange) (pair : Pair) → Contains answers (OfRange range.after range.end (Some pair)) → HasPassed answers range (Some pair.key)
first_of_range answers range pair there key within short = (
  OfRange range.after range.end (Some pair),
  there,
  and_from (is_between range.after range.end key) (not (is_before pair.key key)) within (ap not (not_before key pair.key short)),
  ap (λ b. if b then Some pair.value else None) (before_differs key pair.key short),
)

-- the one that was found
pub first_is_read : (answers : List Answer) (range : KeyRange) (pair : Pair) (name : KeyName) → IsName name → pair.key ≡ key_of name → is_between range.after range.end pair.key ≡ true → Contains answers (OfRange range.after range.end (Some pair)) →
    HasRead answers name pair.value
first_is_read answers range pair name valid key_is within there = record {
  valid = valid;
  answer = OfRange range.after range.end (Some pair);
  held = there;
  covered = subst (λ key. covers (OfRange range.after range.end (Some pair)) key ≡ true) key_is (and_from (is_between range.after range.end pair.key) (not (is_before pair.key pair.key)) within (ap not (not_before_itself pair.key)));
  found = subst (λ key. finds (OfRange range.after range.end (Some pair)) key ≡ Some pair.value) key_is (ap (λ b. if b then Some pair.value else None) (same_bytes_itself pair.key));
}
