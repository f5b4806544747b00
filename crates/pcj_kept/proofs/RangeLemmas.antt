-- Rows that a task goes over: they are in its range, and each that is behind the cursor is the next one or still to come.
use Rattle.std.proofs.Common.{◌≡◌, ◌≤◌, ◌⊎◌, inl, inr, ℕ, true, List, [], ◌∷◌, Option, Some, None, refl, ap, sym, subst, ◌∙◌}
use Rattle.std.specs.Option.{option_map}
use Rattle.std.specs.Ordering.{is_lt}
use Rattle.std.specs.declared.cmp.Ordering.{Ordering}
use Rattle.std.specs.declared.cmp.Ordering.TheVariants.{Less, Equal, Greater}
use Rattle.std.proofs.lemmas.Bool.{and_from, and_parts}
use Rattle.pcj_term.proofs.ByteLemmas.{below_is, equal_bytes_are}
use Rattle.pcj_term.specs.Order.{bytes_cmp}
use Rattle.pcj_term.specs.Term.{printed}
use Rattle.pcj_term.specs.declared.term.Term.{Term}
use Rattle.pcj_term.specs.declared.triple.Triple.{Triple}
use Rattle.pcj_table.specs.Table.{Key, is_before, is_between}
use Rattle.pcj_key.proofs.Ranges.{holds_keys}
use Rattle.pcj_key.specs.Order.{BeginsWith}
use Rattle.pcj_encode.proofs.Ranges.{hold_names}
use Rattle.pcj_encode.specs.declared.key_name.KeyName.{KeyName}
use Rattle.pcj_encode.specs.declared.key_name.KeyName.TheVariants as row
use Rattle.pcj_encode.specs.declared.key_range.KeyRange.{KeyRange}
use Rattle.pcj_encode.specs.declared.order.Order.TheVariants.{Spo, Pos, Osp}
use Rattle.pcj_encode.specs.declared.task_name.TaskName.{TaskName}
use Rattle.pcj_encode.specs.Name.{IsNode, IsRegistration, IsTriple, key_of, triple_parts}
use Rattle.pcj_encode.specs.Range.{Holds, patterns, range_of}
use Rattle.pcj_expr.specs.declared.mapping.Mapping.{Mapping}
use Rattle.pcj_algebra.specs.declared.triple_pattern.TriplePattern.{TriplePattern}
use Rattle.pcj_algebra.specs.declared.triple_pattern.Slot.{Slot}
use Rattle.pcj_algebra.specs.declared.triple_pattern.Slot.TheVariants.{Var, Value}
use Rattle.pcj_algebra.specs.Match.{Matches, Stands}
use Rattle.pcj_patterns.specs.Laws.{HasConstant}
use Rattle.pcj_patterns.specs.Serving.{front_of, rows_of, serving}
use Rattle.pcj_notify.specs.Plans.{beyond}
use Rattle.pcj_mvcc.specs.Laws.{IsWritten}
use Rattle.pcj_mvcc.specs.Reading.{Put, Rows, standing}
use Rattle.pcj_mvcc.specs.Times.{TimesInOrder}
use Rattle.pcj_moves.specs.declared.answer.Answer.{Answer}
use Rattle.pcj_moves.specs.Reads.{Reads}
use Rattle.pcj_rows.specs.Reads.{IsMissedIn}
use Rattle.pcj_kept.specs.Matches.{IsStillBefore}
use Rattle.pcj_duties.specs.Observers.{HasPassed, IsShortOf}
use Rattle.pcj_nodes.proofs.ViewLemmas.{missed_is_later}

-- ---- ranges

-- what a range holds is between its ends
held_between : (range : KeyRange) (key : Key) → Holds range key → is_between range.after range.end key ≡ true
held_between range key holds = and_from (is_before range.after key) (is_before key range.end) (ap is_lt holds.0) (ap is_lt holds.1)

-- the row of a pattern is in the range that a triple's task goes over
pub pattern_between : (registration node : ℕ) → IsRegistration registration → IsNode node → is_between (range_of patterns).after (range_of patterns).end (key_of (row.Pattern registration node)) ≡ true
pattern_between registration node fits small =
    held_between (range_of patterns) (key_of (row.Pattern registration node)) ((hold_names patterns (row.Pattern registration node) tt (fits, small)).0 (registration, node, refl))

-- a constant that stands for a term is that term
constant_is : (mapping : Mapping) (slot : Slot) (term : Term) → Stands mapping slot term → HasConstant slot term
constant_is mapping (Var name) term stands = tt
constant_is mapping (Value value) term stands = stands

-- the row of a triple that has a pattern's constants begins with them
begins : (s p o : Slot) (t : Triple) → HasConstant s t.subject → HasConstant p t.predicate → HasConstant o t.object → BeginsWith (front_of (serving s p o).0 (serving s p o).1) (triple_parts (serving s p o).0 t)
begins (Value s) (Value p) (Value o) t e f g = ([], cc)
begins (Value s) (Value p) (Var o) t e f g = (printed t.object ∷ [], cc)
begins (Value s) (Var p) (Value o) t e f g = (printed t.predicate ∷ [], cc)
begins (Value s) (Var p) (Var o) t e f g = (printed t.predicate ∷ printed t.object ∷ [], cc)
begins (Var s) (Value p) (Value o) t e f g = (printed t.subject ∷ [], cc)
begins (Var s) (Value p) (Var o) t e f g = (printed t.object ∷ printed t.subject ∷ [], cc)
begins (Var s) (Var p) (Value o) t e f g = (printed t.subject ∷ printed t.predicate ∷ [], cc)
begins (Var s) (Var p) (Var o) t e f g = (printed t.subject ∷ printed t.predicate ∷ printed t.object ∷ [], refl)

-- so the row of a triple that matches is in the range (MatchesAreInRange of pcj_patterns, whose lemmas can't be named from here)
in_range : (of : TriplePattern) (triple : Triple) (mapping : Mapping) → Matches of triple mapping → Holds (rows_of of).1 (key_of (row.Triple (rows_of of).0 triple))
in_range of triple mapping match =
    (holds_keys (front_of (serving of.subject of.predicate of.object).0 (serving of.subject of.predicate of.object).1) (triple_parts (rows_of of).0 triple) (λ e. absurd cc)).0
    (begins of.subject of.predicate of.object triple (constant_is mapping of.subject triple.subject match.subject) (constant_is mapping of.predicate triple.predicate match.predicate) (constant_is mapping of.object triple.object match.object))

-- the row of a triple that matches a pattern is in the range that the pattern's backfill goes over
pub triple_between : (of : TriplePattern) (triple : Triple) (mapping : Mapping) → IsTriple triple → Matches of triple mapping → is_between (rows_of of).1.after (rows_of of).1.end (key_of (row.Triple (rows_of of).0 triple)) ≡ true
triple_between of triple mapping valid match = held_between (rows_of of).1 (key_of (row.Triple (rows_of of).0 triple)) (in_range of triple mapping match)

-- a key of the range that is behind the cursor is in what is left of the range
pub between_beyond : (cursor : List ℕ) (range : KeyRange) (key : Key) → is_between range.after range.end key ≡ true → is_before cursor key ≡ true → is_between (beyond cursor range).after (beyond cursor range).end key ≡ true
between_beyond [] range key within behind = within
between_beyond (byte ∷ bytes) range key within behind =
    and_from (is_before (byte ∷ bytes) key) (is_before key range.end) behind (and_parts (is_before range.after key) (is_before key range.end) within).1

-- ---- the order of keys

-- of two keys one is before the other, or they are the same
pub key_cases : (key place : Key) → (is_before key place ≡ true) ⊎ ((key ≡ place) ⊎ (is_before place key ≡ true))
key_cases key place = by (bytes_cmp key place) refl
  where
    by : (order : Ordering) → bytes_cmp key place ≡ order → (is_before key place ≡ true) ⊎ ((key ≡ place) ⊎ (is_before place key ≡ true))
    by Less e = inl (ap is_lt e)
    by Equal e = inr (inl (equal_bytes_are key place e))
    by Greater e = inr (inr (ap is_lt (below_is key place e)))

-- each key has at least its letter, so a cursor that is empty is before all
pub empty_is_before : (name : KeyName) → is_before [] (key_of name) ≡ true
empty_is_before row.Clock = refl
empty_is_before (row.Triple Spo triple) = refl
empty_is_before (row.Triple Pos triple) = refl
empty_is_before (row.Triple Osp triple) = refl
empty_is_before (row.Node registration node cells) = refl
empty_is_before (row.Group registration cells) = refl
empty_is_before (row.Member registration cells term) = refl
empty_is_before (row.Registration registration) = refl
empty_is_before (row.Name name) = refl
empty_is_before (row.Pattern registration node) = refl
empty_is_before (row.Task task) = refl
empty_is_before (row.Export registration cells) = refl

-- ---- where a task goes on

-- a key of the range that is behind the cursor and short of where the task goes on was missed
pub passed_to : (answers : List Answer) (range : KeyRange) (cursor : List ℕ) (moved : Option Key) (key : Key) → HasPassed answers (beyond cursor range) moved → is_between range.after range.end key ≡ true → is_before cursor key ≡ true → IsShortOf moved key → IsMissedIn answers key
passed_to answers range cursor moved key passed within behind short = passed key (between_beyond cursor range key within behind) short

-- where a task moves on from its cursor, a row of the range that stood at the start and is behind the cursor is the one that it goes on to, or is still to come
pub cursor_goes_on : (start : ℕ) (before after : Rows) (answers : List Answer) (name : TaskName) (cursor : List ℕ) (moved : Option Key) (range : KeyRange) (key : Key) (commit : ℕ) (put : Put) →
    TimesInOrder before → Reads before start answers → HasPassed answers (beyond cursor range) moved → is_between range.after range.end key ≡ true → is_before cursor key ≡ true →
    standing before key ≡ Some put → put.1 ≤ start → IsWritten after (key_of (row.Task name)) moved commit → (moved ≡ Some key) ⊎ IsStillBefore after name key
cursor_goes_on start before after answers name cursor moved range key commit put times reads passed within behind stands since written = by moved refl
  where
    never : IsShortOf moved key → ⊥
    never short = missed_is_later before start answers key put times reads (passed_to answers range cursor moved key passed within behind short) stands since

    by : (to : Option Key) → moved ≡ to → (moved ≡ Some key) ⊎ IsStillBefore after name key
    by None e = absurd (never (subst (λ (m : Option Key). IsShortOf m key) (sym e) tt))
    by (Some place) e = elim (key_cases key place) [
      | inl short ↦ absurd (never (subst (λ (m : Option Key). IsShortOf m key) (sym e) short))
      | inr (inl same) ↦ inl (e ∙ ap Some (sym same))
      | inr (inr later) ↦ inr ((place, commit), written.stands ∙ ap (option_map (λ bytes. (bytes, commit))) e, later)
    ]
