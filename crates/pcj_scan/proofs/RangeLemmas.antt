-- Walks over a range: what each step meets, and what they come to.
use Rattle.std.proofs.Common.{◌≡◌, ◌≤◌, ◌+◌, ℕ, zero, suc, Bool, true, false, cond, nat_le, List, [], ◌∷◌, ◌++◌, map, take, Option, Some, None, IfSome, refl, ap, sym, subst, ◌∙◌, arith}
use Rattle.std.proofs.lemmas.List.{map-append}
use Rattle.std.proofs.lemmas.Bool.{and_parts}
use Rattle.pcj_table.specs.declared.found.Found.{Found}
use Rattle.pcj_table.specs.declared.lock.Lock.{Lock}
use Rattle.pcj_table.specs.declared.row.Row.{Row}
use Rattle.pcj_table.specs.Row.{has_nothing, is_seen_at}
use Rattle.pcj_table.specs.Table.{Key, Table, first_row, is_between, is_next_at, row_at}
use Rattle.pcj_table.proofs.EntryLemmas.{IsFirstRow, first_row_is}
use Rattle.pcj_table.proofs.RowLemmas.{no_row_is}
use Rattle.pcj_expr.specs.declared.mapping.Mapping.{Mapping}
use Rattle.pcj_algebra.specs.declared.triple_pattern.TriplePattern.{TriplePattern}
use Rattle.pcj_patterns.specs.Serving.{rows_of}
use Rattle.pcj_mvcc.specs.Reading.{Put, Rows, lock_up_to}
use Rattle.pcj_mvcc.specs.Times.{TimesInOrder}
use Rattle.pcj_moves.specs.declared.answer.Answer.{Answer}
use Rattle.pcj_moves.specs.Moves.{Read as Reading}
use Rattle.pcj_moves.specs.Reads as moves
use Rattle.pcj_snapshot.specs.declared.ask.Ask.TheVariants.{Next}
use Rattle.pcj_snapshot.specs.declared.event.ReadEvent.{ReadEvent}
use Rattle.pcj_snapshot.specs.declared.event.ReadEvent.TheVariants as event
use Rattle.pcj_snapshot.specs.Reads.{Read, found_event, lock_event, put_at, read_event}
use Rattle.pcj_snapshot.specs.Shown.{HasNoPlain, Shows, ShowsAt}
use Rattle.pcj_recover.specs.Steps.{KeepPlain}
use Rattle.pcj_fit.proofs.SoundLemmas.{sound_is_fit}
use Rattle.pcj_scan.specs.Ranges.{AddsMatchOf, AddsNoRow, AreRead, IsAhead, IsRead, IsReadUpTo, NeverHasPlain, answer_of, rows_for, rows_in}
use Rattle.pcj_scan.specs.Readers.{ReadsInPart, ReadsOn}
use Rattle.pcj_scan.specs.Scans.{walked}
use Rattle.pcj_scan.proofs.MatchLemmas.{all_among, first_among, none_read, range_read, read_among, row_read, second_among}
use Rattle.pcj_scan.proofs.ReaderLemmas.{in_part, part_then, reads_nothing, reads_then}
use Rattle.pcj_scan.proofs.RowLemmas.{never_plain, no_more_rows, one_row_fewer, still_never_plain}

-- ---- what a step meets

stands : (lock : Option Lock) (at : ℕ) (met : Lock) → lock_up_to at lock ≡ Some met → lock ≡ Some met
stands None at met e = absurd cc
stands (Some lock) at met e = by (nat_le lock.start at) e
  where
    by : (b : Bool) → cond b (Some lock) None ≡ Some met → Some lock ≡ Some met
    by true e = e
    by false e = absurd cc

seen_is_there : (at : ℕ) (row : Row) → is_seen_at at row ≡ true → has_nothing row ≡ false
seen_is_there at row seen = by (has_nothing row) refl
  where
    by : (b : Bool) → has_nothing row ≡ b → b ≡ false
    by true none = absurd (let clash : true ≡ false = sym seen ∙ ap (is_seen_at at) (no_row_is row none) in cc)
    by false some = refl

-- a row that is found is ahead, and a lock that is met stands
abbrev pub IsMet : Key → Key → Table → ReadEvent → Type 0
IsMet after end table (event.Found pair) = IsAhead after end table pair.key
IsMet after end table event.Nothing = Unit {0}
IsMet after end table (event.MetLock key lock) = (row_at table key).lock ≡ Some lock

pub is_met : (at : ℕ) (after end : Key) (table : Table) (told : ReadEvent) → told ≡ read_event (record { ask = Next (record { after = after; end = end }); at = at }) table → IsMet after end table told
is_met at after end table told is = subst (IsMet after end table) (sym is) (by (first_row (is_next_at after end at) table) refl)
  where
    of : (found : Found) → IsFirstRow (is_next_at after end at) table found → (lock : Option Lock) → lock_up_to at found.row.lock ≡ lock → (put : Option Put) → IsMet after end table (lock_event found.key lock put)
    of found first None free None = tt
    of found first None free (Some put) =
        let both = and_parts (is_between after end found.key) (is_seen_at at found.row) first.passes in
        record { between = both.0; some = ap has_nothing first.there ∙ seen_is_there at found.row both.1 }
    of found first (Some lock) locked put = ap (λ (r : Row). r.lock) first.there ∙ stands found.row.lock at lock locked

    by : (o : Option Found) → first_row (is_next_at after end at) table ≡ o → IsMet after end table (found_event at o)
    by None none = tt
    by (Some found) some = of found (first_row_is (is_next_at after end at) table found some) (lock_up_to at found.row.lock) refl (put_at at found.row)

-- what a step shows, by what it tells
pub shown_by : (read : Read) (at : ℕ) (after end : Key) (rows : Rows) (told event : ReadEvent) → read ≡ record { ask = Next (record { after = after; end = end }); at = at } → told ≡ event →
    (TimesInOrder rows → HasNoPlain read.ask rows → Shows read rows told) → TimesInOrder rows → HasNoPlain (Next (record { after = after; end = end })) rows → ShowsAt (Next (record { after = after; end = end })) at rows event
shown_by read at after end rows told event is same shows times plain =
    subst (ShowsAt (Next (record { after = after; end = end })) at rows) same
    (subst (λ (r : Read). Shows r rows told) is (shows times (subst (λ (r : Read). HasNoPlain r.ask rows) (sym is) plain)))

-- ---- answers

answers : (start : ℕ) (rows : Rows) (after end : Key) (answer : Answer) → NeverHasPlain after end → (TimesInOrder rows → HasNoPlain (Next (record { after = after; end = end })) rows → moves.IsRead rows start answer) → ReadsOn start rows (answer ∷ []) rows
answers start rows after end answer never reads at actor others is sound =
    let fit = sound_is_fit at rows (actor ∷ others) sound in
    let read = reads sound.consistent.times (λ key within. never at rows fit key within) in
    (Reading answer ∷ [], (tt, tt), (subst (λ n. moves.IsRead rows n answer) (sym is.is) read, (refl, refl, refl)))

-- ---- a search for the next row

-- where a search has come: the locks that it met are gone
pub record Searching (start : ℕ) (before now : Table) : Type 0 where
  pub moves : ReadsOn start (row_at before) [] (row_at now)
  pub rows : AddsNoRow before now
  pub plain : KeepPlain before now

pub search_begins : (start : ℕ) (table : Table) → Searching start table table
search_begins start table = record { moves = reads_nothing start (row_at table); rows = λ key nothing. nothing; plain = λ key. refl }

pub search_goes_on : (start : ℕ) (before now table after : Table) → table ≡ now → Searching start before now → ((start : ℕ) → ReadsOn start (row_at table) [] (row_at after)) → AddsNoRow table after → KeepPlain table after → Searching start before after
search_goes_on start before now table after same so_far whole adds keeps = record {
  moves = reads_then start (row_at before) (row_at now) (row_at after) [] [] so_far.moves (subst (λ t. ReadsOn start (row_at t) [] (row_at after)) same (whole start));
  rows = λ key nothing. adds key (ap (λ t. has_nothing (row_at t key)) same ∙ so_far.rows key nothing);
  plain = λ key. keeps key ∙ ap (λ t. (row_at t key).plain) same ∙ so_far.plain key;
}

pub search_stays : (start : ℕ) (before now after : Table) → after ≡ now → Searching start before now → Searching start before after
search_stays start before now after same so_far = subst (Searching start before) (sym same) so_far

pub search_stops : (start : ℕ) (before now table after : Table) → table ≡ now → Searching start before now → ((start : ℕ) → ReadsInPart start (row_at table) (row_at after)) → ReadsInPart start (row_at before) (row_at after)
search_stops start before now table after same so_far part =
    part_then start (row_at before) (row_at now) (row_at after) [] so_far.moves (subst (λ t. ReadsInPart start (row_at t) (row_at after)) same (part start))

-- what it has read so far, where it goes no further
pub search_so_far : (start : ℕ) (before now after : Table) → after ≡ now → Searching start before now → ReadsInPart start (row_at before) (row_at after)
search_so_far start before now after same so_far = subst (λ t. ReadsInPart start (row_at before) (row_at t)) (sym same) (in_part start (row_at before) (row_at now) [] so_far.moves)

-- it has found a row, or none
pub search_finds : (start : ℕ) (before now after : Table) (from end key : Key) (value : List ℕ) → NeverHasPlain from end → after ≡ now → Searching start before now →
    (TimesInOrder (row_at now) → HasNoPlain (Next (record { after = from; end = end })) (row_at now) → ShowsAt (Next (record { after = from; end = end })) start (row_at now) (event.Found (record { key = key; value = value }))) →
    ReadsOn start (row_at before) (answer_of from end (Some key) value ∷ []) (row_at after)
search_finds start before now after from end key value never same so_far shows =
    subst (λ t. ReadsOn start (row_at before) (answer_of from end (Some key) value ∷ []) (row_at t)) (sym same)
    (reads_then start (row_at before) (row_at now) (row_at now) [] (answer_of from end (Some key) value ∷ []) so_far.moves
    (answers start (row_at now) from end (answer_of from end (Some key) value) never (λ times plain. (shows times plain).1)))

pub search_ends : (start : ℕ) (before now after : Table) (from end : Key) → NeverHasPlain from end → after ≡ now → Searching start before now →
    (TimesInOrder (row_at now) → HasNoPlain (Next (record { after = from; end = end })) (row_at now) → ShowsAt (Next (record { after = from; end = end })) start (row_at now) event.Nothing) →
    ReadsOn start (row_at before) (answer_of from end None [] ∷ []) (row_at after)
search_ends start before now after from end never same so_far shows =
    subst (λ t. ReadsOn start (row_at before) (answer_of from end None [] ∷ []) (row_at t)) (sym same)
    (reads_then start (row_at before) (row_at now) (row_at now) [] (answer_of from end None [] ∷ []) so_far.moves (answers start (row_at now) from end (answer_of from end None []) never shows))

-- ---- a walk over a pattern's range

-- where a walk has come: what it has read, and that what is still ahead is less
pub record Walking (pattern : TriplePattern) (start : ℕ) (before now : Table) (last : Key) (mappings : List Mapping) : Type 0 where
  pub answers : List Answer
  pub read : IsReadUpTo pattern (rows_of pattern).1.after (rows_of pattern).1.end last answers mappings
  pub moves : ReadsOn start (row_at before) answers (row_at now)
  pub never : NeverHasPlain last (rows_of pattern).1.end
  pub rows : AddsNoRow before now
  pub plain : KeepPlain before now

pub walk_begins : (pattern : TriplePattern) (start : ℕ) (table : Table) (last : Key) → last ≡ (rows_of pattern).1.after → Walking pattern start table table last []
walk_begins pattern start table last is = subst (λ k. Walking pattern start table table k []) (sym is) (record {
  answers = [];
  read = none_read pattern (rows_of pattern).1.after (rows_of pattern).1.end;
  moves = reads_nothing start (row_at table);
  never = never_plain pattern;
  rows = λ key nothing. nothing;
  plain = λ key. refl;
})

pub walk_goes_on : (pattern : TriplePattern) (start : ℕ) (before now after : Table) (last key : Key) (old new : List Mapping) → Walking pattern start before now last old →
    ((value : List ℕ) × ReadsOn start (row_at now) (answer_of last (rows_of pattern).1.end (Some key) value ∷ []) (row_at after)) → IsAhead last (rows_of pattern).1.end after key → AddsMatchOf pattern key old new →
    AddsNoRow now after → KeepPlain now after → Walking pattern start before after key new
walk_goes_on pattern start before now after last key old new so_far (value, reads) ahead adds rows plain = record {
  answers = so_far.answers ++ answer_of last (rows_of pattern).1.end (Some key) value ∷ [];
  read = row_read pattern (rows_of pattern).1.after (rows_of pattern).1.end last key value so_far.answers old new so_far.read ahead.between adds;
  moves = reads_then start (row_at before) (row_at now) (row_at after) so_far.answers (answer_of last (rows_of pattern).1.end (Some key) value ∷ []) so_far.moves reads;
  never = still_never_plain last (rows_of pattern).1.end key ahead.between so_far.never;
  rows = λ other nothing. rows other (so_far.rows other nothing);
  plain = λ other. plain other ∙ so_far.plain other;
}

pub walk_stops : (pattern : TriplePattern) (start : ℕ) (before now after : Table) (last : Key) (mappings : List Mapping) → Walking pattern start before now last mappings → ReadsInPart start (row_at now) (row_at after) → ReadsInPart start (row_at before) (row_at after)
walk_stops pattern start before now after last mappings so_far part = part_then start (row_at before) (row_at now) (row_at after) so_far.answers so_far.moves part

pub walk_ends : (pattern : TriplePattern) (start : ℕ) (before now after : Table) (last : Key) (mappings : List Mapping) → Walking pattern start before now last mappings →
    ((value : List ℕ) × ReadsOn start (row_at now) (answer_of last (rows_of pattern).1.end None value ∷ []) (row_at after)) → (answers : List Answer) × IsRead answers pattern mappings × ReadsOn start (row_at before) answers (row_at after)
walk_ends pattern start before now after last mappings so_far (value, reads) = (
  so_far.answers ++ answer_of last (rows_of pattern).1.end None value ∷ [],
  range_read pattern last value so_far.answers mappings so_far.read,
  reads_then start (row_at before) (row_at now) (row_at after) so_far.answers (answer_of last (rows_of pattern).1.end None value ∷ []) so_far.moves reads,
)

-- fewer rows are ahead of the row that was found
pub fewer_ahead : (end last key : Key) (now after : Table) → AddsNoRow now after → IsAhead last end after key → rows_in key end after + 1 ≤ rows_in last end now
fewer_ahead end last key now after adds ahead =
    let fewer = one_row_fewer last end key after ahead in
    let no_more = no_more_rows last end now after (λ other within nothing. adds other nothing) in
    omega (arith, fewer, no_more)

-- ---- the ranges of all patterns

pub record Gathering (patterns : List TriplePattern) (start : ℕ) (before now : Table) (lists : List (List Mapping)) : Type 0 where
  pub answers : List Answer
  pub read : AreRead answers patterns lists
  pub moves : ReadsOn start (row_at before) answers (row_at now)
  pub rows : AddsNoRow before now
  pub plain : KeepPlain before now

pub gathers_none : (start : ℕ) (table : Table) → Gathering [] start table table []
gathers_none start table = record { answers = []; read = tt; moves = reads_nothing start (row_at table); rows = λ key nothing. nothing; plain = λ key. refl }

one_more_list : (answers : List Answer) (patterns : List TriplePattern) (pattern : TriplePattern) (lists : List (List Mapping)) (list : List Mapping) → AreRead answers patterns lists → IsRead answers pattern list → AreRead answers (patterns ++ pattern ∷ []) (lists ++ list ∷ [])
one_more_list answers [] pattern [] list all one = (one, tt)
one_more_list answers [] pattern (first ∷ lists) list all one = absurd all
one_more_list answers (first ∷ patterns) pattern [] list all one = absurd all
one_more_list answers (first ∷ patterns) pattern (its ∷ lists) list all one = (all.0, one_more_list answers patterns pattern lists list all.1 one)

pub gathers_one : (patterns : List TriplePattern) (pattern : TriplePattern) (start : ℕ) (before now after : Table) (lists : List (List Mapping)) (list : List Mapping) → Gathering patterns start before now lists →
    ((answers : List Answer) × IsRead answers pattern list × ReadsOn start (row_at now) answers (row_at after)) → AddsNoRow now after → KeepPlain now after → Gathering (patterns ++ pattern ∷ []) start before after (lists ++ list ∷ [])
gathers_one patterns pattern start before now after lists list so_far (answers, read, reads) rows plain = record {
  answers = so_far.answers ++ answers;
  read = one_more_list (so_far.answers ++ answers) patterns pattern lists list (all_among so_far.answers (so_far.answers ++ answers) patterns lists (first_among so_far.answers answers) so_far.read)
      (read_among answers (so_far.answers ++ answers) pattern list (second_among so_far.answers answers) read);
  moves = reads_then start (row_at before) (row_at now) (row_at after) so_far.answers answers so_far.moves reads;
  rows = λ other nothing. rows other (so_far.rows other nothing);
  plain = λ other. plain other ∙ so_far.plain other;
}

pub gathering_stops : (patterns : List TriplePattern) (start : ℕ) (before now after : Table) (lists : List (List Mapping)) → Gathering patterns start before now lists → ReadsInPart start (row_at now) (row_at after) → ReadsInPart start (row_at before) (row_at after)
gathering_stops patterns start before now after lists so_far part = part_then start (row_at before) (row_at now) (row_at after) so_far.answers so_far.moves part

-- the rows of the ranges, of which none is added
pub walked_more : (patterns : List TriplePattern) (pattern : TriplePattern) (table : Table) → walked (patterns ++ pattern ∷ []) table ≡ walked patterns table + rows_for pattern table + 1
walked_more [] pattern table = omega arith
walked_more (first ∷ patterns) pattern table = let rest = walked_more patterns pattern table in omega (arith, rest)

pub no_more_for : (pattern : TriplePattern) (before now : Table) → AddsNoRow before now → rows_for pattern now ≤ rows_for pattern before
no_more_for pattern before now adds = no_more_rows (rows_of pattern).1.after (rows_of pattern).1.end before now (λ key within nothing. adds key nothing)

-- ---- a step of a walk, as its calls tell of it

pub walk_step : (pattern : TriplePattern) (start : ℕ) (before now after : Table) (last end key slice : Key) (found : Option Key) (old new : List Mapping) → end ≡ (rows_of pattern).1.end → found ≡ Some key → slice ≡ key → Walking pattern start before now last old →
    ((value : List ℕ) × ReadsOn start (row_at now) (answer_of last end found value ∷ []) (row_at after)) → IfSome found (IsAhead last end after) → AddsMatchOf pattern slice old new → AddsNoRow now after → KeepPlain now after → Walking pattern start before after key new
walk_step pattern start before now after last end key slice found old new ends is same so_far reads ahead adds rows plain =
    walk_goes_on pattern start before now after last key old new so_far
    (subst (λ k. (value : List ℕ) × ReadsOn start (row_at now) (answer_of last k (Some key) value ∷ []) (row_at after)) ends
    (subst (λ f. (value : List ℕ) × ReadsOn start (row_at now) (answer_of last end f value ∷ []) (row_at after)) is reads))
    (subst (λ k. IsAhead last k after key) ends (subst (λ f. IfSome f (IsAhead last end after)) is ahead)) (subst (λ k. AddsMatchOf pattern k old new) same adds) rows plain

pub step_fewer : (pattern : TriplePattern) (now after : Table) (last end key : Key) (found : Option Key) → end ≡ (rows_of pattern).1.end → found ≡ Some key → IfSome found (IsAhead last end after) → AddsNoRow now after →
    rows_in key (rows_of pattern).1.end after + 1 ≤ rows_in last (rows_of pattern).1.end now
step_fewer pattern now after last end key found ends is ahead rows =
    fewer_ahead (rows_of pattern).1.end last key now after rows (subst (λ k. IsAhead last k after key) ends (subst (λ f. IfSome f (IsAhead last end after)) is ahead))

pub walk_done : (pattern : TriplePattern) (start : ℕ) (before now after : Table) (last end : Key) (found : Option Key) (mappings : List Mapping) → end ≡ (rows_of pattern).1.end → found ≡ None → Walking pattern start before now last mappings →
    ((value : List ℕ) × ReadsOn start (row_at now) (answer_of last end found value ∷ []) (row_at after)) → (answers : List Answer) × IsRead answers pattern mappings × ReadsOn start (row_at before) answers (row_at after)
walk_done pattern start before now after last end found mappings ends is so_far reads =
    walk_ends pattern start before now after last mappings so_far
    (subst (λ k. (value : List ℕ) × ReadsOn start (row_at now) (answer_of last k None value ∷ []) (row_at after)) ends
    (subst (λ f. (value : List ℕ) × ReadsOn start (row_at now) (answer_of last end f value ∷ []) (row_at after)) is reads))

-- ---- the ranges of the patterns in a list of references

pub map_more : {X : Type 0} (f : X → TriplePattern) (xs : List X) (i : ℕ) (x : X) → take (i + 1) xs ≡ take i xs ++ x ∷ [] → map f (take (i + 1) xs) ≡ map f (take i xs) ++ f x ∷ []
map_more f xs i x longer = ap (map f) longer ∙ map-append f (take i xs) (x ∷ [])

walked_front : {X : Type 0} (f : X → TriplePattern) (xs : List X) (n : ℕ) (table : Table) → walked (map f (take n xs)) table ≤ walked (map f xs) table
walked_front f xs zero table = omega arith
walked_front f [] (suc n) table = omega arith
walked_front f (x ∷ xs) (suc n) table = let rest = walked_front f xs n table in omega (arith, rest)

pub walked_within : {X : Type 0} (f : X → TriplePattern) (xs : List X) (i : ℕ) (x : X) (table : Table) → take (i + 1) xs ≡ take i xs ++ x ∷ [] → walked (map f (take i xs)) table + rows_for (f x) table + 1 ≤ walked (map f xs) table
walked_within f xs i x table longer =
    let front = walked_front f xs (i + 1) table in
    let one = ap (λ ps. walked ps table) (map_more f xs i x longer) ∙ walked_more (map f (take i xs)) (f x) table in
    omega (arith, front, one)
