-- Lines told from their texts: the words of a text say which line it is.
use Rattle.std.proofs.Common.{◌≡◌, ℕ, ◌<◌, Bool, true, false, List, [], ◌∷◌, ◌++◌, refl, ap, sym, ◌∙◌, arith, append_assoc, drop, map}
use Rattle.std.specs.Prelude.{◌==◌, not, codes, if◌then◌else◌}
use Rattle.std.specs.Fmt.{decimal}
use Rattle.std.specs.List.{slice_split, onto_first, join_with_byte, AllByRecursion}
use Rattle.std.specs.Char.{digit_value}
use Rattle.std.specs.Str.Parse.{AllDigits, digits_value}
use Rattle.std.proofs.lemmas.Bool.{and_parts, and_from, not-true}
use Rattle.std.proofs.lemmas.Bool.Decides.{Decides-eqb}
use Rattle.std.proofs.lemmas.Fmt.{decimal_is_IsNumeral}
use Rattle.pcj_term.specs.Order.{same_bytes}
use Rattle.pcj_lines.specs.Lines.{client_name}
use Rattle.pcj_script.specs.declared.error.ScriptKind.{ScriptKind}
use Rattle.pcj_script.specs.declared.error.ScriptKind.TheVariants.{UnknownCommand, BadActor, BadNumber, BadName, MissingEnd, TooLong, TooMuch}
use Rattle.pcj_script.specs.Kind.{number_of}
use Rattle.pcj_model.specs.Line.{Event, Line, event_text, line_text, printed}
use Rattle.pcj_model.specs.Line.Event.{Loaded, Registered, Busy, Refused, Committed, Done, Aborted, Taken, Nothing, Fault, Steps, Crashed}
use Rattle.pcj_model.specs.Line.Line.{Client, AllCrashed, OracleCrashed, Status, StatusFault, Row, Rows, NoQuery, AnswersFault, ScanRefused, ScanFault, Spent, Script}
use Rattle.pcj_model.specs.Laws.{Fits64, IsEvent, IsLine, HasNoBlank, StandsOut, IsClear, begins_small, TextsTell}
use Rattle.pcj_model.proofs.LineLaws.{kind_fits, stand_apart}

-- ---- the words of lines

abbrev event_words : Event → List (List ℕ)
event_words (Loaded number triples) = codes "load" ∷ decimal number ∷ decimal triples ∷ codes "triples" ∷ []
event_words (Registered number name) = codes "register" ∷ decimal number ∷ name ∷ []
event_words Busy = codes "refused" ∷ codes "busy" ∷ []
event_words (Refused place kind) = codes "refused" ∷ decimal place ∷ decimal kind ∷ []
event_words (Committed commit) = codes "committed" ∷ decimal commit ∷ []
event_words Done = codes "done" ∷ []
event_words Aborted = codes "aborted" ∷ []
event_words Taken = codes "taken" ∷ []
event_words Nothing = codes "nothing" ∷ []
event_words Fault = codes "fault" ∷ []
event_words (Steps count) = codes "steps" ∷ decimal count ∷ []
event_words Crashed = codes "crashed" ∷ []

abbrev line_words : Line → List (List ℕ)
line_words (Client client event) = client_name client ∷ event_words event
line_words AllCrashed = codes "all" ∷ codes "crashed" ∷ []
line_words OracleCrashed = codes "oracle" ∷ codes "crashed" ∷ []
line_words (Status notifications locks) = codes "notifications" ∷ decimal notifications ∷ codes "locks" ∷ decimal locks ∷ []
line_words StatusFault = codes "status" ∷ codes "fault" ∷ []
line_words (Row row) = row ∷ []
line_words (Rows count) = codes "rows" ∷ decimal count ∷ []
line_words (NoQuery name) = codes "no" ∷ codes "query" ∷ name ∷ []
line_words AnswersFault = codes "answers" ∷ codes "fault" ∷ []
line_words (ScanRefused place kind) = codes "refused" ∷ decimal place ∷ decimal kind ∷ []
line_words ScanFault = codes "scan" ∷ codes "fault" ∷ []
line_words Spent = codes "spent" ∷ []
line_words (Script line kind) = codes "script" ∷ decimal line ∷ decimal (number_of kind) ∷ []

-- ---- texts are their words, joined

four : (a b c d : List ℕ) → a ++ b ++ c ++ d ≡ a ++ (b ++ (c ++ d))
four a b c d = append_assoc (a ++ b) c d ∙ append_assoc a b (c ++ d)

five : (a b c d e : List ℕ) → a ++ b ++ c ++ d ++ e ≡ a ++ (b ++ (c ++ (d ++ e)))
five a b c d e = append_assoc (a ++ b ++ c) d e ∙ four a b c (d ++ e)

six : (a b c d e f : List ℕ) → a ++ b ++ c ++ d ++ e ++ f ≡ a ++ (b ++ (c ++ (d ++ (e ++ f))))
six a b c d e f = append_assoc (a ++ b ++ c ++ d) e f ∙ five a b c d (e ++ f)

event_joined : (client : ℕ) (event : Event) → event_text client event ≡ join_with_byte 32 (client_name client ∷ event_words event)
event_joined client (Loaded number triples) = six (client_name client) (codes " load ") (decimal number) (codes " ") (decimal triples) (codes " triples")
event_joined client (Registered number name) = five (client_name client) (codes " register ") (decimal number) (codes " ") name
event_joined client Busy = refl
event_joined client (Refused place kind) = five (client_name client) (codes " refused ") (decimal place) (codes " ") (decimal kind)
event_joined client (Committed commit) = append_assoc (client_name client) (codes " committed ") (decimal commit)
event_joined client Done = refl
event_joined client Aborted = refl
event_joined client Taken = refl
event_joined client Nothing = refl
event_joined client Fault = refl
event_joined client (Steps count) = append_assoc (client_name client) (codes " steps ") (decimal count)
event_joined client Crashed = refl

joined : (line : Line) → line_text line ≡ join_with_byte 32 (line_words line)
joined (Client client event) = event_joined client event
joined AllCrashed = refl
joined OracleCrashed = refl
joined (Status notifications locks) = four (codes "notifications ") (decimal notifications) (codes " locks ") (decimal locks)
joined StatusFault = refl
joined (Row row) = refl
joined (Rows count) = refl
joined (NoQuery name) = refl
joined AnswersFault = refl
joined (ScanRefused place kind) = four (codes "refused ") (decimal place) (codes " ") (decimal kind)
joined ScanFault = refl
joined Spent = refl
joined (Script line kind) = four (codes "script ") (decimal line) (codes " ") (decimal (number_of kind))

-- ---- no word has a blank

no_blank_digit : (digit : ℕ) → digit_value digit < 10 → not (digit == 32) ≡ true
no_blank_digit digit h = by (digit == 32) refl
  where
    by : (blank : Bool) → (digit == 32) ≡ blank → not (digit == 32) ≡ true
    by true e = let bad : digit_value 32 < 10 = rw ((Decides-eqb digit 32).0 e) at h in absurd (omega (arith, bad))
    by false e = rw e refl

no_blank_digits : (digits : List ℕ) → AllDigits 10 digits → HasNoBlank digits
no_blank_digits [] h = refl
no_blank_digits (digit ∷ digits) h = and_from _ _ (no_blank_digit digit h.0) (no_blank_digits digits h.1)

number : (n : ℕ) → Fits64 n → HasNoBlank (decimal n)
number n h = no_blank_digits (decimal n) (decimal_is_IsNumeral n h).0.1

event_is_plain : (client : ℕ) (event : Event) → IsEvent event → StandsOut (Client client event) → AllByRecursion HasNoBlank (event_words event)
event_is_plain client (Loaded n triples) h out = (refl, (number n h.0, (number triples h.1, (refl, tt))))
event_is_plain client (Registered n name) h out = (refl, (number n h.0, (out, tt)))
event_is_plain client Busy h out = (refl, (refl, tt))
event_is_plain client (Refused place kind) h out = (refl, (number place h.0, (number kind h.1, tt)))
event_is_plain client (Committed commit) h out = (refl, (number commit h, tt))
event_is_plain client Done h out = (refl, tt)
event_is_plain client Aborted h out = (refl, tt)
event_is_plain client Taken h out = (refl, tt)
event_is_plain client Nothing h out = (refl, tt)
event_is_plain client Fault h out = (refl, tt)
event_is_plain client (Steps count) h out = (refl, (number count h, tt))
event_is_plain client Crashed h out = (refl, tt)

-- a line that isn't a row
abbrev IsSaid : Line → Type 0
IsSaid (Row row) = ⊥
IsSaid line = Unit {0}

line_is_plain : (line : Line) → IsSaid line → IsLine line → StandsOut line → AllByRecursion HasNoBlank (line_words line)
line_is_plain (Client client event) said h out = (number client h.0, event_is_plain client event h.1 out)
line_is_plain AllCrashed said h out = (refl, (refl, tt))
line_is_plain OracleCrashed said h out = (refl, (refl, tt))
line_is_plain (Status notifications locks) said h out = (refl, (number notifications h.0, (refl, (number locks h.1, tt))))
line_is_plain StatusFault said h out = (refl, (refl, tt))
line_is_plain (Row row) said h out = absurd said
line_is_plain (Rows count) said h out = (refl, (number count h, tt))
line_is_plain (NoQuery name) said h out = (refl, (refl, (out, tt)))
line_is_plain AnswersFault said h out = (refl, (refl, tt))
line_is_plain (ScanRefused place kind) said h out = (refl, (number place h.0, (number kind h.1, tt)))
line_is_plain ScanFault said h out = (refl, (refl, tt))
line_is_plain Spent said h out = (refl, tt)
line_is_plain (Script line kind) said h out = (refl, (number line h, (number (number_of kind) (kind_fits kind), tt)))

-- ---- the words of a text

abbrev words : List ℕ → List (List ℕ)
words text = slice_split (λ byte. byte == 32) text

last_word : (text : List ℕ) → HasNoBlank text → words text ≡ text ∷ []
last_word [] h = refl
last_word (byte ∷ text) h =
    let parts = and_parts _ _ h in
    let other : (byte == 32) ≡ false = not-true _ parts.0 in
    rw other (ap (onto_first byte) (last_word text parts.1))

first_word : (text rest : List ℕ) → HasNoBlank text → words (text ++ 32 ∷ rest) ≡ text ∷ words rest
first_word [] rest h = refl
first_word (byte ∷ text) rest h =
    let parts = and_parts _ _ h in
    let other : (byte == 32) ≡ false = not-true _ parts.0 in
    rw other (ap (onto_first byte) (first_word text rest parts.1))

words_joined : (first : List ℕ) (rest : List (List ℕ)) → AllByRecursion HasNoBlank (first ∷ rest) → words (join_with_byte 32 (first ∷ rest)) ≡ first ∷ rest
words_joined first [] h = last_word first h.0
words_joined first (next ∷ rest) h = first_word first (join_with_byte 32 (next ∷ rest)) h.0 ∙ ap (λ ws. first ∷ ws) (words_joined next rest h.1)

abbrev IsNotEmpty : List (List ℕ) → Type 0
IsNotEmpty [] = ⊥
IsNotEmpty (first ∷ rest) = Unit {0}

has_words : (line : Line) → IsNotEmpty (line_words line)
has_words (Client client event) = tt
has_words AllCrashed = tt
has_words OracleCrashed = tt
has_words (Status notifications locks) = tt
has_words StatusFault = tt
has_words (Row row) = tt
has_words (Rows count) = tt
has_words (NoQuery name) = tt
has_words AnswersFault = tt
has_words (ScanRefused place kind) = tt
has_words ScanFault = tt
has_words Spent = tt
has_words (Script line kind) = tt

all_joined : (all : List (List ℕ)) → IsNotEmpty all → AllByRecursion HasNoBlank all → words (join_with_byte 32 all) ≡ all
all_joined [] some h = absurd some
all_joined (first ∷ rest) some h = words_joined first rest h

-- ---- a line read from its words

abbrev value : List ℕ → ℕ
value digits = digits_value 10 digits

abbrev event_read : List (List ℕ) → Event
event_read (kind ∷ []) =
    if same_bytes kind (codes "done") then Done else
    if same_bytes kind (codes "aborted") then Aborted else
    if same_bytes kind (codes "taken") then Taken else
    if same_bytes kind (codes "nothing") then Nothing else
    if same_bytes kind (codes "fault") then Fault else
    Crashed
event_read (kind ∷ word ∷ []) =
    if same_bytes kind (codes "refused") then Busy else
    if same_bytes kind (codes "committed") then Committed (value word) else
    Steps (value word)
event_read (kind ∷ word ∷ other ∷ []) = if same_bytes kind (codes "register") then Registered (value word) other else Refused (value word) (value other)
event_read (kind ∷ word ∷ other ∷ further) = Loaded (value word) (value other)
event_read [] = Crashed

abbrev kind_read : ℕ → ScriptKind
kind_read kind =
    if kind == 1 then UnknownCommand else
    if kind == 2 then BadActor else
    if kind == 3 then BadNumber else
    if kind == 4 then BadName else
    if kind == 5 then MissingEnd else
    if kind == 6 then TooLong else
    TooMuch

abbrev three_read : List ℕ → List ℕ → List ℕ → Line
three_read first word other =
    if same_bytes first (codes "no") then NoQuery other else
    if same_bytes first (codes "refused") then ScanRefused (value word) (value other) else
    Script (value word) (kind_read (value other))

abbrev two_read : List ℕ → List ℕ → Line
two_read first word =
    if same_bytes first (codes "all") then AllCrashed else
    if same_bytes first (codes "oracle") then OracleCrashed else
    if same_bytes first (codes "status") then StatusFault else
    if same_bytes first (codes "answers") then AnswersFault else
    if same_bytes first (codes "scan") then ScanFault else
    Rows (value word)

abbrev begins_client : List ℕ → Bool
begins_client [] = false
begins_client (byte ∷ bytes) = byte == 99

abbrev other_read : List (List ℕ) → Line
other_read (first ∷ word ∷ []) = two_read first word
other_read (first ∷ word ∷ other ∷ []) = three_read first word other
other_read (first ∷ word ∷ other ∷ further ∷ more) = Status (value word) (value further)
other_read all = Spent

abbrev line_read : List (List ℕ) → Line
line_read [] = Spent
line_read (first ∷ rest) = if begins_client first then Client (value (drop 1 first)) (event_read rest) else other_read (first ∷ rest)

worth : (n : ℕ) → Fits64 n → value (decimal n) ≡ n
worth n h = (decimal_is_IsNumeral n h).1

event_reads : (event : Event) → IsEvent event → event_read (event_words event) ≡ event
event_reads (Loaded n triples) h = ap (λ k. Loaded k (value (decimal triples))) (worth n h.0) ∙ ap (λ k. Loaded n k) (worth triples h.1)
event_reads (Registered n name) h = ap (λ k. Registered k name) (worth n h.0)
event_reads Busy h = refl
event_reads (Refused place kind) h = ap (λ k. Refused k (value (decimal kind))) (worth place h.0) ∙ ap (λ k. Refused place k) (worth kind h.1)
event_reads (Committed commit) h = ap (λ k. Committed k) (worth commit h)
event_reads Done h = refl
event_reads Aborted h = refl
event_reads Taken h = refl
event_reads Nothing h = refl
event_reads Fault h = refl
event_reads (Steps count) h = ap (λ k. Steps k) (worth count h)
event_reads Crashed h = refl

kind_reads : (kind : ScriptKind) → kind_read (number_of kind) ≡ kind
kind_reads UnknownCommand = refl
kind_reads BadActor = refl
kind_reads BadNumber = refl
kind_reads BadName = refl
kind_reads MissingEnd = refl
kind_reads TooLong = refl
kind_reads TooMuch = refl

line_reads : (line : Line) → IsSaid line → IsLine line → line_read (line_words line) ≡ line
line_reads (Client client event) said h = ap (λ k. Client k (event_read (event_words event))) (worth client h.0) ∙ ap (λ e. Client client e) (event_reads event h.1)
line_reads AllCrashed said h = refl
line_reads OracleCrashed said h = refl
line_reads (Status notifications locks) said h =
    ap (λ k. Status k (value (decimal locks))) (worth notifications h.0) ∙ ap (λ k. Status notifications k) (worth locks h.1)
line_reads StatusFault said h = refl
line_reads (Row row) said h = absurd said
line_reads (Rows count) said h = ap (λ k. Rows k) (worth count h)
line_reads (NoQuery name) said h = refl
line_reads AnswersFault said h = refl
line_reads (ScanRefused place kind) said h =
    ap (λ k. ScanRefused k (value (decimal kind))) (worth place h.0) ∙ ap (λ k. ScanRefused place k) (worth kind h.1)
line_reads ScanFault said h = refl
line_reads Spent said h = refl
line_reads (Script line kind) said h =
    ap (λ k. Script k (kind_read (value (decimal (number_of kind))))) (worth line h)
    ∙ ap (λ k. Script line (kind_read k)) (worth (number_of kind) (kind_fits kind))
    ∙ ap (λ k. Script line k) (kind_reads kind)

-- ---- a line read from its text

abbrev text_read : List ℕ → Line
text_read text = if begins_small text then line_read (words text) else Row text

said_read : (line : Line) → begins_small (line_text line) ≡ true → IsSaid line → IsLine line → StandsOut line → text_read (line_text line) ≡ line
said_read line small said h out =
    let found : words (line_text line) ≡ line_words line = ap words (joined line) ∙ all_joined (line_words line) (has_words line) (line_is_plain line said h out) in
    ap (λ (b : Bool). if b then line_read (words (line_text line)) else Row (line_text line)) small ∙ ap line_read found ∙ line_reads line said h

event_small : (client : ℕ) (event : Event) → begins_small (event_text client event) ≡ true
event_small client (Loaded n triples) = refl
event_small client (Registered n name) = refl
event_small client Busy = refl
event_small client (Refused place kind) = refl
event_small client (Committed commit) = refl
event_small client Done = refl
event_small client Aborted = refl
event_small client Taken = refl
event_small client Nothing = refl
event_small client Fault = refl
event_small client (Steps count) = refl
event_small client Crashed = refl

is_read : (line : Line) → IsLine line → StandsOut line → text_read (line_text line) ≡ line
is_read (Client client event) h out = said_read (Client client event) (event_small client event) tt h out
is_read AllCrashed h out = said_read AllCrashed refl tt h out
is_read OracleCrashed h out = said_read OracleCrashed refl tt h out
is_read (Status notifications locks) h out = said_read (Status notifications locks) refl tt h out
is_read StatusFault h out = said_read StatusFault refl tt h out
is_read (Row row) h out = ap (λ (b : Bool). if b then line_read (words row) else Row row) out
is_read (Rows count) h out = said_read (Rows count) refl tt h out
is_read (NoQuery name) h out = said_read (NoQuery name) refl tt h out
is_read AnswersFault h out = said_read AnswersFault refl tt h out
is_read (ScanRefused place kind) h out = said_read (ScanRefused place kind) refl tt h out
is_read ScanFault h out = said_read ScanFault refl tt h out
is_read Spent h out = said_read Spent refl tt h out
is_read (Script line kind) h out = said_read (Script line kind) refl tt h out

pub texts_tell : TextsTell
texts_tell line other a b e = sym (is_read line a.0 a.1) ∙ ap text_read e ∙ is_read other b.0 b.1

-- ---- prints

are_lines : (lines : List Line) → AllByRecursion IsClear lines → AllByRecursion IsLine lines
are_lines [] clear = tt
are_lines (line ∷ lines) clear = (clear.0.0, are_lines lines clear.1)

never_last : (text : List ℕ) (lines : List Line) → [] ∷ [] ≡ text ∷ map line_text lines ++ [] ∷ [] → ⊥
never_last text [] e = cc
never_last text (line ∷ lines) e = cc

same_texts : (lines others : List Line) → AllByRecursion IsClear lines → AllByRecursion IsClear others → map line_text lines ++ [] ∷ [] ≡ map line_text others ++ [] ∷ [] → lines ≡ others
same_texts [] [] a b e = refl
same_texts [] (other ∷ others) a b e = absurd (never_last (line_text other) others e)
same_texts (line ∷ lines) [] a b e = absurd (never_last (line_text line) lines (sym e))
same_texts (line ∷ lines) (other ∷ others) a b e =
    let heads : line_text line ≡ line_text other = cc in
    let tails : map line_text lines ++ [] ∷ [] ≡ map line_text others ++ [] ∷ [] = cc in
    ap (λ (l : Line). l ∷ lines) (texts_tell line other a.0 b.0 heads) ∙ ap (λ (ls : List Line). other ∷ ls) (same_texts lines others a.1 b.1 tails)

pub lines_told : (lines others : List Line) → AllByRecursion IsClear lines → AllByRecursion IsClear others → printed lines ≡ printed others → lines ≡ others
lines_told lines others a b e =
    same_texts lines others a b (sym (stand_apart lines (are_lines lines a)) ∙ ap (slice_split (λ byte. byte == 10)) e ∙ stand_apart others (are_lines others b))
