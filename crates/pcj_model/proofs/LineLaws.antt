-- No line has an LF inside.
use Rattle.std.proofs.Common.{◌≡◌, ℕ, ◌<◌, Bool, true, false, List, [], ◌∷◌, ◌++◌, Result, Ok, Err, refl, ap, sym, ◌∙◌, arith, append_assoc, ◌≤◌, length, take, map}
use Rattle.std.specs.Prelude.{◌==◌, not, codes, OnErr}
use Rattle.std.specs.Fmt.{decimal}
use Rattle.std.specs.List.{slice_split, onto_first}
use Rattle.std.specs.Char.{digit_value}
use Rattle.std.specs.Str.Parse.{AllDigits}
use Rattle.std.proofs.lemmas.Bool.{and_parts, and_from, not-true}
use Rattle.std.proofs.lemmas.Bool.Decides.{Decides-eqb}
use Rattle.std.proofs.lemmas.Fmt.{decimal_is_IsNumeral}
use Rattle.pcj_lines.specs.Lines.{client_name}
use Rattle.pcj_script.specs.declared.error.ScriptKind.{ScriptKind}
use Rattle.pcj_script.specs.declared.error.ScriptKind.TheVariants.{UnknownCommand, BadActor, BadNumber, BadName, MissingEnd, TooLong, TooMuch}
use Rattle.pcj_script.specs.Kind.{number_of}
use Rattle.std.proofs.lemmas.List.{length-map, take-map}
use Rattle.pcj_model.specs.declared.line.Line.{Line as Told}
use Rattle.pcj_model.specs.Line.{Event, Line, line_of, event_text, line_text, printed, StandsInPart}
use Rattle.pcj_model.specs.Line.Event.{Loaded, Registered, Busy, Refused, Committed, Done, Aborted, Taken, Nothing, Fault, Steps, Crashed}
use Rattle.pcj_model.specs.Line.Line.{Client, AllCrashed, OracleCrashed, Status, StatusFault, Row, Rows, NoQuery, AnswersFault, ScanRefused, ScanFault, Spent, Script}
use Rattle.pcj_model.specs.Laws.{HasNoFeed, Fits64, IsEvent, IsLine, StandApart}

abbrev is_other : ℕ → Bool
is_other byte = not (byte == 10)

-- ---- parts without an LF

both : (text other : List ℕ) → HasNoFeed text → HasNoFeed other → HasNoFeed (text ++ other)
both [] other h k = k
both (byte ∷ text) other h k = let parts = and_parts _ _ h in and_from _ _ parts.0 (both text other parts.1 k)

no_feed : (digit : ℕ) → digit_value digit < 10 → is_other digit ≡ true
no_feed digit h = by (digit == 10) refl
  where
    by : (feed : Bool) → (digit == 10) ≡ feed → is_other digit ≡ true
    by true e = let bad : digit_value 10 < 10 = rw ((Decides-eqb digit 10).0 e) at h in absurd (omega (arith, bad))
    by false e = rw e refl

no_feed_in_digits : (digits : List ℕ) → AllDigits 10 digits → HasNoFeed digits
no_feed_in_digits [] h = refl
no_feed_in_digits (digit ∷ digits) h = and_from _ _ (no_feed digit h.0) (no_feed_in_digits digits h.1)

no_feed_in_number : (number : ℕ) → Fits64 number → HasNoFeed (decimal number)
no_feed_in_number number h = no_feed_in_digits (decimal number) (decimal_is_IsNumeral number h).0.1

-- a text without an LF, and what may stand behind one
record Clean (text : List ℕ) : Type 0 where
  is : HasNoFeed text

fixed : (text : List ℕ) → HasNoFeed text → Clean text
fixed text h = record { is = h }

then_text : {text : List ℕ} (more : List ℕ) → HasNoFeed more → Clean text → Clean (text ++ more)
then_text {text} more h clean = record { is = both text more clean.is h }

then_number : {text : List ℕ} (number : ℕ) → Fits64 number → Clean text → Clean (text ++ decimal number)
then_number {text} number h clean = record { is = both text (decimal number) clean.is (no_feed_in_number number h) }

client_part : (client : ℕ) → Fits64 client → Clean (client_name client)
client_part client h = then_number client h (fixed (codes "c") refl)

-- ---- lines without an LF

event_is_clean : (client : ℕ) (event : Event) → Fits64 client → IsEvent event → Clean (event_text client event)
event_is_clean client (Loaded number triples) c h =
    then_text (codes " triples") refl (then_number triples h.1 (then_text (codes " ") refl (then_number number h.0 (then_text (codes " load ") refl (client_part client c)))))
event_is_clean client (Registered number name) c h =
    then_text name h.1 (then_text (codes " ") refl (then_number number h.0 (then_text (codes " register ") refl (client_part client c))))
event_is_clean client Busy c h = then_text (codes " refused busy") refl (client_part client c)
event_is_clean client (Refused place kind) c h =
    then_number kind h.1 (then_text (codes " ") refl (then_number place h.0 (then_text (codes " refused ") refl (client_part client c))))
event_is_clean client (Committed number) c h = then_number number h (then_text (codes " committed ") refl (client_part client c))
event_is_clean client Done c h = then_text (codes " done") refl (client_part client c)
event_is_clean client Aborted c h = then_text (codes " aborted") refl (client_part client c)
event_is_clean client Taken c h = then_text (codes " taken") refl (client_part client c)
event_is_clean client Nothing c h = then_text (codes " nothing") refl (client_part client c)
event_is_clean client Fault c h = then_text (codes " fault") refl (client_part client c)
event_is_clean client (Steps count) c h = then_number count h (then_text (codes " steps ") refl (client_part client c))
event_is_clean client Crashed c h = then_text (codes " crashed") refl (client_part client c)

pub kind_fits : (kind : ScriptKind) → Fits64 (number_of kind)
kind_fits UnknownCommand = omega arith
kind_fits BadActor = omega arith
kind_fits BadNumber = omega arith
kind_fits BadName = omega arith
kind_fits MissingEnd = omega arith
kind_fits TooLong = omega arith
kind_fits TooMuch = omega arith

line_is_clean : (line : Line) → IsLine line → Clean (line_text line)
line_is_clean (Client client event) h = event_is_clean client event h.0 h.1
line_is_clean AllCrashed h = fixed (codes "all crashed") refl
line_is_clean OracleCrashed h = fixed (codes "oracle crashed") refl
line_is_clean (Status notifications locks) h =
    then_number locks h.1 (then_text (codes " locks ") refl (then_number notifications h.0 (fixed (codes "notifications ") refl)))
line_is_clean StatusFault h = fixed (codes "status fault") refl
line_is_clean (Row row) h = fixed row h
line_is_clean (Rows count) h = then_number count h (fixed (codes "rows ") refl)
line_is_clean (NoQuery name) h = then_text name h (fixed (codes "no query ") refl)
line_is_clean AnswersFault h = fixed (codes "answers fault") refl
line_is_clean (ScanRefused place kind) h =
    then_number kind h.1 (then_text (codes " ") refl (then_number place h.0 (fixed (codes "refused ") refl)))
line_is_clean ScanFault h = fixed (codes "scan fault") refl
line_is_clean Spent h = fixed (codes "spent") refl
line_is_clean (Script line kind) h =
    then_number (number_of kind) (kind_fits kind) (then_text (codes " ") refl (then_number line h (fixed (codes "script ") refl)))

-- ---- a print, taken apart

abbrev pieces : List ℕ → List (List ℕ)
pieces text = slice_split (λ byte. byte == 10) text

first_piece : (text rest : List ℕ) → HasNoFeed text → pieces (text ++ 10 ∷ rest) ≡ text ∷ pieces rest
first_piece [] rest h = refl
first_piece (byte ∷ text) rest h =
    let parts = and_parts _ _ h in
    let other : (byte == 10) ≡ false = not-true _ parts.0 in
    rw other (ap (onto_first byte) (first_piece text rest parts.1))

pub stand_apart : StandApart
stand_apart [] h = refl
stand_apart (line ∷ lines) h =
    ap pieces (append_assoc (line_text line) (10 ∷ []) (printed lines)) ∙ first_piece (line_text line) (printed lines) (line_is_clean line h.0).is
    ∙ ap (λ (ls : List (List ℕ)). line_text line ∷ ls) (stand_apart lines h.1)

pub on_err : {A E : Type 0} (result : Result A E) (P : Type 0) → P → OnErr result P
on_err (Ok x) P p = tt
on_err (Err e) P p = p

pub in_part : (lines : List Told) (count : ℕ) (old new : List ℕ) → count ≤ length lines → new ≡ old ++ printed (map line_of (take count lines)) → StandsInPart (map line_of lines) old new
in_part lines count old new some is =
    record { count = count; some = omega (arith, some, length-map lines line_of); is = is ∙ ap (λ ls. old ++ printed ls) (sym (take-map line_of count lines)) }
