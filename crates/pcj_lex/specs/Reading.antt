-- Reading from left to right: the states between two characters of a form, and the longest front that ends in a whole one.
use Rattle.std.specs.Prelude.{ℕ, Bool, true, false, not, ◌==◌, ◌&&◌, ◌||◌, List, [], ◌∷◌, Option, Some, None, if◌then◌else◌}
use Rattle.std.specs.Bool.{then_some}
use Rattle.pcj_term.specs.Iri.{is_letter, is_digit, is_iri_character}
use Rattle.pcj_term.specs.Label.{is_name_base, is_label_start, is_label_character}
use Rattle.pcj_lex.specs.declared.rule.Rule.{Rule}
use Rattle.pcj_lex.specs.declared.rule.Rule.TheVariants as rows
use Rattle.pcj_lex.specs.declared.state.State.{State}
use Rattle.pcj_lex.specs.declared.state.State.TheVariants as states
use Rattle.pcj_lex.specs.Characters.{is_line_end, is_blank, is_quote, is_escape_letter, is_variable_start, is_variable_character, is_prefix_character, is_word_character, is_mark_character, is_long_mark, is_outside_mark}
use Rattle.pcj_lex.specs.Rules.{passes, may_follow}

abbrev pub first_in_number : ℕ → Option State
first_in_number character = if character == 45 || character == 43 then Some states.Sign else then_some (is_digit character) states.Digits

abbrev pub first_in_name : ℕ → Option State
first_in_name character = if character == 58 then Some states.Colon else then_some (is_name_base character) (states.Prefix false)

-- the state after a token's first character
abbrev pub first_state : Rule → ℕ → Option State
first_state rows.LongQuotes character = then_some (is_quote character) (states.Twice character)
first_state rows.Text character = then_some (is_quote character) (states.InText character)
first_state rows.OpenQuote character = then_some (is_quote character) states.Over
first_state rows.Iri character = then_some (character == 60) states.InIri
first_state rows.Less character = then_some (character == 60) (states.InMark character)
first_state rows.Variable character = then_some (character == 63 || character == 36) states.VariableSign
first_state rows.Tag character = then_some (character == 64) (states.InTag false false)
first_state rows.Inexact character = first_in_number character
first_state rows.Integer character = first_in_number character
first_state rows.Fraction character = then_some (character == 46) states.Over
first_state rows.BlankNode character = then_some (character == 95) (states.Once 58)
first_state rows.Name character = first_in_name character
first_state rows.Word character = then_some (is_letter character) states.InWord
first_state rows.Mark character = Some (states.InMark character)
first_state rows.Outside character = then_some (is_outside_mark character) states.Over

abbrev pub next_in_text : ℕ → ℕ → Option State
next_in_text quote character =
    if character == quote then Some states.Over else
    if character == 92 then Some (states.Escape quote) else
    then_some (not (is_line_end character)) (states.InText quote)

abbrev pub next_in_iri : ℕ → Option State
next_in_iri character = if character == 62 then Some states.Over else then_some (is_iri_character character) states.InIri

abbrev pub next_in_tag : Bool → Bool → ℕ → Option State
next_in_tag digits some character =
    if is_letter character || (digits && is_digit character) then Some (states.InTag digits true) else
    then_some (character == 45 && some) (states.InTag true false)

abbrev pub next_in_prefix : Bool → ℕ → Option State
next_in_prefix dot character =
    if character == 58 then then_some (not dot) states.Colon else
    then_some (is_prefix_character character) (states.Prefix (character == 46))

abbrev pub next_in_gap : ℕ → Option State
next_in_gap character = if character == 35 then Some states.Comment else then_some (is_blank character) states.Gap

-- the state after a further character, or none where the form doesn't go on with it
abbrev pub next_state : State → ℕ → Option State
next_state (states.Start rule) character = first_state rule character
next_state (states.Twice other) character = then_some (character == other) (states.Once other)
next_state (states.Once other) character = then_some (character == other) states.Over
next_state states.Over character = None
next_state (states.InText quote) character = next_in_text quote character
next_state (states.Escape quote) character = then_some (is_escape_letter character) (states.InText quote)
next_state states.InIri character = next_in_iri character
next_state (states.InMark first) character = then_some (is_long_mark first character) states.Over
next_state states.VariableSign character = then_some (is_variable_start character) states.InVariable
next_state states.InVariable character = then_some (is_variable_character character) states.InVariable
next_state (states.InTag digits some) character = next_in_tag digits some character
next_state states.Sign character = then_some (is_digit character) states.Digits
next_state states.Digits character = then_some (is_digit character) states.Digits
next_state (states.Prefix dot) character = next_in_prefix dot character
next_state states.Colon character = then_some (is_label_start character) (states.Local false)
next_state (states.Local dot) character = then_some (is_label_character character) (states.Local (character == 46))
next_state states.InWord character = then_some (is_word_character character) states.InWord
next_state states.Gap character = next_in_gap character
next_state states.Comment character = if is_line_end character then Some states.Gap else Some states.Comment

-- whether the characters so far are a whole form
abbrev pub is_end : State → Bool
is_end (states.Start rule) = false
is_end (states.Twice other) = false
is_end (states.Once other) = false
is_end states.Over = true
is_end (states.InText quote) = false
is_end (states.Escape quote) = false
is_end states.InIri = false
is_end (states.InMark first) = is_mark_character first
is_end states.VariableSign = false
is_end states.InVariable = true
is_end (states.InTag digits some) = some
is_end states.Sign = false
is_end states.Digits = true
is_end (states.Prefix dot) = false
is_end states.Colon = true
is_end (states.Local dot) = not dot
is_end states.InWord = true
is_end states.Gap = true
is_end states.Comment = true

-- whether the characters, all of them, lead from the state to the end of a whole form
unfoldable pub accepts : State → List ℕ → Bool
accepts state [] = is_end state
accepts state (character ∷ characters) = passes (λ next. accepts next characters) (next_state state character)

-- what follows the longest front that ends in a whole form, where later is what a longer one leaves
abbrev pub or_here : Bool → List ℕ → Option (List ℕ) → Option (List ℕ)
or_here whole characters (Some rest) = Some rest
or_here whole characters None = then_some whole characters

abbrev pub onward : (State → Option (List ℕ)) → List ℕ → Option State → Option (List ℕ)
onward later characters None = None
onward later characters (Some next) = or_here (is_end next) characters (later next)

-- what follows the longest front, of a character at least, that ends in a whole form
unfoldable pub after_longest : State → List ℕ → Option (List ℕ)
after_longest state [] = None
after_longest state (character ∷ characters) = onward (λ next. after_longest next characters) characters (next_state state character)

-- ---- the first rule that fits, and what follows its token

abbrev pub fitting : Rule → Option (List ℕ) → Option (Rule × List ℕ)
fitting rule None = None
fitting rule (Some rest) = then_some (may_follow rule rest) (rule, rest)

abbrev pub or_else : {A : Type 0} → Option A → Option A → Option A
or_else (Some found) other = Some found
or_else None other = other

unfoldable pub first_of : List Rule → List ℕ → Option (Rule × List ℕ)
first_of [] characters = None
first_of (rule ∷ rules) characters = or_else (fitting rule (after_longest (states.Start rule) characters)) (first_of rules characters)

-- what follows the blanks and comments at the front
abbrev pub or_all : List ℕ → Option (List ℕ) → List ℕ
or_all characters None = characters
or_all characters (Some rest) = rest

abbrev pub after_gap : List ℕ → List ℕ
after_gap characters = or_all characters (after_longest states.Gap characters)
