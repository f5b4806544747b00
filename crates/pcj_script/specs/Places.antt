-- What may stand in the places of a command line.
use Rattle.std.specs.Prelude.{ℕ, ◌+◌, ◌-◌, ◌*◌, Bool, false, not, ◌&&◌, ◌||◌, ◌==◌, nat_le, List, [], ◌∷◌, length, codes, Option, Some, None, option_map, if◌then◌else◌}
use Rattle.std.specs.List.{fold, list_all}
use Rattle.pcj_term.specs.Iri.{is_digit, is_letter, is_letter_or_digit}
use Rattle.pcj_term.specs.Order.{same_bytes}
use Rattle.pcj_term.specs.Reading.{begins_with}
use Rattle.pcj_script.specs.declared.command.Crashed.{Crashed}
use Rattle.pcj_script.specs.declared.command.Crashed.TheVariants.{Client, All, Oracle}

-- the number that decimal digits write
abbrev pub value_of : List ℕ → ℕ
value_of digits = fold (λ value digit. 10 * value + (digit - 48)) 0 digits

-- the number from 1 to high that at most so many digits write
abbrev pub number_within : ℕ → ℕ → List ℕ → Option ℕ
number_within most high digits =
    if nat_le (length digits) most && list_all is_digit digits && nat_le 1 (value_of digits) && nat_le (value_of digits) high
    then Some (value_of digits) else None

-- a client's word: c, and its number from 1 to 64 without a leading zero
abbrev pub client_of : List ℕ → Option ℕ
client_of [] = None
client_of (letter ∷ digits) = if letter == 99 && not (begins_with 48 digits) then number_within 2 64 digits else None

-- who may be crashed: all, the oracle, or a client
abbrev pub crashed_of : List ℕ → Option Crashed
crashed_of word =
    if same_bytes word (codes "all") then Some All else
    if same_bytes word (codes "oracle") then Some Oracle else
    option_map Client (client_of word)

-- how many steps are asked for: 1 to 7 digits that write a number from 1 to 1,000,000
abbrev pub count_of : List ℕ → Option ℕ
count_of word = number_within 7 1000000 word

abbrev pub is_name_byte : ℕ → Bool
is_name_byte byte = is_letter_or_digit byte || byte == 95 || byte == 45

-- a query's name: a letter, and then up to 63 letters, digits, `_` or `-`
abbrev pub is_name : List ℕ → Bool
is_name [] = false
is_name (byte ∷ bytes) = is_letter byte && nat_le (length bytes) 63 && list_all is_name_byte bytes
