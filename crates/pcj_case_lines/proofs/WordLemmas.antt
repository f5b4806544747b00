-- What a field is as a word.
use Rattle.std.specs.Prelude.{if◌then◌else◌}
use Rattle.std.proofs.Common.{◌≡◌, ℕ, Bool, true, false, List, [], refl, ap}
use Rattle.std.specs.Str.{IsUtf8, is_utf8}
use Rattle.std.proofs.lemmas.Str.{is_utf8-from_IsUtf8, IsUtf8-from_is_utf8}
use Rattle.pcj_case_lines.specs.Line.{word_of}

pub text_is_word : (field : List ℕ) → IsUtf8 field → word_of field ≡ field
text_is_word field is = ap (λ (test : Bool). if test then field else []) (is_utf8-from_IsUtf8 field is)

none_where : (test : Bool) (field : List ℕ) → (test ≡ true → ⊥) → (if test then field else []) ≡ []
none_where true field fails = absurd (fails refl)
none_where false field fails = refl

pub other_is_none : (field : List ℕ) → (IsUtf8 field → ⊥) → word_of field ≡ []
other_is_none field fails = none_where (is_utf8 field) field (λ is. fails (IsUtf8-from_is_utf8 field is))
