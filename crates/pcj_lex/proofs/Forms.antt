-- The form of each rule is what its states accept.
use Rattle.std.proofs.Common.{◌≡◌, ℕ, suc, ◌-◌, Bool, true, false, not, ◌&&◌, ◌||◌, cond, nat_eq, nat_lt, length, List, [], ◌∷◌, Option, Some, None, refl, ap, sym, subst, ◌∙◌, arith, eqb, drop}
use Rattle.std.specs.Bool.{then_some}
use Rattle.std.specs.Cmp.Lexicographic.{pointwise}
use Rattle.std.specs.List.{list_all}
use Rattle.std.specs.Option.{option_map}
use Rattle.std.specs.Str.{all_ascii_digits}
use Rattle.std.proofs.Math.Bool.{and-false}
use Rattle.std.proofs.lemmas.Bool.{eqb-true, eq-eqb, ne_eqb, lt-ltb}
use Rattle.pcj_term.specs.Integer.{is_integer_text}
use Rattle.pcj_term.specs.Iri.{is_letter, is_digit, is_iri_character}
use Rattle.pcj_term.specs.Label.{is_name_base, is_label_start, is_label_character, ends_in_a_dot}
use Rattle.pcj_term.specs.Reading.{◌>>=◌, before, cut}
use Rattle.pcj_ntriples.proofs.Names.{tag_accepts}
use Rattle.pcj_ntriples.proofs.Names as tags
use Rattle.pcj_lex.specs.declared.rule.Rule.{Rule}
use Rattle.pcj_lex.specs.declared.rule.Rule.TheVariants as rows
use Rattle.pcj_lex.specs.declared.state.State.{State}
use Rattle.pcj_lex.specs.declared.state.State.TheVariants as states
use Rattle.pcj_lex.specs.Characters.{is_line_end, is_blank, is_quote, is_escape_letter, is_variable_start, is_variable_character, is_prefix_character, is_word_character, is_mark_character, is_long_mark, is_outside_mark}
use Rattle.pcj_lex.specs.Rules.{passes, is_long_quotes, is_quoted, is_string, is_one_quote, is_iri_written, is_less, is_variable, is_tag, is_dot, is_node_mark, is_prefix, is_local, is_name, is_word, is_mark, is_outside, has_form, is_gap}
use Rattle.pcj_lex.specs.Reading.{next_state, is_end, accepts}

-- a step that is taken where a test holds
took : (test : Bool) (next : State) (accept : State → Bool) → passes accept (then_some test next) ≡ test && accept next
took true next accept = refl
took false next accept = refl

and_true : (v : Bool) → v && true ≡ v
and_true true = refl
and_true false = refl

and_two : (x y z : Bool) → x && (y && z) ≡ x && y && z
and_two true y z = refl
and_two false y z = refl

or_false : (v : Bool) → v || false ≡ v
or_false true = refl
or_false false = refl

-- a state that goes on with each character of a class, and may end after each
run_accepts : (state : State) (class : ℕ → Bool) (characters : List ℕ) → ((c : ℕ) → next_state state c ≡ then_some (class c) state) → is_end state ≡ true → accepts state characters ≡ list_all class characters
unfolding accepts
run_accepts state class [] steps ends = ends
run_accepts state class (c ∷ characters) steps ends =
    ap (passes (λ s. accepts s characters)) (steps c) ∙ took (class c) state (λ s. accepts s characters) ∙ ap (λ (v : Bool). class c && v) (run_accepts state class characters steps ends)

over_none : (characters : List ℕ) (c : ℕ) → accepts states.Over (c ∷ characters) ≡ false
unfolding accepts
over_none characters c = refl

-- ---- marks and quotes

-- one character of a class
one_accepts : (rule : Rule) (test : ℕ → Bool) (a : ℕ) → next_state (states.Start rule) a ≡ then_some (test a) states.Over → accepts (states.Start rule) (a ∷ []) ≡ test a
unfolding accepts
one_accepts rule test a step = ap (passes (λ s. accepts s [])) step ∙ took (test a) states.Over (λ s. accepts s []) ∙ and_true (test a)

two_refused : (rule : Rule) (test : ℕ → Bool) (a b : ℕ) (more : List ℕ) → next_state (states.Start rule) a ≡ then_some (test a) states.Over → accepts (states.Start rule) (a ∷ b ∷ more) ≡ false
unfolding accepts
two_refused rule test a b more step = ap (passes (λ s. accepts s (b ∷ more))) step ∙ took (test a) states.Over (λ s. accepts s (b ∷ more)) ∙ and-false (test a)

one_quote_form : (w : List ℕ) → is_one_quote w ≡ accepts (states.Start rows.OpenQuote) w
unfolding accepts
one_quote_form [] = refl
one_quote_form (a ∷ []) = sym (one_accepts rows.OpenQuote is_quote a refl)
one_quote_form (a ∷ b ∷ more) = sym (two_refused rows.OpenQuote is_quote a b more refl)

dot_form : (w : List ℕ) → is_dot w ≡ accepts (states.Start rows.Fraction) w
unfolding accepts
dot_form [] = refl
dot_form (a ∷ []) = sym (one_accepts rows.Fraction (λ c. nat_eq c 46) a refl)
dot_form (a ∷ b ∷ more) = sym (two_refused rows.Fraction (λ c. nat_eq c 46) a b more refl)

outside_form : (w : List ℕ) → is_outside w ≡ accepts (states.Start rows.Outside) w
unfolding accepts
outside_form [] = refl
outside_form (a ∷ []) = sym (one_accepts rows.Outside is_outside_mark a refl)
outside_form (a ∷ b ∷ more) = sym (two_refused rows.Outside is_outside_mark a b more refl)

once_accepts : (x y : ℕ) → accepts (states.Once x) (y ∷ []) ≡ nat_eq y x
unfolding accepts
once_accepts x y = took (nat_eq y x) states.Over (λ s. accepts s []) ∙ and_true (nat_eq y x)

once_refused : (x y z : ℕ) (more : List ℕ) → accepts (states.Once x) (y ∷ z ∷ more) ≡ false
unfolding accepts
once_refused x y z more = took (nat_eq y x) states.Over (λ s. accepts s (z ∷ more)) ∙ and-false (nat_eq y x)

node_form : (w : List ℕ) → is_node_mark w ≡ accepts (states.Start rows.BlankNode) w
unfolding accepts
node_form [] = refl
node_form (a ∷ []) = sym (took (nat_eq a 95) (states.Once 58) (λ s. accepts s []) ∙ and-false (nat_eq a 95))
node_form (a ∷ b ∷ []) = sym (took (nat_eq a 95) (states.Once 58) (λ s. accepts s (b ∷ [])) ∙ ap (λ (v : Bool). nat_eq a 95 && v) (once_accepts 58 b))
node_form (a ∷ b ∷ c ∷ more) = sym (took (nat_eq a 95) (states.Once 58) (λ s. accepts s (b ∷ c ∷ more)) ∙ ap (λ (v : Bool). nat_eq a 95 && v) (once_refused 58 b c more) ∙ and-false (nat_eq a 95))

twice_takes : (x y : ℕ) (more : List ℕ) → accepts (states.Twice x) (y ∷ more) ≡ nat_eq y x && accepts (states.Once x) more
unfolding accepts
twice_takes x y more = took (nat_eq y x) (states.Once x) (λ s. accepts s more)

long_quotes_form : (w : List ℕ) → is_long_quotes w ≡ accepts (states.Start rows.LongQuotes) w
unfolding accepts
long_quotes_form [] = refl
long_quotes_form (a ∷ []) = sym (took (is_quote a) (states.Twice a) (λ s. accepts s []) ∙ and-false (is_quote a))
long_quotes_form (a ∷ b ∷ []) =
    sym (took (is_quote a) (states.Twice a) (λ s. accepts s (b ∷ [])) ∙ ap (λ (v : Bool). is_quote a && v) (twice_takes a b [] ∙ and-false (nat_eq b a)) ∙ and-false (is_quote a))
long_quotes_form (a ∷ b ∷ c ∷ []) =
    sym (took (is_quote a) (states.Twice a) (λ s. accepts s (b ∷ c ∷ [])) ∙ ap (λ (v : Bool). is_quote a && v) (twice_takes a b (c ∷ []) ∙ ap (λ (v : Bool). nat_eq b a && v) (once_accepts a c)) ∙ and_two (is_quote a) (nat_eq b a) (nat_eq c a))
long_quotes_form (a ∷ b ∷ c ∷ d ∷ more) =
    sym (took (is_quote a) (states.Twice a) (λ s. accepts s (b ∷ c ∷ d ∷ more)) ∙ ap (λ (v : Bool). is_quote a && v) (twice_takes a b (c ∷ d ∷ more) ∙ ap (λ (v : Bool). nat_eq b a && v) (once_refused a c d more) ∙ and-false (nat_eq b a)) ∙ and-false (is_quote a))

mark_ends : (a : ℕ) → accepts (states.InMark a) [] ≡ is_mark_character a
unfolding accepts
mark_ends a = refl

mark_two : (a b : ℕ) → accepts (states.InMark a) (b ∷ []) ≡ is_long_mark a b
unfolding accepts
mark_two a b = took (is_long_mark a b) states.Over (λ s. accepts s []) ∙ and_true (is_long_mark a b)

mark_more : (a b c : ℕ) (more : List ℕ) → accepts (states.InMark a) (b ∷ c ∷ more) ≡ false
unfolding accepts
mark_more a b c more = took (is_long_mark a b) states.Over (λ s. accepts s (c ∷ more)) ∙ and-false (is_long_mark a b)

mark_form : (w : List ℕ) → is_mark w ≡ accepts (states.Start rows.Mark) w
unfolding accepts
mark_form [] = refl
mark_form (a ∷ []) = refl
mark_form (a ∷ b ∷ []) = sym (mark_two a b)
mark_form (a ∷ b ∷ c ∷ more) = sym (mark_more a b c more)

less_takes : (a : ℕ) (more : List ℕ) → accepts (states.Start rows.Less) (a ∷ more) ≡ nat_eq a 60 && accepts (states.InMark a) more
unfolding accepts
less_takes a more = took (nat_eq a 60) (states.InMark a) (λ s. accepts s more)

less_or : (b : ℕ) → is_long_mark 60 b ≡ nat_eq b 61
less_or b = by (nat_eq b 61) (nat_eq b 60) refl refl
  where
    by : (v w : Bool) → nat_eq b 61 ≡ v → nat_eq b 60 ≡ w → is_long_mark 60 b ≡ nat_eq b 61
    by true w p q = rw p refl
    by false true p q = rw (p, q) refl
    by false false p q = rw (p, q) refl

less_form : (w : List ℕ) → is_less w ≡ accepts (states.Start rows.Less) w
unfolding accepts
less_form [] = refl
less_form (a ∷ []) = by (nat_eq a 60) refl ∙ sym (less_takes a [])
  where
    by : (v : Bool) → nat_eq a 60 ≡ v → nat_eq a 60 ≡ nat_eq a 60 && is_mark_character a
    by true p = subst (λ (c : ℕ). nat_eq c 60 ≡ nat_eq c 60 && is_mark_character c) (sym (eqb-true a 60 p)) refl
    by false p = rw p refl
less_form (a ∷ b ∷ []) = by (nat_eq a 60) refl ∙ ap (λ (v : Bool). nat_eq a 60 && v) (sym (mark_two a b)) ∙ sym (less_takes a (b ∷ []))
  where
    by : (v : Bool) → nat_eq a 60 ≡ v → nat_eq a 60 && nat_eq b 61 ≡ nat_eq a 60 && is_long_mark a b
    by true p = ap (λ (v : Bool). nat_eq a 60 && v) (sym (less_or b) ∙ ap (λ (c : ℕ). is_long_mark c b) (sym (eqb-true a 60 p)))
    by false p = rw p refl
less_form (a ∷ b ∷ c ∷ more) = sym (less_takes a (b ∷ c ∷ more) ∙ ap (λ (v : Bool). nat_eq a 60 && v) (mark_more a b c more) ∙ and-false (nat_eq a 60))

-- ---- strings

text_over : (quote : ℕ) (c : ℕ) (more : List ℕ) → nat_eq c quote ≡ true → accepts (states.InText quote) (c ∷ more) ≡ accepts states.Over more
unfolding accepts
text_over quote c more p = rw p refl

text_escapes : (quote : ℕ) (c : ℕ) (more : List ℕ) → nat_eq c quote ≡ false → nat_eq c 92 ≡ true → accepts (states.InText quote) (c ∷ more) ≡ accepts (states.Escape quote) more
unfolding accepts
text_escapes quote c more p q = rw (p, q) refl

text_raw : (quote : ℕ) (c : ℕ) (more : List ℕ) → nat_eq c quote ≡ false → nat_eq c 92 ≡ false → accepts (states.InText quote) (c ∷ more) ≡ not (is_line_end c) && accepts (states.InText quote) more
unfolding accepts
text_raw quote c more p q = rw (p, q) (took (not (is_line_end c)) (states.InText quote) (λ s. accepts s more))

escape_takes : (quote : ℕ) (c : ℕ) (more : List ℕ) → accepts (states.Escape quote) (c ∷ more) ≡ is_escape_letter c && accepts (states.InText quote) more
unfolding accepts
escape_takes quote c more = took (is_escape_letter c) (states.InText quote) (λ s. accepts s more)

accepts_nothing : (quote : ℕ) → (accepts (states.InText quote) [] ≡ false) × (accepts (states.Escape quote) [] ≡ false) × (accepts states.Over [] ≡ true)
unfolding accepts
accepts_nothing quote = (refl, refl, refl)

quoted_accepts : (quote : ℕ) (w : List ℕ) → nat_eq quote 92 ≡ false → is_quoted quote w ≡ accepts (states.InText quote) w
quoted_accepts quote [] apart = sym (accepts_nothing quote).0
quoted_accepts quote (c ∷ []) apart = by (nat_eq c quote) (nat_eq c 92) refl refl
  where
    by : (v w : Bool) → nat_eq c quote ≡ v → nat_eq c 92 ≡ w → is_quoted quote (c ∷ []) ≡ accepts (states.InText quote) (c ∷ [])
    by true w p q = p ∙ sym (text_over quote c [] p ∙ (accepts_nothing quote).2)
    by false true p q = p ∙ sym (text_escapes quote c [] p q ∙ (accepts_nothing quote).1)
    by false false p q = p ∙ sym (text_raw quote c [] p q ∙ ap (λ (v : Bool). not (is_line_end c) && v) (accepts_nothing quote).0 ∙ and-false (not (is_line_end c)))
quoted_accepts quote (c ∷ d ∷ more) apart = by (nat_eq c quote) (nat_eq c 92) refl refl (quoted_accepts quote (d ∷ more) apart) (quoted_accepts quote more apart)
  where
    by : (v w : Bool) → nat_eq c quote ≡ v → nat_eq c 92 ≡ w → is_quoted quote (d ∷ more) ≡ accepts (states.InText quote) (d ∷ more) → is_quoted quote more ≡ accepts (states.InText quote) more → is_quoted quote (c ∷ d ∷ more) ≡ accepts (states.InText quote) (c ∷ d ∷ more)
    by true w p q next later =
        let other : nat_eq c 92 ≡ false = ap (λ (x : ℕ). nat_eq x 92) (eqb-true c quote p) ∙ apart in
        rw (p, other) (sym (text_over quote c (d ∷ more) p ∙ over_none more d))
    by false true p q next later = rw (p, q) (ap (λ (v : Bool). is_escape_letter d && v) later ∙ sym (text_escapes quote c (d ∷ more) p q ∙ escape_takes quote d more))
    by false false p q next later = rw (p, q) (or_false _ ∙ ap (λ (v : Bool). not (is_line_end c) && v) next ∙ sym (text_raw quote c (d ∷ more) p q))

quote_apart : (quote : ℕ) → is_quote quote ≡ true → nat_eq quote 92 ≡ false
quote_apart quote is = by (nat_eq quote 34) refl
  where
    by : (v : Bool) → nat_eq quote 34 ≡ v → nat_eq quote 92 ≡ false
    by true p = ap (λ (x : ℕ). nat_eq x 92) (eqb-true quote 34 p)
    by false p = let other = rw p at is in ap (λ (x : ℕ). nat_eq x 92) (eqb-true quote 39 other)

string_form : (w : List ℕ) → is_string w ≡ accepts (states.Start rows.Text) w
unfolding accepts
string_form [] = refl
string_form (quote ∷ more) = by (is_quote quote) refl ∙ sym (took (is_quote quote) (states.InText quote) (λ s. accepts s more))
  where
    by : (v : Bool) → is_quote quote ≡ v → is_quote quote && is_quoted quote more ≡ is_quote quote && accepts (states.InText quote) more
    by true p = ap (λ (v : Bool). is_quote quote && v) (quoted_accepts quote more (quote_apart quote p))
    by false p = rw p refl

-- ---- IRIs

iri_closes : (c : ℕ) (more : List ℕ) → nat_eq c 62 ≡ true → accepts states.InIri (c ∷ more) ≡ accepts states.Over more
unfolding accepts
iri_closes c more p = rw p refl

iri_goes : (c : ℕ) (more : List ℕ) → nat_eq c 62 ≡ false → accepts states.InIri (c ∷ more) ≡ is_iri_character c && accepts states.InIri more
unfolding accepts
iri_goes c more p = rw p (took (is_iri_character c) states.InIri (λ s. accepts s more))

iri_end : accepts states.InIri [] ≡ false
unfolding accepts
iri_end = refl

over_end : accepts states.Over [] ≡ true
unfolding accepts
over_end = refl

onto_front : (c : ℕ) (o : Option (List ℕ)) → passes (list_all is_iri_character) (option_map (λ front. c ∷ front) o) ≡ is_iri_character c && passes (list_all is_iri_character) o
onto_front c None = sym (and-false (is_iri_character c))
onto_front c (Some front) = refl

iri_inside : (w : List ℕ) → passes (list_all is_iri_character) (before 62 w) ≡ accepts states.InIri w
iri_inside [] = sym iri_end
iri_inside (c ∷ []) = by (nat_eq c 62) refl
  where
    by : (v : Bool) → nat_eq c 62 ≡ v → passes (list_all is_iri_character) (before 62 (c ∷ [])) ≡ accepts states.InIri (c ∷ [])
    by true p = rw p (sym (iri_closes c [] p ∙ over_end))
    by false p = rw p (sym (iri_goes c [] p ∙ ap (λ (v : Bool). is_iri_character c && v) iri_end ∙ and-false (is_iri_character c)))
iri_inside (c ∷ d ∷ more) = onto_front c (before 62 (d ∷ more)) ∙ by (nat_eq c 62) refl (iri_inside (d ∷ more))
  where
    by : (v : Bool) → nat_eq c 62 ≡ v → passes (list_all is_iri_character) (before 62 (d ∷ more)) ≡ accepts states.InIri (d ∷ more) → is_iri_character c && passes (list_all is_iri_character) (before 62 (d ∷ more)) ≡ accepts states.InIri (c ∷ d ∷ more)
    by true p later = ap (λ (x : ℕ). is_iri_character x && passes (list_all is_iri_character) (before 62 (d ∷ more))) (eqb-true c 62 p) ∙ sym (iri_closes c (d ∷ more) p ∙ over_none more d)
    by false p later = ap (λ (v : Bool). is_iri_character c && v) later ∙ sym (iri_goes c (d ∷ more) p)

iri_form : (w : List ℕ) → is_iri_written w ≡ accepts (states.Start rows.Iri) w
unfolding accepts
iri_form [] = refl
iri_form (c ∷ more) = by (nat_eq c 60) refl
  where
    by : (v : Bool) → nat_eq c 60 ≡ v → is_iri_written (c ∷ more) ≡ accepts (states.Start rows.Iri) (c ∷ more)
    by true p = rw p (iri_inside more)
    by false p = rw p refl

-- ---- variables, tags, numbers and words

variable_form : (w : List ℕ) → is_variable w ≡ accepts (states.Start rows.Variable) w
unfolding accepts
variable_form [] = refl
variable_form (sign ∷ []) = sym (took (nat_eq sign 63 || nat_eq sign 36) states.VariableSign (λ s. accepts s []) ∙ and-false (nat_eq sign 63 || nat_eq sign 36))
variable_form (sign ∷ first ∷ more) = sym (
    took (nat_eq sign 63 || nat_eq sign 36) states.VariableSign (λ s. accepts s (first ∷ more))
    ∙ ap (λ (v : Bool). (nat_eq sign 63 || nat_eq sign 36) && v) (took (is_variable_start first) states.InVariable (λ s. accepts s more)
    ∙ ap (λ (v : Bool). is_variable_start first && v) (run_accepts states.InVariable is_variable_character more (λ c. refl) refl))
    ∙ and_two (nat_eq sign 63 || nat_eq sign 36) (is_variable_start first) (list_all is_variable_character more))

word_form : (w : List ℕ) → is_word w ≡ accepts (states.Start rows.Word) w
unfolding accepts
word_form [] = refl
word_form (first ∷ more) = sym (
    took (is_letter first) states.InWord (λ s. accepts s more)
    ∙ ap (λ (v : Bool). is_letter first && v) (run_accepts states.InWord is_word_character more (λ c. refl) refl))

tag_states : (digits some : Bool) (w : List ℕ) → tags.accepts digits some w ≡ accepts (states.InTag digits some) w
unfolding accepts
tag_states digits some [] = refl
tag_states digits some (c ∷ more) = by (is_letter c || (digits && is_digit c)) refl (tag_states digits true more) (tag_states true false more)
  where
    by : (v : Bool) → is_letter c || (digits && is_digit c) ≡ v → tags.accepts digits true more ≡ accepts (states.InTag digits true) more → tags.accepts true false more ≡ accepts (states.InTag true false) more → tags.accepts digits some (c ∷ more) ≡ accepts (states.InTag digits some) (c ∷ more)
    by true p later next = rw p later
    by false p later next = rw p (and_two (nat_eq c 45) some (tags.accepts true false more) ∙ ap (λ (v : Bool). nat_eq c 45 && some && v) next ∙ sym (took (nat_eq c 45 && some) (states.InTag true false) (λ s. accepts s more)))

tag_form : (w : List ℕ) → is_tag w ≡ accepts (states.Start rows.Tag) w
unfolding accepts
tag_form [] = refl
tag_form (sign ∷ tag) = ap (λ (v : Bool). nat_eq sign 64 && v) (tag_accepts tag ∙ tag_states false false tag) ∙ sym (took (nat_eq sign 64) (states.InTag false false) (λ s. accepts s tag))

digits_form : (w : List ℕ) → all_ascii_digits w ≡ accepts states.Digits w
unfolding accepts
digits_form [] = refl
digits_form (c ∷ more) = ap (λ (v : Bool). is_digit c && v) (digits_form more) ∙ sym (took (is_digit c) states.Digits (λ s. accepts s more))

nonempty : (c : ℕ) (more : List ℕ) → nat_lt 0 (length (c ∷ more)) ≡ true
nonempty c more = lt-ltb 0 (length (c ∷ more)) (omega arith)

sign_form : (w : List ℕ) → nat_lt 0 (length w) && all_ascii_digits w ≡ accepts states.Sign w
unfolding accepts
sign_form [] = refl
sign_form (c ∷ more) = rw (nonempty c more) (ap (λ (v : Bool). is_digit c && v) (digits_form more) ∙ sym (took (is_digit c) states.Digits (λ s. accepts s more)))

integer_form : (rule : Rule) (w : List ℕ) → ((c : ℕ) → next_state (states.Start rule) c ≡ next_state (states.Start rows.Integer) c) → is_integer_text w ≡ accepts (states.Start rule) w
unfolding accepts
integer_form rule [] same = refl
integer_form rule (c ∷ more) same = by (nat_eq c 45) (nat_eq c 43) refl refl ∙ ap (passes (λ s. accepts s more)) (sym (same c))
  where
    by : (minus plus : Bool) → nat_eq c 45 ≡ minus → nat_eq c 43 ≡ plus → is_integer_text (c ∷ more) ≡ passes (λ s. accepts s more) (next_state (states.Start rows.Integer) c)
    by true plus p q = rw p (sign_form more)
    by false true p q = rw (p, q) (sign_form more)
    by false false p q = rw (p, q, nonempty c more) (ap (λ (v : Bool). is_digit c && v) (digits_form more) ∙ sym (took (is_digit c) states.Digits (λ s. accepts s more)))

-- ---- names

-- whether the last of these is a dot, where dot says so of the one before them
abbrev last_dot : Bool → List ℕ → Bool
last_dot dot [] = dot
last_dot dot (c ∷ more) = last_dot (nat_eq c 46) more

dot_alone : (c : ℕ) → ends_in_a_dot (c ∷ []) ≡ nat_eq c 46
dot_alone c = by (nat_eq c 46) refl
  where
    by : (v : Bool) → nat_eq c 46 ≡ v → pointwise eqb (46 ∷ []) (c ∷ []) ≡ nat_eq c 46
    by true p = subst (λ (x : ℕ). pointwise eqb (46 ∷ []) (x ∷ []) ≡ nat_eq x 46) (sym (eqb-true c 46 p)) refl
    by false p = let other = ne_eqb 46 c (λ e. let yes = eq-eqb c 46 (sym e) in absurd cc) in rw (other, p) refl

dot_later : (c d : ℕ) (more : List ℕ) → ends_in_a_dot (c ∷ d ∷ more) ≡ ends_in_a_dot (d ∷ more)
dot_later c d more =
    let count : length (c ∷ d ∷ more) - 1 ≡ suc (length (d ∷ more) - 1) = omega arith in
    ap (λ (n : ℕ). pointwise eqb (46 ∷ []) (drop n (c ∷ d ∷ more))) count

dot_last : (c : ℕ) (more : List ℕ) → ends_in_a_dot (c ∷ more) ≡ last_dot (nat_eq c 46) more
dot_last c [] = dot_alone c
dot_last c (d ∷ more) = dot_later c d more ∙ dot_last d more

local_accepts : (dot : Bool) (w : List ℕ) → list_all is_label_character w && not (last_dot dot w) ≡ accepts (states.Local dot) w
unfolding accepts
local_accepts dot [] = refl
local_accepts dot (c ∷ more) =
    sym (and_two (is_label_character c) (list_all is_label_character more) (not (last_dot (nat_eq c 46) more)))
    ∙ ap (λ (v : Bool). is_label_character c && v) (local_accepts (nat_eq c 46) more)
    ∙ sym (took (is_label_character c) (states.Local (nat_eq c 46)) (λ s. accepts s more))

start_no_dot : (c : ℕ) → is_label_start c ≡ true → nat_eq c 46 ≡ false
start_no_dot c is = ne_eqb c 46 (λ e. let yes = subst (λ (x : ℕ). is_label_start x ≡ true) e is in absurd cc)

base_no_dot : (c : ℕ) → is_name_base c ≡ true → nat_eq c 46 ≡ false
base_no_dot c is = ne_eqb c 46 (λ e. let yes = subst (λ (x : ℕ). is_name_base x ≡ true) e is in absurd cc)

colon_form : (w : List ℕ) → is_local w ≡ accepts states.Colon w
unfolding accepts
colon_form [] = refl
colon_form (c ∷ more) = by (is_label_start c) refl ∙ sym (took (is_label_start c) (states.Local false) (λ s. accepts s more))
  where
    by : (v : Bool) → is_label_start c ≡ v → is_local (c ∷ more) ≡ is_label_start c && accepts (states.Local false) more
    by true p = rw p (ap (λ (v : Bool). list_all is_label_character more && not v) (dot_last c more ∙ ap (λ (v : Bool). last_dot v more) (start_no_dot c p)) ∙ local_accepts false more)
    by false p = rw p refl

abbrev prefix_passes : Bool → List ℕ × List ℕ → Bool
prefix_passes dot parts = list_all is_prefix_character parts.0 && not (last_dot dot parts.0) && is_local parts.1

colon_ends : (dot : Bool) (c : ℕ) (more : List ℕ) → nat_eq c 58 ≡ true → accepts (states.Prefix dot) (c ∷ more) ≡ not dot && accepts states.Colon more
unfolding accepts
colon_ends dot c more p = rw p (took (not dot) states.Colon (λ s. accepts s more))

prefix_goes : (dot : Bool) (c : ℕ) (more : List ℕ) → nat_eq c 58 ≡ false → accepts (states.Prefix dot) (c ∷ more) ≡ is_prefix_character c && accepts (states.Prefix (nat_eq c 46)) more
unfolding accepts
prefix_goes dot c more p =
    ap (λ (v : Bool). passes (λ s. accepts s more) (cond v (then_some (not dot) states.Colon) (then_some (is_prefix_character c) (states.Prefix (nat_eq c 46))))) p
    ∙ took (is_prefix_character c) (states.Prefix (nat_eq c 46)) (λ s. accepts s more)

prefix_end : (dot : Bool) → accepts (states.Prefix dot) [] ≡ false
unfolding accepts
prefix_end dot = refl

prefix_accepts : (dot : Bool) (w : List ℕ) → passes (prefix_passes dot) (cut 58 w) ≡ accepts (states.Prefix dot) w
prefix_accepts dot [] = sym (prefix_end dot)
prefix_accepts dot (c ∷ more) = by (nat_eq c 58) refl (prefix_accepts (nat_eq c 46) more)
  where
    four : (v x y z : Bool) → v && x && y && z ≡ v && (x && y && z)
    four true x y z = refl
    four false x y z = refl

    pushed : (o : Option (List ℕ × List ℕ)) → passes (prefix_passes dot) (o >>= (λ parts. Some (c ∷ parts.0, parts.1))) ≡ is_prefix_character c && passes (prefix_passes (nat_eq c 46)) o
    pushed None = sym (and-false (is_prefix_character c))
    pushed (Some parts) = four (is_prefix_character c) (list_all is_prefix_character parts.0) (not (last_dot (nat_eq c 46) parts.0)) (is_local parts.1)

    onto : nat_eq c 58 ≡ false → passes (prefix_passes dot) (cut 58 (c ∷ more)) ≡ is_prefix_character c && passes (prefix_passes (nat_eq c 46)) (cut 58 more)
    onto p = ap (λ (v : Bool). passes (prefix_passes dot) (cond v (Some ([], more)) (cut 58 more >>= (λ parts. Some (c ∷ parts.0, parts.1))))) p ∙ pushed (cut 58 more)

    by : (v : Bool) → nat_eq c 58 ≡ v → passes (prefix_passes (nat_eq c 46)) (cut 58 more) ≡ accepts (states.Prefix (nat_eq c 46)) more → passes (prefix_passes dot) (cut 58 (c ∷ more)) ≡ accepts (states.Prefix dot) (c ∷ more)
    by true p later = rw p (ap (λ (v : Bool). not dot && v) (colon_form more) ∙ sym (colon_ends dot c more p))
    by false p later = onto p ∙ ap (λ (v : Bool). is_prefix_character c && v) later ∙ sym (prefix_goes dot c more p)

name_colon : (c : ℕ) (more : List ℕ) → nat_eq c 58 ≡ true → accepts (states.Start rows.Name) (c ∷ more) ≡ accepts states.Colon more
unfolding accepts
name_colon c more p = rw p refl

name_base : (c : ℕ) (more : List ℕ) → nat_eq c 58 ≡ false → accepts (states.Start rows.Name) (c ∷ more) ≡ is_name_base c && accepts (states.Prefix false) more
unfolding accepts
name_base c more p = rw p (took (is_name_base c) (states.Prefix false) (λ s. accepts s more))

name_end : accepts (states.Start rows.Name) [] ≡ false
unfolding accepts
name_end = refl

name_form : (w : List ℕ) → is_name w ≡ accepts (states.Start rows.Name) w
name_form [] = sym name_end
name_form (c ∷ more) = by (nat_eq c 58) refl
  where
    four : (v x y z : Bool) → v && x && y && z ≡ v && (x && y && z)
    four true x y z = refl
    four false x y z = refl

    first : (v : Bool) (parts : List ℕ × List ℕ) → is_name_base c ≡ v → is_prefix (c ∷ parts.0) && is_local parts.1 ≡ is_name_base c && prefix_passes false parts
    first true parts p = rw p (ap (λ (v : Bool). list_all is_prefix_character parts.0 && not v && is_local parts.1) (dot_last c parts.0 ∙ ap (λ (v : Bool). last_dot v parts.0) (base_no_dot c p)))
    first false parts p = rw p refl

    onto : (o : Option (List ℕ × List ℕ)) → cut 58 more ≡ o → nat_eq c 58 ≡ false → is_name (c ∷ more) ≡ is_name_base c && passes (prefix_passes false) (cut 58 more)
    onto None is p = rw (p, is) (sym (and-false (is_name_base c)))
    onto (Some parts) is p = rw (p, is) (first (is_name_base c) parts refl)

    by : (v : Bool) → nat_eq c 58 ≡ v → is_name (c ∷ more) ≡ accepts (states.Start rows.Name) (c ∷ more)
    by true p = rw p (colon_form more ∙ sym (name_colon c more p))
    by false p = onto (cut 58 more) refl p ∙ ap (λ (v : Bool). is_name_base c && v) (prefix_accepts false more) ∙ sym (name_base c more p)

-- ---- all rules, and gaps

pub form_accepts : (rule : Rule) (w : List ℕ) → has_form rule w ≡ accepts (states.Start rule) w
form_accepts rows.LongQuotes w = long_quotes_form w
form_accepts rows.Text w = string_form w
form_accepts rows.OpenQuote w = one_quote_form w
form_accepts rows.Iri w = iri_form w
form_accepts rows.Less w = less_form w
form_accepts rows.Variable w = variable_form w
form_accepts rows.Tag w = tag_form w
form_accepts rows.Inexact w = integer_form rows.Inexact w (λ c. refl)
form_accepts rows.Integer w = integer_form rows.Integer w (λ c. refl)
form_accepts rows.Fraction w = dot_form w
form_accepts rows.BlankNode w = node_form w
form_accepts rows.Name w = name_form w
form_accepts rows.Word w = word_form w
form_accepts rows.Mark w = mark_form w
form_accepts rows.Outside w = outside_form w

pub no_form_empty : (rule : Rule) → accepts (states.Start rule) [] ≡ false
unfolding accepts
no_form_empty rule = refl

abbrev gap_state : Bool → State
gap_state true = states.Comment
gap_state false = states.Gap

comment_takes : (c : ℕ) (more : List ℕ) (v : Bool) → is_line_end c ≡ v → accepts states.Comment (c ∷ more) ≡ accepts (gap_state (not v)) more
unfolding accepts
comment_takes c more true p = rw p refl
comment_takes c more false p = rw p refl

gap_opens : (c : ℕ) (more : List ℕ) → nat_eq c 35 ≡ true → accepts states.Gap (c ∷ more) ≡ accepts states.Comment more
unfolding accepts
gap_opens c more p = rw p refl

gap_goes : (c : ℕ) (more : List ℕ) → nat_eq c 35 ≡ false → accepts states.Gap (c ∷ more) ≡ is_blank c && accepts states.Gap more
unfolding accepts
gap_goes c more p = rw p (took (is_blank c) states.Gap (λ s. accepts s more))

gap_ends : (inside : Bool) → accepts (gap_state inside) [] ≡ true
unfolding accepts
gap_ends true = refl
gap_ends false = refl

gap_form : (inside : Bool) (w : List ℕ) → is_gap inside w ≡ accepts (gap_state inside) w
gap_form true [] = sym (gap_ends true)
gap_form false [] = sym (gap_ends false)
gap_form true (c ∷ more) = gap_form (not (is_line_end c)) more ∙ sym (comment_takes c more (is_line_end c) refl)
gap_form false (c ∷ more) = by (nat_eq c 35) refl (gap_form true more) (gap_form false more)
  where
    by : (v : Bool) → nat_eq c 35 ≡ v → is_gap true more ≡ accepts states.Comment more → is_gap false more ≡ accepts states.Gap more → is_gap false (c ∷ more) ≡ accepts states.Gap (c ∷ more)
    by true p open_one next =
        let other : is_blank c ≡ false = ap is_blank (eqb-true c 35 p) in
        rw (p, other) (or_false _ ∙ open_one ∙ sym (gap_opens c more p))
    by false p open_one next = rw p (ap (λ (v : Bool). is_blank c && v) next ∙ sym (gap_goes c more p))

pub gap_accepts : (w : List ℕ) → is_gap false w ≡ accepts states.Gap w
gap_accepts w = gap_form false w
