-- The tokens of a text: what the bytes of each one are.
use Rattle.std.proofs.Common.{◌≡◌, ℕ, ◌+◌, ◌-◌, ◌≤◌, true, List, [], ◌∷◌, ◌++◌, length, take, drop, Some, ap, sym, subst, ◌∙◌, inl, inr, arith, chars, encode_utf8_all, drop-drop}
use Rattle.std.specs.List.{AllByRecursion}
use Rattle.std.specs.Str.{IsUtf8, all_scalars}
use Rattle.std.proofs.lemmas.Option.{same_Some}
use Rattle.std.proofs.lemmas.Str.{encodes-append, scalars-chars}
use Rattle.std.proofs.Math.Seq.{take-append_seam, drop-append_seam}
use Rattle.pcj_ntriples.proofs.Names.{scalars_parts}
use Rattle.pcj_lex.specs.declared.token.TokenKind.{TokenKind}
use Rattle.pcj_lex.specs.declared.token.TokenKind.TheVariants as kinds
use Rattle.pcj_lex.specs.Rules.{kind_of, token_rules, Begins, IsFirst, is_iri_written, is_name, is_string, is_tag}
use Rattle.pcj_lex.proofs.FirstRule.{begins_whole}
use Rattle.pcj_lex.proofs.Places.{whole_bytes, reads_on}
use Rattle.pcj_grammar.specs.declared.lexeme.Lexeme.{Lexeme}
use Rattle.pcj_grammar.specs.Terminal.{terminal_of}
use Rattle.pcj_grammar.specs.Text.{IsLexeme, Tokens}
use Rattle.pcj_translate.specs.Term.{source_of}

-- the form of the tokens of a kind, where it matters
abbrev pub FormOf : TokenKind → List ℕ → Type 0
FormOf kinds.Word w = Unit {0}
FormOf kinds.Var w = Unit {0}
FormOf kinds.Iri w = is_iri_written w ≡ true
FormOf kinds.Pname w = is_name w ≡ true
FormOf kinds.Text w = is_string w ≡ true
FormOf kinds.Tag w = is_tag w ≡ true
FormOf kinds.Integer w = Unit {0}
FormOf kinds.Mark w = Unit {0}
FormOf kinds.Outside w = Unit {0}

-- A token whose bytes are characters of the form of its kind.
pub record IsWritten (text : List ℕ) (l : Lexeme) : Type 0 where
  pub kind : TokenKind
  pub written : List ℕ
  pub form : FormOf kind written
  pub scalars : all_scalars written ≡ true
  pub source : source_of text l ≡ encode_utf8_all written
  pub terminal : l.terminal ≡ terminal_of kind (encode_utf8_all written)

-- ---- the form of a kind, by the rule that fits

has_kind : (characters : List ℕ) (k j : TokenKind) (w s : List ℕ) (b : Begins characters k w s) → kind_of b.rule ≡ Some j → FormOf j w → FormOf k w
has_kind characters k j w s b is form = subst (λ (i : TokenKind). FormOf i w) (same_Some j k (sym is ∙ b.kind_is)) form

form_by : (characters : List ℕ) (k : TokenKind) (w s : List ℕ) (b : Begins characters k w s) → IsFirst token_rules characters b.rule w s → FormOf k w
form_by characters k w s b (inl f) = has_kind characters k kinds.Outside w s b (ap kind_of f.0) tt
form_by characters k w s b (inr (n0, inl f)) = let fits = f.1 in has_kind characters k kinds.Text w s b (ap kind_of f.0) (fits.longest).0
form_by characters k w s b (inr (n0, inr (n1, inl f))) = let none = sym (ap kind_of f.0) ∙ b.kind_is in absurd cc
form_by characters k w s b (inr (n0, inr (n1, inr (n2, inl f)))) = let fits = f.1 in has_kind characters k kinds.Iri w s b (ap kind_of f.0) (fits.longest).0
form_by characters k w s b (inr (n0, inr (n1, inr (n2, inr (n3, inl f))))) = has_kind characters k kinds.Mark w s b (ap kind_of f.0) tt
form_by characters k w s b (inr (n0, inr (n1, inr (n2, inr (n3, inr (n4, inl f)))))) = has_kind characters k kinds.Var w s b (ap kind_of f.0) tt
form_by characters k w s b (inr (n0, inr (n1, inr (n2, inr (n3, inr (n4, inr (n5, inl f))))))) = let fits = f.1 in has_kind characters k kinds.Tag w s b (ap kind_of f.0) (fits.longest).0
form_by characters k w s b (inr (n0, inr (n1, inr (n2, inr (n3, inr (n4, inr (n5, inr (n6, inl f)))))))) = has_kind characters k kinds.Outside w s b (ap kind_of f.0) tt
form_by characters k w s b (inr (n0, inr (n1, inr (n2, inr (n3, inr (n4, inr (n5, inr (n6, inr (n7, inl f))))))))) = has_kind characters k kinds.Integer w s b (ap kind_of f.0) tt
form_by characters k w s b (inr (n0, inr (n1, inr (n2, inr (n3, inr (n4, inr (n5, inr (n6, inr (n7, inr (n8, inl f)))))))))) = has_kind characters k kinds.Outside w s b (ap kind_of f.0) tt
form_by characters k w s b (inr (n0, inr (n1, inr (n2, inr (n3, inr (n4, inr (n5, inr (n6, inr (n7, inr (n8, inr (n9, inl f))))))))))) = has_kind characters k kinds.Outside w s b (ap kind_of f.0) tt
form_by characters k w s b (inr (n0, inr (n1, inr (n2, inr (n3, inr (n4, inr (n5, inr (n6, inr (n7, inr (n8, inr (n9, inr (n10, inl f)))))))))))) = let fits = f.1 in has_kind characters k kinds.Pname w s b (ap kind_of f.0) (fits.longest).0
form_by characters k w s b (inr (n0, inr (n1, inr (n2, inr (n3, inr (n4, inr (n5, inr (n6, inr (n7, inr (n8, inr (n9, inr (n10, inr (n11, inl f))))))))))))) = has_kind characters k kinds.Word w s b (ap kind_of f.0) tt
form_by characters k w s b (inr (n0, inr (n1, inr (n2, inr (n3, inr (n4, inr (n5, inr (n6, inr (n7, inr (n8, inr (n9, inr (n10, inr (n11, inr (n12, inl f)))))))))))))) = has_kind characters k kinds.Mark w s b (ap kind_of f.0) tt
form_by characters k w s b (inr (n0, inr (n1, inr (n2, inr (n3, inr (n4, inr (n5, inr (n6, inr (n7, inr (n8, inr (n9, inr (n10, inr (n11, inr (n12, inr (n13, inl f))))))))))))))) = has_kind characters k kinds.Outside w s b (ap kind_of f.0) tt
form_by characters k w s b (inr (n0, inr (n1, inr (n2, inr (n3, inr (n4, inr (n5, inr (n6, inr (n7, inr (n8, inr (n9, inr (n10, inr (n11, inr (n12, inr (n13, inr (n14, f)))))))))))))))) = absurd f

-- what stands behind a gap
behind_gap : (text gap rest : List ℕ) (from at : ℕ) → IsUtf8 (drop from text) → chars (drop from text) ≡ gap ++ rest → at ≡ from + length (encode_utf8_all gap) → drop at text ≡ encode_utf8_all rest
behind_gap text gap rest from at is whole place =
    ap (λ (i : ℕ). drop i text) place
    ∙ sym (drop-drop (length (encode_utf8_all gap)) from text)
    ∙ ap (drop (length (encode_utf8_all gap))) (whole_bytes (drop from text) gap rest is whole)
    ∙ drop-append_seam (encode_utf8_all gap) (encode_utf8_all rest)

front_bytes : (bytes written rest : List ℕ) (n : ℕ) → bytes ≡ encode_utf8_all (written ++ rest) → n ≡ length (encode_utf8_all written) → take n bytes ≡ encode_utf8_all written
front_bytes bytes written rest n e count =
    ap (λ (i : ℕ). take i bytes) count
    ∙ ap (take (length (encode_utf8_all written))) (e ∙ encodes-append written rest)
    ∙ take-append_seam (encode_utf8_all written) (encode_utf8_all rest)

pub is_written : (text : List ℕ) (from : ℕ) (l : Lexeme) → IsUtf8 (drop from text) → IsLexeme text from l → IsWritten text l
is_written text from l is a =
    let n = a.next in
    let b = n.begins in
    let led = n.leads in
    let whole = begins_whole n.characters a.kind n.written n.rest b in
    let there : drop l.at text ≡ encode_utf8_all n.characters = behind_gap text led.gap n.characters from l.at is led.whole led.place in
    let count : l.end - l.at ≡ length (encode_utf8_all n.written) = omega (arith, a.behind, ap length n.spelled) in
    let all : all_scalars (led.gap ++ n.characters) ≡ true = subst (λ (t : List ℕ). all_scalars t ≡ true) led.whole (scalars-chars (drop from text) is) in
    let front : all_scalars (n.written ++ n.rest) ≡ true = subst (λ (t : List ℕ). all_scalars t ≡ true) whole (scalars_parts led.gap n.characters all).1 in
    record {
      kind = a.kind;
      written = n.written;
      form = form_by n.characters a.kind n.written n.rest b b.first;
      scalars = (scalars_parts n.written n.rest front).0;
      source = front_bytes (drop l.at text) n.written n.rest (l.end - l.at) (there ∙ ap encode_utf8_all whole) count;
      terminal = a.terminal ∙ ap (terminal_of a.kind) n.spelled;
    }

-- all tokens from a place on: each is written, and they are no more than the bytes there
pub are_written : (text : List ℕ) (from to : ℕ) (ls : List Lexeme) → from ≤ length text → IsUtf8 (drop from text) → Tokens text from ls to → AllByRecursion (IsWritten text) ls × (length ls + from ≤ length text)
are_written text from to [] within is same = (tt, omega (arith, within))
are_written text from to (l ∷ ls) within is (first, later) =
    let on = reads_on text from first.kind l.at first.source within is first.next in
    let end : l.at + length first.source ≡ l.end = sym first.behind in
    let readable : IsUtf8 (drop l.end text) = subst (λ (n : ℕ). IsUtf8 (drop n text)) end on.readable in
    let rest = are_written text l.end to ls (omega (arith, end, on.within)) readable later in
    ((is_written text from l is first, rest.0), omega (arith, end, on.further, rest.1))
