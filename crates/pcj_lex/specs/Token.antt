-- The token that follows a place of a text (SPARQL 1.1 Query, section 19.8).
use Rattle.std.specs.Prelude.{◌≡◌, ℕ, ◌+◌, ◌<◌, ◌≤◌, false, List, [], ◌∷◌, ◌++◌, length, drop, ◌⊎◌, chars, encode_utf8_all}
use Rattle.std.specs.Str.{IsUtf8}
use Rattle.pcj_ntriples.specs.Term.{IsLongest}
use Rattle.pcj_lex.specs.declared.token.TokenKind.{TokenKind}
use Rattle.pcj_lex.specs.declared.token.LexRefusal.{LexRefusal}
use Rattle.pcj_lex.specs.declared.token.LexRefusal.TheVariants.{At}
pub use Rattle.pcj_lex.specs.Rules.{Begins, StartsNone, is_gap}

-- From this byte on the text is blanks and comments, and then from the byte at on rest.
pub record Leads (text : List ℕ) (from at : ℕ) (rest : List ℕ) : Type 0 where
  pub gap : List ℕ
  pub whole : chars (drop from text) ≡ gap ++ rest
  pub skipped : IsLongest (is_gap false) gap rest
  pub place : at ≡ from + length (encode_utf8_all gap)

-- The next token from this byte on: its kind, its first byte, and its bytes.
pub record IsNext (text : List ℕ) (from : ℕ) (kind : TokenKind) (at : ℕ) (source : List ℕ) : Type 0 where
  pub characters : List ℕ
  pub written : List ℕ
  pub rest : List ℕ
  pub leads : Leads text from at characters
  pub begins : Begins characters kind written rest
  pub spelled : source ≡ encode_utf8_all written

-- nothing but blanks and comments from this byte on
abbrev pub IsLast : List ℕ → ℕ → Type 0
IsLast text from = (at : ℕ) × Leads text from at []

-- Past blanks and comments there are further characters at this byte, and no token starts there.
abbrev pub IsNoToken : List ℕ → ℕ → ℕ → Type 0
IsNoToken text from at = (first : ℕ) × (more : List ℕ) × Leads text from at (first ∷ more) × StartsNone (first ∷ more)

abbrev pub Refuses : List ℕ → ℕ → LexRefusal → Type 0
Refuses text from (At at) = IsNoToken text from at

-- The place is further on, and the text can be read on from there.
pub record ReadsOn (text : List ℕ) (from to : ℕ) : Type 0 where
  pub further : from < to
  pub within : to ≤ length text
  pub readable : IsUtf8 (drop to text)

-- ---- what holds of each place of each text

abbrev pub SaysOneToken : Type 0
SaysOneToken = (text : List ℕ) (from : ℕ) (kind other : TokenKind) (at place : ℕ) (source bytes : List ℕ) →
    IsNext text from kind at source → IsNext text from other place bytes → (kind ≡ other) × (at ≡ place) × (source ≡ bytes)

abbrev pub HasOneFault : Type 0
HasOneFault = (text : List ℕ) (from at place : ℕ) → IsNoToken text from at → IsNoToken text from place → at ≡ place

abbrev pub IsNotBoth : Type 0
IsNotBoth = (text : List ℕ) (from at place : ℕ) (kind : TokenKind) (source : List ℕ) →
    IsNext text from kind at source → IsNoToken text from place → ⊥

abbrev pub IsNotAfterAll : Type 0
IsNotAfterAll = (text : List ℕ) (from at : ℕ) (kind : TokenKind) (source : List ℕ) → IsLast text from →
    (IsNext text from kind at source → ⊥) × (IsNoToken text from at → ⊥)

abbrev pub IsEither : Type 0
IsEither = (text : List ℕ) (from : ℕ) →
    ((kind : TokenKind) × (at : ℕ) × (source : List ℕ) × IsNext text from kind at source) ⊎ (IsLast text from ⊎ ((at : ℕ) × IsNoToken text from at))
