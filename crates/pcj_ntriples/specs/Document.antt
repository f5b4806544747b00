-- What a document says, and where it is refused.
use Rattle.std.specs.Prelude.{◌≡◌, ℕ, ◌+◌, ◌<◌, ◌≤◌, List, [], ◌∷◌, ◌++◌, length, Option, Some, ◌⊎◌}
use Rattle.std.specs.List.{AllZip, filter_map}
use Rattle.pcj_term.specs.declared.triple.Triple.{Triple}
use Rattle.pcj_term.specs.Triple.{distinct}
use Rattle.pcj_ntriples.specs.declared.kind.NtKind.{NtKind}
use Rattle.pcj_ntriples.specs.declared.kind.NtKind.TheVariants.{TooMany}
use Rattle.pcj_ntriples.specs.declared.error.NtRefusal.{NtRefusal}
use Rattle.pcj_ntriples.specs.declared.error.NtRefusal.TheVariants.{Refused, Memory}
pub use Rattle.pcj_ntriples.specs.Lines.{document_lines}
pub use Rattle.pcj_ntriples.specs.Line.{Good, Bad}
pub use Rattle.pcj_ntriples.specs.Kind.{number_of}

-- how many distinct triples a document may have
abbrev pub triple_limit : ℕ
triple_limit = 10000

-- the triples of what lines say, each once, in the order of first appearance
abbrev pub distinct_triples : List (Option Triple) → List Triple
distinct_triples said = distinct (filter_map (λ triple. triple) said)

-- Each of these lines is good, and they say this.
abbrev pub Say : ℕ → List (List ℕ) → List (Option Triple) → Type 0
Say load lines said = AllZip (Good load) lines said

-- Each line is good, and the triples are what the lines say.
pub record Document (text : List ℕ) (load : ℕ) (triples : List Triple) : Type 0 where
  pub said : List (Option Triple)
  pub each : Say load (document_lines text) said
  pub kept : triples ≡ distinct_triples said
  pub few : length triples ≤ triple_limit

-- These lines are good, with few enough triples.
pub record IsRead (load : ℕ) (lines : List (List ℕ)) : Type 0 where
  pub said : List (Option Triple)
  pub each : Say load lines said
  pub few : length (distinct_triples said) ≤ triple_limit

-- At this line's end there is one triple more than a document may have.
pub record PassesLimit (load : ℕ) (before : List (List ℕ)) (line : List ℕ) : Type 0 where
  pub said : List (Option Triple)
  pub triple : Triple
  pub each : Say load before said
  pub last : Good load line (Some triple)
  pub many : triple_limit < length (distinct_triples (said ++ Some triple ∷ []))

-- The lowest line that is bad, or at whose end there is one triple too many, has this number, counted from 1, and
-- this fault. The load makes no difference.
pub record DocumentFault (text : List ℕ) (number : ℕ) (kind : NtKind) : Type 0 where
  pub before : List (List ℕ)
  pub line : List ℕ
  pub after : List (List ℕ)
  pub lines : document_lines text ≡ before ++ line ∷ after
  pub read : (load : ℕ) → IsRead load before
  pub fault : Bad line kind ⊎ ((kind ≡ TooMany) × ((load : ℕ) → PassesLimit load before line))
  pub counted : number ≡ length before + 1

-- why a document was not read
abbrev pub Refuses : List ℕ → NtRefusal → Type 0
Refuses text (Refused error) = DocumentFault text error.line error.kind
Refuses text Memory = Unit {0}

-- a document is read in one way, or refused in one way
abbrev pub SaysOneThing : Type 0
SaysOneThing = (text : List ℕ) (load : ℕ) (ts us : List Triple) → Document text load ts → Document text load us → ts ≡ us

abbrev pub HasOneFault : Type 0
HasOneFault = (text : List ℕ) (m n : ℕ) (j k : NtKind) → DocumentFault text m j → DocumentFault text n k → (m ≡ n) × (j ≡ k)

abbrev pub IsNotBoth : Type 0
IsNotBoth = (text : List ℕ) (load : ℕ) (ts : List Triple) (n : ℕ) (k : NtKind) → Document text load ts → DocumentFault text n k → ⊥

abbrev pub IsEither : Type 0
IsEither = (text : List ℕ) (load : ℕ) → ((triples : List Triple) × Document text load triples) ⊎ ((number : ℕ) × (kind : NtKind) × DocumentFault text number kind)
