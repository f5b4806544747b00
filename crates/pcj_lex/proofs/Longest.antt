-- The longest front of a form: what reading by states leaves is what follows it.
use Rattle.std.proofs.Common.{◌≡◌, ℕ, Bool, true, false, cond, List, [], ◌∷◌, ◌++◌, Option, Some, None, refl, ap, sym, subst, ◌∙◌, inl, inr, ◌⊎◌}
use Rattle.pcj_ntriples.specs.Term.{IsLongest}
use Rattle.pcj_lex.specs.declared.state.State.{State}
use Rattle.pcj_lex.specs.Rules.{passes}
use Rattle.pcj_lex.specs.Reading.{next_state, is_end, accepts, or_here, or_else, onward, after_longest}

-- what is left, and why
abbrev pub IsLeft : State → List ℕ → Option (List ℕ) → Type 0
IsLeft state characters None = (front rest : List ℕ) → characters ≡ front ++ rest → accepts state front ≡ true → front ≡ []
IsLeft state characters (Some rest) = (front : List ℕ) × (characters ≡ front ++ rest) × IsLongest (accepts state) front rest

empty_front : (front rest : List ℕ) → [] ≡ front ++ rest → front ≡ []
empty_front [] rest e = refl
empty_front (x ∷ front) rest e = absurd cc

accepts_next : (state next : State) (character : ℕ) (characters : List ℕ) → next_state state character ≡ Some next → accepts state (character ∷ characters) ≡ accepts next characters
unfolding accepts
accepts_next state next character characters e = ap (passes (λ s. accepts s characters)) e

accepts_none : (state : State) (character : ℕ) (characters : List ℕ) → next_state state character ≡ None → accepts state (character ∷ characters) ≡ false
unfolding accepts
accepts_none state character characters e = ap (passes (λ s. accepts s characters)) e

accepts_end : (state : State) → accepts state [] ≡ is_end state
unfolding accepts
accepts_end state = refl

-- nothing goes on with the first character
stopped : (state : State) (character : ℕ) (characters front rest : List ℕ) → next_state state character ≡ None → character ∷ characters ≡ front ++ rest → accepts state front ≡ true → front ≡ []
stopped state character characters [] rest none e h = refl
stopped state character characters (x ∷ front) rest none e h =
    let same : x ≡ character = cc in
    let no = accepts_none state character front none in
    let here : accepts state (character ∷ front) ≡ true = subst (λ (c : ℕ). accepts state (c ∷ front) ≡ true) same h in absurd cc

-- a front that goes on with the first character
within : (state next : State) (character : ℕ) (characters front rest : List ℕ) → next_state state character ≡ Some next → character ∷ characters ≡ front ++ rest → accepts state front ≡ true → (front ≡ []) ⊎ ((more : List ℕ) × (front ≡ character ∷ more) × (characters ≡ more ++ rest) × (accepts next more ≡ true))
within state next character characters [] rest some e h = inl refl
within state next character characters (x ∷ front) rest some e h =
    let same : x ≡ character = cc in
    let tail : characters ≡ front ++ rest = cc in
    let here : accepts state (character ∷ front) ≡ true = subst (λ (c : ℕ). accepts state (c ∷ front) ≡ true) same h in
    inr (front, ap (λ (c : ℕ). c ∷ front) same, tail, sym (accepts_next state next character front some) ∙ here)

left_next : (state next : State) (character : ℕ) (characters : List ℕ) (later : Option (List ℕ)) (whole : Bool) → next_state state character ≡ Some next → is_end next ≡ whole → IsLeft next characters later → IsLeft state (character ∷ characters) (or_here whole characters later)
left_next state next character characters (Some rest) whole some ends left =
    let long = left.2 in (
      character ∷ left.0,
      ap (λ (t : List ℕ). character ∷ t) left.1,
      (accepts_next state next character left.0 some ∙ long.0, λ more further e h. long.1 more further e (sym (accepts_next state next character (left.0 ++ more) some) ∙ h)),
    )
left_next state next character characters None true some ends left = (
  character ∷ [],
  refl,
  (accepts_next state next character [] some ∙ accepts_end next ∙ ends, λ more further e h. left more further e (sym (accepts_next state next character more some) ∙ h)),
)
left_next state next character characters None false some ends left = λ front rest e h. by front rest (within state next character characters front rest some e h)
  where
    by : (front rest : List ℕ) → (front ≡ []) ⊎ ((more : List ℕ) × (front ≡ character ∷ more) × (characters ≡ more ++ rest) × (accepts next more ≡ true)) → front ≡ []
    by front rest (inl none) = none
    by front rest (inr some) =
        let nothing = left some.0 rest some.2 some.3 in
        let now : accepts next [] ≡ true = subst (λ (t : List ℕ). accepts next t ≡ true) nothing some.3 in
        let no = accepts_end next in absurd cc

left_by : (state : State) (character : ℕ) (characters : List ℕ) (o : Option State) → next_state state character ≡ o → ((next : State) → IsLeft next characters (after_longest next characters)) → IsLeft state (character ∷ characters) (onward (λ next. after_longest next characters) characters o)
left_by state character characters None none later = λ front rest e h. stopped state character characters front rest none e h
left_by state character characters (Some next) some later = left_next state next character characters (after_longest next characters) (is_end next) some refl (later next)

pub left_of : (state : State) (characters : List ℕ) → IsLeft state characters (after_longest state characters)
unfolding after_longest
left_of state [] = λ front rest e h. empty_front front rest e
left_of state (character ∷ characters) = left_by state character characters (next_state state character) refl (λ next. left_of next characters)

-- ---- what the loop keeps

pub goes_on : (state next : State) (character : ℕ) (ahead : List ℕ) (longest : Option (List ℕ)) → next_state state character ≡ Some next → or_else (after_longest next ahead) (cond (is_end next) (Some ahead) longest) ≡ or_else (after_longest state (character ∷ ahead)) longest
unfolding after_longest
goes_on state next character ahead longest some = by (after_longest next ahead) (is_end next) ∙ ap (λ (o : Option State). or_else (onward (λ s. after_longest s ahead) ahead o) longest) (sym some)
  where
    by : (later : Option (List ℕ)) (whole : Bool) → or_else later (cond whole (Some ahead) longest) ≡ or_else (or_here whole ahead later) longest
    by (Some rest) whole = refl
    by None true = refl
    by None false = refl
