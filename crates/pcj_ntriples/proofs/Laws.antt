-- A text has exactly one reading, and reading goes on line by line.
use Rattle.std.proofs.Common.{◌≡◌, ℕ, ◌+◌, ◌<◌, ◌≤◌, ◌⊎◌, Bool, true, false, cond, nat_lt, List, [], ◌∷◌, ◌++◌, length, map, Option, Some, None, option_map, Result, Ok, Err, refl, ap, sym, subst, ◌∙◌, append_assoc, append-nil, arith, inl, inr}
use Rattle.std.specs.List.{filter_map, list_any}
use Rattle.std.proofs.lemmas.Bool.{ltb-true, ltb-false}
use Rattle.std.proofs.lemmas.List.{length-append, nil_from_length}
use Rattle.std.proofs.lemmas.List.Elements.{filter_map-append}
use Rattle.pcj_term.specs.declared.triple.Triple.{Triple}
use Rattle.pcj_term.specs.Triple.{distinct, same_triple}
use Rattle.pcj_term.proofs.Same.{distinct-push}
use Rattle.pcj_ntriples.specs.declared.kind.NtKind.{NtKind}
use Rattle.pcj_ntriples.specs.declared.kind.NtKind.TheVariants.{TooMany}
use Rattle.pcj_ntriples.specs.declared.error.NtRefusal.{NtRefusal}
use Rattle.pcj_ntriples.specs.declared.error.NtRefusal.TheVariants.{Refused, Memory}
use Rattle.pcj_ntriples.specs.Lines.{document_lines}
use Rattle.pcj_ntriples.specs.Line.{Good, Bad}
use Rattle.pcj_ntriples.specs.LineReading.{said_at}
use Rattle.pcj_ntriples.specs.ReadLine.{RefusesLine}
use Rattle.pcj_ntriples.specs.Document.{triple_limit, distinct_triples, Say, Document, IsRead, PassesLimit, DocumentFault, Refuses, SaysOneThing, HasOneFault, IsNotBoth, IsEither}
use Rattle.pcj_ntriples.proofs.Loads.{carried_triple, moved_line, said_moved, distinct_count}
use Rattle.pcj_ntriples.proofs.Says.{good_read, IsOutcome, outcome, bad_read_some}

-- ---- one line

pub read_good : (load : ℕ) (line : List ℕ) (said : Option Triple) → said_at load line ≡ Ok said → Good load line said
read_good load line said e = subst (IsOutcome load line) e (outcome load line)

pub read_bad : (load : ℕ) (line : List ℕ) (kind : NtKind) → said_at load line ≡ Err kind → Bad line kind
read_bad load line kind e = subst (IsOutcome load line) e (outcome load line)

bad_read : (line : List ℕ) (kind : NtKind) (load : ℕ) → Bad line kind → said_at load line ≡ Err kind
bad_read line kind load bad = let some = bad_read_some line kind bad in said_moved load some.0 line ∙ ap (moved_line load) some.1

-- a line isn't good and bad
good_bad : (load : ℕ) (line : List ℕ) (said : Option Triple) (kind : NtKind) → Good load line said → Bad line kind → ⊥
good_bad load line said kind good bad = let p = good_read load line said good in let q = bad_read line kind load bad in absurd cc

said_once : (load : ℕ) (line : List ℕ) (r s : Option Triple) → Good load line r → Good load line s → r ≡ s
said_once load line r s g h = let p = good_read load line r g in let q = good_read load line s h in cc

one_kind : (line : List ℕ) (j k : NtKind) → Bad line j → Bad line k → j ≡ k
one_kind line j k g h = let p = bad_read line j 0 g in let q = bad_read line k 0 h in cc

good_moved : (load other : ℕ) (line : List ℕ) (said : Option Triple) → Good other line said → Good load line (option_map (carried_triple load) said)
good_moved load other line said good = read_good load line (option_map (carried_triple load) said) (said_moved load other line ∙ ap (moved_line load) (good_read other line said good))

-- ---- all lines

say_once : (load : ℕ) (lines : List (List ℕ)) (rs ss : List (Option Triple)) → Say load lines rs → Say load lines ss → rs ≡ ss
say_once load [] [] [] g h = refl
say_once load [] [] (s ∷ ss) g h = absurd h
say_once load [] (r ∷ rs) ss g h = absurd g
say_once load (line ∷ lines) [] ss g h = absurd g
say_once load (line ∷ lines) (r ∷ rs) [] g h = absurd h
say_once load (line ∷ lines) (r ∷ rs) (s ∷ ss) g h =
    let head = said_once load line r s g.0 h.0 in
    let tail = say_once load lines rs ss g.1 h.1 in
    cc

abbrev moved_said : ℕ → List (Option Triple) → List (Option Triple)
moved_said load said = map (option_map (carried_triple load)) said

say_moved : (load other : ℕ) (lines : List (List ℕ)) (said : List (Option Triple)) → Say other lines said → Say load lines (moved_said load said)
say_moved load other [] [] h = tt
say_moved load other [] (s ∷ said) h = absurd h
say_moved load other (line ∷ lines) [] h = absurd h
say_moved load other (line ∷ lines) (s ∷ said) h = (good_moved load other line s h.0, say_moved load other lines said h.1)

moved_triples : (load : ℕ) (said : List (Option Triple)) → filter_map (λ t. t) (moved_said load said) ≡ map (carried_triple load) (filter_map (λ t. t) said)
moved_triples load [] = refl
moved_triples load (None ∷ said) = moved_triples load said
moved_triples load (Some t ∷ said) = ap (λ (ts : List Triple). carried_triple load t ∷ ts) (moved_triples load said)

moved_count : (load other : ℕ) (lines : List (List ℕ)) (said : List (Option Triple)) → Say other lines said → length (distinct_triples (moved_said load said)) ≡ length (distinct_triples said)
moved_count load other lines said h =
    let ts : List Triple = filter_map (λ t. t) said in
    let fixed : said ≡ moved_said other said = say_once other lines said (moved_said other said) h (say_moved other other lines said h) in
    ap (λ (us : List Triple). length (distinct us)) (moved_triples load said)
    ∙ distinct_count load other ts
    ∙ ap (λ (us : List Triple). length (distinct us)) (sym (moved_triples other said))
    ∙ ap (λ (s : List (Option Triple)). length (distinct_triples s)) (sym fixed)

say_push : (load : ℕ) (lines : List (List ℕ)) (said : List (Option Triple)) (line : List ℕ) (s : Option Triple) → Say load lines said → Good load line s → Say load (lines ++ line ∷ []) (said ++ s ∷ [])
say_push load [] [] line s all one = (one, tt)
say_push load [] (r ∷ said) line s all one = absurd all
say_push load (l ∷ lines) [] line s all one = absurd all
say_push load (l ∷ lines) (r ∷ said) line s all one = (all.0, say_push load lines said line s all.1 one)

pub is_read_moved : (load other : ℕ) (lines : List (List ℕ)) → IsRead other lines → IsRead load lines
is_read_moved load other lines r = record {
  said = moved_said load r.said;
  each = say_moved load other lines r.said r.each;
  few = let few = r.few in omega (arith, moved_count load other lines r.said r.each, few);
}

moved_push : (load : ℕ) (said : List (Option Triple)) (s : Option Triple) → moved_said load (said ++ s ∷ []) ≡ moved_said load said ++ option_map (carried_triple load) s ∷ []
moved_push load [] s = refl
moved_push load (r ∷ said) s = ap (λ (ss : List (Option Triple)). option_map (carried_triple load) r ∷ ss) (moved_push load said s)

pub passes_moved : (load other : ℕ) (before : List (List ℕ)) (line : List ℕ) → PassesLimit other before line → PassesLimit load before line
passes_moved load other before line p =
    let count = moved_count load other (before ++ line ∷ []) (p.said ++ Some p.triple ∷ []) (say_push other before p.said line (Some p.triple) p.each p.last) in
    let same = ap (λ (s : List (Option Triple)). length (distinct_triples s)) (moved_push load p.said (Some p.triple)) in
    record {
      said = moved_said load p.said;
      triple = carried_triple load p.triple;
      each = say_moved load other before p.said p.each;
      last = good_moved load other line (Some p.triple) p.last;
      many = let many = p.many in omega (arith, count, same, many);
    }

-- ---- more lines say no fewer triples

push_grows : (ts : List Triple) (t : Triple) → length (distinct ts) ≤ length (distinct (ts ++ t ∷ []))
push_grows ts t = by (list_any (same_triple t) (distinct ts)) refl
  where
    by : (v : Bool) → list_any (same_triple t) (distinct ts) ≡ v → length (distinct ts) ≤ length (distinct (ts ++ t ∷ []))
    by true p = let same : distinct (ts ++ t ∷ []) ≡ distinct ts = distinct-push ts t ∙ rw p refl in omega (arith, ap length same)
    by false p = let same : distinct (ts ++ t ∷ []) ≡ distinct ts ++ t ∷ [] = distinct-push ts t ∙ rw p refl in omega (arith, ap length same, length-append (distinct ts) (t ∷ []))

triples_grow : (ts us : List Triple) → length (distinct ts) ≤ length (distinct (ts ++ us))
triples_grow ts [] = omega (arith, ap (λ (t : List Triple). length (distinct t)) (append-nil ts))
triples_grow ts (u ∷ us) =
    let same = ap (λ (t : List Triple). length (distinct t)) (append_assoc ts (u ∷ []) us) in
    omega (arith, push_grows ts u, triples_grow (ts ++ u ∷ []) us, same)

said_grow : (said more : List (Option Triple)) → length (distinct_triples said) ≤ length (distinct_triples (said ++ more))
said_grow said more =
    let same = ap (λ (ts : List Triple). length (distinct ts)) (filter_map-append (λ t. t) said more) in
    omega (arith, triples_grow (filter_map (λ t. t) said) (filter_map (λ t. t) more), same)

-- ---- a fault within lines that are read

record Split (load : ℕ) (before : List (List ℕ)) (line : List ℕ) (after : List (List ℕ)) (said : List (Option Triple)) : Type 0 where
  front : List (Option Triple)
  here : Option Triple
  rest : List (Option Triple)
  whole : said ≡ front ++ here ∷ rest
  first : Say load before front
  one : Good load line here

split : (load : ℕ) (before : List (List ℕ)) (line : List ℕ) (after : List (List ℕ)) (said : List (Option Triple)) → Say load (before ++ line ∷ after) said → Split load before line after said
split load [] line after [] h = absurd h
split load [] line after (s ∷ said) h = record { front = []; here = s; rest = said; whole = refl; first = tt; one = h.0 }
split load (b ∷ before) line after [] h = absurd h
split load (b ∷ before) line after (s ∷ said) h =
    let later = split load before line after said h.1 in
    record { front = s ∷ later.front; here = later.here; rest = later.rest; whole = ap (λ (ss : List (Option Triple)). s ∷ ss) later.whole; first = (h.0, later.first); one = later.one }

abbrev IsFault : List (List ℕ) → List ℕ → NtKind → Type 0
IsFault before line kind = Bad line kind ⊎ ((kind ≡ TooMany) × ((load : ℕ) → PassesLimit load before line))

fault_within : (load : ℕ) (before : List (List ℕ)) (line : List ℕ) (after : List (List ℕ)) (said : List (Option Triple)) (kind : NtKind) → Say load (before ++ line ∷ after) said → length (distinct_triples said) ≤ triple_limit → IsFault before line kind → ⊥
fault_within load before line after said kind each few (inl bad) = let parts = split load before line after said each in good_bad load line parts.here kind parts.one bad
fault_within load before line after said kind each few (inr h) =
    let p = h.1 load in
    let parts = split load before line after said each in
    let front = say_once load before parts.front p.said parts.first p.each in
    let here = said_once load line parts.here (Some p.triple) parts.one p.last in
    let whole : said ≡ (p.said ++ Some p.triple ∷ []) ++ parts.rest =
    parts.whole ∙ ap (λ (f : List (Option Triple)). f ++ parts.here ∷ parts.rest) front ∙ ap (λ (s : Option Triple). p.said ++ s ∷ parts.rest) here ∙ sym (append_assoc p.said (Some p.triple ∷ []) parts.rest) in
    let many = p.many in
    let grown = said_grow (p.said ++ Some p.triple ∷ []) parts.rest in
    let same = ap (λ (s : List (Option Triple)). length (distinct_triples s)) whole in
    absurd (omega (arith, many, grown, same, few))

-- ---- one place

data Meet (before : List (List ℕ)) (line : List ℕ) (before' : List (List ℕ)) (line' : List ℕ) : Type 0 where
  together : before ≡ before' → line ≡ line' → Meet before line before' line'
  sooner : (middle : List (List ℕ)) → before' ≡ before ++ line ∷ middle → Meet before line before' line'
  later : (middle : List (List ℕ)) → before ≡ before' ++ line' ∷ middle → Meet before line before' line'

meet : (before : List (List ℕ)) (line : List ℕ) (after before' : List (List ℕ)) (line' : List ℕ) (after' : List (List ℕ)) → before ++ line ∷ after ≡ before' ++ line' ∷ after' → Meet before line before' line'
meet [] line after [] line' after' e = together refl (let first : line ≡ line' = cc in first)
meet [] line after (b ∷ before') line' after' e = sooner before' (let first : line ≡ b = cc in ap (λ (l : List ℕ). l ∷ before') (sym first))
meet (b ∷ before) line after [] line' after' e = later before (let first : b ≡ line' = cc in ap (λ (l : List ℕ). l ∷ before) first)
meet (b ∷ before) line after (c ∷ before') line' after' e = onto (meet before line after before' line' after' (let rest : before ++ line ∷ after ≡ before' ++ line' ∷ after' = cc in rest))
  where
    first : b ≡ c
    first = cc

    onto : Meet before line before' line' → Meet (b ∷ before) line (c ∷ before') line'
    onto (together p q) = together (ap (λ (ls : List (List ℕ)). b ∷ ls) p ∙ ap (λ (l : List ℕ). l ∷ before') first) q
    onto (sooner middle p) = sooner middle (ap (λ (ls : List (List ℕ)). c ∷ ls) p ∙ ap (λ (l : List ℕ). l ∷ before ++ line ∷ middle) (sym first))
    onto (later middle p) = later middle (ap (λ (ls : List (List ℕ)). b ∷ ls) p ∙ ap (λ (l : List ℕ). l ∷ before' ++ line' ∷ middle) first)

same_fault : (before : List (List ℕ)) (line : List ℕ) (j k : NtKind) → IsFault before line j → IsFault before line k → j ≡ k
same_fault before line j k (inl g) (inl h) = one_kind line j k g h
same_fault before line j k (inl g) (inr h) = let p = h.1 0 in absurd (good_bad 0 line (Some p.triple) j p.last g)
same_fault before line j k (inr g) (inl h) = let p = g.1 0 in absurd (good_bad 0 line (Some p.triple) k p.last h)
same_fault before line j k (inr g) (inr h) = g.0 ∙ sym h.0

within_read : (before : List (List ℕ)) (line : List ℕ) (middle lines : List (List ℕ)) (kind : NtKind) → lines ≡ before ++ line ∷ middle → IsRead 0 lines → IsFault before line kind → ⊥
within_read before line middle lines kind e r fault = fault_within 0 before line middle r.said kind (subst (λ (ls : List (List ℕ)). Say 0 ls r.said) e r.each) r.few fault

pub has_one_fault : HasOneFault
has_one_fault text m n j k d e = by (meet d.before d.line d.after e.before e.line e.after (sym d.lines ∙ e.lines))
  where
    by : Meet d.before d.line e.before e.line → (m ≡ n) × (j ≡ k)
    by (together p q) = (
      d.counted ∙ ap (λ (ls : List (List ℕ)). length ls + 1) p ∙ sym e.counted,
      same_fault e.before e.line j k (subst (λ (l : List ℕ). IsFault e.before l j) q (subst (λ (ls : List (List ℕ)). IsFault ls d.line j) p d.fault)) e.fault,
    )
    by (sooner middle p) = absurd (within_read d.before d.line middle e.before j p (e.read 0) d.fault)
    by (later middle p) = absurd (within_read e.before e.line middle d.before k p (d.read 0) e.fault)

pub says_one_thing : SaysOneThing
says_one_thing text load ts us d e = d.kept ∙ ap distinct_triples (say_once load (document_lines text) d.said e.said d.each e.each) ∙ sym e.kept

pub is_not_both : IsNotBoth
is_not_both text load ts n k d e =
    fault_within load e.before e.line e.after d.said k (subst (λ (ls : List (List ℕ)). Say load ls d.said) e.lines d.each) (let few = d.few in let kept = ap length d.kept in omega (arith, few, kept)) e.fault

-- ---- line by line

record FirstFault (lines : List (List ℕ)) : Type 0 where
  before : List (List ℕ)
  line : List ℕ
  after : List (List ℕ)
  kind : NtKind
  parts : lines ≡ before ++ line ∷ after
  read : (load : ℕ) → IsRead load before
  fault : IsFault before line kind

none_more : (said : List (Option Triple)) → distinct_triples (said ++ None ∷ []) ≡ distinct_triples said
none_more said = ap distinct (filter_map-append (λ t. t) said (None ∷ []) ∙ append-nil (filter_map (λ t. t) said))

abbrev Decided : ℕ → List (List ℕ) → Type 0
Decided load lines = IsRead load lines ⊎ FirstFault lines

decide : (load : ℕ) (rest done : List (List ℕ)) (said : List (Option Triple)) → Say load done said → length (distinct_triples said) ≤ triple_limit → Decided load (done ++ rest)
decide load [] done said each few = inl (subst (IsRead load) (sym (append-nil done)) (record { said = said; each = each; few = few }))
decide load (line ∷ rest) done said each few = by (said_at load line) refl (λ s one small. decide load rest (done ++ line ∷ []) (said ++ s ∷ []) (say_push load done said line s each one) small)
  where
    here : Decided load ((done ++ line ∷ []) ++ rest) → Decided load (done ++ line ∷ rest)
    here d = subst (Decided load) (append_assoc done (line ∷ []) rest) d

    read : (other : ℕ) → IsRead other done
    read other = is_read_moved other load done (record { said = said; each = each; few = few })

    many : (t : Triple) (v : Bool) → nat_lt triple_limit (length (distinct_triples (said ++ Some t ∷ []))) ≡ v → Good load line (Some t) → ((s : Option Triple) → Good load line s → length (distinct_triples (said ++ s ∷ [])) ≤ triple_limit → Decided load ((done ++ line ∷ []) ++ rest)) → Decided load (done ++ line ∷ rest)
    many t true p one go = inr (record {
      before = done;
      line = line;
      after = rest;
      kind = TooMany;
      parts = refl;
      read = read;
      fault = inr (refl, λ other. passes_moved other load done line (record { said = said; triple = t; each = each; last = one; many = ltb-true triple_limit (length (distinct_triples (said ++ Some t ∷ []))) p }));
    })
    many t false p one go = here (go (Some t) one (ltb-false triple_limit (length (distinct_triples (said ++ Some t ∷ []))) p))

    by : (r : Result (Option Triple) NtKind) → said_at load line ≡ r → ((s : Option Triple) → Good load line s → length (distinct_triples (said ++ s ∷ [])) ≤ triple_limit → Decided load ((done ++ line ∷ []) ++ rest)) → Decided load (done ++ line ∷ rest)
    by (Ok None) e go = here (go None (read_good load line None e) (omega (arith, few, ap length (none_more said))))
    by (Ok (Some t)) e go = many t (nat_lt triple_limit (length (distinct_triples (said ++ Some t ∷ [])))) refl (read_good load line (Some t) e) go
    by (Err kind) e go = inr (record { before = done; line = line; after = rest; kind = kind; parts = refl; read = read; fault = inl (read_bad load line kind e) })

pub is_either : IsEither
is_either text load = by (decide load (document_lines text) [] [] tt (omega arith))
  where
    by : Decided load (document_lines text) → ((triples : List Triple) × Document text load triples) ⊎ ((number : ℕ) × (kind : NtKind) × DocumentFault text number kind)
    by (inl r) = inl (distinct_triples r.said, record { said = r.said; each = r.each; kept = refl; few = r.few })
    by (inr f) = inr (length f.before + 1, f.kind, record { before = f.before; line = f.line; after = f.after; lines = f.parts; read = f.read; fault = f.fault; counted = refl })

-- number lines are read, with these triples, and rest is what follows them
pub record ReadSoFar (text rest : List ℕ) (load number : ℕ) (triples : List Triple) : Type 0 where
  pub done : List (List ℕ)
  pub said : List (Option Triple)
  pub lines : document_lines text ≡ done ++ document_lines rest
  pub each : Say load done said
  pub counted : length done ≡ number
  pub within : number + length rest ≤ length text
  pub kept : triples ≡ distinct_triples said
  pub few : length triples ≤ triple_limit

pub read_start : (text : List ℕ) (load : ℕ) (triples : List Triple) → triples ≡ [] → ReadSoFar text text load 0 triples
read_start text load triples none = record { done = []; said = []; lines = refl; each = tt; counted = refl; within = omega arith; kept = none; few = omega (arith, ap length none) }

-- the triples after one more line
abbrev pub with_said : List Triple → Option Triple → List Triple
with_said triples None = triples
with_said triples (Some t) = cond (list_any (same_triple t) triples) triples (triples ++ t ∷ [])

distinct_said : (said : List (Option Triple)) (s : Option Triple) → with_said (distinct_triples said) s ≡ distinct_triples (said ++ s ∷ [])
distinct_said said None = sym (none_more said)
distinct_said said (Some t) = sym (distinct-push (filter_map (λ t. t) said) t) ∙ ap distinct (sym (filter_map-append (λ t. t) said (Some t ∷ [])))

pub read_more : (text rest : List ℕ) (load number : ℕ) (triples : List Triple) (line following : List ℕ) (s : Option Triple) (next : List Triple) → ReadSoFar text rest load number triples → document_lines rest ≡ line ∷ document_lines following → length following < length rest → said_at load line ≡ Ok s → next ≡ with_said triples s → length next ≤ triple_limit → ReadSoFar text following load (number + 1) next
read_more text rest load number triples line following s next r is shorter one same few = record {
  done = r.done ++ line ∷ [];
  said = r.said ++ s ∷ [];
  lines = r.lines ∙ ap (λ (ls : List (List ℕ)). r.done ++ ls) is ∙ sym (append_assoc r.done (line ∷ []) (document_lines following));
  each = say_push load r.done r.said line s r.each (read_good load line s one);
  counted = let count = r.counted in omega (arith, length-append r.done (line ∷ []), count);
  within = let bound = r.within in omega (arith, bound, shorter);
  kept = same ∙ ap (λ (ts : List Triple). with_said ts s) r.kept ∙ distinct_said r.said s;
  few = few;
}

pub read_all : (text rest : List ℕ) (load number : ℕ) (triples items : List Triple) → ReadSoFar text rest load number triples → length rest ≡ 0 → items ≡ triples → Document text load items
read_all text rest load number triples items r none same =
    let done : document_lines text ≡ r.done = r.lines ∙ ap (λ (bytes : List ℕ). r.done ++ document_lines bytes) (nil_from_length rest none) ∙ append-nil r.done in
    record {
      said = r.said;
      each = subst (λ (ls : List (List ℕ)). Say load ls r.said) (sym done) r.each;
      kept = same ∙ r.kept;
      few = let few = r.few in omega (arith, few, ap length same);
    }

so_far : (text rest : List ℕ) (load number : ℕ) (triples : List Triple) → (r : ReadSoFar text rest load number triples) → (other : ℕ) → IsRead other r.done
so_far text rest load number triples r other =
    is_read_moved other load r.done (record { said = r.said; each = r.each; few = let few = r.few in omega (arith, few, ap length r.kept) })

pub read_refused : (text rest : List ℕ) (load number : ℕ) (triples : List Triple) (line following : List ℕ) → ReadSoFar text rest load number triples → document_lines rest ≡ line ∷ document_lines following → (refusal : NtRefusal) → RefusesLine load (number + 1) line refusal → Refuses text refusal
read_refused text rest load number triples line following r is (Refused error) refused = record {
  before = r.done;
  line = line;
  after = document_lines following;
  lines = r.lines ∙ ap (λ (ls : List (List ℕ)). r.done ++ ls) is;
  read = λ other. so_far text rest load number triples r other;
  fault = inl (read_bad load line error.kind refused.1);
  counted = let count = r.counted in let same = refused.0 in omega (arith, count, same);
}
read_refused text rest load number triples line following r is Memory refused = tt

pub read_too_many : (text rest : List ℕ) (load number : ℕ) (triples : List Triple) (line following : List ℕ) (t : Triple) (next : List Triple) → ReadSoFar text rest load number triples → document_lines rest ≡ line ∷ document_lines following → said_at load line ≡ Ok (Some t) → next ≡ with_said triples (Some t) → triple_limit < length next → DocumentFault text (number + 1) TooMany
read_too_many text rest load number triples line following t next r is one same many =
    let grown : next ≡ distinct_triples (r.said ++ Some t ∷ []) = same ∙ ap (λ (ts : List Triple). with_said ts (Some t)) r.kept ∙ distinct_said r.said (Some t) in
    record {
      before = r.done;
      line = line;
      after = document_lines following;
      lines = r.lines ∙ ap (λ (ls : List (List ℕ)). r.done ++ ls) is;
      read = λ other. so_far text rest load number triples r other;
      fault = inr (refl, λ other. passes_moved other load r.done line (record { said = r.said; triple = t; each = r.each; last = read_good load line (Some t) one; many = omega (arith, many, ap length grown) }));
      counted = let count = r.counted in omega (arith, count);
    }
