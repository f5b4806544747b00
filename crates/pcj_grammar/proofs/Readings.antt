-- Each text is read in one way.
use Rattle.std.proofs.Common.{◌≡◌, ℕ, suc, zero, ◌+◌, ◌-◌, ◌<◌, ◌≤◌, Bool, true, false, not, List, [], ◌∷◌, ◌++◌, length, drop, Option, Some, None, refl, ap, sym, subst, ◌∙◌, inl, inr, ◌⊎◌, arith, append-nil, append_assoc}
use Rattle.std.specs.Str.{IsUtf8}
use Rattle.std.specs.Option.{option_and_then}
use Rattle.std.proofs.lemmas.Bool.{both_ways, and_parts, and_from, not-true}
use Rattle.std.proofs.lemmas.Option.{same_Some}
use Rattle.pcj_lex.specs.declared.token.TokenKind.{TokenKind}
use Rattle.pcj_lex.specs.declared.token.TokenKind.TheVariants.{Word}
use Rattle.pcj_lex.specs.Token.{IsNext, IsLast, IsNoToken, ReadsOn}
use Rattle.pcj_lex.proofs.Places.{says_one, one_fault, not_both, not_after_all, either, reads_on}
use Rattle.pcj_grammar.specs.declared.fault.Fault.{Fault}
use Rattle.pcj_grammar.specs.declared.fault.FaultKind.TheVariants as faults
use Rattle.pcj_grammar.specs.declared.lexeme.Lexeme.{Lexeme}
use Rattle.pcj_grammar.specs.declared.terminal.Terminal.{Terminal}
use Rattle.pcj_grammar.specs.Grammar.{name, Derives, by}
use Rattle.pcj_grammar.specs.Grammar as g
use Rattle.pcj_grammar.specs.Terminal.{terminal_of, fault_of}
use Rattle.pcj_grammar.specs.Reading.{Expected, advance, run, start, is_whole}
use Rattle.pcj_grammar.specs.Text.{IsLexeme, Tokens, deeper, depth_after, is_too_deep, stays_within, BeginsQuery, Ends, Reads, HasOneReading, IsRead}
use Rattle.pcj_grammar.proofs.Runs.{run_sound, run_complete, is_ended, ended, completion}

-- ---- queries and runs

-- a run that goes through begins a query
pub run_begins : (ls : List Lexeme) (e : Expected) → run start ls ≡ Some e → BeginsQuery ls
run_begins ls e is_run =
    let rest = completion e in
    (rest.0, by (run_sound ls start e rest.0 is_run rest.1))

unfold_query : (x : List Lexeme) → Derives (name g.Query) x [] → Derives (g.production g.Query) x []
unfold_query x (by d) = d

pub begins_run : (ls : List Lexeme) → BeginsQuery ls → (e : Expected) × (run start ls ≡ Some e)
begins_run ls b =
    let reach = run_complete ls start b.0 (unfold_query (ls ++ b.0) b.1) in
    (reach.0, reach.1)

-- a query's run ends in a whole one, and so does no other
pub whole_query : (ls : List Lexeme) (e : Expected) → run start ls ≡ Some e → is_whole e ≡ true → Derives (name g.Query) ls []
whole_query ls e is_run whole = by (subst (λ (x : List Lexeme). Derives (g.production g.Query) x []) (append-nil ls) (run_sound ls start e [] is_run (ended e whole)))

pub query_whole : (ls : List Lexeme) (e : Expected) → run start ls ≡ Some e → Derives (name g.Query) ls [] → is_whole e ≡ true
query_whole ls e is_run d =
    let reach = run_complete ls start [] (subst (λ (x : List Lexeme). Derives (g.production g.Query) x []) (sym (append-nil ls)) (unfold_query ls d)) in
    let same = same_Some reach.0 e (sym reach.1 ∙ is_run) in
    ap is_whole (sym same) ∙ is_ended reach.0 reach.2

-- ---- one token more

run_more : (ls : List Lexeme) (first e : Expected) (l : Lexeme) → run first ls ≡ Some e → run first (ls ++ l ∷ []) ≡ option_and_then (λ next. Some next) (advance e l.terminal)
unfolding run
run_more [] first e l is_run = ap (λ (h : Expected). option_and_then (λ next. Some next) (advance h l.terminal)) (same_Some first e is_run)
run_more (k ∷ ls) first e l is_run = by_first (advance first k.terminal) is_run (λ next step. run_more ls next e l step)
  where
    by_first : (o : Option Expected) → option_and_then (λ next. run next ls) o ≡ Some e → ((next : Expected) → run next ls ≡ Some e → run next (ls ++ l ∷ []) ≡ option_and_then (λ n. Some n) (advance e l.terminal)) → option_and_then (λ next. run next (ls ++ l ∷ [])) o ≡ option_and_then (λ n. Some n) (advance e l.terminal)
    by_first None same later = absurd cc
    by_first (Some next) same later = later next same

some_itself : (o : Option Expected) → option_and_then (λ next. Some next) o ≡ o
some_itself None = refl
some_itself (Some e) = refl

pub run_takes : (ls : List Lexeme) (e : Expected) (l : Lexeme) → run start ls ≡ Some e → run start (ls ++ l ∷ []) ≡ advance e l.terminal
run_takes ls e l is_run = run_more ls start e l is_run ∙ some_itself (advance e l.terminal)

pub tokens_more : (text : List ℕ) (from to : ℕ) (ls : List Lexeme) (l : Lexeme) → Tokens text from ls to → IsLexeme text to l → Tokens text from (ls ++ l ∷ []) l.end
tokens_more text from to [] l same next = (subst (λ (n : ℕ). IsLexeme text n l) (sym same) next, refl)
tokens_more text from to (k ∷ ls) l (first, rest) next = (first, tokens_more text k.end to ls l rest next)

pub depth_more : (depth : ℕ) (ls : List Lexeme) (l : Lexeme) → depth_after depth (ls ++ l ∷ []) ≡ deeper (depth_after depth ls) l.terminal
depth_more depth [] l = refl
depth_more depth (k ∷ ls) l = depth_more (deeper depth k.terminal) ls l

pub within_more : (depth : ℕ) (ls : List Lexeme) (l : Lexeme) → stays_within depth ls ≡ true → is_too_deep (depth_after depth ls) l.terminal ≡ false → stays_within depth (ls ++ l ∷ []) ≡ true
within_more depth [] l before now = and_from _ _ (ap not now) refl
within_more depth (k ∷ ls) l before now =
    let parts = and_parts (not (is_too_deep depth k.terminal)) (stays_within (deeper depth k.terminal) ls) before in
    and_from _ _ parts.0 (within_more (deeper depth k.terminal) ls l parts.1 now)

-- ---- one reading

lexeme_same : (text : List ℕ) (from : ℕ) (l k : Lexeme) → IsLexeme text from l → IsLexeme text from k → l ≡ k
lexeme_same text from l k a b =
    let same = says_one text from a.kind b.kind l.at k.at a.source b.source a.next b.next in
    let terminals : l.terminal ≡ k.terminal = a.terminal ∙ ap (λ (d : TokenKind). terminal_of d a.source) same.0 ∙ ap (terminal_of b.kind) same.2 ∙ sym b.terminal in
    let ends : l.end ≡ k.end = a.behind ∙ ap (λ (n : ℕ). n + length a.source) same.1 ∙ ap (λ (s : List ℕ). k.at + length s) same.2 ∙ sym b.behind in
    ap (λ (d : Terminal). record { terminal = d; at = l.at; end = l.end }) terminals
    ∙ ap (λ (n : ℕ). record { terminal = k.terminal; at = n; end = l.end }) same.1
    ∙ ap (λ (n : ℕ). record { terminal = k.terminal; at = k.at; end = n }) ends

-- a shorter front of what begins a query begins it too
begins_less : (ls more : List Lexeme) → BeginsQuery (ls ++ more) → BeginsQuery ls
begins_less ls more b = (more ++ b.0, subst (λ (x : List Lexeme). Derives (name g.Query) x []) (append_assoc ls more b.0) b.1)

-- where one reading ends, no other goes on
within_at : (depth : ℕ) (front : List Lexeme) (l : Lexeme) (rest : List Lexeme) → stays_within depth (front ++ l ∷ rest) ≡ true → is_too_deep (depth_after depth front) l.terminal ≡ false
within_at depth [] l rest w = not-true _ (and_parts (not (is_too_deep depth l.terminal)) (stays_within (deeper depth l.terminal) rest) w).0
within_at depth (k ∷ front) l rest w = within_at (deeper depth k.terminal) front l rest (and_parts (not (is_too_deep depth k.terminal)) (stays_within (deeper depth k.terminal) (front ++ l ∷ rest)) w).1

goes_no_further : (text : List ℕ) (front : List Lexeme) (to : ℕ) (o : Option Fault) (l : Lexeme) (rest : List Lexeme) → Ends text front to o → IsLexeme text to l → BeginsQuery (front ++ l ∷ rest) → stays_within 0 (front ++ l ∷ rest) ≡ true → ⊥
goes_no_further text front to None l rest (last, d) a b w = (not_after_all text to l.at a.kind a.source last).0 a.next
goes_no_further text front to (Some fault) l rest (inl deep) a b w =
    let same = lexeme_same text to deep.found l deep.next a in
    let here : is_too_deep (depth_after 0 front) l.terminal ≡ true = subst (λ (k : Lexeme). is_too_deep (depth_after 0 front) k.terminal ≡ true) same deep.deep in
    both_ways _ (within_at 0 front l rest w) here
goes_no_further text front to (Some fault) l rest (inr (inl odd)) a b w =
    let same = lexeme_same text to odd.found l odd.next a in
    let shorter : BeginsQuery (front ++ l ∷ []) = begins_less (front ++ l ∷ []) rest (subst BeginsQuery (sym (append_assoc front (l ∷ []) rest)) b) in
    odd.apart (subst (λ (k : Lexeme). BeginsQuery (front ++ k ∷ [])) (sym same) shorter)
goes_no_further text front to (Some fault) l rest (inr (inr (inl unread))) a b w = not_both text to l.at unread.at a.kind a.source a.next unread.none
goes_no_further text front to (Some fault) l rest (inr (inr (inr short))) a b w = (not_after_all text to l.at a.kind a.source short.last).0 a.next

-- what follows a place is a token, the end or nothing that is a token, and one of these alone
token_last : (text : List ℕ) (to : ℕ) (l : Lexeme) → IsLexeme text to l → IsLast text to → ⊥
token_last text to l a last = (not_after_all text to l.at a.kind a.source last).0 a.next

token_unread : (text : List ℕ) (to at : ℕ) (l : Lexeme) → IsLexeme text to l → IsNoToken text to at → ⊥
token_unread text to at l a none = not_both text to l.at at a.kind a.source a.next none

unread_last : (text : List ℕ) (to at : ℕ) → IsNoToken text to at → IsLast text to → ⊥
unread_last text to at none last = (not_after_all text to at Word [] last).1 none

-- two endings at one place are one
query_alone : (text : List ℕ) (ls : List Lexeme) (to : ℕ) (fault : Fault) → IsLast text to → Derives (name g.Query) ls [] → Ends text ls to (Some fault) → ⊥
query_alone text ls to fault last d (inl deep) = token_last text to deep.found deep.next last
query_alone text ls to fault last d (inr (inl odd)) = token_last text to odd.found odd.next last
query_alone text ls to fault last d (inr (inr (inl unread))) = unread_last text to unread.at unread.none last
query_alone text ls to fault last d (inr (inr (inr short))) = short.short d

fault_same : (text : List ℕ) (ls : List Lexeme) (to : ℕ) (f h : Fault) → Ends text ls to (Some f) → Ends text ls to (Some h) → f ≡ h
fault_same text ls to f h (inl a) (inl b) = a.is_fault ∙ ap (λ (k : Lexeme). record { at = k.at; kind = faults.TooDeep }) (lexeme_same text to a.found b.found a.next b.next) ∙ sym b.is_fault
fault_same text ls to f h (inl a) (inr (inl b)) = absurd (b.apart (subst (λ (k : Lexeme). BeginsQuery (ls ++ k ∷ [])) (lexeme_same text to a.found b.found a.next b.next) a.begins))
fault_same text ls to f h (inl a) (inr (inr (inl b))) = absurd (token_unread text to b.at a.found a.next b.none)
fault_same text ls to f h (inl a) (inr (inr (inr b))) = absurd (token_last text to a.found a.next b.last)
fault_same text ls to f h (inr (inl a)) (inl b) = absurd (a.apart (subst (λ (k : Lexeme). BeginsQuery (ls ++ k ∷ [])) (lexeme_same text to b.found a.found b.next a.next) b.begins))
fault_same text ls to f h (inr (inl a)) (inr (inl b)) = a.is_fault ∙ ap (λ (k : Lexeme). record { at = k.at; kind = fault_of k.terminal }) (lexeme_same text to a.found b.found a.next b.next) ∙ sym b.is_fault
fault_same text ls to f h (inr (inl a)) (inr (inr (inl b))) = absurd (token_unread text to b.at a.found a.next b.none)
fault_same text ls to f h (inr (inl a)) (inr (inr (inr b))) = absurd (token_last text to a.found a.next b.last)
fault_same text ls to f h (inr (inr (inl a))) (inl b) = absurd (token_unread text to a.at b.found b.next a.none)
fault_same text ls to f h (inr (inr (inl a))) (inr (inl b)) = absurd (token_unread text to a.at b.found b.next a.none)
fault_same text ls to f h (inr (inr (inl a))) (inr (inr (inl b))) = a.is_fault ∙ ap (λ (n : ℕ). record { at = n; kind = faults.Syntax }) (one_fault text to a.at b.at a.none b.none) ∙ sym b.is_fault
fault_same text ls to f h (inr (inr (inl a))) (inr (inr (inr b))) = absurd (unread_last text to a.at a.none b.last)
fault_same text ls to f h (inr (inr (inr a))) (inl b) = absurd (token_last text to b.found b.next a.last)
fault_same text ls to f h (inr (inr (inr a))) (inr (inl b)) = absurd (token_last text to b.found b.next a.last)
fault_same text ls to f h (inr (inr (inr a))) (inr (inr (inl b))) = absurd (unread_last text to b.at b.none a.last)
fault_same text ls to f h (inr (inr (inr a))) (inr (inr (inr b))) = a.is_fault ∙ sym b.is_fault

ends_same : (text : List ℕ) (ls : List Lexeme) (to : ℕ) (o p : Option Fault) → Ends text ls to o → Ends text ls to p → o ≡ p
ends_same text ls to None None a b = refl
ends_same text ls to None (Some h) (last, d) b = absurd (query_alone text ls to h last d b)
ends_same text ls to (Some f) None a (last, d) = absurd (query_alone text ls to f last d a)
ends_same text ls to (Some f) (Some h) a b = ap (λ (x : Fault). Some x) (fault_same text ls to f h a b)

-- what is known of all of a reading's tokens
abbrev IsReading : List ℕ → List Lexeme → ℕ → Option Fault → Type 0
IsReading text whole to o = BeginsQuery whole × (stays_within 0 whole ≡ true) × Ends text whole to o

read_same : (text : List ℕ) (front ls ms whole other : List Lexeme) (at to end : ℕ) (o p : Option Fault) → front ++ ls ≡ whole → front ++ ms ≡ other → Tokens text at ls to → Tokens text at ms end → IsReading text whole to o → IsReading text other end p → (ls ≡ ms) × (o ≡ p)
read_same text front [] [] whole other at to end o p e f a b r q =
    let here : IsReading text front at o = subst (λ (n : ℕ). IsReading text front n o) (sym a) (subst (λ (x : List Lexeme). IsReading text x to o) (sym e ∙ append-nil front) r) in
    let there : IsReading text front at p = subst (λ (n : ℕ). IsReading text front n p) (sym b) (subst (λ (x : List Lexeme). IsReading text x end p) (sym f ∙ append-nil front) q) in
    (refl, ends_same text front at o p here.2 there.2)
read_same text front [] (m ∷ ms) whole other at to end o p e f a b r q =
    let here : IsReading text front at o = subst (λ (n : ℕ). IsReading text front n o) (sym a) (subst (λ (x : List Lexeme). IsReading text x to o) (sym e ∙ append-nil front) r) in
    let there : IsReading text (front ++ m ∷ ms) end p = subst (λ (x : List Lexeme). IsReading text x end p) (sym f) q in
    absurd (goes_no_further text front at o m ms here.2 b.0 there.0 there.1)
read_same text front (l ∷ ls) [] whole other at to end o p e f a b r q =
    let here : IsReading text (front ++ l ∷ ls) to o = subst (λ (x : List Lexeme). IsReading text x to o) (sym e) r in
    let there : IsReading text front at p = subst (λ (n : ℕ). IsReading text front n p) (sym b) (subst (λ (x : List Lexeme). IsReading text x end p) (sym f ∙ append-nil front) q) in
    absurd (goes_no_further text front at p l ls there.2 a.0 here.0 here.1)
read_same text front (l ∷ ls) (m ∷ ms) whole other at to end o p e f a b r q =
    let same = lexeme_same text at l m a.0 b.0 in
    let later = read_same text (front ++ l ∷ []) ls ms whole other l.end to end o p (append_assoc front (l ∷ []) ls ∙ e)
    (append_assoc front (l ∷ []) ms ∙ ap (λ (k : Lexeme). front ++ k ∷ ms) same ∙ f) a.1 (subst (λ (k : Lexeme). Tokens text k.end ms end) (sym same) b.1) r q in
    (ap (λ (x : List Lexeme). l ∷ x) later.0 ∙ ap (λ (k : Lexeme). k ∷ ms) same, later.1)

pub reads_same : HasOneReading
reads_same text ls ms o p r q = read_same text [] ls ms ls ms 0 r.to q.to o p refl refl r.tokens q.tokens (r.begins, r.within, r.ends) (q.begins, q.within, q.ends)

-- ---- each text is read

abbrev pub HasReading : List ℕ → Type 0
HasReading text = (ls : List Lexeme) × (o : Option Fault) × Reads text ls o

-- the tokens so far
pub record SoFar (text : List ℕ) (from : ℕ) (ls : List Lexeme) (e : Expected) : Type 0 where
  pub tokens : Tokens text 0 ls from
  pub running : run start ls ≡ Some e
  pub within : stays_within 0 ls ≡ true
  pub place : from ≤ length text
  pub readable : IsUtf8 (drop from text)

reading : (text : List ℕ) (from : ℕ) (ls : List Lexeme) (e : Expected) (o : Option Fault) → SoFar text from ls e → Ends text ls from o → Reads text ls o
reading text from ls e o f ends = record { to = from; tokens = f.tokens; begins = run_begins ls e f.running; within = f.within; ends = ends }

pub odd_token : (text : List ℕ) (from : ℕ) (ls : List Lexeme) (e : Expected) (l : Lexeme) → SoFar text from ls e → IsLexeme text from l → advance e l.terminal ≡ None → Reads text ls (Some (record { at = l.at; kind = fault_of l.terminal }))
odd_token text from ls e l f next none =
    reading text from ls e _ f (inr (inl (record {
      found = l;
      next = next;
      apart = λ b. let more = begins_run (ls ++ l ∷ []) b in let took = run_takes ls e l f.running in absurd (apart_options (advance e l.terminal) more.0 none (sym took ∙ more.1));
      is_fault = refl;
    })))
  where
    apart_options : (o : Option Expected) (x : Expected) → o ≡ None → o ≡ Some x → ⊥
    apart_options None x a b = absurd cc
    apart_options (Some y) x a b = absurd cc

pub deep_token : (text : List ℕ) (from : ℕ) (ls : List Lexeme) (e after : Expected) (l : Lexeme) → SoFar text from ls e → IsLexeme text from l → advance e l.terminal ≡ Some after → is_too_deep (depth_after 0 ls) l.terminal ≡ true → Reads text ls (Some (record { at = l.at; kind = faults.TooDeep }))
deep_token text from ls e after l f next some deep =
    reading text from ls e _ f (inl (record { found = l; next = next; begins = run_begins (ls ++ l ∷ []) after (run_takes ls e l f.running ∙ some); deep = deep; is_fault = refl }))

pub unread_there : (text : List ℕ) (from : ℕ) (ls : List Lexeme) (e : Expected) (at : ℕ) → SoFar text from ls e → IsNoToken text from at → Reads text ls (Some (record { at = at; kind = faults.Syntax }))
unread_there text from ls e at f none = reading text from ls e _ f (inr (inr (inl (record { at = at; none = none; is_fault = refl }))))

pub ended_there : (text : List ℕ) (from : ℕ) (ls : List Lexeme) (e : Expected) → SoFar text from ls e → IsLast text from → is_whole e ≡ true → Reads text ls None
ended_there text from ls e f last whole = reading text from ls e None f (last, whole_query ls e f.running whole)

pub too_short : (text : List ℕ) (from : ℕ) (ls : List Lexeme) (e : Expected) → SoFar text from ls e → IsLast text from → is_whole e ≡ false → Reads text ls (Some (record { at = length text; kind = faults.Syntax }))
too_short text from ls e f last open_part =
    reading text from ls e _ f (inr (inr (inr (record { last = last; short = λ d. both_ways _ open_part (query_whole ls e f.running d); is_fault = refl }))))

pub one_more : (text : List ℕ) (from : ℕ) (ls : List Lexeme) (e after : Expected) (l : Lexeme) → SoFar text from ls e → IsLexeme text from l → ReadsOn text from l.end → advance e l.terminal ≡ Some after → is_too_deep (depth_after 0 ls) l.terminal ≡ false → SoFar text l.end (ls ++ l ∷ []) after
one_more text from ls e after l f next behind some shallow = record {
  tokens = tokens_more text 0 from ls l f.tokens next;
  running = run_takes ls e l f.running ∙ some;
  within = within_more 0 ls l f.within shallow;
  place = behind.within;
  readable = behind.readable;
}

abbrev Later : List ℕ → ℕ → Type 0
Later text from = (to : ℕ) (ls : List Lexeme) (e : Expected) → from < to → SoFar text to ls e → HasReading text

read_token : (text : List ℕ) (from : ℕ) (ls : List Lexeme) (e : Expected) (l : Lexeme) (o : Option Expected) → advance e l.terminal ≡ o → SoFar text from ls e → IsLexeme text from l → ReadsOn text from l.end → Later text from → HasReading text
read_token text from ls e l None step f next behind later = (ls, Some (record { at = l.at; kind = fault_of l.terminal }), odd_token text from ls e l f next step)
read_token text from ls e l (Some after) step f next behind later = by_depth (is_too_deep (depth_after 0 ls) l.terminal) refl
  where
    by_depth : (v : Bool) → is_too_deep (depth_after 0 ls) l.terminal ≡ v → HasReading text
    by_depth true deep = (ls, Some (record { at = l.at; kind = faults.TooDeep }), deep_token text from ls e after l f next step deep)
    by_depth false shallow = later l.end (ls ++ l ∷ []) after behind.further (one_more text from ls e after l f next behind step shallow)

read_end : (text : List ℕ) (from : ℕ) (ls : List Lexeme) (e : Expected) (v : Bool) → is_whole e ≡ v → SoFar text from ls e → IsLast text from → HasReading text
read_end text from ls e true whole f last = (ls, None, ended_there text from ls e f last whole)
read_end text from ls e false open_part f last = (ls, Some (record { at = length text; kind = faults.Syntax }), too_short text from ls e f last open_part)

abbrev IsFollowed : List ℕ → ℕ → Type 0
IsFollowed text from = ((kind : TokenKind) × (at : ℕ) × (source : List ℕ) × IsNext text from kind at source) ⊎ (IsLast text from ⊎ ((at : ℕ) × IsNoToken text from at))

read_here : (text : List ℕ) (from : ℕ) (ls : List Lexeme) (e : Expected) → SoFar text from ls e → Later text from → IsFollowed text from → HasReading text
read_here text from ls e f later (inl (kind, at, source, next)) =
    let l : Lexeme = record { terminal = terminal_of kind source; at = at; end = at + length source } in
    read_token text from ls e l (advance e l.terminal) refl f (record { kind = kind; source = source; next = next; terminal = refl; behind = refl }) (reads_on text from kind at source f.place f.readable next) later
read_here text from ls e f later (inr (inl last)) = read_end text from ls e (is_whole e) refl f last
read_here text from ls e f later (inr (inr (at, none))) = (ls, Some (record { at = at; kind = faults.Syntax }), unread_there text from ls e at f none)

read_from : (n : ℕ) (text : List ℕ) (from : ℕ) (ls : List Lexeme) (e : Expected) → length text - from ≤ n → SoFar text from ls e → HasReading text
read_from zero text from ls e few f = read_here text from ls e f (λ to ms h further g. absurd (omega (arith, few, further, g.place))) (either text from)
read_from (suc n) text from ls e few f = read_here text from ls e f (λ to ms h further g. read_from n text to ms h (omega (arith, few, further, g.place)) g) (either text from)

pub before_all : (text : List ℕ) → IsUtf8 text → SoFar text 0 [] start
unfolding run
before_all text is = record { tokens = refl; running = refl; within = refl; place = omega arith; readable = is }

pub is_read : IsRead
is_read text is = read_from (length text) text 0 [] start (omega arith) (before_all text is)
