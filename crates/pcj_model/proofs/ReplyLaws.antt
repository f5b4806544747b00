-- What a reply leaves, read from its lines.
use Rattle.std.proofs.Common.{◌≡◌, ℕ, Bool, true, false, List, [], ◌∷◌, ◌++◌, length, map, Option, Some, None, refl, ap, sym, subst, ◌∙◌, inl, inr}
use Rattle.std.specs.Prelude.{not, ◌&&◌}
use Rattle.std.proofs.lemmas.Bool.{and_parts}
use Rattle.pcj_term.specs.declared.triple.Triple.{Triple}
use Rattle.pcj_algebra.specs.declared.query.Query.{Query}
use Rattle.pcj_ntriples.specs.Document.{Document}
use Rattle.pcj_ntriples.proofs.Laws.{says_one_thing}
use Rattle.pcj_script.specs.declared.command.Crashed.{Crashed}
use Rattle.pcj_script.specs.declared.command.Crashed.TheVariants as whose
use Rattle.pcj_script.specs.Commands.{Command}
use Rattle.pcj_script.specs.Commands.Command.{Load, Register, StepClient, Crash, Status as AsksStatus, Answers, Scan}
use Rattle.pcj_model.specs.Job.{Job, StepsEnd, steps_lines, job_after}
use Rattle.pcj_model.specs.Job.Content.{Load as Loads, Registration as Registers}
use Rattle.pcj_model.specs.Job.StepsEnd.{AllMade, IsDone, IsAborted, IsTaken, Fails}
use Rattle.pcj_model.specs.Line.{Line}
use Rattle.pcj_model.specs.Line.Event.{Loaded, Registered, Steps}
use Rattle.pcj_model.specs.Line.Line.{Client, Status, Row, Rows, NoQuery, ScanRefused}
use Rattle.pcj_model.specs.State.{State, with_jobs, all_beside, opened, with_status, stepped}
use Rattle.pcj_model.specs.Reply.{Language, Reply, answer_lines, crash_line}
use Rattle.pcj_model.specs.Laws.{RepliesTell}
use Rattle.pcj_model.proofs.StepLaws.{commit_in, end_in, count_in, commit_told, end_told, count_told}

-- ---- load

abbrev opened_in : List Line → Option ℕ
opened_in (Client client (Loaded number triples) ∷ lines) = Some number
opened_in lines = None

abbrev LoadLeaves : State → ℕ → List ℕ → Option ℕ → State → Type 0
LoadLeaves old client text None new = new ≡ old
LoadLeaves old client text (Some number) new = (triples : List Triple) × Document text number triples × (new ≡ opened old client number (Loads triples))

load_leaves : (language : Language) (old : State) (client : ℕ) (text : List ℕ) (lines : List Line) (new : State) → Reply language old (Load client text) lines new → LoadLeaves old client text (opened_in lines) new
load_leaves language old client text lines new (inl a) = subst (λ ls. LoadLeaves old client text (opened_in ls) new) (sym a.told) a.same
load_leaves language old client text lines new (inr (inl a)) = subst (λ ls. LoadLeaves old client text (opened_in ls) new) (sym a.told) a.same
load_leaves language old client text lines new (inr (inr (inl a))) = subst (λ ls. LoadLeaves old client text (opened_in ls) new) (sym a.told) (a.triples, a.document, a.opened)
load_leaves language old client text lines new (inr (inr (inr a))) = subst (λ ls. LoadLeaves old client text (opened_in ls) new) (sym a.told) a.same

one_load : (old : State) (client : ℕ) (text : List ℕ) (opened : Option ℕ) (new other : State) → LoadLeaves old client text opened new → LoadLeaves old client text opened other → new ≡ other
one_load old client text None new other a b = a ∙ sym b
one_load old client text (Some number) new other a b = a.2 ∙ ap (λ ts. opened old client number (Loads ts)) (says_one_thing text number a.0 b.0 a.1 b.1) ∙ sym b.2

-- ---- register

abbrev register_left : State → ℕ → List ℕ → Query → List Line → State
register_left old client name query (Client other (Registered number named) ∷ lines) = opened old client number (Registers name query)
register_left old client name query lines = old

register_leaves : (language : Language) (old : State) (client : ℕ) (name text : List ℕ) (lines : List Line) (new : State) → Reply language old (Register client name text) lines new →
    new ≡ register_left old client name (language.query_of text) lines
register_leaves language old client name text lines new (inl a) = a.same ∙ ap (register_left old client name (language.query_of text)) (sym a.told)
register_leaves language old client name text lines new (inr (inl a)) = a.same ∙ ap (register_left old client name (language.query_of text)) (sym a.told)
register_leaves language old client name text lines new (inr (inr (inl a))) = a.opened ∙ ap (register_left old client name (language.query_of text)) (sym a.told)
register_leaves language old client name text lines new (inr (inr (inr a))) = a.same ∙ ap (register_left old client name (language.query_of text)) (sym a.told)

-- ---- step

abbrev step_left : State → ℕ → Option Job → List Line → State
step_left old client None lines = old
step_left old client (Some job) lines =
    stepped old client job (commit_in lines) (job_after job (commit_in lines) (end_in lines) (count_in lines)) (count_in lines)

step_leaves : (language : Language) (old : State) (client most : ℕ) (lines : List Line) (new : State) → Reply language old (StepClient client most) lines new → new ≡ step_left old client (old.jobs client) lines
step_leaves language old client most lines new (inl a) = a.same ∙ ap (λ job. step_left old client job lines) (sym a.free)
step_leaves language old client most lines new (inr a) =
    let commit : commit_in lines ≡ a.commit = ap commit_in a.steps.told ∙ commit_told client a.commit a.steps.end a.steps.count in
    let end : end_in lines ≡ a.steps.end = ap end_in a.steps.told ∙ end_told client a.commit a.steps.end a.steps.count in
    let count : count_in lines ≡ a.steps.count = ap count_in a.steps.told ∙ count_told client a.commit a.steps.end a.steps.count in
    a.left
    ∙ ap (λ after. stepped old client a.job a.commit after a.steps.count) a.steps.left
    ∙ ap (λ c. stepped old client a.job c (job_after a.job c a.steps.end a.steps.count) a.steps.count) (sym commit)
    ∙ ap (λ e. stepped old client a.job (commit_in lines) (job_after a.job (commit_in lines) e a.steps.count) a.steps.count) (sym end)
    ∙ ap (λ k. stepped old client a.job (commit_in lines) (job_after a.job (commit_in lines) (end_in lines) k) k) (sym count)
    ∙ ap (λ job. step_left old client job lines) (sym a.has)

-- ---- status, answers and scan

abbrev status_left : State → List Line → State
status_left old (Status notifications locks ∷ lines) = with_status old notifications locks
status_left old lines = old

abbrev answers_left : State → List Line → State
answers_left old (NoQuery name ∷ lines) = old
answers_left old lines = with_jobs old (all_beside [] [] old.jobs)

answered_left : (old : State) (rows : List (List ℕ)) → answers_left old (answer_lines rows) ≡ with_jobs old (all_beside [] [] old.jobs)
answered_left old [] = refl
answered_left old (row ∷ rows) = refl

answers_leave : (language : Language) (old : State) (name : List ℕ) (lines : List Line) (new : State) → Reply language old (Answers name) lines new → new ≡ answers_left old lines
answers_leave language old name lines new (inl a) = a.same ∙ ap (answers_left old) (sym a.told)
answers_leave language old name lines new (inr (inl a)) = a.met ∙ sym (answered_left old (language.rows a.registration.query old.triples)) ∙ ap (answers_left old) (sym a.told)
answers_leave language old name lines new (inr (inr a)) = a.met ∙ ap (answers_left old) (sym a.told)

abbrev scan_left : State → List Line → State
scan_left old (ScanRefused place kind ∷ lines) = old
scan_left old lines = with_jobs old (all_beside [] [] old.jobs)

scanned_left : (old : State) (rows : List (List ℕ)) → scan_left old (answer_lines rows) ≡ with_jobs old (all_beside [] [] old.jobs)
scanned_left old [] = refl
scanned_left old (row ∷ rows) = refl

scan_leaves : (language : Language) (old : State) (text : List ℕ) (lines : List Line) (new : State) → Reply language old (Scan text) lines new → new ≡ scan_left old lines
scan_leaves language old text lines new (inl a) = a.same ∙ ap (scan_left old) (sym a.told)
scan_leaves language old text lines new (inr (inl a)) = a.met ∙ sym (scanned_left old (language.rows (language.query_of text) old.triples)) ∙ ap (scan_left old) (sym a.told)
scan_leaves language old text lines new (inr (inr a)) = a.met ∙ ap (scan_left old) (sym a.told)

status_leaves : (language : Language) (old : State) (lines : List Line) (new : State) → Reply language old AsksStatus lines new → new ≡ status_left old lines
status_leaves language old lines new (inl a) = a.known ∙ ap (status_left old) (sym a.told)
status_leaves language old lines new (inr a) = a.same ∙ ap (status_left old) (sym a.told)

-- ---- any command

pub replies_tell : RepliesTell
replies_tell language old (Load client text) lines new other a b =
    one_load old client text (opened_in lines) new other (load_leaves language old client text lines new a) (load_leaves language old client text lines other b)
replies_tell language old (Register client name text) lines new other a b =
    register_leaves language old client name text lines new a ∙ sym (register_leaves language old client name text lines other b)
replies_tell language old (StepClient client most) lines new other a b = step_leaves language old client most lines new a ∙ sym (step_leaves language old client most lines other b)
replies_tell language old (Crash crashed) lines new other a b = a.left ∙ sym b.left
replies_tell language old AsksStatus lines new other a b = status_leaves language old lines new a ∙ sym (status_leaves language old lines other b)
replies_tell language old (Answers name) lines new other a b = answers_leave language old name lines new a ∙ sym (answers_leave language old name lines other b)
replies_tell language old (Scan text) lines new other a b = scan_leaves language old text lines new a ∙ sym (scan_leaves language old text lines other b)

-- ---- where a reply ends

abbrev pub closes : Command → Line → Bool
closes (StepClient client most) (Client other (Steps count)) = true
closes (StepClient client most) line = false
closes (Answers name) (Row row) = false
closes (Scan text) (Row row) = false
closes command line = true

-- the last of the lines, and no other one, passes the test
abbrev pub ends_first : (Line → Bool) → List Line → Bool
ends_first test [] = false
ends_first test (line ∷ []) = test line
ends_first test (line ∷ next ∷ lines) = not (test line) && ends_first test (next ∷ lines)

steps_end : (client most : ℕ) (commit : Option ℕ) (end : StepsEnd) (count : ℕ) → ends_first (closes (StepClient client most)) (steps_lines client commit end count) ≡ true
steps_end client most None AllMade count = refl
steps_end client most None IsDone count = refl
steps_end client most None IsAborted count = refl
steps_end client most None IsTaken count = refl
steps_end client most None Fails count = refl
steps_end client most (Some commit) AllMade count = refl
steps_end client most (Some commit) IsDone count = refl
steps_end client most (Some commit) IsAborted count = refl
steps_end client most (Some commit) IsTaken count = refl
steps_end client most (Some commit) Fails count = refl

rows_end : (name : List ℕ) (rows : List (List ℕ)) (count : ℕ) → ends_first (closes (Answers name)) (map Row rows ++ Rows count ∷ []) ≡ true
rows_end name [] count = refl
rows_end name (row ∷ []) count = refl
rows_end name (row ∷ next ∷ rows) count = rows_end name (next ∷ rows) count

scan_rows_end : (text : List ℕ) (rows : List (List ℕ)) (count : ℕ) → ends_first (closes (Scan text)) (map Row rows ++ Rows count ∷ []) ≡ true
scan_rows_end text [] count = refl
scan_rows_end text (row ∷ []) count = refl
scan_rows_end text (row ∷ next ∷ rows) count = scan_rows_end text (next ∷ rows) count

crash_ends : (crashed : Crashed) → ends_first (closes (Crash crashed)) (crash_line crashed ∷ []) ≡ true
crash_ends (whose.Client client) = refl
crash_ends whose.All = refl
crash_ends whose.Oracle = refl

abbrev Ends : Command → List Line → Type 0
Ends command lines = ends_first (closes command) lines ≡ true

pub replies_end : (language : Language) (old : State) (command : Command) (lines : List Line) (new : State) → Reply language old command lines new → ends_first (closes command) lines ≡ true
replies_end language old (Load client text) lines new (inl a) = subst (Ends (Load client text)) (sym a.told) refl
replies_end language old (Load client text) lines new (inr (inl a)) = subst (Ends (Load client text)) (sym a.told) refl
replies_end language old (Load client text) lines new (inr (inr (inl a))) = subst (Ends (Load client text)) (sym a.told) refl
replies_end language old (Load client text) lines new (inr (inr (inr a))) = subst (Ends (Load client text)) (sym a.told) refl
replies_end language old (Register client name text) lines new (inl a) = subst (Ends (Register client name text)) (sym a.told) refl
replies_end language old (Register client name text) lines new (inr (inl a)) = subst (Ends (Register client name text)) (sym a.told) refl
replies_end language old (Register client name text) lines new (inr (inr (inl a))) = subst (Ends (Register client name text)) (sym a.told) refl
replies_end language old (Register client name text) lines new (inr (inr (inr a))) = subst (Ends (Register client name text)) (sym a.told) refl
replies_end language old (StepClient client most) lines new (inl a) = subst (Ends (StepClient client most)) (sym a.told) refl
replies_end language old (StepClient client most) lines new (inr a) = subst (Ends (StepClient client most)) (sym a.steps.told) (steps_end client most a.commit a.steps.end a.steps.count)
replies_end language old (Crash crashed) lines new a = subst (Ends (Crash crashed)) (sym a.told) (crash_ends crashed)
replies_end language old AsksStatus lines new (inl a) = subst (Ends AsksStatus) (sym a.told) refl
replies_end language old AsksStatus lines new (inr a) = subst (Ends AsksStatus) (sym a.told) refl
replies_end language old (Answers name) lines new (inl a) = subst (Ends (Answers name)) (sym a.told) refl
replies_end language old (Answers name) lines new (inr (inl a)) =
    let rows = language.rows a.registration.query old.triples in
    subst (Ends (Answers name)) (sym a.told) (rows_end name rows (length rows))
replies_end language old (Answers name) lines new (inr (inr a)) = subst (Ends (Answers name)) (sym a.told) refl
replies_end language old (Scan text) lines new (inl a) = subst (Ends (Scan text)) (sym a.told) refl
replies_end language old (Scan text) lines new (inr (inl a)) =
    let rows = language.rows (language.query_of text) old.triples in
    subst (Ends (Scan text)) (sym a.told) (scan_rows_end text rows (length rows))
replies_end language old (Scan text) lines new (inr (inr a)) = subst (Ends (Scan text)) (sym a.told) refl

no_more : (test : Line → Bool) (line next : Line) (lines : List Line) → line ≡ next → test line ≡ true → (not (test next) && ends_first test lines) ≡ true → ⊥
no_more test line next lines e ends more =
    let other : not (test next) ≡ true = (and_parts _ _ more).0 in
    let passes : test next ≡ true = ap test (sym e) ∙ ends in
    let bad : not true ≡ true = ap not (sym passes) ∙ other in
    cc

-- two lists that end where the test first passes are one, where they are fronts of one list
pub one_front : (test : Line → Bool) (lines others rest more : List Line) → ends_first test lines ≡ true → ends_first test others ≡ true → lines ++ rest ≡ others ++ more → (lines ≡ others) × (rest ≡ more)
one_front test [] others rest more a b e = absurd cc
one_front test (line ∷ []) [] rest more a b e = absurd cc
one_front test (line ∷ next ∷ lines) [] rest more a b e = absurd cc
one_front test (line ∷ []) (other ∷ []) rest more a b e =
    let heads : line ≡ other = cc in
    let tails : rest ≡ more = cc in
    (ap (λ l. l ∷ []) heads, tails)
one_front test (line ∷ []) (other ∷ after ∷ others) rest more a b e =
    let heads : line ≡ other = cc in
    absurd (no_more test line other (after ∷ others) heads a b)
one_front test (line ∷ next ∷ lines) (other ∷ []) rest more a b e =
    let heads : other ≡ line = cc in
    absurd (no_more test other line (next ∷ lines) heads b a)
one_front test (line ∷ next ∷ lines) (other ∷ after ∷ others) rest more a b e =
    let heads : line ≡ other = cc in
    let tails : next ∷ lines ++ rest ≡ after ∷ others ++ more = cc in
    let same = one_front test (next ∷ lines) (after ∷ others) rest more (and_parts _ _ a).1 (and_parts _ _ b).1 tails in
    (ap (λ ls. line ∷ ls) same.0 ∙ ap (λ l. l ∷ after ∷ others) heads, same.1)
