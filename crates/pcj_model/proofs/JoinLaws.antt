-- Each command changes the triples by one load alone and the queries by one registration, and can be answered.
use Rattle.std.proofs.Common.{◌≡◌, ℕ, ◌+◌, ◌^◌, ◌<◌, ◌≤◌, Bool, true, false, List, [], ◌∷◌, ◌++◌, length, map, Option, Some, None, refl, ap, sym, subst, ◌∙◌, inl, inr, arith}
use Rattle.std.specs.Prelude.{◌⊎◌, not, ◌&&◌, filter, cond, nat_lt, is_some, if◌then◌else◌}
use Rattle.std.specs.List.{list_any, Contains}
use Rattle.std.specs.Cmp.{IsEquivalence}
use Rattle.std.proofs.lemmas.Bool.{and_parts, and_from}
use Rattle.std.proofs.lemmas.List.Elements.{Contains-append_left, Contains-append_right, Contains-append_cases}
use Rattle.std.proofs.lemmas.Map.Views.{list_any-from_Contains, Contains-from_any}
use Rattle.std.proofs.lemmas.Map.Made.{is_member-filter}
use Rattle.pcj_term.specs.declared.triple.Triple.{Triple}
use Rattle.pcj_term.specs.Order.{same_bytes}
use Rattle.pcj_term.specs.Triple.{Joins, same_triple}
use Rattle.pcj_term.proofs.ByteLemmas.{same_bytes_itself, other_bytes}
use Rattle.pcj_term.proofs.Same.{same_triple_true, same_triple_refl}
use Rattle.pcj_ntriples.proofs.Laws.{is_either}
use Rattle.pcj_script.specs.Commands.{Command}
use Rattle.pcj_script.specs.Commands.Command.{Load, Register, StepClient, Crash, Status as AsksStatus, Answers, Scan}
use Rattle.pcj_script.specs.declared.command.Crashed.{Crashed}
use Rattle.pcj_script.specs.declared.command.Crashed.TheVariants as whose
use Rattle.pcj_model.specs.Job.{Content, Job, StepsReply, is_among, is_name_held, triples_of}
use Rattle.pcj_model.specs.Job.Content.{Load as Loads, Registration as Registers}
use Rattle.pcj_model.specs.Job.StepsEnd.{AllMade}
use Rattle.pcj_model.specs.Line.{Line}
use Rattle.pcj_model.specs.Line.Event.{Committed}
use Rattle.pcj_model.specs.Line.Line.{Client, Row, Rows}
use Rattle.pcj_model.specs.Queries.{AreNamedApart, Registration, named, placed}
use Rattle.pcj_model.specs.State.{State, stepped, with_content}
use Rattle.pcj_model.specs.Reply.{Language, Refusal, Reply, crash_line}
use Rattle.pcj_model.specs.Laws.{LoadsJoinWhole, JoinsWhole, QueriesJoin, QueryJoins, NamesStayApart, CanBeAnswered, is_fault}

-- ---- sets of triples

are_one : IsEquivalence same_triple
are_one = record {
  refl = same_triple_refl;
  symm = λ x y. turned x y;
  congr = λ x y z e. ap (λ k. same_triple k z) (same_triple_true x y e);
}
  where
    turned : (x y : Triple) → same_triple x y ≡ same_triple y x
    turned x y = by (same_triple x y) refl (same_triple y x) refl
      where
        by : (a : Bool) → same_triple x y ≡ a → (b : Bool) → same_triple y x ≡ b → same_triple x y ≡ same_triple y x
        by true e b f = subst (λ k. same_triple x k ≡ same_triple k x) (same_triple_true x y e) refl
        by false e true f = subst (λ k. same_triple x k ≡ same_triple k x) (sym (same_triple_true y x f)) refl
        by false e false f = e ∙ sym f

there : (triples : List Triple) (triple : Triple) → is_among triples triple ≡ true → Contains triples triple
there triples triple h = Contains-from_any same_triple_true triple triples h

among : (triples : List Triple) (triple : Triple) → Contains triples triple → is_among triples triple ≡ true
among triples triple h = list_any-from_Contains are_one triple triples h

abbrev without : List Triple → List Triple → List Triple
without known triples = filter (λ triple. not (is_among known triple)) triples

is_among_without : (known triples : List Triple) (triple : Triple) → is_among (without known triples) triple ≡ (is_among triples triple && not (is_among known triple))
is_among_without known triples triple =
    is_member-filter are_one (λ other. not (is_among known other)) triple (λ other e. ap (λ k. not (is_among known k)) (same_triple_true triple other e)) triples

joined : (known triples : List Triple) → Joins known (known ++ without known triples) triples
joined known triples triple = (from, back)
  where
    from : Contains (known ++ without known triples) triple → Contains known triple ⊎ Contains triples triple
    from h = elim (Contains-append_cases known (without known triples) triple h) [
      | inl before ↦ inl before
      | inr new ↦ inr (there triples triple (and_parts _ _ (sym (is_among_without known triples triple) ∙ among (without known triples) triple new)).0)
    ]

    by : (is : Bool) → is_among known triple ≡ is → Contains triples triple → Contains (known ++ without known triples) triple
    by true e h = Contains-append_left known (without known triples) triple (there known triple e)
    by false e h = Contains-append_right known (without known triples) triple
        (there (without known triples) triple (is_among_without known triples triple ∙ and_from _ _ (among triples triple h) (ap not e)))

    back : Contains known triple ⊎ Contains triples triple → Contains (known ++ without known triples) triple
    back (inl before) = Contains-append_left known (without known triples) triple before
    back (inr new) = by (is_among known triple) refl new

-- ---- commits

nothing_more : (triples : List Triple) → triples ++ [] ≡ triples
nothing_more [] = refl
nothing_more (triple ∷ triples) = ap (λ ts. triple ∷ ts) (nothing_more triples)

abbrev of : State → List Triple
of state = state.triples

steps_join : (old : State) (client most : ℕ) (lines : List Line) (new : State) (job : Job) (commit : Option ℕ) (after : Option Job) → old.jobs client ≡ Some job →
    (steps : StepsReply old.queries job client most lines commit after) → new ≡ stepped old client job commit after steps.count → (new.triples ≡ old.triples) ⊎ JoinsWhole old lines new
steps_join old client most lines new job None after has steps left = inl (ap of left ∙ nothing_more old.triples)
steps_join old client most lines new job (Some commit) after has steps left = by job.content refl
  where
    by : (content : Content) → job.content ≡ content → (new.triples ≡ old.triples) ⊎ JoinsWhole old lines new
    by (Loads triples) e =
        let all : new.triples ≡ old.triples ++ without old.triples triples = ap of left ∙ ap (λ content. old.triples ++ without old.triples (triples_of content)) e in
        inr (
          client,
          job,
          commit,
          triples,
          has,
          e,
          subst (λ ls. Contains ls (Client client (Committed commit))) (sym steps.told) (0, omega arith, refl),
          subst (λ ts. Joins old.triples ts triples) (sym all) (joined old.triples triples),
        )
    by (Registers name query) e = inl (ap of left ∙ ap (λ content. old.triples ++ without old.triples (triples_of content)) e ∙ nothing_more old.triples)

pub loads_join_whole : LoadsJoinWhole
loads_join_whole language old (Load client text) lines new (inl a) = inl (ap of a.same)
loads_join_whole language old (Load client text) lines new (inr (inl a)) = inl (ap of a.same)
loads_join_whole language old (Load client text) lines new (inr (inr (inl a))) = inl (ap of a.opened)
loads_join_whole language old (Load client text) lines new (inr (inr (inr a))) = inl (ap of a.same)
loads_join_whole language old (Register client name text) lines new (inl a) = inl (ap of a.same)
loads_join_whole language old (Register client name text) lines new (inr (inl a)) = inl (ap of a.same)
loads_join_whole language old (Register client name text) lines new (inr (inr (inl a))) = inl (ap of a.opened)
loads_join_whole language old (Register client name text) lines new (inr (inr (inr a))) = inl (ap of a.same)
loads_join_whole language old (StepClient client most) lines new (inl a) = inl (ap of a.same)
loads_join_whole language old (StepClient client most) lines new (inr a) = steps_join old client most lines new a.job a.commit a.after a.has a.steps a.left
loads_join_whole language old (Crash crashed) lines new a = inl (ap of a.left)
loads_join_whole language old AsksStatus lines new (inl a) = inl (ap of a.known)
loads_join_whole language old AsksStatus lines new (inr a) = inl (ap of a.same)
loads_join_whole language old (Answers name) lines new (inl a) = inl (ap of a.same)
loads_join_whole language old (Answers name) lines new (inr (inl a)) = inl (ap of a.met)
loads_join_whole language old (Answers name) lines new (inr (inr a)) = inl (ap of a.met)
loads_join_whole language old (Scan text) lines new (inl a) = inl (ap of a.same)
loads_join_whole language old (Scan text) lines new (inr (inl a)) = inl (ap of a.met)
loads_join_whole language old (Scan text) lines new (inr (inr a)) = inl (ap of a.met)

-- ---- queries

abbrev known : State → List Registration
known state = state.queries

is_none : (found : Option Registration) → is_some found ≡ false → found ≡ None
is_none None e = refl
is_none (Some registration) e = absurd cc

steps_register : (old : State) (client most : ℕ) (lines : List Line) (new : State) (job : Job) (commit : Option ℕ) (after : Option Job) → old.jobs client ≡ Some job →
    (steps : StepsReply old.queries job client most lines commit after) → new ≡ stepped old client job commit after steps.count → (new.queries ≡ old.queries) ⊎ QueryJoins old lines new
steps_register old client most lines new job None after has steps left = inl (ap known left)
steps_register old client most lines new job (Some commit) after has steps left = by job.content refl
  where
    by : (content : Content) → job.content ≡ content → (new.queries ≡ old.queries) ⊎ QueryJoins old lines new
    by (Loads triples) e = inl (ap known left ∙ ap (with_content old.queries job.start) e)
    by (Registers name query) e = inr (record {
      client = client;
      job = job;
      commit = commit;
      name = name;
      query = query;
      has = has;
      of = e;
      told = subst (λ ls. Contains ls (Client client (Committed commit))) (sym steps.told) (0, omega arith, refl);
      free = is_none (named name old.queries) (sym (ap (is_name_held old.queries) e) ∙ steps.commits.2);
      joined = ap known left ∙ ap (with_content old.queries job.start) e;
    })

pub queries_join : QueriesJoin
queries_join language old (Load client text) lines new (inl a) = inl (ap known a.same)
queries_join language old (Load client text) lines new (inr (inl a)) = inl (ap known a.same)
queries_join language old (Load client text) lines new (inr (inr (inl a))) = inl (ap known a.opened)
queries_join language old (Load client text) lines new (inr (inr (inr a))) = inl (ap known a.same)
queries_join language old (Register client name text) lines new (inl a) = inl (ap known a.same)
queries_join language old (Register client name text) lines new (inr (inl a)) = inl (ap known a.same)
queries_join language old (Register client name text) lines new (inr (inr (inl a))) = inl (ap known a.opened)
queries_join language old (Register client name text) lines new (inr (inr (inr a))) = inl (ap known a.same)
queries_join language old (StepClient client most) lines new (inl a) = inl (ap known a.same)
queries_join language old (StepClient client most) lines new (inr a) = steps_register old client most lines new a.job a.commit a.after a.has a.steps a.left
queries_join language old (Crash crashed) lines new a = inl (ap known a.left)
queries_join language old AsksStatus lines new (inl a) = inl (ap known a.known)
queries_join language old AsksStatus lines new (inr a) = inl (ap known a.same)
queries_join language old (Answers name) lines new (inl a) = inl (ap known a.same)
queries_join language old (Answers name) lines new (inr (inl a)) = inl (ap known a.met)
queries_join language old (Answers name) lines new (inr (inr a)) = inl (ap known a.met)
queries_join language old (Scan text) lines new (inl a) = inl (ap known a.same)
queries_join language old (Scan text) lines new (inr (inl a)) = inl (ap known a.met)
queries_join language old (Scan text) lines new (inr (inr a)) = inl (ap known a.met)

-- ---- names

turned : (name other : List ℕ) → same_bytes name other ≡ false → same_bytes other name ≡ false
turned name other apart =
    other_bytes other name (λ e. let bad : true ≡ false = sym (same_bytes_itself name) ∙ ap (same_bytes name) (sym e) ∙ apart in cc)

found_later : (passes : Bool) (first : Registration) (later : Option Registration) → cond passes (Some first) later ≡ None → (passes ≡ false) × (later ≡ None)
found_later true first later none = absurd cc
found_later false first later none = (refl, none)

found_nowhere : (passes : Bool) (first : Registration) (later : Option Registration) → passes ≡ false → later ≡ None → cond passes (Some first) later ≡ None
found_nowhere true first later other none = absurd cc
found_nowhere false first later other none = none

named_placed : (name : List ℕ) (registration : Registration) (queries : List Registration) → same_bytes name registration.name ≡ false → named name queries ≡ None →
    named name (placed registration queries) ≡ None
named_placed name registration [] other none = found_nowhere (same_bytes name registration.name) registration None other refl
named_placed name registration (first ∷ queries) other none =
    let parts = found_later (same_bytes name first.name) first (named name queries) none in
    by (nat_lt registration.number first.number)
    (found_nowhere (same_bytes name first.name) first (named name (placed registration queries)) parts.0 (named_placed name registration queries other parts.1))
  where
    by : (before : Bool) → named name (first ∷ placed registration queries) ≡ None →
        named name (if before then registration ∷ first ∷ queries else first ∷ placed registration queries) ≡ None
    by true behind = found_nowhere (same_bytes name registration.name) registration (named name (first ∷ queries)) other none
    by false behind = behind

placed_apart : (registration : Registration) (queries : List Registration) → named registration.name queries ≡ None → AreNamedApart queries → AreNamedApart (placed registration queries)
placed_apart registration [] free apart = (refl, tt)
placed_apart registration (first ∷ queries) free apart =
    let parts = found_later (same_bytes registration.name first.name) first (named registration.name queries) free in
    by (nat_lt registration.number first.number)
    (named_placed first.name registration queries (turned registration.name first.name parts.0) apart.0, placed_apart registration queries parts.1 apart.1)
  where
    by : (before : Bool) → AreNamedApart (first ∷ placed registration queries) →
        AreNamedApart (if before then registration ∷ first ∷ queries else first ∷ placed registration queries)
    by true behind = (free, apart)
    by false behind = behind

pub names_stay_apart : NamesStayApart
names_stay_apart language old command lines new a apart = elim (queries_join language old command lines new a) [
  | inl same ↦ subst AreNamedApart (sym same) apart
  | inr more ↦ subst AreNamedApart (sym more.joined) (placed_apart (record { name = more.name; number = more.job.start; query = more.query }) old.queries more.free apart)
]

-- ---- answers without a fault

abbrev IsAnsweredWell : Language → State → Command → Type 0
IsAnsweredWell language old command = (lines : List Line) × (new : State) × Reply language old command lines new × (list_any is_fault lines ≡ false)

answered_load : (language : Language) (old : State) (client : ℕ) (text : List ℕ) (job : Option Job) → old.jobs client ≡ job → old.last + 2 < 2 ^ 48 → IsAnsweredWell language old (Load client text)
answered_load language old client text (Some job) e h = (_, old, inl (record { job = job; has = e; told = refl; same = refl }), refl)
answered_load language old client text None e h = elim (is_either text (old.last + 1)) [
  | inl good ↦ (_, _, inr (inr (inl (record { number = old.last + 1; triples = good.0; free = e; drawn = (omega arith, omega (arith, h)); document = good.1; told = refl; opened = refl }))), refl)
  | inr bad ↦ (_, old, inr (inl (record { line = bad.0; kind = bad.1; free = e; fault = bad.2; told = refl; same = refl })), refl)
]

answered_register : (language : Language) (old : State) (client : ℕ) (name text : List ℕ) (job : Option Job) (refusal : Option Refusal) →
    old.jobs client ≡ job → language.register_refusal text ≡ refusal → old.last + 2 < 2 ^ 48 → IsAnsweredWell language old (Register client name text)
answered_register language old client name text (Some job) refusal e f h = (_, old, inl (record { job = job; has = e; told = refl; same = refl }), refl)
answered_register language old client name text None (Some refusal) e f h = (_, old, inr (inl (record { refusal = refusal; free = e; fault = f; told = refl; same = refl })), refl)
answered_register language old client name text None None e f h =
    (_, _, inr (inr (inl (record { number = old.last + 1; free = e; good = f; drawn = (omega arith, omega (arith, h)); told = refl; opened = refl }))), refl)

answered_step : (language : Language) (old : State) (client most : ℕ) (job : Option Job) → old.jobs client ≡ job → 1 ≤ most → IsAnsweredWell language old (StepClient client most)
answered_step language old client most None e h = (_, old, inl (record { free = e; told = refl; same = refl }), refl)
answered_step language old client most (Some job) e h = (
  _,
  _,
  inr (record {
    job = job;
    has = e;
    commit = None;
    after = _;
    steps = record { count = most; end = AllMade; commits = tt; ends = tt; tried = h; counted = refl; told = refl; left = refl };
    left = refl;
  }),
  refl,
)

no_fault_in_rows : (rows : List (List ℕ)) (count : ℕ) → list_any is_fault (map Row rows ++ Rows count ∷ []) ≡ false
no_fault_in_rows [] count = refl
no_fault_in_rows (row ∷ rows) count = no_fault_in_rows rows count

no_fault_in_crash : (crashed : Crashed) → list_any is_fault (crash_line crashed ∷ []) ≡ false
no_fault_in_crash (whose.Client client) = refl
no_fault_in_crash whose.All = refl
no_fault_in_crash whose.Oracle = refl

answered_answers : (language : Language) (old : State) (name : List ℕ) (holder : Option Registration) → named name old.queries ≡ holder → IsAnsweredWell language old (Answers name)
answered_answers language old name None e = (_, old, inl (record { unnamed = e; told = refl; same = refl }), refl)
answered_answers language old name (Some holder) e =
    (_, _, inr (inl (record { registration = holder; named = e; told = refl; met = refl })), no_fault_in_rows (language.rows holder.query old.triples) (length (language.rows holder.query old.triples)))

answered_scan : (language : Language) (old : State) (text : List ℕ) (refusal : Option Refusal) → language.scan_refusal text ≡ refusal → IsAnsweredWell language old (Scan text)
answered_scan language old text (Some refusal) e = (_, old, inl (record { refusal = refusal; fault = e; told = refl; same = refl }), refl)
answered_scan language old text None e =
    (_, _, inr (inl (record { good = e; told = refl; met = refl })), no_fault_in_rows (language.rows (language.query_of text) old.triples) (length (language.rows (language.query_of text) old.triples)))

pub can_be_answered : CanBeAnswered
can_be_answered language old (Load client text) asks h = answered_load language old client text (old.jobs client) refl h
can_be_answered language old (Register client name text) asks h = answered_register language old client name text (old.jobs client) (language.register_refusal text) refl refl h
can_be_answered language old (StepClient client most) asks h = answered_step language old client most (old.jobs client) refl asks
can_be_answered language old (Crash crashed) asks h = (_, _, record { told = refl; left = refl }, no_fault_in_crash crashed)
can_be_answered language old AsksStatus asks h = (
  _,
  _,
  inl (record {
    notifications = 0;
    locks = 0;
    few_locks = omega arith;
    few_notifications = omega arith;
    idle = λ idle. refl;
    quiet = λ quiet. (refl, refl);
    told = refl;
    known = refl;
  }),
  refl,
)
can_be_answered language old (Answers name) asks h = answered_answers language old name (named name old.queries) refl
can_be_answered language old (Scan text) asks h = answered_scan language old text (language.scan_refusal text) refl
