-- What a command to make steps may answer.
use Rattle.std.proofs.Common.{◌≡◌, ◌≢◌, ◌⊎◌, ◌≤◌, ◌<◌, ◌-◌, ◌==◌, ◌||◌, ℕ, Bool, true, false, List, [], ◌∷◌, ◌++◌, map, Option, Some, None, is_some, inl, inr, refl, ap, sym, subst, ◌∙◌, arith}
use Rattle.std.specs.List.{list_any}
use Rattle.std.specs.Map.{lookup}
use Rattle.std.proofs.lemmas.List.{append-nil}
use Rattle.pcj_term.specs.declared.triple.Triple.{Triple}
use Rattle.pcj_table.specs.Table.{Table, row_at}
use Rattle.pcj_oracle.specs.Clock.{IsClock, next_number}
use Rattle.pcj_oracle.specs.declared.block.Block.{Block}
use Rattle.pcj_mvcc.specs.Reading.{Rows}
use Rattle.pcj_moves.specs.Actors.{Actor}
use Rattle.pcj_algebra.specs.declared.query.Query.{Query}
use Rattle.pcj_tree.specs.declared.tree.Tree.{Tree}
use Rattle.pcj_tree.specs.Tree.{IsTree}
use Rattle.pcj_rows.specs.Triples.{HasTriples}
use Rattle.pcj_client.specs.Job.{Content, Job}
use Rattle.pcj_client.specs.Job.Content.{Loads, Registers}
use Rattle.pcj_clients.specs.Clients.{job_of}
use Rattle.pcj_clients.specs.Laws.{KeepsAllSound}
use Rattle.pcj_clients.specs.Steps.{AreStepsOf, Told, WantsMemory, no_steps, stepped_from}
use Rattle.pcj_clients.specs.declared.busy.Busy.{Busy}
use Rattle.pcj_clients.specs.declared.stepped.Stepped.{Stepped}
use Rattle.pcj_clients.specs.declared.stepped.StepsEnd.{StepsEnd}
use Rattle.pcj_clients.specs.declared.stepped.StepsEnd.TheVariants as all
use Rattle.pcj_jobs.specs.Agrees.{Agrees, HasRegistered}
use Rattle.pcj_jobs.specs.Known.{IsContentOf, IsKnownOf}
use Rattle.pcj_jobs.specs.Laws.{IsEndOf, ShortKnown, SpentKnown, StepsAnswer}
use Rattle.pcj_jobs.proofs.FinishLemmas.{short_agrees, spent_agrees, steps_agree}
use Rattle.pcj_jobs.proofs.ReachLemmas.{numbers_never_fall}
use Rattle.pcj_script.specs.Commands.{Command as commands}
use Rattle.pcj_model.specs.Job as told
use Rattle.pcj_model.specs.Laws.{is_fault}
use Rattle.pcj_model.specs.Line.{Event as events}
use Rattle.pcj_model.specs.Line.Line.{Client}
use Rattle.pcj_model.specs.Queries.{Registration, named}
use Rattle.pcj_model.specs.Reply.{Advances, Language}
use Rattle.pcj_model.specs.State.{State, all_beside, joined_by, last_after, names_joined, queries_after, stepped, with_content, with_job}
use Rattle.pcj_session.specs.declared.registry.Opened.{Opened}
use Rattle.pcj_session.specs.declared.stop.Stop.TheVariants as stops
use Rattle.pcj_session.specs.Lines.{end_events, told_lines}
use Rattle.pcj_session.specs.Names.{AreKept, AreOpen, IsOpenFor, IsOpenOf}
use Rattle.pcj_session.specs.Registry.{AreLeft, Names}
use Rattle.pcj_session.specs.Session.{Held, Holds, StopsAt}
use Rattle.pcj_session.proofs.DrawLemmas.{next_below, Says}
use Rattle.pcj_session.proofs.LoadLemmas.{has_some}
use Rattle.pcj_session.proofs.NameLemmas.{all_open_beside, kept_more, open_on, open_with, stays_open}

-- the clients and the oracle of a session, with its queries
abbrev pub with_clients : Held → List Busy → Option Block → Held
with_clients held clients oracle = record { clients = clients; queries = held.queries; opened = held.opened; oracle = oracle }

-- ---- how they end

ends_alike : (end : StepsEnd) (other : told.StepsEnd) → IsEndOf end other → end_events end ≡ told.end_events other
ends_alike all.AllMade other is = ap told.end_events (sym is)
ends_alike all.Nothing other is = absurd is
ends_alike all.Done other is = ap told.end_events (sym is)
ends_alike all.Aborted other is = ap told.end_events (sym is)
ends_alike all.Taken other is = ap told.end_events (sym is)
ends_alike all.Fault other is = ap told.end_events (sym is)
ends_alike all.Spent other is = absurd is

same_lines : (client : ℕ) (came : Stepped) (end : told.StepsEnd) → IsEndOf came.end end → told_lines client came ≡ told.steps_lines client came.commit end came.count
same_lines client came end is = ap (λ ends. map (Client client) (told.commit_events came.commit ++ ends ++ events.Steps came.count ∷ [])) (ends_alike came.end end is)

-- ---- what is kept and open behind them

-- the query that a registration brings has a tree
abbrev HasTreeOf : told.Content → Type 0
HasTreeOf (told.Content.Load triples) = Unit {0}
HasTreeOf (told.Content.Registration name query) = (tree : Tree) × IsTree query tree

tree_of : (content : Content) (known : told.Content) → IsContentOf content known → HasTreeOf known
tree_of (Loads triples) (told.Content.Load known) is = tt
tree_of (Loads triples) (told.Content.Registration name query) is = absurd is
tree_of (Registers name tree) (told.Content.Load known) is = absurd is
tree_of (Registers name tree) (told.Content.Registration known query) is = (tree, is.1)

known_tree : (rows : Rows) (its : Option Job) (found : Option told.Job) (known : told.Job) → IsKnownOf rows its found → found ≡ Some known → HasTreeOf known.content
known_tree rows its None known is e = absurd cc
known_tree rows None (Some other) known is e = absurd is
known_tree rows (Some job) (Some other) known is e = let same : other ≡ known = cc in subst (λ (k : told.Job). HasTreeOf k.content) same (tree_of job.content other.content is.content)

-- what is open of a job that isn't committed
abbrev EntryOf : told.Content → Option Opened → Type 0
EntryOf (told.Content.Load triples) entry = entry ≡ None
EntryOf (told.Content.Registration name query) entry = entry ≡ Some (record { name = name; query = query })

entry_of : (content : told.Content) (job : told.Job) (entry : Option Opened) → job.is_committed ≡ false → IsOpenFor content job entry → EntryOf content entry
entry_of (told.Content.Load triples) job entry undone is = is
entry_of (told.Content.Registration name query) job entry undone is = is undone

not_held : (found : Option Registration) → is_some found ≡ false → found ≡ None
not_held None e = refl
not_held (Some registration) e = absurd cc

content_kept : (content : told.Content) (number : ℕ) (kept more : List (List ℕ × Query)) (queries : List Registration) (entry : Option Opened) → told.is_name_held queries content ≡ false → HasTreeOf content → EntryOf content entry → Names entry kept more →
    AreKept kept queries → AreKept more (with_content queries number content)
content_kept (told.Content.Load triples) number kept more queries entry free tree is names are =
    subst (λ list. AreKept list queries) (sym (subst (λ e. Names e kept more) is names)) are
content_kept (told.Content.Registration name query) number kept more queries entry free tree is names are =
    kept_more kept more queries query (record { name = name; number = number; query = query }) are (not_held (named name queries) free) (tree.0, tree.1, tree.1) (subst (λ e. Names e kept more) is names)

-- the queries that are kept are those of the state
queries_kept : (client : ℕ) (commit : Option ℕ) (held : Held) (queries : List (List ℕ × Query)) (more : List (ℕ × Opened)) (state : State) (known : told.Job) → told.MayCommit state.queries known commit → HasTreeOf known.content →
    IsOpenOf (Some known) (lookup (λ key. client == key) held.opened) → AreLeft client commit held.opened held.queries more queries → AreKept held.queries state.queries → AreKept queries (queries_after state.queries known commit)
queries_kept client None held queries more state known may tree is leaves are = subst (λ list. AreKept list state.queries) (sym leaves.1) are
queries_kept client (Some commit) held queries more state known may tree is leaves are =
    content_kept known.content known.start held.queries queries state.queries (lookup (λ key. client == key) held.opened) may.2 tree (entry_of known.content known (lookup (λ key. client == key) held.opened) may.0 is) leaves.1 are

or_false : (b : Bool) → b || false ≡ b
or_false true = refl
or_false false = refl

or_true : (b : Bool) → b || true ≡ true
or_true true = refl
or_true false = refl

closed_for : (content : told.Content) (job : told.Job) → job.is_committed ≡ true → IsOpenFor content job None
closed_for (told.Content.Load triples) job done = refl
closed_for (told.Content.Registration name query) job done = λ undone. absurd (let clash : true ≡ false = sym done ∙ undone in cc)

-- what is left of the job, without a commit and with one
goes_on_open : (known : told.Job) (end : told.StepsEnd) (count : ℕ) (entry : Option Opened) → IsOpenOf (Some known) entry → IsOpenOf (told.job_after known None end count) entry
goes_on_open known told.StepsEnd.AllMade count entry is = stays_open known.content known (told.grown known None count) entry (or_false known.is_committed) is
goes_on_open known told.StepsEnd.IsDone count entry is = tt
goes_on_open known told.StepsEnd.IsAborted count entry is = tt
goes_on_open known told.StepsEnd.IsTaken count entry is = tt
goes_on_open known told.StepsEnd.Fails count entry is = stays_open known.content known (told.grown known None (count - 1)) entry (or_false known.is_committed) is

goes_on_closed : (known : told.Job) (commit : ℕ) (end : told.StepsEnd) (count : ℕ) → IsOpenOf (told.job_after known (Some commit) end count) None
goes_on_closed known commit told.StepsEnd.AllMade count = closed_for known.content (told.grown known (Some commit) count) (or_true known.is_committed)
goes_on_closed known commit told.StepsEnd.IsDone count = tt
goes_on_closed known commit told.StepsEnd.IsAborted count = tt
goes_on_closed known commit told.StepsEnd.IsTaken count = tt
goes_on_closed known commit told.StepsEnd.Fails count = closed_for known.content (told.grown known (Some commit) (count - 1)) (or_true known.is_committed)

-- what is open is that of the jobs
jobs_open : (client : ℕ) (commit : Option ℕ) (held : Held) (queries : List (List ℕ × Query)) (more : List (ℕ × Opened)) (jobs : ℕ → Option told.Job) (joined : List Triple) (names : List (List ℕ)) (known : told.Job) (end : told.StepsEnd) (count : ℕ) →
    IsOpenOf (Some known) (lookup (λ key. client == key) held.opened) → AreLeft client commit held.opened held.queries more queries → AreOpen held.opened jobs → AreOpen more (with_job (all_beside joined names jobs) client (told.job_after known commit end count))
jobs_open client None held queries more jobs joined names known end count is leaves are =
    subst (λ list. AreOpen list (with_job (all_beside joined names jobs) client (told.job_after known None end count))) (sym leaves.0)
    (open_on client (told.job_after known None end count) held.opened (all_beside joined names jobs) (goes_on_open known end count (lookup (λ key. client == key) held.opened) is) (all_open_beside joined names held.opened jobs are))
jobs_open client (Some commit) held queries more jobs joined names known end count is leaves are =
    open_with client (told.job_after known (Some commit) end count) None held.opened more (all_beside joined names jobs) leaves.0 (goes_on_closed known commit end count) (all_open_beside joined names held.opened jobs are)

-- ---- they are answered

pub steps_answered : (language : Language) (others : List Actor) (client most : ℕ) (held : Held) (clients : List Busy) (queries : List (List ℕ × Query)) (more : List (ℕ × Opened)) (oracle : Option Block) (table table' : Table) (state : State) (came : Stepped) (steps : List Told) →
    is_some (job_of held.clients client) ≡ true → 1 ≤ most → came ≡ stepped_from no_steps steps → AreStepsOf client most held.clients held.oracle table steps clients oracle table' → came.end ≢ all.Spent → AreLeft client came.commit held.opened held.queries more queries →
    KeepsAllSound held.clients held.oracle table clients oracle table' → IsClock oracle table' → Holds others held table state →
    Says language others state (commands.StepClient client most) (record { clients = clients; queries = queries; opened = more; oracle = oracle }) table' (told_lines client came)
steps_answered language others client most held clients queries more oracle table table' state came steps busy asks is are goes leaves keeps clock holds =
    (stepped state client answer.known came.commit answer.after came.count, inr advances, holding)
  where
    its : (job : Job) × (job_of held.clients client ≡ Some job)
    its = has_some (job_of held.clients client) busy

    answer : StepsAnswer client most clients oracle table' state came
    answer = subst (λ c. StepsAnswer client most clients oracle table' state c) (sym is)
        (steps_agree client most held.clients held.oracle table steps clients oracle table' its.0 others state its.1 asks are (subst (λ c. c.end ≢ all.Spent) is goes) holds.sound (next_below oracle table' clock) holds.agrees)

    advances : Advances state client most (told_lines client came) (stepped state client answer.known came.commit answer.after came.count)
    advances = record {
      job = answer.known;
      has = answer.has;
      commit = came.commit;
      after = answer.after;
      steps = subst (λ lines. told.StepsReply state.queries answer.known client most lines came.commit answer.after) (sym (same_lines client came answer.end answer.ends_as)) answer.reply;
      left = ap (stepped state client answer.known came.commit answer.after) (sym answer.count);
    }

    open_now : IsOpenOf (Some answer.known) (lookup (λ key. client == key) held.opened)
    open_now = subst (λ job. IsOpenOf job (lookup (λ key. client == key) held.opened)) answer.has (holds.opened client)

    holding : Holds others (record { clients = clients; queries = queries; opened = more; oracle = oracle }) table' (stepped state client answer.known came.commit answer.after came.count)
    holding = record {
      sound = keeps others holds.sound;
      kept = queries_kept client came.commit held queries more state answer.known answer.reply.commits (known_tree (row_at table) (job_of held.clients client) (state.jobs client) answer.known (holds.agrees.known.each client) answer.has) open_now leaves holds.kept;
      opened = subst (λ after. AreOpen more (with_job (all_beside (joined_by state answer.known came.commit) (names_joined answer.known came.commit) state.jobs) client after)) (sym answer.reply.left)
          (jobs_open client came.commit held queries more state.jobs (joined_by state answer.known came.commit) (names_joined answer.known came.commit) answer.known answer.reply.end answer.reply.count open_now leaves holds.opened);
      agrees = answer.agrees;
    }

-- ---- they are not

pub steps_spent : (language : Language) (others : List Actor) (client most : ℕ) (held : Held) (clients : List Busy) (oracle : Option Block) (table table' : Table) (state : State) (came : Stepped) (steps : List Told) → is_some (job_of held.clients client) ≡ true → 1 ≤ most →
    came ≡ stepped_from no_steps steps → AreStepsOf client most held.clients held.oracle table steps clients oracle table' → came.end ≡ all.Spent → KeepsAllSound held.clients held.oracle table clients oracle table' → IsClock oracle table' →
    Holds others held table state → StopsAt language others state (commands.StepClient client most) (with_clients held clients oracle) table' stops.Spent
steps_spent language others client most held clients oracle table table' state came steps busy asks is are ends keeps clock holds =
    ((answer.known, answer.has, answer.undone), record { sound = keeps others holds.sound; triples = answer.triples; queries = answer.queries; last = (answer.agrees).last })
  where
    its : (job : Job) × (job_of held.clients client ≡ Some job)
    its = has_some (job_of held.clients client) busy

    answer : SpentKnown client clients oracle table' state came
    answer = subst (λ c. SpentKnown client clients oracle table' state c) (sym is)
        (spent_agrees client most held.clients held.oracle table steps clients oracle table' its.0 others state its.1 asks are (subst (λ c. c.end ≡ all.Spent) is ends) holds.sound (next_below oracle table' clock) holds.agrees)

pub steps_short : (language : Language) (others : List Actor) (client most : ℕ) (held : Held) (clients : List Busy) (oracle : Option Block) (table table' : Table) (state : State) (steps : List Told) → is_some (job_of held.clients client) ≡ true →
    WantsMemory client most held.clients held.oracle table steps clients oracle table' → KeepsAllSound held.clients held.oracle table clients oracle table' → IsClock oracle table' →
    Holds others held table state → StopsAt language others state (commands.StepClient client most) (with_clients held clients oracle) table' stops.Memory
steps_short language others client most held clients oracle table table' state steps busy wants keeps clock holds = by answer.commit refl answer.left
  where
    its : (job : Job) × (job_of held.clients client ≡ Some job)
    its = has_some (job_of held.clients client) busy

    answer : ShortKnown client most clients oracle table' state
    answer = short_agrees client most held.clients held.oracle table steps clients oracle table' its.0 others state its.1 wants holds.sound (next_below oracle table' clock) holds.agrees

    later : state.last < next_number oracle table'
    later =
        let rises = numbers_never_fall steps client held.clients held.oracle table clients oracle table' others wants.steps holds.sound in
        let last = holds.agrees.last in omega (arith, rises, last)

    Left : Option ℕ → Type 0
    Left commit = (HasTriples (row_at table') state.triples × HasRegistered (row_at table') state.queries)
        ⊎ ((1 ≤ answer.count) × (answer.count ≤ most) × Agrees oracle table' clients (stepped state client answer.known commit (Some (told.grown answer.known commit answer.count)) answer.count))

    nothing : HasTriples (row_at table') state.triples → HasRegistered (row_at table') state.queries → StopsAt language others state (commands.StepClient client most) (with_clients held clients oracle) table' stops.Memory
    nothing has queries = ([], state, inl (refl, refl), record { sound = keeps others holds.sound; triples = has; queries = queries; last = later })

    by : (commit : Option ℕ) → answer.commit ≡ commit → Left answer.commit → StopsAt language others state (commands.StepClient client most) (with_clients held clients oracle) table' stops.Memory
    by commit is (inl (has, queries)) = nothing has queries
    by None is (inr (tried, counted, agrees)) =
        nothing (subst (HasTriples (row_at table')) (ap (λ c. state.triples ++ joined_by state answer.known c) is ∙ append-nil state.triples) agrees.triples)
        (subst (λ c. HasRegistered (row_at table') (queries_after state.queries answer.known c)) is agrees.queries)
    by (Some commit) is (inr (tried, counted, agrees)) = (
      Client client (events.Committed commit) ∷ [],
      stepped state client answer.known (Some commit) (Some (told.grown answer.known (Some commit) answer.count)) answer.count,
      inr (record {
        client = client;
        most = most;
        is = refl;
        job = answer.known;
        has = answer.has;
        commit = commit;
        commits = subst (told.MayCommit state.queries answer.known) is answer.commits;
        count = answer.count;
        tried = tried;
        counted = counted;
        told = refl;
        left = refl;
      }),
      record {
        sound = keeps others holds.sound;
        triples = subst (λ c. HasTriples (row_at table') (state.triples ++ joined_by state answer.known c)) is agrees.triples;
        queries = subst (λ c. HasRegistered (row_at table') (queries_after state.queries answer.known c)) is agrees.queries;
        last = subst (λ c. last_after state.last c < next_number oracle table') is agrees.last;
      },
    )

-- ---- faults

-- a fault is told only where they end with one
pub fault_ends : (client : ℕ) (came : Stepped) → list_any is_fault (told_lines client came) ≡ true → came.end ≡ all.Fault
fault_ends client came fault = by came.commit came.end fault
  where
    by : (commit : Option ℕ) (end : StepsEnd) → list_any is_fault (map (Client client) (told.commit_events commit ++ end_events end ++ events.Steps came.count ∷ [])) ≡ true → end ≡ all.Fault
    by None all.AllMade fault = absurd (let clash = fault in cc)
    by None all.Nothing fault = absurd (let clash = fault in cc)
    by None all.Done fault = absurd (let clash = fault in cc)
    by None all.Aborted fault = absurd (let clash = fault in cc)
    by None all.Taken fault = absurd (let clash = fault in cc)
    by None all.Fault fault = refl
    by None all.Spent fault = absurd (let clash = fault in cc)
    by (Some commit) all.AllMade fault = absurd (let clash = fault in cc)
    by (Some commit) all.Nothing fault = absurd (let clash = fault in cc)
    by (Some commit) all.Done fault = absurd (let clash = fault in cc)
    by (Some commit) all.Aborted fault = absurd (let clash = fault in cc)
    by (Some commit) all.Taken fault = absurd (let clash = fault in cc)
    by (Some commit) all.Fault fault = refl
    by (Some commit) all.Spent fault = absurd (let clash = fault in cc)
