-- What a command to load a document may answer.
use Rattle.std.proofs.Common.{◌≡◌, ◌≤◌, ◌<◌, ◌^◌, ℕ, suc, List, [], ◌∷◌, ◌++◌, length, true, false, Option, Some, None, is_some, inl, inr, refl, ap, sym, subst, ◌∙◌, arith}
use Rattle.std.specs.List.{IsDistinct, filter_map}
use Rattle.std.proofs.lemmas.List.Elements.{All-weaker}
use Rattle.pcj_term.specs.declared.term.Term.{Term}
use Rattle.pcj_term.specs.declared.term.Term.TheVariants as terms
use Rattle.pcj_term.specs.declared.triple.Triple.{Triple}
use Rattle.pcj_term.specs.Triple.{same_triple}
use Rattle.pcj_ntriples.specs.declared.kind.NtKind.{NtKind}
use Rattle.pcj_ntriples.specs.Document.{Document, DocumentFault, number_of}
use Rattle.pcj_ntriples.specs.Valid.{CarriesLoad, IsTripleOf}
use Rattle.pcj_ntriples.proofs.Valid.{has_valid_triples}
use Rattle.pcj_ntriples.proofs.Laws.{is_not_both}
use Rattle.pcj_encode.specs.Name.{IsTriple}
use Rattle.pcj_table.specs.Table.{Table, row_at}
use Rattle.pcj_oracle.specs.Clock.{IsClock, next_number}
use Rattle.pcj_oracle.specs.Draw.{IsNumber, Keeps}
use Rattle.pcj_oracle.specs.declared.block.Block.{Block}
use Rattle.pcj_mvcc.specs.Reading.{Rows}
use Rattle.pcj_moves.specs.Actors.{Actor, new_actor}
use Rattle.pcj_actor.specs.StepLaws.{state_of}
use Rattle.pcj_fit.specs.Laws as fit
use Rattle.pcj_rows.specs.Plans.{IsLoad, IsOfLoad, IsTripleOfLoad}
use Rattle.pcj_fit.specs.Sound.{Sound}
use Rattle.pcj_fit.proofs.SoundLemmas.{back_is_sound}
use Rattle.pcj_client.specs.Job.{Content, IsJob, Job}
use Rattle.pcj_client.specs.Job.Content.{Loads}
use Rattle.pcj_clients.specs.Clients.{actors_of, job_of}
use Rattle.pcj_clients.specs.declared.busy.Busy.{Busy}
use Rattle.pcj_jobs.specs.Agrees.{Agrees}
use Rattle.pcj_jobs.specs.Known.{IsContentOf, IsKnownOf}
use Rattle.pcj_jobs.proofs.StateLemmas.{opens_agrees}
use Rattle.pcj_script.specs.Commands.{Command as commands}
use Rattle.pcj_model.specs.Job as told
use Rattle.pcj_model.specs.Job.Content.{Load as LoadsTriples}
use Rattle.pcj_model.specs.Line.{Line}
use Rattle.pcj_model.specs.Line.Event.{Busy as Busied, Fault, Loaded, Refused}
use Rattle.pcj_model.specs.Line.Line.{Client}
use Rattle.pcj_model.specs.Reply.{Language}
use Rattle.pcj_model.specs.State.{State, opened}
use Rattle.pcj_session.specs.declared.stop.Stop.TheVariants as stops
use Rattle.pcj_session.specs.declared.registry.Opened.{Opened}
use Rattle.pcj_session.specs.Names.{IsOpenFor}
use Rattle.pcj_session.specs.Registry.{Opens}
use Rattle.pcj_session.specs.Session.{Held, Holds, StopsAt}
use Rattle.pcj_session.proofs.NameLemmas.{open_with}
use Rattle.pcj_session.proofs.DrawLemmas.{Says, keeps_hold, left_by, with_oracle}
use Rattle.pcj_scan.proofs.ScanLemmas.{Begun, begun}
use Rattle.pcj_session.proofs.OnceLemmas.{distinct_are_once}

-- ---- who has a load

known_free : (rows : Rows) (found : Option told.Job) → IsKnownOf rows None found → found ≡ None
known_free rows None known = refl
known_free rows (Some job) known = absurd known

-- a client without a job has none in the state
pub is_free : (others : List Actor) (held : Held) (table : Table) (state : State) (client : ℕ) → Holds others held table state → job_of held.clients client ≡ None → state.jobs client ≡ None
is_free others held table state client holds none =
    known_free (row_at table) (state.jobs client) (subst (λ job. IsKnownOf (row_at table) job (state.jobs client)) none (holds.agrees.known.each client))

known_busy : (rows : Rows) (found : Option told.Job) (its : Option Job) → is_some its ≡ true → IsKnownOf rows its found → (known : told.Job) × (found ≡ Some known)
known_busy rows found None some known = absurd cc
known_busy rows None (Some its) some known = absurd known
known_busy rows (Some known) (Some its) some is = (known, refl)

pub is_busy : (others : List Actor) (held : Held) (table : Table) (state : State) (client : ℕ) → Holds others held table state → is_some (job_of held.clients client) ≡ true → (known : told.Job) × (state.jobs client ≡ Some known)
is_busy others held table state client holds some = known_busy (row_at table) (state.jobs client) (job_of held.clients client) some (holds.agrees.known.each client)

pub is_none : {X : Type 0} (found : Option X) → is_some found ≡ false → found ≡ None
is_none None none = refl
is_none (Some x) none = absurd cc

pub has_some : {X : Type 0} (found : Option X) → is_some found ≡ true → (x : X) × (found ≡ Some x)
has_some None some = absurd cc
has_some (Some x) some = (x, refl)

-- ---- the triples of a document

of_load : (load : ℕ) (term : Term) → CarriesLoad load term → IsOfLoad load term
of_load load (terms.Iri iri) carries = tt
of_load load (terms.Blank number label) carries = carries
of_load load (terms.Literal text kind) carries = tt

pub document_is_load : (text : List ℕ) (load : ℕ) (triples : List Triple) → 1 ≤ load → load < 2 ^ 48 → Document text load triples → IsLoad load triples
document_is_load text load triples first small document =
    let all = has_valid_triples text load triples (omega (arith, small)) document in record {
      first = first;
      valid = All-weaker (IsTripleOf load) IsTriple (λ triple is. is.valid) triples all;
      once = subst (IsDistinct same_triple) (sym document.kept) (distinct_are_once (filter_map (λ triple. triple) document.said));
      own = All-weaker (IsTripleOf load) (IsTripleOfLoad load) (λ triple is. record { subject = of_load load triple.subject is.carries.0; predicate = of_load load triple.predicate is.carries.1; object = of_load load triple.object is.carries.2 }) triples all;
    }

pub not_refused : (text : List ℕ) (read line : ℕ) (kind : NtKind) (triples : List Triple) → Document text read triples → DocumentFault text line kind → ⊥
not_refused text read line kind triples document fault = is_not_both text read triples line kind document fault

-- ---- a load that begins

with_more : (clients : List Busy) (busy : Busy) (others : List Actor) → actors_of (clients ++ busy ∷ []) ++ others ≡ actors_of clients ++ (busy.job.actor ∷ others)
with_more [] busy others = refl
with_more (first ∷ clients) busy others = ap (λ actors. first.job.actor ∷ actors) (with_more clients busy others)

-- a client that has none begins with a job, and what is open of it is that of the job
pub opens_holds : (number client : ℕ) (content : told.Content) (entry : Option Opened) (others : List Actor) (held : Held) (more : List (ℕ × Opened)) (oracle' : Option Block) (table table' : Table) (state : State) (job : Job) (clients : List Busy) →
    IsNumber number held.oracle table oracle' table' → Holds others held table state → IsJob job → IsContentOf job.content content → job.actor ≡ new_actor number → job_of held.clients client ≡ None →
    clients ≡ held.clients ++ (record { client = client; job = job }) ∷ [] → Opens client entry held.opened more → IsOpenFor content (told.new_job number content) entry →
    Holds others (record { clients = clients; queries = held.queries; opened = more; oracle = oracle' }) table' (opened state client number content)
opens_holds number client content entry others held more oracle' table table' state job clients drawn holds known same new free is opens open_for = record {
  sound = subst (λ actors. Sound (state_of oracle' table' actors)) (sym (ap (λ cs. actors_of cs ++ others) is ∙ with_more held.clients (record { client = client; job = job }) others ∙ ap (λ a. actors_of held.clients ++ (a ∷ others)) new))
      (subst (λ n. Sound (fit.state_of n (row_at table') (actors_of held.clients ++ (new_actor number ∷ others)))) (sym next)
      (back_is_sound (suc number) (row_at table') (actors_of held.clients) (new_actor number) others begins.kept.sound));
  kept = holds.kept;
  opened = open_with client (Some (told.new_job number content)) entry held.opened more state.jobs opens open_for holds.opened;
  agrees = subst (λ cs. Agrees oracle' table' cs (opened state client number content)) (sym is)
      (opens_agrees number held.clients held.oracle table oracle' table' (actors_of held.clients ++ others) state client job content drawn holds.sound known same new free holds.agrees);
}
  where
    begins : Begun number table table' (actors_of held.clients ++ others)
    begins = begun number held.oracle oracle' table table' (actors_of held.clients ++ others) drawn holds.sound

    next : next_number oracle' table' ≡ suc number
    next = let then = drawn.next in omega (arith, then)

-- a number that is drawn is above all that were told
pub drawn_above : (number : ℕ) (others : List Actor) (held : Held) (oracle' : Option Block) (table table' : Table) (state : State) → IsNumber number held.oracle table oracle' table' → Holds others held table state → told.IsTimestampAbove state.last number
drawn_above number others held oracle' table table' state drawn holds = let last = holds.agrees.last in let is = drawn.is in (omega (arith, last, is), drawn.below)

-- a load's number is above 0
pub first_number : (number : ℕ) (oracle oracle' : Option Block) (table table' : Table) → IsClock oracle table → IsNumber number oracle table oracle' table' → 1 ≤ number
first_number number None oracle' table table' clock drawn = let is = drawn.is in let first = clock.first in omega (arith, is, first)
first_number number (Some block) oracle' table table' clock drawn = let is = drawn.is in let first = clock.attached.first in omega (arith, is, first)

-- ---- what is said

pub load_faulted : (language : Language) (others : List Actor) (client : ℕ) (document : List ℕ) (read : ℕ) (triples : List Triple) (held : Held) (oracle' : Option Block) (table table' : Table) (state : State) (lines : List Line) → lines ≡ Client client Fault ∷ [] →
    job_of held.clients client ≡ None → Document document read triples → Keeps held.oracle table oracle' table' → Holds others held table state → Says language others state (commands.Load client document) (with_oracle held oracle') table' lines
load_faulted language others client document read triples held oracle' table table' state lines told free is keeps holds = (
  state,
  inr (inr (inr (record {
    free = is_free others held table state client holds free;
    good = λ line kind fault. not_refused document read line kind triples is fault;
    told = told;
    same = refl;
  }))),
  keeps_hold others held oracle' table table' state keeps holds,
)

pub load_spent : (language : Language) (others : List Actor) (client : ℕ) (document : List ℕ) (read : ℕ) (triples : List Triple) (held : Held) (oracle' : Option Block) (table table' : Table) (state : State) →
    job_of held.clients client ≡ None → Document document read triples → Keeps held.oracle table oracle' table' → Holds others held table state → StopsAt language others state (commands.Load client document) (with_oracle held oracle') table' stops.Spent
load_spent language others client document read triples held oracle' table table' state free is keeps holds = (
  (is_free others held table state client holds free, λ line kind fault. not_refused document read line kind triples is fault),
  left_by others (with_oracle held oracle') table' state (keeps_hold others held oracle' table table' state keeps holds),
)

load_content : (content : Content) (triples : List Triple) → content ≡ Loads triples → IsContentOf content (LoadsTriples triples)
load_content content triples is = subst (λ c. IsContentOf c (LoadsTriples triples)) (sym is) refl

pub load_opened : (language : Language) (others : List Actor) (client number count : ℕ) (document : List ℕ) (triples : List Triple) (held : Held) (more : List (ℕ × Opened)) (oracle' : Option Block) (table table' : Table) (state : State) (job : Job) (clients : List Busy) (lines : List Line) →
    lines ≡ Client client (Loaded number count) ∷ [] → count ≡ length triples → Document document number triples → job.content ≡ Loads triples → IsNumber number held.oracle table oracle' table' → Holds others held table state → IsJob job → job.actor ≡ new_actor number →
    job_of held.clients client ≡ None → clients ≡ held.clients ++ (record { client = client; job = job }) ∷ [] → Opens client None held.opened more →
    Says language others state (commands.Load client document) (record { clients = clients; queries = held.queries; opened = more; oracle = oracle' }) table' lines
load_opened language others client number count document triples held more oracle' table table' state job clients lines told counted is same drawn holds known new free grown opens = (
  opened state client number (LoadsTriples triples),
  inr (inr (inl (record {
    number = number;
    triples = triples;
    free = is_free others held table state client holds free;
    drawn = drawn_above number others held oracle' table table' state drawn holds;
    document = is;
    told = told ∙ ap (λ n. Client client (Loaded number n) ∷ []) counted;
    opened = refl;
  }))),
  opens_holds number client (LoadsTriples triples) None others held more oracle' table table' state job clients drawn holds known (load_content job.content triples same) new free grown opens refl,
)

-- a client with a load in flight is told so
pub load_busy : (language : Language) (others : List Actor) (client : ℕ) (document : List ℕ) (held : Held) (table : Table) (state : State) (lines : List Line) → lines ≡ Client client Busied ∷ [] → is_some (job_of held.clients client) ≡ true → Holds others held table state →
    Says language others state (commands.Load client document) held table lines
load_busy language others client document held table state lines told busy holds =
    let (job, has) = is_busy others held table state client holds busy in (state, inl (record { job = job; has = has; told = told; same = refl }), holds)

pub register_busy : (language : Language) (others : List Actor) (client : ℕ) (name text : List ℕ) (held : Held) (table : Table) (state : State) (lines : List Line) → lines ≡ Client client Busied ∷ [] → is_some (job_of held.clients client) ≡ true → Holds others held table state →
    Says language others state (commands.Register client name text) held table lines
register_busy language others client name text held table state lines told busy holds =
    let (job, has) = is_busy others held table state client holds busy in (state, inl (record { job = job; has = has; told = told; same = refl }), holds)

-- a text that is no document is refused
pub load_refused : (language : Language) (others : List Actor) (client line : ℕ) (kind : NtKind) (document : List ℕ) (held : Held) (table : Table) (state : State) (lines : List Line) → lines ≡ Client client (Refused line (number_of kind)) ∷ [] → is_some (job_of held.clients client) ≡ false →
    DocumentFault document line kind → Holds others held table state → Says language others state (commands.Load client document) held table lines
load_refused language others client line kind document held table state lines told free fault holds =
    (state, inr (inl (record { line = line; kind = kind; free = is_free others held table state client holds (is_none (job_of held.clients client) free); fault = fault; told = told; same = refl })), holds)
