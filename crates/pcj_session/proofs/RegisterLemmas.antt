-- What a command to register a query may answer.
use Rattle.std.proofs.Common.{◌≡◌, ℕ, true, false, if◌then◌else◌, List, [], ◌∷◌, ◌++◌, Option, Some, None, inl, inr, refl, ap, sym, subst, ◌∙◌}
use Rattle.pcj_table.specs.Table.{Table}
use Rattle.pcj_oracle.specs.Draw.{IsNumber, Keeps}
use Rattle.pcj_oracle.specs.declared.block.Block.{Block}
use Rattle.pcj_moves.specs.Actors.{Actor, new_actor}
use Rattle.pcj_algebra.specs.declared.query.Query.{Query}
use Rattle.pcj_sparql.specs.Query.{QueryText}
use Rattle.pcj_tree.specs.declared.tree.Tree.{Tree}
use Rattle.pcj_tree.specs.Tree.{IsTree}
use Rattle.pcj_client.specs.Job.{Content, IsJob, Job}
use Rattle.pcj_client.specs.Job.Content.{Registers}
use Rattle.pcj_clients.specs.Clients.{job_of}
use Rattle.pcj_clients.specs.declared.busy.Busy.{Busy}
use Rattle.pcj_jobs.specs.Known.{IsContentOf}
use Rattle.pcj_script.specs.Commands.{Command as commands}
use Rattle.pcj_model.specs.Job.Content.{Registration as RegistersQuery}
use Rattle.pcj_model.specs.Line.{Event as events}
use Rattle.pcj_model.specs.Line.Line.{Client}
use Rattle.pcj_model.specs.Line.{Line}
use Rattle.pcj_model.specs.Reply.{Language, Refusal}
use Rattle.pcj_model.specs.State.{State, opened}
use Rattle.pcj_session.specs.declared.registry.Opened.{Opened}
use Rattle.pcj_session.specs.declared.stop.Stop.TheVariants as stops
use Rattle.pcj_session.specs.Language.{IsSparql, is_observed}
use Rattle.pcj_session.specs.Registry.{Opens}
use Rattle.pcj_session.specs.Session.{Held, Holds, StopsAt}
use Rattle.pcj_session.proofs.DrawLemmas.{Says, keeps_hold, left_by, with_oracle}
use Rattle.pcj_session.proofs.LoadLemmas.{drawn_above, is_free, opens_holds}

-- ---- what can be registered

-- a query that can be registered isn't refused
pub is_good : (language : Language) (text : List ℕ) (query : Query) → IsSparql language → QueryText text query → is_observed query ≡ true → language.register_refusal text ≡ None
is_good language text query sparql of_text observed = sparql.registers text query of_text ∙ ap (λ b. if b then None else Some (record { place = 0; kind = 2 })) observed

pub is_bad : (language : Language) (text : List ℕ) (query : Query) → IsSparql language → QueryText text query → is_observed query ≡ false → language.register_refusal text ≡ Some (record { place = 0; kind = 2 })
is_bad language text query sparql of_text observed = sparql.registers text query of_text ∙ ap (λ b. if b then None else Some (record { place = 0; kind = 2 })) observed

-- ---- what is said

-- a text is refused that can't be registered
pub register_refused : (language : Language) (others : List Actor) (client : ℕ) (refusal : Refusal) (name text : List ℕ) (held : Held) (table : Table) (state : State) (lines : List Line) → lines ≡ Client client (events.Refused refusal.place refusal.kind) ∷ [] → state.jobs client ≡ None →
    language.register_refusal text ≡ Some refusal → Holds others held table state → Says language others state (commands.Register client name text) held table lines
register_refused language others client refusal name text held table state lines told free bad holds =
    (state, inr (inl (record { refusal = refusal; free = free; fault = bad; told = told; same = refl })), holds)

-- no number could be drawn
pub register_faulted : (language : Language) (others : List Actor) (client : ℕ) (name text : List ℕ) (held : Held) (oracle' : Option Block) (table table' : Table) (state : State) (lines : List Line) → lines ≡ Client client events.Fault ∷ [] → job_of held.clients client ≡ None →
    language.register_refusal text ≡ None → Keeps held.oracle table oracle' table' → Holds others held table state → Says language others state (commands.Register client name text) (with_oracle held oracle') table' lines
register_faulted language others client name text held oracle' table table' state lines told free good keeps holds = (
  state,
  inr (inr (inr (record { free = is_free others held table state client holds free; good = good; told = told; same = refl }))),
  keeps_hold others held oracle' table table' state keeps holds,
)

-- and none is left
pub register_spent : (language : Language) (others : List Actor) (client : ℕ) (name text : List ℕ) (held : Held) (oracle' : Option Block) (table table' : Table) (state : State) → job_of held.clients client ≡ None → language.register_refusal text ≡ None →
    Keeps held.oracle table oracle' table' → Holds others held table state → StopsAt language others state (commands.Register client name text) (with_oracle held oracle') table' stops.Spent
register_spent language others client name text held oracle' table table' state free good keeps holds =
    ((is_free others held table state client holds free, good), left_by others (with_oracle held oracle') table' state (keeps_hold others held oracle' table table' state keeps holds))

-- a registration begins
register_content : (content : Content) (name : List ℕ) (query : Query) (tree : Tree) → content ≡ Registers name tree → IsTree query tree → IsContentOf content (RegistersQuery name query)
register_content content name query tree is of_query = subst (λ c. IsContentOf c (RegistersQuery name query)) (sym is) (refl, of_query)

pub register_opened : (language : Language) (others : List Actor) (client number : ℕ) (name text : List ℕ) (query : Query) (tree : Tree) (held : Held) (more : List (ℕ × Opened)) (oracle' : Option Block) (table table' : Table) (state : State) (job : Job) (clients : List Busy) (lines : List Line) →
    lines ≡ Client client (events.Registered number name) ∷ [] → IsSparql language → QueryText text query → is_observed query ≡ true → job.content ≡ Registers name tree → IsTree query tree → IsNumber number held.oracle table oracle' table' → Holds others held table state →
    IsJob job → job.actor ≡ new_actor number → job_of held.clients client ≡ None → clients ≡ held.clients ++ (record { client = client; job = job }) ∷ [] → Opens client (Some (record { name = name; query = query })) held.opened more →
    Says language others state (commands.Register client name text) (record { clients = clients; queries = held.queries; opened = more; oracle = oracle' }) table' lines
register_opened language others client number name text query tree held more oracle' table table' state job clients lines told sparql of_text observed same of_query drawn holds known new free grown opens = (
  opened state client number (RegistersQuery name query),
  inr (inr (inl (record {
    number = number;
    free = is_free others held table state client holds free;
    good = is_good language text query sparql of_text observed;
    drawn = drawn_above number others held oracle' table table' state drawn holds;
    told = told;
    opened = ap (λ q. opened state client number (RegistersQuery name q)) (sym (sparql.reads text query of_text));
  }))),
  opens_holds number client (RegistersQuery name query) (Some (record { name = name; query = query })) others held more oracle' table table' state job clients drawn holds known (register_content job.content name query tree same of_query) new free grown opens (λ undone. refl),
)
