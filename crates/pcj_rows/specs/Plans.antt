-- What an actor is to write, by its start and what it has read.
use Rattle.std.specs.Prelude.{◌≡◌, ◌⊎◌, ℕ, suc, ◌≤◌, List, [], ◌∷◌, ◌++◌, length, Option, Some, None}
use Rattle.std.specs.List.{All, IsDistinct, flat_map}
use Rattle.pcj_term.specs.declared.term.Term.{Term}
use Rattle.pcj_term.specs.declared.term.Term.TheVariants.{Iri, Blank, Literal}
use Rattle.pcj_term.specs.declared.triple.Triple.{Triple}
use Rattle.pcj_term.specs.Triple.{same_triple}
use Rattle.pcj_table.specs.Table.{Key}
use Rattle.pcj_table.specs.declared.write.Write.{Write}
use Rattle.pcj_encode.specs.declared.order.Order.TheVariants.{Spo, Pos, Osp}
use Rattle.pcj_encode.specs.declared.task_name.TaskName.TheVariants as task
use Rattle.pcj_encode.specs.declared.key_name.KeyName.TheVariants as row
use Rattle.pcj_encode.specs.Name.{IsRegistration, IsTriple, key_of, registration_part}
use Rattle.pcj_rowtables.specs.Rows.{triple_key}
use Rattle.pcj_tree.specs.declared.node.Node.{Node}
use Rattle.pcj_tree.specs.declared.tree.Tree.{Tree}
use Rattle.pcj_moves.specs.declared.answer.Answer.{Answer}
use Rattle.pcj_moves.specs.declared.answer.Answer.TheVariants.{OfRange, OfRow}
use Rattle.pcj_rows.specs.Registrations.{IsQueryTree, registration_value, value_of}
use Rattle.pcj_rows.specs.Workers.{IsWorkerPlan}

-- ---- loads

-- blank nodes are those of their load
abbrev pub IsOfLoad : ℕ → Term → Type 0
IsOfLoad load (Iri iri) = Unit {0}
IsOfLoad load (Blank number label) = number ≡ load
IsOfLoad load (Literal text kind) = Unit {0}

pub record IsTripleOfLoad (load : ℕ) (triple : Triple) : Type 0 where
  pub subject : IsOfLoad load triple.subject
  pub predicate : IsOfLoad load triple.predicate
  pub object : IsOfLoad load triple.object

-- the triples of a document that is loaded with this number
pub record IsLoad (load : ℕ) (triples : List Triple) : Type 0 where
  pub first : 1 ≤ load
  pub valid : All IsTriple triples
  pub once : IsDistinct same_triple triples
  pub own : All (IsTripleOfLoad load) triples

-- the key of the task that a new triple leaves to workers
abbrev pub task_key : Triple → Key
task_key triple = key_of (row.Task (task.Triple triple))

abbrev pub put_mark : Key → Write
put_mark key = record { key = key; value = Some [] }

-- the rows of a triple that isn't there yet, and its task
abbrev pub triple_writes : Triple → List Write
triple_writes triple =
    put_mark (triple_key Spo triple) ∷ put_mark (triple_key Pos triple) ∷ put_mark (triple_key Osp triple) ∷ put_mark (task_key triple) ∷ []

-- of each triple its row by subject was read, in order, as far as the answers go
abbrev pub AreReadOf : List Triple → List Answer → Type 0
AreReadOf triples [] = Unit {0}
AreReadOf [] (answer ∷ answers) = ⊥
AreReadOf (triple ∷ triples) (OfRow key found ∷ answers) = (key ≡ triple_key Spo triple) × AreReadOf triples answers
AreReadOf (triple ∷ triples) (OfRange after end found ∷ answers) = ⊥

-- the triples that weren't found
abbrev pub absent_by : Triple → Answer → List Triple
absent_by triple (OfRow key None) = triple ∷ []
absent_by triple (OfRow key (Some value)) = []
absent_by triple (OfRange after end found) = []

abbrev pub absent_of : List Triple → List Answer → List Triple
absent_of [] answers = []
absent_of (triple ∷ triples) [] = []
absent_of (triple ∷ triples) (answer ∷ answers) = absent_by triple answer ++ absent_of triples answers

abbrev pub load_writes : List Triple → List Write
load_writes absent = flat_map triple_writes absent

-- a load that has read of all its triples writes those that it didn't find, one after the other
pub record IsLoadPlan (start : ℕ) (answers : List Answer) (writes : List Write) (triples : List Triple) : Type 0 where
  pub load : IsLoad start triples
  pub reads : AreReadOf triples answers
  pub all : length answers ≡ length triples
  pub writes_are : writes ≡ load_writes (absent_of triples answers)

-- ---- registrations

abbrev pub put_value : Key → List ℕ → Write
put_value key value = record { key = key; value = Some value }

-- the row of a node that is a pattern, and the task that looks at the triples that were there before
abbrev pub pattern_writes : ℕ → ℕ → Option (List ℕ) → List Write
pattern_writes registration node None = []
pattern_writes registration node (Some value) =
    put_value (key_of (row.Pattern registration node)) value ∷ put_mark (key_of (row.Task (task.Backfill registration node))) ∷ []

-- those of nodes that are numbered from this number on
abbrev pub nodes_writes : ℕ → ℕ → List Node → List Write
nodes_writes registration number [] = []
nodes_writes registration number (node ∷ nodes) = pattern_writes registration number (value_of (Some node)) ++ nodes_writes registration (suc number) nodes

abbrev pub registration_writes : ℕ → List ℕ → Tree → List Write
registration_writes registration name tree =
    put_value (key_of (row.Name name)) (registration_part registration)
    ∷ put_value (key_of (row.Registration registration)) (registration_value name tree)
    ∷ nodes_writes registration 1 tree.nodes

-- a registration, whose number is its start, has read that nothing has its name, and writes its rows
pub record IsRegisterPlan (start : ℕ) (answers : List Answer) (writes : List Write) (name : List ℕ) (tree : Tree) : Type 0 where
  pub first : 1 ≤ start
  pub number : IsRegistration start
  pub of_query : IsQueryTree tree
  pub reads : answers ≡ OfRow (key_of (row.Name name)) None ∷ []
  pub writes_are : writes ≡ registration_writes start name tree

-- ---- plans

-- an actor that writes nothing, a load, a registration, or a worker
abbrev pub HasPlan : ℕ → List Answer → List Write → Type 0
HasPlan start answers writes =
    (writes ≡ [])
    ⊎ (((triples : List Triple) × IsLoadPlan start answers writes triples)
    ⊎ (((name : List ℕ) × (tree : Tree) × IsRegisterPlan start answers writes name tree)
    ⊎ IsWorkerPlan start answers writes))
