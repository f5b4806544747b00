-- What a worker has read is true of what stands when it commits.
use Rattle.std.proofs.Common.{◌≡◌, ◌≤◌, ℕ, List, Option, Some, None, IsSome, refl, ap, sym, ◌∙◌}
use Rattle.pcj_term.specs.declared.triple.Triple.{Triple}
use Rattle.pcj_table.specs.Table.{Key}
use Rattle.pcj_table.specs.declared.write.Write.{Write}
use Rattle.pcj_encode.specs.declared.order.Order.{Order}
use Rattle.pcj_encode.specs.declared.order.Order.TheVariants.{Spo}
use Rattle.pcj_encode.specs.declared.key_name.KeyName.{KeyName}
use Rattle.pcj_encode.specs.declared.key_name.KeyName.TheVariants as row
use Rattle.pcj_encode.specs.declared.task_name.TaskName.TheVariants as task
use Rattle.pcj_encode.specs.Name.{IsTriple, key_of}
use Rattle.pcj_rowtables.specs.Rows.{triple_key}
use Rattle.pcj_algebra.specs.declared.triple_pattern.TriplePattern.{TriplePattern}
use Rattle.pcj_tree.specs.declared.node.Node.{Node}
use Rattle.pcj_tree.specs.declared.node.NodeKind.TheVariants as kind
use Rattle.pcj_tree.specs.declared.tree.Tree.{Tree}
use Rattle.pcj_tree.specs.Meaning.{numbered}
use Rattle.pcj_obs_pattern.specs.Rows.{IsPatternRow}
use Rattle.pcj_mvcc.specs.Reading.{Put, Rows, seen, standing}
use Rattle.pcj_moves.specs.Reads.{Reads}
use Rattle.pcj_moves.specs.declared.answer.Answer.{Answer}
use Rattle.std.specs.Option.{option_map}
use Rattle.pcj_rows.specs.Reads.{HasRead}
use Rattle.pcj_rows.specs.Registrations.{IsQueryTree, IsRegistered, pattern_at, registration_value}
use Rattle.pcj_rows.proofs.TimeLemmas.{seen_at_most}
use Rattle.pcj_rows.proofs.ValueLemmas.{one_put, one_value}
use Rattle.pcj_rows.proofs.WorkerLemmas.{value_read}
use Rattle.pcj_nodes.specs.Commits.{Commits}
use Rattle.pcj_nodes.specs.Puts.{PutsStay, StaysPut}
use Rattle.pcj_nodes.specs.Tasks.{RowTasksHaveOrigins}
use Rattle.pcj_nodes.proofs.PutLemmas.{order_stands}
use Rattle.pcj_nodes.proofs.TreeLemmas.{pattern_is}
use Rattle.pcj_nodes.proofs.ViewLemmas.{read_stands}

-- a row stands since the start at the latest
pub record StandsSince (rows : Rows) (start : ℕ) (key : Key) : Type 0 where
  pub put : Put
  pub stands : standing rows key ≡ Some put
  pub since : put.1 ≤ start

some_seen : (found : Option Put) (value : List ℕ) → option_map (λ (put : Put). put.0) found ≡ Some value → IsSome found
some_seen None value e = absurd cc
some_seen (Some put) value e = refl

-- what was read was seen
pub read_is_seen : (start : ℕ) (rows : Rows) (answers : List Answer) (name : KeyName) (value : List ℕ) → Reads rows start answers → HasRead answers name value → IsSome (seen rows (key_of name) start)
read_is_seen start rows answers name value reads read = some_seen (seen rows (key_of name) start) value (value_read start rows answers name value reads read)

pub seen_since : (rows : Rows) (start : ℕ) (key : Key) → StaysPut rows key → IsSome (seen rows key start) → StandsSince rows start key
seen_since rows start key stays some = by (seen rows key start) refl some
  where
    by : (found : Option Put) → seen rows key start ≡ found → IsSome found → StandsSince rows start key
    by None e is = absurd cc
    by (Some put) e is = record { put = put; stands = stays start put e; since = seen_at_most rows key start put e }

-- ---- triples

-- that of a task
pub task_triple : (number commit start : ℕ) (answers : List Answer) (writes : List Write) (before after : Rows) (triple : Triple) (cursor : List ℕ) → Commits number commit start answers writes before after → PutsStay before → IsTriple triple →
    HasRead answers (row.Task (task.Triple triple)) cursor → StandsSince before start (triple_key Spo triple)
task_triple number commit start answers writes before after triple cursor its puts valid read =
    seen_since before start (triple_key Spo triple) (puts.triples Spo triple valid)
    ((its.base.origins.triples triple valid).was_seen start (read_is_seen start before answers (row.Task (task.Triple triple)) cursor its.reads read))

-- that of a row, in any order
pub row_triple : (number commit start : ℕ) (answers : List Answer) (writes : List Write) (before after : Rows) (order : Order) (triple : Triple) (value : List ℕ) → Commits number commit start answers writes before after → PutsStay before → IsTriple triple →
    HasRead answers (row.Triple order triple) value → StandsSince before start (triple_key Spo triple)
row_triple number commit start answers writes before after order triple value its puts valid read =
    let there = read_stands before start answers (row.Triple order triple) value its.reads (puts.triples order triple valid) read in
    record { put = there.put; stands = sym (order_stands before order triple its.base.atomic valid) ∙ there.stands; since = there.since }

-- ---- patterns

-- the pattern whose row was read is that of a node of a registration, which stands since the start at the latest
pub record ReadsPattern (rows : Rows) (start registration number : ℕ) (of : TriplePattern) (order : List (List ℕ)) : Type 0 where
  pub name : List ℕ
  pub tree : Tree
  pub at : ℕ
  pub registered : IsRegistered rows registration name tree at
  pub since : at ≤ start
  pub node : Node
  pub is_node : numbered tree.nodes number ≡ Some node
  pub is_pattern : node.kind ≡ kind.Pattern of
  pub its_order : node.order ≡ order

value_of_put : (found : Option (List ℕ)) (value : List ℕ) (commit at : ℕ) → option_map {T = List ℕ} {U = Put} (λ bytes. (bytes, commit)) found ≡ Some (value, at) → found ≡ Some value
value_of_put None value commit at e = absurd cc
value_of_put (Some other) value commit at e = ap (option_map (λ (put : Put). put.0)) e

pub reads_pattern : (number commit start : ℕ) (answers : List Answer) (writes : List Write) (before after : Rows) (registration node : ℕ) (of : TriplePattern) (order : List (List ℕ)) (key value : List ℕ) → Commits number commit start answers writes before after →
    PutsStay before → IsPatternRow registration node of order key value → HasRead answers (row.Pattern registration node) value → ReadsPattern before start registration node of order
reads_pattern number commit start answers writes before after registration node of order key value its puts is read =
    let there = read_stands before start answers (row.Pattern registration node) value its.reads (puts.patterns registration node is.number is.small) read in
    let was = its.base.registered.patterns registration node there.put is.number is.small there.stands in
    let at : pattern_at was.1 node ≡ Some there.put.0 = value_of_put (pattern_at was.1 node) there.put.0 there.put.1 there.put.1 (sym (was.2.patterns node is.small) ∙ there.stands) in
    let found = pattern_is was.1 node of order was.2.of_query is.valid (at ∙ ap Some (there.value_is ∙ is.value_is)) in
    record {
      name = was.0;
      tree = was.1;
      at = there.put.1;
      registered = was.2;
      since = there.since;
      node = found.0;
      is_node = found.1;
      is_pattern = found.2;
      its_order = found.3;
    }

-- ---- registrations

-- a registration that stands has one tree
pub one_tree : (rows : Rows) (registration : ℕ) (name other : List ℕ) (tree its : Tree) (at since : ℕ) → IsRegistered rows registration name tree at → IsRegistered rows registration other its since → tree ≡ its
one_tree rows registration name other tree its at since is is' =
    (one_value name other tree its is.of_query is'.of_query (one_put (standing rows (key_of (row.Registration registration))) _ _ at since is.stands is'.stands)).1

-- the tree that was read is that of the registration
pub tree_is_read : (number commit start : ℕ) (answers : List Answer) (writes : List Write) (before after : Rows) (registration : ℕ) (name other : List ℕ) (tree its_tree : Tree) (at : ℕ) → Commits number commit start answers writes before after → PutsStay before →
    IsQueryTree tree → HasRead answers (row.Registration registration) (registration_value name tree) → IsRegistered before registration other its_tree at → its_tree ≡ tree
tree_is_read number commit start answers writes before after registration name other tree its_tree at its puts of read is =
    let there = read_stands before start answers (row.Registration registration) (registration_value name tree) its.reads (puts.registrations registration is.number) read in
    (one_value other name its_tree tree is.of_query of
    (one_put (standing before (key_of (row.Registration registration))) _ _ at there.put.1 is.stands there.stands ∙ there.value_is)).1

-- ---- rows of nodes

-- the row for which a task was made that was read
pub task_row : (number commit start : ℕ) (answers : List Answer) (writes : List Write) (before after : Rows) (registration node : ℕ) (cells : List (List ℕ)) (value : List ℕ) → Commits number commit start answers writes before after → PutsStay before → RowTasksHaveOrigins before →
    HasRead answers (row.Task (task.Row registration node cells)) value → StandsSince before start (key_of (row.Node registration node cells))
task_row number commit start answers writes before after registration node cells value its puts tasks read =
    let some = read_is_seen start before answers (row.Task (task.Row registration node cells)) value its.reads read in
    seen_since before start (key_of (row.Node registration node cells)) (puts.nodes registration node cells read.valid) ((tasks.of_rows registration node cells start read.valid some).origin.was_seen start some)
