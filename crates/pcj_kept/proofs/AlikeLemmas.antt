-- What is kept is said of what is read, and of the plain values of exports alone.
use Rattle.std.proofs.Common.{◌≡◌, ◌⊎◌, inl, inr, ℕ, is_some, List, IsSome, ap, sym, ◌∙◌}
use Rattle.pcj_table.specs.Table.{Key}
use Rattle.pcj_table.specs.declared.version.Version.{Version}
use Rattle.pcj_encode.specs.declared.order.Order.TheVariants.{Spo}
use Rattle.pcj_encode.specs.declared.key_name.KeyName.TheVariants as row
use Rattle.pcj_encode.specs.declared.task_name.TaskName.{TaskName}
use Rattle.pcj_encode.specs.declared.task_name.TaskName.TheVariants as task
use Rattle.pcj_encode.specs.Name.{IsName, key_of}
use Rattle.pcj_rowtables.specs.Rows.{triple_key}
use Rattle.pcj_tree.specs.declared.node.Node.{Node}
use Rattle.pcj_tree.specs.declared.tree.Tree.{Tree}
use Rattle.pcj_obs_pass.specs.Cells.{cells_at}
use Rattle.pcj_mvcc.proofs.Laws.{same_standing}
use Rattle.pcj_mvcc.specs.Laws.{SameStanding}
use Rattle.pcj_mvcc.specs.Reading.{Rows, standing, versions_read}
use Rattle.pcj_rows.specs.Registrations.{IsRegistered}
use Rattle.pcj_rows.proofs.EachLemmas.{all_map}
use Rattle.pcj_rows.proofs.RegisteredLemmas.{origin_stays, registered_same, same_reading}
use Rattle.pcj_kept.specs.Exports.{ExportsAreTrue, IsExported, IsTold, Result}
use Rattle.pcj_kept.specs.Matches.{IsMet, IsStillBefore, Match, MatchesAreMet}
use Rattle.pcj_nodes.specs.Nodes.{IsRowOver, NodeRowsAreTrue, StandsIn}
use Rattle.pcj_kept.specs.Passes.{Below, RowsArePassed}
use Rattle.pcj_nodes.specs.Puts.{PutsStay}
use Rattle.pcj_nodes.specs.Tasks.{RowTasksHaveOrigins}
use Rattle.pcj_nodes.proofs.PutLemmas.{stays_same}

abbrev pub Alike : Rows → Rows → Type 0
Alike before after = versions_read after ≡ versions_read before

pub at_key : (before after : Rows) → Alike before after → (key : Key) → SameStanding before after key
at_key before after same key = same_standing before after key (ap (λ (read : Key → List Version). read key) same)

pub registered : (before after : Rows) (registration : ℕ) (name : List ℕ) (tree : Tree) (at : ℕ) → Alike before after → IsRegistered before registration name tree at → IsRegistered after registration name tree at
registered before after registration name tree at same is = registered_same before after registration name tree at (same_reading before after same) is

some_alike : (before after : Rows) (key : Key) → Alike before after → IsSome (standing before key) → IsSome (standing after key)
some_alike before after key same some = ap is_some (at_key before after same key).stands ∙ some

-- ---- puts, rows and tasks

pub puts_alike : (before after : Rows) → Alike before after → PutsStay before → PutsStay after
puts_alike before after same puts = record {
  triples = λ order triple valid. stays_same before after _ (at_key before after same _) (puts.triples order triple valid);
  registrations = λ registration valid. stays_same before after _ (at_key before after same _) (puts.registrations registration valid);
  patterns = λ registration node valid small. stays_same before after _ (at_key before after same _) (puts.patterns registration node valid small);
  nodes = λ registration node cells named. stays_same before after _ (at_key before after same _) (puts.nodes registration node cells named);
}

over_alike : (before after : Rows) (tree : Tree) (number : ℕ) (node : Node) (cells : List (List ℕ)) → Alike before after → IsRowOver before tree number node cells → IsRowOver after tree number node cells
over_alike before after tree number node cells same over = record {
  query = over.query;
  of_query = over.of_query;
  triples = over.triples;
  stand = all_map (StandsIn before) (StandsIn after) (λ triple is. (is.0, some_alike before after (triple_key Spo triple) same is.1)) over.triples over.stand;
  its = over.its;
  is_row = over.is_row;
  cells_are = over.cells_are;
}

pub nodes_alike : (before after : Rows) → Alike before after → NodeRowsAreTrue before → NodeRowsAreTrue after
nodes_alike before after same true_rows registration node cells put named stands =
    let was = true_rows registration node cells put named (sym (at_key before after same (key_of (row.Node registration node cells))).stands ∙ stands) in
    record {
      name = was.name;
      tree = was.tree;
      at = was.at;
      registered = registered before after registration was.name was.tree was.at same was.registered;
      later = was.later;
      node = was.node;
      is_node = was.is_node;
      no_group = was.no_group;
      over = over_alike before after was.tree node was.node cells same was.over;
    }

pub tasks_alike : (before after : Rows) → Alike before after → RowTasksHaveOrigins before → RowTasksHaveOrigins after
tasks_alike before after same tasks = record {
  of_rows = λ registration node cells at named some.
      let was = tasks.of_rows registration node cells at named (ap is_some (sym ((at_key before after same (key_of (row.Task (task.Row registration node cells)))).sees at)) ∙ some) in
      record {
        name = was.name;
        tree = was.tree;
        at = was.at;
        registered = registered before after registration was.name was.tree was.at same was.registered;
        inner = was.inner;
        origin = origin_stays before after _ _ (at_key before after same _) (at_key before after same _) was.origin;
      };
  of_exports = λ registration cells at named some.
      let was = tasks.of_exports registration cells at named (ap is_some (sym ((at_key before after same (key_of (row.Task (task.Export registration cells)))).sees at)) ∙ some) in
      record {
        name = was.name;
        tree = was.tree;
        at = was.at;
        registered = registered before after registration was.name was.tree was.at same was.registered;
        origin = origin_stays before after _ _ (at_key before after same _) (at_key before after same _) was.origin;
      };
}

-- ---- matches

before_alike : (before after : Rows) (name : TaskName) (key : Key) → Alike before after → IsStillBefore before name key → IsStillBefore after name key
before_alike before after name key same is = (is.0, (at_key before after same (key_of (row.Task name))).stands ∙ is.1, is.2)

pub matches_alike : (before after : Rows) → Alike before after → MatchesAreMet before → MatchesAreMet after
matches_alike before after same met match = by (met back)
  where
    back : Match before
    back = record {
      registration = match.registration;
      name = match.name;
      tree = match.tree;
      at = match.at;
      registered = registered after before match.registration match.name match.tree match.at (sym same) match.registered;
      number = match.number;
      small = match.small;
      node = match.node;
      is_node = match.is_node;
      of = match.of;
      is_pattern = match.is_pattern;
      triple = match.triple;
      valid = match.valid;
      put = match.put;
      stands = sym (at_key before after same (triple_key Spo match.triple)).stands ∙ match.stands;
      mapping = match.mapping;
      matches = match.matches;
    }

    by : IsMet before back → IsMet after match
    by (inl stands) = inl (some_alike before after _ same stands)
    by (inr (inl later)) = inr (inl (later.0, before_alike before after (task.Triple match.triple) _ same later.1))
    by (inr (inr earlier)) = inr (inr (earlier.0, before_alike before after (task.Backfill match.registration match.number) _ same earlier.1))

-- ---- rows below projections

pub passes_alike : (before after : Rows) → Alike before after → RowsArePassed before → RowsArePassed after
passes_alike before after same passed below = by (passed back)
  where
    back : Below before
    back = record {
      registration = below.registration;
      name = below.name;
      tree = below.tree;
      at = below.at;
      registered = registered after before below.registration below.name below.tree below.at (sym same) below.registered;
      number = below.number;
      cells = below.cells;
      named = below.named;
      child = below.child;
      parent = below.parent;
      projected = below.projected;
      stands = some_alike after before _ (sym same) below.stands;
    }

    by : IsSome (standing before (key_of (row.Task (task.Row below.registration below.number below.cells))))
        ⊎ IsSome (standing before (key_of (row.Node below.registration below.child.parent (cells_at below.child.order below.cells below.parent.order)))) →
        IsSome (standing after (key_of (row.Task (task.Row below.registration below.number below.cells))))
        ⊎ IsSome (standing after (key_of (row.Node below.registration below.child.parent (cells_at below.child.order below.cells below.parent.order))))
    by (inl left) = inl (some_alike before after _ same left)
    by (inr done) = inr (some_alike before after _ same done)

-- ---- exports

-- a result is the same beforehand
abbrev pub result_alike : (before after : Rows) → Alike before after → Result after → Result before
result_alike before after same result = record {
  registration = result.registration;
  name = result.name;
  tree = result.tree;
  at = result.at;
  registered = registered after before result.registration result.name result.tree result.at (sym same) result.registered;
  cells = result.cells;
  named = result.named;
  put = result.put;
  stands = sym (at_key before after same _).stands ∙ result.stands;
}

pub exported_alike : (before after : Rows) (registration : ℕ) (cells : List (List ℕ)) (plain : _) → Alike before after → IsExported before registration cells plain → IsExported after registration cells plain
exported_alike before after registration cells plain same is = record {
  line_is = is.line_is;
  name = is.name;
  tree = is.tree;
  at = is.at;
  registered = registered before after registration is.name is.tree is.at same is.registered;
  was_seen = ap is_some ((at_key before after same _).sees plain.seq) ∙ is.was_seen;
}

pub exports_alike : (before after : Rows) → Alike before after → ((registration : ℕ) (cells : List (List ℕ)) → IsName (row.Export registration cells) → (after (key_of (row.Export registration cells))).plain ≡ (before (key_of (row.Export registration cells))).plain) →
    ExportsAreTrue before → ExportsAreTrue after
exports_alike before after same plains exports = record {
  lines = λ registration cells plain named is. exported_alike before after registration cells plain same (exports.lines registration cells plain named (sym (plains registration cells named) ∙ is));
  results = λ result. by result (exports.results (result_alike before after same result));
}
  where
    by : (result : Result after) → IsTold before (result_alike before after same result) → IsTold after result
    by result (inl left) = inl (some_alike before after _ same left)
    by result (inr told) = inr (told.0, plains result.registration result.cells (result.named.0, result.named.2) ∙ told.1, told.2)
