-- Where no task stands each line of the answer is exported.
use Rattle.std.proofs.Common.{◌≡◌, inl, inr, ℕ, List, [], ◌∷◌, ◌++◌, length, map, Option, Some, None, IsSome, refl, ap, sym, subst, ◌∙◌}
use Rattle.std.proofs.lemmas.List.{length-map}
use Rattle.std.proofs.lemmas.List.Elements.{All-weaker}
use Rattle.std.specs.List.{All, Contains}
use Rattle.pcj_term.specs.declared.triple.Triple.{Triple}
use Rattle.pcj_encode.specs.declared.order.Order.TheVariants.{Spo}
use Rattle.pcj_encode.specs.declared.key_name.KeyName.TheVariants as row
use Rattle.pcj_encode.specs.declared.task_name.TaskName.TheVariants as task
use Rattle.pcj_encode.specs.Name.{IsCell, IsName, IsTriple, key_of}
use Rattle.pcj_rowtables.specs.Rows.{triple_key}
use Rattle.pcj_expr.specs.declared.mapping.Mapping.{Mapping}
use Rattle.pcj_expr.specs.Truth.{bound}
use Rattle.pcj_algebra.specs.declared.query.Query.{Query}
use Rattle.pcj_algebra.specs.declared.query.Shape.{Shape}
use Rattle.pcj_algebra.specs.declared.query.Shape.TheVariants.{Distinct}
use Rattle.pcj_algebra.specs.declared.pattern.Pattern.{Pattern}
use Rattle.pcj_algebra.specs.declared.pattern.Pattern.TheVariants as pattern
use Rattle.pcj_algebra.specs.declared.triple_pattern.TriplePattern.{TriplePattern}
use Rattle.pcj_algebra.specs.Match.{Matches}
use Rattle.pcj_algebra.specs.Variables.{triple_names}
use Rattle.pcj_solutions.specs.Solutions.{IsMatchIn, IsSolution}
use Rattle.pcj_answers.specs.Answers.{IsLine, IsRowOf}
use Rattle.pcj_answers.specs.Rows.{Row, cell, terms_of}
use Rattle.pcj_tree.specs.declared.tree.Tree.{Tree}
use Rattle.pcj_tree.specs.Meaning.{numbered, parts_of, patterns_of}
use Rattle.pcj_tree.specs.Tree.{IsTree}
use Rattle.pcj_tree.proofs.MeaningLemmas.{nodes_mean_parts, parts_triple}
use Rattle.pcj_obs_pass.specs.Cells.{cells_of}
use Rattle.pcj_obs_pass.specs.Plan.{IsProjected}
use Rattle.pcj_obs_pass.proofs.CellLemmas.{cells_are_projected}
use Rattle.pcj_mvcc.specs.Reading.{Put, Rows, standing}
use Rattle.pcj_rows.specs.Registrations.{IsRegistered}
use Rattle.pcj_rows.specs.Triples.{HasTriples}
use Rattle.pcj_rows.specs.Workers.{export_line}
use Rattle.pcj_rows.proofs.EachLemmas.{of_each}
use Rattle.pcj_duties.proofs.CellLemmas.{pattern_cells}
use Rattle.pcj_nodes.proofs.TreeLemmas.{pattern_row_is}
use Rattle.pcj_kept.specs.Exports.{Result}
use Rattle.pcj_kept.specs.Matches.{Match}
use Rattle.pcj_kept.specs.Passes.{Below}
use Rattle.pcj_kept.specs.Kept.{Kept}
use Rattle.pcj_ready.specs.Laws.{QuietLinesAreAll}
use Rattle.pcj_ready.specs.Ready.{IsExportedLine, NoTaskStands}
use Rattle.pcj_ready.proofs.TreeLemmas.{IsPair, is_pair, one_is_small, order_has, order_is_of, pair_is_two, pattern_at_one, pattern_node, result_at_two, result_node, two_is_small}
use Rattle.pcj_ready.proofs.TrueLemmas.{cells_line}

-- ---- what stands

-- what is there
some_put : (found : Option Put) → IsSome found → (put : Put) × (found ≡ Some put)
some_put None some = absurd cc
some_put (Some put) some = (put, refl)

-- what stands nowhere has no value
nothing_stands : {A : Type 0} (found : Option Put) → found ≡ None → IsSome found → A
nothing_stands found none some = absurd (let there = some_put found some in let value = there.1 in cc)

-- ---- the match

-- a triple of the table, and the pattern's match of it
record Met (rows : Rows) (of : TriplePattern) (mapping : Mapping) : Type 0 where
  triple : Triple
  valid : IsTriple triple
  put : Put
  stands : standing rows (triple_key Spo triple) ≡ Some put
  matches : Matches of triple mapping

-- the first part of one pattern is all of it
first_part : (query : Query) (of : TriplePattern) → query.pattern ≡ pattern.Triple of → numbered (patterns_of query) 1 ≡ Some query.pattern
first_part query of triple =
    let own : numbered (parts_of (pattern.Triple of) ++ pattern.Triple of ∷ []) 1 ≡ Some (pattern.Triple of) = ap (λ (f : Pattern × List Pattern). numbered (f.1 ++ pattern.Triple of ∷ []) 1) (parts_triple of) in
    subst (λ (p : Pattern). numbered (parts_of p ++ p ∷ []) 1 ≡ Some p) (sym triple) own

-- a solution of one pattern is a match
solution_is_met : (rows : Rows) (triples : List Triple) (of : TriplePattern) (names : List (List ℕ)) (tree : Tree) (query : Query) (mapping : Mapping) → HasTriples rows triples → IsTree query tree → IsPair tree of names → query.pattern ≡ pattern.Triple of →
    IsSolution triples query.pattern mapping → Met rows of mapping
solution_is_met rows triples of names tree query mapping has is pair triple solves =
    let match : IsMatchIn triples of mapping = (nodes_mean_parts query tree triples 1 (pattern_node of pair.order) mapping is (pattern_at_one tree of names pair)).0 (query.pattern, first_part query of triple, solves) in
    let valid = of_each IsTriple triples match.0 has.valid match.1 in
    let there = some_put (standing rows (triple_key Spo match.0)) ((has.each match.0 valid).0 match.1) in
    record { triple = match.0; valid = valid; put = there.0; stands = there.1; matches = match.2 }

-- ---- the rows of the match

-- a registration of one pattern, and a match of it, where no task stands
record Quiet (rows : Rows) (mapping : Mapping) : Type 0 where
  registration : ℕ
  name : List ℕ
  tree : Tree
  at : ℕ
  registered : IsRegistered rows registration name tree at
  of : TriplePattern
  names : List (List ℕ)
  pair : IsPair tree of names
  selected : All (Contains (triple_names of)) names
  kept : Kept rows
  quiet : NoTaskStands rows
  met : Met rows of mapping

-- the cells of the match's row are terms
cells_named : (rows : Rows) (mapping : Mapping) (q : Quiet rows mapping) (order : List (List ℕ)) → All (Contains (triple_names q.of)) order → All IsCell (cells_of order mapping)
cells_named rows mapping q order names =
    let slots = (pattern_row_is q.registration 1 q.tree (pattern_node q.of q.pair.order) q.of q.registered.of_query q.registered.number one_is_small (pattern_at_one q.tree q.of q.names q.pair) refl).0 in
    (pattern_cells q.of order q.met.triple mapping q.met.valid slots q.met.matches names).0

-- the row of the match stands
match_row_stands : (rows : Rows) (mapping : Mapping) (q : Quiet rows mapping) → IsSome (standing rows (key_of (row.Node q.registration 1 (cells_of q.pair.order mapping))))
match_row_stands rows mapping q = elim (q.kept.matches match) [
  | inl there ↦ there
  | inr (inl later) ↦ nothing_stands (standing rows (key_of (row.Task (task.Triple q.met.triple)))) (q.quiet (task.Triple q.met.triple) q.met.valid) (some_found _ _ (later.1).1)
  | inr (inr back) ↦ nothing_stands (standing rows (key_of (row.Task (task.Backfill q.registration 1)))) (q.quiet (task.Backfill q.registration 1) (q.registered.number, one_is_small)) (some_found _ _ (back.1).1)
]
  where
    some_found : (found : Option Put) (put : Put) → found ≡ Some put → IsSome found
    some_found found put is = subst (λ (o : Option Put). IsSome o) (sym is) refl

    match : Match rows
    match = record {
      registration = q.registration;
      name = q.name;
      tree = q.tree;
      at = q.at;
      registered = q.registered;
      number = 1;
      small = one_is_small;
      node = pattern_node q.of q.pair.order;
      is_node = pattern_at_one q.tree q.of q.names q.pair;
      of = q.of;
      is_pattern = refl;
      triple = q.met.triple;
      valid = q.met.valid;
      put = q.met.put;
      stands = q.met.stands;
      mapping = mapping;
      matches = q.met.matches;
    }

-- the node of the pattern is below the projection
is_below : (rows : Rows) (mapping : Mapping) (q : Quiet rows mapping) → IsProjected q.tree 1 (cells_of q.pair.order mapping) (pattern_node q.of q.pair.order) (result_node q.names)
is_below rows mapping q = record {
  child_is = pattern_at_one q.tree q.of q.names q.pair;
  parent_is = result_at_two q.tree q.of q.names q.pair;
  projects = refl;
  cells_fit = length-map (terms_of q.pair.order mapping) cell ∙ length-map q.pair.order (bound mapping);
  names = ordered_names q.names q.selected;
}
  where
    ordered_names : (names : List (List ℕ)) → All (Contains (triple_names q.of)) names → All (λ name. Contains q.pair.order name) names
    ordered_names names all = All-weaker (Contains (triple_names q.of)) (λ name. Contains q.pair.order name) (λ name there. order_has q.of q.pair.order name q.pair.has there) names all

-- so the result's row stands
result_row_stands : (rows : Rows) (mapping : Mapping) (q : Quiet rows mapping) → IsSome (standing rows (key_of (row.Node q.registration 2 (cells_of q.names mapping))))
result_row_stands rows mapping q = elim (q.kept.passes below) [
  | inl waits ↦ nothing_stands (standing rows (key_of (row.Task (task.Row q.registration 1 cells)))) (q.quiet (task.Row q.registration 1 cells) (q.registered.number, one_is_small, named)) waits
  | inr there ↦ subst (λ (cs : List (List ℕ)). IsSome (standing rows (key_of (row.Node q.registration 2 cs)))) (cells_are_projected mapping q.pair.order q.names projected.names) there
]
  where
    cells : List (List ℕ)
    cells = cells_of q.pair.order mapping

    named : All IsCell cells
    named = cells_named rows mapping q q.pair.order (order_is_of q.of q.pair.order q.pair.has)

    projected : IsProjected q.tree 1 cells (pattern_node q.of q.pair.order) (result_node q.names)
    projected = is_below rows mapping q

    below : Below rows
    below = record {
      registration = q.registration;
      name = q.name;
      tree = q.tree;
      at = q.at;
      registered = q.registered;
      number = 1;
      cells = cells;
      named = (q.registered.number, one_is_small, named);
      child = pattern_node q.of q.pair.order;
      parent = result_node q.names;
      projected = projected;
      stands = match_row_stands rows mapping q;
    }

-- ---- its line

-- the result's line is exported
result_is_exported : (rows : Rows) (mapping : Mapping) (q : Quiet rows mapping) → IsExportedLine rows q.registration (export_line (cells_of q.names mapping))
result_is_exported rows mapping q = elim (q.kept.exports.results result) [
  | inl waits ↦ nothing_stands (standing rows (key_of (row.Task (task.Export q.registration cells)))) (q.quiet (task.Export q.registration cells) (q.registered.number, named)) waits
  | inr told ↦ record {
    cells = cells;
    named = (q.registered.number, named);
    plain = told.0;
    stands = told.1;
    line_is = (q.kept.exports.lines q.registration cells told.0 (q.registered.number, named) told.1).line_is;
  }
]
  where
    cells : List (List ℕ)
    cells = cells_of q.names mapping

    named : All IsCell cells
    named = cells_named rows mapping q q.names q.selected

    last : 2 ≡ length q.tree.nodes
    last = sym (pair_is_two q.tree q.of q.names q.pair)

    there : (put : Put) × (standing rows (key_of (row.Node q.registration 2 cells)) ≡ Some put)
    there = some_put (standing rows (key_of (row.Node q.registration 2 cells))) (result_row_stands rows mapping q)

    result : Result rows
    result = record {
      registration = q.registration;
      name = q.name;
      tree = q.tree;
      at = q.at;
      registered = q.registered;
      cells = cells;
      named = subst (λ (n : ℕ). IsName (row.Node q.registration n cells)) last (q.registered.number, two_is_small, named);
      put = there.0;
      stands = subst (λ (n : ℕ). standing rows (key_of (row.Node q.registration n cells)) ≡ Some there.0) last there.1;
    }

-- the line of the answer is that of a solution
solution_line : (query : Query) (triples : List Triple) (names : List (List ℕ)) (line : List ℕ) → query.shape ≡ Distinct names → IsLine query triples line → (mapping : Mapping) × IsSolution triples query.pattern mapping × (line ≡ export_line (cells_of names mapping))
solution_line query triples names line shape its =
    let own : IsRowOf triples query.pattern (Distinct names) its.0 = subst (λ (s : Shape). IsRowOf triples query.pattern s its.0) shape its.1 in
    (own.0, own.1, its.2 ∙ sym (cells_line its.0) ∙ ap (λ (r : Row). export_line (map cell r)) own.2)

-- so each line of the answer is exported
pub quiet_lines_are_all : QuietLinesAreAll
quiet_lines_are_all number rows triples registration name tree at query line fit has registered is one selected quiet its =
    let pair = is_pair query tree one.0 one.1 is one.2 one.3 in
    let from = solution_line query triples one.1 line one.3 its in
    let q : Quiet rows from.0 = record {
      registration = registration;
      name = name;
      tree = tree;
      at = at;
      registered = registered;
      of = one.0;
      names = one.1;
      pair = pair;
      selected = selected one.0 one.1 one.2 one.3;
      kept = fit.kept;
      quiet = quiet;
      met = solution_is_met rows triples one.0 one.1 tree query from.0 has is pair one.2 from.1;
    } in
    subst (IsExportedLine rows registration) (sym from.2) (result_is_exported rows from.0 q)
