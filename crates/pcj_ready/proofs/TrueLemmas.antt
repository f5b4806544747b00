-- No exported line is false.
use Rattle.std.proofs.Common.{◌≡◌, ℕ, List, length, map, Some, IsSome, refl, ap, sym, subst, ◌∙◌}
use Rattle.std.proofs.lemmas.Option.{same_Some}
use Rattle.std.specs.List.{Contains}
use Rattle.pcj_term.specs.declared.triple.Triple.{Triple}
use Rattle.pcj_table.specs.declared.plain.Plain.{Plain}
use Rattle.pcj_encode.specs.declared.key_name.KeyName.TheVariants as row
use Rattle.pcj_encode.specs.Name.{IsName, key_of}
use Rattle.pcj_expr.specs.declared.mapping.Mapping.{Mapping}
use Rattle.pcj_algebra.specs.declared.pattern.Pattern.{Pattern}
use Rattle.pcj_algebra.specs.declared.pattern.Pattern.TheVariants as pattern
use Rattle.pcj_algebra.specs.declared.query.Query.{Query}
use Rattle.pcj_algebra.specs.declared.query.Shape.{Shape}
use Rattle.pcj_algebra.specs.declared.query.Shape.TheVariants.{Distinct}
use Rattle.pcj_algebra.specs.declared.triple_pattern.TriplePattern.{TriplePattern}
use Rattle.pcj_algebra.specs.Match.{Matches}
use Rattle.pcj_solutions.specs.Solutions as solution
use Rattle.pcj_solutions.specs.Solutions.{IsMatchIn, IsSolution}
use Rattle.pcj_answers.specs.Answers.{IsLine, IsRowOf}
use Rattle.pcj_answers.specs.Rows.{Row, cell, row_line, terms_of}
use Rattle.pcj_tree.specs.declared.node.Node.{Node}
use Rattle.pcj_tree.specs.declared.tree.Tree.{Tree}
use Rattle.pcj_tree.specs.Meaning.{IsSolutionAt, numbered}
use Rattle.pcj_tree.proofs.MeaningLemmas.{nodes_mean_parts}
use Rattle.pcj_obs_pass.specs.Cells.{cells_of}
use Rattle.pcj_mvcc.specs.Reading.{Rows, seen}
use Rattle.pcj_rows.specs.Registrations.{IsRegistered}
use Rattle.pcj_rows.specs.Triples.{HasTriples}
use Rattle.pcj_rows.specs.Workers.{export_line}
use Rattle.pcj_rows.proofs.EachLemmas.{of_each}
use Rattle.pcj_nodes.specs.Nodes.{IsRowOver, StandsIn}
use Rattle.pcj_nodes.proofs.FactLemmas.{one_tree, seen_since}
use Rattle.pcj_kept.specs.Exports.{IsExported}
use Rattle.pcj_fit.specs.Fit.{Fit}
use Rattle.pcj_ready.specs.Laws.{ExportedLinesAreTrue}
use Rattle.pcj_ready.proofs.TreeLemmas.{IsPair, is_pair, pair_is_two, pattern_at_one, result_at_two, result_node, two_is_small}

-- the line of a row's cells is the line of the row
pub cells_line : (its : Row) → export_line (map cell its) ≡ row_line its
cells_line its = refl

-- the cells are those of a triple that stands and matches the pattern
record IsOfMatch (rows : Rows) (of : TriplePattern) (names : List (List ℕ)) (cells : List (List ℕ)) : Type 0 where
  triple : Triple
  stands : StandsIn rows triple
  mapping : Mapping
  matches : Matches of triple mapping
  cells_are : cells ≡ cells_of names mapping

-- such are those of each true row of the last node, by whatever query of the tree it is true
row_is_of_match : (rows : Rows) (tree : Tree) (of : TriplePattern) (names : List (List ℕ)) (node : Node) (cells : List (List ℕ)) → IsPair tree of names → numbered tree.nodes 2 ≡ Some node → IsRowOver rows tree 2 node cells →
    IsOfMatch rows of names cells
row_is_of_match rows tree of names node cells pair here over =
    let mapping = over.is_row.0 in
    let last = result_at_two tree of names pair in
    let below : IsSolutionAt over.triples over.query 1 mapping = (nodes_mean_parts over.query tree over.triples 2 (result_node names) mapping over.of_query last).0 over.is_row.1 in
    let match : IsMatchIn over.triples of mapping = (nodes_mean_parts over.query tree over.triples 1 _ mapping over.of_query (pattern_at_one tree of names pair)).0 below in
    let order : node.order ≡ names = ap (λ (n : Node). n.order) (same_Some node (result_node names) (sym here ∙ last)) in
    record {
      triple = match.0;
      stands = of_each (StandsIn rows) over.triples match.0 over.stand match.1;
      mapping = mapping;
      matches = match.2;
      cells_are = over.cells_are ∙ ap (λ (r : Row). map cell r) over.is_row.2 ∙ ap (λ (ns : List (List ℕ)). cells_of ns mapping) order;
    }

-- the row of an exported line stands, and is true
exported_is_of_match : (number : ℕ) (rows : Rows) (registration : ℕ) (name : List ℕ) (tree : Tree) (at : ℕ) (of : TriplePattern) (names cells : List (List ℕ)) (plain : Plain) → Fit number rows → IsRegistered rows registration name tree at → IsPair tree of names →
    IsName (row.Export registration cells) → IsExported rows registration cells plain → IsOfMatch rows of names cells
exported_is_of_match number rows registration name tree at of names cells plain fit registered pair named exported =
    let valid : IsName (row.Node registration 2 cells) = (named.0, two_is_small, named.1) in
    let same = one_tree rows registration exported.name name exported.tree tree exported.at at exported.registered registered in
    let last : length exported.tree.nodes ≡ 2 = ap (λ (t : Tree). length t.nodes) same ∙ pair_is_two tree of names pair in
    let was : IsSome (seen rows (key_of (row.Node registration 2 cells)) plain.seq) = subst (λ (n : ℕ). IsSome (seen rows (key_of (row.Node registration n cells)) plain.seq)) last exported.was_seen in
    let there = seen_since rows plain.seq (key_of (row.Node registration 2 cells)) (fit.kept.puts.nodes registration 2 cells valid) was in
    let true_row = fit.kept.nodes registration 2 cells there.put valid there.stands in
    let own = one_tree rows registration true_row.name name true_row.tree tree true_row.at at true_row.registered registered in
    row_is_of_match rows tree of names true_row.node cells pair
    (subst (λ (t : Tree). numbered t.nodes 2 ≡ Some true_row.node) own true_row.is_node)
    (subst (λ (t : Tree). IsRowOver rows t 2 true_row.node cells) own true_row.over)

-- a match of a triple of the table is a row of the answer
match_is_line : (rows : Rows) (triples : List Triple) (of : TriplePattern) (names cells : List (List ℕ)) (query : Query) → HasTriples rows triples → query.pattern ≡ pattern.Triple of → query.shape ≡ Distinct names → IsOfMatch rows of names cells →
    IsLine query triples (export_line cells)
match_is_line rows triples of names cells query has triple shape its =
    let there : Contains triples its.triple = (has.each its.triple its.stands.0).1 its.stands.1 in
    let solves : IsSolution triples (pattern.Triple of) its.mapping = solution.matched {triple = its.triple} of there its.matches in
    let own : IsRowOf triples query.pattern (Distinct names) (terms_of names its.mapping) = (its.mapping, subst (λ (p : Pattern). IsSolution triples p its.mapping) (sym triple) solves, refl) in (
      terms_of names its.mapping,
      subst (λ (s : Shape). IsRowOf triples query.pattern s (terms_of names its.mapping)) (sym shape) own,
      ap export_line its.cells_are ∙ cells_line (terms_of names its.mapping),
    )

-- so each exported line is one of the answer
pub exported_lines_are_true : ExportedLinesAreTrue
exported_lines_are_true number rows triples registration name tree at query line fit has registered is one exported =
    let pair = is_pair query tree one.0 one.1 is one.2 one.3 in
    let told = fit.kept.exports.lines registration exported.cells exported.plain exported.named exported.stands in
    let its = exported_is_of_match number rows registration name tree at one.0 one.1 exported.cells exported.plain fit registered pair exported.named told in
    subst (IsLine query triples) (same_Some (export_line exported.cells) line (sym told.line_is ∙ exported.line_is)) (match_is_line rows triples one.0 one.1 exported.cells query has one.2 one.3 its)
