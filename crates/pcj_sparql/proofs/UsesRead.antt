-- The variables of SELECT, of aggregates and of GROUP BY that no triple pattern has.
use Rattle.std.proofs.Common.{◌≡◌, ℕ, not, List, [], ◌∷◌, ◌++◌, map, filter, refl, ap, sym, ◌∙◌}
use Rattle.std.proofs.lemmas.List.{map-append}
use Rattle.std.proofs.lemmas.List.Elements.{filter-append}
use Rattle.pcj_grammar.specs.declared.lexeme.Lexeme.{Lexeme}
use Rattle.pcj_translate.specs.Places.{lower_of, lowest_of}
use Rattle.pcj_translate.specs.Names.{IsSetOf}
use Rattle.pcj_translate.specs.Term.{Scope}
use Rattle.pcj_translate.specs.Uses.{place_of, unknown_among}
use Rattle.pcj_translate.proofs.Lowest.{lowest_of_both}
use Rattle.pcj_sparql.specs.declared.said.Said.{Said}
use Rattle.pcj_sparql.specs.declared.said.Said.TheVariants.{Plain, Aggregate}
use Rattle.pcj_sparql.specs.Query.{items_uses}
use Rattle.pcj_sparql.specs.Listing.{name_in, said_use, is_stranger, strangers}

one_use : (said : Said) (rest : List Said) → items_uses (said ∷ rest) ≡ said_use said ∷ items_uses rest
one_use (Plain l) rest = refl
one_use (Aggregate f d a n) rest = refl

uses_of : (items : List Said) → items_uses items ≡ map said_use items
uses_of [] = refl
uses_of (said ∷ items) = one_use said items ∙ ap (λ (ls : List Lexeme). said_use said ∷ ls) (uses_of items)

strangers_same : (text : List ℕ) (names set : List (List ℕ)) (ls : List Lexeme) → IsSetOf names set → strangers text set ls ≡ strangers text names ls
strangers_same text names set ls h = λ i. map place_of (filter (λ l. not (h.members (name_in text l) i)) ls)

strangers_both : (text : List ℕ) (names : List (List ℕ)) (ls ms : List Lexeme) → strangers text names (ls ++ ms) ≡ strangers text names ls ++ strangers text names ms
strangers_both text names ls ms =
    ap (map place_of) (filter-append (is_stranger text names) ls ms) ∙ map-append place_of (filter (is_stranger text names) ls) (filter (is_stranger text names) ms)

pub unknown_read : (scope : Scope) (names set : List (List ℕ)) (items : List Said) (keys : List Lexeme) → IsSetOf names set
    → lower_of (lowest_of (strangers scope.text set (map said_use items))) (lowest_of (strangers scope.text set keys)) ≡ lowest_of (unknown_among scope names (items_uses items ++ keys))
unknown_read scope names set items keys h =
    sym (lowest_of_both (strangers scope.text set (map said_use items)) (strangers scope.text set keys))
    ∙ ap lowest_of (sym (strangers_both scope.text set (map said_use items) keys) ∙ strangers_same scope.text names set (map said_use items ++ keys) h
    ∙ ap (λ (ls : List Lexeme). strangers scope.text names (ls ++ keys)) (sym (uses_of items)))
