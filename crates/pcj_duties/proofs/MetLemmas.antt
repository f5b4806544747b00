-- Which row is added where one was looked for.
use Rattle.std.proofs.Common.{◌≡◌, ◌⊎◌, inl, inr, ℕ, List, [], subst}
use Rattle.std.specs.List.{Contains}
use Rattle.pcj_term.proofs.ListLemmas.{first_or_later, nothing_in}
use Rattle.pcj_term.specs.declared.triple.Triple.{Triple}
use Rattle.pcj_expr.specs.declared.mapping.Mapping.{Mapping}
use Rattle.pcj_algebra.specs.declared.triple_pattern.TriplePattern.{TriplePattern}
use Rattle.pcj_algebra.specs.Match.{Matches}
use Rattle.pcj_moves.specs.declared.answer.Answer.{Answer}
use Rattle.pcj_duties.specs.Added.{Adds, NodeRow}
use Rattle.pcj_duties.specs.Observers.{Meets, match_row}

nothing_there : {A : Type 0} (rows : List NodeRow) (new : NodeRow) → rows ≡ [] → Contains rows new → A
nothing_there rows new none there = absurd (nothing_in new (subst (λ rs. Contains rs new) none there))

-- it is the one that was looked for
pub it_is_added : (answers : List Answer) (added : NodeRow) (rows : List NodeRow) (new : NodeRow) → Adds answers added rows → Contains rows new → added ≡ new
it_is_added answers added rows new (inl is) there = nothing_there rows new is.1 there
it_is_added answers added rows new (inr is) there = by (first_or_later added [] new (subst (λ rs. Contains rs new) is.1 there))
  where
    by : (added ≡ new) ⊎ Contains [] new → added ≡ new
    by (inl same) = same
    by (inr none) = absurd (nothing_in new none)

-- it is that of the match that was met
pub it_is_met : (answers : List Answer) (registration node : ℕ) (of : TriplePattern) (order : List (List ℕ)) (triple : Triple) (rows : List NodeRow) (new : NodeRow) → Meets answers registration node of order triple rows → Contains rows new →
    (mapping : Mapping) × Matches of triple mapping × (match_row registration node order mapping ≡ new)
it_is_met answers registration node of order triple rows new (inl none) there = nothing_there rows new none.1 there
it_is_met answers registration node of order triple rows new (inr is) there = (is.0, is.1, it_is_added answers (match_row registration node order is.0) rows new is.2 there)
