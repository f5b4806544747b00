-- The lowest place of a check that fails.
use Rattle.std.proofs.Common.{◌≡◌, ℕ, min, List, [], ◌∷◌, Option, Some, None, refl, ap, ◌∙◌, arith}
use Rattle.pcj_translate.specs.Places.{lower, lowest_of}
use Rattle.pcj_sparql.specs.declared.error.QueryError.{QueryError}
use Rattle.pcj_sparql.specs.declared.kind.QueryKind.{QueryKind}
use Rattle.pcj_sparql.specs.Reading.{failed_at}
use Rattle.pcj_sparql.specs.Query.{lowest, failing}

lower_again : (place other : ℕ) (o : Option ℕ) → lower place (lower other o) ≡ lower (min place other) o
lower_again place other None = refl
lower_again place other (Some n) = ap (λ (m : ℕ). Some m) (omega arith)

pub lowest_found : (place : ℕ) (places : List ℕ) → lowest_of (place ∷ places) ≡ Some (lowest place places)
lowest_found place [] = refl
lowest_found place (other ∷ places) = lower_again place other (lowest_of places) ∙ lowest_found (min place other) places

pub failing_lowest : (kind : QueryKind) (places : List ℕ) (later : Option QueryError) → failed_at kind (lowest_of places) later ≡ failing kind places later
failing_lowest kind [] later = refl
failing_lowest kind (place ∷ places) later = ap (λ (o : Option ℕ). failed_at kind o later) (lowest_found place places)
