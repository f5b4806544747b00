-- The printed terms of a triple, each as a part of a key.
use Rattle.std.specs.Prelude.{◌≡◌, ℕ, List, [], ◌∷◌}
use Rattle.pcj_term.specs.declared.triple.Triple.{Triple}
use Rattle.pcj_term.specs.Term.{printed}
use Rattle.pcj_key.specs.Key as parts
use Rattle.pcj_client.specs.declared.triple_parts.TripleParts.{TripleParts}

-- a part with its end, as it stands in a key
abbrev pub part_of : List ℕ → List ℕ
part_of part = parts.key_of (part ∷ [])

pub record IsPartsOf (found : TripleParts) (triple : Triple) : Type 0 where
  pub subject : found.subject ≡ part_of (printed triple.subject)
  pub predicate : found.predicate ≡ part_of (printed triple.predicate)
  pub object : found.object ≡ part_of (printed triple.object)
