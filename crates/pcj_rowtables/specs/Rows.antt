-- The rows of triples (Punnoose, Crainiceanu and Rapp, "Rya", 2012).
use Rattle.std.specs.Prelude.{ℕ, List, [], ◌∷◌}
use Rattle.pcj_term.specs.declared.triple.Triple.{Triple}
use Rattle.pcj_encode.specs.declared.order.Order.{Order}
use Rattle.pcj_encode.specs.declared.order.Order.TheVariants.{Spo, Pos, Osp}
use Rattle.pcj_encode.specs.declared.key_name.KeyName.TheVariants as row
use Rattle.pcj_encode.specs.Name.{key_of}

-- the key of a triple's row in an order
abbrev pub triple_key : Order → Triple → List ℕ
triple_key order triple = key_of (row.Triple order triple)

-- the keys of a triple's three rows: by subject, by predicate and by object
abbrev pub triple_keys : Triple → List (List ℕ)
triple_keys triple = triple_key Spo triple ∷ triple_key Pos triple ∷ triple_key Osp triple ∷ []
