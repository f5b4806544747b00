-- Rows that are put once: what was seen of them at any time stands.
use Rattle.std.specs.Prelude.{◌≡◌, ℕ, List, Some}
use Rattle.pcj_term.specs.declared.triple.Triple.{Triple}
use Rattle.pcj_table.specs.Table.{Key}
use Rattle.pcj_encode.specs.declared.order.Order.{Order}
use Rattle.pcj_encode.specs.declared.key_name.KeyName.TheVariants as row
use Rattle.pcj_encode.specs.Name.{IsName, IsNode, IsRegistration, IsTriple, key_of}
use Rattle.pcj_rowtables.specs.Rows.{triple_key}
use Rattle.pcj_mvcc.specs.Reading.{Put, Rows, seen, standing}

abbrev pub StaysPut : Rows → Key → Type 0
StaysPut rows key = (at : ℕ) (put : Put) → seen rows key at ≡ Some put → standing rows key ≡ Some put

-- the rows of triples, of registrations and their patterns, and of nodes
pub record PutsStay (rows : Rows) : Type 0 where
  pub triples : (order : Order) (triple : Triple) → IsTriple triple → StaysPut rows (triple_key order triple)
  pub registrations : (registration : ℕ) → IsRegistration registration → StaysPut rows (key_of (row.Registration registration))
  pub patterns : (registration node : ℕ) → IsRegistration registration → IsNode node → StaysPut rows (key_of (row.Pattern registration node))
  pub nodes : (registration node : ℕ) (cells : List (List ℕ)) → IsName (row.Node registration node cells) → StaysPut rows (key_of (row.Node registration node cells))
