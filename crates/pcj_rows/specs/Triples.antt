-- The triples of a table: those whose row in the order SPO stands.
use Rattle.std.specs.Prelude.{◌≡◌, ◌↔◌, List, IsSome}
use Rattle.std.specs.List.{All, Contains}
use Rattle.pcj_term.specs.declared.triple.Triple.{Triple}
use Rattle.pcj_encode.specs.declared.order.Order.TheVariants.{Spo, Pos, Osp}
use Rattle.pcj_encode.specs.Name.{IsTriple}
use Rattle.pcj_rowtables.specs.Rows.{triple_key}
use Rattle.pcj_mvcc.specs.Reading.{Rows, standing}

-- a table has these triples and no others
pub record HasTriples (rows : Rows) (triples : List Triple) : Type 0 where
  pub valid : All IsTriple triples
  pub each : (triple : Triple) → IsTriple triple → Contains triples triple ↔ IsSome (standing rows (triple_key Spo triple))

-- the three rows of a triple stand together, with one commit
pub record AtomicRows (rows : Rows) : Type 0 where
  pub pos : (triple : Triple) → IsTriple triple → standing rows (triple_key Pos triple) ≡ standing rows (triple_key Spo triple)
  pub osp : (triple : Triple) → IsTriple triple → standing rows (triple_key Osp triple) ≡ standing rows (triple_key Spo triple)
