-- Which query a tree has: the name behind AS isn't in a tree.
use Rattle.std.specs.Prelude.{[]}
use Rattle.pcj_algebra.specs.declared.query.Query.{Query}
use Rattle.pcj_algebra.specs.declared.query.Shape.{Shape}
use Rattle.pcj_algebra.specs.declared.query.Shape.TheVariants.{Distinct, Group}
use Rattle.pcj_tree.specs.declared.tree.Tree.{Tree}
use Rattle.pcj_tree.specs.Tree.{IsTree}

-- the tree of a query
pub record HasQuery (tree : Tree) : Type 0 where
  pub query : Query
  pub is : IsTree query tree

-- with an empty name behind AS
abbrev pub unnamed_shape : Shape → Shape
unnamed_shape (Distinct names) = Distinct names
unnamed_shape (Group keys aggregate var as_name) = Group keys aggregate var []

abbrev pub unnamed : Query → Query
unnamed query = record { shape = unnamed_shape query.shape; pattern = query.pattern }
