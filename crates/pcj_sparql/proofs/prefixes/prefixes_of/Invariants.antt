use Rattle.std.proofs.Common.{◌≡◌, ℕ, List, map, take}
use Rattle.pcj_translate.specs.Term.{namespace_of}
use Rattle.pcj_translate.specs.Reading.{scope_by}
use Rattle.pcj_sparql.specs.Query.{declaration_of}
use Rattle.pcj_sparql.proofs.prefixes.prefixes_of.Given as goal

abbrev pub invariant-loop-declaration : goal.invariant-loop-declaration
invariant-loop-declaration l =
    (other : List ℕ) → (scope_by l.text l.prefixes).namespace other ≡ namespace_of (map (declaration_of l.text) (take l.declaration-index l.declared)) other
