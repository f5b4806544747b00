use Rattle.std.proofs.Common.{◌≡◌, ◌++◌, map, drop}
use Rattle.std.specs.Option.{option_copied}
use Rattle.pcj_answers.specs.Rows.{terms_of}
use Rattle.pcj_answers.proofs.rows.terms_of.Given as goal

abbrev pub invariant-loop-name : goal.invariant-loop-name
invariant-loop-name l = map (λ term. option_copied term) l.row.items ++ terms_of (drop l.name-index l.names) l.mapping ≡ terms_of l.names l.mapping
