use Rattle.std.proofs.Common.{◌≡◌, ◌++◌, drop}
use Rattle.std.specs.Option.{option_map}
use Rattle.pcj_tree.specs.Reading.{nodes_of}
use Rattle.pcj_tree.proofs.reading.nodes_of.Given as goal

abbrev pub invariant-loop-part : goal.invariant-loop-part
invariant-loop-part l = option_map (λ nodes. l.nodes.items ++ nodes) (nodes_of (drop l.part-index l.parts)) ≡ nodes_of l.parts
