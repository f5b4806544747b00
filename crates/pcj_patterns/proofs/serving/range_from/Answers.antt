use Rattle.std.proofs.Common.{◌<◌, ℕ, List, length, sym, subst, ◌∙◌}
use Rattle.pcj_encode.proofs.Ranges.{some_key}
use Rattle.pcj_patterns.proofs.serving.range_from.Goals as goal

pub prefix_end-requires : goal.prefix_end-requires
prefix_end-requires c = subst (λ (key : List ℕ). 0 < length key) (sym (c.as_slice.ensures ∙ c.in_ok-prefix.ensures)) (some_key c.args.front.now c.requires)
