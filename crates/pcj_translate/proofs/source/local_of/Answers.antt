use Rattle.std.proofs.Common.{arith, ap, ◌∙◌, drop, ℕ, List, drop-drop}
use Rattle.std.specs.List.{prefix_len}
use Rattle.std.proofs.lemmas.List.Sums.{prefix_len-le-length}
use Rattle.pcj_translate.specs.Term.{is_no_colon}
use Rattle.pcj_translate.proofs.source.local_of.Goals as goal

pub split_at-requires : goal.split_at-requires
split_at-requires c = omega (arith, c.prefix_len.ensures, prefix_len-le-length is_no_colon c.args.source.now)

pub returns : goal.returns
returns c =
    c.behind_first.ensures ∙ ap (λ (l : List ℕ). drop 1 l) (c.split_at.ensures.back ∙ ap (λ (n : ℕ). drop n c.args.source.now) c.prefix_len.ensures)
    ∙ drop-drop 1 (prefix_len is_no_colon c.args.source.now) c.args.source.now
