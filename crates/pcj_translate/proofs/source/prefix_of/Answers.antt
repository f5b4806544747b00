use Rattle.std.proofs.Common.{arith}
use Rattle.std.proofs.lemmas.List.Sums.{prefix_len-le-length}
use Rattle.pcj_translate.specs.Term.{is_no_colon}
use Rattle.pcj_translate.proofs.source.prefix_of.Goals as goal

pub split_at-requires : goal.split_at-requires
split_at-requires c = omega (arith, c.prefix_len.ensures, prefix_len-le-length is_no_colon c.args.source.now)
