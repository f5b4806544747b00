use Rattle.std.proofs.Common.{arith}
use Rattle.std.proofs.lemmas.List.Sums.{prefix_len-le-length}
use Rattle.pcj_key.specs.Reading.{is_plain_in_key}
use Rattle.pcj_key.proofs.plain.cut_plain.Goals as goal

pub split_at-requires : goal.split_at-requires
split_at-requires c = omega (arith, c.plain_len.ensures, prefix_len-le-length is_plain_in_key c.args.bytes.now)
