use Rattle.std.proofs.Common.{arith}
use Rattle.pcj_encode.proofs.Numbers.{node_read, node_unread}
use Rattle.pcj_tree.proofs.fields.number_of.Goals as goal

pub returns-in-len2 : goal.returns-in-len2
returns-in-len2 c = node_read c.args.part.now c.from_be_bytes.result c.in-len2.len_at_least c.in-len2.len_below (λ i. let fits = c.type_inv.part i in omega arith) (omega arith)

pub returns-in_default : goal.returns-in_default
returns-in_default c = node_unread c.args.part.now (λ e. omega arith)

pub returns-in_default-2 : goal.returns-in_default-2
returns-in_default-2 c = node_unread c.args.part.now (λ e. omega arith)
