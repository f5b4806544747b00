use Rattle.std.proofs.Common.{arith}
use Rattle.pcj_encode.proofs.Numbers.{registration_read, registration_unread}
use Rattle.pcj_encode.proofs.fields.registration_of.Goals as goal

pub returns-in-len8 : goal.returns-in-len8
returns-in-len8 c = registration_read c.args.part.now c.from_be_bytes.result c.in-len8.len_at_least c.in-len8.len_below (λ i. let fits = c.type_inv.part i in omega arith) (omega arith)

pub returns-in_default : goal.returns-in_default
returns-in_default c = registration_unread c.args.part.now (λ e. omega arith)

pub returns-in_default-2 : goal.returns-in_default-2
returns-in_default-2 c = registration_unread c.args.part.now (λ e. omega arith)
