use Rattle.std.proofs.Common.{◌∙◌, ap, ℕ, nat_eq, length}
use Rattle.pcj_sparql.proofs.NameLists.{distinct_count}
use Rattle.pcj_sparql.proofs.names.are_distinct.Goals as goal

pub returns : goal.returns
returns c =
    ap (λ (n : ℕ). nat_eq n (length c.args.names.now)) (c.len.ensures ∙ (c.in_ok-set.ensures {u = tt}).count) ∙ distinct_count c.args.names.now
