use Rattle.std.proofs.Common.{◌≡◌, false, true, sym, subst, ap, ◌∙◌, Bool, List}
use Rattle.std.specs.List.{list_any}
use Rattle.pcj_term.specs.Order.{same_bytes}
use Rattle.pcj_table.specs.declared.write.Write.{Write}
use Rattle.pcj_moves.specs.Transactions.{are_distinct}
use Rattle.pcj_step_cases.proofs.Writes.{more_distinct}
use Rattle.pcj_step_cases.proofs.client.distinct_writes.Goals as goal

pub loop-key-preserved : goal.loop-key-preserved
loop-key-preserved c =
    let among : List Write → Bool = list_any (λ (other : Write). same_bytes c.in_ok-write.write.key other.key) in
    let none : among c.loop-key.writes ≡ false = ap among (sym c.as_slice.ensures) ∙ sym c.writes_row.ensures ∙ c.if-writes_row.false in
    subst (λ (writes : List Write). are_distinct writes ≡ true) (sym (c.in_ok-insert.ensures {u = tt}).ok)
    (more_distinct c.in_ok-write.write c.loop-key.writes c.loop-key.invariant none)
