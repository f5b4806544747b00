use Rattle.std.proofs.Common.{◌≡◌, ◌+◌, ◌^◌, ◌<◌, rules, ◌∙◌, sym, ap, arith, refl}
use Rattle.pcj_table.specs.Table.{Table}
use Rattle.pcj_oracle.specs.declared.block.Block.{Block}
use Rattle.pcj_oracle.specs.Clock.{stored_number, next_number}
use Rattle.pcj_oracle.specs.Calls.{stores}
use Rattle.pcj_oracle.proofs.Counts.{all_calls, some_due, not_answered}
use Rattle.pcj_oracle.proofs.oracle.Oracle.draw.Goals as goal

pub returns-in_err-limit-clause-calls : goal.returns-in_err-limit-clause-calls
returns-in_err-limit-clause-calls g c =
    let before = g.T.RowTable.rows c.args.table.now in
    let read = c.in_ok-block.ensures.calls in
    let stored = c.in_err-limit.ensures.calls in
    let due : stores c.in_ok-block.block.next (stored_number (g.T.RowTable.rows c.attach.new.table)) ≡ stores (next_number c.args.self.now before) (stored_number before) =
    ap (λ (block : Block). stores block.next (stored_number (g.T.RowTable.rows c.attach.new.table))) c.in_ok-block.ensures.ok.1 ∙ ap (λ (t : Table). stores (next_number c.args.self.now before) (stored_number t)) c.in_ok-block.ensures.same in
    let at_end : c.in_ok-block.block.next ≡ stored_number (g.T.RowTable.rows c.attach.new.table) =
    c.in_err-limit.ensures.spent ∙ ap (λ (block : Block). block.limit) c.in_ok-block.ensures.ok.1 ∙ ap stored_number (sym c.in_ok-block.ensures.same) in
    record {
      calls = stored.calls + read.calls;
      made = all_calls read.calls stored.calls _ _ _ read.made stored.made;
      within = omega (arith, read.within, stored.within, due);
      none = λ none. let small : c.in_ok-block.block.next < 2 ^ 48 = search rules in
          let one = some_due c.in_ok-block.block.next (stored_number (g.T.RowTable.rows c.attach.new.table)) at_end small in
          absurd (omega (arith, none, one, due));
      all = λ answered. absurd (not_answered c.from_residual-in_err-limit.result c.in_err-limit.field-0.0 c.from_residual-in_err-limit.ensures.1 answered);
      attached = λ two. rw c.in_ok-block.ensures.ok.0 refl;
      answered = λ answered. rw c.in_ok-block.ensures.ok.0 refl;
    }

pub returns-clause-calls : goal.returns-clause-calls
returns-clause-calls g c =
    let before = g.T.RowTable.rows c.args.table.now in
    let read = c.in_ok-block.ensures.calls in
    let stored = c.in_ok-limit.ensures.calls in
    let due : stores c.in_ok-block.block.next (stored_number (g.T.RowTable.rows c.attach.new.table)) ≡ stores (next_number c.args.self.now before) (stored_number before) =
    ap (λ (block : Block). stores block.next (stored_number (g.T.RowTable.rows c.attach.new.table))) c.in_ok-block.ensures.ok.1 ∙ ap (λ (t : Table). stores (next_number c.args.self.now before) (stored_number t)) c.in_ok-block.ensures.same in
    record {
      calls = stored.calls + read.calls;
      made = all_calls read.calls stored.calls _ _ _ read.made stored.made;
      within = omega (arith, read.within, stored.within, due);
      none = λ none. refl;
      all = λ answered. omega (arith, read.all, stored.all, due);
      attached = λ two. refl;
      answered = λ answered. refl;
    }
