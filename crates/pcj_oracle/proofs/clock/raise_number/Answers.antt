use Rattle.std.proofs.Common.{◌≡◌, ◌∙◌, ap, rules}
use Rattle.pcj_oracle.specs.Clock.{stored_number, with_number}
use Rattle.pcj_oracle.proofs.Numbers.{number_of_with}
use Rattle.pcj_oracle.proofs.clock.raise_number.Goals as goal

pub returns-in-Applied-clause-number : goal.returns-in-Applied-clause-number
returns-in-Applied-clause-number g c raised =
    let stored : g.T.RowTable.rows c.mutate.new.self ≡ with_number (g.T.RowTable.rows c.args.table.now) c.args.number = search rules in
    ap stored_number stored ∙ number_of_with (g.T.RowTable.rows c.args.table.now) c.args.number
