use Rattle.std.proofs.Common.{◌≡◌, IfOk, rules, sym, subst}
use Rattle.std.proofs.lemmas.Result.{IfOk-weaker}
use Rattle.pcj_table.specs.Table.{row_at}
use Rattle.pcj_snapshot.specs.Reads.{read_event}
use Rattle.pcj_snapshot.specs.Shown.{Shows}
use Rattle.pcj_snapshot.proofs.Shown.{shows}
use Rattle.pcj_snapshot.proofs.read.SnapRead.step.Goals as goal

pub returns-clause-seen : goal.returns-clause-seen
returns-clause-seen g c = λ times plain.
    let table = g.T.RowTable.rows c.args.table.now in
    let told : IfOk c.match-self.result (λ event. event ≡ read_event c.args.self.now table) = search rules in
    IfOk-weaker c.match-self.result _ _ (λ event is. subst (Shows c.args.self.now (row_at table)) (sym is) (shows c.args.self.now.ask c.args.self.now.at table times plain)) told
