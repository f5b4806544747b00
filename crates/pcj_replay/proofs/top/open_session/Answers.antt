use Rattle.std.proofs.Common.{List, subst, sym}
use Rattle.pcj_registrations.specs.declared.registration.Registration.{Registration}
use Rattle.pcj_session.specs.Registry.{AreRebuilt, AreRegistrations}
use Rattle.pcj_replay.proofs.EntryLemmas.{are_registrations, found_at_entry, holds_first}
use Rattle.pcj_replay.proofs.top.open_session.Goals as goal

pub new-requires : goal.new-requires
new-requires g c = subst AreRegistrations (sym c.as_slice.ensures)
    (are_registrations (g.T.RowTable.rows c.args.table.now) c.in_ok-registrations.registrations c.requires
    (found_at_entry (g.T.RowTable.rows c.args.table.now) (g.T.RowTable.rows c.pending.new.table) c.in_ok-registrations.registrations c.requires c.pending.ensures.same (λ is. (c.in_ok-registrations.ensures {u = tt}).all is)))

pub returns-clause-first : goal.returns-clause-first
returns-clause-first g c = λ start begins.
    let found = found_at_entry (g.T.RowTable.rows c.args.table.now) (g.T.RowTable.rows c.pending.new.table) c.in_ok-registrations.registrations c.requires c.pending.ensures.same (λ is. (c.in_ok-registrations.ensures {u = tt}).all is) in
    let rebuilt = subst (λ (rs : List Registration). AreRebuilt rs c.in_ok-new.field-0.queries) c.as_slice.ensures (c.in_ok-new.ensures {u = tt}).0 in
    holds_first c.in_ok-new.field-0 (g.T.RowTable.rows c.args.table.now) c.in_ok-registrations.registrations c.requires rebuilt (c.in_ok-new.ensures {u = tt}).1 found start begins
