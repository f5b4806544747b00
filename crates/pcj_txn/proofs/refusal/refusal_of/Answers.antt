use Rattle.std.proofs.Common.{List, ap, sym, ◌∙◌}
use Rattle.std.specs.Option.{option_copied}
use Rattle.pcj_table.specs.declared.version.Version.{Version}
use Rattle.pcj_table.specs.Row.{newest}
use Rattle.pcj_txn.specs.Steps.{versions_from}
use Rattle.pcj_txn.proofs.Events.{refused}
use Rattle.pcj_txn.proofs.refusal.refusal_of.Goals as goal

pub unreachable-requires : goal.unreachable-requires
unreachable-requires c =
    refused c.args.start c.args.row c.requires c.in-None.is
    (ap (λ (vs : List Version). newest (versions_from c.args.start vs)) (sym c.as_slice.ensures) ∙ sym c.newest_from.ensures ∙ ap option_copied c.in-None-newest_from.is)
