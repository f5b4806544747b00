-- Commits, exported lines and all else keep all.
use Rattle.std.proofs.Common.{◌≡◌, [], ◌∷◌, refl}
use Rattle.pcj_table.specs.Row.{updated}
use Rattle.pcj_table.specs.Table.{Key}
use Rattle.pcj_table.specs.declared.plain.Plain.{Plain}
use Rattle.pcj_table.specs.declared.update.Update.TheVariants.{SetPlain}
use Rattle.pcj_mvcc.proofs.Laws.{plain_keeps}
use Rattle.pcj_mvcc.specs.Reading.{Rows, put, versions_read}
use Rattle.pcj_kept.specs.Laws.{CommitsKeepAll, ExportsKeepAll, ReadingsSayAll}
use Rattle.pcj_kept.proofs.AlikeLemmas.{exports_alike, matches_alike, nodes_alike, passes_alike, puts_alike, tasks_alike}
use Rattle.pcj_kept.proofs.ExportLemmas.{exports_stay_true, lines_stay_true}
use Rattle.pcj_kept.proofs.MatchLemmas.{matches_stay_met}
use Rattle.pcj_nodes.proofs.NodeLemmas.{nodes_stay_true}
use Rattle.pcj_kept.proofs.PassLemmas.{rows_stay_passed}
use Rattle.pcj_nodes.proofs.PutLemmas.{puts_stay}
use Rattle.pcj_nodes.proofs.TaskLemmas.{tasks_keep_origins}

pub commits_keep_all : CommitsKeepAll
commits_keep_all number commit start answers writes before after its purpose written kept =
    let puts = puts_stay number commit start answers writes before after its purpose kept.puts in
    record {
      puts = puts;
      nodes = nodes_stay_true number commit start answers writes before after its purpose kept.puts puts kept.tasks kept.nodes;
      tasks = tasks_keep_origins number commit start answers writes before after its purpose kept.puts puts kept.nodes kept.tasks;
      matches = matches_stay_met number commit start answers writes before after its purpose kept.puts puts kept.tasks kept.matches;
      passes = rows_stay_passed number commit start answers writes before after its purpose kept.puts puts kept.tasks kept.nodes kept.passes;
      exports = exports_stay_true number commit start answers writes before after its purpose written kept.puts puts kept.tasks kept.nodes kept.exports;
    }

pub readings_say_all : ReadingsSayAll
readings_say_all before after same plains kept = record {
  puts = puts_alike before after same kept.puts;
  nodes = nodes_alike before after same kept.nodes;
  tasks = tasks_alike before after same kept.tasks;
  matches = matches_alike before after same kept.matches;
  passes = passes_alike before after same kept.passes;
  exports = exports_alike before after same plains kept.exports;
}

-- a plain value changes nothing that is read
plain_reads : (rows : Rows) (key : Key) (plain : Plain) → versions_read (put rows key (updated (rows key) (SetPlain plain))) ≡ versions_read rows
plain_reads rows key plain = λ i. λ other. plain_keeps rows key (record { conds = []; updates = SetPlain plain ∷ [] }) plain refl other i

pub exports_keep_all : ExportsKeepAll
exports_keep_all number start answers rows key plain base reads is kept =
    let after = put rows key (updated (rows key) (SetPlain plain)) in
    record {
      puts = puts_alike rows after (plain_reads rows key plain) kept.puts;
      nodes = nodes_alike rows after (plain_reads rows key plain) kept.nodes;
      tasks = tasks_alike rows after (plain_reads rows key plain) kept.tasks;
      matches = matches_alike rows after (plain_reads rows key plain) kept.matches;
      passes = passes_alike rows after (plain_reads rows key plain) kept.passes;
      exports = lines_stay_true number start answers rows key plain base reads is kept.puts kept.tasks kept.exports;
    }
