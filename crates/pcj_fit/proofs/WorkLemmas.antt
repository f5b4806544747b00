-- What workers leave of the triples and of the registered queries: all of them.
use Rattle.pcj_encode.specs.declared.order.Order.TheVariants.{Spo}
use Rattle.pcj_encode.specs.declared.key_name.KeyName.TheVariants as row
use Rattle.pcj_rowtables.specs.Rows.{triple_key}
use Rattle.pcj_moves.specs.Moves.{CommitPrimary, rows_after}
use Rattle.pcj_moves.proofs.StandingLemmas.{one_move_changes}
use Rattle.pcj_fit.specs.Queries.{HasQueries}
use Rattle.pcj_rows.specs.Triples.{HasTriples}
use Rattle.pcj_fit.specs.WorkLaws.{WorkLeavesQueries, WorkLeavesTriples, WorkStepLeavesQueries, WorkStepLeavesTriples}
use Rattle.pcj_rows.specs.Workers.{IsWorkerPlan}
use Rattle.pcj_fit.proofs.FitLemmas.{work_leaves_registrations}
use Rattle.pcj_fit.proofs.QueryLemmas.{moves_leave_queries, queries_stay}
use Rattle.pcj_fit.proofs.StepLemmas.{step_turns}
use Rattle.pcj_fit.proofs.TripleLemmas.{moves_leave_triples, same_triples}
use Rattle.pcj_rows.proofs.WorkerLemmas.{work_leaves}

pub work_leaves_triples : WorkLeavesTriples
work_leaves_triples number rows actor others write commit known plan may sound has =
    let whole = one_move_changes number rows actor others (CommitPrimary write commit) may sound.consistent in
    same_triples rows (rows_after (CommitPrimary write commit) actor rows) known
    (λ triple valid. (whole.others (triple_key Spo triple) (work_leaves actor.start actor.answers actor.transaction.writes (row.Triple Spo triple) plan valid (λ other e. cc) (λ registration node cells e. cc))).stands) has

pub work_leaves_queries : WorkLeavesQueries
work_leaves_queries number rows actor others write commit known plan may sound has =
    queries_stay rows (rows_after (CommitPrimary write commit) actor rows) known
    (work_leaves_registrations actor.start actor.answers actor.transaction.writes commit rows (rows_after (CommitPrimary write commit) actor rows) plan
    (one_move_changes number rows actor others (CommitPrimary write commit) may sound.consistent)) has

pub work_step_leaves_triples : WorkStepLeavesTriples
work_step_leaves_triples moves number rows actor number' rows' actor' others known steady makes sound plan undone done has =
    step_turns IsWorkerPlan (λ r. HasTriples r known) (λ r. HasTriples r known) (record {
      kept = λ n r a os move other may s h. moves_leave_triples n r a os move known other may s h;
      kept_after = λ n r a os move other may s h. moves_leave_triples n r a os move known other may s h;
      commits = λ n r a os write commit its may s h. work_leaves_triples n r a os write commit known its may s h;
      nothing = λ n r a os its s h. h;
    }) moves number rows actor number' rows' actor' others steady makes sound plan undone done has

pub work_step_leaves_queries : WorkStepLeavesQueries
work_step_leaves_queries moves number rows actor number' rows' actor' others known steady makes sound plan undone done has =
    step_turns IsWorkerPlan (λ r. HasQueries r known) (λ r. HasQueries r known) (record {
      kept = λ n r a os move other may s h. moves_leave_queries n r a os move known other may s h;
      kept_after = λ n r a os move other may s h. moves_leave_queries n r a os move known other may s h;
      commits = λ n r a os write commit its may s h. work_leaves_queries n r a os write commit known its may s h;
      nothing = λ n r a os its s h. h;
    }) moves number rows actor number' rows' actor' others steady makes sound plan undone done has
