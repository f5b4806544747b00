use Rattle.pcj_moves.proofs.StandingLemmas.{one_move_changes}
use Rattle.pcj_moves.proofs.standing.only_commits_change_what_stands.Goals as goal

pub returns : goal.returns
returns c = one_move_changes
