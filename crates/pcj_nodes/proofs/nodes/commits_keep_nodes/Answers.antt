use Rattle.pcj_nodes.proofs.NodeLemmas.{nodes_stay_true}
use Rattle.pcj_nodes.proofs.PutLemmas.{puts_stay}
use Rattle.pcj_nodes.proofs.TaskLemmas.{tasks_keep_origins}
use Rattle.pcj_nodes.proofs.nodes.commits_keep_nodes.Goals as goal

pub returns : goal.returns
returns c number commit start answers writes before after its purpose puts true_rows tasks =
    let puts' = puts_stay number commit start answers writes before after its purpose puts in
    (puts', nodes_stay_true number commit start answers writes before after its purpose puts puts' tasks true_rows, tasks_keep_origins number commit start answers writes before after its purpose puts puts' true_rows tasks)
