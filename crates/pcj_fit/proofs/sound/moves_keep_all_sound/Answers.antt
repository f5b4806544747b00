use Rattle.pcj_fit.proofs.SoundLemmas.{move_is_sound}
use Rattle.pcj_fit.proofs.sound.moves_keep_all_sound.Goals as goal

pub returns : goal.returns
returns c = move_is_sound
