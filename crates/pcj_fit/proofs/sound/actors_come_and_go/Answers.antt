use Rattle.pcj_fit.proofs.SoundLemmas.{back_is_sound, begin_is_sound, end_is_sound, first_is_sound, higher_is_sound}
use Rattle.pcj_fit.proofs.sound.actors_come_and_go.Goals as goal

pub returns-clause-begins : goal.returns-clause-begins
returns-clause-begins c = begin_is_sound

pub returns-clause-ends : goal.returns-clause-ends
returns-clause-ends c = end_is_sound

pub returns-clause-higher : goal.returns-clause-higher
returns-clause-higher c = higher_is_sound

pub returns-clause-first : goal.returns-clause-first
returns-clause-first c = first_is_sound

pub returns-clause-back : goal.returns-clause-back
returns-clause-back c = back_is_sound
