use Rattle.pcj_fit.proofs.SoundLemmas.{fit_grows, fit_is_sound, sound_is_fit}
use Rattle.pcj_fit.proofs.TripleLemmas.{clock_alone_is_fit}
use Rattle.pcj_fit.proofs.sound.fit_tables_are_sound.Goals as goal

pub returns-clause-sound : goal.returns-clause-sound
returns-clause-sound c = fit_is_sound

pub returns-clause-fit : goal.returns-clause-fit
returns-clause-fit c = sound_is_fit

pub returns-clause-grows : goal.returns-clause-grows
returns-clause-grows c = fit_grows

pub returns-clause-clock : goal.returns-clause-clock
returns-clause-clock c = clock_alone_is_fit
