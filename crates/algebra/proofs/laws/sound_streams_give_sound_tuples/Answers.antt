use Rattle.algebra.proofs.SoundLemmas.{denote_sound}
use Rattle.algebra.proofs.laws.sound_streams_give_sound_tuples.Goals as goal

pub returns : goal.returns
returns c e streams all = denote_sound streams all e
