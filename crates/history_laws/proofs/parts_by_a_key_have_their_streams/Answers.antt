use Rattle.history_laws.proofs.KeyLemmas.{streams_of_part}
use Rattle.history_laws.proofs.parts_by_a_key_have_their_streams.Goals as goal

pub returns : goal.returns
returns c program history keys is_ours = streams_of_part keys is_ours program history
