use Rattle.history_laws.proofs.KeyLemmas.{results_of_part}
use Rattle.history_laws.proofs.parts_by_a_key_have_their_results.Goals as goal

pub returns : goal.returns
returns c program history keys is_ours = results_of_part keys is_ours program history
