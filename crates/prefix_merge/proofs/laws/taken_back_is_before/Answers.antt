use Rattle.prefix_merge.proofs.BackLemmas as back
use Rattle.prefix_merge.proofs.laws.taken_back_is_before.Goals as goal

pub returns : goal.returns
returns c = back.taken_back_is_before
