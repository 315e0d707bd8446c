use Rattle.source_merge.proofs.FollowLemmas.{turns_are_followed}
use Rattle.source_merge.proofs.laws.merges_follow_the_turns.Goals as goal

pub returns : goal.returns
returns c = turns_are_followed
