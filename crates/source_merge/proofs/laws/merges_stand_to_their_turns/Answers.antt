use Rattle.source_merge.proofs.StandingLemmas.{begun_stands, ended_stands, given_stands, taken_stands}
use Rattle.source_merge.proofs.laws.merges_stand_to_their_turns.Goals as goal

pub returns : goal.returns
returns c = record { begun = begun_stands; taken = taken_stands; ended = ended_stands; given = given_stands }
