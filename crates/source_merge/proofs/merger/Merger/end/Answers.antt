use Rattle.source_merge.proofs.MergerLemmas.{turn_within}
use Rattle.source_merge.proofs.merger.Merger.end.Goals as goal

pub get_mut-requires : goal.get_mut-requires
get_mut-requires c = turn_within c.self.inside.sources c.self.inside.turn c.unwrap-file.result c.self.invariant.turn_is c.unwrap-file.ensures
