use Rattle.binding_index.proofs.EqualityLemmas.{distinct_keys}
use Rattle.binding_index.proofs.directory.Directory.pairs.Goals as goal

pub returns-clause-distinct : goal.returns-clause-distinct
returns-clause-distinct c = rw (← c.self.view_is) (distinct_keys _ c.len-len.ensures.unique)
