use Rattle.derivations.specs.DerivedPrograms.{derived_env}
use Rattle.derivations.specs.DerivedTuples.{derivations_in}
use Rattle.derivations.proofs.DistinctLemmas.{env_distinct}
use Rattle.derivations.proofs.DistinctLists.{pairs_differ}
use Rattle.derivations.proofs.laws.derivations_differ.Goals as goal

pub returns : goal.returns
returns c program history stream = pairs_differ (derivations_in (derived_env program history stream)) (env_distinct program history stream)
