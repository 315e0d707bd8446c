use Rattle.prefix_merge.proofs.ListedLemmas.{prefixes_are_listed}
use Rattle.prefix_merge.proofs.laws.prefixes_are_listed.Goals as goal

pub returns : goal.returns
returns c = prefixes_are_listed
