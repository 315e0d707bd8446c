use Rattle.catalogue.proofs.NewcomerLemmas.{newcomers_are_unknown, none_is_latest}
use Rattle.catalogue.proofs.laws.newcomers_are_new.Goals as goal

pub returns : goal.returns
returns c = record { latest = none_is_latest; unknown = newcomers_are_unknown }
