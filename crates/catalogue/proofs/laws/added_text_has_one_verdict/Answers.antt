use Rattle.catalogue.proofs.AddingLemmas.{one_added_verdict, some_added_verdict}
use Rattle.catalogue.proofs.laws.added_text_has_one_verdict.Goals as goal

pub returns : goal.returns
returns c = record { one = one_added_verdict; some = some_added_verdict }
