use Rattle.catalogue.proofs.LawLemmas.{file_or_fault, one_file, one_file_fault}
use Rattle.catalogue.proofs.laws.text_is_one_file.Goals as goal

pub returns : goal.returns
returns c = record { file = one_file; fault = one_file_fault; not_both = file_or_fault }
