use Rattle.catalogue.proofs.LawLemmas.{one_cycle_of_names, one_name_fault, order_or_cycle, sound_or_fault}
use Rattle.catalogue.proofs.laws.names_have_one_answer.Goals as goal

pub returns : goal.returns
returns c = record { fault = one_name_fault; sound = sound_or_fault; cycle = one_cycle_of_names; order = order_or_cycle }
