use Rattle.cel_parser.proofs.FaultLemmas.{not-both, one-of-both, one-reading, one-refusal}
use Rattle.cel_parser.proofs.laws.one_answer.Goals as goal

pub returns : goal.returns
returns c = record { reading = one-reading; fault = one-refusal; not_both = not-both; one_of_both = one-of-both }
