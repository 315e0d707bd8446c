use Rattle.cel_parser.proofs.PredicateComplete.{pred_tests, scalar_plain}
use Rattle.cel_parser.proofs.grammar_laws.parentheses_tell.Goals as goal

pub returns : goal.returns
returns c = record { predicate = λ ts rest p h. pred_tests h 0; scalar = λ ts rest x h. scalar_plain h 0 }
