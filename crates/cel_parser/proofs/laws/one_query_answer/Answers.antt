use Rattle.cel_parser.proofs.QueryLemmas.{one-query-fault, one-query-reading, query-not-both, query-or-fault}
use Rattle.cel_parser.proofs.laws.one_query_answer.Goals as goal

pub returns : goal.returns
returns c = record { reading = one-query-reading; fault = one-query-fault; not_both = query-not-both; one_of_both = query-or-fault }
