use Rattle.cel_parser.proofs.SourceComplete.{one_source}
use Rattle.cel_parser.proofs.StatementComplete.{file_same, statement_same}
use Rattle.cel_parser.proofs.Whole.{one_pred, one_scalar}
use Rattle.cel_parser.proofs.grammar_laws.one_reading.Goals as goal

pub returns : goal.returns
returns c = record {
  scalar = one_scalar;
  predicate = one_pred;
  source = one_source;
  statement = λ ts s t h k. (statement_same ts _ _ s t h k).statement;
  file = λ ts ss others h k. file_same h others k;
}
