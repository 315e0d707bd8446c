use Rattle.history_laws.proofs.SpanLemmas.{results_span}
use Rattle.history_laws.proofs.limits_bound_spans.Goals as goal

pub returns : goal.returns
returns c = results_span
