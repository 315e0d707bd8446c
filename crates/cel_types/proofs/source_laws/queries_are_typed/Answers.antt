use Rattle.cel_types.proofs.QueryLaws as lemma
use Rattle.cel_types.proofs.source_laws.queries_are_typed.Goals as goal

pub returns : goal.returns
returns c = lemma.query-typed
