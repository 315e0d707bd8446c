use Rattle.text_laws.proofs.QueryPartLemmas.{query_parts}
use Rattle.text_laws.proofs.query_parts_report_the_whole.Goals as goal

pub returns : goal.returns
returns c = query_parts
