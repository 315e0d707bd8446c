use Rattle.text_laws.proofs.SplitLemmas.{late_over_texts}
use Rattle.text_laws.proofs.late_results_depend_on_late_lines.Goals as goal

pub returns : goal.returns
returns c = late_over_texts
