use Rattle.text_laws.proofs.SplitLemmas.{part_reports}
use Rattle.text_laws.proofs.parts_by_a_key_report_their_keys.Goals as goal

pub returns : goal.returns
returns c = part_reports
