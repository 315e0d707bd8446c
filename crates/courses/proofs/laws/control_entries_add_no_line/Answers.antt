use Rattle.courses.proofs.ReportLemmas.{control_entries}
use Rattle.courses.proofs.laws.control_entries_add_no_line.Goals as goal

pub returns : goal.returns
returns c = control_entries
