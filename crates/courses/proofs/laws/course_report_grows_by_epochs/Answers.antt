use Rattle.courses.proofs.ReportLemmas.{by_epochs}
use Rattle.courses.proofs.laws.course_report_grows_by_epochs.Goals as goal

pub returns : goal.returns
returns c = by_epochs
