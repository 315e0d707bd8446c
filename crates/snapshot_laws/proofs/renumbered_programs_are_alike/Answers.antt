use Rattle.snapshot_laws.proofs.RenumberedReports.{renumbered_programs_report_alike}
use Rattle.snapshot_laws.proofs.renumbered_programs_are_alike.Goals as goal

pub returns : goal.returns
returns c = renumbered_programs_report_alike
