use Rattle.clap.specs.Matches.{found_of}
use Rattle.clap.specs.Walk.{rows_of}
use Rattle.command_line.proofs.RangeLemmas.{found-in_range}
use Rattle.command_line.proofs.table.job_of.Goals as goal

pub returns-in-Some-clause-in_range : goal.returns-in-Some-clause-in_range
returns-in-Some-clause-in_range c = found-in_range c.job_in.result (rows_of (found_of c.in-Some.found)) c.job_in.ensures
