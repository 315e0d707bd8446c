use Rattle.command_line.proofs.JobLemmas.{job-flagged, job-no_value, job-one_value, job-two_values}
use Rattle.command_line.proofs.TwiceLemmas.{job-two_flags}
use Rattle.command_line.proofs.laws.plain_words_are_jobs.Goals as goal

pub returns : goal.returns
returns c = record { none = job-no_value; one = job-one_value; two = job-two_values; flagged = job-flagged; twice = job-two_flags }
