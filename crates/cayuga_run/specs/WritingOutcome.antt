-- What the writing of a text about queries has done, by its status.
use Rattle.std.specs.Prelude.{◌≡◌, false}
use Rattle.cay_host.specs.declared.side.Side.TheVariants.{Events}
use Rattle.cay_host.specs.Faults.{Rose}
use Rattle.cay_host.specs.Files.{lacks}
use Rattle.cay_host.specs.Output.{Wrote, WrotePart}
use Rattle.cay_host.specs.Told.{Told}
use Rattle.cayuga_run.specs.declared.status.Status.{Status}
use Rattle.cayuga_run.specs.declared.status.Status.TheVariants.{Done, WriteFault}
use Rattle.cayuga_run.specs.Accepting.{IsAcceptedWith}
use Rattle.cayuga_run.specs.Refusing.{AreNotAccepted, OfQueries, ReadsUpTo}
use Rattle.cayuga_run.specs.Works.{Writing}

-- the query text is accepted, and its text was written
pub record IsWritten (writing : Writing) (old new : Told) : Type 0 where
  pub there : lacks writing.queries old.files ≡ false
  pub text : OfQueries writing.queries old (λ queries. IsAcceptedWith queries (λ judged. Wrote (writing.text_of judged) old new))

-- the count of write faults rose, and a proper prefix of the text was written
pub record IsPartlyWritten (writing : Writing) (old new : Told) : Type 0 where
  pub cause : Rose old.write_faults new.write_faults
  pub there : lacks writing.queries old.files ≡ false
  pub others : ReadsUpTo Events old new
  pub text : OfQueries writing.queries old (λ queries. IsAcceptedWith queries (λ judged. WrotePart (writing.text_of judged) old new))

-- the table of the statuses of a writing; where it stopped before, nothing was written
abbrev pub WritingOutcome : Writing → Told → Told → Status → Type 0
WritingOutcome writing old new Done = IsWritten writing old new
WritingOutcome writing old new WriteFault = IsPartlyWritten writing old new
WritingOutcome writing old new other = AreNotAccepted writing.queries old new other
