-- From accepted queries and what was written to the outcome of a writing.
use Rattle.std.proofs.Common.{◌≡◌, sym, subst, ℕ, List, [], Option, Some, None, IfSome}
use Rattle.cay_host.specs.declared.side.Side.TheVariants.{Queries}
use Rattle.cay_host.specs.Faults.{Rose}
use Rattle.cay_host.specs.Files.{file_of}
use Rattle.cay_host.specs.Output.{SameButOutput, Wrote, WrotePart}
use Rattle.cay_host.specs.Told.{Told}
use Rattle.catalogue.specs.Judgement.{Accepts, Judged}
use Rattle.cayuga_run.specs.declared.status.Status.{Status}
use Rattle.cayuga_run.specs.declared.status.Status.TheVariants.{Done, Usage, BadQuery, Cycle, BadEvent, OutOfOrder, AttachFault, ReadFault, WriteFault, TooMuch, Memory, BadControl}
use Rattle.cayuga_run.specs.Accepting.{IsAcceptedWith}
use Rattle.cayuga_run.specs.Begun.{HasAccepted}
use Rattle.cayuga_run.specs.Blaming.{BlamesHost}
use Rattle.cayuga_run.specs.WritingText.{WritesText}
use Rattle.cayuga_run.specs.Refusing.{AreNotAccepted}
use Rattle.cayuga_run.specs.Works.{Writing}
use Rattle.cayuga_run.specs.WritingOutcome.{WritingOutcome}
use Rattle.cayuga_run.proofs.BlamingLemmas.{accepted_without_fault, blames_after}
use Rattle.cayuga_run.proofs.RunLemmas.{Wrote-after}

-- what holds of an accepted text
accepted_so : (file : Option (List ℕ)) (judged : Judged) (P : Judged → Type 0) → IfSome file (λ t. Accepts t judged) → P judged → IfSome file (λ t. IsAcceptedWith t P)
accepted_so None judged P accepts holds = tt
accepted_so (Some t) judged P accepts holds = record { judged = judged; accepts = accepts; holds = holds }

-- a writing whose queries weren't accepted
pub writing_fails : (writing : Writing) (old new : Told) (status : Status) → AreNotAccepted writing.queries old new status → WritingOutcome writing old new status
writing_fails writing old new Done fails = absurd fails
writing_fails writing old new WriteFault fails = absurd fails
writing_fails writing old new (BadQuery line why) fails = fails
writing_fails writing old new (Cycle names) fails = fails
writing_fails writing old new (AttachFault side) fails = fails
writing_fails writing old new (ReadFault side) fails = fails
writing_fails writing old new Memory fails = fails
writing_fails writing old new Usage fails = fails
writing_fails writing old new (BadEvent line why) fails = fails
writing_fails writing old new (BadControl line why) fails = fails
writing_fails writing old new (OutOfOrder line at seen) fails = fails
writing_fails writing old new (TooMuch most) fails = fails

-- the text of the accepted queries, written as far as the host took it
pub writing_ends : (writing : Writing) (judged : Judged) (text : List ℕ) (old mid new : Told) (status : Status)
    → HasAccepted writing.queries judged old mid → text ≡ writing.text_of judged → WritesText text mid new status → SameButOutput mid new → WritingOutcome writing old new status
writing_ends writing judged text old mid new Done has same writes kept = record {
  there = has.there;
  text = accepted_so (file_of writing.queries old.files) judged (λ c. Wrote (writing.text_of c) old new) has.accepts (Wrote-after has.silent (subst (λ t. Wrote t mid new) same writes));
}
writing_ends writing judged text old mid new WriteFault has same writes kept =
    let part = subst (λ t. WrotePart t mid new) same writes.1 in
    record {
      cause = subst (λ n. Rose n new.write_faults) has.write_faults writes.0;
      there = has.there;
      others = subst (λ f. IfSome (f Queries) (λ (rest : List ℕ). rest ≡ [])) (sym kept.left) has.read;
      text = accepted_so (file_of writing.queries old.files) judged (λ c. WrotePart (writing.text_of c) old new) has.accepts (part.0, part.1, Wrote-after has.silent part.2);
    }
writing_ends writing judged text old mid new Memory has same writes kept = absurd writes
writing_ends writing judged text old mid new (BadQuery line why) has same writes kept = absurd writes
writing_ends writing judged text old mid new (Cycle names) has same writes kept = absurd writes
writing_ends writing judged text old mid new (AttachFault side) has same writes kept = absurd writes
writing_ends writing judged text old mid new (ReadFault side) has same writes kept = absurd writes
writing_ends writing judged text old mid new Usage has same writes kept = writes
writing_ends writing judged text old mid new (BadEvent line why) has same writes kept = writes
writing_ends writing judged text old mid new (BadControl line why) has same writes kept = writes
writing_ends writing judged text old mid new (OutOfOrder line at seen) has same writes kept = writes
writing_ends writing judged text old mid new (TooMuch most) has same writes kept = writes

-- what was accepted before a text is written counts no fault
pub accepted_blames : {queries : List ℕ} {judged : Judged} {old middle new : Told} {status : Status} → HasAccepted queries judged old middle → BlamesHost middle new status → BlamesHost old new status
accepted_blames {status = status} accepted later = blames_after status (accepted_without_fault accepted) later
