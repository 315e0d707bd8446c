-- Counts of faults, and the last call, from call to call.
use Rattle.std.proofs.Common.{◌≡◌, ◌∙◌, refl, subst, sym, ℕ, List, None}
use Rattle.cay_host.specs.Calls.{FailedLast}
use Rattle.cay_host.specs.HostLaws.{FailedLast-after}
use Rattle.cay_host.specs.Told.{Told}
use Rattle.catalogue.specs.Judgement.{Judged}
use Rattle.cayuga_run.specs.declared.status.Status.{Status}
use Rattle.cayuga_run.specs.declared.status.Status.TheVariants.{Done, Usage, BadQuery, Cycle, BadEvent, OutOfOrder, AttachFault, ReadFault, WriteFault, TooMuch, Memory, BadControl}
use Rattle.cayuga_run.specs.Begun.{HasAccepted}
use Rattle.cayuga_run.specs.Blaming.{BlamesHost, failed_call}
use Rattle.cayuga_run.specs.LoadOutcome.{LoadFails}
use Rattle.cayuga_run.specs.QueryFailing.{TextFails}
use Rattle.cayuga_run.specs.Works.{Load}

-- no call failed
pub record SameFaults (old new : Told) : Type 0 where
  pub attach : new.attach_faults ≡ old.attach_faults
  pub read : new.read_faults ≡ old.read_faults
  pub write : new.write_faults ≡ old.write_faults
  pub last : FailedLast None old new

-- where no fault rose, and the answer tells of none, none is blamed
pub blames_none : {a b : Told} (status : Status) → failed_call status ≡ None → SameFaults a b → BlamesHost a b status
blames_none {a} {b} status none same = record {
  attach = λ other. same.attach;
  read = λ other. same.read;
  write = λ other. same.write;
  last = subst (λ tells. FailedLast tells a b) (sym none) same.last;
}

-- where no call was made, and the answer tells of no fault, none is blamed
pub blames_nothing : (told : Told) (status : Status) → failed_call status ≡ None → BlamesHost told told status
blames_nothing told status none = blames_none status none (record { attach = refl; read = refl; write = refl; last = λ before. before })

-- what comes behind a call without faults blames as before it
pub blames_after : {a b c : Told} (status : Status) → SameFaults a b → BlamesHost b c status → BlamesHost a c status
blames_after {a} {b} {c} status same blames = record {
  attach = λ other. blames.attach other ∙ same.attach;
  read = λ other. blames.read other ∙ same.read;
  write = λ other. blames.write other ∙ same.write;
  last = FailedLast-after (failed_call status) a b c same.last blames.last;
}

-- two calls without faults have none together
pub faults_after : {a b c : Told} → SameFaults a b → SameFaults b c → SameFaults a c
faults_after first next = record { attach = next.attach ∙ first.attach; read = next.read ∙ first.read; write = next.write ∙ first.write; last = λ before. next.last (first.last before) }

-- nothing failed where queries were accepted
pub accepted_without_fault : {queries : List ℕ} {judged : Judged} {a b : Told} → HasAccepted queries judged a b → SameFaults a b
accepted_without_fault accepted = record { attach = accepted.attach_faults; read = accepted.read_faults; write = accepted.write_faults; last = accepted.none_failed }

-- a job that was done blames no call
pub none_blamed : {a b : Told} → BlamesHost a b Done → SameFaults a b
none_blamed blames = record { attach = blames.attach (λ side e. cc); read = blames.read (λ side e. cc); write = blames.write (λ e. cc); last = blames.last }

-- the judgement of a text tells of no call
pub text_tells_none : (text : List ℕ) (status : Status) → TextFails text status → failed_call status ≡ None
text_tells_none text (BadQuery line why) f = refl
text_tells_none text (Cycle names) f = refl
text_tells_none text Memory f = refl
text_tells_none text Done f = refl
text_tells_none text Usage f = refl
text_tells_none text (BadEvent line why) f = refl
text_tells_none text (OutOfOrder line at seen) f = refl
text_tells_none text (AttachFault side) f = absurd f
text_tells_none text (ReadFault side) f = absurd f
text_tells_none text WriteFault f = absurd f
text_tells_none text (TooMuch most) f = refl
text_tells_none text (BadControl line why) f = refl

-- nor does a run of the generator's texts that has no line
pub load_tells_none : (load : Load) (status : Status) → LoadFails load status → failed_call status ≡ None
load_tells_none load (BadQuery line why) f = refl
load_tells_none load (Cycle names) f = refl
load_tells_none load Memory f = refl
load_tells_none load Done f = refl
load_tells_none load Usage f = refl
load_tells_none load (BadEvent line why) f = refl
load_tells_none load (OutOfOrder line at seen) f = refl
load_tells_none load (AttachFault side) f = absurd f
load_tells_none load (ReadFault side) f = absurd f
load_tells_none load WriteFault f = absurd f
load_tells_none load (TooMuch most) f = refl
load_tells_none load (BadControl line why) f = refl
