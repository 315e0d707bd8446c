-- What each answer of the top call says.
use Rattle.std.specs.Prelude.{◌≡◌, ◌≢◌, ◌↔◌, ⊤, ℕ, List, false}
use Rattle.cay_host.specs.declared.side.Side.{Side}
use Rattle.cay_host.specs.declared.side.Side.TheVariants.{Queries}
use Rattle.cay_host.specs.Faults.{Rose}
use Rattle.cay_host.specs.Files.{lacks}
use Rattle.cay_host.specs.Output.{KeepsOutput, Wrote, WrotePart}
use Rattle.cay_host.specs.Told.{Told}
use Rattle.event_csv.specs.declared.fault.LineFault.{LineFault}
use Rattle.catalogue.specs.declared.fault.QueryFault.{QueryFault}
use Rattle.catalogue.specs.Judgement.{Circles, Judges, Refuses, Verdict}
use Rattle.load_texts.specs.EventText.{event_text}
use Rattle.load_texts.specs.QueryText.{query_text}
use Rattle.courses.specs.declared.fault.ControlFault.{ControlFault}
use Rattle.courses.specs.declared.refusal.Refusal.TheVariants.{HasFault, HasControlFault, IsOutOfOrder}
use Rattle.cayuga_run.specs.declared.status.Status.{Status}
use Rattle.cayuga_run.specs.declared.status.Status.TheVariants.{Done, Usage, BadQuery, Cycle, BadEvent, OutOfOrder, AttachFault, ReadFault, WriteFault, TooMuch, Memory, BadControl}
use Rattle.cayuga_run.specs.Blaming.{BlamesHost}
use Rattle.cayuga_run.specs.Expected.{AnswersRefused, IsExpected, IsExpectedExplaining, IsExpectedOrFault, IsExpectedOrMemory, IsExpectedWhole, IsExpectedWriting, IsSteady}
use Rattle.cayuga_run.specs.ExplainOutcome.{IsExplained, IsExplainFault, IsPartlyExplained, IsTooMuchHere, RefusesHere}
use Rattle.cayuga_run.specs.LoadOutcome.{IsLoaded, RefusesLoad}
use Rattle.cayuga_run.specs.Reading.{Reads}
use Rattle.cayuga_run.specs.Refusing.{AreNotAttached, AreNotRead, IsBadQuery, AnswersCycle, OfQueries}
use Rattle.cayuga_run.specs.RunOutcome.{AreThere, IsAttachFault, IsDone, IsMemory, IsReadFault, AnswersRefusal, IsTooMuch, IsWriteFault, OfFiles}
use Rattle.cayuga_run.specs.Works.{Work, Nothing, ByWork, ForEvents, ForQueries, IfQueries, as_run, has_side}
use Rattle.cayuga_run.specs.WritingOutcome.{IsPartlyWritten, IsWritten}

-- the answers of a call for this work with this limit, over what the host told before and after it
pub record Answers (work : Work) (limit : ℕ) (old new : Told) (status : Status) : Type 0 where
  -- the words ask for nothing exactly where the answer is Usage, unless there was no memory, and then nothing was done
  pub usage : status ≢ Memory → ((status ≡ Usage) ↔ (work ≡ Nothing))
  pub usage_does : status ≡ Usage → new ≡ old
  -- what each other answer says
  pub done : status ≡ Done → ByWork work ⊥ (λ run. IsDone run limit old new) (λ writing. IsWritten writing old new) (λ load. IsLoaded Wrote load old new) (λ explaining. IsExplained explaining limit old new)
  pub bad_query : (line : ℕ) (why : QueryFault) → status ≡ BadQuery line why → ForQueries work (λ queries. IsBadQuery line why queries old new) (λ load. Refuses (query_text load.events) line why × KeepsOutput old new)
  pub cycle : (names : List (List ℕ)) → status ≡ Cycle names → ForQueries work (λ queries. AnswersCycle names queries old new) (λ load. Circles (query_text load.events) names × KeepsOutput old new)
  pub bad_event : (line : ℕ) (why : LineFault) → status ≡ BadEvent line why → ForEvents work (λ run. AnswersRefusal (HasFault line why) run limit old new) (λ load. RefusesLoad (HasFault line why) load × KeepsOutput old new) (λ explaining. RefusesHere (HasFault line why) explaining limit old new)
  pub bad_control : (line : ℕ) (why : ControlFault) → status ≡ BadControl line why → ForEvents work (λ run. AnswersRefusal (HasControlFault line why) run limit old new) (λ load. RefusesLoad (HasControlFault line why) load × KeepsOutput old new) (λ explaining. RefusesHere (HasControlFault line why) explaining limit old new)
  pub out_of_order : (line at seen : ℕ) → status ≡ OutOfOrder line at seen → ForEvents work (λ run. AnswersRefusal (IsOutOfOrder line at seen) run limit old new) (λ load. RefusesLoad (IsOutOfOrder line at seen) load × KeepsOutput old new) (λ explaining. RefusesHere (IsOutOfOrder line at seen) explaining limit old new)
  pub too_much : (most : ℕ) → status ≡ TooMuch most → (most ≡ limit) × ForEvents work (λ run. IsTooMuch run limit old new) (λ load. ⊥) (λ explaining. IsTooMuchHere explaining limit old new)
  pub attach_fault : (side : Side) → status ≡ AttachFault side → ByWork work ⊥ (λ run. IsAttachFault side run old new) (λ writing. (side ≡ Queries) × AreNotAttached writing.queries old new) (λ load. ⊥) (λ explaining. IsAttachFault side (as_run explaining) old new)
  pub read_fault : (side : Side) → status ≡ ReadFault side → ByWork work ⊥ (λ run. IsReadFault side run limit old new) (λ writing. (side ≡ Queries) × AreNotRead writing.queries old new) (λ load. ⊥) (λ explaining. IsExplainFault side explaining limit old new)
  pub write_fault : status ≡ WriteFault → ByWork work ⊥ (λ run. IsWriteFault run limit old new) (λ writing. IsPartlyWritten writing old new) (λ load. Rose old.write_faults new.write_faults × IsLoaded WrotePart load old new) (λ explaining. IsPartlyExplained explaining limit old new)
  pub memory : status ≡ Memory → ByWork work (new ≡ old) (λ run. IsMemory run limit old new) (λ writing. KeepsOutput old new) (λ load. KeepsOutput old new) (λ explaining. KeepsOutput old new)
  -- a fault of the host is the answer, and nothing was read or written behind it
  pub blames : BlamesHost old new status
  -- how much of its files was read
  pub reads : Reads work limit old new
  -- no side is attached that the work doesn't have
  pub sides : (side : Side) → has_side work side ≡ false → new.attached side ≡ false
  -- a refused query text decides the answer whatever the events, unless the queries couldn't be attached or read or there was no memory
  pub refused : IfQueries work (λ queries. OfQueries queries old (λ text. (v : Verdict) → Judges text v → AnswersRefused v status)) (λ load. (v : Verdict) → Judges (query_text load.events) v → AnswersRefused v status)
  -- the texts decide the answer, unless the host failed or there was no memory
  pub determined : ByWork work ⊤
      (λ run. OfFiles run old (λ queries events. IsExpectedOrFault (IsExpected limit queries events) status))
      (λ writing. OfQueries writing.queries old (λ queries. IsExpectedOrFault (IsExpectedWriting queries) status))
      (λ load. IsExpectedOrFault (IsExpectedWhole (query_text load.events) (event_text load.seed load.events)) status)
      (λ explaining. OfFiles (as_run explaining) old (λ queries events. IsExpectedOrFault (IsExpectedExplaining limit queries events) status))
  -- where no call of the host failed and the files are there, the texts decide the answer, unless there was no memory
  pub complete : ByWork work ⊤
      (λ run. IsSteady old new → AreThere run old → OfFiles run old (λ queries events. IsExpectedOrMemory (IsExpected limit queries events) status))
      (λ writing. IsSteady old new → lacks writing.queries old.files ≡ false → OfQueries writing.queries old (λ queries. IsExpectedOrMemory (IsExpectedWriting queries) status))
      (λ load. IsSteady old new → IsExpectedOrMemory (IsExpectedWhole (query_text load.events) (event_text load.seed load.events)) status)
      (λ explaining. IsSteady old new → AreThere (as_run explaining) old → OfFiles (as_run explaining) old (λ queries events. IsExpectedOrMemory (IsExpectedExplaining limit queries events) status))
