-- From what was read of the queries to why they weren't accepted.
use Rattle.std.proofs.Common.{◌≡◌, ◌∙◌, sym, ap, subst, ℕ, ◌+◌, List, [], ◌++◌, Option, Some, None, IfSome, arith, length, true, false, length-append, append-nil}
use Rattle.std.specs.Io.KnownBytes.{prepend_known, append_known}
use Rattle.cay_host.specs.Attaching.{Attaches, AttachFails, SameButSides}
use Rattle.cay_host.specs.Calls.{FailedLast}
use Rattle.cay_host.specs.Files.{file_of, lacks}
use Rattle.cay_host.specs.Input.{SameButRead}
use Rattle.cay_host.specs.declared.side.Side.TheVariants.{Queries, Events}
use Rattle.cay_host.specs.Output.{Wrote, KeepsOutput, add_lines}
use Rattle.cay_host.specs.Told.{Told}
use Rattle.cay_host.specs.Faults.{Rose}
use Rattle.cay_host.proofs.OutputLemmas.{Wrote-nil}
use Rattle.catalogue.specs.Filing.{most_bytes}
use Rattle.catalogue.specs.Judgement.{Verdict, Accepted, Refused, Circle, Accepts, Circles, Judged, Judges, Refuses}
use Rattle.cayuga_run.specs.declared.status.Status.{Status}
use Rattle.cayuga_run.specs.declared.status.Status.TheVariants.{Done, Usage, BadQuery, Cycle, BadEvent, OutOfOrder, AttachFault, ReadFault, WriteFault, TooMuch, Memory, BadControl}
use Rattle.cayuga_run.specs.Begun.{HasAccepted, HasRead}
use Rattle.cayuga_run.specs.QueryFailing.{QueriesFail, TextFails}
use Rattle.cayuga_run.specs.Refusing.{AreNotAccepted, AreNotAttached}
use Rattle.cayuga_run.specs.RunOutcome.{IsAttachFault, IsMemory, IsReadFault, MemoryText, RunOutcome}
use Rattle.cayuga_run.specs.Works.{Run}
use Rattle.cayuga_run.proofs.JudgementLemmas.{past_limit}

-- an output that was as before
pub Wrote-after : {bs : List ℕ} {old mid new : Told} → KeepsOutput old mid → Wrote bs mid new → Wrote bs old new
Wrote-after {bs} s w = record {
  written = w.written ∙ ap (λ o. append_known o bs) s.written;
  lines = w.lines ∙ ap (λ o. add_lines o bs) s.lines;
}

-- nothing was written, whatever is to be
pub memory_silent : (run : Run) (limit : ℕ) (old new : Told) → KeepsOutput old new → IsMemory run limit old new
memory_silent run limit old new keeps =
    record { text = by_files (file_of run.queries old.files) (file_of run.events old.files); no_queries = λ e. keeps; no_events = λ e. keeps }
  where
    by_verdict : (v : Verdict) (events : List ℕ) → MemoryText v limit events old new
    by_verdict (Accepted judged) events = record { size = 0; within = omega arith; wrote = Wrote-after keeps (Wrote-nil new) }
    by_verdict (Refused line why) events = keeps
    by_verdict (Circle names) events = keeps

    by_files : (a b : Option (List ℕ)) → IfSome a (λ queries. IfSome b (λ events. (v : Verdict) → Judges queries v → MemoryText v limit events old new))
    by_files None b = tt
    by_files (Some q) None = tt
    by_files (Some q) (Some e) = λ v says. by_verdict v e

-- the verdict on all that was read of the queries is that on the text
pub judged_whole : (text left : Option (List ℕ)) (bytes : List ℕ) (v : Verdict) → text ≡ prepend_known bytes left → IfSome left (λ rest. rest ≡ []) → Judges bytes v → IfSome text (λ t. Judges t v)
judged_whole text None bytes v e nil says = subst (λ o. IfSome o (λ t. Judges t v)) (sym e) tt
judged_whole text (Some rest) bytes v e nil says =
    let all : bytes ++ rest ≡ bytes = ap (λ r. bytes ++ r) nil ∙ append-nil bytes in
    subst (λ o. IfSome o (λ t. Judges t v)) (sym e) (subst (λ t. Judges t v) (sym all) says)

-- so is that on its first bytes, where they are one more than the limit
pub judged_past : (text left : Option (List ℕ)) (bytes : List ℕ) (v : Verdict) → text ≡ prepend_known bytes left → length bytes ≡ most_bytes + 1 → Judges bytes v → IfSome text (λ t. Judges t v)
judged_past text None bytes v e long says = subst (λ o. IfSome o (λ t. Judges t v)) (sym e) tt
judged_past text (Some rest) bytes v e long says =
    let size = length-append bytes rest in
    subst (λ o. IfSome o (λ t. Judges t v)) (sym e) (past_limit bytes rest v (omega (arith, long)) (omega (arith, long, size)) says)

-- why the queries weren't accepted, as the outcome of the run
pub text_fails : (a : Told) (b : Told) (bytes : List ℕ) (status : Status) → ((v : Verdict) → Judges bytes v → IfSome (a.left Queries) (λ t. Judges t v)) → TextFails bytes status → QueriesFail a b status
text_fails a b bytes (BadQuery line why) h f = h (Refused line why) f
text_fails a b bytes (Cycle names) h f = h (Circle names) f
text_fails a b bytes Memory h f = tt
text_fails a b bytes Done h f = f
text_fails a b bytes Usage h f = f
text_fails a b bytes (BadEvent line why) h f = f
text_fails a b bytes (OutOfOrder line at seen) h f = f
text_fails a b bytes (AttachFault side) h f = f
text_fails a b bytes (ReadFault side) h f = absurd f
text_fails a b bytes WriteFault h f = f
text_fails a b bytes (TooMuch most) h f = f
text_fails a b bytes (BadControl line why) h f = f

-- the queries are attached, and nothing else was done
pub record HasQueries (queries : List ℕ) (old mid : Told) : Type 0 where
  pub there : lacks queries old.files ≡ false
  pub text : mid.left Queries ≡ file_of queries old.files
  pub attached : mid.attached Queries ≡ true
  pub events : mid.attached Events ≡ false
  pub unread : mid.left Events ≡ old.left Events
  pub attach_faults : mid.attach_faults ≡ old.attach_faults
  pub read_faults : mid.read_faults ≡ old.read_faults
  pub write_faults : mid.write_faults ≡ old.write_faults
  pub none_failed : FailedLast None old mid
  pub files : mid.files ≡ old.files
  pub silent : KeepsOutput old mid

-- the queries were attached
pub are_attached : (queries : List ℕ) (old mid : Told) → Attaches Queries queries old mid → SameButSides old mid → mid.attach_faults ≡ old.attach_faults → mid.failed ≡ None → old.attached Events ≡ false → HasQueries queries old mid
are_attached queries old mid attaches same quiet none free = record {
  there = attaches.there;
  text = ap (λ f. f Queries) attaches.left;
  attached = ap (λ f. f Queries) attaches.attached;
  events = ap (λ f. f Events) attaches.attached ∙ free;
  unread = ap (λ f. f Events) attaches.left;
  attach_faults = quiet;
  read_faults = same.read_faults;
  write_faults = same.write_faults;
  none_failed = λ before. none;
  files = same.files;
  silent = record { written = same.written; lines = same.lines };
}

-- the queries couldn't be attached
pub not_attached : (queries : List ℕ) (old new : Told) → AttachFails queries old new → SameButSides old new → old.attached Queries ≡ false → old.attached Events ≡ false → AreNotAttached queries old new
not_attached queries old new fails same queries_free events_free = record {
  cause = fails.cause;
  stopped = (ap (λ f. f Queries) fails.attached ∙ queries_free, ap (λ f. f Events) fails.attached ∙ events_free);
  unread = ap (λ f. f Queries) fails.left;
  others = ap (λ f. f Events) fails.left;
  silent = record { written = same.written; lines = same.lines };
}

-- reading keeps the output
kept_by_reading : {old mid new : Told} → KeepsOutput old mid → SameButRead Queries mid new → KeepsOutput old new
kept_by_reading silent kept = record { written = kept.written ∙ silent.written; lines = kept.lines ∙ silent.lines }

-- the queries that are attached weren't accepted
pub queries_fail : (queries : List ℕ) (old mid new : Told) (status : Status) → HasQueries queries old mid → SameButRead Queries mid new → QueriesFail mid new status → AreNotAccepted queries old new status
queries_fail queries old mid new (BadQuery line why) has kept fails = record {
  there = has.there;
  refused = subst (λ o. IfSome o (λ t. Refuses t line why)) has.text fails;
  silent = kept_by_reading has.silent kept;
}
queries_fail queries old mid new (Cycle names) has kept fails = record {
  there = has.there;
  circles = subst (λ o. IfSome o (λ t. Circles t names)) has.text fails;
  silent = kept_by_reading has.silent kept;
}
queries_fail queries old mid new (ReadFault side) has kept fails = (
  fails.0,
  record {
    cause = subst (λ n. Rose n new.read_faults) has.read_faults fails.1;
    attached = ap (λ f. f Queries) kept.attached ∙ has.attached;
    stopped = record {
      there = has.there;
      events = ap (λ f. f Events) kept.attached ∙ has.events;
      others = ap (λ f. f Events) kept.others ∙ has.unread;
      silent = kept_by_reading has.silent kept;
    };
  },
)
queries_fail queries old mid new Memory has kept fails = kept_by_reading has.silent kept
queries_fail queries old mid new Done has kept fails = absurd fails
queries_fail queries old mid new Usage has kept fails = absurd fails
queries_fail queries old mid new (BadEvent line why) has kept fails = absurd fails
queries_fail queries old mid new (OutOfOrder line at seen) has kept fails = absurd fails
queries_fail queries old mid new (AttachFault side) has kept fails = absurd fails
queries_fail queries old mid new WriteFault has kept fails = absurd fails
queries_fail queries old mid new (TooMuch most) has kept fails = absurd fails
queries_fail queries old mid new (BadControl line why) has kept fails = absurd fails

-- the queries that are attached were accepted
pub queries_accepted : (queries : List ℕ) (judged : Judged) (old mid new : Told) → HasQueries queries old mid → SameButRead Queries mid new → HasRead judged mid new → HasAccepted queries judged old new
queries_accepted queries judged old mid new has kept read = record {
  there = has.there;
  accepts = subst (λ o. IfSome o (λ t. Accepts t judged)) has.text read.accepts;
  attached = ap (λ f. f Queries) kept.attached ∙ has.attached;
  attach_faults = kept.attach_faults ∙ has.attach_faults;
  read_faults = read.read_faults ∙ has.read_faults;
  write_faults = kept.write_faults ∙ has.write_faults;
  none_failed = λ before. read.none_failed (has.none_failed before);
  read = read.read;
  events = ap (λ f. f Events) kept.others ∙ has.unread;
  files = kept.files ∙ has.files;
  silent = kept_by_reading has.silent kept;
}

-- a run whose queries weren't accepted
pub run_fails : (run : Run) (limit : ℕ) (old new : Told) (status : Status) → AreNotAccepted run.queries old new status → RunOutcome run limit old new status
run_fails run limit old new (BadQuery line why) fails = fails
run_fails run limit old new (Cycle names) fails = fails
run_fails run limit old new (AttachFault side) fails =
    subst (λ s. IsAttachFault s run old new) (sym fails.0) (record { cause = fails.1.cause; stopped = fails.1.stopped; accepted = λ e. cc; unread = fails.1.unread; others = fails.1.others; silent = fails.1.silent })
run_fails run limit old new (ReadFault side) fails =
    subst (λ s. IsReadFault s run limit old new) (sym fails.0)
    (record { cause = fails.1.cause; attached = fails.1.attached; queries = λ e. fails.1.stopped; events = λ e. cc })
run_fails run limit old new Memory fails = memory_silent run limit old new fails
run_fails run limit old new Done fails = absurd fails
run_fails run limit old new Usage fails = fails
run_fails run limit old new (BadEvent line why) fails = absurd fails
run_fails run limit old new (OutOfOrder line at seen) fails = absurd fails
run_fails run limit old new WriteFault fails = absurd fails
run_fails run limit old new (TooMuch most) fails = absurd fails
run_fails run limit old new (BadControl line why) fails = absurd fails
