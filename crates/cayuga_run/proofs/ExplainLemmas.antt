-- From what was heard of the events to the outcome of an explaining.
use Rattle.std.proofs.Common.{◌≡◌, ◌∙◌, sym, ap, refl, subst, ℕ, ◌+◌, ◌-◌, ◌<◌, ◌≤◌, List, [], ◌++◌, map, Bool, true, false, Option, Some, None, IfSome, arith, length, take, length-append, append-nil}
use Rattle.std.proofs.lemmas.Bool.{le-leb}
use Rattle.std.proofs.lemmas.List.{map-append, take_all, take-append-le}
use Rattle.std.specs.Io.KnownBytes.{prepend_known}
use Rattle.cay_host.specs.declared.side.Side.TheVariants.{Queries, Events}
use Rattle.cay_host.specs.Attaching.{AttachFails, Attaches}
use Rattle.cay_host.specs.Faults.{Rose}
use Rattle.cay_host.specs.Files.{file_of}
use Rattle.cay_host.specs.Input.{SameButRead}
use Rattle.cay_host.specs.Output.{KeepsOutput, SameButOutput, Wrote, WrotePart}
use Rattle.cay_host.specs.Told.{Told}
use Rattle.semantics.specs.Programs.{Program}
use Rattle.catalogue.specs.Judgement.{Judged, program_of}
use Rattle.event_csv.specs.Lines.{Line, lines}
use Rattle.derivations.specs.declared.history.Heard.{Heard}
use Rattle.courses.specs.declared.refusal.Refusal.{Refusal}
use Rattle.courses.specs.declared.refusal.Refusal.TheVariants.{HasFault, HasControlFault, IsOutOfOrder}
use Rattle.courses.specs.EventLines.{reading_here, refused}
use Rattle.courses.specs.QuerySet.{set_of}
use Rattle.courses.proofs.ClosedLemmas.{lines_on}
use Rattle.explanation.specs.Explained.{IsExplanation}
use Rattle.explanation.proofs.HeardLemmas.{refused_stays}
use Rattle.cayuga_run.specs.declared.status.Status.{Status}
use Rattle.cayuga_run.specs.declared.status.Status.TheVariants.{Done, Usage, BadQuery, Cycle, BadEvent, OutOfOrder, AttachFault, ReadFault, WriteFault, TooMuch, Memory, BadControl}
use Rattle.cayuga_run.specs.Accepting.{IsAcceptedWith}
use Rattle.cayuga_run.specs.Begun.{HasAccepted}
use Rattle.cayuga_run.specs.ExplainOutcome.{ExplainOutcome, Explains, IsExplainFault, IsTooMuchHere, RefusesHere}
use Rattle.cayuga_run.specs.HearingHere.{HearsEvents, HearsHere, HearsToEnd, RefusedHere, WritesExplanation}
use Rattle.cayuga_run.specs.HearingHere as heard
use Rattle.cayuga_run.specs.Here.{events_here, refused_here}
use Rattle.cayuga_run.specs.Reading.{ReadsNoEvents, ReadsQueries, ReadsToExplain, StopsInPieceHere}
use Rattle.cayuga_run.specs.Refusing.{AreNotAccepted, ReadsUpTo}
use Rattle.cayuga_run.specs.RunOutcome.{IsAttachFault, is_whole}
use Rattle.cayuga_run.specs.Works.{Explaining, as_run}
use Rattle.cayuga_run.specs.WritingText.{WritesText}
use Rattle.cayuga_run.proofs.OutcomeLemmas.{IsRunReady, at_end, of_both, take_of_both}
use Rattle.cayuga_run.proofs.ReadingLemmas.{accepted_as, both_ways, queries_then}
use Rattle.cayuga_run.proofs.RunLemmas.{Wrote-after}

-- a refused line is refused whatever bytes follow
stays_here : (judged : Judged) (text more : List ℕ) (ended : Bool) (refusal : Refusal) → refused_here judged text false ≡ Some refusal → refused_here judged (text ++ more) ended ≡ Some refusal
stays_here judged text more ended refusal e =
    let on = lines_on text more ended in
    let read : Line → _ = reading_here (set_of judged).streams in
    ap (λ ls. refused (map read ls)) on.1 ∙ ap refused (map-append read (lines text false) on.0) ∙ refused_stays None (map read (lines text false)) (map read on.0) refusal e

module _ {explaining : Explaining} (limit : ℕ) {judged : Judged} {old mid new : Told} (r : IsRunReady (as_run explaining) judged old mid) (same : SameButRead Events mid new) where
  -- reading writes nothing
  pub silent_here : KeepsOutput old new
  silent_here = record { written = same.written ∙ r.silent.written; lines = same.lines ∙ r.silent.lines }

  -- and leaves the queries as they are
  pub queries_here : ReadsUpTo Events old new
  queries_here = subst (λ o. IfSome o (λ (rest : List ℕ). rest ≡ [])) (sym (ap (λ f. f Queries) same.others)) r.read

  -- where the events have ended they are the bytes that were taken
  whole_here : {bytes : List ℕ} {refusal : Option Refusal} → HearsToEnd judged limit bytes refusal mid new → (rest : List ℕ) → new.left Events ≡ Some rest → bytes ≡ bytes ++ rest
  whole_here {bytes} h rest e = sym (ap (λ k. bytes ++ k) (at_end (new.left Events) rest (h.takes.whole refl).1 e) ∙ append-nil bytes)

  -- a refused line
  refused_here_after : (refusal : Refusal) → RefusedHere judged limit refusal mid new → RefusesHere refusal explaining limit old new
  refused_here_after refusal (heard.before {bytes} h) = record {
    there = r.there;
    text = of_both _ _ (new.left Events) judged bytes (λ c e. refused_here c (take limit e) (is_whole limit e) ≡ Some refusal) r.accept (sym r.events ∙ h.front)
        (λ rest e. ap (λ text. refused_here judged text (is_whole limit (bytes ++ rest))) (take_of_both limit bytes rest)
        ∙ stays_here judged (take limit bytes) (take (limit - length bytes) rest) (is_whole limit (bytes ++ rest)) refusal h.refused);
    silent = silent_here;
  }
  refused_here_after refusal (heard.ended {bytes} h) = record {
    there = r.there;
    text = of_both _ _ (new.left Events) judged bytes (λ c e. refused_here c (take limit e) (is_whole limit e) ≡ Some refusal) r.accept (sym r.events ∙ h.takes.front)
        (λ rest e. let within = (h.takes.whole refl).0 in
        subst (λ text. refused_here judged (take limit text) (is_whole limit text) ≡ Some refusal) (whole_here h rest e)
        (ap (λ b. refused_here judged (take limit bytes) b) (le-leb (length bytes) limit within) ∙ ap (λ text. refused_here judged text true) (take_all limit bytes within) ∙ h.refused));
    silent = silent_here;
  }

  -- events past the limit
  too_much_here : (bytes : List ℕ) → length bytes ≡ limit + 1 → HearsHere judged limit bytes None mid new → IsTooMuchHere explaining limit old new
  too_much_here bytes long h = record {
    there = r.there;
    taken = record { taken = bytes; size = long; front = sym r.events ∙ h.front };
    text = of_both _ _ (new.left Events) judged bytes (λ c e. (limit < length e) × (refused_here c (take limit e) false ≡ None)) r.accept (sym r.events ∙ h.front)
        (λ rest e.
        let size = length-append bytes rest in
        let enough : limit ≤ length bytes = omega (arith, long) in
        (omega (arith, long, size), ap (λ text. refused_here judged text false) (take-append-le limit bytes rest enough) ∙ h.refused));
    silent = silent_here;
  }

  -- a read that failed
  read_fault_here : Rose mid.read_faults new.read_faults → (bytes : List ℕ) → length bytes ≤ limit → HearsHere judged limit bytes None mid new → IsExplainFault Events explaining limit old new
  read_fault_here rose bytes within h = record {
    cause = subst (λ n. Rose n new.read_faults) r.read_faults rose;
    attached = ap (λ f. f Events) same.attached ∙ r.events_attached;
    queries = λ e. cc;
    events = λ _. record {
      there = r.there;
      others = queries_here;
      text = of_both _ _ (new.left Events) judged bytes (λ c e. (taken : List ℕ) × (Some e ≡ prepend_known taken (new.left Events)) × (length taken ≤ limit) × (refused_here c taken false ≡ None)) r.accept (sym r.events ∙ h.front)
          (λ rest e. (bytes, ap (prepend_known bytes) (sym e), within, ap (λ text. refused_here judged text false) (sym (take_all limit bytes within)) ∙ h.refused));
      silent = silent_here;
    };
  }

  -- the outcome where the hearing stopped before the end of the events
  pub explain_stops : (history : List Heard) (status : Status) → HearsEvents judged limit history mid new status → (status ≡ Done → ⊥) → ExplainOutcome explaining limit old new status
  explain_stops history Done h other = absurd (other refl)
  explain_stops history Usage h other = h
  explain_stops history (BadQuery line why) h other = absurd h
  explain_stops history (Cycle names) h other = absurd h
  explain_stops history (BadEvent line why) h other = refused_here_after (HasFault line why) h
  explain_stops history (OutOfOrder line at seen) h other = refused_here_after (IsOutOfOrder line at seen) h
  explain_stops history (AttachFault side) h other = absurd h
  explain_stops history (ReadFault side) h other = subst (λ k. IsExplainFault k explaining limit old new) (sym h.0) (read_fault_here h.1 h.2.0 h.2.1 h.2.2)
  explain_stops history WriteFault h other = absurd h
  explain_stops history (TooMuch most) h other = (h.0, too_much_here h.1.0 h.1.1 h.1.2)
  explain_stops history Memory h other = silent_here
  explain_stops history (BadControl line why) h other = refused_here_after (HasControlFault line why) h

  -- all events were heard, and the text was written as far as the host took it
  module _ {last : Told} (history : List Heard) (bytes : List ℕ) (h : HearsToEnd judged limit bytes None mid new) (is : history ≡ events_here judged bytes) (kept : SameButOutput new last) where
    none_left : IfSome (last.left Events) (λ rest. rest ≡ [])
    none_left = subst (λ f. IfSome (f Events) (λ (rest : List ℕ). rest ≡ [])) (sym kept.left) (h.takes.whole refl).1

    explains_by : (W : List ℕ → Told → Told → Type 0) (text : List ℕ) → IsExplanation (program_of judged) history text → W text old last → Explains W judged bytes limit old last
    explains_by W text explained wrote = ((h.takes.whole refl).0, h.refused, (text, subst (λ lines. IsExplanation (program_of judged) lines text) is explained, wrote))

    explained_text_of : (W : List ℕ → Told → Told → Type 0) → Explains W judged bytes limit old last
        → IfSome (file_of explaining.queries old.files) (λ queries. IfSome (file_of explaining.events old.files) (λ events. IsAcceptedWith queries (λ c. Explains W c events limit old last)))
    explained_text_of W explains =
        of_both _ _ (last.left Events) judged bytes (λ c e. Explains W c e limit old last) r.accept (sym r.events ∙ h.takes.front ∙ ap (λ f. prepend_known bytes (f Events)) (sym kept.left))
        (λ rest e. subst (λ text. Explains W judged text limit old last) (sym (ap (λ k. bytes ++ k) (at_end (last.left Events) rest none_left e) ∙ append-nil bytes)) explains)

    -- by the status of the writing
    pub explain_ends : (status : Status) → WritesExplanation (program_of judged) history new last status → ExplainOutcome explaining limit old last status
    explain_ends Done (text, explained, wrote) = record { there = r.there; text = explained_text_of Wrote (explains_by Wrote text explained (Wrote-after silent_here wrote)); ended = none_left }
    explain_ends WriteFault (rose, (text, explained, part)) = record {
      cause = subst (λ n. Rose n last.write_faults) (same.write_faults ∙ r.write_faults) rose;
      there = r.there;
      others = subst (λ f. IfSome (f Queries) (λ (rest : List ℕ). rest ≡ [])) (sym kept.left) queries_here;
      text = explained_text_of WrotePart (explains_by WrotePart text explained (part.0, part.1, Wrote-after silent_here part.2));
      ended = none_left;
    }
    explain_ends Memory keeps = record { written = keeps.written ∙ silent_here.written; lines = keeps.lines ∙ silent_here.lines }
    explain_ends Usage w = w
    explain_ends (BadQuery line why) w = absurd w
    explain_ends (Cycle names) w = absurd w
    explain_ends (BadEvent line why) w = absurd w
    explain_ends (OutOfOrder line at seen) w = absurd w
    explain_ends (AttachFault side) w = absurd w
    explain_ends (ReadFault side) w = absurd w
    explain_ends (TooMuch most) w = absurd w
    explain_ends (BadControl line why) w = absurd w

-- an explaining whose queries weren't accepted
pub explain_fails : (explaining : Explaining) (limit : ℕ) (old new : Told) (status : Status) → AreNotAccepted explaining.queries old new status → ExplainOutcome explaining limit old new status
explain_fails explaining limit old new (BadQuery line why) fails = fails
explain_fails explaining limit old new (Cycle names) fails = fails
explain_fails explaining limit old new (AttachFault side) fails =
    subst (λ s. IsAttachFault s (as_run explaining) old new) (sym fails.0)
    (record { cause = fails.1.cause; stopped = fails.1.stopped; accepted = λ e. cc; unread = fails.1.unread; others = fails.1.others; silent = fails.1.silent })
explain_fails explaining limit old new (ReadFault side) fails =
    subst (λ s. IsExplainFault s explaining limit old new) (sym fails.0) (record { cause = fails.1.cause; attached = fails.1.attached; queries = λ e. fails.1.stopped; events = λ e. cc })
explain_fails explaining limit old new Memory fails = fails
explain_fails explaining limit old new Done fails = absurd fails
explain_fails explaining limit old new Usage fails = fails
explain_fails explaining limit old new (BadEvent line why) fails = absurd fails
explain_fails explaining limit old new (OutOfOrder line at seen) fails = absurd fails
explain_fails explaining limit old new WriteFault fails = absurd fails
explain_fails explaining limit old new (TooMuch most) fails = absurd fails
explain_fails explaining limit old new (BadControl line why) fails = absurd fails

-- the events weren't attached
pub explains_no_events : {queries : List ℕ} {old new : Told} (events : List ℕ) (limit : ℕ) → ReadsNoEvents queries old new → new.attached Events ≡ false → ReadsToExplain queries events limit old new
explains_no_events events limit r free = record {
  of_queries = r.of_queries;
  unattached = λ e. r.of_events;
  first = λ e. both_ways e free;
  attached = λ e. both_ways e free;
}

module _ {queries : List ℕ} {judged : Judged} {first before : Told} (events : List ℕ) (limit : ℕ) (has : HasAccepted queries judged first before) (r : ReadsQueries queries first before) where
  -- the queries were accepted, and the events couldn't be attached
  pub explains_before_events : {new : Told} → AttachFails events before new → before.attached Events ≡ false → ReadsToExplain queries events limit first new
  explains_before_events {new} fails free =
      let unattached : new.attached Events ≡ false = ap (λ f. f Events) fails.attached ∙ free in
      record {
        of_queries = queries_then r (ap (λ f. f Queries) fails.attached) (ap (λ f. f Queries) fails.left);
        unattached = λ e. ap (λ f. f Events) fails.left ∙ has.events;
        first = λ e. both_ways e unattached;
        attached = λ e. both_ways e unattached;
      }

  -- the events were attached and read, and then at most something was written
  pub explains_events : {mid heard new : Told} → Attaches Events events before mid → SameButRead Events mid heard → SameButOutput heard new → StopsInPieceHere judged limit (mid.left Events) (heard.left Events) → ReadsToExplain queries events limit first new
  explains_events {mid} {heard} {new} attaches read kept stops =
      let same_queries : new.left Queries ≡ before.left Queries = ap (λ f. f Queries) kept.left ∙ ap (λ f. f Queries) read.others ∙ ap (λ f. f Queries) attaches.left in
      let same_attached : new.attached ≡ mid.attached = kept.attached ∙ read.attached in
      let text : mid.left Events ≡ file_of events first.files = ap (λ f. f Events) attaches.left ∙ ap (file_of events) has.files in
      record {
        of_queries = queries_then r (ap (λ f. f Queries) same_attached ∙ ap (λ f. f Queries) attaches.attached) same_queries;
        unattached = λ e. both_ways (ap (λ f. f Events) same_attached ∙ ap (λ f. f Events) attaches.attached) e;
        first = λ e. subst (λ o. IfSome o (λ (rest : List ℕ). rest ≡ [])) (sym same_queries) has.read;
        attached = λ e. accepted_as (file_of queries first.files) judged (λ c. StopsInPieceHere c limit (file_of events first.files) (new.left Events)) has.accepts
            (subst (λ t. StopsInPieceHere judged limit t (new.left Events)) text (subst (StopsInPieceHere judged limit (mid.left Events)) (sym (ap (λ f. f Events) kept.left)) stops));
      }

-- the text that explains was written as far as the host took it
pub explanation_written : (program : Program) (history : List Heard) (text made : List ℕ) (old new : Told) (status : Status) → made ≡ text → IsExplanation program history text → WritesText made old new status → WritesExplanation program history old new status
explanation_written program history text made old new Done is explained wrote = (made, subst (IsExplanation program history) (sym is) explained, wrote)
explanation_written program history text made old new WriteFault is explained wrote = (wrote.0, (made, subst (IsExplanation program history) (sym is) explained, wrote.1))
explanation_written program history text made old new Memory is explained wrote = absurd wrote
explanation_written program history text made old new Usage is explained wrote = wrote
explanation_written program history text made old new (BadQuery line why) is explained wrote = absurd wrote
explanation_written program history text made old new (Cycle names) is explained wrote = absurd wrote
explanation_written program history text made old new (BadEvent line why) is explained wrote = absurd wrote
explanation_written program history text made old new (OutOfOrder line at seen) is explained wrote = absurd wrote
explanation_written program history text made old new (AttachFault side) is explained wrote = absurd wrote
explanation_written program history text made old new (ReadFault side) is explained wrote = absurd wrote
explanation_written program history text made old new (TooMuch most) is explained wrote = absurd wrote
explanation_written program history text made old new (BadControl line why) is explained wrote = absurd wrote
