-- From the table of the statuses of a run of the generator's texts to what its answers say.
use Rattle.std.proofs.Common.{◌≡◌, ◌∙◌, sym, ap, refl, ℕ, List, true, Option, Some, None, length, take, arith}
use Rattle.std.proofs.lemmas.List.{take_all}
use Rattle.std.proofs.lemmas.Bool.{le-leb}
use Rattle.cay_host.specs.Told.{Told}
use Rattle.catalogue.specs.Judgement.{Accepted, Refused, Circle, Judged}
use Rattle.load_texts.specs.EventText.{event_text}
use Rattle.load_texts.specs.QueryText.{query_text}
use Rattle.courses.specs.declared.refusal.Refusal.{Refusal}
use Rattle.courses.specs.declared.refusal.Refusal.TheVariants.{HasFault, HasControlFault, IsOutOfOrder}
use Rattle.courses.specs.QuerySet.{set_of}
use Rattle.courses.specs.Reports.{refused_in}
use Rattle.cayuga_run.specs.declared.status.Status.{Status}
use Rattle.cayuga_run.specs.declared.status.Status.TheVariants.{Done, Usage, BadQuery, Cycle, BadEvent, OutOfOrder, AttachFault, ReadFault, WriteFault, TooMuch, Memory, BadControl}
use Rattle.cayuga_run.specs.Accepting.{IsAcceptedWith}
use Rattle.cayuga_run.specs.Expected.{IsExpectedOrFault, IsExpectedOrMemory, IsExpectedWhole, IsSteady, expected_after}
use Rattle.cayuga_run.specs.LoadOutcome.{LoadOutcome}
use Rattle.cayuga_run.specs.RunOutcome.{is_whole}
use Rattle.cayuga_run.specs.Works.{Load}
use Rattle.cayuga_run.proofs.RefusedLemmas.{Answered, accepted_answers, circle_text, free_answers, no_rise, refused_text}

-- the status that a whole event text asks for
expected_whole : (judged : Judged) (events : List ℕ) (refusal : Option Refusal) → refused_in (set_of judged) events true ≡ refusal
    → expected_after (length events) (refused_in (set_of judged) (take (length events) events) (is_whole (length events) events)) (is_whole (length events) events) ≡ expected_after (length events) refusal true
expected_whole judged events refusal e =
    let most = length events in
    ap (λ b. expected_after most (refused_in (set_of judged) (take most events) b) b) (le-leb most most (omega arith))
    ∙ ap (λ t. expected_after most (refused_in (set_of judged) t true) true) (take_all most events (omega arith))
    ∙ ap (λ r. expected_after most r true) e

-- the accepted texts ask for it
asked_whole : (load : Load) (status : Status) (P : Judged → Type 0)
    → ((judged : Judged) → P judged → (refusal : Option Refusal) × (refused_in (set_of judged) (event_text load.seed load.events) true ≡ refusal) × (status ≡ expected_after (length (event_text load.seed load.events)) refusal true))
    → IsAcceptedWith (query_text load.events) P → IsExpectedWhole (query_text load.events) (event_text load.seed load.events) status
asked_whole load status P f h =
    let found = f h.judged h.holds in
    record { verdict = Accepted h.judged; judged = h.accepts; value = found.2 ∙ sym (expected_whole h.judged (event_text load.seed load.events) found.0 found.1) }

-- the status, where the texts decide it
pub load_decided : (load : Load) (old new : Told) (status : Status) → LoadOutcome load old new status
    → IsExpectedOrFault (IsExpectedWhole (query_text load.events) (event_text load.seed load.events)) status
load_decided load old new Done o = asked_whole load Done _ (λ judged h. (None, h.1.none_refused, refl)) o
load_decided load old new Usage o = absurd o.0
load_decided load old new (BadQuery line why) o = record { verdict = Refused line why; judged = o.0; value = refl }
load_decided load old new (Cycle names) o = record { verdict = Circle names; judged = o.0; value = refl }
load_decided load old new (BadEvent line why) o = asked_whole load (BadEvent line why) _ (λ judged h. (Some (HasFault line why), h, refl)) o.0
load_decided load old new (OutOfOrder line at seen) o = asked_whole load (OutOfOrder line at seen) _ (λ judged h. (Some (IsOutOfOrder line at seen), h, refl)) o.0
load_decided load old new (BadControl line why) o = asked_whole load (BadControl line why) _ (λ judged h. (Some (HasControlFault line why), h, refl)) o.0
load_decided load old new (AttachFault side) o = tt
load_decided load old new (ReadFault side) o = tt
load_decided load old new WriteFault o = tt
load_decided load old new (TooMuch most) o = absurd o.0
load_decided load old new Memory o = tt

-- the answer where the query text is refused
pub load_refused_by : (load : Load) (old new : Told) (status : Status) → LoadOutcome load old new status → Answered status (query_text load.events)
load_refused_by load old new Done o = accepted_answers (query_text load.events) Done _ o
load_refused_by load old new Usage o = absurd o.0
load_refused_by load old new (BadQuery line why) o = refused_text (Some (query_text load.events)) line why o.0
load_refused_by load old new (Cycle names) o = circle_text (Some (query_text load.events)) names o.0
load_refused_by load old new (BadEvent line why) o = accepted_answers (query_text load.events) (BadEvent line why) _ o.0
load_refused_by load old new (OutOfOrder line at seen) o = accepted_answers (query_text load.events) (OutOfOrder line at seen) _ o.0
load_refused_by load old new (BadControl line why) o = accepted_answers (query_text load.events) (BadControl line why) _ o.0
load_refused_by load old new (AttachFault side) o = absurd o.0
load_refused_by load old new (ReadFault side) o = absurd o.0
load_refused_by load old new WriteFault o = accepted_answers (query_text load.events) WriteFault _ o.1
load_refused_by load old new (TooMuch most) o = absurd o.0
load_refused_by load old new Memory o = free_answers (Some (query_text load.events)) Memory (λ asked. tt)

-- the status, where no call of the host failed
pub load_complete_by : (load : Load) (old new : Told) (status : Status) → LoadOutcome load old new status → IsSteady old new
    → IsExpectedOrMemory (IsExpectedWhole (query_text load.events) (event_text load.seed load.events)) status
load_complete_by load old new Done o st = load_decided load old new Done o
load_complete_by load old new Usage o st = absurd o.0
load_complete_by load old new (BadQuery line why) o st = load_decided load old new (BadQuery line why) o
load_complete_by load old new (Cycle names) o st = load_decided load old new (Cycle names) o
load_complete_by load old new (BadEvent line why) o st = load_decided load old new (BadEvent line why) o
load_complete_by load old new (OutOfOrder line at seen) o st = load_decided load old new (OutOfOrder line at seen) o
load_complete_by load old new (BadControl line why) o st = load_decided load old new (BadControl line why) o
load_complete_by load old new (AttachFault side) o st = absurd o.0
load_complete_by load old new (ReadFault side) o st = absurd o.0
load_complete_by load old new WriteFault o st = absurd (no_rise _ _ o.0 st.write st.write_below)
load_complete_by load old new (TooMuch most) o st = absurd o.0
load_complete_by load old new Memory o st = tt
