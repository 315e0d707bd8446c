-- From the table of the statuses of a writing to what its answers say.
use Rattle.std.proofs.Common.{◌≡◌, refl, subst, ℕ, List, false}
use Rattle.cay_host.specs.declared.side.Side.TheVariants.{Queries, Events}
use Rattle.cay_host.specs.Files.{file_of, lacks}
use Rattle.cay_host.specs.Output.{Wrote, WrotePart}
use Rattle.cay_host.specs.Told.{Told}
use Rattle.catalogue.specs.Judgement.{Accepted, Refused, Circle, Judged, Refuses, Circles}
use Rattle.catalogue.proofs.VerdictLemmas.{one_verdict}
use Rattle.cayuga_run.specs.declared.status.Status.{Status}
use Rattle.cayuga_run.specs.declared.status.Status.TheVariants.{Done, Usage, BadQuery, Cycle, BadEvent, OutOfOrder, AttachFault, ReadFault, WriteFault, TooMuch, Memory, BadControl}
use Rattle.cayuga_run.specs.Accepting.{IsAcceptedWith}
use Rattle.cayuga_run.specs.Expected.{expected_writing, IsExpectedOrFault, IsExpectedOrMemory, IsExpectedWriting, IsSteady}
use Rattle.cayuga_run.specs.Refusing.{OfQueries}
use Rattle.cayuga_run.specs.Works.{Writing}
use Rattle.cayuga_run.specs.WritingOutcome.{WritingOutcome}
use Rattle.cayuga_run.proofs.RefusedLemmas.{Answered, accepted_answers, all_some, circle_text, for_some, free_answers, no_rise, refused_text}

-- the status of a writing, where its queries are accepted
written_is : (queries : List ℕ) (P : Judged → Type 0) → IsAcceptedWith queries P → IsExpectedWriting queries Done
written_is queries P h v judged = subst (λ w. Done ≡ expected_writing w) (one_verdict queries (Accepted h.judged) v h.accepts judged) refl

-- the status of a writing, where the query text decides it
pub writing_decided : (writing : Writing) (old new : Told) (status : Status) → WritingOutcome writing old new status → OfQueries writing.queries old (λ queries. IsExpectedOrFault (IsExpectedWriting queries) status)
writing_decided writing old new Done o =
    for_some (file_of writing.queries old.files) (λ q. IsAcceptedWith q (λ c. Wrote (writing.text_of c) old new)) (λ q. IsExpectedWriting q Done) (λ q h. written_is q _ h) o.text
writing_decided writing old new Usage o = absurd o
writing_decided writing old new (BadQuery line why) o =
    for_some (file_of writing.queries old.files) (λ q. Refuses q line why) (λ q. IsExpectedWriting q (BadQuery line why))
    (λ q h v judged. subst (λ w. BadQuery line why ≡ expected_writing w) (one_verdict q (Refused line why) v h judged) refl) o.refused
writing_decided writing old new (Cycle names) o =
    for_some (file_of writing.queries old.files) (λ q. Circles q names) (λ q. IsExpectedWriting q (Cycle names))
    (λ q h v judged. subst (λ w. Cycle names ≡ expected_writing w) (one_verdict q (Circle names) v h judged) refl) o.circles
writing_decided writing old new (BadEvent line why) o = absurd o
writing_decided writing old new (BadControl line why) o = absurd o
writing_decided writing old new (OutOfOrder line at seen) o = absurd o
writing_decided writing old new (AttachFault side) o = all_some (file_of writing.queries old.files) (λ q. tt)
writing_decided writing old new (ReadFault side) o = all_some (file_of writing.queries old.files) (λ q. tt)
writing_decided writing old new WriteFault o = all_some (file_of writing.queries old.files) (λ q. tt)
writing_decided writing old new (TooMuch most) o = absurd o
writing_decided writing old new Memory o = all_some (file_of writing.queries old.files) (λ q. tt)

-- the answer of a writing where the query text is refused
pub writing_refused_by : (writing : Writing) (old new : Told) (status : Status) → WritingOutcome writing old new status → OfQueries writing.queries old (Answered status)
writing_refused_by writing old new Done o =
    for_some (file_of writing.queries old.files) (λ q. IsAcceptedWith q (λ c. Wrote (writing.text_of c) old new)) (Answered Done) (λ q h. accepted_answers q Done _ h) o.text
writing_refused_by writing old new Usage o = absurd o
writing_refused_by writing old new (BadQuery line why) o = refused_text (file_of writing.queries old.files) line why o.refused
writing_refused_by writing old new (Cycle names) o = circle_text (file_of writing.queries old.files) names o.circles
writing_refused_by writing old new (BadEvent line why) o = absurd o
writing_refused_by writing old new (BadControl line why) o = absurd o
writing_refused_by writing old new (OutOfOrder line at seen) o = absurd o
writing_refused_by writing old new (AttachFault Queries) o = free_answers (file_of writing.queries old.files) (AttachFault Queries) (λ asked. tt)
writing_refused_by writing old new (AttachFault Events) o = cc
writing_refused_by writing old new (ReadFault Queries) o = free_answers (file_of writing.queries old.files) (ReadFault Queries) (λ asked. tt)
writing_refused_by writing old new (ReadFault Events) o = cc
writing_refused_by writing old new WriteFault o =
    for_some (file_of writing.queries old.files) (λ q. IsAcceptedWith q (λ c. WrotePart (writing.text_of c) old new)) (Answered WriteFault) (λ q h. accepted_answers q WriteFault _ h) o.text
writing_refused_by writing old new (TooMuch most) o = absurd o
writing_refused_by writing old new Memory o = free_answers (file_of writing.queries old.files) Memory (λ asked. tt)

-- the status of a writing, where no call of the host failed
pub writing_complete_by : (writing : Writing) (old new : Told) (status : Status) → WritingOutcome writing old new status → IsSteady old new → lacks writing.queries old.files ≡ false
    → OfQueries writing.queries old (λ queries. IsExpectedOrMemory (IsExpectedWriting queries) status)
writing_complete_by writing old new Done o st there = writing_decided writing old new Done o
writing_complete_by writing old new Usage o st there = absurd o
writing_complete_by writing old new (BadQuery line why) o st there = writing_decided writing old new (BadQuery line why) o
writing_complete_by writing old new (Cycle names) o st there = writing_decided writing old new (Cycle names) o
writing_complete_by writing old new (BadEvent line why) o st there = absurd o
writing_complete_by writing old new (BadControl line why) o st there = absurd o
writing_complete_by writing old new (OutOfOrder line at seen) o st there = absurd o
writing_complete_by writing old new (AttachFault side) o st there = absurd (no_rise _ _ (o.1.cause there) st.attach st.attach_below)
writing_complete_by writing old new (ReadFault side) o st there = absurd (no_rise _ _ o.1.cause st.read st.read_below)
writing_complete_by writing old new WriteFault o st there = absurd (no_rise _ _ o.cause st.write st.write_below)
writing_complete_by writing old new (TooMuch most) o st there = absurd o
writing_complete_by writing old new Memory o st there = all_some (file_of writing.queries old.files) (λ q. tt)
