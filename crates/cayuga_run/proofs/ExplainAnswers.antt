-- From the table of the statuses of an explaining to what its answers say.
use Rattle.std.proofs.Common.{◌≡◌, ◌∙◌, sym, ap, refl, ℕ, List, true, false, take}
use Rattle.std.proofs.lemmas.List.{take_all}
use Rattle.cay_host.specs.declared.side.Side.TheVariants.{Queries, Events}
use Rattle.cay_host.specs.Files.{file_of}
use Rattle.cay_host.specs.Told.{Told}
use Rattle.catalogue.specs.Judgement.{Accepted, Refused, Circle, Judged, Refuses, Circles}
use Rattle.cayuga_run.specs.declared.status.Status.{Status}
use Rattle.cayuga_run.specs.declared.status.Status.TheVariants.{Done, Usage, BadQuery, Cycle, BadEvent, OutOfOrder, AttachFault, ReadFault, WriteFault, TooMuch, Memory, BadControl}
use Rattle.cayuga_run.specs.Accepting.{IsAcceptedWith}
use Rattle.cayuga_run.specs.Expected.{expected_after, IsExpectedExplaining, IsExpectedOrFault, IsExpectedOrMemory, IsSteady}
use Rattle.cayuga_run.specs.ExplainOutcome.{ExplainOutcome}
use Rattle.cayuga_run.specs.Here.{refused_here}
use Rattle.cayuga_run.specs.Refusing.{OfQueries}
use Rattle.cayuga_run.specs.RunOutcome.{AreThere, OfFiles, is_whole}
use Rattle.cayuga_run.specs.Works.{Explaining, as_run}
use Rattle.cayuga_run.proofs.RefusedLemmas.{Answered, accepted_answers, circle_text, for_some, free_answers, no_rise, refused_text}
use Rattle.cayuga_run.proofs.RunAnswers.{accepted_files, long_is, of_files, of_none, of_queries, whole_is}

-- a status that an accepted text asks for
asked : (status : Status) (text : List ℕ) (limit : ℕ) (events : List ℕ) (P : Judged → Type 0)
    → ((c : Judged) → P c → status ≡ expected_after limit (refused_here c (take limit events) (is_whole limit events)) (is_whole limit events)) → IsAcceptedWith text P → IsExpectedExplaining limit text events status
asked status text limit events P f h = record { verdict = Accepted h.judged; judged = h.accepts; value = f h.judged h.holds }

-- the status, where the texts decide it
pub explain_decided : (explaining : Explaining) (limit : ℕ) (old new : Told) (status : Status) → ExplainOutcome explaining limit old new status
    → OfFiles (as_run explaining) old (λ queries events. IsExpectedOrFault (IsExpectedExplaining limit queries events) status)
explain_decided explaining limit old new Done o =
    of_files _ _ _ _ (λ q e. asked Done q limit e _
    (λ c h. sym (ap (λ b. expected_after limit (refused_here c (take limit e) b) b) (whole_is limit e h.0) ∙ ap (λ t. expected_after limit (refused_here c t true) true) (take_all limit e h.0) ∙ ap (λ r. expected_after limit r true) h.1))) o.text
explain_decided explaining limit old new Usage o = absurd o
explain_decided explaining limit old new (BadQuery line why) o =
    of_queries (file_of explaining.queries old.files) (file_of explaining.events old.files) (λ q. Refuses q line why) (λ q e. IsExpectedExplaining limit q e (BadQuery line why))
    (λ q e h. record { verdict = Refused line why; judged = h; value = refl }) o.refused
explain_decided explaining limit old new (Cycle names) o =
    of_queries (file_of explaining.queries old.files) (file_of explaining.events old.files) (λ q. Circles q names) (λ q e. IsExpectedExplaining limit q e (Cycle names))
    (λ q e h. record { verdict = Circle names; judged = h; value = refl }) o.circles
explain_decided explaining limit old new (BadEvent line why) o =
    of_files _ _ _ _ (λ q e. asked (BadEvent line why) q limit e _ (λ c h. sym (ap (λ r. expected_after limit r (is_whole limit e)) h))) o.text
explain_decided explaining limit old new (OutOfOrder line at seen) o =
    of_files _ _ _ _ (λ q e. asked (OutOfOrder line at seen) q limit e _ (λ c h. sym (ap (λ r. expected_after limit r (is_whole limit e)) h))) o.text
explain_decided explaining limit old new (AttachFault side) o = of_none _ _ _ (λ q e. tt)
explain_decided explaining limit old new (ReadFault side) o = of_none _ _ _ (λ q e. tt)
explain_decided explaining limit old new WriteFault o = of_none _ _ _ (λ q e. tt)
explain_decided explaining limit old new (TooMuch most) o =
    of_files _ _ _ _ (λ q e. asked (TooMuch most) q limit e _
    (λ c h. ap TooMuch o.0 ∙ sym (ap (λ b. expected_after limit (refused_here c (take limit e) b) b) (long_is limit e h.0) ∙ ap (λ r. expected_after limit r false) h.1))) o.1.text
explain_decided explaining limit old new (BadControl line why) o =
    of_files _ _ _ _ (λ q e. asked (BadControl line why) q limit e _ (λ c h. sym (ap (λ r. expected_after limit r (is_whole limit e)) h))) o.text
explain_decided explaining limit old new Memory o = of_none _ _ _ (λ q e. tt)

-- the answer where the query text is refused
pub explain_refused_by : (explaining : Explaining) (limit : ℕ) (old new : Told) (status : Status) → ExplainOutcome explaining limit old new status → OfQueries explaining.queries old (Answered status)
explain_refused_by explaining limit old new Done o = accepted_files (as_run explaining) old Done _ o.there o.text
explain_refused_by explaining limit old new Usage o = absurd o
explain_refused_by explaining limit old new (BadQuery line why) o = refused_text (file_of explaining.queries old.files) line why o.refused
explain_refused_by explaining limit old new (Cycle names) o = circle_text (file_of explaining.queries old.files) names o.circles
explain_refused_by explaining limit old new (BadEvent line why) o = accepted_files (as_run explaining) old (BadEvent line why) _ o.there o.text
explain_refused_by explaining limit old new (OutOfOrder line at seen) o = accepted_files (as_run explaining) old (OutOfOrder line at seen) _ o.there o.text
explain_refused_by explaining limit old new (AttachFault Queries) o = free_answers (file_of explaining.queries old.files) (AttachFault Queries) (λ asked. tt)
explain_refused_by explaining limit old new (AttachFault Events) o =
    for_some (file_of explaining.queries old.files) (λ q. IsAcceptedWith q (λ c. Unit {0})) (Answered (AttachFault Events))
    (λ q h. accepted_answers q (AttachFault Events) (λ c. Unit {0}) h) (o.accepted refl).1
explain_refused_by explaining limit old new (ReadFault Queries) o = free_answers (file_of explaining.queries old.files) (ReadFault Queries) (λ asked. tt)
explain_refused_by explaining limit old new (ReadFault Events) o = let stopped = o.events refl in accepted_files (as_run explaining) old (ReadFault Events) _ stopped.there stopped.text
explain_refused_by explaining limit old new WriteFault o = accepted_files (as_run explaining) old WriteFault _ o.there o.text
explain_refused_by explaining limit old new (TooMuch most) o = accepted_files (as_run explaining) old (TooMuch most) _ o.1.there o.1.text
explain_refused_by explaining limit old new (BadControl line why) o = accepted_files (as_run explaining) old (BadControl line why) _ o.there o.text
explain_refused_by explaining limit old new Memory o = free_answers (file_of explaining.queries old.files) Memory (λ asked. tt)

-- the status, where no call of the host failed
pub explain_complete_by : (explaining : Explaining) (limit : ℕ) (old new : Told) (status : Status) → ExplainOutcome explaining limit old new status → IsSteady old new → AreThere (as_run explaining) old
    → OfFiles (as_run explaining) old (λ queries events. IsExpectedOrMemory (IsExpectedExplaining limit queries events) status)
explain_complete_by explaining limit old new Done o st there = explain_decided explaining limit old new Done o
explain_complete_by explaining limit old new Usage o st there = absurd o
explain_complete_by explaining limit old new (BadQuery line why) o st there = explain_decided explaining limit old new (BadQuery line why) o
explain_complete_by explaining limit old new (Cycle names) o st there = explain_decided explaining limit old new (Cycle names) o
explain_complete_by explaining limit old new (BadEvent line why) o st there = explain_decided explaining limit old new (BadEvent line why) o
explain_complete_by explaining limit old new (OutOfOrder line at seen) o st there = explain_decided explaining limit old new (OutOfOrder line at seen) o
explain_complete_by explaining limit old new (AttachFault Queries) o st there = absurd (no_rise _ _ (o.cause there.queries) st.attach st.attach_below)
explain_complete_by explaining limit old new (AttachFault Events) o st there = absurd (no_rise _ _ (o.cause there.events) st.attach st.attach_below)
explain_complete_by explaining limit old new (ReadFault side) o st there = absurd (no_rise _ _ o.cause st.read st.read_below)
explain_complete_by explaining limit old new WriteFault o st there = absurd (no_rise _ _ o.cause st.write st.write_below)
explain_complete_by explaining limit old new (TooMuch most) o st there = explain_decided explaining limit old new (TooMuch most) o
explain_complete_by explaining limit old new (BadControl line why) o st there = explain_decided explaining limit old new (BadControl line why) o
explain_complete_by explaining limit old new Memory o st there = of_none _ _ _ (λ q e. tt)
