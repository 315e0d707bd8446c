-- From the table of the statuses of a run to what its answers say.
use Rattle.std.proofs.Common.{◌≡◌, ◌∙◌, sym, ap, refl, ℕ, ◌<◌, ◌≤◌, List, true, false, Option, Some, None, IfSome, is_none, length, take, arith}
use Rattle.std.proofs.lemmas.List.{take_all}
use Rattle.std.proofs.lemmas.Bool.{le-leb}
use Rattle.std.proofs.lemmas.Bool.Decides.{nat_tests}
use Rattle.cay_host.specs.declared.side.Side.TheVariants.{Queries, Events}
use Rattle.cay_host.specs.Files.{Files, file_of, find_file, lacks}
use Rattle.cay_host.specs.Told.{Told}
use Rattle.catalogue.specs.Judgement.{Accepted, Refused, Circle, Judged, Refuses, Circles}
use Rattle.courses.specs.QuerySet.{set_of}
use Rattle.courses.specs.Reports.{refused_in}
use Rattle.cayuga_run.specs.declared.status.Status.{Status}
use Rattle.cayuga_run.specs.declared.status.Status.TheVariants.{Done, Usage, BadQuery, Cycle, BadEvent, OutOfOrder, AttachFault, ReadFault, WriteFault, TooMuch, Memory, BadControl}
use Rattle.cayuga_run.specs.Accepting.{IsAcceptedWith}
use Rattle.cayuga_run.specs.Expected.{expected_after, IsExpected, IsExpectedOrFault, IsExpectedOrMemory, IsSteady}
use Rattle.cayuga_run.specs.Refusing.{OfQueries}
use Rattle.cayuga_run.specs.RunOutcome.{AreThere, OfFiles, RunOutcome, is_whole}
use Rattle.cayuga_run.specs.Works.{Run}
use Rattle.cayuga_run.proofs.RefusedLemmas.{Answered, accepted_answers, circle_text, for_some, free_answers, no_rise, refused_text}

-- a claim on both files from another
pub of_files : (a b : Option (List ℕ)) (P Q : List ℕ → List ℕ → Type 0) → ((q e : List ℕ) → P q e → Q q e) → IfSome a (λ q. IfSome b (P q)) → IfSome a (λ q. IfSome b (Q q))
of_files None b P Q f h = tt
of_files (Some q) None P Q f h = tt
of_files (Some q) (Some e) P Q f h = f q e h

pub of_queries : (a b : Option (List ℕ)) (P : List ℕ → Type 0) (Q : List ℕ → List ℕ → Type 0) → ((q e : List ℕ) → P q → Q q e) → IfSome a P → IfSome a (λ q. IfSome b (Q q))
of_queries None b P Q f h = tt
of_queries (Some q) None P Q f h = tt
of_queries (Some q) (Some e) P Q f h = f q e h

pub of_none : (a b : Option (List ℕ)) (Q : List ℕ → List ℕ → Type 0) → ((q e : List ℕ) → Q q e) → IfSome a (λ q. IfSome b (Q q))
of_none None b Q f = tt
of_none (Some q) None Q f = tt
of_none (Some q) (Some e) Q f = f q e

-- a status that an accepted text asks for
asked : (status : Status) (text : List ℕ) (limit : ℕ) (events : List ℕ) (P : Judged → Type 0)
    → ((c : Judged) → P c → status ≡ expected_after limit (refused_in (set_of c) (take limit events) (is_whole limit events)) (is_whole limit events)) → IsAcceptedWith text P → IsExpected limit text events status
asked status text limit events P f h = record { verdict = Accepted h.judged; judged = h.accepts; value = f h.judged h.holds }

pub whole_is : (limit : ℕ) (events : List ℕ) → length events ≤ limit → is_whole limit events ≡ true
whole_is limit events few = le-leb (length events) limit few

pub long_is : (limit : ℕ) (events : List ℕ) → limit < length events → is_whole limit events ≡ false
long_is limit events long = grind (arith, nat_tests, long)

-- the status, where the texts decide it
pub decided : (run : Run) (limit : ℕ) (old new : Told) (status : Status) → RunOutcome run limit old new status → OfFiles run old (λ queries events. IsExpectedOrFault (IsExpected limit queries events) status)
decided run limit old new Done o =
    of_files _ _ _ _ (λ q e. asked Done q limit e _
    (λ c h. sym (ap (λ b. expected_after limit (refused_in (set_of c) (take limit e) b) b) (whole_is limit e h.0) ∙ ap (λ t. expected_after limit (refused_in (set_of c) t true) true) (take_all limit e h.0) ∙ ap (λ r. expected_after limit r true) h.1))) o.text
decided run limit old new Usage o = absurd o
decided run limit old new (BadQuery line why) o =
    of_queries (file_of run.queries old.files) (file_of run.events old.files) (λ q. Refuses q line why) (λ q e. IsExpected limit q e (BadQuery line why))
    (λ q e h. record { verdict = Refused line why; judged = h; value = refl }) o.refused
decided run limit old new (Cycle names) o =
    of_queries (file_of run.queries old.files) (file_of run.events old.files) (λ q. Circles q names) (λ q e. IsExpected limit q e (Cycle names))
    (λ q e h. record { verdict = Circle names; judged = h; value = refl }) o.circles
decided run limit old new (BadEvent line why) o =
    of_files _ _ _ _ (λ q e. asked (BadEvent line why) q limit e _ (λ c h. sym (ap (λ r. expected_after limit r (is_whole limit e)) h.0))) o.text
decided run limit old new (OutOfOrder line at seen) o =
    of_files _ _ _ _ (λ q e. asked (OutOfOrder line at seen) q limit e _ (λ c h. sym (ap (λ r. expected_after limit r (is_whole limit e)) h.0))) o.text
decided run limit old new (AttachFault side) o = of_none _ _ _ (λ q e. tt)
decided run limit old new (ReadFault side) o = of_none _ _ _ (λ q e. tt)
decided run limit old new WriteFault o = of_none _ _ _ (λ q e. tt)
decided run limit old new (TooMuch most) o =
    of_files _ _ _ _ (λ q e. asked (TooMuch most) q limit e _
    (λ c h. ap TooMuch o.0 ∙ sym (ap (λ b. expected_after limit (refused_in (set_of c) (take limit e) b) b) (long_is limit e h.0) ∙ ap (λ r. expected_after limit r false) h.1))) o.1.text
decided run limit old new (BadControl line why) o =
    of_files _ _ _ _ (λ q e. asked (BadControl line why) q limit e _ (λ c h. sym (ap (λ r. expected_after limit r (is_whole limit e)) h.0))) o.text
decided run limit old new Memory o = of_none _ _ _ (λ q e. tt)

-- where the query file is told and both files are there, both are told
both_told : (run : Run) (files : Option Files) (P : List ℕ → List ℕ → Type 0) → lacks run.events files ≡ false → IfSome (file_of run.queries files) (λ q. IfSome (file_of run.events files) (P q))
    → IfSome (file_of run.queries files) (λ q. (e : List ℕ) × P q e)
both_told run None P there h = tt
both_told run (Some files) P there h = cases (find_file run.queries files) (find_file run.events files) there h
  where
    cases : (a b : Option (List ℕ)) → is_none b ≡ false → IfSome a (λ q. IfSome b (P q)) → IfSome a (λ q. (e : List ℕ) × P q e)
    cases None b there h = tt
    cases (Some q) None there h = cc
    cases (Some q) (Some e) there h = (e, h)

-- both files are there and the query text is accepted
pub accepted_files : (run : Run) (old : Told) (status : Status) (P : List ℕ → Judged → Type 0) → AreThere run old
    → OfFiles run old (λ q e. IsAcceptedWith q (P e)) → OfQueries run.queries old (Answered status)
accepted_files run old status P there h =
    for_some (file_of run.queries old.files) (λ q. (e : List ℕ) × IsAcceptedWith q (P e)) (Answered status)
    (λ q p. accepted_answers q status (P p.0) p.1) (both_told run old.files (λ q e. IsAcceptedWith q (P e)) there.events h)

-- the answer where the query text is refused
pub refused_by : (run : Run) (limit : ℕ) (old new : Told) (status : Status) → RunOutcome run limit old new status → OfQueries run.queries old (Answered status)
refused_by run limit old new Done o = accepted_files run old Done _ o.there o.text
refused_by run limit old new Usage o = absurd o
refused_by run limit old new (BadQuery line why) o = refused_text (file_of run.queries old.files) line why o.refused
refused_by run limit old new (Cycle names) o = circle_text (file_of run.queries old.files) names o.circles
refused_by run limit old new (BadEvent line why) o = accepted_files run old (BadEvent line why) _ o.there o.text
refused_by run limit old new (OutOfOrder line at seen) o = accepted_files run old (OutOfOrder line at seen) _ o.there o.text
refused_by run limit old new (AttachFault Queries) o = free_answers (file_of run.queries old.files) (AttachFault Queries) (λ asked. tt)
refused_by run limit old new (AttachFault Events) o =
    for_some (file_of run.queries old.files) (λ q. IsAcceptedWith q (λ c. Unit {0})) (Answered (AttachFault Events))
    (λ q h. accepted_answers q (AttachFault Events) (λ c. Unit {0}) h) (o.accepted refl).1
refused_by run limit old new (ReadFault Queries) o = free_answers (file_of run.queries old.files) (ReadFault Queries) (λ asked. tt)
refused_by run limit old new (ReadFault Events) o = let stopped = o.events refl in accepted_files run old (ReadFault Events) _ stopped.there stopped.text
refused_by run limit old new WriteFault o = accepted_files run old WriteFault _ o.there o.text
refused_by run limit old new (TooMuch most) o = accepted_files run old (TooMuch most) _ o.1.there o.1.text
refused_by run limit old new (BadControl line why) o = accepted_files run old (BadControl line why) _ o.there o.text
refused_by run limit old new Memory o = free_answers (file_of run.queries old.files) Memory (λ asked. tt)

-- the status, where no call of the host failed
pub complete_by : (run : Run) (limit : ℕ) (old new : Told) (status : Status) → RunOutcome run limit old new status → IsSteady old new → AreThere run old
    → OfFiles run old (λ queries events. IsExpectedOrMemory (IsExpected limit queries events) status)
complete_by run limit old new Done o st there = decided run limit old new Done o
complete_by run limit old new Usage o st there = absurd o
complete_by run limit old new (BadQuery line why) o st there = decided run limit old new (BadQuery line why) o
complete_by run limit old new (Cycle names) o st there = decided run limit old new (Cycle names) o
complete_by run limit old new (BadEvent line why) o st there = decided run limit old new (BadEvent line why) o
complete_by run limit old new (OutOfOrder line at seen) o st there = decided run limit old new (OutOfOrder line at seen) o
complete_by run limit old new (AttachFault Queries) o st there = absurd (no_rise _ _ (o.cause there.queries) st.attach st.attach_below)
complete_by run limit old new (AttachFault Events) o st there = absurd (no_rise _ _ (o.cause there.events) st.attach st.attach_below)
complete_by run limit old new (ReadFault side) o st there = absurd (no_rise _ _ o.cause st.read st.read_below)
complete_by run limit old new WriteFault o st there = absurd (no_rise _ _ o.cause st.write st.write_below)
complete_by run limit old new (TooMuch most) o st there = decided run limit old new (TooMuch most) o
complete_by run limit old new (BadControl line why) o st there = decided run limit old new (BadControl line why) o
complete_by run limit old new Memory o st there = of_none _ _ _ (λ q e. tt)
