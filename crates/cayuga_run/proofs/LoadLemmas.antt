-- What each piece of the generator's events leaves of their hearing.
use Rattle.std.proofs.Common.{◌≡◌, ◌≢◌, ◌∙◌, sym, ap, refl, subst, ℕ, ◌+◌, ◌-◌, ◌^◌, ◌<◌, ◌≤◌, List, [], ◌∷◌, ◌++◌, Some, Ok, Err, false, true, length, take, drop, length-append, length-drop, length-take, append_assoc, append-nil, arith}
use Rattle.std.proofs.lemmas.List.{take_all, take-append-drop}
use Rattle.cay_host.specs.Output.{Wrote}
use Rattle.cay_host.specs.TallyHost.{tally_told}
use Rattle.cay_host.specs.Told.{Told}
use Rattle.cay_host.specs.declared.tally_host.TallyHost.{TallyHost}
use Rattle.cay_host.proofs.OutputLemmas.{Wrote-nil}
use Rattle.courses.specs.declared.refusal.Refusal.{Refusal}
use Rattle.courses.specs.declared.refusal.Refusal.TheVariants.{HasFault, HasControlFault, IsOutOfOrder}
use Rattle.courses.specs.QuerySet.{QuerySet}
use Rattle.courses.specs.Reports.{course_report, refused_in, report_of_closed}
use Rattle.session.specs.declared.fault.SessionFault.{SessionFault}
use Rattle.session.specs.declared.fault.SessionFault.TheVariants as fault
use Rattle.session.specs.Feeds.{Feeds, Finishes, StopsAtPiece}
use Rattle.session.specs.RunWork.{FeedsWithin, FinishesWithin}
use Rattle.session.specs.SessionView.{SessionStandsFor, SessionView}
use Rattle.cayuga_run.specs.declared.status.Status.{Status}
use Rattle.cayuga_run.specs.declared.status.Status.TheVariants.{Done, Usage, BadQuery, Cycle, BadEvent, OutOfOrder, AttachFault, ReadFault, WriteFault, TooMuch, Memory, BadControl}
use Rattle.cayuga_run.specs.HearingOutcome.{status_of}
use Rattle.cayuga_run.specs.LoadHearing.{FailsHearing, HearsText, HearsWhole}
use Rattle.cayuga_run.specs.Reports.{report_of_heard}
use Rattle.cayuga_run.specs.Tests.{RisesWithin, TestsOfText}
use Rattle.cayuga_run.proofs.EndLemmas.{closed_is_heard}
use Rattle.cayuga_run.proofs.GrowingLemmas.{more_bytes}
use Rattle.cayuga_run.proofs.HearingLemmas.{nothing_closed}
use Rattle.cayuga_run.proofs.RefusedLemmas.{no_rise}
use Rattle.cayuga_run.proofs.TestsLemmas.{rises_more}
use Rattle.cayuga_run.proofs.WroteLemmas.{wrote_beyond}

-- so much of an event text was heard that this is left: the session stands for it, and the report of the epochs that it closes was written
pub record HasHeardText (set : QuerySet) (text left : List ℕ) (session : SessionView) (old now : Told) : Type 0 where
  pub bytes : List ℕ
  pub front : text ≡ bytes ++ left
  pub stands : SessionStandsFor session set [] bytes
  pub most : session.limit ≡ 2 ^ 64 - 1
  pub wrote : Wrote (report_of_closed set bytes false) old now

-- nothing was heard yet
unfoldable pub heard_no_text : (set : QuerySet) (text : List ℕ) (session : SessionView) (told : Told) → SessionStandsFor session set [] [] → session.limit ≡ 2 ^ 64 - 1
    → HasHeardText set text text session told told
heard_no_text set text session told stands most = record {
  bytes = [];
  front = refl;
  stands = stands;
  most = most;
  wrote = subst (λ t. Wrote t told told) (sym (nothing_closed set)) (Wrote-nil told);
}

module _ {set : QuerySet} {text left : List ℕ} {session : SessionView} {old now : Told} (h : HasHeardText set text left session old now) (piece rest : List ℕ) (cut : left ≡ piece ++ rest) where
  -- the piece stands behind what was heard
  pub both : text ≡ (h.bytes ++ piece) ++ rest
  both = h.front ∙ ap (λ bytes. h.bytes ++ bytes) cut ∙ sym (append_assoc h.bytes piece rest)

  -- one piece more was heard
  unfoldable pub heard_text_more : {next : Told} (after : SessionView) → Feeds after set [] h.bytes piece now next → after.limit ≡ session.limit → HasHeardText set text rest after old next
  heard_text_more {next} after feeds keeps = record {
    bytes = h.bytes ++ piece;
    front = both;
    stands = feeds.stands;
    most = keeps ∙ h.most;
    wrote = wrote_beyond h.wrote feeds.wrote;
  }

  module _ (short : length text ≤ 2 ^ 64 - 1) where
    few : length (h.bytes ++ piece) ≤ session.limit
    few =
        let size = ap length both ∙ length-append (h.bytes ++ piece) rest in
        let most = h.most in
        omega (arith, size, most, short)

    all_within : take session.limit (h.bytes ++ piece) ≡ h.bytes ++ piece
    all_within = take_all session.limit (h.bytes ++ piece) few

    -- a refusal at the piece is that of the whole text
    refused_text : (refusal : Refusal) → refused_in set (take session.limit (h.bytes ++ piece)) false ≡ Some refusal → refused_in set text true ≡ Some refusal
    refused_text refusal e =
        let here = subst (λ (bytes : List ℕ). refused_in set bytes false ≡ Some refusal) all_within e in
        ap (λ t. refused_in set t true) both ∙ (more_bytes set (h.bytes ++ piece) rest true refusal here).0

    -- why the session stopped at the piece, where no write failed
    pub stops_in_text : (next : Told) → now.write_faults ≡ 0 → next.write_faults ≡ 0 → (fault : SessionFault) → StopsAtPiece session set [] h.bytes piece now next fault → FailsHearing set text (status_of fault)
    stops_in_text next none none_then (fault.Refused (HasFault line why)) s = refused_text (HasFault line why) s.0
    stops_in_text next none none_then (fault.Refused (HasControlFault line why)) s = refused_text (HasControlFault line why) s.0
    stops_in_text next none none_then (fault.Refused (IsOutOfOrder line at seen)) s = refused_text (IsOutOfOrder line at seen) s.0
    stops_in_text next none none_then (fault.TooMuch most) s = absurd (let past = s.1 in let most = few in omega (arith, past, most))
    stops_in_text next none none_then fault.WriteFault s = absurd (no_rise now.write_faults next.write_faults s.0 (none_then ∙ sym none) (omega (arith, none)))
    stops_in_text next none none_then fault.Memory s = tt

    module _ (first before after : ℕ) (rises : RisesWithin set h.bytes false first before) (feeds : FeedsWithin session piece before after) where
      -- the tests by the piece
      pub text_tests_more : RisesWithin set (h.bytes ++ piece) false first after
      text_tests_more =
          subst (λ (bytes : List ℕ). RisesWithin set bytes false first after) all_within (rises_more set first before after (λ bytes. take session.limit (bytes ++ piece)) false h.stands rises feeds)

      -- as those of a front of the text
      pub text_tests_at_piece : TestsOfText set text first after
      text_tests_at_piece =
          let size = ap length both ∙ length-append (h.bytes ++ piece) rest in (
            rest,
            record {
              taken = h.bytes ++ piece;
              ended = false;
              front = ap Some both;
              whole = λ e. cc;
              within = subst (λ (bytes : List ℕ). RisesWithin set bytes false first after) (sym (take_all (length text) (h.bytes ++ piece) (omega (arith, size)))) text_tests_more;
            },
          )

module _ {set : QuerySet} {text left : List ℕ} {session : SessionView} {old now : Told} (h : HasHeardText set text left session old now) where
  size : length text ≡ length h.bytes + length left
  size = ap length h.front ∙ length-append h.bytes left

  -- the tests of what was heard, as those of a front of the text
  pub text_tests : (first before : ℕ) → RisesWithin set h.bytes false first before → TestsOfText set text first before
  text_tests first before rises = (
    left,
    record {
      taken = h.bytes;
      ended = false;
      front = ap Some h.front;
      whole = λ e. cc;
      within = subst (λ (bytes : List ℕ). RisesWithin set bytes false first before) (sym (take_all (length text) h.bytes (let sum = size in omega (arith, sum)))) rises;
    },
  )

  module _ (none : left ≡ []) where
    all : text ≡ h.bytes
    all = h.front ∙ ap (λ rest. h.bytes ++ rest) none ∙ append-nil h.bytes

    -- the text was heard to its end
    pub hears_text : {next : Told} (after : SessionView) → Finishes after set [] h.bytes now next (Ok tt) → HearsText set text after old next Done
    hears_text {next} after s =
        let reported : report_of_closed set h.bytes true ≡ report_of_heard set h.bytes = ap (course_report set) (closed_is_heard set h.bytes s.0) in
        subst (λ (t : List ℕ). HearsWhole set t after old next) (sym all) (record {
          none_refused = s.0;
          wrote = subst (λ (t : List ℕ). Wrote t old next) reported (wrote_beyond h.wrote s.1);
          finished = s.2;
        })

    ended_text : (refusal : Refusal) → refused_in set h.bytes true ≡ Some refusal → refused_in set text true ≡ Some refusal
    ended_text refusal e = ap (λ t. refused_in set t true) all ∙ e

    -- why the session stopped at its end, where no write failed
    pub stops_at_text_end : (next : Told) (after : SessionView) → now.write_faults ≡ 0 → next.write_faults ≡ 0 → (fault : SessionFault) → Finishes after set [] h.bytes now next (Err fault) → FailsHearing set text (status_of fault)
    stops_at_text_end next after none_now none_then (fault.Refused (HasFault line why)) s = ended_text (HasFault line why) s.0
    stops_at_text_end next after none_now none_then (fault.Refused (HasControlFault line why)) s = ended_text (HasControlFault line why) s.0
    stops_at_text_end next after none_now none_then (fault.Refused (IsOutOfOrder line at seen)) s = ended_text (IsOutOfOrder line at seen) s.0
    stops_at_text_end next after none_now none_then (fault.TooMuch most) s = absurd s
    stops_at_text_end next after none_now none_then fault.WriteFault s = absurd (no_rise now.write_faults next.write_faults s.0 (none_then ∙ sym none_now) (omega (arith, none_now)))
    stops_at_text_end next after none_now none_then fault.Memory s = tt

    -- the tests of the whole text
    pub text_tests_at_end : (first before after : ℕ) → RisesWithin set h.bytes false first before → FinishesWithin session before after → TestsOfText set text first after
    text_tests_at_end first before after rises finishes =
        let whole = rises_more set first before after (λ bytes. bytes) true h.stands rises finishes in (
          [],
          record {
            taken = text;
            ended = true;
            front = ap Some (sym (append-nil text));
            whole = λ e. (omega arith, refl);
            within = subst (λ (bytes : List ℕ). RisesWithin set bytes true first after) (sym (take_all (length text) text (omega arith) ∙ all)) whole;
          },
        )

-- a failed hearing has the status of a session's fault
pub fails_as : (set : QuerySet) (text : List ℕ) (after : SessionView) (old next : Told) (fault : SessionFault) → FailsHearing set text (status_of fault) → HearsText set text after old next (status_of fault)
fails_as set text after old next (fault.Refused (HasFault line why)) f = f
fails_as set text after old next (fault.Refused (HasControlFault line why)) f = f
fails_as set text after old next (fault.Refused (IsOutOfOrder line at seen)) f = f
fails_as set text after old next (fault.TooMuch most) f = absurd f
fails_as set text after old next fault.WriteFault f = absurd f
fails_as set text after old next fault.Memory f = f

-- where a hearing didn't reach the end of the text, its status says why
pub fails_unless_done : (set : QuerySet) (text : List ℕ) (session : SessionView) (old new : Told) (status : Status) → HearsText set text session old new status → status ≢ Done → FailsHearing set text status
fails_unless_done set text session old new Done hears other = absurd (other refl)
fails_unless_done set text session old new Usage hears other = hears
fails_unless_done set text session old new (BadQuery line why) hears other = hears
fails_unless_done set text session old new (Cycle names) hears other = hears
fails_unless_done set text session old new (BadEvent line why) hears other = hears
fails_unless_done set text session old new (OutOfOrder line at seen) hears other = hears
fails_unless_done set text session old new (AttachFault side) hears other = hears
fails_unless_done set text session old new (ReadFault side) hears other = hears
fails_unless_done set text session old new WriteFault hears other = hears
fails_unless_done set text session old new (TooMuch most) hears other = hears
fails_unless_done set text session old new Memory hears other = hears
fails_unless_done set text session old new (BadControl line why) hears other = hears

-- a host that counts lines never failed to write
pub none_failed : (host : TallyHost) → (tally_told host).write_faults ≡ 0
unfolding tally_told
none_failed host = refl

-- a piece and what is left behind it
pub piece_and_rest : (text piece rest : List ℕ) → piece ≡ take 4096 text → rest ≡ drop 4096 text → text ≡ piece ++ rest
piece_and_rest text piece rest first behind = rw (first, behind) (sym (take-append-drop 4096 text))

-- no piece is left only at the end
pub none_left : (text piece : List ℕ) → piece ≡ take 4096 text → length piece ≡ 0 → text ≡ []
none_left [] piece first empty = refl
none_left (byte ∷ bytes) piece first empty = absurd (let cut = length-take 4096 (byte ∷ bytes) in let size = ap length first in omega (arith, cut, size, empty))

-- less is left behind a piece
pub less_left : (text piece rest : List ℕ) → piece ≡ take 4096 text → rest ≡ drop 4096 text → 0 < length piece → length rest < length text
less_left text piece rest first behind some =
    let cut = length-take 4096 text in
    let size = ap length first in
    let left = ap length behind ∙ length-drop 4096 text in
    omega (arith, cut, size, left, some)
