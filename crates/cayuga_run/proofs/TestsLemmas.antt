-- How many conditions are tested at most, from piece to piece and from call to call.
use Rattle.std.proofs.Common.{◌≡◌, ◌∙◌, sym, ap, subst, refl, ℕ, ◌≤◌, List, [], ◌++◌, Bool, Option, IfSome, false, true, length, take, append-nil, arith}
use Rattle.std.proofs.lemmas.List.{take_all}
use Rattle.std.specs.Io.KnownBytes.{prepend_known}
use Rattle.cay_host.specs.declared.side.Side.TheVariants.{Events}
use Rattle.cay_host.specs.Attaching.{Attaches}
use Rattle.cay_host.specs.Files.{file_of}
use Rattle.cay_host.specs.Output.{SameButOutput}
use Rattle.cay_host.specs.Told.{Told}
use Rattle.catalogue.specs.Judgement.{Judged}
use Rattle.courses.specs.QuerySet.{QuerySet, set_of}
use Rattle.session.specs.RunWork.{FeedsWithin, FinishesWithin, StaysWithin}
use Rattle.session.specs.SessionView.{SessionStandsFor, SessionView}
use Rattle.cayuga_run.specs.Begun.{HasAccepted}
use Rattle.cayuga_run.specs.HearingOutcome.{HearsAlone}
use Rattle.cayuga_run.specs.Tests.{RisesWithin, TestsOfRun, TestsOfTaken}
use Rattle.cayuga_run.proofs.HearingLemmas.{HasHeard, HasTaken, cut_whole, front_written, heard_within, nil_after}
use Rattle.cayuga_run.proofs.ReadingLemmas.{accepted_as, both_ways}

-- no test was made
pub rises_not : (set : QuerySet) (text : List ℕ) (ended : Bool) (count : ℕ) → RisesWithin set text ended count count
rises_not set text ended count = omega arith

-- the tests of a session behind those that its text asks for
pub rises_more : (set : QuerySet) {session : SessionView} {bytes : List ℕ} (first before after : ℕ) (longer : List ℕ → List ℕ) (ended : Bool)
    → SessionStandsFor session set [] bytes → RisesWithin set bytes false first before → StaysWithin session longer ended before after → RisesWithin set (longer bytes) ended first after
rises_more set {session} {bytes} first before after longer ended stands rises stays =
    let more = stays set [] bytes stands in
    omega (arith, rises, more)

module _ {set : QuerySet} {limit : ℕ} {bytes piece : List ℕ} {session : SessionView} {old now : Told} (first before after : ℕ) (t : HasTaken set limit bytes piece session old now) (rises : RisesWithin set bytes false first before) where
  -- those of one piece more, within the limit
  rises_by_piece : FeedsWithin session piece before after → RisesWithin set (take limit (bytes ++ piece)) false first after
  rises_by_piece feeds =
      subst (λ (n : ℕ). RisesWithin set (take n (bytes ++ piece)) false first after) t.most (rises_more set first before after (λ text. take session.limit (text ++ piece)) false t.stands rises feeds)

  -- the piece was heard
  pub tests_more : length (bytes ++ piece) ≤ limit → FeedsWithin session piece before after → RisesWithin set (bytes ++ piece) false first after
  tests_more few feeds = subst (λ (text : List ℕ). RisesWithin set text false first after) (take_all limit (bytes ++ piece) few) (rises_by_piece feeds)

  -- the session stopped at it
  pub tests_at_piece : {next : Told} → SameButOutput now next → FeedsWithin session piece before after → TestsOfTaken set limit (old.left Events) (next.left Events) first after
  tests_at_piece same feeds = record { taken = bytes ++ piece; ended = false; front = front_written t same; whole = λ e. cc; within = rises_by_piece feeds }

  -- the text has ended
  pub tests_at_end : {next : Told} → SameButOutput now next → piece ≡ [] → IfSome (now.left Events) (λ rest. rest ≡ []) → FinishesWithin session before after
      → TestsOfTaken set limit (old.left Events) (next.left Events) first after
  tests_at_end same none nil finishes =
      let few : length (bytes ++ piece) ≤ limit =
      subst (λ (p : List ℕ). length (bytes ++ p) ≤ limit) (sym none) (subst (λ (text : List ℕ). length text ≤ limit) (sym (append-nil bytes)) (subst (λ (n : ℕ). length bytes ≤ n) t.most t.stands.within)) in record {
        taken = bytes ++ piece;
        ended = true;
        front = front_written t same;
        whole = λ e. (few, nil_after t same none nil);
        within = subst (λ (text : List ℕ). RisesWithin set text true first after) (cut_whole t same none nil) (rises_more set first before after (λ text. text) true t.stands rises finishes);
      }

-- a read failed
pub tests_at_read : {set : QuerySet} {limit taken : ℕ} {session : SessionView} {old now : Told} (next : Told) (first before : ℕ) (h : HasHeard set limit taken session old now) → RisesWithin set h.bytes false first before
    → next.left ≡ now.left → TestsOfTaken set limit (old.left Events) (next.left Events) first before
tests_at_read {set} {limit} {taken} {session} {old} {now} next first before h rises kept =
    let within = heard_within h in
    let counted = h.counted in record {
      taken = h.bytes;
      ended = false;
      front = h.front ∙ ap (λ f. prepend_known h.bytes (f Events)) (sym kept);
      whole = λ e. cc;
      within = subst (λ (text : List ℕ). RisesWithin set text false first before) (sym (take_all limit h.bytes (omega (arith, within, counted)))) rises;
    }

-- a write behind the hearing of the events takes no byte of them
pub tests_then_writes : {set : QuerySet} {limit : ℕ} {text : Option (List ℕ)} {b c : Told} {first after : ℕ} → TestsOfTaken set limit text (b.left Events) first after → SameButOutput b c
    → TestsOfTaken set limit text (c.left Events) first after
tests_then_writes {set} {limit} {text} {b} {c} {first} {after} tests same = subst (λ (rest : Option (List ℕ)). TestsOfTaken set limit text rest first after) (sym (ap (λ f. f Events) same.left)) tests

-- the events weren't attached
pub tests_nothing : (queries events : List ℕ) (limit count : ℕ) {old new : Told} → new.attached Events ≡ false → TestsOfRun queries events limit old new count count
tests_nothing queries events limit count free = record { unattached = λ e. refl; attached = λ e. both_ways e free }

-- the events were attached, and heard
pub tests_events : {queries : List ℕ} {judged : Judged} {old before mid new : Told} {first after : ℕ} (events : List ℕ) (limit : ℕ) → HasAccepted queries judged old before → Attaches Events events before mid → HearsAlone mid new
    → TestsOfTaken (set_of judged) limit (mid.left Events) (new.left Events) first after → TestsOfRun queries events limit old new first after
tests_events {queries} {judged} {old} {before} {mid} {new} {first} {after} events limit has attaches alone tests =
    let text : mid.left Events ≡ file_of events old.files = ap (λ f. f Events) attaches.left ∙ ap (file_of events) has.files in record {
      unattached = λ e. both_ways (ap (λ f. f Events) alone.attached ∙ ap (λ f. f Events) attaches.attached) e;
      attached = λ e. accepted_as (file_of queries old.files) judged (λ c. TestsOfTaken (set_of c) limit (file_of events old.files) (new.left Events) first after) has.accepts
          (subst (λ (file : Option (List ℕ)). TestsOfTaken (set_of judged) limit file (new.left Events) first after) text tests);
    }
