-- The tests of a session, once more bytes have come, and at the end of the text.
use Rattle.std.proofs.Common.{◌≡◌, ◌∙◌, sym, ap, subst, ℕ, ◌+◌, ◌-◌, ◌≤◌, Bool, true, false, List, ◌++◌, [], take, append-nil, arith}
use Rattle.event_csv.specs.Fed.{unread_lines}
use Rattle.semantics.specs.Histories.{Event}
use Rattle.courses.specs.Course.{Course, Moment}
use Rattle.courses.specs.QuerySet.{QuerySet}
use Rattle.session.specs.Feeds.{within_limit}
use Rattle.session.specs.RunWork.{course_work, work_in}
use Rattle.session.specs.SessionView.{SessionStandsFor, SessionView}
use Rattle.session.specs.TestsLeft.{tests_left}
use Rattle.session.proofs.ReadingLemmas.{same_left}
use Rattle.session.proofs.RunWorkLemmas.{tests_left_after}
use Rattle.session.proofs.SessionLemmas.{closed_longer, cut_within, events_so_far, later, moment_is, now_at, parts, so_far}

module _ (session : SessionView) (set : QuerySet) (past : Course) (text : List ℕ) (stands : SessionStandsFor session set past text) (old new : ℕ) where
  abbrev at : Moment
  at = now_at session set past text stands

  abbrev events : List Event
  events = events_so_far session set past text stands

  -- what is left of the closings is what the epochs ask for that the later bytes close
  stays : (piece : List ℕ) (ended : Bool) → new ≤ old + tests_left at ended (later session set past text stands piece ended) events
      → new + work_in set past text false ≤ old + work_in set past (text ++ piece) ended
  stays piece ended few =
      let lines = later session set past text stands piece ended in
      let same = ap (λ m. tests_left m ended lines events) (moment_is session set past text stands) in
      let all = tests_left_after set ended lines (so_far session set past text stands) (parts session set past text stands) in
      let closed = ap (course_work set) (closed_longer session set past text stands piece ended) in
      omega (arith, few, same, all, closed)

  -- the same of a piece, whose bytes within the limit are heard
  pub feeds_within : (piece within : List ℕ) → within ≡ take (session.limit - session.fed) piece
      → new ≤ old + tests_left at false (later session set past text stands within false) events
      → new + work_in set past text false ≤ old + work_in set past (within_limit session (text ++ piece)) false
  feeds_within piece within cut few =
      let counted = stands.counted in
      let heard : text ++ within ≡ take session.limit (text ++ piece) =
      ap (λ bytes. text ++ bytes) (cut ∙ ap (λ n. take (session.limit - n) piece) counted) ∙ sym (cut_within text piece session.limit stands.within) in
      subst (λ (bytes : List ℕ). new + work_in set past text false ≤ old + work_in set past bytes false) heard (stays within false few)

  -- the same of the end of the text
  pub finishes_within : new ≤ old + tests_left at true (unread_lines session.feed true) events → new + work_in set past text false ≤ old + work_in set past text true
  finishes_within few =
      let same = ap (λ ls. tests_left at true ls events) (same_left session.feed true) in
      subst (λ (bytes : List ℕ). new + work_in set past text false ≤ old + work_in set past bytes true) (append-nil text) (stays [] true (omega (arith, few, same)))
