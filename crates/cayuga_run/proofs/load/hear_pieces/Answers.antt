use Rattle.std.proofs.Common.{[], false, subst, sym, ◌∙◌, arith}
use Rattle.cay_host.specs.TallyHost.{tally_told}
use Rattle.catalogue.specs.Holding.{judged_in}
use Rattle.courses.specs.QuerySet.{set_of}
use Rattle.cayuga_run.specs.LoadHearing.{HearsText}
use Rattle.cayuga_run.proofs.LoadLemmas.{fails_as, heard_no_text, heard_text_more, hears_text, less_left, none_failed, none_left, piece_and_rest, stops_at_text_end, stops_in_text, text_tests, text_tests_at_end, text_tests_at_piece, text_tests_more}
use Rattle.cayuga_run.proofs.TestsLemmas.{rises_not}
use Rattle.cayuga_run.proofs.load.hear_pieces.Goals as goal

-- nothing is heard before the first piece
pub pieces-init : goal.pieces-init
unfolding heard_no_text
pieces-init g c = (
  heard_no_text (set_of (judged_in c.args.session.now.catalogue)) c.args.text.now c.args.session.now (tally_told c.args.tally.now) c.requires.stands c.requires.limit,
  rises_not (set_of (judged_in c.args.session.now.catalogue)) [] false c.args.steps.now,
)

-- there was no memory for a piece
pub returns-in-Err-clause-tests : goal.returns-in-Err-clause-tests
returns-in-Err-clause-tests g c = text_tests c.pieces.invariant.0 c.args.steps.now c.pieces.steps c.pieces.invariant.1

-- the events have ended
pub returns-in-Ok-finish-clause-hears : goal.returns-in-Ok-finish-clause-hears
returns-in-Ok-finish-clause-hears g c =
    let h = c.pieces.invariant.0 in
    let none = none_left c.pieces.text c.as_slice-bytes.result.now (c.as_slice-bytes.ensures.value ∙ c.in-Ok.ensures.piece) c.if-size-eq0.true in
    hears_text h none c.finish.new.self (c.in-Ok-finish.ensures.finished (set_of (judged_in c.args.session.now.catalogue)) [] h.bytes h.stands)

pub returns-in-Ok-finish-clause-tests : goal.returns-in-Ok-finish-clause-tests
returns-in-Ok-finish-clause-tests g c =
    let h = c.pieces.invariant.0 in
    let none = none_left c.pieces.text c.as_slice-bytes.result.now (c.as_slice-bytes.ensures.value ∙ c.in-Ok.ensures.piece) c.if-size-eq0.true in
    text_tests_at_end h none c.args.steps.now c.pieces.steps c.finish.new.steps c.pieces.invariant.1 c.finish.ensures.tests

pub returns-in-Err-finish-clause-hears : goal.returns-in-Err-finish-clause-hears
returns-in-Err-finish-clause-hears g c =
    let set = set_of (judged_in c.args.session.now.catalogue) in
    let h = c.pieces.invariant.0 in
    let none = none_left c.pieces.text c.as_slice-bytes.result.now (c.as_slice-bytes.ensures.value ∙ c.in-Ok.ensures.piece) c.if-size-eq0.true in
    let fault = c.in-Err-finish.fault in
    let after = c.finish.new.self in
    subst (HearsText set c.args.text.now after (tally_told c.args.tally.now) (tally_told c.finish.new.host)) (sym c.status_of.ensures)
    (fails_as set c.args.text.now after (tally_told c.args.tally.now) (tally_told c.finish.new.host) fault
    (stops_at_text_end h none (tally_told c.finish.new.host) after (none_failed c.pieces.tally) (none_failed c.finish.new.host) fault (c.in-Err-finish.ensures.finished (set_of (judged_in c.args.session.now.catalogue)) [] h.bytes h.stands)))

pub returns-in-Err-finish-clause-tests : goal.returns-in-Err-finish-clause-tests
returns-in-Err-finish-clause-tests g c =
    let h = c.pieces.invariant.0 in
    let none = none_left c.pieces.text c.as_slice-bytes.result.now (c.as_slice-bytes.ensures.value ∙ c.in-Ok.ensures.piece) c.if-size-eq0.true in
    text_tests_at_end h none c.args.steps.now c.pieces.steps c.finish.new.steps c.pieces.invariant.1 c.finish.ensures.tests

-- one piece more was heard
pub pieces-preserved : goal.pieces-preserved
unfolding heard_text_more
pieces-preserved g c =
    let h = c.pieces.invariant.0 in
    let piece = c.as_slice-bytes.result.now in
    let rest = c.next_piece.new.self in
    let cut = piece_and_rest c.pieces.text piece rest (c.as_slice-bytes.ensures.value ∙ c.in-Ok.ensures.piece) c.in-Ok.ensures.rest in
    let short = c.requires.short in (
      heard_text_more h piece rest cut c.feed.new.self (c.in-Ok-feed.ensures.fed (set_of (judged_in c.args.session.now.catalogue)) [] h.bytes h.stands) c.feed.ensures.limit,
      text_tests_more h piece rest cut short c.args.steps.now c.pieces.steps c.feed.new.steps c.pieces.invariant.1 c.feed.ensures.tests,
    )

pub pieces-smaller : goal.pieces-smaller
pieces-smaller g c =
    let some = c.if-size-eq0.false in
    less_left c.pieces.text c.as_slice-bytes.result.now c.next_piece.new.self (c.as_slice-bytes.ensures.value ∙ c.in-Ok.ensures.piece) c.in-Ok.ensures.rest (omega (arith, some))

-- the session stopped at a piece
pub returns-in-Err-feed-clause-hears : goal.returns-in-Err-feed-clause-hears
returns-in-Err-feed-clause-hears g c =
    let set = set_of (judged_in c.args.session.now.catalogue) in
    let h = c.pieces.invariant.0 in
    let piece = c.as_slice-bytes.result.now in
    let rest = c.next_piece.new.self in
    let cut = piece_and_rest c.pieces.text piece rest (c.as_slice-bytes.ensures.value ∙ c.in-Ok.ensures.piece) c.in-Ok.ensures.rest in
    let short = c.requires.short in
    let fault = c.in-Err-feed.fault in
    let after = c.feed.new.self in
    subst (HearsText set c.args.text.now after (tally_told c.args.tally.now) (tally_told c.feed.new.host)) (sym c.status_of-in-Err-feed.ensures)
    (fails_as set c.args.text.now after (tally_told c.args.tally.now) (tally_told c.feed.new.host) fault
    (stops_in_text h piece rest cut short (tally_told c.feed.new.host) (none_failed c.pieces.tally) (none_failed c.feed.new.host) fault (c.in-Err-feed.ensures.broken (set_of (judged_in c.args.session.now.catalogue)) [] h.bytes h.stands)))

pub returns-in-Err-feed-clause-tests : goal.returns-in-Err-feed-clause-tests
returns-in-Err-feed-clause-tests g c =
    let h = c.pieces.invariant.0 in
    let piece = c.as_slice-bytes.result.now in
    let rest = c.next_piece.new.self in
    let cut = piece_and_rest c.pieces.text piece rest (c.as_slice-bytes.ensures.value ∙ c.in-Ok.ensures.piece) c.in-Ok.ensures.rest in
    let short = c.requires.short in
    text_tests_at_piece h piece rest cut short c.args.steps.now c.pieces.steps c.feed.new.steps c.pieces.invariant.1 c.feed.ensures.tests
